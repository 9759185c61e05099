-- What the code builds of any tree, also of one with failures: where something is missing, a value stands for it. No claim rests on it: of a tree without a failure it is what `Built` and
-- `Functions` say (`texts_without_a_failure_are_built` in crates/typed_laws).
pub mod Filling
pub mod Filled
