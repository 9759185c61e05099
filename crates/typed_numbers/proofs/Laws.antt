-- Lemmas that other crates cite.
pub use Rattle.typed_numbers.proofs.Listed.{block_is, call_is, items_is, let_is, make_is, super_call_is}
-- what the counted limits say of declarations
pub use Rattle.typed_numbers.proofs.Few.{few_classes, few_globals, few_fields, few_slots, few_behind}
