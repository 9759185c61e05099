-- What the code builds of any text, also of one with failures: where something is missing, a value stands for it. No claim rests on it: of a text without a failure it is what
-- `Programs` and `Accepted` say (`texts_without_a_failure_are_built`).
pub mod FilledPrograms
pub mod FilledTexts
