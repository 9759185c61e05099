-- The lemmas that proofs of other crates cite.

-- what is read is spelled
pub use Rattle.sts_grammar.proofs.Sound.{sound_expression, sound_statement}
-- the longest expression and statement, the one or none that there is, and what reads up to which end
pub use Rattle.sts_grammar.proofs.Unique.{EndsBy, ends_by_length, ends_by_none, longest_by, read_to_end, one_statement, no_statement}
-- where the next token binds less tightly, an expression goes on no further
pub use Rattle.sts_grammar.proofs.Turns.{climb_stop}
-- whole texts
pub use Rattle.sts_grammar.proofs.Programs.{what_is_read, nothing_is_read}
