-- The laws that proofs of other crates cite.

-- how long the code of a tree is
pub use Rattle.lowered_code.proofs.Lengths.{size_positive, IsLong, AreLong, sizes_of, two_bare, return_length, parts_length, items_length, arguments_long, arguments_sizes, call_length, store_length, bump_length, parts_sizes, code_length, parts_long, reach_length, declared_length, test_length, step_length, statement_length, first_length, statements_length}
-- entries of lists
pub use Rattle.lowered_code.proofs.Entries.{entry_front, entry_behind, entry_past, entry_within}
-- well-typed programs are as lowering needs them
pub use Rattle.lowered_code.proofs.Typed.{well_typed_fine}
-- code names only its trees' texts, and its numbers have 32 bits
pub use Rattle.lowered_code.proofs.Named.{program_named, program_fits}
-- only parameters are live at entries
pub use Rattle.lowered_code.proofs.Starts.{program_starts}
