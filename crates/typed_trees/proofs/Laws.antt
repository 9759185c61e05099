-- Lemmas that other crates cite.
pub use Rattle.typed_trees.proofs.Functions.{put_behind, routine_built, routine_of, routines_append}
pub use Rattle.typed_trees.proofs.Listed.{drop_next, names_are, names_there, next_value, on_ok}
pub use Rattle.typed_trees.proofs.Made.{alone}
pub use Rattle.typed_trees.proofs.Nodes.{made_of}
pub use Rattle.typed_trees.proofs.Pieces.{drop_all, fits_first, fits_then, last, stays, taken_append, taken_many, then, then_if}
pub use Rattle.typed_trees.proofs.Runs.{StatementsGo, onto, statements_end, statements_step}
pub use Rattle.typed_trees.proofs.Values.{values_append}
