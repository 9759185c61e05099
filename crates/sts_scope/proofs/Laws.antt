-- Lemmas that other crates cite.
pub use Rattle.sts_scope.proofs.Lists.{drop_at, drop_end, position-append, number_fits}
pub use Rattle.sts_scope.proofs.Statements.{let_count, let_is}
pub use Rattle.sts_scope.proofs.Whole.{names-append, head_count, both_names, class_names_are_entries, class_names_are_items}
