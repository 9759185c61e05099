-- Lemmas that other crates cite.
pub use Rattle.type_derive.proofs.Calling.{member_is, name_is}
pub use Rattle.type_derive.proofs.Evaluated.{none_if}
pub use Rattle.type_derive.proofs.Going.{typed_go, typed_go_to}
pub use Rattle.type_derive.proofs.Moves.{after_extends, closed, extends_to, further, stays}
pub use Rattle.type_derive.proofs.Opened.{block_is, call_is, items_is, make_is, super_call_is}
pub use Rattle.type_derive.proofs.ReturnsGrow.{rule_grows}
pub use Rattle.type_derive.proofs.Rounds.{least_has, types_exist}
