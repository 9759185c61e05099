-- The laws that other crates cite.
pub use Rattle.register_assign.proofs.Unreading.{unread_not_live, handled_not_live}
pub use Rattle.register_assign.proofs.Saving.{saves_each, saves_few}
