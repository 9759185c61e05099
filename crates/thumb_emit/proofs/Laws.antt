-- The laws that other crates cite.
pub use Rattle.thumb_emit.proofs.Once.{function_sound, function_words}
pub use Rattle.thumb_emit.proofs.Still.{brings_still, keeps_still, lands_still, still_takes}
pub use Rattle.thumb_emit.proofs.Within.{op_takes, op_fills, entry_takes, entry_fills, function_fills}
pub use Rattle.thumb_emit.proofs.Naming.{function_named, function_called, text_named}
pub use Rattle.thumb_emit.proofs.Joins.{joined_small}
pub use Rattle.thumb_emit.proofs.Joining.{Joins, joined_first, joined_after, joined_target, joined_parts, joined_unread}
