-- Lemmas that other crates cite.
pub use Rattle.text_headings.proofs.Standing.{class_declared, failures_kept, failures_step, item_stands, member_room, rest_stands, room_left, text_declared}
