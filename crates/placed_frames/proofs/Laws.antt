-- What proofs of other crates cite: what a fiber sees and what instructions do to it, and words put into places; then lemmas.
pub use Rattle.placed_frames.proofs.View.{View, with_low, registers_of, bank_of, InFlash, InGlobals, InArena, ToGlobals, ToArena, Alters, Quiet, GetOwn, PutOwn, Get, GetAt, Put, PutAt, At}
pub use Rattle.placed_frames.proofs.Putting.{put, get, move, moved, IsRoom}
pub use Rattle.placed_frames.proofs.Accesses.{flash_fault, flash_load, sp_has, sp_stays}
pub use Rattle.placed_frames.proofs.Calls.{HasPushed, calls, pushed, puts, room}
pub use Rattle.placed_frames.proofs.Kept.{Shifted, four, frames_room, frames_shift, frames_small, frames_stay, value_set}
pub use Rattle.placed_frames.proofs.Plain.{Bm, at_view, does, least, quiet_does}
pub use Rattle.placed_frames.proofs.Puts.{move_incoming, move_room}
pub use Rattle.placed_frames.proofs.Registers.{filled_above, filled_at, filled_below, filled_length, get_at, get_length, get_words, kept_at, leaving, leaving_at, leaving_last, leaving_length, leaving_words, pop_is, push_is, run, run_length, run_listed}
pub use Rattle.placed_frames.proofs.Stack.{AllWords, Down, add_sp, get_from, move_down, move_up, pops_words, pushes_words, sub_sp}
