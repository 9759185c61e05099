-- The laws that proofs of other crates cite.

-- where somebody runs, or the run is over, the world that is shown makes no idle move
pub use Rattle.board_run.proofs.Finished.{settled_stays}
-- stretches of a run one behind the other, what nothing does, a line that was cut behind whole ones, and lines without a lead
pub use Rattle.board_run.proofs.Executing.{ports_then, advances_none, into_then, plain_lines}
-- who is ready in a world that a board shows, and when something comes to it next
pub use Rattle.board_run.proofs.Raises.{nobody_ready}
pub use Rattle.board_run.proofs.FiberGoesOn.{first_ready}
pub use Rattle.board_run.proofs.Stepping.{some_turning}
pub use Rattle.board_run.proofs.ThroughFirst.{mounted_busy}
pub use Rattle.board_run.proofs.AtMoment.{next_shown, none_up_to}
pub use Rattle.board_run.proofs.Through.{due_rising, rising_left}
-- a run behind which the devices settle: what they have met, and where its sink stopped it
pub use Rattle.board_run.proofs.Closed.{closed_over, devices_closed, cut_closed}
