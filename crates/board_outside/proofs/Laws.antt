-- The laws that proofs of other crates cite.

-- moves one behind the other, on boards and at ports
pub use Rattle.board_outside.proofs.Moving.{seen_of-append, unplugged_of-append, port_moves-append, met_then, meets_nothing}
-- idle moves and a run go on to meet moves behind those that were met
pub use Rattle.board_outside.proofs.Meeting.{idles_meeting, goes_on_meeting}
-- the lines of observations behind others
pub use Rattle.board_outside.proofs.Moving.{lines-append}
