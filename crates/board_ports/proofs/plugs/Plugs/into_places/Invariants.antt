use Rattle.std.proofs.Common.{List}
use Rattle.std.specs.Prelude.{Option}
use Rattle.board_ports.specs.History.{PortMove, FollowsMoves}
use Rattle.board_ports.proofs.History.{SettledBelow}
use Rattle.board_ports.proofs.plugs.Plugs.into_places.Given as goal

-- the ports so far have settled
abbrev pub invariant-loop-port : goal.invariant-loop-port
invariant-loop-port g l =
    SettledBelow g.D.Device.account g.D.Device.settled l.port l.initial.plugs l.plugs
    × ((moves : List PortMove) (start : List (Option g.row.D.Denot)) → FollowsMoves g.D.Device.account moves start l.initial.plugs → FollowsMoves g.D.Device.account moves start l.plugs)
