use Rattle.std.proofs.Common.{◌++◌, List}
use Rattle.std.specs.declared.option.Option.{Option}
use Rattle.bank_model.specs.Texts.{flash_bytes}
use Rattle.board_ports.specs.History.{PortMove, words_sent, FollowsMoves}
use Rattle.board_outside.specs.Ports.{serial_port}
use Rattle.board_outside.proofs.sending.send_each.Given as goal

-- the bytes so far have been sent
abbrev pub invariant-loop-i : goal.invariant-loop-i
invariant-loop-i g l = (moves : List PortMove) (start : List (Option g.row.D.Denot)) → FollowsMoves g.D.Device.account moves start l.initial.plugs
    → FollowsMoves g.D.Device.account (moves ++ words_sent serial_port l.fn.now (flash_bytes l.fn.machine.memory.flash l.i l.fn.at)) start l.plugs
