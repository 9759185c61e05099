use Rattle.std.proofs.Common.{◌≡◌, take}
use Rattle.board_ports.specs.Counts.{some_more}
use Rattle.board_ports.specs.Logs.{Logs, at_moment}
use Rattle.board_ports.proofs.device.Device.write_bytes.Given as goal

-- the bytes so far were written, without a fault
abbrev pub invariant-loop-byte : goal.invariant-loop-byte
invariant-loop-byte g l =
    Logs (g.Self.Device.account l.initial.self).log (g.Self.Device.account l.self).log (at_moment l.fn.now (take l.byte-index l.bytes))
    × ((g.Self.Device.account l.self).faults ≡ (g.Self.Device.account l.initial.self).faults)
    × ((g.Self.Device.account l.self).writes ≡ some_more l.byte-index (g.Self.Device.account l.initial.self).writes)
