use Rattle.std.proofs.Common.{take, Ok}
use Rattle.tool_io.specs.declared.sink.PutFailed.{PutFailed}
use Rattle.tool_io.specs.Putting.{Puts}
use Rattle.class_radio.specs.Closing.{AreLed, last_line_of}
use Rattle.class_radio.proofs.Lining.{ends_of}
use Rattle.class_radio.proofs.closing.put_ends.Given as goal

abbrev pub invariant-loop-player : goal.invariant-loop-player
invariant-loop-player g l =
    AreLed 0 l.players
    → Puts {T = Unit {0}} {E = PutFailed} (g.K.Sink.taken l.initial.out) (g.K.Sink.taken l.out) (g.K.Sink.faults l.initial.out) (g.K.Sink.faults l.out)
    (ends_of (last_line_of l.by_script l.end l.latest) 0 (take l.player-index l.players)) (Ok tt)
