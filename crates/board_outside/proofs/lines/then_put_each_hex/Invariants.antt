use Rattle.std.proofs.Common.{◌++◌, List, ℕ}
use Rattle.std.specs.declared.option.Option.{Option}
use Rattle.tool_io.specs.Putting.{Puts}
use Rattle.bank_model.specs.Texts.{flash_bytes}
use Rattle.board_world.specs.Transcript.{hex_text}
use Rattle.board_outside.proofs.lines.then_put_each_hex.Given as goal

-- the digits so far have been put
abbrev pub invariant-loop-i : goal.invariant-loop-i
invariant-loop-i g l = (taken : Option (List ℕ)) (faults : ℕ) (text : List ℕ)
    → Puts taken (g.K.Sink.taken l.initial.out) faults (g.K.Sink.faults l.initial.out) text l.initial.put
    → Puts taken (g.K.Sink.taken l.out) faults (g.K.Sink.faults l.out) (text ++ hex_text (flash_bytes l.fn.machine.memory.flash l.i l.fn.at)) l.put
