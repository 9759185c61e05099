use Rattle.std.proofs.Common.{◌+◌, drop}
use Rattle.sts_syntax.specs.Views.{declarations}
use Rattle.typed_program.specs.Wholes as w
use Rattle.typed_program.proofs.Mains.{GlobalsGo}
use Rattle.typed_program.proofs.build_globals.build_globals.Given as goal

abbrev pub invariant-loop-i : goal.invariant-loop-i
invariant-loop-i l = GlobalsGo l.plan l.initial.builder (w.globals_made l.plan l.first (declarations l.each)) l.builder (l.first + l.i) (drop l.i l.each) l.made
