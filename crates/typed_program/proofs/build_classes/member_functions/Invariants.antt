use Rattle.std.proofs.Common.{◌≡◌, ◌++◌, drop, map}
use Rattle.typed_program.specs.Wholes as w
use Rattle.typed_program.proofs.build_classes.member_functions.Given as goal

abbrev pub invariant-loop-name : goal.invariant-loop-name
invariant-loop-name l = l.all ++ map (w.member_routine l.plan l.class) (drop l.name-index l.names) ≡ map (w.member_routine l.plan l.class) l.names
