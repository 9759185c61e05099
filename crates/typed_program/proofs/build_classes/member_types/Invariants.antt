use Rattle.std.proofs.Common.{◌≡◌, ◌++◌, drop, map}
use Rattle.sts_syntax.specs.Types as value
use Rattle.typed_program.specs.Wholes as w
use Rattle.typed_program.proofs.build_classes.member_types.Given as goal

abbrev pub invariant-loop-name : goal.invariant-loop-name
invariant-loop-name l = value.value_types l.all ++ map (w.member_kind l.plan l.class) (drop l.name-index l.names) ≡ map (w.member_kind l.plan l.class) l.names
