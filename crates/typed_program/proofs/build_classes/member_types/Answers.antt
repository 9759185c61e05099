use Rattle.std.proofs.Common.{◌≡◌, ◌+◌, ◌++◌, List, drop, map, sym, subst}
use Rattle.sts_syntax.specs.declared.types.Ty.{Ty}
use Rattle.sts_syntax.specs.Types as value
use Rattle.typed_program.specs.Wholes as w
use Rattle.typed_program.proofs.Classes.{next_mapped}
use Rattle.typed_program.proofs.build_classes.member_types.Goals as goal

pub loop-name-preserved : goal.loop-name-preserved
loop-name-preserved c =
    let f = w.member_kind c.args.plan.now c.args.class in
    let names = c.args.names.now in let i = c.loop-name.name-index in
    subst (λ (found : List Ty). value.value_types found ++ map f (drop (i + 1) names) ≡ map f names) (sym c.in_ok-push.ensures.ok)
    (next_mapped f names i c.loop-name.all c.member_type.result c.loop-name-test.true c.loop-name.invariant c.member_type.ensures)
