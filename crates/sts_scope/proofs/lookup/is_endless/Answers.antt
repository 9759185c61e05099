use Rattle.std.proofs.Common.{◌≡◌, ◌-◌, ◌+◌, suc, length, sym, ap, ◌∙◌, arith}
use Rattle.std.specs.Prelude.{is_some}
use Rattle.sts_scope.proofs.Chains.{above_step}
use Rattle.sts_scope.proofs.lookup.is_endless.Goals as goal

pub loop-preserved : goal.loop-preserved
loop-preserved c =
    let m = length c.args.classes.now - c.loop.counter in
    let n = length c.args.classes.now - (c.loop.counter + 1) in
    let e : m ≡ suc n = omega arith in
    ap is_some (above_step c.args.classes.now m n c.loop.at c.in-Some.b e (sym c.in-Some.ensures)) ∙ c.loop.invariant
