use Rattle.std.proofs.Common.{◌≡◌, ◌-◌, ◌+◌, ◌==◌, suc, false, length, sym, ◌∙◌, arith}
use Rattle.std.proofs.lemmas.Grind.{common_steps}
use Rattle.sts_scope.proofs.Chains.{reaches_step}
use Rattle.sts_scope.proofs.lookup.reaches.Goals as goal

pub loop-preserved : goal.loop-preserved
loop-preserved c =
    let m = length c.args.classes.now - c.loop.counter in
    let n = length c.args.classes.now - (c.loop.counter + 1) in
    let e : m ≡ suc n = omega arith in
    let f : (c.loop.at == c.args.n) ≡ false = grind (arith, common_steps) in
    reaches_step c.args.classes.now m n c.loop.at c.args.n c.in-Some.b e f (sym c.in-Some.ensures) ∙ c.loop.invariant
