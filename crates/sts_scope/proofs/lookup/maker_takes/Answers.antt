use Rattle.std.proofs.Common.{◌≡◌, ◌+◌, ◌-◌, suc, length, ◌∙◌, refl, arith}
use Rattle.std.proofs.lemmas.Option.{slice_get_read}
use Rattle.std.specs.Prelude.{slice_get, Some}
use Rattle.sts_scope.proofs.Chains.{maker_step}
use Rattle.sts_scope.proofs.lookup.maker_takes.Goals as goal

pub loop-preserved : goal.loop-preserved
loop-preserved c =
    let classes = c.args.classes.now in
    let m = length classes - c.loop.counter in
    let n = length classes - (c.loop.counter + 1) in
    let e : m ≡ suc n = omega arith in
    let h : slice_get classes c.loop.at ≡ Some c.in-Some.class.now = slice_get_read classes (length classes) c.loop.at c.in-Some.class.now refl (omega (arith, c.in-Some.ensures.lookup)) (grind (arith, c.in-Some.ensures.lookup)) in
    maker_step classes m n c.loop.at c.in-Some-base.b c.in-Some.class.now e h c.in-None-takes.is c.in-Some-base.is ∙ c.loop.invariant
