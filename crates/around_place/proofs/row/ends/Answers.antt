use Rattle.std.proofs.Common.{refl}
use Rattle.around_place.proofs.Ending.{IsOther, ends-next, ends-found, ends-nowhere}
use Rattle.around_place.proofs.row.ends.Goals as goal

pub loop-rest-preserved : goal.loop-rest-preserved
loop-rest-preserved c =
    let other : IsOther c.loop-rest.rest.now c.args.tests.now = λ words read h. cc ((c.loop-rest-test.ensures words read).1 h) in
    ends-next c.args.text.now c.loop-rest.rest.now _ _ c.args.tests.now c.loop-rest.invariant other c.in-Some.ensures.some

pub returns-in-None : goal.returns-in-None
returns-in-None c =
    let other : IsOther c.loop-rest.rest.now c.args.tests.now = λ words read h. cc ((c.loop-rest-test.ensures words read).1 h) in
    λ words read. (
      λ f. cc f,
      λ h. absurd (ends-nowhere c.args.text.now c.loop-rest.rest.now c.args.tests.now c.loop-rest.invariant other c.in-None.ensures.none words read h),
    )

pub returns : goal.returns
returns c = λ words read. (
  λ t. ends-found c.args.text.now c.loop-rest.rest.now c.args.tests.now c.loop-rest.invariant (λ w r. (c.loop-rest-test.ensures w r).0 refl) words read,
  λ h. refl,
)
