use Rattle.std.proofs.Common.{◌≡◌, ◌+◌, ◌<◌, ◌∷◌, List, Bool, true, length, drop, sym, ap, ◌∙◌, arith}
use Rattle.std.specs.List.{list_all}
use Rattle.std.specs.Prelude.{◌&&◌}
use Rattle.sts_syntax.specs.declared.typed.TypedBody.{TypedBody}
use Rattle.sts_syntax.specs.TypedViews.{typed_routine, typed_routines}
use Rattle.sts_syntax.specs.Weights.{routines_weight}
use Rattle.sts_syntax.specs.Nodes.{expressions_of, all_expressions}
use Rattle.sts_syntax.proofs.Laws.{drop_at}
use Rattle.typed_limits.specs.Limits.{routine_fits}
use Rattle.typed_limits.specs.declared.uses.Uses.{Uses}
use Rattle.typed_limits.specs.Uses.{noted}
use Rattle.typed_limits.proofs.Noting.{noted_append}
use Rattle.typed_limits.proofs.limits.fitting_weight.Goals as goal

pub loop-body-preserved : goal.loop-body-preserved
loop-body-preserved c =
    let items = c.args.bodies.now in
    let i = c.loop-body.body-index in
    let b = c.body-item.result in
    let lt : i < length items = omega (arith, c.loop-body-test.true) in
    let next : drop i items ≡ b ∷ drop (i + 1) items = drop_at items i b lt ∙ ap (λ (x : TypedBody). x ∷ drop (i + 1) items) (sym c.body-item.is) in
    let rest = typed_routines (drop (i + 1) items) in
    let fit : routine_fits (typed_routine b) ≡ true = sym c.if-not-routine_fits.ensures in
    record {
      fits = sym (ap (λ (f : Bool). f && list_all routine_fits rest) fit) ∙ sym (ap (λ (xs : List TypedBody). list_all routine_fits (typed_routines xs)) next) ∙ c.loop-body.invariant.fits;
      weight = (let w = ap (λ (xs : List TypedBody). routines_weight (typed_routines xs)) next in omega (arith, w, c.in_ok-weight.ensures.weight, c.saturating_add-sum.ensures, c.loop-body.invariant.weight));
      most = omega (arith, c.saturating_add-sum.ensures);
      uses = ap (λ (u : Uses). noted u (all_expressions rest)) c.in_ok-weight.ensures.uses
          ∙ sym (noted_append c.loop-body.uses (expressions_of (typed_routine b).all) (all_expressions rest))
          ∙ ap (λ (xs : List TypedBody). noted c.loop-body.uses (all_expressions (typed_routines xs))) (sym next)
          ∙ c.loop-body.invariant.uses;
    }
