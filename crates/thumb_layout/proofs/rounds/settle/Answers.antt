use Rattle.std.proofs.Common.{◌≡◌, ◌<◌, List, ℕ, ap, ◌∙◌, subst}
use Rattle.thumb_layout.specs.Rounds.{round, total, forms}
use Rattle.thumb_layout.specs.Placing.{IsPlaced}
use Rattle.thumb_layout.proofs.Growing.{settle_first, settle_next, settle_last, settle_smaller, is_false, is_true}
use Rattle.thumb_layout.proofs.rounds.settle.Goals as goal

pub loop-forms-init : goal.loop-forms-init
loop-forms-init c = settle_first c.args.pieces.now c.in_ok-forms.forms.items c.in_ok-forms.ensures

pub returns-then-not-next-clause-forms : goal.returns-then-not-next-clause-forms
returns-then-not-next-clause-forms c =
    settle_last c.args.pieces.now c.loop-forms.forms.items c.in_ok-next.next.forms.items c.loop-forms.invariant
    (c.in_ok-next.ensures.forms ∙ ap (round c.args.pieces.now) c.deref-in-loop-forms-2.ensures.value)
    (c.in_ok-next.ensures.same (is_false _ c.if-not-next.true) ∙ c.deref-in-loop-forms-2.ensures.value)

pub returns-then-not-next-clause-placed : goal.returns-then-not-next-clause-placed
returns-then-not-next-clause-placed c =
    let e : c.loop-forms.forms.items ≡ forms c.args.pieces.now = settle_last c.args.pieces.now c.loop-forms.forms.items c.in_ok-next.next.forms.items c.loop-forms.invariant
    (c.in_ok-next.ensures.forms ∙ ap (round c.args.pieces.now) c.deref-in-loop-forms-2.ensures.value)
    (c.in_ok-next.ensures.same (is_false _ c.if-not-next.true) ∙ c.deref-in-loop-forms-2.ensures.value) in
    subst (λ (q : List ℕ). IsPlaced c.args.pieces.now q c.in_ok-placed.placed) (c.deref.ensures.value ∙ e) c.in_ok-placed.ensures

pub loop-forms-smaller : goal.loop-forms-smaller
loop-forms-smaller c =
    settle_smaller c.args.pieces.now c.loop-forms.forms.items c.in_ok-next.next.forms.items c.loop-forms.invariant
    (c.in_ok-next.ensures.forms ∙ ap (round c.args.pieces.now) c.deref-in-loop-forms-2.ensures.value)
    (subst (λ (q : List ℕ). total q < total c.in_ok-next.next.forms.items) c.deref-in-loop-forms-2.ensures.value (c.in_ok-next.ensures.grown (is_true _ c.if-not-next.false)))

pub loop-forms-preserved : goal.loop-forms-preserved
loop-forms-preserved c =
    settle_next c.args.pieces.now c.loop-forms.forms.items c.in_ok-next.next.forms.items c.loop-forms.invariant
    (c.in_ok-next.ensures.forms ∙ ap (round c.args.pieces.now) c.deref-in-loop-forms-2.ensures.value)
