use Rattle.std.proofs.Common.{◌≡◌, ◌+◌, ◌∷◌, ◌<◌, List, length, drop, sym, ap, subst, ◌∙◌, arith}
use Rattle.std.specs.Prelude.{OnOk}
use Rattle.sts_syntax.specs.declared.typed.TypedExpr.{TypedExpr}
use Rattle.sts_syntax.specs.TypedTrees.{TypedTree}
use Rattle.sts_syntax.specs.TypedViews.{typed_tree, typed_trees}
use Rattle.sts_syntax.specs.Nodes.{nodes, nodes_of}
use Rattle.sts_syntax.proofs.Laws.{drop_at, call_is, super_call_is, make_is, items_is}
use Rattle.typed_limits.specs.declared.uses.Uses.{Uses}
use Rattle.typed_limits.specs.Uses.{with_node, noted}
use Rattle.typed_limits.proofs.Noting.{noted_append}
use Rattle.typed_limits.proofs.uses.+uses.Goals as goal

pub note_each-loop-e-preserved : goal.note_each-loop-e-preserved
note_each-loop-e-preserved t c =
    let items = c.args.all.now in
    let i = c.loop-e.e-index in
    let e = c.e-item.result in
    let lt : i < length items = omega (arith, c.loop-e-test.true) in
    let next : drop i items ≡ e ∷ drop (i + 1) items = drop_at items i e lt ∙ ap (λ (x : TypedExpr). x ∷ drop (i + 1) items) (sym c.e-item.is) in
    let rest = nodes_of (typed_trees (drop (i + 1) items)) in
    ap (λ (u : Uses). noted u rest) c.in_ok-note_expression.ensures
    ∙ sym (noted_append c.loop-e.uses (nodes (typed_tree e)) rest)
    ∙ ap (λ (xs : List TypedExpr). noted c.loop-e.uses (nodes_of (typed_trees xs))) (sym next)
    ∙ c.loop-e.invariant

pub note_expression-returns-in-Call : goal.note_expression-returns-in-Call
note_expression-returns-in-Call t c =
    let is = call_is c.args.e.now c.in-Call.field-0 c.in-Call.args c.in-Call.is in
    let u = c.args.uses.now in
    let args = c.in-Call.args in
    let P : Uses → Type 0 = λ v. OnOk c.note_each.result (c.note_each.new.uses ≡ v) in
    subst P
    (ap (λ (xs : List TypedExpr). noted c.note.new.uses (nodes_of (typed_trees xs))) c.as_slice.ensures
    ∙ ap (λ (v : Uses). noted v (nodes_of (typed_trees args))) c.in_ok-note.ensures
    ∙ ap (λ (a : TypedTree). noted (with_node u a) (nodes_of (typed_trees args))) is
    ∙ ap (λ (a : TypedTree). noted u (nodes a)) (sym is)) c.note_each.ensures

pub note_expression-returns-in-SuperCall : goal.note_expression-returns-in-SuperCall
note_expression-returns-in-SuperCall t c =
    let is = super_call_is c.args.e.now c.in-SuperCall.field-0 c.in-SuperCall.args c.in-SuperCall.is in
    let u = c.args.uses.now in
    let args = c.in-SuperCall.args in
    let P : Uses → Type 0 = λ v. OnOk c.note_each-in-SuperCall.result (c.note_each-in-SuperCall.new.uses ≡ v) in
    subst P
    (ap (λ (xs : List TypedExpr). noted c.note.new.uses (nodes_of (typed_trees xs))) c.as_slice-in-SuperCall.ensures
    ∙ ap (λ (v : Uses). noted v (nodes_of (typed_trees args))) c.in_ok-note.ensures
    ∙ ap (λ (a : TypedTree). noted (with_node u a) (nodes_of (typed_trees args))) is
    ∙ ap (λ (a : TypedTree). noted u (nodes a)) (sym is)) c.note_each-in-SuperCall.ensures

pub note_expression-returns-in-Make : goal.note_expression-returns-in-Make
note_expression-returns-in-Make t c =
    let is = make_is c.args.e.now c.in-Make.field-0 c.in-Make.args c.in-Make.is in
    let u = c.args.uses.now in
    let args = c.in-Make.args in
    let P : Uses → Type 0 = λ v. OnOk c.note_each-in-Make.result (c.note_each-in-Make.new.uses ≡ v) in
    subst P
    (ap (λ (xs : List TypedExpr). noted c.note.new.uses (nodes_of (typed_trees xs))) c.as_slice-in-Make.ensures
    ∙ ap (λ (v : Uses). noted v (nodes_of (typed_trees args))) c.in_ok-note.ensures
    ∙ ap (λ (a : TypedTree). noted (with_node u a) (nodes_of (typed_trees args))) is
    ∙ ap (λ (a : TypedTree). noted u (nodes a)) (sym is)) c.note_each-in-Make.ensures

pub note_expression-returns-in-Items : goal.note_expression-returns-in-Items
note_expression-returns-in-Items t c =
    let is = items_is c.args.e.now c.in-Items.items c.in-Items.is in
    let u = c.args.uses.now in
    let args = c.in-Items.items in
    let P : Uses → Type 0 = λ v. OnOk c.note_each-in-Items.result (c.note_each-in-Items.new.uses ≡ v) in
    subst P
    (ap (λ (xs : List TypedExpr). noted c.note.new.uses (nodes_of (typed_trees xs))) c.as_slice-in-Items.ensures
    ∙ ap (λ (v : Uses). noted v (nodes_of (typed_trees args))) c.in_ok-note.ensures
    ∙ ap (λ (a : TypedTree). noted (with_node u a) (nodes_of (typed_trees args))) is
    ∙ ap (λ (a : TypedTree). noted u (nodes a)) (sym is)) c.note_each-in-Items.ensures
