use Rattle.std.proofs.Common.{◌≡◌, ◌++◌, List, ℕ, sym, ap, subst, ◌∙◌, append_assoc, arith}
use Rattle.std.specs.Prelude.{OnOk}
use Rattle.sts_syntax.specs.TypedTrees.{TypedTree}
use Rattle.sts_syntax.specs.TypedViews.{typed_tree, typed_trees}
use Rattle.sts_syntax.specs.Weights.{weight_of, weights}
use Rattle.sts_syntax.proofs.Laws.{call_is, super_call_is, make_is, items_is, arguments_total, one_more}
use Rattle.sts_lower.specs.Code.{handler_of}
use Rattle.sts_lower.specs.Repeated.{repeated, repeated_each, repeated_by_call}
use Rattle.sts_lower.proofs.repeats.+repeats.Goals as goal

pub note-note_each-requires : goal.note-note_each-requires
note-note_each-requires t c =
    let w = ap weight_of (call_is c.args.e.now c.in-Call.callee c.in-Call.args c.in-Call.is) in
    let a = arguments_total c.in-Call.callee (weights (typed_trees c.in-Call.args)) in
    omega (arith, w, a, c.decreases, one_more c.in-Call.callee)

pub note-note_each-requires-in-SuperCall : goal.note-note_each-requires-in-SuperCall
note-note_each-requires-in-SuperCall t c =
    omega (arith, ap weight_of (super_call_is c.args.e.now c.in-SuperCall.field-0 c.in-SuperCall.args c.in-SuperCall.is), c.decreases)

pub note-note_each-requires-in-Make : goal.note-note_each-requires-in-Make
note-note_each-requires-in-Make t c = omega (arith, ap weight_of (make_is c.args.e.now c.in-Make.field-0 c.in-Make.args c.in-Make.is), c.decreases)

pub note-note_each-requires-in-Items : goal.note-note_each-requires-in-Items
note-note_each-requires-in-Items t c = omega (arith, ap weight_of (items_is c.args.e.now c.in-Items.items c.in-Items.is), c.decreases)

pub note-returns-in_ok-note_each-in-Call : goal.note-returns-in_ok-note_each-in-Call
note-returns-in_ok-note_each-in-Call t c =
    let f = c.in-Call.callee in
    let args = typed_trees c.in-Call.args in
    let handler : c.handler_of.result ≡ handler_of args = c.handler_of.ensures ∙ ap (λ xs. handler_of (typed_trees xs)) c.as_slice.ensures in
    let all : c.note_each.new.found ++ repeated_by_call f c.handler_of.result ≡ c.args.found.now ++ repeated (typed_tree c.args.e.now) =
    ap (λ xs. xs ++ repeated_by_call f c.handler_of.result) c.in_ok-note_each-in-Call.ensures
    ∙ append_assoc c.args.found.now (repeated_each args) (repeated_by_call f c.handler_of.result)
    ∙ ap (λ n. c.args.found.now ++ (repeated_each args ++ repeated_by_call f n)) handler
    ∙ ap (λ a. c.args.found.now ++ repeated a) (sym (call_is c.args.e.now f c.in-Call.args c.in-Call.is))
    in
    let P : List ℕ → Type 0 = λ xs. OnOk c.note_call.result (c.note_call.new.found ≡ xs) in
    subst P all c.note_call.ensures

pub note-returns-in-SuperCall : goal.note-returns-in-SuperCall
note-returns-in-SuperCall t c =
    let P : TypedTree → Type 0 = λ a. OnOk c.note_each-in-SuperCall.result (c.note_each-in-SuperCall.new.found ≡ c.args.found.now ++ repeated a) in
    subst P (sym (super_call_is c.args.e.now c.in-SuperCall.field-0 c.in-SuperCall.args c.in-SuperCall.is)) c.note_each-in-SuperCall.ensures

pub note-returns-in-Make : goal.note-returns-in-Make
note-returns-in-Make t c =
    let P : TypedTree → Type 0 = λ a. OnOk c.note_each-in-Make.result (c.note_each-in-Make.new.found ≡ c.args.found.now ++ repeated a) in
    subst P (sym (make_is c.args.e.now c.in-Make.field-0 c.in-Make.args c.in-Make.is)) c.note_each-in-Make.ensures

pub note-returns-in-Items : goal.note-returns-in-Items
note-returns-in-Items t c =
    let P : TypedTree → Type 0 = λ a. OnOk c.note_each-in-Items.result (c.note_each-in-Items.new.found ≡ c.args.found.now ++ repeated a) in
    subst P (sym (items_is c.args.e.now c.in-Items.items c.in-Items.is)) c.note_each-in-Items.ensures
