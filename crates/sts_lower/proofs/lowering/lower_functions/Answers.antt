use Rattle.std.proofs.Common.{ℕ, ◌+◌, ◌<◌, ◌++◌, ◌∷◌, [], List, length, drop, sym, ap, subst, ◌∙◌, append_assoc, append-nil, arith}
use Rattle.std.specs.List.{AllByRecursion}
use Rattle.std.proofs.lemmas.List.{drop_all}
use Rattle.sts_syntax.specs.declared.typed.TypedBody.{TypedBody}
use Rattle.sts_syntax.specs.TypedViews.{class_entries, typed_routine, typed_routines}
use Rattle.sts_syntax.proofs.Laws.{drop_at}
use Rattle.sts_lower.specs.Repeated.{before}
use Rattle.sts_lower.specs.inner.Works.{routine_of, routines_of}
use Rattle.sts_lower.specs.inner.Fitting.{IsLowerableRoutine}
use Rattle.sts_lower.proofs.Made.{routines_next}
use Rattle.sts_lower.proofs.lowering.lower_functions.Goals as goal

pub lower_routine-requires-clause-fits : goal.lower_routine-requires-clause-fits
lower_routine-requires-clause-fits c =
    let items = c.as_slice-body-items.result.now in
    let i = c.loop-body.body-index in
    let body = c.body-item.result in
    let lt : i < length items = omega arith in
    let P : List TypedBody → Type 0 = λ all. AllByRecursion IsLowerableRoutine (typed_routines all) in
    let Q : TypedBody → Type 0 = λ b. IsLowerableRoutine (typed_routine b) in
    subst Q (sym c.body-item.is) (subst P (drop_at items i body lt) c.loop-body.invariant.fits).0

pub loop-body-preserved : goal.loop-body-preserved
loop-body-preserved c =
    let classes = class_entries c.args.classes.now in
    let rep = λ (g : ℕ). c.len-functions.result + before c.args.repeated.now g in
    let items = c.as_slice-body-items.result.now in
    let i = c.loop-body.body-index in
    let f = c.loop-body.f in
    let body = c.body-item.result in
    let lt : i < length items = omega arith in
    let rest = routines_of classes rep (f + 1) (typed_routines (drop (i + 1) items)) in
    let made = c.in_ok-lower_routine.ensures ∙ ap (λ maker. routine_of classes rep maker (typed_routine body)) c.is_maker-maker.ensures in
    let P : List TypedBody → Type 0 = λ all. AllByRecursion IsLowerableRoutine (typed_routines all) in
    record {
      index = omega (arith, c.loop-body.invariant.index);
      all = ap (λ xs. xs ++ rest) c.in_ok-push.ensures.ok
          ∙ append_assoc c.loop-body.all (c.in_ok-lower_routine.field-0 ∷ []) rest
          ∙ ap (λ x. c.loop-body.all ++ x ∷ rest) made
          ∙ ap (λ xs. c.loop-body.all ++ xs) (sym (routines_next classes rep f items i body lt c.body-item.is))
          ∙ c.loop-body.invariant.all;
      fits = (subst P (drop_at items i body lt) c.loop-body.invariant.fits).1;
    }

pub returns : goal.returns
returns c =
    let classes = class_entries c.args.classes.now in
    let rep = λ (n g : ℕ). n + before c.args.repeated.now g in
    let items = c.as_slice-body-items.result.now in
    sym (append-nil c.loop-body.all)
    ∙ ap (λ xs. c.loop-body.all ++ routines_of classes (rep c.len-functions.result) c.loop-body.f (typed_routines xs)) (sym (drop_all c.loop-body.body-index items c.loop-body-test.false))
    ∙ c.loop-body.invariant.all
    ∙ ap (λ xs. routines_of classes (rep c.len-functions.result) 0 (typed_routines xs)) c.as_slice-body-items.ensures
    ∙ ap (λ n. routines_of classes (rep n) 0 (typed_routines c.args.bodies.now)) c.len-functions.ensures
