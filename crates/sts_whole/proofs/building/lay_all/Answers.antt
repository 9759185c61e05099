use Rattle.std.proofs.Common.{◌≡◌, ◌+◌, ◌<◌, List, [], ◌∷◌, ◌++◌, length, map, drop, sym, ap, subst, ◌∙◌, append_assoc, arith}
use Rattle.std.specs.List.{AllByRecursion}
use Rattle.register_assign.specs.declared.places.Placed.{Placed}
use Rattle.thumb_layout.specs.Cells.{laid}
use Rattle.sts_syntax.proofs.Laws.{drop_at}
use Rattle.sts_whole.specs.Building.{IsLayable}
use Rattle.sts_whole.specs.Compiled.{bodies_of}
use Rattle.sts_whole.proofs.building.lay_all.Goals as goal

pub loop-function-preserved : goal.loop-function-preserved
loop-function-preserved c =
    let items = c.args.placed.now in
    let i = c.loop-function.function-index in
    let p = c.function-item.result in
    let lt : i < length items = omega (arith, c.loop-function-test.true) in
    let next : drop i items ≡ p ∷ drop (i + 1) items = drop_at items i p lt ∙ ap (λ (x : Placed). x ∷ drop (i + 1) items) (sym c.function-item.is) in
    let rest = map laid (bodies_of (drop (i + 1) items)) in
    record {
      all = ap (λ xs. xs ++ rest) c.in_ok-push.ensures.ok
          ∙ append_assoc c.loop-function.all (c.in_ok-lay_function.field-0 ∷ []) rest
          ∙ ap (λ x. c.loop-function.all ++ x ∷ rest) c.in_ok-lay_function.ensures
          ∙ ap (λ xs. c.loop-function.all ++ map laid (bodies_of xs)) (sym next)
          ∙ c.loop-function.invariant.all;
      layable = (subst (λ (xs : List Placed). AllByRecursion IsLayable xs) next c.loop-function.invariant.layable).1;
    }
