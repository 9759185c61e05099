use Rattle.std.proofs.Common.{◌≡◌, ◌-◌, ◌^◌, min, ◌++◌, List, ◌<◌, ◌≤◌, length, take, drop, sym, ap, subst, ◌∙◌, arith}
use Rattle.std.specs.Prelude.{IfSome}
use Rattle.sts_syntax.specs.declared.typed.TypedBody.{TypedBody}
use Rattle.sts_syntax.specs.TypedTrees.{TypedRoutine, TypedTree}
use Rattle.sts_syntax.specs.TypedViews.{typed_routines}
use Rattle.sts_syntax.specs.BoardTable.{library_size}
use Rattle.sts_syntax.specs.Weights.{routines_weight}
use Rattle.sts_syntax.specs.Nodes.{all_expressions}
use Rattle.typed_limits.specs.declared.uses.Uses.{Uses}
use Rattle.typed_limits.specs.Uses.{noted}
use Rattle.typed_limits.proofs.Noting.{noted_append}
use Rattle.typed_limits.proofs.Behind.{routines_length, drop_routines, parted, drop_least, expressions_append, some_gives}
use Rattle.typed_limits.proofs.limits.own_weight.Goals as goal

pub returns-clause-weight : goal.returns-clause-weight
returns-clause-weight c =
    let bodies = c.args.bodies.now in
    let n = c.min.result in
    let l = routines_length bodies in
    let least : n ≤ library_size = omega (arith, c.min.ensures) in
    let short : n < library_size → length (typed_routines bodies) ≤ n = λ less. omega (arith, less, c.min.ensures, l) in
    let is : typed_routines c.split_at.result.1.now ≡ drop library_size (typed_routines bodies) =
    ap typed_routines c.split_at.ensures.back ∙ drop_routines n bodies ∙ drop_least library_size n (typed_routines bodies) least short in
    subst (λ (rs : List TypedRoutine). IfSome c.in_ok-sum.sum (λ m. m ≡ min (routines_weight rs) (2 ^ 64 - 1))) is c.in_ok-sum.ensures.weight

pub returns-clause-uses : goal.returns-clause-uses
returns-clause-uses c =
    let bodies = c.args.bodies.now in
    let n = c.min.result in
    let front = typed_routines c.split_at.result.0.now in
    let back = typed_routines c.split_at.result.1.now in
    let whole : front ++ back ≡ typed_routines bodies =
    ap (λ (xs : List TypedBody). typed_routines xs ++ back) c.split_at.ensures.front
    ∙ ap (λ (xs : List TypedBody). typed_routines (take n bodies) ++ typed_routines xs) c.split_at.ensures.back
    ∙ parted n bodies in
    let first = some_gives c.in_ok-fitting_weight.field-0 _ (sym c.if-is_none.ensures) c.in_ok-fitting_weight.ensures.uses in
    let is = ap (λ (u : Uses). noted u (all_expressions back)) first
    ∙ sym (noted_append c.args.uses.now (all_expressions front) (all_expressions back))
    ∙ ap (λ (xs : List TypedTree). noted c.args.uses.now xs) (sym (expressions_append front back))
    ∙ ap (λ (rs : List TypedRoutine). noted c.args.uses.now (all_expressions rs)) whole in
    subst (λ (u : Uses). IfSome c.in_ok-sum.sum (λ m. c.fitting_weight-2.new.uses ≡ u)) is c.in_ok-sum.ensures.uses
