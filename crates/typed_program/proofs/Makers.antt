-- Parameters that are passed on, one after another.
use Rattle.std.proofs.Common.{◌≡◌, ℕ, zero, suc, ◌+◌, ◌<◌, ◌≤◌, List, [], ◌∷◌, ◌++◌, length, drop, add-one, get_or, refl, ap, sym, ◌∙◌, arith}
use Rattle.sts_syntax.specs.declared.typed.TypedExpr.{TypedExpr}
use Rattle.sts_syntax.specs.declared.typed.Spot.TheVariants.{Param}
use Rattle.sts_syntax.specs.TypedTrees as e
use Rattle.sts_syntax.specs.TypedTrees.{TypedTrees}
use Rattle.sts_syntax.specs.TypedViews.{typed_tree, typed_trees}
use Rattle.sts_scope.specs.declared.kinds.StaticType.{StaticType}
use Rattle.sts_scope.specs.Kinds as kind
use Rattle.typed_laws.specs.Programs.{passed_on}
use Rattle.typed_program.proofs.Before.{onto}
use Rattle.typed_trees.proofs.Laws.{drop_next}

pub onto_none : (all : List TypedExpr) → onto all e.none ≡ typed_trees all
onto_none [] = refl
onto_none (a ∷ all) = ap (λ q. e.more (typed_tree a) q) (onto_none all)

pub onto_one : (all : List TypedExpr) (a : TypedExpr) (rest : TypedTrees) → onto (all ++ a ∷ []) rest ≡ onto all (e.more (typed_tree a) rest)
onto_one [] a rest = refl
onto_one (b ∷ all) a rest = ap (λ q. e.more (typed_tree b) q) (onto_one all a rest)

-- one more
pub passed_next : (takes : List StaticType) (i at next : ℕ) (d : StaticType) (old new : List TypedExpr) (a : TypedExpr) (whole : TypedTrees) → i < length takes
    → typed_tree a ≡ e.Name (kind.value_type (get_or takes i d)) (Param at) → new ≡ old ++ a ∷ [] → next ≡ at + 1 → onto old (passed_on at (drop i takes)) ≡ whole → onto new (passed_on next (drop (i + 1) takes)) ≡ whole
passed_next takes i at next d old new a whole less made h n inv =
    let r = drop_next takes i less in
    let rest = passed_on (suc at) (drop (i + 1) takes) in
    let m : passed_on at (drop i takes) ≡ e.more (e.Name (kind.value_type (get_or takes i d)) (Param at)) rest =
    ap (λ (q : List StaticType). passed_on at q) r.2 ∙ ap (λ (q : StaticType). e.more (e.Name (kind.value_type q) (Param at)) rest) (sym (r.1 d)) in
    ap (λ q. onto new (passed_on q (drop (i + 1) takes))) (n ∙ add-one at)
    ∙ (ap (λ (q : List TypedExpr). onto q rest) h ∙ (onto_one old a rest ∙ (ap (λ q. onto old (e.more q rest)) made ∙ (ap (λ q. onto old q) (sym m) ∙ inv))))

drop_end : (takes : List StaticType) (i : ℕ) → length takes ≤ i → drop i takes ≡ []
drop_end [] zero h = refl
drop_end [] (suc i) h = refl
drop_end (u ∷ us) zero h = absurd (omega arith)
drop_end (u ∷ us) (suc i) h = drop_end us i (omega arith)

pub passed_end : (takes : List StaticType) (i at : ℕ) (all : List TypedExpr) (whole : TypedTrees) → length takes ≤ i → onto all (passed_on at (drop i takes)) ≡ whole → typed_trees all ≡ whole
passed_end takes i at all whole less inv = sym (onto_none all) ∙ (ap (λ (q : List StaticType). onto all (passed_on at q)) (sym (drop_end takes i less)) ∙ inv)
