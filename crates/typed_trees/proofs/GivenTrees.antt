-- The expressions of a list, one behind the other.
use Rattle.std.proofs.Common.{◌≡◌, ◌+◌, ◌<◌, ◌≤◌, ℕ, zero, suc, List, [], ◌∷◌, ◌++◌, length, drop, get_or, slice_get, refl, sym, ap, ◌∙◌, subst, arith}
use Rattle.sts_syntax.specs.declared.trees.Expr.{Expr}
use Rattle.sts_syntax.specs.declared.typed.TypedExpr.{TypedExpr}
use Rattle.sts_syntax.specs.TypedTrees.{TypedTrees, none, more}
use Rattle.sts_syntax.specs.TypedViews.{typed_tree, typed_trees}
use Rattle.sts_syntax.specs.Views.{tree, trees}
use Rattle.sts_scope.proofs.Laws.{drop_at}
use Rattle.sts_scope.specs.declared.kinds.StaticType.{StaticType}
use Rattle.type_derive.specs.inner.Filled as b
use Rattle.type_derive.specs.inner.Filling.{Making, pure, ◌>=>◌}
use Rattle.typed_trees.specs.declared.build_places.Builder.{Builder}
use Rattle.typed_trees.specs.declared.build_places.Plan.{Plan}
use Rattle.typed_trees.specs.Calls.{Places, argument_made, arguments_made, behind_made}
use Rattle.typed_trees.specs.Sites.{joined}
use Rattle.typed_trees.specs.Steps.{IsBuilt}
use Rattle.typed_trees.proofs.Pieces.{then, stays, last, drop_all}

pub next_at : (takes : List StaticType) (i : ℕ) → b.next_given (drop i takes) ≡ slice_get takes i
next_at [] zero = refl
next_at [] (suc i) = refl
next_at (u ∷ us) zero = refl
next_at (u ∷ us) (suc i) = next_at us i

pub later_at : (takes : List StaticType) (i : ℕ) → b.later_given (drop i takes) ≡ drop (suc i) takes
later_at [] zero = refl
later_at [] (suc i) = refl
later_at (u ∷ us) zero = refl
later_at (u ∷ us) (suc i) = later_at us i

joined_push : (xs : List TypedExpr) (x : TypedExpr) (rest : TypedTrees) → joined (typed_trees (xs ++ x ∷ [])) rest ≡ joined (typed_trees xs) (more (typed_tree x) rest)
joined_push [] x rest = refl
joined_push (y ∷ ys) x rest = ap (λ (q : TypedTrees). more (typed_tree y) q) (joined_push ys x rest)

joined_none : (xs : TypedTrees) → joined xs none ≡ xs
joined_none none = refl
joined_none (more x xs) = ap (λ (q : TypedTrees). more x q) (joined_none xs)

-- what is built so far, with what is left, is the whole
abbrev pub ArgumentsGo : Plan → b.Site → Places → Builder → Making TypedTrees → Builder → ℕ → List Expr → List TypedExpr → Type 0
ArgumentsGo p st q b whole c i rest made = (d : Builder) (ys : TypedTrees) → IsBuilt c d (arguments_made p st q i (trees rest)) ys → IsBuilt b d whole (joined (typed_trees made) ys)

pub arguments_begin : (p : Plan) (st : b.Site) (q : Places) (xs : List Expr) (b : Builder) (first : List TypedExpr) → ArgumentsGo p st q b (behind_made p st q (typed_trees first) (trees xs)) b 0 xs first
unfolding behind_made
arguments_begin p st q xs b first d ys given = last b d (arguments_made p st q 0 (trees xs)) (λ zs. joined (typed_trees first) zs) ys given

pub arguments_step : (p : Plan) (st : b.Site) (q : Places) (xs : List Expr) (i : ℕ) (x : Expr) (b0 b c : Builder) (whole : Making TypedTrees) (made made' : List TypedExpr) (y : TypedExpr)
    → i < length xs → x ≡ get_or xs i x → made' ≡ made ++ y ∷ [] → IsBuilt b c (argument_made p st q i (tree x)) (typed_tree y)
    → ArgumentsGo p st q b0 whole b i (drop i xs) made → ArgumentsGo p st q b0 whole c (i + 1) (drop (i + 1) xs) made'
unfolding arguments_made
arguments_step p st q xs i x b0 b c whole made made' y lt is put built go d ys given =
    let rest = drop (i + 1) xs in
    let D : drop i xs ≡ x ∷ rest = drop_at xs i x lt is in
    let next : i + 1 ≡ suc i = omega arith in
    let tail : IsBuilt c d (arguments_made p st q (suc i) (trees rest)) ys = subst (λ (j : ℕ). IsBuilt c d (arguments_made p st q j (trees rest)) ys) next given in
    let one : IsBuilt b d (argument_made p st q i (tree x) >=> λ a. arguments_made p st q (suc i) (trees rest) >=> λ rs. pure (more a rs)) (more (typed_tree y) ys) =
    then b c d (argument_made p st q i (tree x)) (λ a. arguments_made p st q (suc i) (trees rest) >=> λ rs. pure (more a rs)) (typed_tree y) (more (typed_tree y) ys) built
    (last c d (arguments_made p st q (suc i) (trees rest)) (λ rs. more (typed_tree y) rs) ys tail) in
    let all : IsBuilt b d (arguments_made p st q i (trees (drop i xs))) (more (typed_tree y) ys) =
    subst (λ (zs : List Expr). IsBuilt b d (arguments_made p st q i (trees zs)) (more (typed_tree y) ys)) (sym D) one in
    subst (λ (zs : TypedTrees). IsBuilt b0 d whole zs) (sym (joined_push made y ys) ∙ ap (λ (zs : List TypedExpr). joined (typed_trees zs) ys) (sym put)) (go d (more (typed_tree y) ys) all)

pub arguments_end : (p : Plan) (st : b.Site) (q : Places) (xs : List Expr) (i : ℕ) (b0 b : Builder) (whole : Making TypedTrees) (made : List TypedExpr)
    → length xs ≤ i → ArgumentsGo p st q b0 whole b i (drop i xs) made → IsBuilt b0 b whole (typed_trees made)
unfolding arguments_made
arguments_end p st q xs i b0 b whole made le go =
    subst (λ (zs : TypedTrees). IsBuilt b0 b whole zs) (joined_none (typed_trees made))
    (go b none (subst (λ (zs : List Expr). IsBuilt b b (arguments_made p st q i (trees zs)) none) (sym (drop_all xs i le)) (stays b none)))
