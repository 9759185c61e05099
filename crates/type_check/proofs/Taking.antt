-- Going through arguments: what is found at one of them, and what is left behind it.
use Rattle.std.proofs.Common.{◌≡◌, ℕ, zero, suc, ◌+◌, ◌<◌, ◌≤◌, ◌&&◌, ◌||◌, Bool, true, false, Option, None, List, [], ◌∷◌, length, get_or, drop, map, min, refl, sym, ap, ◌∙◌, arith, drop-cons, length-drop}
use Rattle.sts_base.specs.declared.tables.Tables.{Tables}
use Rattle.sts_syntax.specs.declared.trees.Expr.{Expr}
use Rattle.sts_syntax.specs.declared.board_rows.BoardParameter.{BoardParameter as Parameter}
use Rattle.sts_syntax.specs.declared.board_rows.BoardParameter.TheVariants as v
use Rattle.sts_syntax.specs.BoardTable.{BoardParameter}
use Rattle.sts_syntax.specs.BoardViews.{board_parameter}
use Rattle.sts_syntax.specs.Trees.{Tree, Trees, none, more}
use Rattle.sts_syntax.specs.Views.{tree, trees}
use Rattle.sts_scope.specs.declared.kinds.StaticType.{StaticType}
use Rattle.sts_scope.specs.declared.entries.ClassHead.{ClassHead}
use Rattle.sts_scope.specs.declared.known.Known.{Known}
use Rattle.sts_scope.specs.Places.{NameScope}
use Rattle.sts_scope.proofs.Laws.{drop_at, drop_end}
use Rattle.type_derive.specs.Nodes.{lacks_handler}
use Rattle.type_derive.specs.Shown.{goes_some}
use Rattle.type_derive.specs.Typing.{type_of, role_of, are_given}
use Rattle.type_check.specs.Seen.{fit_all, lacks_here, fits_place, kinds_given}

and_false : (b : Bool) → false ≡ (b && false)
and_false true = refl
and_false false = refl

-- of different lengths they don't go each to each
pub unequal : (classes : List ClassHead) (os : List (Option StaticType)) (ts : List StaticType) → (length os ≡ length ts → ⊥) → false ≡ fit_all classes os ts
unequal classes [] [] h = absurd (h refl)
unequal classes [] (t ∷ ts) h = refl
unequal classes (o ∷ os) [] h = refl
unequal classes (o ∷ os) (t ∷ ts) h = and_false (goes_some classes o t) ∙ ap (λ b. goes_some classes o t && b) (unequal classes os ts (λ e. h (ap suc e)))

pub drop_or : {A : Type 0} (xs : List A) (i : ℕ) (d : A) → i < length xs → drop i xs ≡ get_or xs i d ∷ drop (i + 1) xs
drop_or xs i d lt = let e : i + 1 ≡ suc i = omega arith in drop-cons xs i d lt ∙ ap (λ n. get_or xs i d ∷ drop n xs) (sym e)

-- what stands at a place of a list, where what is left from there on is known
within : {A : Type 0} (xs : List A) (i : ℕ) (x : A) (rest : List A) → drop i xs ≡ x ∷ rest → i < length xs
within xs i x rest e = omega (arith, length-drop i xs, ap length e)

headed : {A : Type 0} (xs : List A) (i : ℕ) (x : A) (rest : List A) (d : A) → drop i xs ≡ x ∷ rest → get_or xs i d ≡ x
headed xs i x rest d e = let h : get_or xs i d ∷ drop (i + 1) xs ≡ x ∷ rest = sym (drop_or xs i d (within xs i x rest e)) ∙ e in cc

tailed : {A : Type 0} (xs : List A) (i : ℕ) (x : A) (rest : List A) → drop i xs ≡ x ∷ rest → drop (i + 1) xs ≡ rest
tailed xs i x rest e = let h : get_or xs i x ∷ drop (i + 1) xs ≡ x ∷ rest = sym (drop_or xs i x (within xs i x rest e)) ∙ e in cc

module _ (t : Tables) (k : Known) (p : NameScope) where
  -- of the parameters and arguments from the i-th on
  abbrev lacking : List Parameter → List Expr → ℕ → Bool
  lacking takes args i = lacks_handler t k p (map board_parameter (drop i takes)) (trees (drop i args))

  lacks_one : (q : Parameter) (ps : List BoardParameter) (a : Tree) (rest : Trees) →
      lacks_handler t k p (board_parameter q ∷ ps) (more a rest) ≡ (lacks_here t k p (board_parameter q) a || lacks_handler t k p ps rest)
  lacks_one v.Number ps a rest = refl
  lacks_one v.Text ps a rest = refl
  lacks_one v.Handler ps a rest = refl
  lacks_one v.Drawing ps a rest = refl

  lacks_none : (qs : List Parameter) → lacks_handler t k p (map board_parameter qs) none ≡ false
  lacks_none [] = refl
  lacks_none (v.Number ∷ qs) = refl
  lacks_none (v.Text ∷ qs) = refl
  lacks_none (v.Handler ∷ qs) = refl
  lacks_none (v.Drawing ∷ qs) = refl

  pub lacks_step : (takes : List Parameter) (args : List Expr) (i : ℕ) (d : Parameter) (a : Expr) → i < length takes → i < length args → a ≡ get_or args i a →
      lacking takes args i ≡ (lacks_here t k p (board_parameter (get_or takes i d)) (tree a) || lacking takes args (i + 1))
  lacks_step takes args i d a l m is =
      ap (λ xs. lacks_handler t k p (map board_parameter xs) (trees (drop i args))) (drop_or takes i d l)
      ∙ ap (λ ys. lacks_handler t k p (map board_parameter (get_or takes i d ∷ drop (i + 1) takes)) (trees ys)) (drop_at args i a m is)
      ∙ lacks_one (get_or takes i d) (map board_parameter (drop (i + 1) takes)) (tree a) (trees (drop (i + 1) args))

  pub lacks_found : (takes : List Parameter) (args : List Expr) (i : ℕ) (d : Parameter) (a : Expr) (all : Bool) → i < length takes → i < length args → a ≡ get_or args i a →
      lacks_here t k p (board_parameter (get_or takes i d)) (tree a) ≡ true → lacking takes args i ≡ all → true ≡ all
  lacks_found takes args i d a all l m is h rest = sym (lacks_step takes args i d a l m is ∙ ap (λ b. b || lacking takes args (i + 1)) h) ∙ rest

  pub lacks_missed : (takes : List Parameter) (args : List Expr) (i : ℕ) (d : Parameter) (a : Expr) (all : Bool) → i < length takes → i < length args → a ≡ get_or args i a →
      lacks_here t k p (board_parameter (get_or takes i d)) (tree a) ≡ false → lacking takes args i ≡ all → lacking takes args (i + 1) ≡ all
  lacks_missed takes args i d a all l m is h rest = sym (lacks_step takes args i d a l m is ∙ ap (λ b. b || lacking takes args (i + 1)) h) ∙ rest

  pub lacks_end : (takes : List Parameter) (args : List Expr) (i : ℕ) → min (length takes) (length args) ≤ i → lacking takes args i ≡ false
  lacks_end [] args i h = ap (λ xs. lacks_handler t k p (map board_parameter xs) (trees (drop i args))) (drop_end {A = Parameter} [] i (omega arith))
  lacks_end (q ∷ qs) [] i h = ap (λ ys. lacks_handler t k p (map board_parameter (drop i (q ∷ qs))) (trees ys)) (drop_end {A = Expr} [] i (omega arith)) ∙ lacks_none (drop i (q ∷ qs))
  lacks_end (q ∷ qs) (a ∷ bs) zero h = absurd (omega (arith, h))
  lacks_end (q ∷ qs) (a ∷ bs) (suc i) h = let h' : min (length qs) (length bs) ≤ i = omega (arith, h) in lacks_end qs bs i h'

module _ (t : Tables) (k : Known) (p : NameScope) where
  abbrev giving : List Parameter → List Expr → ℕ → Bool
  giving takes args i = are_given t k p (map board_parameter (drop i takes)) (trees (drop i args))

  abbrev kinds_from : List Parameter → List Expr → ℕ → List (Option StaticType)
  kinds_from takes args i = kinds_given t k p (map board_parameter (drop i takes)) (trees (drop i args))

  given_one : (q : Parameter) (ps : List BoardParameter) (a : Tree) (rest : Trees) →
      are_given t k p (board_parameter q ∷ ps) (more a rest)
      ≡ (fits_place t k p (board_parameter q) (type_of t k p (role_of (board_parameter q ∷ ps)) a) a && are_given t k p ps rest)
  given_one v.Number ps a rest = refl
  given_one v.Text ps a rest = refl
  given_one v.Handler ps a rest = refl
  given_one v.Drawing ps a rest = refl

  pub given_step : (takes : List Parameter) (args : List Expr) (i : ℕ) (d : Parameter) (a : Expr) → i < length takes → i < length args → a ≡ get_or args i a →
      giving takes args i
      ≡ (fits_place t k p (board_parameter (get_or takes i d)) (type_of t k p (role_of (board_parameter (get_or takes i d) ∷ map board_parameter (drop (i + 1) takes))) (tree a)) (tree a)
      && giving takes args (i + 1))
  given_step takes args i d a l m is =
      ap (λ xs. are_given t k p (map board_parameter xs) (trees (drop i args))) (drop_or takes i d l)
      ∙ ap (λ ys. are_given t k p (map board_parameter (get_or takes i d ∷ drop (i + 1) takes)) (trees ys)) (drop_at args i a m is)
      ∙ given_one (get_or takes i d) (map board_parameter (drop (i + 1) takes)) (tree a) (trees (drop (i + 1) args))

  pub kinds_step : (takes : List Parameter) (args : List Expr) (i : ℕ) (d : Parameter) (a : Expr) → i < length takes → i < length args → a ≡ get_or args i a →
      kinds_from takes args i
      ≡ type_of t k p (role_of (board_parameter (get_or takes i d) ∷ map board_parameter (drop (i + 1) takes))) (tree a) ∷ kinds_from takes args (i + 1)
  kinds_step takes args i d a l m is =
      ap (λ xs. kinds_given t k p (map board_parameter xs) (trees (drop i args))) (drop_or takes i d l)
      ∙ ap (λ ys. kinds_given t k p (map board_parameter (get_or takes i d ∷ drop (i + 1) takes)) (trees ys)) (drop_at args i a m is)

  -- the kind at this place is that of the argument, and those behind it are those of the others
  pub kinds_here : (takes : List Parameter) (args : List Expr) (kinds : List (Option StaticType)) (i : ℕ) (d : Parameter) (a : Expr) →
      i < length takes → i < length args → a ≡ get_or args i a → drop i kinds ≡ kinds_from takes args i → i < length kinds
  kinds_here takes args kinds i d a l m is e = within kinds i _ _ (e ∙ kinds_step takes args i d a l m is)

  pub given_found : (takes : List Parameter) (args : List Expr) (kinds : List (Option StaticType)) (i : ℕ) (d : Parameter) (a : Expr) (all : Bool) →
      i < length takes → i < length args → a ≡ get_or args i a → drop i kinds ≡ kinds_from takes args i →
      fits_place t k p (board_parameter (get_or takes i d)) (get_or kinds i None) (tree a) ≡ false → giving takes args i ≡ all → false ≡ all
  given_found takes args kinds i d a all l m is e h rest =
      let x = headed kinds i _ _ None (e ∙ kinds_step takes args i d a l m is) in
      sym (given_step takes args i d a l m is ∙ ap (λ o. fits_place t k p (board_parameter (get_or takes i d)) o (tree a) && giving takes args (i + 1)) (sym x)
      ∙ ap (λ b. b && giving takes args (i + 1)) h) ∙ rest

  pub given_kept : (takes : List Parameter) (args : List Expr) (kinds : List (Option StaticType)) (i : ℕ) (d : Parameter) (a : Expr) (all : Bool) →
      i < length takes → i < length args → a ≡ get_or args i a → drop i kinds ≡ kinds_from takes args i →
      fits_place t k p (board_parameter (get_or takes i d)) (get_or kinds i None) (tree a) ≡ true → giving takes args i ≡ all → giving takes args (i + 1) ≡ all
  given_kept takes args kinds i d a all l m is e h rest =
      let x = headed kinds i _ _ None (e ∙ kinds_step takes args i d a l m is) in
      sym (given_step takes args i d a l m is ∙ ap (λ o. fits_place t k p (board_parameter (get_or takes i d)) o (tree a) && giving takes args (i + 1)) (sym x)
      ∙ ap (λ b. b && giving takes args (i + 1)) h) ∙ rest

  pub kinds_kept : (takes : List Parameter) (args : List Expr) (kinds : List (Option StaticType)) (i : ℕ) (d : Parameter) (a : Expr) →
      i < length takes → i < length args → a ≡ get_or args i a → drop i kinds ≡ kinds_from takes args i → drop (i + 1) kinds ≡ kinds_from takes args (i + 1)
  kinds_kept takes args kinds i d a l m is e = tailed kinds i _ _ (e ∙ kinds_step takes args i d a l m is)

  given_none : (q : Parameter) (qs : List Parameter) → are_given t k p (map board_parameter (q ∷ qs)) none ≡ false
  given_none v.Number qs = refl
  given_none v.Text qs = refl
  given_none v.Handler qs = refl
  given_none v.Drawing qs = refl

  unlike : (ps : List Parameter) (args : List Expr) → (length ps ≡ length args → ⊥) → are_given t k p (map board_parameter ps) (trees args) ≡ false
  unlike [] [] h = absurd (h refl)
  unlike [] (a ∷ bs) h = refl
  unlike (q ∷ qs) [] h = given_none q qs
  unlike (q ∷ qs) (a ∷ bs) h =
      given_one q (map board_parameter qs) (tree a) (trees bs)
      ∙ ap (λ b. fits_place t k p (board_parameter q) (type_of t k p (role_of (board_parameter q ∷ map board_parameter qs)) (tree a)) (tree a) && b) (unlike qs bs (λ e. h (ap suc e)))
      ∙ sym (and_false _)

  -- of different numbers they aren't what is taken
  pub given_unlike : (ps : List Parameter) (args : List Expr) → (length ps ≡ length args → ⊥) → false ≡ are_given t k p (map board_parameter ps) (trees args)
  given_unlike ps args h = sym (unlike ps args h)
