-- What the functions of a well-typed program leave to do fits.
use Rattle.std.proofs.Common.{◌≡◌, ℕ, zero, suc, ◌+◌, ◌<◌, Bool, true, false, ◌||◌, List, [], ◌∷◌, length, Option, Some, None, refl, ap, sym, ◌∙◌, ⊎_elim, arith}
use Rattle.std.proofs.lemmas.Bool.Decides.{eqb_tells}
use Rattle.sts_syntax.specs.Types as t
use Rattle.sts_syntax.specs.Types.{ValueType}
use Rattle.sts_syntax.specs.TypedTrees as e
use Rattle.sts_syntax.specs.TypedTrees.{TypedTree, TypedTrees, TypedStatement, TypedStatements, TypedRoutine, ClassEntry, TypedProgram}
use Rattle.sts_syntax.specs.TypeRules.{entry, HasRoutine}
use Rattle.sts_syntax.specs.WellTyped.{Setting, parameters_of}
use Rattle.sts_syntax.specs.WellTypedPrograms.{is_maker, base_of_maker, setting, IsBodyOf, IsWellTyped}
use Rattle.sts_meaning.specs.Continuation.{Continuation, Drop, evals_each, bare, runs_all}
use Rattle.meaning_sound.specs.Sorts.{Of}
use Rattle.meaning_sound.specs.Fits.{FitsValues}
use Rattle.meaning_sound.specs.Kept.{GivesThis}
use Rattle.meaning_sound.proofs.Lists.{some_same}
use Rattle.meaning_sound.proofs.Growth.{same_suits}
use Rattle.meaning_sound.proofs.Trees.{super_fits, parameters_yield, each_yields, bare_fits, all_run}

-- an entry that is there is below the length
pub entry_below : {X : Type 0} (xs : List X) (i : ℕ) (x : X) → entry xs i ≡ Some x → i < length xs
entry_below [] i x e = cc
entry_below (y ∷ xs) zero x e = omega arith
entry_below (y ∷ xs) (suc i) x e = (let low : i < length xs = entry_below xs i x e in omega arith)

-- the class whose constructor a function is
pub record IsMakerOf (classes : List ClassEntry) (f c : ℕ) (class : ClassEntry) : Type 0 where
  pub has : entry classes c ≡ Some class
  pub maker : class.maker ≡ f

maker_class : (classes : List ClassEntry) (f : ℕ) → is_maker classes f ≡ true → (c : ℕ) × (class : ClassEntry) × IsMakerOf classes f c class
maker_class [] f h = cc
maker_class (class ∷ rest) f h =
    ⊎_elim
    (λ e. (0, class, record { has = refl; maker = e.1 }))
    (λ e. (let h' : is_maker rest f ≡ true = sym (ap (λ b. b || is_maker rest f) e.0) ∙ h in
    let q = maker_class rest f h' in (suc q.0, q.1, record { has = q.2.has; maker = q.2.maker })))
    (eqb_tells class.maker f)

module _ (P : TypedProgram) where
  base_class : (classes : List ClassEntry) (f base : ℕ) → base_of_maker P classes f ≡ Some base → (c : ℕ) × (class : ClassEntry) × IsMakerOf classes f c class × (class.base ≡ Some base)
  base_class [] f base h = cc
  base_class (class ∷ rest) f base h =
      ⊎_elim
      (λ e. (0, class, record { has = refl; maker = e.1 }, sym (ap (λ (b : Bool). elim b as (λ x. Option ℕ) [ true ↦ class.base | false ↦ base_of_maker P rest f ]) e.0) ∙ h))
      (λ e. (let h' : base_of_maker P rest f ≡ Some base = sym (ap (λ (b : Bool). elim b as (λ x. Option ℕ) [ true ↦ class.base | false ↦ base_of_maker P rest f ]) e.0) ∙ h in
      let q = base_class rest f base h' in (suc q.0, q.1, record { has = q.2.has; maker = q.2.maker }, q.3)))
      (eqb_tells class.maker f)

  module _ (good : IsWellTyped P) where
    -- a constructor takes `this` of its class first, and gives it
    pub record MakesOf (c : ℕ) (r : TypedRoutine) : Type 0 where
      pub this : entry r.params 0 ≡ Some (t.Object c)
      pub gives : r.gives ≡ t.Object c

    makes_of : (f c : ℕ) (class : ClassEntry) (r : TypedRoutine) → IsMakerOf P.classes f c class → HasRoutine P f r → MakesOf c r
    makes_of f c class r m has =
        (let q = (good.classes c class m.has).maker in
        let same : q.1 ≡ r = some_same (entry P.functions f) q.1 r (sym (ap (entry P.functions) m.maker) ∙ q.2) has in
        record {
          this = sym (ap (λ (x : TypedRoutine). entry x.params 0) same) ∙ ap (λ (us : List ValueType). entry us 0) q.3;
          gives = sym (ap (λ (x : TypedRoutine). x.gives) same) ∙ q.4;
        })

    pub this_is : (f : ℕ) (r : TypedRoutine) → HasRoutine P f r → GivesThis P (setting P f r)
    this_is f r has m =
        (let q = maker_class P.classes f m in
        let o = makes_of f q.0 q.1 r q.2 has in
        (q.0, o.this, o.gives))

    -- no function of `forever` is a constructor
    pub no_maker : (g : ℕ) → is_maker P.classes (length P.functions + g) ≡ false
    no_maker g = by_test (is_maker P.classes (length P.functions + g)) refl
      where
        by_test : (b : Bool) → is_maker P.classes (length P.functions + g) ≡ b → is_maker P.classes (length P.functions + g) ≡ false
        by_test false q = q
        by_test true q =
            (let m = maker_class P.classes (length P.functions + g) q in
            let r = (good.classes m.0 m.1 m.2.has).maker in
            let low : m.1.maker < length P.functions = entry_below P.functions m.1.maker r.1 r.2 in
            let same : m.1.maker ≡ length P.functions + g = m.2.maker in
            absurd (omega arith))

    -- the statements of a function
    module _ (f : ℕ) (r : TypedRoutine) (has : HasRoutine P f r) where
      abbrev S : Setting
      S = setting P f r

      abbrev back : Continuation
      back = bare S.maker

      pub body_fits : (base : Option ℕ) (all : TypedStatements) → base_of_maker P P.classes f ≡ base → IsBodyOf P base S all → FitsValues P S (runs_all S.maker all back back back) []
      body_fits None all q p = all_run P S (this_is f r has) all false [] back back back p (bare_fits P S (this_is f r has)) (bare_fits P S (this_is f r has)) (bare_fits P S (this_is f r has))
      body_fits (Some base) (e.also (e.Plain (e.SuperCall u g args)) rest) q p =
          (let m = base_class P.classes f base q in
          let o = makes_of f m.0 m.1 r m.2 has in
          let i = p.4 in
          let fine : FitsValues P S back [] = bare_fits P S (this_is f r has) in
          let next : Continuation = runs_all S.maker rest back back back in
          let next_fits : FitsValues P S next [] = all_run P S (this_is f r has) rest false [] back back back p.7 fine fine fine in
          super_fits P S m.0 i.1 g i.0 p.1 (evals_each args) u (Drop next) [] o.this (suc i.4.0, (m.1, base, m.2.has, m.3, i.4.1)) i.2 i.3 (i.5 ∙ sym p.6)
          (parameters_yield P S p.1 (evals_each args) (each_yields P S [] (parameters_of p.1) args p.5))
          (Of u, same_suits P (Of u), next_fits))
      body_fits (Some base) _ q p = absurd p
