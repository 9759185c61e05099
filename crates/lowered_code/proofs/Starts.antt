-- Where a function of lowered code begins, nothing but its parameters is live.
use Rattle.std.proofs.Common.{◌≡◌, ℕ, zero, suc, ◌+◌, ◌≤◌, inl, inr, ⊎_elim, List, [], ◌∷◌, ◌++◌, length, Option, Some, None, Bool, true, false, refl, sym, ap, ◌∙◌, subst, arith}
use Rattle.std.specs.Prelude.{pos, ◌||◌}
use Rattle.std.specs.List.{AllByRecursion}
use Rattle.std.proofs.lemmas.Bool.{cases_lt}
use Rattle.std.proofs.lemmas.Bool.Decides.{eqb_tells}
use Rattle.flat_ir.specs.declared.ops.Op.{Op}
use Rattle.flat_ir.specs.declared.ops.Op.TheVariants as o
use Rattle.flat_ir.specs.declared.ops.Function.{Function}
use Rattle.flat_ir.specs.Liveness.{OnlyParametersAreLive}
use Rattle.sts_syntax.specs.TypedTrees as e
use Rattle.sts_syntax.specs.TypedTrees.{TypedStatements, TypedRoutine, ClassEntry, TypedProgram}
use Rattle.sts_syntax.specs.TypeRules.{entry, HasRoutine}
use Rattle.sts_syntax.specs.WellTyped.{Setting, parameters_of}
use Rattle.sts_syntax.specs.WellTypedPrograms.{is_maker, base_of_maker, setting, IsBodyOf, IsWellTyped}
use Rattle.sts_lower.specs.Sizes.{size, statements_size}
use Rattle.sts_lower.specs.Code.{code}
use Rattle.sts_lower.specs.Statements.{behind, statements_code, bare_code}
use Rattle.sts_lower.specs.Lowered.{repeating_function, repeating_functions, repeating_ops, repeated_in_program, repeating, routine_ops, lowered_routine, lowered_routines, lowered}
use Rattle.lowered_code.specs.Fine.{IsFine}
use Rattle.lowered_code.proofs.Lengths.{code_length, statements_length}
use Rattle.lowered_code.proofs.Typed.{well_typed_fine}
use Rattle.lowered_code.proofs.Dead.{IsDead, Stands, all_stands, not_live, moved, plain, jump_more, turns, front, back}
use Rattle.lowered_code.proofs.Expressions.{IsFree, super_dead, given_dead}
use Rattle.lowered_code.proofs.Blocks.{bare_dead, statements_dead}

-- a function with a base's constructor to call is a constructor
base_is_maker : (P : TypedProgram) (cs : List ClassEntry) (f base : ℕ) → base_of_maker P cs f ≡ Some base → is_maker cs f ≡ true
base_is_maker P [] f base h = cc h
base_is_maker P (x ∷ cs) f base h =
    ⊎_elim
    (λ y. ap (λ z. z || is_maker cs f) y.0)
    (λ y. ap (λ z. z || is_maker cs f) y.0 ∙ base_is_maker P cs f base (sym (ap (λ z. elim z [ true ↦ x.base | false ↦ base_of_maker P cs f ]) y.0) ∙ h))
    (eqb_tells x.maker f)

module _ (P : TypedProgram) (typed : IsWellTyped P) where
  fine : IsFine P
  fine = well_typed_fine P typed

  module _ (f : ℕ) (r : TypedRoutine) (at : HasRoutine P f r) (t : ℕ) (past : length r.params ≤ t) (n : ℕ) where
    abbrev mk : Bool
    mk = is_maker P.classes f

    abbrev base : ℕ
    base = length r.params + length r.locals

    abbrev ops : List Op
    ops = routine_ops P f r

    abbrev S : Setting
    S = setting P f r

    abbrev Dead : ℕ → Type 0
    Dead p = IsDead ops t n p

    abbrev body : TypedStatements → (p next : ℕ) → List Op
    body all p next = statements_code P.classes (repeating P) (length r.params) base mk all p next next next

    none_known : IsFree P S (repeating P) ops t past []
    none_known = record { free = λ i is. absurd is }

    with_base : (b : ℕ) (all : TypedStatements) → IsBodyOf P (Some b) S all → mk ≡ true → (end : ℕ) → statements_size mk all ≡ end → Stands ops t 0 (body all 0 end) → Dead end → Dead 0
    with_base b (e.also (e.Plain (e.SuperCall u g args)) rest) h made end long st go =
        let p = 0 + size (e.SuperCall u g args) in
        let next = behind (statements_size mk rest) p end in
        let xs = code P.classes (repeating P) (length r.params) base (e.SuperCall u g args) 0 0 next in
        let ys = body rest p end in
        let same : end ≡ p + statements_size mk rest = omega arith in
        super_dead P S (repeating P) ops t past n u g args 0 0 next (fine.this f r at made) (given_dead P S (repeating P) ops t past n [] none_known (parameters_of h.1) args h.5) (front ops t xs ys 0 st)
        (λ ne. statements_dead P S (repeating P) ops t past mk (fine.this f r at) rest false [] h.7 none_known n p end end end
        (back ops t xs ys 0 p (ap (λ (k : ℕ). 0 + k) (code_length P.classes (repeating P) (length r.params) base (e.SuperCall u g args) 0 0 next)) st)
        (moved ops t n end (p + statements_size mk rest) same go) go go go)
    with_base b all h made end long st go = absurd h

    body_dead : (b : Option ℕ) → base_of_maker P P.classes f ≡ b → IsBodyOf P b S r.all → Stands ops t 0 (body r.all 0 (statements_size mk r.all)) → Dead (statements_size mk r.all) → Dead 0
    body_dead None is h st go =
        let end = statements_size mk r.all in
        let same : end ≡ 0 + end = omega arith in
        statements_dead P S (repeating P) ops t past mk (fine.this f r at) r.all false [] h none_known n 0 end end end st (moved ops t n end (0 + end) same go) go go go
    body_dead (Some b) is h st go = with_base b r.all h (base_is_maker P P.classes f b is) (statements_size mk r.all) refl st go

    start_dead : Dead 0
    start_dead =
        let end = statements_size mk r.all in
        let xs = body r.all 0 end in
        let ys = bare_code mk base in
        let st = all_stands ops t in
        let long : 0 + length xs ≡ end = omega (arith, statements_length P.classes (repeating P) (length r.params) base mk r.all 0 end end end) in
        body_dead (base_of_maker P P.classes f) refl (typed.functions f r at).body (front ops t xs ys 0 st) (bare_dead P S (repeating P) ops t past n mk end (fine.this f r at) (back ops t xs ys 0 end long st))

  routine_starts : (f : ℕ) (r : TypedRoutine) → HasRoutine P f r → OnlyParametersAreLive (lowered_routine P f r)
  routine_starts f r at t live =
      elim (cases_lt t (length r.params)) [
        | inl lt ↦ lt
        | inr past ↦ absurd (not_live (routine_ops P f r) t 0 (λ n. start_dead f r at t past n) live)
      ]

  routines_start : (k : ℕ) (rs : List TypedRoutine) → ((f : ℕ) (r : TypedRoutine) → entry rs f ≡ Some r → HasRoutine P (k + f) r) → AllByRecursion OnlyParametersAreLive (lowered_routines P k rs)
  routines_start k [] h = tt
  routines_start k (r ∷ rs) h = (
    let e : k + 0 ≡ k = omega arith in routine_starts k r (subst (λ x. HasRoutine P x r) e (h zero r refl)),
    routines_start (suc k) rs (λ f x at. let e : k + suc f ≡ suc k + f = omega arith in subst (λ y. HasRoutine P y x) e (h (suc f) x at)),
  )

-- a function that repeats calls
copy_starts : (f : ℕ) → OnlyParametersAreLive (repeating_function f)
copy_starts f t live = absurd (not_live ops t 0 (λ n. turns ops t n 0 (λ m le come. around m come)) live)
  where
    ops : List Op
    ops = repeating_ops f

    around : (m : ℕ) → IsDead (repeating_ops f) t m 0 → IsDead (repeating_ops f) t (suc m) 0
    around m come =
        let st = all_stands (repeating_ops f) t in
        plain (repeating_ops f) t (suc m) 0 1 (o.Call 0 f []) st.0 refl refl tt
        (λ ne. plain (repeating_ops f) t (suc m) 1 2 (o.Const 0 (pos 20)) st.1.0 refl refl tt
        (λ ne'. plain (repeating_ops f) t (suc m) 2 3 (o.Ask 0 2 (0 ∷ [])) st.1.1.0 refl refl (ne, tt) (λ w. jump_more (repeating_ops f) t m 3 0 st.1.1.1.0 come)))

copies_start : (fs : List ℕ) → AllByRecursion OnlyParametersAreLive (repeating_functions fs)
copies_start [] = tt
copies_start (f ∷ fs) = (copy_starts f, copies_start fs)

both_start : (xs ys : List Function) → AllByRecursion OnlyParametersAreLive xs → AllByRecursion OnlyParametersAreLive ys → AllByRecursion OnlyParametersAreLive (xs ++ ys)
both_start [] ys h g = g
both_start (x ∷ xs) ys h g = (h.0, both_start xs ys h.1 g)

pub program_starts : (P : TypedProgram) → IsWellTyped P → AllByRecursion OnlyParametersAreLive (lowered P).functions
program_starts P typed =
    both_start (lowered_routines P 0 P.functions) (repeating_functions (repeated_in_program P))
    (routines_start P typed 0 P.functions (λ f r at. let e : f ≡ 0 + f = omega arith in subst (λ x. HasRoutine P x r) e at)) (copies_start (repeated_in_program P))
