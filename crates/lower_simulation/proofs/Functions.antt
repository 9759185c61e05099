-- The functions of a program in its flat code.
use Rattle.std.proofs.Common.{◌≡◌, ℕ, zero, suc, ◌+◌, ⊎_elim, List, [], ◌∷◌, length, Option, Some, None, refl, sym, ap, ◌∙◌, subst, arith}
use Rattle.std.specs.Prelude.{if◌then◌else◌, ◌==◌}
use Rattle.std.proofs.Math.Dec.{eqb-zero-suc, eqb-suc-zero, eqb-suc-suc}
use Rattle.std.proofs.lemmas.Bool.Decides.{eqb_tells}
use Rattle.board_world.specs.Observations.{ByteList}
use Rattle.flat_ir.specs.declared.ops.Op.{Op}
use Rattle.flat_ir.specs.declared.ops.Function.{Function}
use Rattle.sts_syntax.specs.Types.{ValueType}
use Rattle.sts_syntax.specs.TypedTrees.{TypedRoutine, ClassEntry, TypedProgram}
use Rattle.sts_syntax.specs.TypeRules.{entry, IsOneOf}
use Rattle.sts_meaning.specs.Values.{Value, Gives, Stuck, there}
use Rattle.sts_meaning.specs.Frames.{defaults}
use Rattle.sts_meaning.specs.Steps as source
use Rattle.sts_implements.proofs.Laws.{Agree}
use Rattle.flat_meaning.specs.Operators.{zeros, exactly}
use Rattle.flat_meaning.specs.Frames.{op_of, words, words_of}
use Rattle.sts_lower.specs.Code.{maker_of}
use Rattle.sts_lower.specs.Repeated.{before}
use Rattle.sts_lower.specs.Lowered.{repeating_function, repeating_functions, flat_class, flat_classes, repeated_in_program, repeating, lowered_routine, lowered_routines, lowered}
use Rattle.lower_simulation.specs.Places.{HasAt}
use Rattle.lowered_code.proofs.Laws.{entry_front, entry_behind, entry_past}

maker_at : (cs : List ClassEntry) (c : ℕ) (class : ClassEntry) → entry cs c ≡ Some class → maker_of cs c ≡ class.maker
maker_at [] c class h = cc h
maker_at (x ∷ cs) zero class h = ap (λ (o : Option ClassEntry). the o) h
  where
    the : Option ClassEntry → ℕ
    the None = 0
    the (Some k) = k.maker
maker_at (x ∷ cs) (suc c) class h = maker_at cs c class h

pub maker_is : (P : TypedProgram) (c : ℕ) (class : ClassEntry) → entry P.classes c ≡ Some class → maker_of P.classes c ≡ class.maker
maker_is P c class h = maker_at P.classes c class h

pub classes_agree : (cs : List ClassEntry) (c : ℕ) → Agree (λ x y. flat_class x ≡ y) (there (entry cs c)) (there (entry (flat_classes cs) c))
classes_agree [] c = tt
classes_agree (x ∷ cs) zero = refl
classes_agree (x ∷ cs) (suc c) = classes_agree cs c

pub zeros_are : (us : List ValueType) → zeros (length us) ≡ defaults us
zeros_are [] = refl
zeros_are (u ∷ us) = ap (λ (vs : List Value). Rattle.sts_meaning.specs.Values.default ∷ vs) (zeros_are us)

-- exactly so many arguments, by their number
pub exactly_is : (n : ℕ) (vs : List Value) → (if n == length vs then Gives tt else Stuck) ≡ exactly n vs
exactly_is zero [] = refl
exactly_is zero (v ∷ vs) = ap (λ b. if b then Gives tt else Stuck) (eqb-zero-suc (length vs))
exactly_is (suc n) [] = ap (λ b. if b then Gives tt else Stuck) (eqb-suc-zero n)
exactly_is (suc n) (v ∷ vs) = ap (λ b. if b then Gives tt else Stuck) (eqb-suc-suc n (length vs)) ∙ exactly_is n vs

-- a list stands at its places
has_from : (fetch : ℕ → Option Op) (k : ℕ) (ops : List Op) → ((n : ℕ) → fetch (k + n) ≡ entry ops n) → HasAt fetch k ops
has_from fetch k [] h = tt
has_from fetch k (op ∷ ops) h =
    let e : k + 0 ≡ k = omega arith in
    (subst (λ x. fetch x ≡ Some op) e (h 0), has_from fetch (k + 1) ops (λ n. let d : k + suc n ≡ k + 1 + n = omega arith in subst (λ x. fetch x ≡ entry ops n) d (h (suc n))))

pub has_all : (o : Option Function) (f : Function) → o ≡ Some f → HasAt (op_of o) 0 f.ops
has_all o f e = subst (λ x. HasAt (op_of x) 0 f.ops) (sym e) (has_from (op_of (Some f)) 0 f.ops (λ n. let d : n ≡ 0 + n = omega arith in ap (entry f.ops) (sym d)))

before_there : (fs : List ℕ) (g : ℕ) → IsOneOf g fs → entry (repeating_functions fs) (before fs g) ≡ Some (repeating_function g)
before_there [] g h = absurd h
before_there (f ∷ fs) g h =
    ⊎_elim
    (λ y. let at : before (f ∷ fs) g ≡ 0 = ap (λ b. if b then 0 else suc (before fs g)) y.0 in ap (entry (repeating_functions (f ∷ fs))) at ∙ ap (λ x. Some (repeating_function x)) y.1)
    (λ y. let at : before (f ∷ fs) g ≡ suc (before fs g) = ap (λ b. if b then 0 else suc (before fs g)) y.0 in
    ap (entry (repeating_functions (f ∷ fs))) at ∙ before_there fs g (⊎_elim (λ e. absurd (y.1 (sym e))) (λ i. i) h))
    (eqb_tells f g)

module _ (P : TypedProgram) where
  lowered_at : (k : ℕ) (rs : List TypedRoutine) (f : ℕ) (r : TypedRoutine) → entry rs f ≡ Some r → entry (lowered_routines P k rs) f ≡ Some (lowered_routine P (k + f) r)
  lowered_at k [] f r h = cc h
  lowered_at k (x ∷ rs) zero r h = let e : k ≡ k + 0 = omega arith in ap (λ n. Some (lowered_routine P n x)) e ∙ ap (lower_option (k + 0)) h
    where
      lower_option : ℕ → Option TypedRoutine → Option Function
      lower_option n None = None
      lower_option n (Some r) = Some (lowered_routine P n r)
  lowered_at k (x ∷ rs) (suc f) r h = let e : suc k + f ≡ k + suc f = omega arith in lowered_at (suc k) rs f r h ∙ ap (λ n. Some (lowered_routine P n r)) e

  lowered_length : (k : ℕ) (rs : List TypedRoutine) → length (lowered_routines P k rs) ≡ length rs
  lowered_length k [] = refl
  lowered_length k (r ∷ rs) = ap suc (lowered_length (suc k) rs)

  -- a function of the program has its number in flat code
  pub routine_there : (f : ℕ) (r : TypedRoutine) → entry P.functions f ≡ Some r → entry (lowered P).functions f ≡ Some (lowered_routine P f r)
  routine_there f r h =
      let e : 0 + f ≡ f = omega arith in
      entry_front (lowered_routines P 0 P.functions) (repeating_functions (repeated_in_program P)) f (lowered_routine P f r) (lowered_at 0 P.functions f r h ∙ ap (λ n. Some (lowered_routine P n r)) e)

  pub repeating_there : (g : ℕ) → IsOneOf g (repeated_in_program P) → entry (lowered P).functions (repeating P g) ≡ Some (repeating_function g)
  repeating_there g h =
      ap (λ n. entry (lowered P).functions (n + before (repeated_in_program P) g)) (sym (lowered_length 0 P.functions))
      ∙ entry_behind (lowered_routines P 0 P.functions) (repeating_functions (repeated_in_program P)) (before (repeated_in_program P) g) ∙ before_there (repeated_in_program P) g h

  module _ (texts : List ByteList) where
    -- frames have as many words
    pub routine_words : (f : ℕ) (r : TypedRoutine) → entry P.functions f ≡ Some r → words (lowered P) f ≡ source.words P texts f
    routine_words f r h = ap words_of (routine_there f r h) ∙ sym (ap (source.words_in P texts) h)

    pub repeating_frames : (g : ℕ) → IsOneOf g (repeated_in_program P) → words (lowered P) (repeating P g) ≡ source.words P texts (length P.functions + g)
    repeating_frames g h = ap words_of (repeating_there g h) ∙ sym (ap (source.words_in P texts) (entry_past P.functions g))
