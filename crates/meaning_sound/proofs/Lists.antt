-- Entries of lists and maps.
use Rattle.std.proofs.Common.{◌≡◌, ◌≢◌, ℕ, zero, suc, ⊎_elim, if◌then◌else◌, List, [], ◌∷◌, ◌++◌, Option, Some, refl, sym, subst}
use Rattle.std.specs.Prelude.{slice_set}
use Rattle.std.proofs.lemmas.Bool.Decides.{eqb_tells}
use Rattle.board_world.specs.Simulation.{Paired}
use Rattle.sts_syntax.specs.TypeRules.{entry}
use Rattle.sts_meaning.specs.Values.{Value, with_entry}
use Rattle.meaning_sound.specs.Kept.{Every}

pub some_same : {X : Type 0} (o : Option X) (x y : X) → o ≡ Some x → o ≡ Some y → x ≡ y
some_same o x y p q = cc

pub paired_entry : {X Y : Type 0} (R : X → Y → Type 0) (xs : List X) (ys : List Y) (i : ℕ) (x : X) → Paired R xs ys → entry xs i ≡ Some x → (y : Y) × (entry ys i ≡ Some y) × R x y
paired_entry R [] [] i x h e = cc
paired_entry R [] (y ∷ ys) i x h e = absurd h
paired_entry R (z ∷ xs) [] i x h e = absurd h
paired_entry R (z ∷ xs) (y ∷ ys) zero x h e = (y, refl, subst (λ w. R w y) (some_same (Some z) z x refl e) h.0)
paired_entry R (z ∷ xs) (y ∷ ys) (suc i) x h e = paired_entry R xs ys i x h.1 e

pub paired_changed : {X Y : Type 0} (R : X → Y → Type 0) (xs : List X) (ys : List Y) (i : ℕ) (x : X) (y : Y) → Paired R xs ys → entry xs i ≡ Some x → R x y → Paired R xs (slice_set ys i y)
paired_changed R [] [] i x y h e r = tt
paired_changed R [] (w ∷ ys) i x y h e r = absurd h
paired_changed R (z ∷ xs) [] i x y h e r = absurd h
paired_changed R (z ∷ xs) (w ∷ ys) zero x y h e r = (subst (λ v. R v y) (sym (some_same (Some z) z x refl e)) r, h.1)
paired_changed R (z ∷ xs) (w ∷ ys) (suc i) x y h e r = (h.0, paired_changed R xs ys i x y h.1 e r)

pub paired_weak : {X Y : Type 0} (R Q : X → Y → Type 0) → ((x : X) (y : Y) → R x y → Q x y) → (xs : List X) (ys : List Y) → Paired R xs ys → Paired Q xs ys
paired_weak R Q f [] [] h = tt
paired_weak R Q f [] (y ∷ ys) h = absurd h
paired_weak R Q f (x ∷ xs) [] h = absurd h
paired_weak R Q f (x ∷ xs) (y ∷ ys) h = (f x y h.0, paired_weak R Q f xs ys h.1)

module _ (Q : Value → Type 0) where
  pub every_entry : (vs : List Value) (i : ℕ) (v : Value) → Every Q vs → entry vs i ≡ Some v → Q v
  every_entry [] i v h e = cc
  every_entry (w ∷ vs) zero v h e = subst Q (some_same (Some w) w v refl e) h.0
  every_entry (w ∷ vs) (suc i) v h e = every_entry vs i v h.1 e

  pub every_changed : (vs : List Value) (i : ℕ) (v : Value) → Every Q vs → Q v → Every Q (slice_set vs i v)
  every_changed [] i v h q = tt
  every_changed (w ∷ vs) zero v h q = (q, h.1)
  every_changed (w ∷ vs) (suc i) v h q = (h.0, every_changed vs i v h.1 q)

  pub every_append : (vs : List Value) (v : Value) → Every Q vs → Q v → Every Q (vs ++ v ∷ [])
  every_append [] v h q = (q, tt)
  every_append (w ∷ vs) v h q = (h.0, every_append vs v h.1 q)

pub every_weak : (Q R : Value → Type 0) → ((v : Value) → Q v → R v) → (vs : List Value) → Every Q vs → Every R vs
every_weak Q R f [] h = tt
every_weak Q R f (v ∷ vs) h = (f v h.0, every_weak Q R f vs h.1)

-- a changed map at its entry, and elsewhere
pub entry_cases : {X : Type 0} (Q : X → Type 0) (i j : ℕ) (v : X) (m : ℕ → X) → (j ≡ i → Q v) → (j ≢ i → Q (m j)) → Q (with_entry i v m j)
entry_cases Q i j v m here there =
    ⊎_elim
    (λ e. subst (λ b. Q (if b then v else m j)) (sym e.0) (here e.1))
    (λ e. subst (λ b. Q (if b then v else m j)) (sym e.0) (there e.1))
    (eqb_tells j i)

pub entry_here : {X : Type 0} (i : ℕ) (v : X) (m : ℕ → X) → with_entry i v m i ≡ v
entry_here i v m = entry_cases (λ x. x ≡ v) i i v m (λ e. refl) (λ n. absurd (n refl))
