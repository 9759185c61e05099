-- What isn't live: a temporary that no path of fewer than so many ops reads before it writes it.
use Rattle.std.proofs.Common.{◌≡◌, ℕ, zero, suc, ◌+◌, ◌<◌, ◌≤◌, List, [], ◌∷◌, ◌++◌, length, get_or, Option, Some, None, sym, ap, ◌∙◌, subst, arith, slice_get}
use Rattle.std.specs.Prelude.{Contains}
use Rattle.std.specs.List.{AllByRecursion}
use Rattle.flat_ir.specs.declared.ops.Op.{Op}
use Rattle.flat_ir.specs.declared.ops.Op.TheVariants as o
use Rattle.flat_ir.specs.Ops.{reads, writes, goes_on}
use Rattle.flat_ir.specs.Liveness.{IsLiveAt, is_read, is_kept}

all_get : {X : Type 0} (P : X → Type 0) (xs : List X) → AllByRecursion P xs → (k : ℕ) (d : X) → k < length xs → P (get_or xs k d)
all_get P [] a k d l = absurd (omega arith)
all_get P (x ∷ xs) a zero d l = a.0
all_get P (x ∷ xs) a (suc k) d l = all_get P xs a.1 k d (omega arith)

-- in a function with these ops, for one temporary
module _ (ops : List Op) (t : ℕ) where
  -- how many ops a path has before the one that reads
  abbrev steps : (at : ℕ) → IsLiveAt ops t at → ℕ
  steps _ (is_read at op g r) = 0
  steps _ (is_kept at next op g n i live) = suc (steps next live)

  pub record IsDead (n at : ℕ) : Type 0 where
    pub dead : (live : IsLiveAt ops t at) → steps at live < n → ⊥

  -- it is none of those that an op reads, nor the one that it writes
  abbrev pub Avoids : List ℕ → Type 0
  Avoids xs = AllByRecursion (λ x. t ≡ x → ⊥) xs

  abbrev pub Passes : Option ℕ → Type 0
  Passes None = Unit {0}
  Passes (Some x) = t ≡ x → ⊥

  abbrev pub AllDead : ℕ → List ℕ → Type 0
  AllDead n ps = AllByRecursion (IsDead n) ps

  -- these ops stand at a place
  abbrev pub Stands : ℕ → List Op → Type 0
  Stands at [] = Unit {0}
  Stands at (op ∷ rest) = (slice_get ops at ≡ Some op) × Stands (suc at) rest

  same_op : (at : ℕ) (a b : Op) → slice_get ops at ≡ Some a → slice_get ops at ≡ Some b → a ≡ b
  same_op at a b p q = let e : Some a ≡ Some b = sym p ∙ q in cc

  avoids_reads : (xs : List ℕ) → Avoids xs → Contains xs t → ⊥
  avoids_reads xs a i = all_get (λ x. t ≡ x → ⊥) xs a i.0 t i.1 (sym i.2)

  dead_among : (n : ℕ) (ps : List ℕ) (next : ℕ) → AllDead n ps → Contains ps next → IsDead n next
  dead_among n ps next a i = subst (IsDead n) i.2 (all_get (IsDead n) ps a i.0 next i.1)

  passes_from : (w : Option ℕ) → (w ≡ Some t → ⊥) → Passes w
  passes_from None h = tt
  passes_from (Some x) h = λ e. h (ap Some (sym e))

  refused : (n at : ℕ) (op : Op) (live : IsLiveAt ops t at) → slice_get ops at ≡ Some op → Avoids (reads op) → (Passes (writes op) → AllDead n (goes_on at op)) → steps at live < suc n → ⊥
  refused n _ op (is_read at op' g' r') g a h lt = avoids_reads (reads op) a (subst (λ (x : Op). Contains (reads x) t) (same_op at op' op g' g) r')
  refused n _ op (is_kept at next op' g' w' i' live) g a h lt =
      let so = same_op at op' op g' g in
      let d = dead_among n (goes_on at op) next (h (passes_from (writes op) (subst (λ (x : Op). writes x ≡ Some t → ⊥) so w'))) (subst (λ (x : Op). Contains (goes_on at x) next) so i') in
      d.dead live (omega arith)

  -- one op
  step_more : (n at : ℕ) (op : Op) → slice_get ops at ≡ Some op → Avoids (reads op) → (Passes (writes op) → AllDead n (goes_on at op)) → IsDead (suc n) at
  step_more n at op g a h = record { dead = λ live lt. refused n at op live g a h lt }

  pub fewer : (m n at : ℕ) → m ≤ n → IsDead n at → IsDead m at
  fewer m n at le d = record { dead = λ live lt. d.dead live (omega arith) }

  pub none_dead : (at : ℕ) → IsDead 0 at
  none_dead at = record { dead = λ live lt. omega arith }

  pub step : (n at : ℕ) (op : Op) → slice_get ops at ≡ Some op → Avoids (reads op) → (Passes (writes op) → AllDead n (goes_on at op)) → IsDead n at
  step n at op g a h = fewer n (suc n) at (omega arith) (step_more n at op g a h)

  pub moved : (n p q : ℕ) → p ≡ q → IsDead n p → IsDead n q
  moved n p q e d = subst (IsDead n) e d

  pub plain : (n p q : ℕ) (op : Op) → slice_get ops p ≡ Some op → goes_on p op ≡ suc p ∷ [] → suc p ≡ q → Avoids (reads op) → (Passes (writes op) → IsDead n q) → IsDead n p
  plain n p q op g only e a h = step n p op g a (λ w. subst (AllDead n) (sym only) (moved n q (suc p) (sym e) (h w), tt))

  pub plain_more : (n p q : ℕ) (op : Op) → slice_get ops p ≡ Some op → goes_on p op ≡ suc p ∷ [] → suc p ≡ q → Avoids (reads op) → (Passes (writes op) → IsDead n q) → IsDead (suc n) p
  plain_more n p q op g only e a h = step_more n p op g a (λ w. subst (AllDead n) (sym only) (moved n q (suc p) (sym e) (h w), tt))

  pub jump : (n p q : ℕ) → slice_get ops p ≡ Some (o.Jump q) → IsDead n q → IsDead n p
  jump n p q g d = step n p (o.Jump q) g tt (λ w. (d, tt))

  pub jump_more : (n p q : ℕ) → slice_get ops p ≡ Some (o.Jump q) → IsDead n q → IsDead (suc n) p
  jump_more n p q g d = step_more n p (o.Jump q) g tt (λ w. (d, tt))

  pub branch : (n p when q r : ℕ) → slice_get ops p ≡ Some (o.Branch when q) → (t ≡ when → ⊥) → suc p ≡ r → IsDead n q → IsDead n r → IsDead n p
  branch n p when q r g ne e d f = step n p (o.Branch when q) g (ne, tt) (λ w. (d, (moved n r (suc p) (sym e) f, tt)))

  -- a loop: it isn't live at its begin for the paths of one op more than those for which it isn't when the loop comes back
  pub turns : (n at : ℕ) → ((m : ℕ) → suc m ≤ n → IsDead m at → IsDead (suc m) at) → IsDead n at
  turns n at h = upto n (omega arith)
    where
      upto : (m : ℕ) → m ≤ n → IsDead m at
      upto zero le = none_dead at
      upto (suc m) le = h m le (upto m (omega arith))

  pub front : (xs ys : List Op) (at : ℕ) → Stands at (xs ++ ys) → Stands at xs
  front [] ys at h = tt
  front (x ∷ xs) ys at h = (h.0, front xs ys (suc at) h.1)

  pub shift : (xs : List Op) (p q : ℕ) → p ≡ q → Stands p xs → Stands q xs
  shift xs p q e h = subst (λ (x : ℕ). Stands x xs) e h

  pub back : (xs ys : List Op) (at p : ℕ) → at + length xs ≡ p → Stands at (xs ++ ys) → Stands p ys
  back [] ys at p e h = let same : at ≡ p = omega arith in shift ys at p same h
  back (x ∷ xs) ys at p e h = back xs ys (suc at) p (omega arith) h.1

  stands_from : (xs : List Op) (at : ℕ) → ((i : ℕ) → slice_get ops (at + i) ≡ slice_get xs i) → Stands at xs
  stands_from [] at h = tt
  stands_from (x ∷ xs) at h = (
    let e : at ≡ at + 0 = omega arith in ap (slice_get ops) e ∙ h 0,
    stands_from xs (suc at) (λ i. let e : suc at + i ≡ at + suc i = omega arith in ap (slice_get ops) e ∙ h (suc i)),
  )

  pub all_stands : Stands 0 ops
  all_stands = stands_from ops 0 (λ i. let e : 0 + i ≡ i = omega arith in ap (slice_get ops) e)

  -- not live, for paths of any number of ops
  pub not_live : (at : ℕ) → ((n : ℕ) → IsDead n at) → IsLiveAt ops t at → ⊥
  not_live at h live = (h (suc (steps at live))).dead live (omega arith)
