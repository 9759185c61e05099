-- Lists in which one item or all are changed, and the bits of those that begin.
use Rattle.std.proofs.Common.{◌≡◌, ℕ, zero, suc, ◌+◌, ◌*◌, ◌/◌, ◌<◌, ◌≤◌, ◌↔◌, Bool, true, false, IsTrue, if◌then◌else◌, List, [], ◌∷◌, ◌++◌, length, take, drop, map, get_or, set, refl, sym, ap, subst, ◌∙◌, arith, add-one, ◌||◌}
use Rattle.std.specs.Int.{IsBitSet, bit_at}
use Rattle.std.proofs.lemmas.Nat.{bit_set_by_shift}
use Rattle.std.proofs.lemmas.Nat.Bits.{bit_at-suc, bit_at-zero, bit_at_lowest, shr_and_one}
use Rattle.board_world.specs.declared.events.Event.{Event}
use Rattle.std.specs.List.{list_any}
use Rattle.message_bus.specs.ListenerState.{ListenerState, begins_new}
use Rattle.message_bus.specs.BusState.{begun_bits, AtListener, changed, held_at, alive_at}

module _ {X : Type 0} (f : X → X) where
  -- the next item is changed too
  pub changed-next : (xs : List X) (i : ℕ) (d : X) → i < length xs
      → set (map f (take i xs) ++ drop i xs) i (f (get_or xs i d)) ≡ map f (take (suc i) xs) ++ drop (suc i) xs
  changed-next [] i d h = absurd (omega arith)
  changed-next (x ∷ xs) zero d h = refl
  changed-next (x ∷ xs) (suc i) d h = ap (λ l. f x ∷ l) (changed-next xs i d (omega arith))

  -- which was not changed yet
  pub unchanged-next : (xs : List X) (i : ℕ) (d : X) → i < length xs → get_or (map f (take i xs) ++ drop i xs) i d ≡ get_or xs i d
  unchanged-next [] i d h = absurd (omega arith)
  unchanged-next (x ∷ xs) zero d h = refl
  unchanged-next (x ∷ xs) (suc i) d h = unchanged-next xs i d (omega arith)

  pub all-changed : (xs : List X) (i : ℕ) → length xs ≤ i → map f (take i xs) ++ drop i xs ≡ map f xs
  all-changed [] zero h = refl
  all-changed [] (suc i) h = refl
  all-changed (x ∷ xs) zero h = absurd (omega arith)
  all-changed (x ∷ xs) (suc i) h = ap (λ l. f x ∷ l) (all-changed xs i (omega arith))

-- what is known of the listener at a place
pub held-get : (ls : List ListenerState) (i : ℕ) (d : ListenerState) → i < length ls → held_at i ls ≡ (get_or ls i d).hearing.held
held-get [] i d h = absurd (omega arith)
held-get (l ∷ ls) zero d h = refl
held-get (l ∷ ls) (suc i) d h = held-get ls i d (omega arith)

pub alive-get : (ls : List ListenerState) (i : ℕ) (d : ListenerState) → i < length ls → alive_at i ls ≡ (get_or ls i d).alive
alive-get [] i d h = absurd (omega arith)
alive-get (l ∷ ls) zero d h = refl
alive-get (l ∷ ls) (suc i) d h = alive-get ls i d (omega arith)

pub changed-set : (f : ListenerState → ListenerState) (ls : List ListenerState) (i : ℕ) (d : ListenerState) → i < length ls → changed f i ls ≡ set ls i (f (get_or ls i d))
changed-set f [] i d h = absurd (omega arith)
changed-set f (l ∷ ls) zero d h = refl
changed-set f (l ∷ ls) (suc i) d h = ap (λ rest. l ∷ rest) (changed-set f ls i d (omega arith))

module _ (e : Event) where
  bit : Bool → ℕ
  bit true = 1
  bit false = 0

  -- the lowest bit, and the bits behind it
  pub bits-set : (ls : List ListenerState) (i : ℕ) → (bit_at (begun_bits e ls) i ≡ 1) ↔ AtListener (λ l. IsTrue (begins_new e l)) i ls
  bits-set [] i = (λ h. absurd (omega (arith, h, bit_at-zero i)), λ h. absurd h)
  bits-set (l ∷ ls) zero = by_first (begins_new e l) (begun_bits e ls)
    where
      by_first : (b : Bool) (m : ℕ) → (bit_at ((if b then 1 else 0) + 2 * m) 0 ≡ 1) ↔ IsTrue b
      by_first true m = (λ h. refl, λ h. rw (bit_at_lowest (1 + 2 * m)) (omega arith))
      by_first false m = (λ h. absurd (let k = bit_at_lowest (0 + 2 * m) in omega (arith, h, k)), λ h. absurd (cc))
  bits-set (l ∷ ls) (suc i) = by_first (begins_new e l) (begun_bits e ls) (bits-set ls i)
    where
      by_first : (b : Bool) (m : ℕ) → ((bit_at m i ≡ 1) ↔ AtListener (λ l. IsTrue (begins_new e l)) i ls) → (bit_at ((if b then 1 else 0) + 2 * m) (suc i) ≡ 1) ↔ AtListener (λ l. IsTrue (begins_new e l)) i ls
      by_first true m h = (let half : (1 + 2 * m) / 2 ≡ m = omega arith in rw (bit_at-suc (1 + 2 * m) i, half) h)
      by_first false m h = (let half : (0 + 2 * m) / 2 ≡ m = omega arith in rw (bit_at-suc (0 + 2 * m) i, half) h)

  pub each-bit : (ls : List ListenerState) (i : ℕ) → IsBitSet (begun_bits e ls) i ↔ AtListener (λ l. IsTrue (begins_new e l)) i ls
  each-bit ls i =
      let n = begun_bits e ls in
      let shift : (bit_at n i ≡ 1) ↔ IsBitSet n i = rw (← shr_and_one n i) (bit_set_by_shift n i) in
      let set = bits-set ls i in
      (λ h. set.0 (shift.1 h), λ h. shift.0 (set.1 h))

  -- some bit is set where some listener begins a new activity
  pub some-bit : (ls : List ListenerState) → IsTrue (list_any (begins_new e) ls) ↔ (0 < begun_bits e ls)
  some-bit [] = (λ h. absurd (cc), λ h. absurd (omega arith))
  some-bit (l ∷ ls) = by_first (begins_new e l) (list_any (begins_new e) ls) (begun_bits e ls) (some-bit ls)
    where
      by_first : (b c : Bool) (m : ℕ) → IsTrue c ↔ (0 < m) → IsTrue (b || c) ↔ (0 < (if b then 1 else 0) + 2 * m)
      by_first true c m h = (λ k. omega arith, λ k. refl)
      by_first false c m h = (λ k. omega (arith, h.0 k), λ k. h.1 (omega arith))

-- the listener at a place, in a list that is that of the bus
module _ (old ls : List ListenerState) (i : ℕ) (l : ListenerState) (same : old ≡ ls) (within : i < length ls) (here : l ≡ get_or old i l) where
  in_list : l ≡ get_or ls i l
  in_list = subst (λ (xs : List ListenerState). l ≡ get_or xs i l) same here

  pub alive-here : alive_at i ls ≡ l.alive
  alive-here = alive-get ls i l within ∙ ap (λ (m : ListenerState). m.alive) (sym in_list)

  pub held-here : held_at i ls ≡ l.hearing.held
  held-here = held-get ls i l within ∙ ap (λ (m : ListenerState). m.hearing.held) (sym in_list)

  pub changed-here : (f : ListenerState → ListenerState) → set old i (f l) ≡ changed f i ls
  changed-here f = ap (λ (xs : List ListenerState). set xs i (f l)) same ∙ ap (λ (m : ListenerState). set ls i (f m)) in_list ∙ sym (changed-set f ls i l within)

-- one more listener has heard the event
pub heard-next : (f : ListenerState → ListenerState) (xs ys : List ListenerState) (i : ℕ) (l l' : ListenerState) → ys ≡ map f (take i xs) ++ drop i xs → l ≡ get_or ys i l → l' ≡ f l → i < length xs
    → set ys i l' ≡ map f (take (i + 1) xs) ++ drop (i + 1) xs
heard-next f xs ys i l l' so_far here changes within =
    let then_here : l ≡ get_or xs i l = here ∙ ap (λ (zs : List ListenerState). get_or zs i l) so_far ∙ unchanged-next f xs i l within in
    let now : set ys i l' ≡ set (map f (take i xs) ++ drop i xs) i (f (get_or xs i l)) =
    ap (λ (zs : List ListenerState). set zs i l') so_far ∙ ap (λ (m : ListenerState). set (map f (take i xs) ++ drop i xs) i m) (changes ∙ ap f then_here) in
    let more : map f (take (suc i) xs) ++ drop (suc i) xs ≡ map f (take (i + 1) xs) ++ drop (i + 1) xs = rw add-one refl in
    now ∙ changed-next f xs i l within ∙ more
