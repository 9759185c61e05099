-- Places that are chosen one after another are sound.
use Rattle.std.proofs.Common.{◌≡◌, ℕ, ◌+◌, ◌≤◌, ◌<◌, List, [], ◌∷◌, ◌++◌, length, get_or, set, Some, get_or-set_same, get_or-set_other, refl, sym, ap, ◌∙◌, subst, arith, inl, inr}
use Rattle.std.proofs.lemmas.List.{length_push, get_or_push, get_or_append_left, length-set}
use Rattle.std.proofs.lemmas.Bool.{cases_eq, cases_order}
use Rattle.flat_ir.specs.declared.ops.Function.{Function}
use Rattle.flat_ir.specs.Ops.{writes}
use Rattle.flat_ir.specs.WellFormed.{temporaries}
use Rattle.flat_ir.specs.Liveness.{is_kept, OnlyParametersAreLive}
use Rattle.register_assign.specs.declared.places.Place.{Place}
use Rattle.register_assign.specs.declared.places.Place.TheVariants.{Reg, Slot, Incoming}
use Rattle.register_assign.specs.declared.intervals.Interval.{Interval}
use Rattle.register_assign.specs.Sound.{place_of, IsWithin, ArePlacesSound}
use Rattle.register_assign.specs.Intervals.{Covers, HasEntry, AreApart, interval_of, IsFree, IsHome, AreHomes, AreIntervals, AreAssigned}

-- what holds of each item so far and of one more
pub pushed : {X : Type 0} (P : ℕ → X → Type 0) (xs : List X) (x d : X) (n : ℕ) → length xs ≡ n → ((u : ℕ) → u < n → P u (get_or xs u d)) → P n x → (u : ℕ) → u < n + 1 → P u (get_or (xs ++ x ∷ []) u d)
pushed P xs x d n e h here u l =
    elim (cases_eq u n) [
      | inl s ↦ subst (P u) (sym (ap (λ k. get_or (xs ++ x ∷ []) k d) s ∙ get_or_push xs x d n e)) (subst (λ k. P k x) (sym s) here)
      | inr b ↦ let i : u < length xs = omega arith in subst (P u) (sym (get_or_append_left xs (x ∷ []) d u i)) (h u (omega arith))
    ]

-- one more temporary's own place, and one more interval
pub own_first : (f : Function) → AreHomes f [] 0
own_first f = record { long = refl; own = λ u l. absurd (omega arith) }

pub own_step : (f : Function) (places : List Place) (n : ℕ) (p : Place) → AreHomes f places n → IsHome f.params n p → AreHomes f (places ++ p ∷ []) (n + 1)
own_step f places n p a o = record {
  long = length_push places p ∙ ap (λ k. k + 1) a.long;
  own = pushed (λ u q. IsHome f.params u q) places p (Reg 0) n a.long a.own o;
}

pub intervals_first : (f : Function) → AreIntervals f [] 0
intervals_first f = record { long = refl; covers = λ u l. absurd (omega arith); entry = λ u l p. absurd (omega arith) }

pub intervals_step : (f : Function) (intervals : List Interval) (n : ℕ) (interval : Interval) → AreIntervals f intervals n → Covers f.ops n interval → (n < f.params → HasEntry interval)
    → AreIntervals f (intervals ++ interval ∷ []) (n + 1)
intervals_step f intervals n interval a covers entry = record {
  long = length_push intervals interval ∙ ap (λ k. k + 1) a.long;
  covers = pushed (λ u i. Covers f.ops u i) intervals interval (record { first = 0; end = 0 }) n a.long a.covers covers;
  entry = pushed (λ u i. u < f.params → HasEntry i) intervals interval (record { first = 0; end = 0 }) n a.long a.entry entry;
}

-- a place of its own
own_within : (f : Function) (u : ℕ) → u < temporaries f → (p : Place) → IsHome f.params u p → IsWithin f p
own_within f u l (Reg r) o = absurd o
own_within f u l (Slot j) o = omega arith
own_within f u l (Incoming j) o = let a = o.0 in let b = o.1 in omega arith

own_slot : (params u : ℕ) (p : Place) → IsHome params u p → (j : ℕ) → p ≡ Slot j → params + j ≡ u
own_slot params u (Reg r) o j e = absurd o
own_slot params u (Slot k) o j e = let s : k ≡ j = cc in omega arith
own_slot params u (Incoming k) o j e = absurd (cc)

own_incoming : (params u : ℕ) (p : Place) → IsHome params u p → (j : ℕ) → p ≡ Incoming j → j ≡ u
own_incoming params u (Reg r) o j e = absurd o
own_incoming params u (Slot k) o j e = absurd (cc)
own_incoming params u (Incoming k) o j e = let s : k ≡ j = cc in let h = o.0 in omega arith

own_same : (params u v : ℕ) (p q : Place) → IsHome params u p → IsHome params v q → p ≡ q → u ≡ v
own_same params u v (Reg r) q o n e = absurd o
own_same params u v (Slot j) (Reg r) o n e = absurd n
own_same params u v (Slot j) (Slot k) o n e = let s : j ≡ k = cc in omega arith
own_same params u v (Slot j) (Incoming k) o n e = absurd (cc)
own_same params u v (Incoming j) (Reg r) o n e = absurd n
own_same params u v (Incoming j) (Slot k) o n e = absurd (cc)
own_same params u v (Incoming j) (Incoming k) o n e = let s : j ≡ k = cc in let a = o.0 in let b = n.0 in omega arith

pub assigned_own : (f : Function) (places : List Place) (intervals : List Interval) → AreHomes f places (temporaries f) → AreIntervals f intervals (temporaries f)
    → AreAssigned f places intervals
assigned_own f places intervals o i = record {
  long = o.long;
  intervals_are = i;
  within = λ u l. own_within f u l (place_of places u) (o.own u l);
  slots = λ u l j e. own_slot f.params u (place_of places u) (o.own u l) j e;
  incoming = λ u l j e. own_incoming f.params u (place_of places u) (o.own u l) j e;
  apart = λ u v less more e. let s = own_same f.params u v (place_of places u) (place_of places v) (o.own u (omega arith)) (o.own v more) e in absurd (omega arith);
}

-- one temporary goes to a register that is free in its interval
pub assigned_moved : (f : Function) (places : List Place) (intervals : List Interval) (t r : ℕ) → AreAssigned f places intervals → t < temporaries f → 4 ≤ r → r ≤ 7
    → IsFree r places intervals (interval_of intervals t) → AreAssigned f (set places t (Reg r)) intervals
assigned_moved f places intervals t r a l low high free =
    let n = a.long in
    let same : place_of (set places t (Reg r)) t ≡ Reg r = get_or-set_same places t (Reg r) (Reg 0) (omega arith) in
    let other : (u : ℕ) → (u ≡ t → ⊥) → place_of (set places t (Reg r)) u ≡ place_of places u = λ u d. get_or-set_other places t u (Reg r) (Reg 0) d in
    let near : (u : ℕ) → u < temporaries f → (u ≡ t → ⊥) → place_of (set places t (Reg r)) u ≡ place_of (set places t (Reg r)) t → AreApart (interval_of intervals u) (interval_of intervals t)
    = λ u m d e. free u (omega arith) (sym (other u d) ∙ (e ∙ same)) in
    record {
      long = length-set places t (Reg r) ∙ n;
      intervals_are = a.intervals_are;
      within = λ u m. elim (cases_eq u t) [
        | inl s ↦ subst (IsWithin f) (sym (ap (place_of (set places t (Reg r))) s ∙ same)) (low, high)
        | inr d ↦ subst (IsWithin f) (sym (other u d)) (a.within u m)
      ];
      slots = λ u m j e. elim (cases_eq u t) [
        | inl s ↦ let b : Reg r ≡ Slot j = sym (ap (place_of (set places t (Reg r))) s ∙ same) ∙ e in absurd (cc)
        | inr d ↦ a.slots u m j (sym (other u d) ∙ e)
      ];
      incoming = λ u m j e. elim (cases_eq u t) [
        | inl s ↦ let b : Reg r ≡ Incoming j = sym (ap (place_of (set places t (Reg r))) s ∙ same) ∙ e in absurd (cc)
        | inr d ↦ a.incoming u m j (sym (other u d) ∙ e)
      ];
      apart = λ u v less more e. elim (cases_eq u t) [
        | inl s ↦
            let d : v ≡ t → ⊥ = λ q. omega arith in
            let e' : place_of (set places t (Reg r)) v ≡ place_of (set places t (Reg r)) t = sym e ∙ ap (place_of (set places t (Reg r))) s in
            subst (λ (k : ℕ). AreApart (interval_of intervals k) (interval_of intervals v)) (sym s) (turned (interval_of intervals v) (interval_of intervals t) (near v more d e'))
        | inr d ↦ elim (cases_eq v t) [
          | inl s ↦
              let e' : place_of (set places t (Reg r)) u ≡ place_of (set places t (Reg r)) t = e ∙ ap (place_of (set places t (Reg r))) s in
              subst (λ (k : ℕ). AreApart (interval_of intervals u) (interval_of intervals k)) (sym s) (near u (omega arith) d e')
          | inr g ↦ a.apart u v less more (sym (other u d) ∙ (e ∙ other v g))
        ]
      ];
    }
  where
    turned : (x y : Interval) → AreApart x y → AreApart y x
    turned x y (inl h) = inr h
    turned x y (inr h) = inl h

-- of two busy temporaries in one place at one op, one is the other
busy_apart : (a b : Interval) (at : ℕ) → AreApart a b → (a.first ≤ at) × (at < a.end) → (b.first ≤ at) × (at < b.end) → ⊥
busy_apart a b at (inl h) p q = let x = p.0 in let y = p.1 in let z = q.0 in let w = q.1 in omega arith
busy_apart a b at (inr h) p q = let x = p.0 in let y = p.1 in let z = q.0 in let w = q.1 in omega arith

busy_same : (f : Function) (places : List Place) (intervals : List Interval) (t u at : ℕ) → AreAssigned f places intervals → t < temporaries f → u < temporaries f → place_of places t ≡ place_of places u
    → ((interval_of intervals t).first ≤ at) × (at < (interval_of intervals t).end) → ((interval_of intervals u).first ≤ at) × (at < (interval_of intervals u).end) → t ≡ u
busy_same f places intervals t u at a l m e p q =
    elim (cases_order t u) [
      | inl s ↦ s
      | inr o ↦ elim o [
        | inl h ↦ absurd (busy_apart (interval_of intervals t) (interval_of intervals u) at (a.apart t u h m e) p q)
        | inr h ↦ absurd (busy_apart (interval_of intervals u) (interval_of intervals t) at (a.apart u t h l (sym e)) q p)
      ]
    ]

at_entry : (i : Interval) → HasEntry i → (i.first ≤ 0) × (0 < i.end)
at_entry i h = let x = h.0 in (omega arith, h.1)

pub assigned_last : (f : Function) (places : List Place) (intervals : List Interval) → OnlyParametersAreLive f → AreAssigned f places intervals → ArePlacesSound f places
assigned_last f places intervals entry a = record {
  one_each = a.long;
  entry = entry;
  apart = λ t u l m e. busy_same f places intervals t u 0 a (omega arith) (omega arith) e (at_entry (interval_of intervals t) ((a.intervals_are).entry t (omega arith) l)) (at_entry (interval_of intervals u) ((a.intervals_are).entry u (omega arith) m));
  stays = λ t j l e. a.incoming t (omega arith) j e;
  written = λ at t u op g w live l m e.
      elim (cases_eq u t) [
        | inl s ↦ s
        | inr n ↦
            let same : Some live.0 ≡ Some op = sym live.2 ∙ g in
            let so : live.0 ≡ op = cc in
            let other : writes live.0 ≡ Some u → ⊥ = λ x. let y : Some t ≡ Some u = sym w ∙ (ap writes (sym so) ∙ x) in let z : t ≡ u = cc in n (sym z) in
            busy_same f places intervals u t at a m l e
            (((a.intervals_are).covers u m).busy at (inl (is_kept at live.1 live.0 live.2 other live.3 live.4)))
            (((a.intervals_are).covers t l).busy at (inr (op, g, w)))
      ];
  within = a.within;
}
