-- Values that stand one behind the other: one of them, one changed, one more, one less.
use Rattle.std.proofs.Common.{zero, suc, ◌≡◌, ℕ, ◌+◌, ◌<◌, List, [], ◌∷◌, ◌++◌, length, Option, Some, None, refl, sym, ap, ◌∙◌, subst, arith, slice_set, slice_index, get_or-set_same, get_or-set_other}
use Rattle.sts_syntax.specs.TypeRules.{entry}
use Rattle.sts_meaning.specs.Values.{Value}
use Rattle.sts_meaning.specs.Heaps.{last, behind}
use Rattle.arena_values.specs.Lies.{Stand}
use Rattle.arena_values.proofs.Update.{stand_same}

pub entry_below : {X : Type 0} (xs : List X) (i : ℕ) (x : X) → entry xs i ≡ Some x → i < length xs
entry_below [] i x e = cc
entry_below (y ∷ ys) zero x e = omega arith
entry_below (y ∷ ys) (suc i) x e = let l = entry_below ys i x e in omega arith

pub entry_none : {X : Type 0} (xs : List X) (i : ℕ) → entry xs i ≡ None → length xs < i + 1
entry_none [] i e = omega arith
entry_none (y ∷ ys) zero e = cc
entry_none (y ∷ ys) (suc i) e = let l = entry_none ys i e in omega arith

pub changed_length : {X : Type 0} (xs : List X) (i : ℕ) (y : X) → length (slice_set xs i y) ≡ length xs
changed_length [] i y = refl
changed_length (x ∷ xs) zero y = refl
changed_length (x ∷ xs) (suc i) y = ap suc (changed_length xs i y)

pub more_length : {X : Type 0} (xs : List X) (y : X) → length (xs ++ y ∷ []) ≡ length xs + 1
more_length [] y = refl
more_length (x ∷ xs) y = let l = more_length xs y in omega arith

-- a list with a last item is the items before it and that one
last_behind : (v : Value) (vs : List Value) (o : Option (Value × List Value)) (x : Value × List Value) → ((y : Value × List Value) → o ≡ Some y → vs ≡ y.1 ++ y.0 ∷ []) → (o ≡ None → vs ≡ []) → behind v o ≡ Some x → v ∷ vs ≡ x.1 ++ x.0 ∷ []
last_behind v vs None x h n e =
    let a : x ≡ (v, []) = (cc) in
    subst (λ (y : Value × List Value). v ∷ vs ≡ y.1 ++ y.0 ∷ []) (sym a) (ap (λ l. v ∷ l) (n refl))
last_behind v vs (Some y) x h n e =
    let a : x ≡ (y.0, v ∷ y.1) = (cc) in
    subst (λ (z : Value × List Value). v ∷ vs ≡ z.1 ++ z.0 ∷ []) (sym a) (ap (λ l. v ∷ l) (h y refl))

pub last_none : (vs : List Value) → last vs ≡ None → vs ≡ []
last_none [] e = refl
last_none (v ∷ vs) e = by (last vs) e
  where
    by : (o : Option (Value × List Value)) → behind v o ≡ None → v ∷ vs ≡ []
    by None e = cc
    by (Some x) e = cc

pub last_is : (vs : List Value) (x : Value × List Value) → last vs ≡ Some x → vs ≡ x.1 ++ x.0 ∷ []
last_is [] x e = cc
last_is (v ∷ vs) x e = last_behind v vs (last vs) x (λ y q. last_is vs y q) (last_none vs) e

module _ (Is : Value → ℕ → Type 0) (class_word : ℕ → ℕ) where
  abbrev pub Stands : List Value → List ℕ → ℕ → Type 0
  Stands vs words k = Stand Is class_word vs words k

  pub stand_at : (vs : List Value) (words : List ℕ) (k i : ℕ) (v : Value) → entry vs i ≡ Some v → Stands vs words k → Is v (slice_index words (k + i))
  stand_at [] words k i v e s = cc
  stand_at (u ∷ vs) words k zero v e s = subst (λ (x : Value). Is x (slice_index words (k + 0))) (let q : u ≡ v = (cc) in q) (subst (λ j. Is u (slice_index words j)) (omega arith) s.0)
  stand_at (u ∷ vs) words k (suc i) v e s = subst (λ j. Is v (slice_index words j)) (omega arith) (stand_at vs words (k + 1) i v e s.1)

  pub stand_set : (vs : List Value) (words : List ℕ) (k i : ℕ) (v : Value) (w : ℕ) → i < length vs → k + i < length words → Is v w → Stands vs words k → Stands (slice_set vs i v) (slice_set words (k + i) w) k
  stand_set [] words k i v w l m e s = tt
  stand_set (u ∷ vs) words k zero v w l m e s =
      let z : k + 0 ≡ k = omega arith in (
        subst (Is v) (sym (ap (λ j. slice_index (slice_set words j w) k) z ∙ get_or-set_same words k w 0 (omega arith))) e,
        stand_same Is class_word vs words (slice_set words (k + 0) w) (k + 1) (λ i l'. get_or-set_other words (k + 0) (k + 1 + i) w 0 (omega arith)) s.1,
      )
  stand_set (u ∷ vs) words k (suc i) v w l m e s =
      let z : k + suc i ≡ k + 1 + i = omega arith in (
        subst (Is u) (sym (get_or-set_other words (k + suc i) k w 0 (omega arith))) s.0,
        subst (λ j. Stands (slice_set vs i v) (slice_set words j w) (k + 1)) (sym z) (stand_set vs words (k + 1) i v w (omega arith) (omega arith) e s.1),
      )

  pub stand_more : (vs : List Value) (words : List ℕ) (k : ℕ) (v : Value) → Stands vs words k → Is v (slice_index words (k + length vs)) → Stands (vs ++ v ∷ []) words k
  stand_more [] words k v s e = (subst (λ j. Is v (slice_index words j)) (omega arith) e, tt)
  stand_more (u ∷ vs) words k v s e = (s.0, stand_more vs words (k + 1) v s.1 (subst (λ j. Is v (slice_index words j)) (omega arith) e))

  pub stand_front : (vs : List Value) (words : List ℕ) (k : ℕ) (v : Value) → Stands (vs ++ v ∷ []) words k → Stands vs words k × Is v (slice_index words (k + length vs))
  stand_front [] words k v s = (tt, subst (λ j. Is v (slice_index words j)) (omega arith) s.0)
  stand_front (u ∷ vs) words k v s =
      let r = stand_front vs words (k + 1) v s.1 in
      ((s.0, r.0), subst (λ j. Is v (slice_index words j)) (omega arith) r.1)

  pub stand_copied : (vs : List Value) (xs ys : List ℕ) (j k : ℕ) → ((i : ℕ) → i < length vs → slice_index ys (k + i) ≡ slice_index xs (j + i)) → Stands vs xs j → Stands vs ys k
  stand_copied [] xs ys j k h s = tt
  stand_copied (v ∷ vs) xs ys j k h s = (
    subst (Is v) (sym (ap (slice_index ys) (omega arith) ∙ (h 0 (omega arith) ∙ ap (slice_index xs) (omega arith)))) s.0,
    stand_copied vs xs ys (j + 1) (k + 1) (λ i l. ap (slice_index ys) (omega arith) ∙ (h (suc i) (omega arith) ∙ ap (slice_index xs) (omega arith))) s.1,
  )

  -- the same value again and again
  pub stand_all : (vs : List Value) (words : List ℕ) (k : ℕ) → ((i : ℕ) (v : Value) → entry vs i ≡ Some v → Is v (slice_index words (k + i))) → Stands vs words k
  stand_all [] words k h = tt
  stand_all (v ∷ vs) words k h = (subst (λ j. Is v (slice_index words j)) (omega arith) (h 0 v refl), stand_all vs words (k + 1) (λ i x e. subst (λ j. Is x (slice_index words j)) (omega arith) (h (suc i) x e)))
