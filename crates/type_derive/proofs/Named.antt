-- How locals are found by their names, when some are added and taken away.
use Rattle.std.proofs.Common.{◌≡◌, ◌⊎◌, inl, inr, ℕ, zero, suc, ◌+◌, ◌<◌, ◌≤◌, ◌==◌, ◌||◌, ◌&&◌, Bool, true, false, cond, List, [], ◌∷◌, ◌++◌, get_or, length, take, min, refl, sym, ap, ◌∙◌, arith, subst, Option, Some, None, append_assoc, append-nil, length-append}
use Rattle.std.specs.Prelude.{is_some, slice_get, nat_le, if◌then◌else◌}
use Rattle.std.specs.Borrow.{Bor}
use Rattle.std.proofs.lemmas.List.{length-take, same_from_push, take-append-le}
use Rattle.std.proofs.lemmas.Option.{same_Some, slice_get-get_or}
use Rattle.std.proofs.Math.Seq.{take-append_seam, take-suc}
use Rattle.persistent_maps.specs.declared.maps.PersistentMap.{PersistentMap}
use Rattle.persistent_maps.specs.Maps.{value_in}
use Rattle.sts_scope.specs.declared.known.Local.{Local}
use Rattle.sts_scope.specs.declared.known.Found.{Found}
use Rattle.sts_scope.specs.declared.known.Found.TheVariants as found
use Rattle.sts_scope.specs.Places.{is_from, last_from, last_named}
use Rattle.type_derive.specs.Named.{around_of, in_scope, is_at, local_found, HasInnermost, AreNamed}

abbrev later : Option ℕ → Option ℕ → Option ℕ
later a b = elim a [ Some m ↦ Some m | None ↦ b ]

later_assoc : (a b c : Option ℕ) → later (later a b) c ≡ later a (later b c)
later_assoc (Some m) b c = refl
later_assoc None b c = refl

later_none : (a : Option ℕ) → later a None ≡ a
later_none (Some m) = refl
later_none None = refl

-- behind others
last_append : (n : ℕ) (xs ys : List Local) (x : ℕ) → last_from n (xs ++ ys) x ≡ later (last_from (n + length xs) ys x) (last_from n xs x)
last_append n [] ys x =
    let e : n ≡ n + 0 = omega arith in
    ap (λ m. last_from m ys x) e ∙ sym (later_none (last_from (n + 0) ys x))
last_append n (l ∷ xs) ys x =
    let e : suc n + length xs ≡ n + suc (length xs) = omega arith in
    let here = cond (l.name == x) (Some n) None in
    ap (λ o. later o here) (last_append (suc n) xs ys x ∙ ap (λ m. later (last_from m ys x) (last_from (suc n) xs x)) e)
    ∙ later_assoc (last_from (n + suc (length xs)) ys x) (last_from (suc n) xs x) here

-- with one more
last_added : (n : ℕ) (xs : List Local) (l : Local) (x : ℕ) → last_from n (xs ++ l ∷ []) x ≡ (if l.name == x then Some (n + length xs) else last_from n xs x)
last_added n xs l x = last_append n xs (l ∷ []) x ∙ elim (l.name == x) as (λ b. later (cond b (Some (n + length xs)) None) (last_from n xs x) ≡ cond b (Some (n + length xs)) (last_from n xs x)) [ true ↦ refl | false ↦ refl ]

around_of_append : (fs : List (Bor (List Local))) (f : Bor (List Local)) → around_of (fs ++ f ∷ []) ≡ around_of fs ++ f.now
around_of_append [] f = append-nil f.now
around_of_append (g ∷ gs) f = ap (λ ls. g.now ++ ls) (around_of_append gs f) ∙ sym (append_assoc g.now (around_of gs) f.now)

some_later : (own around : Option ℕ) → (is_some around || is_some own) ≡ is_some (later own around)
some_later (Some i) (Some j) = refl
some_later (Some i) None = refl
some_later None (Some j) = refl
some_later None None = refl

named_here : (b : Bool) (n m : ℕ) (o u : Option ℕ) → is_some o ≡ is_some u → is_some (later o (cond b (Some n) None)) ≡ is_some (later u (cond b (Some m) None))
named_here b n m (Some i) (Some j) h = refl
named_here b n m (Some i) None h = cc
named_here b n m None (Some j) h = cc
named_here true n m None None h = refl
named_here false n m None None h = refl

-- a name has a local, whichever number the first one has
same_named : (n m : ℕ) (ls : List Local) (x : ℕ) → is_some (last_from n ls x) ≡ is_some (last_from m ls x)
same_named n m [] x = refl
same_named n m (l ∷ ls) x = named_here (l.name == x) n m (last_from (suc n) ls x) (last_from (suc m) ls x) (same_named (suc n) (suc m) ls x)

named_append : (outer own : List Local) (x : ℕ) → is_some (last_named (outer ++ own) x) ≡ (is_some (last_named outer x) || is_some (last_named own x))
named_append outer own x =
    let n = 0 + length outer in
    ap is_some (last_append 0 outer own x) ∙ sym (some_later (last_from n own x) (last_named outer x)) ∙ ap (λ b. is_some (last_named outer x) || b) (same_named n 0 own x)

-- the place that is found has the name
later_first : (n j : ℕ) (o : Option ℕ) (b : Bool) → ((m : ℕ) → o ≡ Some m → n < m) → later o (cond b (Some n) None) ≡ Some j → n ≤ j
later_first n j (Some m) b g h = let e : m ≡ j = same_Some m j h in let q : n < m = g m refl in omega (arith, e, q)
later_first n j None true g h = let e : n ≡ j = same_Some n j h in omega (arith, e)
later_first n j None false g h = absurd (cc)

from_first : (n : ℕ) (ls : List Local) (x j : ℕ) → last_from n ls x ≡ Some j → n ≤ j
from_first n [] x j h = absurd (cc)
from_first n (l ∷ ls) x j h =
    later_first n j (last_from (suc n) ls x) (l.name == x) (λ m e. let q : suc n ≤ m = from_first (suc n) ls x m e in omega (arith, q)) h

named_first : (n : ℕ) (o : Option ℕ) (b : Bool) → ((m : ℕ) → o ≡ Some m → n < m) → later o (cond b (Some n) None) ≡ Some n → b ≡ true
named_first n (Some m) b g h = absurd (let e : m ≡ n = same_Some m n h in let q : n < m = g m refl in omega (arith, e, q))
named_first n None true g h = refl
named_first n None false g h = absurd (cc)

named_later : (n j : ℕ) (o : Option ℕ) (b : Bool) → n < j → later o (cond b (Some n) None) ≡ Some j → o ≡ Some j
named_later n j (Some m) b q h = h
named_later n j None true q h = absurd (let e : n ≡ j = same_Some n j h in omega (arith, e, q))
named_later n j None false q h = absurd (cc)

is_there : (n : ℕ) (ls : List Local) (x i j : ℕ) → j ≡ n + i → last_from n ls x ≡ Some j → is_at ls i x ≡ true
is_there n [] x i j e h = absurd (cc)
is_there n (l ∷ ls) x zero j e h =
    let here : j ≡ n = omega (arith, e) in
    named_first n (last_from (suc n) ls x) (l.name == x) (λ m u. let q : suc n ≤ m = from_first (suc n) ls x m u in omega (arith, q)) (h ∙ ap Some here)
is_there n (l ∷ ls) x (suc i) j e h =
    let q : n < j = omega (arith, e) in
    let u : j ≡ suc n + i = omega (arith, e) in
    is_there (suc n) ls x i j u (named_later n j (last_from (suc n) ls x) (l.name == x) q h)

-- where none is found, no place has it
none_later : (n : ℕ) (o : Option ℕ) (b : Bool) → later o (cond b (Some n) None) ≡ None → (o ≡ None) × (b ≡ false)
none_later n (Some m) b h = absurd (cc)
none_later n None true h = absurd (cc)
none_later n None false h = (refl, refl)

none_there : (n : ℕ) (ls : List Local) (x i : ℕ) → last_from n ls x ≡ None → is_at ls i x ≡ false
none_there n [] x i h = refl
none_there n (l ∷ ls) x zero h = (none_later n (last_from (suc n) ls x) (l.name == x) h).1
none_there n (l ∷ ls) x (suc i) h = none_there (suc n) ls x i (none_later n (last_from (suc n) ls x) (l.name == x) h).0

-- What the map says of a name: a local of this function, and one of a function around.
own_by : (around own : List Local) (map : PersistentMap) (x i : ℕ) (o : Option ℕ) → last_named own x ≡ o → HasInnermost around own map → value_in map x ≡ Some i → is_at own i x ≡ true → o ≡ Some i
own_by around own map x i (Some j) e h v a = sym (h.own_are x j e) ∙ v
own_by around own map x i None e h v a = absurd (let f : is_at own i x ≡ false = none_there 0 own x i e in cc)

around_by : (around own : List Local) (map : PersistentMap) (x i : ℕ) (o : Option ℕ) → last_named own x ≡ o → HasInnermost around own map → value_in map x ≡ Some i → is_at own i x ≡ false →
    (o ≡ None) × (is_some (last_named around x) ≡ true)
around_by around own map x i (Some j) e h v a =
    absurd (let same : j ≡ i = same_Some j i (sym (h.own_are x j e) ∙ v) in let at : j ≡ 0 + i = omega (arith, same) in let t : is_at own i x ≡ true = is_there 0 own x i j at e in cc)
around_by around own map x i None e h v a = (refl, sym (h.others_are x e) ∙ ap is_some v)

abbrev found_by : Option ℕ → Bool → Option Found
found_by o b = elim o [ Some i ↦ Some (found.Local i) | None ↦ if b then Some found.Captured else None ]

pub found_here : (around own : List Local) (block : ℕ) (map : PersistentMap) (x i : ℕ) → HasInnermost around own map → value_in map x ≡ Some i → is_at own i x ≡ true →
    local_found (in_scope around own block) x ≡ Some (found.Local i)
found_here around own block map x i h v a = ap (λ o. found_by o (is_some (last_named around x))) (own_by around own map x i (last_named own x) refl h v a)

pub found_around : (around own : List Local) (block : ℕ) (map : PersistentMap) (x i : ℕ) → HasInnermost around own map → value_in map x ≡ Some i → is_at own i x ≡ false →
    local_found (in_scope around own block) x ≡ Some found.Captured
found_around around own block map x i h v a =
    let both = around_by around own map x i (last_named own x) refl h v a in
    ap (λ o. found_by o (is_some (last_named around x))) both.0 ∙ ap (found_by None) both.1

-- And of a second one in the block.
twice_at : (around own : List Local) (block : ℕ) (map : PersistentMap) (x i : ℕ) (b : Bool) → HasInnermost around own map → value_in map x ≡ Some i → is_at own i x ≡ b →
    is_from block (last_named own x) ≡ (nat_le block i && b)
twice_at around own block map x i true h v a =
    ap (is_from block) (own_by around own map x i (last_named own x) refl h v a) ∙ elim (nat_le block i) as (λ c. c ≡ (c && true)) [ true ↦ refl | false ↦ refl ]
twice_at around own block map x i false h v a =
    ap (is_from block) (around_by around own map x i (last_named own x) refl h v a).0 ∙ elim (nat_le block i) as (λ c. false ≡ (c && false)) [ true ↦ refl | false ↦ refl ]

pub twice_found : (around own : List Local) (block : ℕ) (map : PersistentMap) (x i : ℕ) → HasInnermost around own map → value_in map x ≡ Some i →
    is_from block (last_named own x) ≡ (nat_le block i && is_at own i x)
twice_found around own block map x i h v = twice_at around own block map x i (is_at own i x) h v refl

-- another map with the same values
has_same : (around own : List Local) (a b : PersistentMap) → ((y : ℕ) → value_in b y ≡ value_in a y) → HasInnermost around own a → HasInnermost around own b
has_same around own a b g h = record { own_are = λ x i e. g x ∙ h.own_are x i e; others_are = λ x e. ap is_some (g x) ∙ h.others_are x e }

-- in a function that stands in this one
inside_by : (around own : List Local) (map : PersistentMap) (x : ℕ) (o : Option ℕ) → last_named own x ≡ o → HasInnermost around own map →
    is_some (value_in map x) ≡ (is_some (last_named around x) || is_some o)
inside_by around own map x (Some j) e h = ap is_some (h.own_are x j e) ∙ elim (is_some (last_named around x)) as (λ b. true ≡ (b || true)) [ true ↦ refl | false ↦ refl ]
inside_by around own map x None e h = h.others_are x e ∙ elim (is_some (last_named around x)) as (λ b. b ≡ (b || false)) [ true ↦ refl | false ↦ refl ]

has_inside : (around own : List Local) (map : PersistentMap) → HasInnermost around own map → HasInnermost (around ++ own) [] map
has_inside around own map h = record {
  own_are = λ x i e. absurd (cc);
  others_are = λ x e. inside_by around own map x (last_named own x) refl h ∙ sym (named_append around own x);
}

-- the locals around are then those of the functions around, and those of this one
pub around_inside : (fs slice all : List (Bor (List Local))) (f : Bor (List Local)) (own : List Local) → all ≡ slice ++ f ∷ [] → slice ≡ fs → f.now ≡ own → around_of all ≡ around_of fs ++ own
around_inside fs slice all f own is slice_is same =
    ap around_of (is ∙ ap (λ gs. gs ++ f ∷ []) slice_is) ∙ around_of_append fs f ∙ ap (λ ls. around_of fs ++ ls) same

pub named_inside : (around own empty : List Local) (map shared : PersistentMap) (none : List PersistentMap) → HasInnermost around own map → ((y : ℕ) → value_in shared y ≡ value_in map y) →
    empty ≡ [] → none ≡ [] → AreNamed (around ++ own) empty shared none
named_inside around own empty map shared none h same e n = record {
  in_map = subst (λ (ls : List Local). HasInnermost (around ++ own) ls shared) (sym e) (has_same (around ++ own) [] map shared same (has_inside around own map h));
  as_many = ap length n ∙ sym (ap length e);
  were = λ k earlier is. absurd (let z : slice_get [] k ≡ Some earlier = ap (λ ms. slice_get ms k) (sym n) ∙ is in cc);
}

added_own : (b : Bool) (n i : ℕ) (own old : Option ℕ) → (own ≡ Some i → old ≡ Some i) → cond b (Some n) own ≡ Some i → cond b (Some n) old ≡ Some i
added_own true n i own old h e = e
added_own false n i own old h e = h e

added_other : (b : Bool) (n : ℕ) (own old around : Option ℕ) → (own ≡ None → is_some old ≡ is_some around) → cond b (Some n) own ≡ None → is_some (cond b (Some n) old) ≡ is_some around
added_other true n own old around h e = absurd (cc)
added_other false n own old around h e = h e

-- when a local was added
has_added : (around own : List Local) (old new : PersistentMap) (l : Local) (n : ℕ) → n ≡ length own → HasInnermost around own old → ((y : ℕ) → value_in new y ≡ (if l.name == y then Some n else value_in old y)) →
    HasInnermost around (own ++ l ∷ []) new
has_added around own old new l n is h g =
    let at : n ≡ 0 + length own = omega (arith, is) in
    let now : (x : ℕ) → last_named (own ++ l ∷ []) x ≡ cond (l.name == x) (Some n) (last_named own x) = λ x. last_added 0 own l x ∙ ap (λ m. cond (l.name == x) (Some m) (last_named own x)) (sym at) in
    record {
      own_are = λ x i e. g x ∙ added_own (l.name == x) n i (last_named own x) (value_in old x) (λ u. h.own_are x i u) (sym (now x) ∙ e);
      others_are = λ x e. ap is_some (g x) ∙ added_other (l.name == x) n (last_named own x) (value_in old x) (last_named around x) (λ u. h.others_are x u) (sym (now x) ∙ e);
    }

get_before : (ms : List PersistentMap) (m e : PersistentMap) (k : ℕ) → slice_get (ms ++ m ∷ []) k ≡ Some e → ((k < length ms) × (slice_get ms k ≡ Some e)) ⊎ ((k ≡ length ms) × (m ≡ e))
get_before [] m e zero h = inr (refl, same_Some m e h)
get_before [] m e (suc k) h = absurd (cc)
get_before (n ∷ ms) m e zero h = inl (omega arith, h)
get_before (n ∷ ms) m e (suc k) h =
    elim (get_before ms m e k h) [
      | inl p ↦ inl (let q : k < length ms = p.0 in omega (arith, q), p.1)
      | inr p ↦ inr (ap suc p.0, p.1)
    ]

earlier_added : (around own : List Local) (old shared earlier : PersistentMap) (before : List PersistentMap) (l : Local) (k : ℕ) → AreNamed around own old before → ((y : ℕ) → value_in shared y ≡ value_in old y) →
    ((k < length before) × (slice_get before k ≡ Some earlier)) ⊎ ((k ≡ length before) × (shared ≡ earlier)) → HasInnermost around (take k (own ++ l ∷ [])) earlier
earlier_added around own old shared earlier before l k h same (inl p) =
    let q : k ≤ length own = omega (arith, p.0, h.as_many) in
    subst (λ (ls : List Local). HasInnermost around ls earlier) (sym (take-append-le k own (l ∷ []) q)) (h.were k earlier p.1)
earlier_added around own old shared earlier before l k h same (inr p) =
    subst (λ (ls : List Local). HasInnermost around ls earlier) (sym (ap (λ i. take i (own ++ l ∷ [])) (p.0 ∙ h.as_many) ∙ take-append_seam own (l ∷ [])))
    (subst (λ (m : PersistentMap). HasInnermost around own m) p.1 (has_same around own old shared same h.in_map))

pub named_added : (around own : List Local) (old new shared : PersistentMap) (before : List PersistentMap) (l : Local) (n : ℕ) → n ≡ length own → AreNamed around own old before →
    ((y : ℕ) → value_in new y ≡ (if l.name == y then Some n else value_in old y)) → ((y : ℕ) → value_in shared y ≡ value_in old y) → AreNamed around (own ++ l ∷ []) new (before ++ shared ∷ [])
named_added around own old new shared before l n is h g same = record {
  in_map = has_added around own old new l n is h.in_map g;
  as_many = length-append before (shared ∷ []) ∙ ap (λ k. k + 1) h.as_many ∙ sym (length-append own (l ∷ []));
  were = λ k earlier e. earlier_added around own old shared earlier before l k h same (get_before before shared earlier k e);
}

-- when some are taken away
take_less : (ls : List Local) (k n : ℕ) → k ≤ n → take k (take n ls) ≡ take k ls
take_less [] zero zero q = refl
take_less [] zero (suc n) q = refl
take_less [] (suc k) zero q = refl
take_less [] (suc k) (suc n) q = refl
take_less (l ∷ ls) zero zero q = refl
take_less (l ∷ ls) zero (suc n) q = refl
take_less (l ∷ ls) (suc k) zero q = absurd (let z : suc k ≤ 0 = q in omega (arith, z))
take_less (l ∷ ls) (suc k) (suc n) q = let r : k ≤ n = omega (arith, q) in ap (λ rest. l ∷ rest) (take_less ls k n r)

get_left : (ms : List PersistentMap) (k n : ℕ) (e : PersistentMap) → slice_get (take n ms) k ≡ Some e → (k < n) × (slice_get ms k ≡ Some e)
get_left [] k zero e h = absurd (cc)
get_left [] k (suc n) e h = absurd (cc)
get_left (m ∷ ms) k zero e h = absurd (cc)
get_left (m ∷ ms) zero (suc n) e h = (omega arith, h)
get_left (m ∷ ms) (suc k) (suc n) e h = let p = get_left ms k n e h in let q : k < n = p.0 in (omega (arith, q), p.1)

get_last : (ms left : List PersistentMap) (n : ℕ) (e : PersistentMap) → n < length ms → take (n + 1) ms ≡ left ++ e ∷ [] → (left ≡ take n ms) × (slice_get ms n ≡ Some e)
get_last ms left n e q h =
    let next : suc n ≡ n + 1 = omega arith in
    let same = same_from_push left (take n ms) e (get_or ms n e) (sym h ∙ sym (ap (λ k. take k ms) next) ∙ take-suc ms n e q) in
    (same.0, slice_get-get_or ms n e q ∙ ap Some (sym same.1))

pub named_left : (around own left : List Local) (map earlier : PersistentMap) (before rest : List PersistentMap) (n : ℕ) → AreNamed around own map before → n < length own → left ≡ take n own →
    take (n + 1) before ≡ rest ++ earlier ∷ [] → AreNamed around left earlier rest
named_left around own left map earlier before rest n h q is split =
    let within : n < length before = omega (arith, q, h.as_many) in
    let last = get_last before rest n earlier within split in
    let now : AreNamed around (take n own) earlier (take n before) = record {
      in_map = h.were n earlier last.1;
      as_many = length-take n before ∙ ap (λ k. min n k) h.as_many ∙ sym (length-take n own);
      were = λ k e u.
          let p = get_left before k n e u in
          let r : k ≤ n = omega (arith, p.0) in
          subst (λ (ls : List Local). HasInnermost around ls e) (sym (take_less own k n r)) (h.were k e p.1);
    } in
    subst (λ (ls : List Local). AreNamed around ls earlier rest) (sym is) (subst (λ ms. AreNamed around (take n own) earlier ms) (sym last.0) now)
