-- The choice of places, step by step.
use Rattle.std.proofs.Common.{◌≡◌, ℕ, zero, suc, ◌+◌, ◌-◌, ◌≤◌, ◌<◌, ◌==◌, List, [], ◌∷◌, ◌++◌, length, Bool, true, false, not, ◌&&◌, ◌||◌, Option, Some, refl, sym, ap, ◌∙◌, subst, arith, inl, inr, slice_get, nat_le}
use Rattle.std.proofs.Math.Numerals.{add-one}
use Rattle.std.proofs.lemmas.Bool.{eq-eqb, leb-true, or_cases, and_parts, and_from, not-true, cases_eq}
use Rattle.std.proofs.lemmas.List.{length_push}
use Rattle.flat_ir.specs.declared.ops.Op.{Op}
use Rattle.flat_ir.specs.Ops.{writes}
use Rattle.register_assign.specs.declared.places.Place.{Place}
use Rattle.register_assign.specs.declared.places.Place.TheVariants.{Reg, Slot, Incoming}
use Rattle.register_assign.specs.declared.intervals.Interval.{Interval}
use Rattle.register_assign.specs.declared.uses.Bounds.{Bounds}
use Rattle.register_assign.specs.Sound.{place_of}
use Rattle.register_assign.specs.Intervals.{AreApart, IsFree, interval_of}
use Rattle.register_assign.specs.Marks.{is_the, is_marked, AreMarks}
use Rattle.register_assign.specs.Unread.{is_read_within}
use Rattle.register_assign.specs.Chosen as c
use Rattle.register_assign.specs.Chosen.{chosen_places}
use Rattle.flat_ir.specs.declared.ops.Function.{Function}
use Rattle.flat_ir.specs.WellFormed.{temporaries}
use Rattle.register_assign.proofs.Unreading.{marks_within}

-- what the code tests at an op is whether the temporary is busy there
pub busy_is : (ops : List Op) (t at : ℕ) (op : Op) (marks : List Bool) → slice_get ops at ≡ Some op → AreMarks ops t marks → (is_marked marks at || is_the t (writes op)) ≡ c.is_busy_at ops t at
busy_is ops t at op marks g m = ap (λ b. b || is_the t (writes op)) (marks_within ops t marks m at) ∙ ap (λ o. is_read_within (length ops) ops t at || c.is_written_at o t) (sym g)

-- an op more, from the last
pub loops_next : (ops : List Op) (at : ℕ) (bounds : List Bounds) (op : Op) → at < length ops → slice_get ops at ≡ Some op → bounds ≡ c.loops_of_last ops (length ops - (at + 1))
    → c.with_back bounds at (c.back_to at (Some op)) ≡ c.loops_of_last ops (length ops - at)
loops_next ops at bounds op l g e =
    let n : ℕ = length ops - (at + 1) in
    let s : length ops - at ≡ suc n = omega arith in
    let back : length ops - suc n ≡ at = omega arith in
    let one : c.with_back bounds at (c.back_to at (Some op)) ≡ c.with_back (c.loops_of_last ops n) at (c.back_to at (slice_get ops at)) = ap (λ b. c.with_back b at (c.back_to at (Some op))) e ∙ ap (λ o. c.with_back (c.loops_of_last ops n) at (c.back_to at o)) (sym g) in
    let two : c.with_back (c.loops_of_last ops n) at (c.back_to at (slice_get ops at)) ≡ c.loops_of_last ops (suc n) = ap (λ k. c.with_back (c.loops_of_last ops n) k (c.back_to k (slice_get ops k))) (sym back) in
    one ∙ (two ∙ ap (c.loops_of_last ops) (sym s))

-- a clash ends it
false_and : (b x : Bool) → b ≡ false → (b && x) ≡ false
false_and b x e = ap (λ y. y && x) e

and_false : (b x : Bool) → x ≡ false → (b && x) ≡ false
and_false true x e = e
and_false false x e = refl

pub free_ends : (r : ℕ) (places : List Place) (intervals : List Interval) (i : Interval) (n m : ℕ) → n ≤ m → c.is_free_to r places intervals i n ≡ false → c.is_free_to r places intervals i m ≡ false
free_ends r places intervals i n zero l e = let s : n ≡ 0 = omega arith in subst (λ k. c.is_free_to r places intervals i k ≡ false) s e
free_ends r places intervals i n (suc m) l e =
    elim (cases_eq n (suc m)) [
      | inl s ↦ subst (λ k. c.is_free_to r places intervals i k ≡ false) s e
      | inr d ↦ false_and (c.is_free_to r places intervals i m) (not (c.clashes r i (place_of places m) (interval_of intervals m))) (free_ends r places intervals i n m (omega arith) e)
    ]

pub clash_ends : (r : ℕ) (places : List Place) (intervals : List Interval) (i : Interval) (u : ℕ) → u < length places → c.clashes r i (place_of places u) (interval_of intervals u) ≡ true → c.is_free r places intervals i ≡ false
clash_ends r places intervals i u l e =
    let here : c.is_free_to r places intervals i (suc u) ≡ false = and_false (c.is_free_to r places intervals i u) (not (c.clashes r i (place_of places u) (interval_of intervals u))) (ap not e) in
    free_ends r places intervals i (suc u) (length places) (omega arith) here

-- where none clashes, no temporary in the register is busy in the interval
apart_of : (r : ℕ) (i : Interval) (p : Place) (busy : Interval) → p ≡ Reg r → c.clashes r i p busy ≡ false → AreApart busy i
apart_of r i (Slot j) busy e h = absurd (cc)
apart_of r i (Incoming j) busy e h = absurd (cc)
apart_of r i (Reg o) busy e h = by (c.are_apart busy i) refl
  where
    same : (o == r) ≡ true
    same = (let z : o ≡ r = cc in eq-eqb o r z)

    by : (b : Bool) → c.are_apart busy i ≡ b → AreApart busy i
    by true g = elim (or_cases (nat_le busy.end i.first) (nat_le i.end busy.first) g) [
      | inl y ↦ inl (leb-true busy.end i.first y)
      | inr y ↦ inr (leb-true i.end busy.first y)
    ]
    by false g = absurd (let z : ((o == r) && not (c.are_apart busy i)) ≡ true = and_from (o == r) (not (c.are_apart busy i)) same (ap not g) in let y : true ≡ false = sym z ∙ h in cc)

none_clash : (r : ℕ) (places : List Place) (intervals : List Interval) (i : Interval) (n : ℕ) → c.is_free_to r places intervals i n ≡ true → (u : ℕ) → u < n → c.clashes r i (place_of places u) (interval_of intervals u) ≡ false
none_clash r places intervals i zero e u l = absurd (omega arith)
none_clash r places intervals i (suc n) e u l =
    let p = and_parts (c.is_free_to r places intervals i n) (not (c.clashes r i (place_of places n) (interval_of intervals n))) e in
    elim (cases_eq u n) [
      | inl s ↦ ap (λ k. c.clashes r i (place_of places k) (interval_of intervals k)) s ∙ not-true (c.clashes r i (place_of places n) (interval_of intervals n)) p.1
      | inr d ↦ none_clash r places intervals i n p.0 u (omega arith)
    ]

pub free_is : (r : ℕ) (places : List Place) (intervals : List Interval) (i : Interval) → c.is_free r places intervals i ≡ true → IsFree r places intervals i
free_is r places intervals i e u l g = apart_of r i (place_of places u) (interval_of intervals u) g (none_clash r places intervals i (length places) e u l)

-- how many values there are
pub firsts_long : {X : Type 0} (g : ℕ → X) (n : ℕ) → length (c.firsts g n) ≡ n
firsts_long g zero = refl
firsts_long g (suc n) = length_push (c.firsts g n) (g n) ∙ (let h = firsts_long g n in omega arith)

-- one value more
pub firsts_next : {X : Type 0} (g : ℕ → X) (n : ℕ) (xs : List X) (x : X) → xs ≡ c.firsts g n → x ≡ g n → xs ++ (x ∷ []) ≡ c.firsts g (n + 1)
firsts_next g n xs x e f = ap (λ ys. ys ++ (x ∷ [])) e ∙ (ap (λ y. c.firsts g n ++ (y ∷ [])) f ∙ ap (c.firsts g) (sym (add-one n)))

-- one register more
pub served_next : (intervals : List Interval) (places : List Place) (left : List (Option ℕ)) (mid : List Place) (mid_left : List (Option ℕ)) (new : List Place) (new_left : List (Option ℕ)) (n : ℕ)
    → c.serving mid mid_left ≡ c.served_to intervals (c.serving places left) n → c.serving new new_left ≡ c.served_one intervals (c.serving mid mid_left) (c.most_used mid_left)
    → c.serving new new_left ≡ c.served_to intervals (c.serving places left) (n + 1)
served_next intervals places left mid mid_left new new_left n e f =
    f ∙ (ap (λ (g : c.Serving). c.served_one intervals g (c.most_used g.left)) e ∙ ap (c.served_to intervals (c.serving places left)) (sym (add-one n)))

-- a place more in an interval
pub same_interval : (first first' end end' : ℕ) → first ≡ first' → end ≡ end' → c.interval_from first end ≡ c.interval_from first' end'
same_interval first first' end end' a b = ap (λ n. c.interval_from n end) a ∙ ap (c.interval_from first') b

pub widened_next : (ops : List Op) (t at : ℕ) (op : Op) (marks : List Bool) (start : Interval) (busy : Bool) (before after : Interval) → slice_get ops at ≡ Some op → AreMarks ops t marks
    → before ≡ c.widened_to ops t start at → (is_marked marks at || is_the t (writes op)) ≡ busy → after ≡ c.widened busy at before → after ≡ c.widened_to ops t start (at + 1)
widened_next ops t at op marks start busy before after g m e b h =
    let same : busy ≡ c.is_busy_at ops t at = sym b ∙ busy_is ops t at op marks g m in
    h ∙ (ap (c.widened busy at) e ∙ (ap (λ x. c.widened x at (c.widened_to ops t start at)) same ∙ ap (c.widened_to ops t start) (sym (add-one at))))

-- THE PLACES THAT ARE CHOSEN
pub chosen_is : (f : Function) (intervals : List Interval) (places new : List Place) (left : List (Option ℕ)) → intervals ≡ c.intervals_to f (temporaries f)
    → left ≡ c.firsts (λ t. Some (c.uses_of f.ops t)) (temporaries f) → length left ≡ temporaries f → new ≡ (c.served_to intervals (c.serving places left) (length left)).places
    → places ≡ c.firsts (c.own_place f.params) (temporaries f) → new ≡ chosen_places f
unfolding chosen_places
chosen_is f intervals places new left a b n e p =
    e ∙ (ap (λ k. (c.served_to intervals (c.serving places left) k).places) n
    ∙ (ap (λ v. (c.served_to v (c.serving places left) (temporaries f)).places) a
    ∙ (ap (λ x. (c.served_to (c.intervals_to f (temporaries f)) (c.serving places x) (temporaries f)).places) b
    ∙ ap (λ x. (c.served_to (c.intervals_to f (temporaries f)) (c.serving x (c.firsts (λ t. Some (c.uses_of f.ops t)) (temporaries f))) (temporaries f)).places) p)))
