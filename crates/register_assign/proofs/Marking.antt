-- Marks that are closed and were each made where the temporary is live are exactly the places where it is.
use Rattle.std.proofs.Common.{zero, suc, ◌≡◌, ℕ, ◌+◌, ◌≤◌, ◌<◌, ◌==◌, List, [], ◌∷◌, length, get_or, get_or-set_other, Bool, true, false, cond, not, ◌&&◌, Option, Some, None, refl, sym, ap, ◌∙◌, subst, arith, inl, inr, slice_get}
use Rattle.std.specs.Prelude.{slice_set, Contains}
use Rattle.std.proofs.lemmas.List.{length-set}
use lib.ListN.{replicate}
use Rattle.std.proofs.lemmas.Option.{slice_get_within}
use Rattle.std.proofs.lemmas.Bool.{eqb-true, eq-eqb, or_cases, and_parts, and_from, or_left, or_right, not-true, not_from_false, cases_eq, false_from_ne_true, both_ways}
use Rattle.flat_ir.specs.declared.ops.Op.{Op}
use Rattle.flat_ir.specs.Ops.{reads, writes, goes_on}
use Rattle.flat_ir.specs.Liveness.{IsLiveAt, is_read, is_kept}
use Rattle.register_assign.specs.Marks.{is_among, is_the, is_marked, any_marked, is_due, AreMarks, AreLive, AreClosedFrom, unmarked, HasPassed}

pub among_contains : (t : ℕ) (xs : List ℕ) → is_among t xs ≡ true → Contains xs t
among_contains t [] h = absurd (cc)
among_contains t (x ∷ xs) h =
    elim (or_cases (x == t) (is_among t xs) h) [
      | inl e ↦ (0, omega arith, eqb-true x t e)
      | inr e ↦ let r = among_contains t xs e in let l = r.1 in (suc r.0, omega arith, r.2)
    ]

among_at : (t : ℕ) (xs : List ℕ) (k : ℕ) → k < length xs → get_or xs k t ≡ t → is_among t xs ≡ true
among_at t [] k l e = absurd (omega arith)
among_at t (x ∷ xs) zero l e = or_left (x == t) (is_among t xs) (eq-eqb x t e)
among_at t (x ∷ xs) (suc k) l e = or_right (x == t) (is_among t xs) (among_at t xs k (omega arith) e)

pub contains_among : (t : ℕ) (xs : List ℕ) → Contains xs t → is_among t xs ≡ true
contains_among t xs c = among_at t xs c.0 c.1 c.2

pub marked_contains : (marks : List Bool) (xs : List ℕ) → any_marked marks xs ≡ true → (next : ℕ) × Contains xs next × (is_marked marks next ≡ true)
marked_contains marks [] h = absurd (cc)
marked_contains marks (x ∷ xs) h =
    elim (or_cases (is_marked marks x) (any_marked marks xs) h) [
      | inl e ↦ (x, (0, omega arith, refl), e)
      | inr e ↦ let r = marked_contains marks xs e in let c = r.1 in let l = c.1 in (r.0, (suc c.0, omega arith, c.2), r.2)
    ]

marked_at : (marks : List Bool) (xs : List ℕ) (next k : ℕ) → k < length xs → get_or xs k next ≡ next → is_marked marks next ≡ true → any_marked marks xs ≡ true
marked_at marks [] next k l e m = absurd (omega arith)
marked_at marks (x ∷ xs) next zero l e m = or_left (is_marked marks x) (any_marked marks xs) (ap (is_marked marks) e ∙ m)
marked_at marks (x ∷ xs) next (suc k) l e m = or_right (is_marked marks x) (any_marked marks xs) (marked_at marks xs next k (omega arith) e m)

pub contains_marked : (marks : List Bool) (xs : List ℕ) (next : ℕ) → Contains xs next → is_marked marks next ≡ true → any_marked marks xs ≡ true
contains_marked marks xs next c m = marked_at marks xs next c.0 c.1 c.2 m

pub the_true : (t : ℕ) (w : Option ℕ) → is_the t w ≡ true → w ≡ Some t
the_true t None h = absurd (cc)
the_true t (Some to) h = ap Some (eqb-true to t h)

pub the_some : (t : ℕ) (w : Option ℕ) → w ≡ Some t → is_the t w ≡ true
the_some t w e = ap (is_the t) e ∙ eq-eqb t t refl

-- what is to be marked is live
pub due_live : (ops : List Op) (t at : ℕ) (op : Op) (marks : List Bool) → slice_get ops at ≡ Some op → AreLive ops t marks → is_due op t at marks ≡ true → IsLiveAt ops t at
due_live ops t at op marks g live h =
    elim (or_cases (is_among t (reads op)) (not (is_the t (writes op)) && any_marked marks (goes_on at op)) h) [
      | inl e ↦ is_read at op g (among_contains t (reads op) e)
      | inr e ↦
          let p = and_parts (not (is_the t (writes op))) (any_marked marks (goes_on at op)) e in
          let n = marked_contains marks (goes_on at op) p.1 in
          is_kept at n.0 op g (λ w. both_ways (is_the t (writes op)) (not-true (is_the t (writes op)) p.0) (the_some t (writes op) w)) n.1 (live n.0 n.2)
    ]

-- closed marks have all that is live
pub live_marked : (ops : List Op) (t : ℕ) (marks : List Bool) → AreClosedFrom 0 ops t marks → (at : ℕ) → IsLiveAt ops t at → is_marked marks at ≡ true
live_marked ops t marks c _ (is_read at op g r) = c at op (omega arith) g (or_left (is_among t (reads op)) (not (is_the t (writes op)) && any_marked marks (goes_on at op)) (contains_among t (reads op) r))
live_marked ops t marks c _ (is_kept at next op g n i l) =
    let f : is_the t (writes op) ≡ false = false_from_ne_true (is_the t (writes op)) (λ e. n (the_true t (writes op) e)) in
    let m = contains_marked marks (goes_on at op) next i (live_marked ops t marks c next l) in
    c at op (omega arith) g (or_right (is_among t (reads op)) (not (is_the t (writes op)) && any_marked marks (goes_on at op)) (and_from (not (is_the t (writes op))) (any_marked marks (goes_on at op)) (not_from_false (is_the t (writes op)) f) m))

-- a new mark leaves fewer unmarked
pub unmarked_set : (marks : List Bool) (at : ℕ) → at < length marks → is_marked marks at ≡ false → unmarked (slice_set marks at true) < unmarked marks
unmarked_set [] at l e = absurd (omega arith)
unmarked_set (true ∷ marks) zero l e = absurd (cc)
unmarked_set (false ∷ marks) zero l e = omega arith
unmarked_set (true ∷ marks) (suc at) l e = unmarked_set marks at (omega arith) e
unmarked_set (false ∷ marks) (suc at) l e = let i = unmarked_set marks at (omega arith) e in omega arith

-- so far in a pass backwards
pub record Passing (ops : List Op) (t : ℕ) (old marks : List Bool) (changed : Bool) (at : ℕ) : Type 0 where
  pub reached : at ≤ length ops
  pub long : length marks ≡ length ops
  pub live : AreLive ops t marks
  pub most : unmarked marks ≤ unmarked old
  pub fewer : changed ≡ true → unmarked marks < unmarked old
  pub closed : changed ≡ false → AreClosedFrom at ops t marks

pub pass_first : (ops : List Op) (t : ℕ) (old : List Bool) → length old ≡ length ops → AreLive ops t old → Passing ops t old old false (length ops)
pass_first ops t old l live = record {
  reached = omega arith;
  long = l;
  live = live;
  most = omega arith;
  fewer = λ e. absurd (cc);
  closed = λ e k op h g d. let w = slice_get_within ops k op g in absurd (omega arith);
}

set_live : (ops : List Op) (t at : ℕ) (marks : List Bool) → at < length marks → AreLive ops t marks → IsLiveAt ops t at → AreLive ops t (slice_set marks at true)
set_live ops t at marks l live i k e =
    elim (cases_eq k at) [
      | inl s ↦ subst (IsLiveAt ops t) (sym s) i
      | inr n ↦ live k (sym (get_or-set_other marks at k true false n) ∙ e)
    ]

pub pass_made : (ops : List Op) (t : ℕ) (old marks : List Bool) (changed : Bool) (at : ℕ) (op : Op) → slice_get ops at ≡ Some op → Passing ops t old marks changed (at + 1)
    → is_due op t at marks ≡ true → is_marked marks at ≡ false → Passing ops t old (slice_set marks at true) true at
pass_made ops t old marks changed at op g p d m =
    let w = slice_get_within ops at op g in
    let l : at < length marks = let e = p.long in omega arith in
    let u = unmarked_set marks at l m in
    let most = p.most in record {
      reached = omega arith;
      long = length-set marks at true ∙ p.long;
      live = set_live ops t at marks l p.live (due_live ops t at op marks g p.live d);
      most = omega arith;
      fewer = λ e. omega arith;
      closed = λ e. absurd (cc);
    }

pub pass_left : (ops : List Op) (t : ℕ) (old marks : List Bool) (changed : Bool) (at : ℕ) (op : Op) → slice_get ops at ≡ Some op → Passing ops t old marks changed (at + 1)
    → (is_due op t at marks ≡ true → is_marked marks at ≡ true) → Passing ops t old marks changed at
pass_left ops t old marks changed at op g p h =
    let w = slice_get_within ops at op g in record {
      reached = omega arith;
      long = p.long;
      live = p.live;
      most = p.most;
      fewer = p.fewer;
      closed = λ e k o from q d. elim (cases_eq k at) [
        | inl s ↦
            let same : Some o ≡ Some op = sym q ∙ (ap (slice_get ops) s ∙ g) in
            let so : o ≡ op = cc in
            ap (is_marked marks) s ∙ h (ap (λ z. is_due z t at marks) (sym so) ∙ (ap (λ z. is_due o t z marks) (sym s) ∙ d))
        | inr n ↦ p.closed e k o (omega arith) q d
      ];
    }

due_or_not : (d m : Bool) → (d && not m) ≡ false → d ≡ true → m ≡ true
due_or_not true true e h = refl
due_or_not true false e h = absurd (cc)
due_or_not false m e h = absurd (cc)

pub pass_step : (ops : List Op) (t : ℕ) (old marks : List Bool) (changed : Bool) (at : ℕ) (op : Op) → slice_get ops at ≡ Some op → Passing ops t old marks changed (at + 1)
    → (made : Bool) → made ≡ (is_due op t at marks && not (is_marked marks at)) → (new : List Bool) → new ≡ cond made (slice_set marks at true) marks
    → (after : Bool) → after ≡ cond made true changed → Passing ops t old new after at
pass_step ops t old marks changed at op g p true e new n after a =
    let d = and_parts (is_due op t at marks) (not (is_marked marks at)) (sym e) in
    let r = pass_made ops t old marks changed at op g p d.0 (not-true (is_marked marks at) d.1) in
    subst (λ (x : Bool). Passing ops t old new x at) (sym a) (subst (λ (x : List Bool). Passing ops t old x true at) (sym n) r)
pass_step ops t old marks changed at op g p false e new n after a =
    let r = pass_left ops t old marks changed at op g p (due_or_not (is_due op t at marks) (is_marked marks at) (sym e)) in
    subst (λ (x : Bool). Passing ops t old new x at) (sym a) (subst (λ (x : List Bool). Passing ops t old x changed at) (sym n) r)

pub pass_last : (ops : List Op) (t : ℕ) (old marks : List Bool) (changed : Bool) → Passing ops t old marks changed 0 → HasPassed ops t old marks changed
pass_last ops t old marks changed p = record { live = p.live; fewer = p.fewer; closed = p.closed }

pub settled : (ops : List Op) (t : ℕ) (old marks : List Bool) (changed : Bool) → length marks ≡ length ops → HasPassed ops t old marks changed → changed ≡ false → AreMarks ops t marks
settled ops t old marks changed l p e = record { long = l; live = p.live; all = live_marked ops t marks (p.closed e) }

pub none_marked : (n k : ℕ) → is_marked (replicate n false) k ≡ false
none_marked zero k = refl
none_marked (suc n) zero = refl
none_marked (suc n) (suc k) = none_marked n k
