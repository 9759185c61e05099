-- An interval from the first busy place to the last.
use Rattle.std.proofs.Common.{◌≡◌, ℕ, ◌+◌, ◌≤◌, ◌<◌, List, length, Bool, true, false, ◌||◌, Some, sym, ap, ◌∙◌, arith, inl, inr, slice_get, min}
use Rattle.std.proofs.lemmas.Option.{slice_get_within}
use Rattle.std.proofs.lemmas.Bool.{or_left, or_right, cases_eq}
use Rattle.flat_ir.specs.declared.ops.Op.{Op}
use Rattle.flat_ir.specs.Ops.{writes}
use Rattle.flat_ir.specs.Liveness.{IsLiveAt, is_read, is_kept}
use Rattle.register_assign.specs.declared.intervals.Interval.{Interval}
use Rattle.register_assign.specs.Marks.{is_the, is_marked, AreMarks}
use Rattle.register_assign.specs.Intervals.{Covers}
use Rattle.register_assign.proofs.Marking.{the_some}

-- what the code tests at an op
abbrev pub is_busy : Op → ℕ → List Bool → ℕ → Bool
is_busy op t marks at = is_marked marks at || is_the t (writes op)

-- so far in the ops
pub record Covering (ops : List Op) (t : ℕ) (marks : List Bool) (is_parameter : Bool) (upto first end : ℕ) : Type 0 where
  pub busy : (at : ℕ) (op : Op) → at < upto → slice_get ops at ≡ Some op → is_busy op t marks at ≡ true → (first ≤ at) × (at < end)
  pub entry : is_parameter ≡ true → (first ≡ 0) × (0 < end)

pub covering_first : (ops : List Op) (t : ℕ) (marks : List Bool) (is_parameter : Bool) (first end : ℕ) → (is_parameter ≡ true → (first ≡ 0) × (0 < end)) → Covering ops t marks is_parameter 0 first end
covering_first ops t marks is_parameter first end h = record { busy = λ at op l g b. absurd (omega arith); entry = h }

pub covering_busy : (ops : List Op) (t : ℕ) (marks : List Bool) (is_parameter : Bool) (upto first end : ℕ) → Covering ops t marks is_parameter upto first end
    → (less more : ℕ) → less ≡ min first upto → more ≡ upto + 1 → Covering ops t marks is_parameter (upto + 1) less more
covering_busy ops t marks is_parameter upto first end c less more e f = record {
  busy = λ at op l g b. elim (cases_eq at upto) [
    | inl s ↦ (omega arith, omega arith)
    | inr n ↦ let i : at < upto = omega arith in let r = c.busy at op i g b in let x = r.0 in (omega arith, omega arith)
  ];
  entry = λ p. let r = c.entry p in let x = r.0 in (omega arith, omega arith);
}

pub covering_idle : (ops : List Op) (t : ℕ) (marks : List Bool) (is_parameter : Bool) (upto first end : ℕ) → Covering ops t marks is_parameter upto first end
    → (op : Op) → slice_get ops upto ≡ Some op → is_busy op t marks upto ≡ false → Covering ops t marks is_parameter (upto + 1) first end
covering_idle ops t marks is_parameter upto first end c op g idle = record {
  busy = λ at o l q b. elim (cases_eq at upto) [
    | inl s ↦
        let same : Some o ≡ Some op = sym q ∙ (ap (slice_get ops) s ∙ g) in
        let so : o ≡ op = cc in
        let yes : is_busy op t marks upto ≡ true = ap (λ z. is_busy z t marks upto) (sym so) ∙ (ap (λ z. is_busy o t marks z) (sym s) ∙ b) in
        absurd (cc)
    | inr n ↦ c.busy at o (omega arith) q b
  ];
  entry = c.entry;
}

live_op : (ops : List Op) (t at : ℕ) → IsLiveAt ops t at → (op : Op) × (slice_get ops at ≡ Some op)
live_op ops t _ (is_read at op g r) = (op, g)
live_op ops t _ (is_kept at next op g n i l) = (op, g)

pub covering_last : (ops : List Op) (t : ℕ) (marks : List Bool) (is_parameter : Bool) (upto : ℕ) (interval : Interval) → AreMarks ops t marks → length ops ≤ upto → Covering ops t marks is_parameter upto interval.first interval.end → Covers ops t interval
covering_last ops t marks is_parameter upto interval m l c = record {
  busy = λ at b. elim b [
    | inl live ↦
        let o = live_op ops t at live in
        let w = slice_get_within ops at o.0 o.1 in
        c.busy at o.0 (omega arith) o.1 (or_left (is_marked marks at) (is_the t (writes o.0)) (m.all at live))
    | inr o ↦
        let w = slice_get_within ops at o.0 o.1 in
        c.busy at o.0 (omega arith) o.1 (or_right (is_marked marks at) (is_the t (writes o.0)) (the_some t (writes o.0) o.2))
  ];
}
