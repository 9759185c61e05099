-- The last line that has begun before a place, and places by line and column.
use Rattle.std.proofs.Common.{◌≡◌, ◌≤◌, ◌<◌, ℕ, zero, suc, ◌+◌, ◌-◌, Bool, true, false, List, refl, sym, subst, cond, arith, inl, inr, ◌⊎◌, ◌∙◌, lit≤}
use Rattle.sts_base.specs.Places.{IsPlace, begins_line, lines_upto}
use Rattle.around_place.specs.Around.{IsLineColumn}

-- a line begins at `start`, the last one up to a place, and it is the line of that number
pub record IsLatest (text : List ℕ) (lines start at : ℕ) : Type 0 where
  pub begins : begins_line text start ≡ true
  pub reached : start ≤ at
  pub few : lines ≤ at + 1
  pub counted : lines ≡ lines_upto text at
  pub last : (later : ℕ) → start < later → later ≤ at → begins_line text later ≡ false

pub latest-first : (text : List ℕ) → IsLatest text 1 0 0
unfolding lines_upto
latest-first text = record { begins = refl; reached = lit≤ tt; few = lit≤ tt; counted = refl; last = λ later above upto. absurd (omega arith) }

-- how many lines have begun at the next place
lines-next : (text : List ℕ) (at : ℕ) (b : Bool) → begins_line text (suc at) ≡ b → lines_upto text (suc at) ≡ lines_upto text at + cond b 1 0
unfolding lines_upto
lines-next text at b e = subst (λ x. lines_upto text at + cond (begins_line text (suc at)) 1 0 ≡ lines_upto text at + cond x 1 0) e refl

-- a line begins at the next place
begins-next : (text : List ℕ) (lines start at : ℕ) → IsLatest text lines start at → begins_line text (suc at) ≡ true → IsLatest text (lines + 1) (suc at) (suc at)
begins-next text lines start at k e =
    let counted : lines_upto text (suc at) ≡ lines_upto text at + 1 = lines-next text at true e in
    record { begins = e; reached = omega arith; few = omega (arith, k.few); counted = omega (arith, k.counted, counted); last = λ later above upto. absurd (omega arith) }

step : (later at : ℕ) → later ≤ suc at → (later ≤ at) ⊎ (later ≡ suc at)
step later at h = grind arith

-- none begins there
stays-next : (text : List ℕ) (lines start at : ℕ) → IsLatest text lines start at → begins_line text (suc at) ≡ false → IsLatest text lines start (suc at)
stays-next text lines start at k e =
    let counted : lines_upto text (suc at) ≡ lines_upto text at + 0 = lines-next text at false e in
    record {
      begins = k.begins;
      reached = omega (arith, k.reached);
      few = omega (arith, k.few);
      counted = omega (arith, k.counted, counted);
      last = λ later above upto. elim (step later at upto) [
        | inl before ↦ k.last later above before
        | inr same ↦ subst (λ x. begins_line text x ≡ false) (sym same) e
      ];
    }

-- the same at a place that isn't the first, with the values that the code has
pub latest-begins : (text : List ℕ) (lines start at lines' start' : ℕ) → IsLatest text lines start (at - 1) → 0 < at → begins_line text at ≡ true
    → lines' ≡ lines + 1 → start' ≡ at → IsLatest text lines' start' at
latest-begins text lines start zero lines' start' k h e l s = absurd (omega arith)
latest-begins text lines start (suc at) lines' start' k h e l s =
    let same : suc at - 1 ≡ at = omega arith in
    let before : IsLatest text lines start at = subst (λ x. IsLatest text lines start x) same k in
    subst (λ x. IsLatest text x start' (suc at)) (sym l) (subst (λ x. IsLatest text (lines + 1) x (suc at)) (sym s) (begins-next text lines start at before e))

pub latest-stays : (text : List ℕ) (lines start at lines' start' : ℕ) → IsLatest text lines start (at - 1) → 0 < at → begins_line text at ≡ false
    → lines' ≡ lines → start' ≡ start → IsLatest text lines' start' at
latest-stays text lines start zero lines' start' k h e l s = absurd (omega arith)
latest-stays text lines start (suc at) lines' start' k h e l s =
    let same : suc at - 1 ≡ at = omega arith in
    let before : IsLatest text lines start at = subst (λ x. IsLatest text lines start x) same k in
    subst (λ x. IsLatest text x start' (suc at)) (sym l) (subst (λ x. IsLatest text lines x (suc at)) (sym s) (stays-next text lines start at before e))

pub latest-same : (text : List ℕ) (lines start at at' : ℕ) → IsLatest text lines start at → at' ≡ at → IsLatest text lines start at'
latest-same text lines start at at' k e = subst (λ x. IsLatest text lines start x) (sym e) k

order : (a b : ℕ) → (a < b) ⊎ ((b < a) ⊎ (a ≡ b))
order a b = grind arith

differ : (text : List ℕ) (at : ℕ) → begins_line text at ≡ true → begins_line text at ≡ false → ⊥
differ text at e f = let g : true ≡ false = sym e ∙ f in cc g

-- the last line is one alone
one-start : (text : List ℕ) (lines start at line column : ℕ) → IsLatest text lines start at → (p : IsPlace text at line column) → p.start ≡ start
one-start text lines start at line column k p = elim (order p.start start) [
  | inl before ↦ absurd (differ text start k.begins (p.last start before k.reached))
  | inr (inl behind) ↦ absurd (differ text p.start p.begins (k.last p.start behind (omega (arith, p.counted, p.behind))))
  | inr (inr same) ↦ same
]

-- a place has a line and a column exactly where it is there
pub there-place : (text : List ℕ) (lines start at line column : ℕ) → IsLatest text lines start at → IsLineColumn lines start at line column → IsPlace text at line column
there-place text lines start at line column k h =
    record { start = start; begins = k.begins; last = k.last; counted = h.1; behind = omega (arith, k.reached, h.1); lines = h.0 ∙ k.counted }

pub place-there : (text : List ℕ) (lines start at line column : ℕ) → IsLatest text lines start at → IsPlace text at line column → IsLineColumn lines start at line column
place-there text lines start at line column k p =
    (p.lines ∙ sym k.counted, subst (λ x. x + column ≡ at + 1) (one-start text lines start at line column k p) p.counted)

-- none of the places before the next one is it
below : (other at : ℕ) → other < at + 1 → (other < at) ⊎ (other ≡ at)
below other at h = grind arith

pub none-more : (text : List ℕ) (lines start at line column : ℕ) → ((other : ℕ) → other < at → IsPlace text other line column → ⊥) → IsLatest text lines start at
    → (IsLineColumn lines start at line column → ⊥) → (other : ℕ) → other < at + 1 → IsPlace text other line column → ⊥
none-more text lines start at line column none k h other less p = elim (below other at less) [
  | inl before ↦ none other before p
  | inr same ↦ h (place-there text lines start at line column k (subst (λ x. IsPlace text x line column) same p))
]

pub none-first : (text : List ℕ) (line column : ℕ) → (IsLineColumn 1 0 0 line column → ⊥) → (other : ℕ) → other < 1 → IsPlace text other line column → ⊥
none-first text line column h other less p =
    let same : other ≡ 0 = omega arith in
    h (place-there text 1 0 0 line column (latest-first text) (subst (λ x. IsPlace text x line column) same p))
