-- The lines that have begun before a place.
use Rattle.std.proofs.Common.{◌≡◌, ◌≤◌, ◌<◌, ℕ, zero, suc, ◌+◌, ◌-◌, Bool, true, false, List, refl, sym, subst, cond, arith, inl, inr, ◌⊎◌, lit<, lit≤}
use Rattle.sts_base.specs.Places.{begins_line, lines_upto}

-- the last line that has begun before `here` begins at `start`, and it is the line of that number
abbrev pub Kept : List ℕ → ℕ → ℕ → ℕ → Type 0
Kept text line start here =
    (begins_line text start ≡ true) × (start < here) × (line ≤ here) × (line ≡ lines_upto text (here - 1))
    × ((later : ℕ) → start < later → later < here → begins_line text later ≡ false)

pub kept-first : (text : List ℕ) → Kept text 1 0 1
unfolding lines_upto
kept-first text = (refl, lit< tt, lit≤ tt, refl, λ later above below. absurd (omega arith))

-- how many lines have begun at a place behind the first
lines-next : (text : List ℕ) (here : ℕ) (b : Bool) → 0 < here → begins_line text here ≡ b
    → lines_upto text here ≡ lines_upto text (here - 1) + cond b 1 0
unfolding lines_upto
lines-next text zero b h e = omega arith
lines-next text (suc p) b h e =
    let same : suc p - 1 ≡ p = omega arith in
    subst (λ x. lines_upto text (suc p) ≡ lines_upto text (suc p - 1) + cond x 1 0) e
    (subst (λ x. lines_upto text (suc p) ≡ lines_upto text x + cond (begins_line text (suc p)) 1 0) (sym same) refl)

latest : (later here : ℕ) → later < here + 1 → (later < here) ⊎ (later ≡ here)
latest later here h = grind arith

pub kept-begins : (text : List ℕ) (line start here line' start' : ℕ) → Kept text line start here → begins_line text here ≡ true
    → line' ≡ line + 1 → start' ≡ here → Kept text line' start' (here + 1)
kept-begins text line start here line' start' k e l s = (
  subst (λ x. begins_line text x ≡ true) (sym s) e,
  omega arith,
  omega arith,
  (let counted : lines_upto text here ≡ lines_upto text (here - 1) + 1 = lines-next text here true (omega arith) e in
      let same : here + 1 - 1 ≡ here = omega arith in
      subst (λ x. line' ≡ lines_upto text x) (sym same) (omega arith)),
  λ later above below. absurd (omega arith),
)

pub kept-goes-on : (text : List ℕ) (line start here line' start' : ℕ) → Kept text line start here → begins_line text here ≡ false
    → line' ≡ line → start' ≡ start → Kept text line' start' (here + 1)
kept-goes-on text line start here line' start' k e l s = (
  subst (λ x. begins_line text x ≡ true) (sym s) k.0,
  omega arith,
  omega arith,
  (let counted : lines_upto text here ≡ lines_upto text (here - 1) + 0 = lines-next text here false (omega arith) e in
      let same : here + 1 - 1 ≡ here = omega arith in
      subst (λ x. line' ≡ lines_upto text x) (sym same) (omega arith)),
  λ later above below. elim (latest later here below) [ inl before ↦ k.4 later (omega arith) before | inr at ↦ subst (λ x. begins_line text x ≡ false) (sym at) e ],
)
