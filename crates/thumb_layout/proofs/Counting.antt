-- Loads that wait, counted.
use Rattle.std.proofs.Common.{suc, ◌≡◌, ℕ, ◌+◌, ◌*◌, ◌<◌, List, [], ◌∷◌, ◌++◌, length, Bool, true, false, cond, ◌&&◌, nat_lt, ◌⊎◌, inl, inr, refl, ap, ◌∙◌, arith, ◌==◌, min}
use Rattle.std.proofs.lemmas.Bool.Decides.{nat_tests}
use Rattle.std.proofs.lemmas.List.{length-append}
use Rattle.thumb_layout.specs.declared.pieces.Piece.{Piece}
use Rattle.thumb_layout.specs.declared.pieces.Piece.TheVariants.{Plain, Label, Go, CallTo, Number, Address}
use Rattle.thumb_layout.specs.declared.pieces.Entry.TheVariants.{Value, Of}
use Rattle.thumb_layout.specs.Pieces.{is_small}
use Rattle.thumb_layout.specs.Layout.{Wait, loads_at, counts_from, reaches}
use Rattle.thumb_layout.specs.Placing.{Counts}

-- a piece is at most one load
pub one_load : (x : Piece) (at : ℕ) → (loads_at x at ≡ []) ⊎ ((w : Wait) × (loads_at x at ≡ w ∷ []) × (w.at ≡ at))
one_load (Plain x) at = inl refl
one_load (Label l) at = inl refl
one_load (Go c l) at = inl refl
one_load (CallTo f) at = inl refl
one_load (Number rd v) at = by (is_small v)
  where
    by : (b : Bool) → (cond {A = List Wait} b [] (record { at = at; entry = Value v } ∷ []) ≡ []) ⊎ ((w : Wait) × (cond {A = List Wait} b [] (record { at = at; entry = Value v } ∷ []) ≡ w ∷ []) × (w.at ≡ at))
    by true = inl refl
    by false = inr (record { at = at; entry = Value v }, refl, refl)
one_load (Address rd w) at = inr (record { at = at; entry = Of w }, refl, refl)

and_assoc : (a b c : Bool) → (a && (b && c)) ≡ ((a && b) && c)
and_assoc true b c = refl
and_assoc false b c = refl

reaches_append : (start : ℕ) (ws : List Wait) (w : Wait) → reaches start (ws ++ w ∷ []) ≡ (reaches start ws && (cond (nat_lt (counts_from w.at + 1020) (start + 4 * length ws)) false true))
reaches_append start [] w = let e : start + 4 * 0 ≡ start = omega arith in rw e (and_true (cond (nat_lt (counts_from w.at + 1020) start) false true))
  where
    and_true : (a : Bool) → (a && true) ≡ a
    and_true true = refl
    and_true false = refl
reaches_append start (v ∷ ws) w =
    let e : start + 4 + 4 * length ws ≡ start + 4 * suc (length ws) = omega arith in
    ap (λ q. (cond (nat_lt (counts_from v.at + 1020) start) false true) && q) (reaches_append (start + 4) ws w ∙ ap (λ n. reaches (start + 4) ws && (cond (nat_lt (counts_from w.at + 1020) n) false true)) e)
    ∙ and_assoc (cond (nat_lt (counts_from v.at + 1020) start) false true) (reaches (start + 4) ws) (cond (nat_lt (counts_from w.at + 1020) (start + 4 * suc (length ws))) false true)

both : (a b c : Bool) (x y l m : ℕ) → nat_lt l x ≡ a → nat_lt m y ≡ b → nat_lt (min (m + 4) (l + 4)) (x + 4) ≡ c → x ≡ y → (cond a false true && cond b false true) ≡ cond c false true
both true true true x y l m e f g h = refl
both true true false x y l m e f g h = absurd (grind (arith, nat_tests))
both true false true x y l m e f g h = refl
both true false false x y l m e f g h = absurd (grind (arith, nat_tests))
both false true true x y l m e f g h = refl
both false true false x y l m e f g h = absurd (grind (arith, nat_tests))
both false false true x y l m e f g h = absurd (grind (arith, nat_tests))
both false false false x y l m e f g h = refl

-- one more, behind others
pub counts_more : (n l m : ℕ) (ws : List Wait) (w : Wait) → 0 < n → Counts (record { count = n; latest_end = l }) ws → m ≡ min (counts_from w.at + 1024) (l + 4) → Counts (record { count = n + 1; latest_end = m }) (ws ++ w ∷ [])
counts_more n l m ws w p h e =
    let a = length-append ws (w ∷ []) in
    let k = h.0 in
    let z : (n == 0) ≡ false = grind (arith, nat_tests) in
    let z1 : (n + 1 == 0) ≡ false = grind (arith, nat_tests) in (
      omega arith,
      λ start.
          reaches_append start ws w
          ∙ (ap (λ q. q && (cond (nat_lt (counts_from w.at + 1020) (start + 4 * length ws)) false true)) (rw z at (h.1 start))
          ∙ (both (nat_lt l (start + 4 * n)) (nat_lt (counts_from w.at + 1020) (start + 4 * length ws)) (nat_lt (min (counts_from w.at + 1020 + 4) (l + 4)) (start + 4 * n + 4)) (start + 4 * n) (start + 4 * length ws) l (counts_from w.at + 1020) refl refl refl (omega arith)
          ∙ (let e1 : start + 4 * n + 4 ≡ start + 4 * (n + 1) = omega arith in
          let e2 : min (counts_from w.at + 1020 + 4) (l + 4) ≡ m = omega arith in
          rw (z1, e1, e2) refl))),
    )
