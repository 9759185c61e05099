-- The flags of a comparison say how two words are ordered, read with their signs.
use Rattle.std.proofs.Common.{suc, ◌≡◌, ◌≢◌, ℕ, ◌+◌, ◌*◌, ◌-◌, ◌/◌, ◌%◌, ◌<◌, ◌≤◌, ◌^◌, ⊎_elim, Bool, true, false, not, nat_lt, ◌==◌, ◌&&◌, refl, sym, ap, ◌∙◌, subst, arith}
use Rattle.std.specs.Prelude.{ℤ, pos, negsuc, int_lt, int_le}
use Rattle.std.specs.Int.{cast_signed, w32}
use Rattle.thumb_code.specs.Arithmetic.{sign, bit_of, inverted, sum_of, sum_flags, holds}
use Rattle.arena_values.proofs.Addresses.{which}
use Rattle.arena_values.proofs.Signs.{signed_low, signed_high}

-- the flags of a comparison, from their parts
flags_from : (v w a b d c : ℕ) (zero over : Bool) → sign v ≡ a → sign (inverted w) ≡ b → sign (sum_of v (inverted w) 1) ≡ d → (sum_of v (inverted w) 1 == 0) ≡ zero → (v + inverted w + 1) / 2 ^ 32 ≡ c
    → (a == b && nat_lt (d + a) 2 && nat_lt 0 (d + a)) ≡ over → sum_flags v (inverted w) 1 ≡ d * 8 + bit_of zero * 4 + c * 2 + bit_of over
flags_from v w a b d c zero over p q r s t u =
    rw r (rw s (rw t (rw p (rw q (rw u refl)))))

-- what the conditions LT, GT, LE and GE say behind a comparison, against two numbers
pub record Tells (flags : ℕ) (x y : ℤ) : Type 0 where
  pub less : holds flags 11 ≡ int_lt x y
  pub greater : holds flags 12 ≡ int_lt y x
  pub at_most : holds flags 13 ≡ int_le x y
  pub at_least : holds flags 10 ≡ int_le y x

-- flags that are one of these
tells : (flags known : ℕ) (x y : ℤ) → flags ≡ known → Tells known x y → Tells flags x y
tells flags known x y e t = subst (λ f. Tells f x y) (sym e) t

bit_most : (b : Bool) → bit_of b ≤ 1
bit_most true = omega arith
bit_most false = omega arith

-- Z among the flags
z_read : (d c : ℕ) (zero : Bool) (o : ℕ) → c ≤ 1 → o ≤ 1 → holds (d * 8 + bit_of zero * 4 + c * 2 + o) 0 ≡ zero
z_read d c true o a b = let e : (d * 8 + 1 * 4 + c * 2 + o) / 4 % 2 ≡ 1 = omega arith in ap (λ n. n == 1) e
z_read d c false o a b = let e : (d * 8 + 0 * 4 + c * 2 + o) / 4 % 2 ≡ 0 = omega arith in ap (λ n. n == 1) e

-- and C
c_read : (d z c o : ℕ) → z ≤ 1 → c ≤ 1 → o ≤ 1 → holds (d * 8 + z * 4 + c * 2 + o) 3 ≡ not (c == 1)
c_read d z c o a b l = let e : (d * 8 + z * 4 + c * 2 + o) / 2 % 2 ≡ c = omega arith in ap (λ n. not (n == 1)) e

module _ (v w : ℕ) (p : v < 2 ^ 32) (q : w < 2 ^ 32) where
  abbrev flags : ℕ
  flags = sum_flags v (inverted w) 1

  -- both without a sign
  low_low : v < 2 ^ 31 → w < 2 ^ 31 → Tells flags (pos v) (pos w)
  low_low a b = ⊎_elim (λ l. less l) (λ l. ⊎_elim (λ m. greater m) (λ m. same (omega arith)) (which w v)) (which v w)
    where
      less : v < w → Tells flags (pos v) (pos w)
      less l =
          let f : flags ≡ 8 = flags_from v w 0 1 1 0 false false (omega arith) (omega arith) (omega arith) (grind arith) (omega arith) refl in
          let e : nat_lt v w ≡ true = grind arith in let g : nat_lt w v ≡ false = grind arith in
          tells flags 8 (pos v) (pos w) f (record { less = sym e; greater = sym g; at_most = grind arith; at_least = grind arith })

      same : v ≡ w → Tells flags (pos v) (pos w)
      same l =
          let f : flags ≡ 6 = flags_from v w 0 1 0 1 true false (omega arith) (omega arith) (omega arith) (grind arith) (omega arith) refl in
          tells flags 6 (pos v) (pos w) f (record { less = grind arith; greater = grind arith; at_most = grind arith; at_least = grind arith })

      greater : w < v → Tells flags (pos v) (pos w)
      greater l =
          let f : flags ≡ 2 = flags_from v w 0 1 0 1 false false (omega arith) (omega arith) (omega arith) (grind arith) (omega arith) refl in
          tells flags 2 (pos v) (pos w) f (record { less = grind arith; greater = grind arith; at_most = grind arith; at_least = grind arith })

  -- both with a sign
  high_high : 2 ^ 31 ≤ v → 2 ^ 31 ≤ w → Tells flags (negsuc (2 ^ 32 - suc v)) (negsuc (2 ^ 32 - suc w))
  high_high a b = ⊎_elim (λ l. less l) (λ l. ⊎_elim (λ m. greater m) (λ m. same (omega arith)) (which w v)) (which v w)
    where
      less : v < w → Tells flags (negsuc (2 ^ 32 - suc v)) (negsuc (2 ^ 32 - suc w))
      less l =
          let f : flags ≡ 8 = flags_from v w 1 0 1 0 false false (omega arith) (omega arith) (omega arith) (grind arith) (omega arith) refl in
          tells flags 8 _ _ f (record { less = grind arith; greater = grind arith; at_most = grind arith; at_least = grind arith })

      same : v ≡ w → Tells flags (negsuc (2 ^ 32 - suc v)) (negsuc (2 ^ 32 - suc w))
      same l =
          let f : flags ≡ 6 = flags_from v w 1 0 0 1 true false (omega arith) (omega arith) (omega arith) (grind arith) (omega arith) refl in
          tells flags 6 _ _ f (record { less = grind arith; greater = grind arith; at_most = grind arith; at_least = grind arith })

      greater : w < v → Tells flags (negsuc (2 ^ 32 - suc v)) (negsuc (2 ^ 32 - suc w))
      greater l =
          let f : flags ≡ 2 = flags_from v w 1 0 0 1 false false (omega arith) (omega arith) (omega arith) (grind arith) (omega arith) refl in
          tells flags 2 _ _ f (record { less = grind arith; greater = grind arith; at_most = grind arith; at_least = grind arith })

  -- the second alone with a sign: the difference may overflow
  low_high : v < 2 ^ 31 → 2 ^ 31 ≤ w → Tells flags (pos v) (negsuc (2 ^ 32 - suc w))
  low_high a b = ⊎_elim (λ l. small l) (λ l. large l) (which (sum_of v (inverted w) 1) (2 ^ 31))
    where
      small : sum_of v (inverted w) 1 < 2 ^ 31 → Tells flags (pos v) (negsuc (2 ^ 32 - suc w))
      small l =
          let f : flags ≡ 0 = flags_from v w 0 0 0 0 false false (omega arith) (omega arith) (omega arith) (grind arith) (omega arith) refl in
          tells flags 0 _ _ f (record { less = refl; greater = refl; at_most = refl; at_least = refl })

      large : 2 ^ 31 ≤ sum_of v (inverted w) 1 → Tells flags (pos v) (negsuc (2 ^ 32 - suc w))
      large l =
          let f : flags ≡ 9 = flags_from v w 0 0 1 0 false true (omega arith) (omega arith) (omega arith) (grind arith) (omega arith) refl in
          tells flags 9 _ _ f (record { less = refl; greater = refl; at_most = refl; at_least = refl })

  -- the first alone
  high_low : 2 ^ 31 ≤ v → w < 2 ^ 31 → Tells flags (negsuc (2 ^ 32 - suc v)) (pos w)
  high_low a b = ⊎_elim (λ l. small l) (λ l. large l) (which (sum_of v (inverted w) 1) (2 ^ 31))
    where
      small : sum_of v (inverted w) 1 < 2 ^ 31 → Tells flags (negsuc (2 ^ 32 - suc v)) (pos w)
      small l =
          let f : flags ≡ 3 = flags_from v w 1 1 0 1 false true (omega arith) (omega arith) (omega arith) (grind arith) (omega arith) refl in
          tells flags 3 _ _ f (record { less = refl; greater = refl; at_most = refl; at_least = refl })

      large : 2 ^ 31 ≤ sum_of v (inverted w) 1 → Tells flags (negsuc (2 ^ 32 - suc v)) (pos w)
      large l =
          let f : flags ≡ 10 = flags_from v w 1 1 1 1 false false (omega arith) (omega arith) (omega arith) (grind arith) (omega arith) refl in
          tells flags 10 _ _ f (record { less = refl; greater = refl; at_most = refl; at_least = refl })

  pub words_tell : (x y : ℤ) → x ≡ cast_signed w32 v → y ≡ cast_signed w32 w → Tells flags x y
  words_tell x y e f = ⊎_elim (λ a. ⊎_elim
      (λ b. with_signs (pos v) (pos w) (signed_low v a) (signed_low w b) (low_low a b))
      (λ b. with_signs _ _ (signed_low v a) (signed_high w b) (low_high a b)) (which w (2 ^ 31)))
      (λ a. ⊎_elim
      (λ b. with_signs _ _ (signed_high v a) (signed_low w b) (high_low a b))
      (λ b. with_signs _ _ (signed_high v a) (signed_high w b) (high_high a b)) (which w (2 ^ 31)))
      (which v (2 ^ 31))
    where
      with_signs : (x' y' : ℤ) → cast_signed w32 v ≡ x' → cast_signed w32 w ≡ y' → Tells flags x' y' → Tells flags x y
      with_signs x' y' g h t = subst (λ z. Tells flags z y) (sym (e ∙ g)) (subst (λ z. Tells flags x' z) (sym (f ∙ h)) t)

  -- EQ, and NE
  equal_by : (zero : Bool) → (sum_of v (inverted w) 1 == 0) ≡ zero → holds flags 0 ≡ zero
  equal_by zero e =
      let a = sign v in let b = sign (inverted w) in let d = sign (sum_of v (inverted w) 1) in let c = (v + inverted w + 1) / 2 ^ 32 in
      let over = a == b && nat_lt (d + a) 2 && nat_lt 0 (d + a) in
      ap (λ f. holds f 0) (flags_from v w a b d c zero over refl refl refl e refl refl) ∙ z_read d c zero (bit_of over) (omega arith) (bit_most over)

  pub words_equal : holds flags 0 ≡ (v == w)
  words_equal = ⊎_elim (λ l. apart (omega arith) (λ e. omega arith)) (λ l. ⊎_elim (λ m. apart (omega arith) (λ e. omega arith)) (λ m. same (omega arith)) (which w v)) (which v w)
    where
      apart : 0 < sum_of v (inverted w) 1 → v ≢ w → holds flags 0 ≡ (v == w)
      apart l n = let e : (v == w) ≡ false = grind arith in equal_by false (grind arith) ∙ sym e

      same : v ≡ w → holds flags 0 ≡ (v == w)
      same e = let f : (v == w) ≡ true = grind arith in let z : sum_of v (inverted w) 1 ≡ 0 = omega arith in equal_by true (grind arith) ∙ sym f

  pub words_unequal : holds flags 1 ≡ not (v == w)
  words_unequal = ap not words_equal

  -- CC: without their signs the first is below the second
  pub words_below : holds flags 3 ≡ nat_lt v w
  words_below = ⊎_elim (λ l. let e : nat_lt v w ≡ true = grind arith in carry_by 0 (omega arith) (omega arith) ∙ sym e) (λ l. let e : nat_lt v w ≡ false = grind arith in carry_by 1 (omega arith) (omega arith) ∙ sym e) (which v w)
    where
      carry_by : (c : ℕ) → (v + inverted w + 1) / 2 ^ 32 ≡ c → c ≤ 1 → holds flags 3 ≡ not (c == 1)
      carry_by c e l =
          let a = sign v in let b = sign (inverted w) in let d = sign (sum_of v (inverted w) 1) in let zero = sum_of v (inverted w) 1 == 0 in
          let over = a == b && nat_lt (d + a) 2 && nat_lt 0 (d + a) in
          ap (λ f. holds f 3) (flags_from v w a b d c zero over refl refl refl refl e refl) ∙ c_read d (bit_of zero) c (bit_of over) (bit_most zero) l (bit_most over)
