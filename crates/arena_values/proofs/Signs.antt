-- Words read with their sign.
use Rattle.std.proofs.Common.{suc, ◌≡◌, ℕ, ◌-◌, ◌<◌, ◌≤◌, ◌^◌, ⊎_elim, true, false, nat_lt, refl, sym, ap, ◌∙◌, arith}
use Rattle.std.specs.Prelude.{pos, negsuc}
use Rattle.std.specs.Int.{cast_signed, cast_unsigned, w32}
use Rattle.std.proofs.lemmas.Int.{of_z-to_z}
use Rattle.arena_values.proofs.Addresses.{which}

-- below 2^31 it is the word
pub signed_low : (w : ℕ) → w < 2 ^ 31 → cast_signed w32 w ≡ pos w
signed_low w l = let e : nat_lt w 2147483648 ≡ true = grind arith in rw e refl

-- and from there on so much below 2^32
pub signed_high : (w : ℕ) → 2 ^ 31 ≤ w → cast_signed w32 w ≡ negsuc (2 ^ 32 - suc w)
signed_high w l = let e : nat_lt w 2147483648 ≡ false = grind arith in rw e refl

-- the word of a number that isn't negative
pub index_is : (w i : ℕ) → pos i ≡ cast_signed w32 w → w < 2 ^ 32 → w ≡ i
index_is w i e l = sym (of_z-to_z w32 w l) ∙ ap (cast_unsigned w32) (sym e)

pub null_is : (w : ℕ) → pos 0 ≡ cast_signed w32 w → w < 2 ^ 32 → w ≡ 0
null_is w e l = index_is w 0 e l

pos_isnt : (n m : ℕ) → negsuc n ≡ pos m → ⊥
pos_isnt n m e = cc

-- and of one that is
pub negative_is : (w i : ℕ) → negsuc i ≡ cast_signed w32 w → w < 2 ^ 32 → 2 ^ 31 ≤ w
negative_is w i e l = ⊎_elim (λ s. absurd (pos_isnt i w (e ∙ signed_low w s))) (λ s. s) (which w (2 ^ 31))
