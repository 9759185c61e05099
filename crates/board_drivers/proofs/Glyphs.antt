-- The code's glyphs are those of the font, byte by byte.
use Rattle.std.proofs.Common.{◌≡◌, ℕ, zero, suc, ◌<◌, ◌&&◌, ◌==◌, Bool, true, false, refl, subst, arith, slice_index, nat_lt, ◌^◌, ◌≢◌}
use Rattle.std.proofs.lemmas.Bool.Decides.{nat_tests}
use Rattle.board_drivers.specs.declared.font.TheConstants.{GLYPHS}
use Rattle.board_world.specs.Font.{glyph_of}
use Rattle.board_drivers.specs.Places.{place_of}

abbrev all_below : (ℕ → Bool) → ℕ → Bool
all_below test zero = true
all_below test (suc n) = test n && all_below test n

both : (a b : Bool) → (a && b) ≡ true → (a ≡ true) × (b ≡ true)
both true true e = (refl, refl)
both true false e = absurd (cc)
both false b e = absurd (cc)

below-all : (test : ℕ → Bool) (n k : ℕ) → all_below test n ≡ true → k < n → test k ≡ true
below-all test zero k h lt = absurd (omega arith)
below-all test (suc n) k h lt = by_place (k == n) refl (both (test n) (all_below test n) h) (λ below. below-all test n k (both (test n) (all_below test n) h).1 below)
  where
    by_place : (c : Bool) → (k == n) ≡ c → (test n ≡ true) × (all_below test n ≡ true) → (k < n → test k ≡ true) → test k ≡ true
    by_place true e p more = (let same : n ≡ k = grind (arith, nat_tests) in subst (λ (m : ℕ). test m ≡ true) same p.0)
    by_place false e p more = more (let other : k ≢ n = grind (arith, nat_tests) in omega arith)

same_glyph : ℕ → Bool
same_glyph byte = slice_index GLYPHS (place_of byte) == glyph_of byte

pub glyphs-same : (byte : ℕ) → byte < 256 → slice_index GLYPHS (place_of byte) ≡ glyph_of byte
unfolding same_glyph
glyphs-same byte h = (let all : all_below same_glyph 256 ≡ true = refl in let here : same_glyph byte ≡ true = below-all same_glyph 256 byte all h in grind (arith, nat_tests))

small_glyph : ℕ → Bool
small_glyph byte = nat_lt (slice_index GLYPHS (place_of byte)) (2 ^ 25)

pub glyphs-small : (byte : ℕ) → byte < 256 → slice_index GLYPHS (place_of byte) < 2 ^ 25
unfolding small_glyph
glyphs-small byte h = (let all : all_below small_glyph 256 ≡ true = refl in let here : small_glyph byte ≡ true = below-all small_glyph 256 byte all h in grind (arith, nat_tests))
