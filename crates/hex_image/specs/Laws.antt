-- What holds of every text and every image.
use Rattle.std.specs.Prelude.{◌≡◌, ℕ, ◌<◌, ◌≤◌, ◌⊎◌, List, length}
use Rattle.std.specs.List.{All}
use Rattle.hex_image.specs.declared.refused.HexCode.{HexCode}
use Rattle.hex_image.specs.Spells.{Spells, Breaks, flash_size}
use Rattle.hex_image.specs.Writing.{hextext}

-- A text spells one image, or there is one rule that it breaks first.
pub record OneReading (text : List ℕ) : Type 0 where
  pub either : ((image : List ℕ) × Spells text image) ⊎ ((code : HexCode) × Breaks text code)
  pub one_image : (a b : List ℕ) → Spells text a → Spells text b → a ≡ b
  pub one_code : (a b : HexCode) → Breaks text a → Breaks text b → a ≡ b
  pub not_both : (image : List ℕ) (code : HexCode) → Spells text image → Breaks text code → ⊥

-- what fits the board's flash, byte by byte
pub record IsImage (image : List ℕ) : Type 0 where
  pub fits : length image ≤ flash_size
  pub bytes : All (λ b. b < 256) image

-- The text that is written for an image spells it, and no other.
pub record RoundTrip (image : List ℕ) : Type 0 where
  pub spelled : Spells (hextext image) image
  pub only : (other : List ℕ) → Spells (hextext image) other → other ≡ image
