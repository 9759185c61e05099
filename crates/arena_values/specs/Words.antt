-- The machine's words for values.
use Rattle.std.specs.Prelude.{◌≡◌, ℕ, ◌<◌, ◌^◌}
use Rattle.std.specs.Int.{cast_signed, w32}
use Rattle.thumb_code.specs.Map.{arena_words}
use Rattle.bank_model.specs.Arrays.{behind_words}
use Rattle.sts_meaning.specs.Values.{Value, Whole, Object, Text, Code}

-- An image's words for texts and functions: IsText t w, the text t stands at the address w; IsCode f w, w is the code address of the function f.
module _ (IsText IsCode : ℕ → ℕ → Type 0) where
  -- The word w stands for a value. A number is the word read with its sign; an object or array is the address of its words.
  abbrev pub Is : Value → ℕ → Type 0
  Is (Whole n) w = (n ≡ cast_signed w32 w) × (w < 2 ^ 32)
  Is (Object n) w = (w ≡ behind_words n) × (n < arena_words)
  Is (Text t) w = IsText t w
  Is (Code f) w = IsCode f w
