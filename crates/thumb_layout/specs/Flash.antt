-- When a flash has laid code from an address on, with what was open in it.
use Rattle.std.specs.Prelude.{◌≡◌, ℕ, zero, suc, ◌+◌, ◌<◌, ◌≤◌, ◌⊎◌, ℤ, List, [], ◌∷◌, length, Bool, true, false, ◌==◌, if◌then◌else◌, Option, Some, slice_get, slice_index}
use Rattle.thumb_code.specs.declared.instructions.Instr.TheVariants.{Bl}
use Rattle.thumb_code.specs.RegisterFile.{word}
use Rattle.thumb_code.specs.Table.{half, Fits, IsSpelling}
use Rattle.thumb_code.specs.Map.{flash_byte, flash_half, flash_word}
use Rattle.thumb_layout.specs.declared.pieces.What.{What}
use Rattle.thumb_layout.specs.declared.pieces.What.TheVariants.{Function}
use Rattle.thumb_layout.specs.declared.pieces.Piece.{Piece}
use Rattle.thumb_layout.specs.declared.pieces.Piece.TheVariants.{Go}
use Rattle.thumb_layout.specs.declared.laid.Fix.{Fix}
use Rattle.thumb_layout.specs.declared.laid.Laid.{Laid}
use Rattle.thumb_layout.specs.Pieces.{Places, always}
use Rattle.thumb_layout.specs.Layout.{nth, form_of, rest_of, label_index}
use Rattle.thumb_layout.specs.Rounds.{forms, layout}
use Rattle.thumb_layout.specs.Holds.{moved}

-- A place in laid code is outside what is open.
abbrev pub IsOutside : ℕ → List Fix → Type 0
IsOutside at [] = Unit {0}
IsOutside at (f ∷ fs) = ((at < f.at) ⊎ (f.at + 4 ≤ at)) × IsOutside at fs

-- The function of a call.
abbrev pub callee : What → ℕ
callee (Function function) = function
callee _ = 0

module _ (flash : List ℕ) (base : ℕ) (entry : ℕ → ℕ) (word_of : What → ℕ) where
  -- A BL to an address stands at another.
  abbrev pub IsCall : ℕ → ℕ → Type 0
  IsCall at to =
      (o : ℤ) × Fits (Bl o) × IsSpelling (half (Bl o)) (flash_half flash at) (flash_half flash (at + 2))
      × (moved at o ≡ to)

  -- What was open is there.
  abbrev pub IsOpened : Bool → ℕ → What → Type 0
  IsOpened true at what = IsCall at (entry (callee what))
  IsOpened false at what = flash_word flash at ≡ word_of what

  abbrev pub IsFixed : Fix → Type 0
  IsFixed f = IsOpened f.call (base + f.at) f.what

  abbrev pub AreFixed : List Fix → Type 0
  AreFixed [] = Unit {0}
  AreFixed (f ∷ fs) = IsFixed f × AreFixed fs

  -- The flash has the code from the base on: its bytes, and what was open in it.
  pub record HasCode (code : Laid) : Type 0 where
    pub bytes : (k : ℕ) → k < length code.bytes → IsOutside k code.fixes
        → flash_byte flash (base + k) ≡ slice_index code.bytes k
    pub fixes : AreFixed code.fixes

abbrev pub form_at : List ℕ → ℕ → ℕ
form_at fs zero = form_of fs
form_at fs (suc i) = form_at (rest_of fs) i

-- What LR is after a branch of a form, given the address behind it and what it was. Only a BL changes it.
abbrev pub link_by : Option Piece → ℕ → ℕ → ℕ → ℕ
link_by (Some (Go cond label)) form behind lr =
    if cond == always then (if form == 0 then lr else word (behind + 1))
    else if form == 0 then lr
    else if form == 1 then lr
    else word (behind + 1)
link_by x form behind lr = lr

-- Where the pieces stand, from a base on.
abbrev pub places : ℕ → (ℕ → ℕ) → (What → ℕ) → List Piece → Places
places base entry word_of xs = record {
  at = λ i. base + (nth (layout xs) i).at;
  behind = λ i. base + (nth (layout xs) i).behind;
  label = label_index xs;
  entry = entry;
  word_of = word_of;
  link = λ i lr. link_by (slice_get xs i) (form_at (forms xs) i) (base + (nth (layout xs) i).behind) lr;
}
