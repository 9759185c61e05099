-- What only the clauses of private functions speak of: parts of an image one behind another, each from the next multiple of 4 on, and
-- what stands in code where it was open. No claim rests on it.
use Rattle.std.specs.Prelude.{◌≡◌, ℕ, ◌+◌, ◌-◌, ◌%◌, ◌≤◌, List, [], ◌∷◌, ◌++◌, length, replicate, Option, Some, None, slice_index}
use Rattle.std.proofs.lemmas.List.Edits.{sets}
use Rattle.thumb_code.specs.Map.{flash_end}
use Rattle.thumb_layout.specs.declared.laid.Fix.{Fix}
use Rattle.thumb_layout.specs.Layout.{up}
use Rattle.thumb_emit.specs.InFlash.{Addresses}
use Rattle.image_link.specs.declared.addresses.Addresses as code
use Rattle.image_link.specs.Image.{opened}

-- Bytes, with zeros behind them up to the next multiple of 4.
abbrev pub padded : List ℕ → List ℕ
padded bytes = bytes ++ replicate (up (length bytes) - length bytes) 0

-- Where a part of a length ends that is put behind an address. One that is left out takes nothing.
abbrev pub end_with : ℕ → Option ℕ → ℕ
end_with end None = end
end_with end (Some length) = up end + length

-- Where parts of these lengths begin that are put behind an address.
abbrev pub starts : ℕ → List (Option ℕ) → List ℕ
starts end [] = []
starts end (n ∷ ns) = up end ∷ starts (end_with end n) ns

-- The addresses that the code keeps, by numbers.
abbrev pub as_addresses : code.Addresses → Addresses
as_addresses a =
    record {
      function = slice_index a.functions;
      class = slice_index a.classes;
      text = slice_index a.texts;
      routine = a.routine;
    }

-- An address of a part is a multiple of 4, and no part is past the end of flash.
abbrev pub IsPlace : ℕ → Type 0
IsPlace at = (at ≤ flash_end) × (at % 4 ≡ 0)

pub record ArePlaced (a : Addresses) : Type 0 where
  pub functions : (i : ℕ) → IsPlace (a.function i)
  pub routine : IsPlace a.routine
  pub classes : (i : ℕ) → IsPlace (a.class i)
  pub texts : (i : ℕ) → IsPlace (a.text i)

-- The bytes of code that stands at an address, with what was open in it.
abbrev pub filled : Addresses → ℕ → List Fix → List ℕ → List ℕ
filled a at [] bytes = bytes
filled a at (f ∷ fs) bytes = filled a at fs (sets bytes f.at (opened a (at + f.at) f.call f.what))
