-- What a folder tells of its files, and what a fetch may answer.
use Rattle.std.specs.Prelude.{◌≡◌, ◌<◌, ◌≤◌, ℕ, List, length, Option, Some, None}
use Rattle.tool_folder.specs.declared.folder.Found.{Found}
use Rattle.tool_folder.specs.declared.folder.Found.TheVariants.{Whole, Missing, TooLong}

-- What was found agrees with what the folder tells of the file: its bytes, or that there is none.
abbrev pub IsFoundOf : Option (List ℕ) → ℕ → Found → Type 0
IsFoundOf content limit (Whole bytes) = content ≡ Some bytes.items
IsFoundOf content limit Missing = content ≡ None
IsFoundOf content limit TooLong = (bytes : List ℕ) × (content ≡ Some bytes) × (limit < length bytes)

-- the bytes that were found are at most `limit`
abbrev pub IsWithinLimit : ℕ → Found → Type 0
IsWithinLimit limit (Whole bytes) = length bytes.items ≤ limit
IsWithinLimit limit _ = Unit {0}
