-- The line and column of a place in a text.
use Rattle.std.specs.Prelude.{◌≡◌, ℕ, zero, suc, ◌+◌, ◌<◌, ◌≤◌, ◌==◌, Bool, true, false, not, ◌&&◌, ◌||◌, if◌then◌else◌, List, slice_index}

-- A line begins at the start of the text, and behind each line break: behind LF, and behind a CR that no LF follows.
abbrev pub begins_line : List ℕ → ℕ → Bool
begins_line text zero = true
begins_line text (suc before) =
    (slice_index text before == 10) || ((slice_index text before == 13) && not (slice_index text (suc before) == 10))

-- the number of lines that begin at a place or before it
unfoldable pub lines_upto : List ℕ → ℕ → ℕ
lines_upto text zero = 1
lines_upto text (suc before) = lines_upto text before + (if begins_line text (suc before) then 1 else 0)

-- The line of a place is the number of lines that have begun there, and its column counts bytes from 1, from
-- where the last of them began.
pub record IsPlace (text : List ℕ) (at line column : ℕ) : Type 0 where
  pub start : ℕ
  pub begins : begins_line text start ≡ true
  pub last : (later : ℕ) → start < later → later ≤ at → begins_line text later ≡ false
  pub counted : start + column ≡ at + 1
  pub behind : 0 < column
  pub lines : line ≡ lines_upto text at
