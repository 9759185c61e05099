-- What stands between tokens: white space and comments.
use Rattle.std.specs.Prelude.{◌≡◌, ℕ, Bool, not, ◌||◌, ◌&&◌, ◌==◌, ◌⊎◌, ◌+◌, ◌<◌, ◌≤◌, List, [], ◌∷◌, length, slice_index, IsTrue, if◌then◌else◌}
use Rattle.sts_lexer.specs.Bytes.{is_blank, is_break, Each}

-- `//` or `/*` stands at i
abbrev pub opens_comment : List ℕ → ℕ → Bool
opens_comment text i =
    (slice_index text i == 47) && ((slice_index text (i + 1) == 47) || (slice_index text (i + 1) == 42))

-- From i up to j stands a comment that `//` opens: up to the next line break or the end of the text
-- (SingleLineComment of ECMA-262, section 12.4).
pub record IsLineComment (text : List ℕ) (i j : ℕ) : Type 0 where
  pub first : slice_index text i ≡ 47
  pub second : slice_index text (i + 1) ≡ 47
  pub after : i + 2 ≤ j
  pub within : j ≤ length text
  pub unbroken : Each (λ byte. not (is_break byte)) text i j
  pub ends : (j ≡ length text) ⊎ IsTrue (is_break (slice_index text j))

-- `*/` stands at k
abbrev pub Closes : List ℕ → ℕ → Type 0
Closes text k = (slice_index text k ≡ 42) × (slice_index text (k + 1) ≡ 47)

-- From i up to j stands a comment that `/*` opens: up to the next `*/` behind that, which belongs to it
-- (MultiLineComment of ECMA-262, section 12.4).
pub record IsBlockComment (text : List ℕ) (i j : ℕ) : Type 0 where
  pub first : slice_index text i ≡ 47
  pub second : slice_index text (i + 1) ≡ 42
  pub close : ℕ
  pub after : i + 2 ≤ close
  pub closes : Closes text close
  pub next : (k : ℕ) → i + 2 ≤ k → k < close → Closes text k → ⊥
  pub ends : j ≡ close + 2

-- a byte of white space stands at i, or a comment from i up to j
abbrev pub IsSpace : List ℕ → ℕ → ℕ → Type 0
IsSpace text i j =
    (IsTrue (is_blank (slice_index text i)) × (j ≡ i + 1)) ⊎ (IsLineComment text i j ⊎ IsBlockComment text i j)

-- White space and comments stand from i up to j, one behind the other; each ends at the next of these places.
abbrev pub IsGap : List ℕ → ℕ → List ℕ → ℕ → Type 0
IsGap text i [] j = i ≡ j
IsGap text i (next ∷ places) j = IsSpace text i next × IsGap text next places j

-- where reading begins: behind a byte order mark (U+FEFF in UTF-8), and at 0 in a text without one
abbrev pub start_of : List ℕ → ℕ
start_of text =
    if (slice_index text 0 == 0xEF) && ((slice_index text 1 == 0xBB) && (slice_index text 2 == 0xBF)) then 3 else 0
