-- The words of a text, as a reader sees them: names, numbers, texts in quotes, comments, runs of signs, and single brackets and marks.
use Rattle.std.specs.Prelude.{◌≡◌, ℕ, ◌-◌, ◌==◌, ◌&&◌, ◌||◌, nat_le, not, Bool, false, List, [], ◌∷◌, length, take, if◌then◌else◌}
use Rattle.std.specs.Char.{is_ascii_alphanumeric}
use Rattle.around_place.specs.declared.words.WordKind.{WordKind}
use Rattle.around_place.specs.declared.words.WordKind.TheVariants.{Blank, Name, Foreign, Sign, Unbroken}

-- a line ends with LF or CR
abbrev pub breaks_line : ℕ → Bool
breaks_line byte = (byte == 10) || (byte == 13)

-- the signs of which longer marks are made: = < > ! and + - * and & | ? :
abbrev pub is_sign : ℕ → Bool
is_sign byte =
    ((byte == 61) || ((byte == 60) || ((byte == 62) || (byte == 33))))
    || (((byte == 43) || ((byte == 45) || (byte == 42)))
    || ((byte == 38) || ((byte == 124) || ((byte == 63) || (byte == 58)))))

-- the kinds of bytes that stand in runs: what stands between words; letters, digits, `_` and `$`; what is beyond ASCII; signs; all but line breaks
abbrev pub in_kind : WordKind → ℕ → Bool
in_kind Blank byte = (byte == 32) || ((byte == 9) || breaks_line byte)
in_kind Name byte = is_ascii_alphanumeric byte || ((byte == 95) || (byte == 36))
in_kind Foreign byte = nat_le 128 byte
in_kind Sign byte = is_sign byte
in_kind Unbroken byte = not (breaks_line byte)

-- letters, digits, `_` and `$`
abbrev pub in_a_name : ℕ → Bool
in_a_name = in_kind Name

-- bytes of what is beyond ASCII
abbrev pub beyond_ascii : ℕ → Bool
beyond_ascii = in_kind Foreign

-- what stands behind the first bytes of a text that pass a test
unfoldable pub behind_run : (ℕ → Bool) → List ℕ → List ℕ
behind_run test [] = []
behind_run test (byte ∷ rest) = if test byte then behind_run test rest else byte ∷ rest

-- a text opens with `"`, `'` or a backquote
abbrev pub opens_text : ℕ → Bool
opens_text byte = (byte == 34) || ((byte == 39) || (byte == 96))

-- What stands behind a text in quotes: behind the next such quote without a backslash before it, or from the end of the line on where that comes first, but for backquotes.
unfoldable pub behind_text : ℕ → Bool → List ℕ → List ℕ
behind_text quote escaped [] = []
behind_text quote escaped (byte ∷ rest) =
    if not escaped && (byte == quote) then rest
    else if not escaped && (breaks_line byte && not (quote == 96)) then byte ∷ rest
    else behind_text quote (not escaped && (byte == 92)) rest

-- what stands behind the next `*/`; whether a star stands right before is told
unfoldable pub behind_comment : Bool → List ℕ → List ℕ
behind_comment starred [] = []
behind_comment starred (byte ∷ rest) = if starred && (byte == 47) then rest else behind_comment (byte == 42) rest

-- what stands behind a `/`, and behind the comment that it begins, if it begins one
abbrev pub behind_slash : List ℕ → List ℕ
behind_slash [] = []
behind_slash (byte ∷ rest) =
    if byte == 47 then behind_run (in_kind Unbroken) (byte ∷ rest)
    else if byte == 42 then behind_comment false rest
    else byte ∷ rest

-- What stands behind a word, by its first byte and what follows: a run of letters and digits, of what is beyond ASCII, or of signs; a text in quotes; a comment; or this byte alone.
unfoldable pub behind_word : ℕ → List ℕ → List ℕ
behind_word first rest =
    if in_kind Name first then behind_run (in_kind Name) rest
    else if in_kind Foreign first then behind_run (in_kind Foreign) rest
    else if in_kind Sign first then behind_run (in_kind Sign) rest
    else if opens_text first then behind_text first false rest
    else if first == 47 then behind_slash rest
    else rest

-- a text from its first word on
abbrev pub from_word : List ℕ → List ℕ
from_word text = behind_run (in_kind Blank) text

-- no word stands in a text
abbrev pub IsBlank : List ℕ → Type 0
IsBlank text = from_word text ≡ []

-- the first word of a text, and what stands behind it
pub record IsFirstWord (text word after : List ℕ) : Type 0 where
  pub first : ℕ
  pub rest : List ℕ
  pub here : from_word text ≡ first ∷ rest
  pub behind : after ≡ behind_word first rest
  pub spelled : word ≡ take (length (first ∷ rest) - length after) (first ∷ rest)

-- the words of a text, in order
unfoldable pub AreItsWords : List ℕ → List (List ℕ) → Type 0
AreItsWords text [] = IsBlank text
AreItsWords text (word ∷ words) = (after : List ℕ) × (IsFirstWord text word after × AreItsWords after words)
