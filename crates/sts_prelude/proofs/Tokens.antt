-- The tokens of the library's text, by tables of its own.
use Rattle.std.proofs.Common.{◌≡◌, ℕ, zero, suc, ◌+◌, Bool, true, false, List, [], ◌∷◌, ◌++◌, length, take, drop, refl}
use Rattle.std.specs.Prelude.{pos, if◌then◌else◌, slice_index, ◌==◌}
use lib.Chars.{codes}
use Rattle.std.specs.Str.{bytes_eq}
use Rattle.std.specs.Str.Parse.{digits_value}
use Rattle.std.specs.Char.{is_ascii_digit}
use Rattle.sts_base.specs.declared.tables.Tables.{Tables}
use Rattle.sts_lexer.specs.Bytes.{is_blank, is_break, begins_name, goes_on_name, is_quote}
use Rattle.sts_lexer.specs.Marks.{mark_bytes}
use Rattle.sts_lexer.specs.Tokens.{IsTokenization}
use Rattle.sts_lexer.specs.declared.marks.Mark.{Mark}
use Rattle.sts_lexer.specs.declared.marks.Mark.TheVariants as m
use Rattle.sts_lexer.specs.declared.words.Word.TheVariants as w
use Rattle.sts_lexer.specs.declared.token.TokenKind.{TokenKind}
use Rattle.sts_lexer.specs.declared.token.TokenKind.TheVariants as k
use Rattle.sts_lexer.specs.declared.token.Token.{Token}
use Rattle.sts_lexer.proofs.Laws.{is_tokenized, tokenized, finish_behind}
use Rattle.sts_prelude.specs.declared.text.TheConstants.{LIBRARY}

-- its names in the order in which they first appear, and its one text
abbrev pub own : Tables
own = record {
  names = codes "function" ∷ codes "$showLeds" ∷ codes "f" ∷ codes "number" ∷ codes "void" ∷ codes "$show" ∷ codes "basic" ∷ codes "pause"
      ∷ codes "$showNumber" ∷ codes "n" ∷ codes "let" ∷ codes "i" ∷ codes "g" ∷ codes "$numberGlyph" ∷ codes "while" ∷ codes "$showString"
      ∷ codes "s" ∷ codes "string" ∷ codes "$textGlyph" ∷ codes "$writeLine" ∷ codes "serial" ∷ codes "writeString" ∷ codes "$abs" ∷ codes "return"
      ∷ codes "$min" ∷ codes "a" ∷ codes "b" ∷ codes "$max" ∷ [];
  texts = (13 ∷ 10 ∷ []) ∷ [];
}

-- What follows finds the tokens; that they are the text's is then tested.

-- how many bytes at the front pass
abbrev run : (ℕ → Bool) → List ℕ → ℕ
run test [] = 0
run test (b ∷ rest) = if test b then suc (run test rest) else 0

abbrev entry_in : List (List ℕ) → List ℕ → ℕ
entry_in [] bytes = 0
entry_in (s ∷ strings) bytes = if bytes_eq s bytes then 0 else suc (entry_in strings bytes)

-- a reserved word has one of these entries
abbrev kind_of_entry : ℕ → TokenKind
kind_of_entry entry =
    if entry == 0 then k.Word w.Function entry
    else (if entry == 4 then k.Word w.Void entry
    else (if entry == 10 then k.Word w.Let entry
    else (if entry == 14 then k.Word w.While entry
    else (if entry == 23 then k.Word w.Return entry
    else k.Name entry))))

-- the mark that begins with these two bytes
abbrev mark_of : (first second : ℕ) → Mark
mark_of first second =
    if first == 40 then m.OpenParenthesis
    else (if first == 41 then m.CloseParenthesis
    else (if first == 123 then m.OpenBrace
    else (if first == 125 then m.CloseBrace
    else (if first == 58 then m.Colon
    else (if first == 59 then m.Semicolon
    else (if first == 44 then m.Comma
    else (if first == 46 then m.Dot
    else (if first == 63 then m.Question
    else (if first == 61 then m.Assign
    else (if first == 60 then m.Less
    else (if first == 45 then m.Minus
    else (if first == 43 then m.PlusAssign
    else (if second == 61 then m.GreaterEqual
    else m.Greater)))))))))))))

-- the kind of the token at the front, and how many bytes it takes
abbrev front_token : ℕ → List ℕ → TokenKind × ℕ
front_token b rest =
    if begins_name b then (kind_of_entry (entry_in own.names (take (run goes_on_name rest) rest)), run goes_on_name rest)
    else (if is_ascii_digit b then (k.Num (pos (digits_value 10 (take (run is_ascii_digit rest) rest))), run is_ascii_digit rest)
    else (if is_quote b then (k.Text 0, 6)
    else (k.Mark (mark_of b (slice_index rest 1)), length (mark_bytes (mark_of b (slice_index rest 1))))))

abbrev any : (ℕ → Bool) → List ℕ → Bool
any test [] = false
any test (b ∷ rest) = if test b then true else any test rest

-- the tokens of the rest of a text from i on, n at most
abbrev found : (n i : ℕ) → List ℕ → List Token
found zero i rest = []
found (suc n) i rest =
    let blanks = run is_blank rest in
    elim (drop blanks rest) [
      | [] ↦ []
      | (b ∷ more) ↦
          let t = front_token b (b ∷ more) in
          record { kind = t.0; span = record { from = i + blanks; upto = i + blanks + t.1 }; broken = any is_break (take blanks rest) }
          ∷ found n (i + blanks + t.1) (drop t.1 (b ∷ more))
    ]

abbrev pub front : List Token
front = found 300 0 LIBRARY.now

pub count : length front ≡ 225
count = refl

pub tested : is_tokenized own LIBRARY.now front ≡ true
tested = refl

abbrev pub own_tokens : List Token
own_tokens = front ++ finish_behind LIBRARY.now front ∷ []

pub own_tokenized : IsTokenization own LIBRARY.now own_tokens
own_tokenized = tokenized own LIBRARY.now front tested
