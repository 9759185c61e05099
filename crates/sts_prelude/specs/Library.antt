-- The tree of the library's text, over the text's tokens, which are counted from 0. Private functions make it, and laws
-- name it; a text spells one tree, so no claim rests on it.
use Rattle.std.specs.Prelude.{ℕ, ℤ, pos, ◌+◌, false, Some, None, List, [], ◌∷◌, slice_get}
use Rattle.sts_syntax.specs.declared.operators.TheConstants.{ADD}
use Rattle.sts_lexer.specs.declared.token.TokenKind.{TokenKind}
use Rattle.sts_lexer.specs.declared.token.TokenKind.TheVariants as k
use Rattle.sts_lexer.specs.declared.token.Token.{Token}
use Rattle.sts_syntax.specs.Annotations as a
use Rattle.sts_syntax.specs.Annotations.{Annotation}
use Rattle.sts_syntax.specs.Trees.{Parameter, Tree, Num, Text, Name, Binary, Choice, Set, Member, Call, Trees, none, more, present, Statement, Block, Let, While, Return, Plain, Statements, done, also, Declare, ended, next, Does}
use Rattle.sts_syntax.specs.Programs.{TopLevel, Function, Program}
use Rattle.sts_grammar.specs.Source.{kind_of, place_of}

abbrev pub entry_of : TokenKind → ℕ
entry_of (k.Name named_at) = named_at
entry_of (k.Word word named_at) = named_at
entry_of (k.Text named_at) = named_at
entry_of other = 0

module _ (tokens : List Token) where
  -- the place of the token at i, and the named_at that it names
  abbrev pub place : ℕ → ℕ
  place i = place_of (slice_get tokens i)

  abbrev pub named_at : ℕ → ℕ
  named_at i = entry_of (kind_of (slice_get tokens i))

  -- the name and the number at i
  abbrev pub name : ℕ → Tree
  name i = Name (place i) (named_at i)

  abbrev pub number : ℕ → ℤ → Tree
  number i value = Num (place i) value

  -- `f(..)` from i on, and `x.f(argument)` as a statement
  abbrev pub call : ℕ → Trees → Tree
  call i args = Call (place i) (name i) args

  abbrev pub member_call : ℕ → (argument : Tree) → Statement
  member_call i argument =
      Plain (place i) (Call (place i) (Member (place i) (name i) (named_at (i + 2))) (more argument none))

  -- `$show(x)` and `basic.pause(400)` from i on
  abbrev pub show : ℕ → Statement
  show i = Plain (place i) (call i (more (name (i + 2)) none))

  abbrev pub pause : ℕ → Statement
  pause i = member_call i (number (i + 4) (pos 400))

  -- `$glyph(x, index)` from i on, and `let x = first`
  abbrev pub glyph : ℕ → (index : Tree) → Tree
  glyph i index = call i (more (name (i + 2)) (more index none))

  abbrev pub declare : ℕ → (first : Tree) → Statement
  declare i first = Let (place i) false (next (Declare (place (i + 1)) (named_at (i + 1)) None (present first)) ended)

  -- `i += 1` and `g = $glyph(x, i)` from i on
  abbrev pub count : ℕ → Statement
  count i = Plain (place i) (Set (place i) (Some ADD) (name i) (number (i + 2) (pos 1)))

  abbrev pub next_glyph : ℕ → Statement
  next_glyph i = Plain (place i) (Set (place i) None (name i) (glyph (i + 2) (name (i + 6))))

  -- `$show(g); basic.pause(400); i += 1; g = $glyph(x, i)` from i on
  abbrev pub turn : ℕ → Statements
  turn i = also (show i) (also (pause (i + 5)) (also (count (i + 12)) (also (next_glyph (i + 16)) done)))

  -- `while (g >= 0) { .. }` from i on
  abbrev pub glyph_loop : ℕ → Statement
  glyph_loop i =
      While (place i) (Binary (place (i + 2)) 9 (name (i + 2)) (number (i + 4) (pos 0)))
      (Block (place (i + 6)) (turn (i + 7)))

  -- `let g = $glyph(x, 0)` from i on
  abbrev pub first_glyph : ℕ → Statement
  first_glyph i = declare i (glyph (i + 3) (number (i + 7) (pos 0)))

  -- the statements of `$showNumber` and `$showString`, from i on
  abbrev pub show_glyphs : ℕ → Statements
  show_glyphs i =
      also (declare i (number (i + 3) (pos 0))) (also (first_glyph (i + 4)) (also (glyph_loop (i + 13)) done))

  -- of `$showLeds` and `$writeLine`
  abbrev pub show_leds : ℕ → Statements
  show_leds i = also (show i) (also (pause (i + 5)) done)

  abbrev pub write_line : ℕ → Statements
  write_line i = also (member_call i (name (i + 4))) (also (member_call (i + 7) (Text (place (i + 11)) (named_at (i + 11)))) done)

  -- `return n < 0 ? 0 - n : n` and `return a < b ? a : b`, with the number of the operator, from i on
  abbrev pub absolute : ℕ → Statements
  absolute i =
      also (Return (place i) (present
      (Choice (place (i + 1)) (Binary (place (i + 1)) 6 (name (i + 1)) (number (i + 3) (pos 0)))
      (Binary (place (i + 5)) 14 (number (i + 5) (pos 0)) (name (i + 7))) (name (i + 9))))) done

  abbrev pub one_of_two : ℕ → (op : ℕ) → Statements
  one_of_two i op =
      also (Return (place i) (present
      (Choice (place (i + 1)) (Binary (place (i + 1)) op (name (i + 1)) (name (i + 3))) (name (i + 5)) (name (i + 7))))) done

  abbrev pub parameter : ℕ → Annotation → Parameter
  parameter i type = record { at = place i; name = named_at i; shape = Some type }

  -- `function NAME(..): gives { .. }` from i on
  abbrev pub function : ℕ → List Parameter → Annotation → Statements → TopLevel
  function i params gives all = Function (named_at (i + 1)) (Does (place (i + 1)) params (Some gives) all false)

  -- a function of one parameter
  abbrev pub of_parameter : ℕ → Annotation → (gives : Annotation) → Statements → TopLevel
  of_parameter i type gives all = function i (parameter (i + 3) type ∷ []) gives all

  -- `$min` and `$max`, by the number of the operator
  abbrev pub least_or_greatest : ℕ → (op : ℕ) → TopLevel
  least_or_greatest i op =
      function i (parameter (i + 3) a.Number ∷ parameter (i + 7) a.Number ∷ []) a.Number (one_of_two (i + 14) op)

  -- the library
  abbrev pub library : Program
  library =
      of_parameter 0 a.Number a.Nothing (show_leds 10) ∷ of_parameter 22 a.Number a.Nothing (show_glyphs 32)
      ∷ of_parameter 78 a.Text a.Nothing (show_glyphs 88) ∷ of_parameter 134 a.Text a.Nothing (write_line 144)
      ∷ of_parameter 158 a.Number a.Number (absolute 168) ∷ least_or_greatest 179 6 ∷ least_or_greatest 202 7 ∷ []
