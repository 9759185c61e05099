-- The library: what names and types make of its functions. They are the first ones of each program, in this order.
use Rattle.std.specs.Prelude.{ℕ, pos, false, Some, None, List, [], ◌∷◌}
use Rattle.sts_syntax.specs.declared.operators.TheConstants.{LESS, AT_LEAST, ADD, SUBTRACT}
use Rattle.sts_syntax.specs.declared.board_calls.BoardCall.{BoardCall}
use Rattle.sts_syntax.specs.declared.board_calls.BoardCall.TheVariants.{Pause, WriteString, Show, NumberGlyph, TextGlyph}
use Rattle.sts_syntax.specs.declared.typed.Callee.TheVariants as c
use Rattle.sts_syntax.specs.declared.typed.Spot.TheVariants.{Param, Local}
use Rattle.sts_syntax.specs.Types as t
use Rattle.sts_syntax.specs.Types.{ValueType}
use Rattle.sts_syntax.specs.TypedTrees.{TypedTree, Num, Text, Name, Binary, Choice, Set, Call, TypedTrees, none, more, TypedStatement, Block, Let, While, Return, Plain, TypedStatements, done, also, TypedRoutine}

abbrev number : ℕ → TypedTree
number n = Num t.Number (pos n)

abbrev one_of : TypedTree → TypedTrees
one_of a = more a none

abbrev two_of : TypedTree → TypedTree → TypedTrees
two_of a b = more a (more b none)

-- a call of the board that gives nothing, as a statement
abbrev asks : BoardCall → TypedTree → TypedStatement
asks call a = Plain (Call t.Nothing (c.Board call) (one_of a))

abbrev one_local : ℕ → TypedTree → TypedStatement
one_local at first = Let false (record { name = Local at; first = Some first } ∷ [])

-- what `function $NAME(..): gives` with these statements is
abbrev routine : List ValueType → List ValueType → ValueType → TypedStatements → TypedRoutine
routine params locals gives all = record { params = params; locals = locals; gives = gives; all = all }

-- { $show(f); basic.pause(400) }
abbrev pub show_leds : TypedRoutine
show_leds =
    routine (t.Number ∷ []) [] t.Nothing
    (also (asks Show (Name t.Number (Param 0))) (also (asks Pause (number 400)) done))

-- { let i = 0 let g = GLYPH(shown, 0) while (g >= 0) { $show(g); basic.pause(400); i += 1; g = GLYPH(shown, i) } }
abbrev pub show_glyphs : BoardCall → ValueType → TypedRoutine
show_glyphs glyph type =
    let i = Name t.Number (Local 0) in
    let g = Name t.Number (Local 1) in
    let glyph_at = λ (index : TypedTree). Call t.Number (c.Board glyph) (two_of (Name type (Param 0)) index) in
    let turn =
    also (asks Show g) (also (asks Pause (number 400)) (also (Plain (Set t.Number (Some ADD) i (number 1)))
    (also (Plain (Set t.Number None g (glyph_at i))) done))) in
    routine (type ∷ []) (t.Number ∷ t.Number ∷ []) t.Nothing
    (also (one_local 0 (number 0))
    (also (one_local 1 (glyph_at (number 0))) (also (While (Binary t.Boolean AT_LEAST g (number 0)) (Block turn)) done)))

-- { serial.writeString(s); serial.writeString("\r\n") }, where the text of a line end has this number
abbrev pub write_line : ℕ → TypedRoutine
write_line line =
    routine (t.Text ∷ []) [] t.Nothing
    (also (asks WriteString (Name t.Text (Param 0))) (also (asks WriteString (Text t.Text line)) done))

-- { return test ? yes : no }
abbrev pub chooses : List ValueType → TypedTree → TypedTree → TypedTree → TypedRoutine
chooses params test first second =
    routine params [] t.Number (also (Return (Some (Choice t.Number test first second))) done)

-- { return n < 0 ? 0 - n : n }
abbrev pub absolute : TypedRoutine
absolute =
    let n = Name t.Number (Param 0) in
    chooses (t.Number ∷ []) (Binary t.Boolean LESS n (number 0)) (Binary t.Number SUBTRACT (number 0) n) n

-- { return a < b ? a : b }, and with another operator
abbrev pub one_of_two : ℕ → TypedRoutine
one_of_two op =
    let a = Name t.Number (Param 0) in
    let b = Name t.Number (Param 1) in
    chooses (t.Number ∷ t.Number ∷ []) (Binary t.Boolean op a b) a b

-- $showLeds, $showNumber, $showString, $writeLine, $abs, $min and $max
abbrev pub library_routines : (line : ℕ) → List TypedRoutine
library_routines line =
    show_leds ∷ show_glyphs NumberGlyph t.Number ∷ show_glyphs TextGlyph t.Text ∷ write_line line ∷ absolute
    ∷ one_of_two 6 ∷ one_of_two 7 ∷ []
