-- The reserved words and the marks by the byte that they begin with, as the code has them.
use Rattle.std.specs.Prelude.{ℕ, ◌==◌, List, [], ◌∷◌, if◌then◌else◌}
use Rattle.sts_lexer.specs.declared.marks.Mark.{Mark}
use Rattle.sts_lexer.specs.declared.marks.Mark.TheVariants as mark
use Rattle.sts_lexer.specs.declared.words.Word.{Word}
use Rattle.sts_lexer.specs.declared.words.Word.TheVariants as word

-- the reserved words that begin with a byte
abbrev pub words_beginning : ℕ → List Word
words_beginning byte =
    if byte == 98 then word.Break ∷ []
    else (if byte == 99 then word.Class ∷ word.Const ∷ word.Continue ∷ word.Case ∷ word.Catch ∷ []
    else (if byte == 100 then word.Do ∷ word.Debugger ∷ word.Default ∷ word.Delete ∷ []
    else (if byte == 101 then word.Else ∷ word.Extends ∷ word.Enum ∷ word.Export ∷ []
    else (if byte == 102 then word.False ∷ word.For ∷ word.Function ∷ word.Finally ∷ []
    else (if byte == 105 then
    word.If ∷ word.Implements ∷ word.Import ∷ word.In ∷ word.Instanceof ∷ word.Interface ∷ []
    else (if byte == 108 then word.Let ∷ []
    else (if byte == 110 then word.New ∷ word.Null ∷ []
    else (if byte == 112 then word.Private ∷ word.Protected ∷ word.Public ∷ word.Package ∷ []
    else (if byte == 114 then word.Return ∷ []
    else (if byte == 115 then word.Super ∷ word.Static ∷ word.Switch ∷ []
    else (if byte == 116 then word.This ∷ word.True ∷ word.Throw ∷ word.Try ∷ word.Typeof ∷ []
    else (if byte == 118 then word.Void ∷ word.Var ∷ []
    else (if byte == 119 then word.While ∷ word.With ∷ []
    else (if byte == 121 then word.Yield ∷ []
    else []))))))))))))))

-- the marks that begin with a byte, none before a longer one
abbrev pub marks_beginning : ℕ → List Mark
marks_beginning byte =
    if byte == 33 then mark.StrictNotEqual ∷ mark.NotEqual ∷ mark.Exclamation ∷ []
    else (if byte == 37 then mark.PercentAssign ∷ mark.Percent ∷ []
    else (if byte == 38 then mark.AmpersandAssign ∷ mark.AmpersandAmpersand ∷ mark.Ampersand ∷ []
    else (if byte == 40 then mark.OpenParenthesis ∷ []
    else (if byte == 41 then mark.CloseParenthesis ∷ []
    else (if byte == 42 then mark.StarAssign ∷ mark.Star ∷ []
    else (if byte == 43 then mark.PlusAssign ∷ mark.PlusPlus ∷ mark.Plus ∷ []
    else (if byte == 44 then mark.Comma ∷ []
    else (if byte == 45 then mark.MinusAssign ∷ mark.MinusMinus ∷ mark.Minus ∷ []
    else (if byte == 46 then mark.Dot ∷ []
    else (if byte == 47 then mark.SlashAssign ∷ mark.Slash ∷ []
    else (if byte == 58 then mark.Colon ∷ []
    else (if byte == 59 then mark.Semicolon ∷ []
    else (if byte == 60 then mark.ShiftLeftAssign ∷ mark.LessEqual ∷ mark.ShiftLeft ∷ mark.Less ∷ []
    else (if byte == 61 then mark.StrictEqual ∷ mark.Arrow ∷ mark.Equal ∷ mark.Assign ∷ []
    else (if byte == 62 then
    mark.UnsignedShiftRightAssign ∷ mark.ShiftRightAssign ∷ mark.UnsignedShiftRight ∷ mark.GreaterEqual
    ∷ mark.ShiftRight ∷ mark.Greater ∷ []
    else (if byte == 63 then mark.Question ∷ []
    else (if byte == 91 then mark.OpenBracket ∷ []
    else (if byte == 93 then mark.CloseBracket ∷ []
    else (if byte == 94 then mark.CaretAssign ∷ mark.Caret ∷ []
    else (if byte == 123 then mark.OpenBrace ∷ []
    else (if byte == 124 then mark.BarAssign ∷ mark.BarBar ∷ mark.Bar ∷ []
    else (if byte == 125 then mark.CloseBrace ∷ []
    else (if byte == 126 then mark.Tilde ∷ []
    else [])))))))))))))))))))))))
