-- Each reserved word stands in the table of words, and no two have the same bytes.
use Rattle.std.proofs.Common.{◌≡◌, ℕ, ◌<◌, cond, List, [], ◌∷◌, refl, sym, ap, ◌∙◌, lit<}
use Rattle.std.specs.Prelude.{Option, Some, None, slice_get, slice_index}
use Rattle.std.specs.Str.{bytes_eq}
use Rattle.std.proofs.lemmas.Option.{same_Some}
use Rattle.sts_lexer.specs.Words.{word_bytes}
use Rattle.sts_lexer.specs.declared.words.Word.{Word}
use Rattle.sts_lexer.specs.declared.words.Word.TheVariants as word
use Rattle.sts_lexer.specs.inner.{words_beginning}

-- the table of words
abbrev pub WORDS : List Word
WORDS =
    word.Break ∷ word.Class ∷ word.Const ∷ word.Continue ∷ word.Do ∷ word.Else ∷ word.Extends ∷ word.False ∷ word.For ∷
    word.Function ∷ word.If ∷ word.Let ∷ word.New ∷ word.Null ∷ word.Private ∷ word.Protected ∷ word.Public ∷ word.Return ∷
    word.Super ∷ word.This ∷ word.True ∷ word.Void ∷ word.While ∷ word.Case ∷ word.Catch ∷ word.Debugger ∷ word.Default ∷
    word.Delete ∷ word.Enum ∷ word.Export ∷ word.Finally ∷ word.Implements ∷ word.Import ∷ word.In ∷ word.Instanceof ∷ word.Interface ∷
    word.Package ∷ word.Static ∷ word.Switch ∷ word.Throw ∷ word.Try ∷ word.Typeof ∷ word.Var ∷ word.With ∷ word.Yield ∷ []

-- where a word stands in the table
abbrev pub place_of : Word → ℕ
place_of word.Break = 0
place_of word.Class = 1
place_of word.Const = 2
place_of word.Continue = 3
place_of word.Do = 4
place_of word.Else = 5
place_of word.Extends = 6
place_of word.False = 7
place_of word.For = 8
place_of word.Function = 9
place_of word.If = 10
place_of word.Let = 11
place_of word.New = 12
place_of word.Null = 13
place_of word.Private = 14
place_of word.Protected = 15
place_of word.Public = 16
place_of word.Return = 17
place_of word.Super = 18
place_of word.This = 19
place_of word.True = 20
place_of word.Void = 21
place_of word.While = 22
place_of word.Case = 23
place_of word.Catch = 24
place_of word.Debugger = 25
place_of word.Default = 26
place_of word.Delete = 27
place_of word.Enum = 28
place_of word.Export = 29
place_of word.Finally = 30
place_of word.Implements = 31
place_of word.Import = 32
place_of word.In = 33
place_of word.Instanceof = 34
place_of word.Interface = 35
place_of word.Package = 36
place_of word.Static = 37
place_of word.Switch = 38
place_of word.Throw = 39
place_of word.Try = 40
place_of word.Typeof = 41
place_of word.Var = 42
place_of word.With = 43
place_of word.Yield = 44

pub placed : (word : Word) → slice_get WORDS (place_of word) ≡ Some word
placed word.Break = refl
placed word.Class = refl
placed word.Const = refl
placed word.Continue = refl
placed word.Do = refl
placed word.Else = refl
placed word.Extends = refl
placed word.False = refl
placed word.For = refl
placed word.Function = refl
placed word.If = refl
placed word.Let = refl
placed word.New = refl
placed word.Null = refl
placed word.Private = refl
placed word.Protected = refl
placed word.Public = refl
placed word.Return = refl
placed word.Super = refl
placed word.This = refl
placed word.True = refl
placed word.Void = refl
placed word.While = refl
placed word.Case = refl
placed word.Catch = refl
placed word.Debugger = refl
placed word.Default = refl
placed word.Delete = refl
placed word.Enum = refl
placed word.Export = refl
placed word.Finally = refl
placed word.Implements = refl
placed word.Import = refl
placed word.In = refl
placed word.Instanceof = refl
placed word.Interface = refl
placed word.Package = refl
placed word.Static = refl
placed word.Switch = refl
placed word.Throw = refl
placed word.Try = refl
placed word.Typeof = refl
placed word.Var = refl
placed word.With = refl
placed word.Yield = refl

pub in_table : (word : Word) → place_of word < 45
in_table word.Break = lit< tt
in_table word.Class = lit< tt
in_table word.Const = lit< tt
in_table word.Continue = lit< tt
in_table word.Do = lit< tt
in_table word.Else = lit< tt
in_table word.Extends = lit< tt
in_table word.False = lit< tt
in_table word.For = lit< tt
in_table word.Function = lit< tt
in_table word.If = lit< tt
in_table word.Let = lit< tt
in_table word.New = lit< tt
in_table word.Null = lit< tt
in_table word.Private = lit< tt
in_table word.Protected = lit< tt
in_table word.Public = lit< tt
in_table word.Return = lit< tt
in_table word.Super = lit< tt
in_table word.This = lit< tt
in_table word.True = lit< tt
in_table word.Void = lit< tt
in_table word.While = lit< tt
in_table word.Case = lit< tt
in_table word.Catch = lit< tt
in_table word.Debugger = lit< tt
in_table word.Default = lit< tt
in_table word.Delete = lit< tt
in_table word.Enum = lit< tt
in_table word.Export = lit< tt
in_table word.Finally = lit< tt
in_table word.Implements = lit< tt
in_table word.Import = lit< tt
in_table word.In = lit< tt
in_table word.Instanceof = lit< tt
in_table word.Interface = lit< tt
in_table word.Package = lit< tt
in_table word.Static = lit< tt
in_table word.Switch = lit< tt
in_table word.Throw = lit< tt
in_table word.Try = lit< tt
in_table word.Typeof = lit< tt
in_table word.Var = lit< tt
in_table word.With = lit< tt
in_table word.Yield = lit< tt

-- the first word of a table that has these bytes
abbrev pub word_of : List Word → List ℕ → Option Word
word_of [] bytes = None
word_of (word ∷ rest) bytes = cond (bytes_eq (word_bytes word) bytes) (Some word) (word_of rest bytes)

found : (word : Word) → word_of WORDS (word_bytes word) ≡ Some word
found word.Break = refl
found word.Class = refl
found word.Const = refl
found word.Continue = refl
found word.Do = refl
found word.Else = refl
found word.Extends = refl
found word.False = refl
found word.For = refl
found word.Function = refl
found word.If = refl
found word.Let = refl
found word.New = refl
found word.Null = refl
found word.Private = refl
found word.Protected = refl
found word.Public = refl
found word.Return = refl
found word.Super = refl
found word.This = refl
found word.True = refl
found word.Void = refl
found word.While = refl
found word.Case = refl
found word.Catch = refl
found word.Debugger = refl
found word.Default = refl
found word.Delete = refl
found word.Enum = refl
found word.Export = refl
found word.Finally = refl
found word.Implements = refl
found word.Import = refl
found word.In = refl
found word.Instanceof = refl
found word.Interface = refl
found word.Package = refl
found word.Static = refl
found word.Switch = refl
found word.Throw = refl
found word.Try = refl
found word.Typeof = refl
found word.Var = refl
found word.With = refl
found word.Yield = refl

-- and among those that begin as it does
pub found_from : (word : Word) → word_of (words_beginning (slice_index (word_bytes word) 0)) (word_bytes word) ≡ Some word
found_from word.Break = refl
found_from word.Class = refl
found_from word.Const = refl
found_from word.Continue = refl
found_from word.Do = refl
found_from word.Else = refl
found_from word.Extends = refl
found_from word.False = refl
found_from word.For = refl
found_from word.Function = refl
found_from word.If = refl
found_from word.Let = refl
found_from word.New = refl
found_from word.Null = refl
found_from word.Private = refl
found_from word.Protected = refl
found_from word.Public = refl
found_from word.Return = refl
found_from word.Super = refl
found_from word.This = refl
found_from word.True = refl
found_from word.Void = refl
found_from word.While = refl
found_from word.Case = refl
found_from word.Catch = refl
found_from word.Debugger = refl
found_from word.Default = refl
found_from word.Delete = refl
found_from word.Enum = refl
found_from word.Export = refl
found_from word.Finally = refl
found_from word.Implements = refl
found_from word.Import = refl
found_from word.In = refl
found_from word.Instanceof = refl
found_from word.Interface = refl
found_from word.Package = refl
found_from word.Static = refl
found_from word.Switch = refl
found_from word.Throw = refl
found_from word.Try = refl
found_from word.Typeof = refl
found_from word.Var = refl
found_from word.With = refl
found_from word.Yield = refl

pub same_word : (word word' : Word) → word_bytes word ≡ word_bytes word' → word ≡ word'
same_word word word' e = same_Some word word' (sym (found word) ∙ ap (λ bytes. word_of WORDS bytes) e ∙ found word')
