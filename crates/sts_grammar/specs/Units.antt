-- Which program the tokens of a whole text spell (ECMA-262, sections 15.2, 15.7 and 16): classes with their members, functions and
-- statements.
use Rattle.std.specs.Prelude.{◌≡◌, ◌⊎◌, ℕ, ◌+◌, ◌<◌, ◌≤◌, Bool, true, false, ◌||◌, Option, Some, None, List, [], ◌∷◌, length, IsTrue}
use lib.Chars.{codes}
use Rattle.sts_lexer.specs.declared.marks.Mark.TheVariants as m
use Rattle.sts_lexer.specs.declared.words.Word.TheVariants as w
use Rattle.sts_lexer.specs.declared.token.TokenKind.{TokenKind}
use Rattle.sts_lexer.specs.declared.token.TokenKind.TheVariants as k
use Rattle.sts_syntax.specs.Trees.{Declaration, Declare, absent, Does}
use Rattle.sts_syntax.specs.Programs.{ClassMember, Field, Method, Constructor, TopLevel, Class, Function, Main, Program}
use Rattle.sts_syntax.specs.Nesting.{program_nesting}
use Rattle.sts_grammar.specs.Limits.{most_nesting}
use Rattle.sts_grammar.specs.Source.{Source, kind, place, IsMark, IsWord, IsName, IsMemberName, IsSpelled}
use Rattle.sts_grammar.specs.Headings.{HasType}
use Rattle.sts_grammar.specs.Operands.{Stands, IsRoutine}
use Rattle.sts_grammar.specs.Ends.{declaration_continues, Ends}
use Rattle.sts_grammar.specs.Spells.{IsInitialised, IsStatement, InBlock}

-- `public`, `private` or `protected`
abbrev pub is_modifier : TokenKind → Bool
is_modifier (k.Word w.Public entry) = true
is_modifier (k.Word w.Private entry) = true
is_modifier (k.Word w.Protected entry) = true
is_modifier other = false

-- the token may be a member's name
abbrev pub NamesMember : Source → ℕ → Type 0
NamesMember s i = (name : ℕ) × IsMemberName s i name

-- Such a word stands before a member, where a member's name is next. Else it is the member's own name.
abbrev pub IsModified : Source → ℕ → Type 0
IsModified s i = IsTrue (is_modifier (kind s i)) × NamesMember s (i + 1)

-- what may stand before a member's name
abbrev pub HasModifier : Source → Stands
HasModifier s i j = (IsModified s i × (j ≡ i + 1)) ⊎ (¬ (IsModified s i) × (j ≡ i))

abbrev pub is_open : TokenKind → Bool
is_open (k.Mark m.OpenParenthesis) = true
is_open other = false

-- The token at j goes on with the field that ends before it. Behind a name alone a `(` makes a method of it.
abbrev pub field_continues : Source → Declaration → ℕ → Bool
field_continues s (Declare at name None absent) j =
    declaration_continues s (Declare at name None absent) j || is_open (kind s j)
field_continues s field j = declaration_continues s field j

-- the word `constructor`, which is no reserved one
abbrev pub IsConstructor : Source → ℕ → Type 0
IsConstructor s i = IsSpelled s i (codes "constructor")

-- A member of a class. The place of a field and a method is its name's, a constructor's that of the word.
abbrev pub IsMember : Source → ClassMember → Stands
IsMember s (Field (Declare at name shape first)) i j =
    (k n o : ℕ) × HasModifier s i k × (at ≡ place s k) × IsMemberName s k name × HasType s shape (k + 1) n ×
    IsInitialised s false first n o × Ends s (field_continues s (Declare at name shape first) o) o j
IsMember s (Method name (Does at params gives all true)) i j = ⊥
IsMember s (Method name (Does at params gives all false)) i j =
    (k : ℕ) × HasModifier s i k × (at ≡ place s k) × IsMemberName s k name × ¬ (IsConstructor s k) ×
    IsRoutine s params gives false (InBlock s true false all) (k + 1) j
IsMember s (Constructor (Does at params None all false)) i j =
    (k : ℕ) × HasModifier s i k × (at ≡ place s k) × IsConstructor s k
    × IsRoutine s params None false (InBlock s true false all) (k + 1) j
IsMember s (Constructor other) i j = ⊥

-- any number of `;`
pub record AreSemicolons (s : Source) (i j : ℕ) : Type 0 where
  pub order : i ≤ j
  pub each : (k : ℕ) → i ≤ k → k < j → IsMark s k m.Semicolon

-- members, with any number of `;` before, between and behind them, and the `}`
abbrev pub AreMembers : Source → List ClassMember → Stands
AreMembers s [] i j = (n : ℕ) × AreSemicolons s i n × IsMark s n m.CloseBrace × (j ≡ n + 1)
AreMembers s (member ∷ rest) i j = (n o : ℕ) × AreSemicolons s i n × IsMember s member n o × AreMembers s rest o j

-- `extends` and the base's name, where there is a base
abbrev pub HasBase : Source → Option ℕ → (base_at : ℕ) → Stands
HasBase s None base_at i j = (base_at ≡ 0) × (i ≡ j)
HasBase s (Some base) base_at i j =
    IsWord s i w.Extends × IsName s (i + 1) base × (base_at ≡ place s (i + 1)) × (j ≡ i + 2)

-- A part of a text. The place of a class and a function is its name's.
abbrev pub IsPart : Source → TopLevel → Stands
IsPart s (Class at name base base_at members) i j =
    (n : ℕ) × IsWord s i w.Class × (at ≡ place s (i + 1)) × IsName s (i + 1) name × HasBase s base base_at (i + 2) n ×
    IsMark s n m.OpenBrace × AreMembers s members (n + 1) j
IsPart s (Function name (Does at params gives all true)) i j = ⊥
IsPart s (Function name (Does at params gives all false)) i j =
    IsWord s i w.Function × (at ≡ place s (i + 1)) × IsName s (i + 1) name
    × IsRoutine s params gives false (InBlock s true false all) (i + 2) j
IsPart s (Main a) i j = IsStatement s false false a i j

-- the parts from a token on, up to the last token, which is Finish
abbrev pub AreParts : Source → Program → ℕ → Type 0
AreParts s [] i = (kind s i ≡ k.Finish) × (length s.tokens ≡ i + 1)
AreParts s (part ∷ rest) i = (n : ℕ) × IsPart s part i n × AreParts s rest n

-- the tokens of a whole text spell this program
pub record IsProgram (s : Source) (program : Program) : Type 0 where
  pub spelled : AreParts s program 0
  pub nested : program_nesting program ≤ most_nesting
