-- Reading classes, functions and whole texts: from a token's number on, a part and the number behind it. Readers of statements and
-- expressions of some nesting are passed in.
use Rattle.std.specs.Prelude.{ℕ, zero, suc, ◌+◌, ◌-◌, Bool, true, false, ◌&&◌, ◌==◌, if◌then◌else◌, List, [], ◌∷◌, ◌++◌, Option, Some, None, length, slice_get}
use lib.Chars.{codes}
use Rattle.sts_lexer.specs.declared.words.Word.TheVariants as w
use Rattle.sts_lexer.specs.declared.token.TokenKind.{TokenKind}
use Rattle.sts_lexer.specs.declared.token.TokenKind.TheVariants as k
use Rattle.sts_syntax.specs.Trees.{Declare, Routine, Does}
use Rattle.sts_syntax.specs.Programs.{ClassMember, Field, Method, Constructor, TopLevel, Class, Function, Main, Program}
use Rattle.sts_lexer.specs.declared.marks.Mark.TheVariants as m
use Rattle.sts_grammar.specs.Precedence.{assignment_level}
use Rattle.sts_grammar.specs.Limits.{part_nesting}
use Rattle.sts_grammar.specs.Source.{Source, kind, place, is_mark, is_word}
use Rattle.sts_grammar.specs.Found.{Found, ◌>>=◌, when, name_of, member_name_of, has_bytes}
use Rattle.sts_grammar.specs.ReadHeadings.{read_heading, read_parameters, read_optional_type, is_found}
use Rattle.sts_grammar.specs.ReadExpressions.{Readers, read_block}
use Rattle.sts_grammar.specs.ReadStatements.{read_end, read_initialiser}
use Rattle.sts_grammar.specs.Reading.{statement_readers}
use Rattle.sts_grammar.specs.Units.{is_modifier}

-- where a member's name stands: behind a modifier, if there is one
unfoldable pub behind_modifier : Source → ℕ → ℕ
behind_modifier s i = if is_modifier (kind s i) && is_found (member_name_of (kind s (i + 1))) then i + 1 else i

-- the name `constructor`
abbrev pub is_constructor : Source → TokenKind → Bool
is_constructor s (k.Name name) = has_bytes (slice_get s.names name) (codes "constructor")
is_constructor s other = false

-- parameters, a result's type and a block
unfoldable pub read_routine : Source → Readers → (at : ℕ) → ℕ → Found Routine
read_routine s readers at i =
    read_heading s i >>= λ h. read_block s (readers.stmt true false) h.1
    >>= λ b. Some (Does at h.0.0 h.0.1 b.0 false, b.1)

-- parameters and a block
unfoldable pub read_maker : Source → Readers → (at : ℕ) → ℕ → Found ClassMember
read_maker s readers at i =
    when (is_mark m.OpenParenthesis (kind s i))
    (read_parameters s (i + 1) >>= λ p. read_block s (readers.stmt true false) p.1 >>= λ b.
    Some (Constructor (Does at p.0 None b.0 false), b.1))

-- the end of a field that is whole at i: no comma goes on with it
unfoldable pub read_field_end : Source → ℕ → Option ℕ
read_field_end s i = if is_mark m.Comma (kind s i) then None else read_end s i

-- what stands behind the name of a field
unfoldable pub read_field : Source → Readers → (at name : ℕ) → ℕ → Found ClassMember
read_field s readers at name i =
    read_optional_type s i
    >>= λ t. read_initialiser (readers.expr assignment_level) false (is_mark m.Assign (kind s t.1)) t.1 >>= λ first.
    read_field_end s first.1 >>= λ j. Some (Field (Declare at name t.0 first.0), j)

-- what stands behind the name of a method
unfoldable pub read_method : Source → Readers → (at name : ℕ) → ℕ → Found ClassMember
read_method s readers at name i = read_routine s readers at i >>= λ r. Some (Method name r.0, r.1)

-- what stands behind a member's name, by whether a `(` is next and by whether the name is `constructor`
abbrev pub read_behind_name : Source → Readers → (at name : ℕ) → ℕ → (called maker : Bool) → Found ClassMember
read_behind_name s readers at name i false maker = read_field s readers at name i
read_behind_name s readers at name i true false = read_method s readers at name i
read_behind_name s readers at name i true true = read_maker s readers at i

-- a member whose name stands at i
unfoldable pub read_named : Source → Readers → ℕ → Found ClassMember
read_named s readers i =
    member_name_of (kind s i) >>= λ name.
    read_behind_name s readers (place s i) name (i + 1) (is_mark m.OpenParenthesis (kind s (i + 1)))
    (is_constructor s (kind s i))

-- further members behind these: at most n members and `;`, and the `}`
unfoldable pub read_members : Source → Readers → (n : ℕ) (all : List ClassMember) → ℕ → Found (List ClassMember)
read_members s readers zero all i = None
read_members s readers (suc n) all i =
    if is_mark m.CloseBrace (kind s i) then Some (all, i + 1)
    else if is_mark m.Semicolon (kind s i) then read_members s readers n all (i + 1)
    else (read_named s readers (behind_modifier s i) >>= λ a. read_members s readers n (all ++ a.0 ∷ []) a.1)

-- the base of a class and its place, where one is written
abbrev pub read_base : Source → (extends : Bool) → ℕ → Found (Option ℕ × ℕ)
read_base s false i = Some ((None, 0), i)
read_base s true i = name_of (kind s (i + 1)) >>= λ base. Some ((Some base, place s (i + 1)), i + 2)

-- what stands behind the `class` before i
unfoldable pub read_class : Source → Readers → ℕ → Found TopLevel
read_class s readers i =
    name_of (kind s i) >>= λ name. read_base s (is_word w.Extends (kind s (i + 1))) (i + 1) >>= λ base.
    when (is_mark m.OpenBrace (kind s base.1)) (read_members s readers (length s.tokens) [] (base.1 + 1) >>= λ all.
    Some (Class (place s i) name base.0.0 base.0.1 all.0, all.1))

-- what stands behind the `function` before i
unfoldable pub read_function : Source → Readers → ℕ → Found TopLevel
read_function s readers i =
    name_of (kind s i) >>= λ name. read_routine s readers (place s i) (i + 1) >>= λ r. Some (Function name r.0, r.1)

-- a statement of the main program
unfoldable pub read_main : Readers → ℕ → Found TopLevel
read_main readers i = readers.stmt false false i >>= λ a. Some (Main a.0, a.1)

-- a part of a text, of nesting at most room, by its first token
abbrev pub read_part : Source → (room : ℕ) → ℕ → TokenKind → Found TopLevel
read_part s room i (k.Word w.Class name) = read_class s (statement_readers s (room - 2)) (i + 1)
read_part s room i (k.Word w.Function name) = read_function s (statement_readers s (room - 1)) (i + 1)
read_part s room i other = read_main (statement_readers s room) i

abbrev pub is_finish : TokenKind → Bool
is_finish k.Finish = true
is_finish other = false

-- further parts behind these, at most n, up to the last token
unfoldable pub read_parts : Source → (room n : ℕ) (all : Program) → ℕ → Option Program
read_parts s room zero all i = None
read_parts s room (suc n) all i =
    if is_finish (kind s i) then when (length s.tokens == i + 1) (Some all)
    else (read_part s room i (kind s i) >>= λ a. read_parts s room n (all ++ a.0 ∷ []) a.1)

-- a whole text
unfoldable pub read_program : Source → Option Program
read_program s = read_parts s part_nesting (length s.tokens) [] 0
