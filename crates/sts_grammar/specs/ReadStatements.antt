-- Reading statements. The readers of what stands one level deeper are passed in; what they read has at most the nesting `room`.
use Rattle.std.specs.Prelude.{ℕ, zero, suc, ◌+◌, Bool, true, false, if◌then◌else◌, nat_lt, Option, Some, None, length}
use Rattle.sts_lexer.specs.declared.marks.Mark.TheVariants as m
use Rattle.sts_lexer.specs.declared.words.Word.{Word}
use Rattle.sts_lexer.specs.declared.words.Word.TheVariants as w
use Rattle.sts_lexer.specs.declared.token.TokenKind.{TokenKind}
use Rattle.sts_lexer.specs.declared.token.TokenKind.TheVariants as k
use Rattle.sts_syntax.specs.Trees.{Tree, OptionalTree, absent, present, Statement, Block, Let, IfOnly, IfElse, While, DoWhile, For, ForOf, Return, Break, Continue, Plain, Empty, OptionalStatement, omitted, written, Declaration, Declare, Declarations, ended, next}
use Rattle.sts_syntax.specs.Nesting.{nesting, deepest_declaration}
use Rattle.sts_grammar.specs.Precedence.{assignment_level}
use Rattle.sts_grammar.specs.Source.{Source, kind, broken, place, is_mark, is_word}
use Rattle.sts_grammar.specs.Ends.{may_end}
use Rattle.sts_grammar.specs.Found.{Found, ◌>>=◌, when, name_of, let_of, is_of}
use Rattle.sts_grammar.specs.ReadHeadings.{read_optional_type}
use Rattle.sts_grammar.specs.ReadExpressions.{Readers, read_block}

-- one more at the end of a list
abbrev pub put_declaration : Declarations → Declaration → Declarations
put_declaration ended a = next a ended
put_declaration (next b rest) a = next b (put_declaration rest a)

-- The end of a statement that is whole at i: behind its `;`, or i itself. The token at i doesn't go on with it.
unfoldable pub read_end : Source → ℕ → Option ℕ
read_end s i =
    if is_mark m.Semicolon (kind s i) then Some (i + 1) else when (may_end (kind s i) (broken s i) false) (Some i)

-- a condition in parentheses
unfoldable pub read_condition : Source → (read : ℕ → Found Tree) → ℕ → Found Tree
read_condition s read i =
    when (is_mark m.OpenParenthesis (kind s i))
    (read (i + 1) >>= λ c. when (is_mark m.CloseParenthesis (kind s c.1)) (Some (c.0, c.1 + 1)))

-- `=` and an initialiser, which `let` may lack
abbrev pub read_initialiser : (read : ℕ → Found Tree) (fixed at_assign : Bool) → ℕ → Found OptionalTree
read_initialiser read fixed true i = read (i + 1) >>= λ a. Some (present a.0, a.1)
read_initialiser read true false i = None
read_initialiser read false false i = Some (absent, i)

-- a declared name
unfoldable pub read_declaration : Source → (read : ℕ → Found Tree) (fixed : Bool) → ℕ → Found Declaration
read_declaration s read fixed i =
    name_of (kind s i) >>= λ name. read_optional_type s (i + 1) >>= λ t.
    read_initialiser read fixed (is_mark m.Assign (kind s t.1)) t.1
    >>= λ first. Some (Declare (place s i) name t.0 first.0, first.1)

-- what stands behind declared names at i: a comma and further ones, which `read` reads, or else their end
abbrev pub declarations_rest : (read : Declarations → ℕ → Found Declarations) → (all : Declarations) → ℕ
    → (at_comma : Bool) → Found Declarations
declarations_rest read all i true = read all (i + 1)
declarations_rest read all i false = Some (all, i)

-- further declared names behind these: at most n
unfoldable pub read_declarations : Source → (read : ℕ → Found Tree) (fixed : Bool) (n : ℕ) (all : Declarations) → ℕ
    → Found Declarations
read_declarations s read fixed zero all i = None
read_declarations s read fixed (suc n) all i =
    read_declaration s read fixed i >>= λ a.
    declarations_rest (read_declarations s read fixed n) (put_declaration all a.0) a.1 (is_mark m.Comma (kind s a.1))

-- the declared names behind a `let` or `const`, without what ends them
unfoldable pub read_let : Source → (read : ℕ → Found Tree) (fixed : Bool) → ℕ → Found Declarations
read_let s read fixed i = read_declarations s read fixed (length s.tokens) ended i

-- an expression, unless this mark stands at i already
abbrev pub read_optional : (read : ℕ → Found Tree) (at_end : Bool) → ℕ → Found OptionalTree
read_optional read true i = Some (absent, i)
read_optional read false i = read i >>= λ a. Some (present a.0, a.1)

-- what stands first in a `for`, where it isn't left out: a statement, so that its children's nesting is below `room`
abbrev pub read_first : Source → (room : ℕ) → (read : ℕ → Found Tree) → ℕ → (fixed : Option Bool)
    → Found OptionalStatement
read_first s room read i (Some fixed) =
    read_let s read fixed (i + 1)
    >>= λ each. when (nat_lt (deepest_declaration each.0) room) (Some (written (Let (place s i) fixed each.0), each.1))
read_first s room read i None =
    read i >>= λ a. when (nat_lt (nesting a.0) room) (Some (written (Plain (place s i) a.0), a.1))

-- the same where it may be left out
unfoldable pub read_optional_first : Source → (room : ℕ) → (read : ℕ → Found Tree) → ℕ → Found OptionalStatement
read_optional_first s room read i =
    if is_mark m.Semicolon (kind s i) then Some (omitted, i) else read_first s room read i (let_of (kind s i))

-- what stands behind the `;` after the condition of a `for`
unfoldable pub read_step : Source → Readers → (f : Bool) → (at : ℕ) (first : OptionalStatement) (c : OptionalTree) → ℕ
    → Found Statement
read_step s readers f at first c i =
    read_optional (readers.expr assignment_level) (is_mark m.CloseParenthesis (kind s i)) i
    >>= λ step. when (is_mark m.CloseParenthesis (kind s step.1))
    (readers.stmt f true (step.1 + 1) >>= λ a. Some (For at first c step.0 a.0, a.1))

-- what stands behind the `(` of a `for` with three parts
unfoldable pub read_three : Source → (room : ℕ) → Readers → (f : Bool) → (at : ℕ) → ℕ → Found Statement
read_three s room readers f at i =
    read_optional_first s room (readers.expr assignment_level) i
    >>= λ first. when (is_mark m.Semicolon (kind s first.1))
    (read_optional (readers.expr assignment_level) (is_mark m.Semicolon (kind s (first.1 + 1))) (first.1 + 1)
    >>= λ c. when (is_mark m.Semicolon (kind s c.1))
    (read_step s readers f at first.0 c.0 (c.1 + 1)))

-- what stands behind the `of` of a `for`
unfoldable pub read_for_of : Source → Readers → (f : Bool) → (at : ℕ) (fixed : Bool) (name : ℕ) → ℕ → Found Statement
read_for_of s readers f at fixed name i =
    readers.expr assignment_level i >>= λ list. when (is_mark m.CloseParenthesis (kind s list.1))
    (readers.stmt f true (list.1 + 1) >>= λ a. Some (ForOf at fixed name list.0 a.0, a.1))

-- the head of a `for` over a list: `let` or `const`, a name and `of` stand from i on
unfoldable pub of_head : Source → ℕ → Option (Bool × ℕ)
of_head s i =
    let_of (kind s i) >>= λ fixed. name_of (kind s (i + 1))
    >>= λ name. when (is_of s (kind s (i + 2))) (Some (fixed, name))

abbrev pub read_for_by : Source → (room : ℕ) → Readers → (f : Bool) → (at : ℕ) → ℕ → Option (Bool × ℕ) → Found Statement
read_for_by s room readers f at i (Some head) = read_for_of s readers f at head.0 head.1 (i + 3)
read_for_by s room readers f at i None = read_three s room readers f at i

-- what stands behind the `for` before i
unfoldable pub read_for : Source → (room : ℕ) → Readers → (f : Bool) → (at : ℕ) → ℕ → Found Statement
read_for s room readers f at i =
    when (is_mark m.OpenParenthesis (kind s i)) (read_for_by s room readers f at (i + 1) (of_head s (i + 1)))

-- what stands behind the first branch of an `if`
abbrev pub read_else : (read : ℕ → Found Statement) → (at : ℕ) (c : Tree) (a : Statement) → ℕ → (at_else : Bool)
    → Found Statement
read_else read at c a i true = read (i + 1) >>= λ b. Some (IfElse at c a b.0, b.1)
read_else read at c a i false = Some (IfOnly at c a, i)

-- what stands behind the `if` before i
unfoldable pub read_if : Source → Readers → (f l : Bool) → (at : ℕ) → ℕ → Found Statement
read_if s readers f l at i =
    read_condition s (readers.expr assignment_level) i >>= λ c. readers.stmt f l c.1 >>= λ a.
    read_else (readers.stmt f l) at c.0 a.0 a.1 (is_word w.Else (kind s a.1))

-- behind the `;` at i, where one stands
abbrev pub skip_semicolon : Source → ℕ → ℕ
skip_semicolon s i = if is_mark m.Semicolon (kind s i) then i + 1 else i

-- what stands behind the `do` before i
unfoldable pub read_do : Source → Readers → (f : Bool) → (at : ℕ) → ℕ → Found Statement
read_do s readers f at i =
    readers.stmt f true i >>= λ a. when (is_word w.While (kind s a.1))
    (read_condition s (readers.expr assignment_level) (a.1 + 1)
    >>= λ c. Some (DoWhile at a.0 c.0, skip_semicolon s c.1))

-- what stands behind the `return` before i, where it may end at j without a value
abbrev pub read_returned : Source → Readers → (at : ℕ) → ℕ → (end : Option ℕ) → Found Statement
read_returned s readers at i (Some j) = Some (Return at absent, j)
read_returned s readers at i None =
    readers.expr assignment_level i >>= λ a. read_end s a.1 >>= λ j. Some (Return at (present a.0), j)

-- an expression as a statement
unfoldable pub read_plain : Source → Readers → ℕ → Found Statement
read_plain s readers i =
    readers.expr assignment_level i >>= λ a. read_end s a.1 >>= λ j. Some (Plain (place s i) a.0, j)

-- what stands behind the `let` or `const` before i
unfoldable pub read_let_statement : Source → (room : ℕ) → Readers → (at : ℕ) (fixed : Bool) → ℕ → Found Statement
read_let_statement s room readers at fixed i =
    read_let s (readers.expr assignment_level) fixed i >>= λ each. if nat_lt room (deepest_declaration each.0) then None
    else (read_end s each.1 >>= λ j. Some (Let at fixed each.0, j))

-- what stands behind the `while` before i
unfoldable pub read_while : Source → Readers → (f : Bool) → (at : ℕ) → ℕ → Found Statement
read_while s readers f at i =
    read_condition s (readers.expr assignment_level) i >>= λ c. readers.stmt f true c.1
    >>= λ a. Some (While at c.0 a.0, a.1)

-- what a reserved word at i begins
abbrev pub read_word_statement : Source → (room : ℕ) → Readers → (f l : Bool) → ℕ → Word → Found Statement
read_word_statement s room readers f l i w.Let = read_let_statement s room readers (place s i) false (i + 1)
read_word_statement s room readers f l i w.Const = read_let_statement s room readers (place s i) true (i + 1)
read_word_statement s room readers f l i w.If = read_if s readers f l (place s i) (i + 1)
read_word_statement s room readers f l i w.While = read_while s readers f (place s i) (i + 1)
read_word_statement s room readers f l i w.Do = read_do s readers f (place s i) (i + 1)
read_word_statement s room readers f l i w.For = read_for s room readers f (place s i) (i + 1)
read_word_statement s room readers f l i w.Return =
    when f (read_returned s readers (place s i) (i + 1) (read_end s (i + 1)))
read_word_statement s room readers f l i w.Break = when l (read_end s (i + 1) >>= λ j. Some (Break (place s i), j))
read_word_statement s room readers f l i w.Continue =
    when l (read_end s (i + 1) >>= λ j. Some (Continue (place s i), j))
read_word_statement s room readers f l i w.Function = None
read_word_statement s room readers f l i w.Class = None
read_word_statement s room readers f l i word = read_plain s readers i

-- A statement, by its first token.
abbrev pub read_statement : Source → (room : ℕ) → Readers → (f l : Bool) → ℕ → TokenKind → Found Statement
read_statement s room readers f l i (k.Mark m.OpenBrace) =
    read_block s (readers.stmt f l) i >>= λ b. Some (Block (place s i) b.0, b.1)
read_statement s room readers f l i (k.Mark m.Semicolon) = Some (Empty (place s i), i + 1)
read_statement s room readers f l i (k.Word word name) = read_word_statement s room readers f l i word
read_statement s room readers f l i other = read_plain s readers i
