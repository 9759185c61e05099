-- Reading expressions: from a token's number on, a tree and the number behind it. The readers of what stands one level deeper are
-- passed in, so that none of these calls another that calls it; what they read has at most the nesting `room`.
use Rattle.std.specs.Prelude.{ℕ, ℤ, zero, suc, ◌+◌, Bool, true, false, not, ◌&&◌, if◌then◌else◌, nat_lt, List, Option, Some, None, length}
use Rattle.sts_lexer.specs.declared.marks.Mark.{Mark}
use Rattle.sts_lexer.specs.declared.marks.Mark.TheVariants as m
use Rattle.sts_lexer.specs.declared.words.Word.{Word}
use Rattle.sts_lexer.specs.declared.words.Word.TheVariants as w
use Rattle.sts_lexer.specs.declared.token.TokenKind.{TokenKind}
use Rattle.sts_lexer.specs.declared.token.TokenKind.TheVariants as k
use Rattle.sts_syntax.specs.Annotations.{Annotation}
use Rattle.sts_syntax.specs.Trees.{Parameter, Tree, Num, Text, Truth, Null, This, Name, Unary, Binary, Both, Either, Choice, Set, Bump, Member, Item, Call, SuperCall, Make, Items, Handler, Trees, none, more, Statement, Statements, done, also, Does}
use Rattle.sts_syntax.specs.Nesting.{nesting}
use Rattle.sts_grammar.specs.Precedence.{assignment_level, either_level, both_level, prefix_level}
use Rattle.sts_grammar.specs.Source.{Source, kind, place, is_mark}
use Rattle.sts_grammar.specs.Operators.{infix_number, infix_level, prefix_number, bump_by, assignment}
use Rattle.sts_grammar.specs.Ends.{binds}
use Rattle.sts_grammar.specs.Found.{Found, ◌>>=◌, when, name_of, member_name_of, closes}
use Rattle.sts_grammar.specs.ReadHeadings.{read_heading, read_arrow_heading, begins_arrow, is_arrow_behind}

-- Readers of what stands one level deeper: an expression of at least level l, and a statement, in a function or handler (f) and in
-- a loop (l).
pub record Readers : Type 0 where
  pub expr : (l i : ℕ) → Found Tree
  pub stmt : (f l : Bool) (i : ℕ) → Found Statement

-- one more at the end of a list
abbrev pub put : Trees → Tree → Trees
put none a = more a none
put (more b rest) a = more b (put rest a)

abbrev pub put_statement : Statements → Statement → Statements
put_statement done a = also a done
put_statement (also b rest) a = also b (put_statement rest a)

-- what can be assigned to: a name, a member or an item
abbrev pub is_target : Tree → Bool
is_target (Name at x) = true
is_target (Member at a x) = true
is_target (Item at a b) = true
is_target e = false

-- How tightly the token at j binds to the expression before it, where only the tokens before `upto` are taken.
abbrev pub binds_before : Source → (upto j : ℕ) → ℕ
binds_before s upto j = if nat_lt j upto then binds s j else 0

-- what stands behind an expression of a list at i: the closing mark, or a comma and further ones, which `read` reads
abbrev pub items_rest : (square : Bool) (read : Trees → ℕ → Found Trees) (all : Trees) → ℕ → TokenKind → Found Trees
items_rest square read all i kind =
    if closes square kind then Some (all, i + 1) else when (is_mark m.Comma kind) (read all (i + 1))

-- further expressions behind these: at most n, and the closing mark
unfoldable pub read_items : Source → (square : Bool) (read : ℕ → Found Tree) (n : ℕ) (all : Trees) → ℕ → Found Trees
read_items s square read zero all i = None
read_items s square read (suc n) all i =
    read i >>= λ a. items_rest square (read_items s square read n) (put all a.0) a.1 (kind s a.1)

-- expressions with commas between them, and the closing mark
unfoldable pub read_listed : Source → (square : Bool) (read : ℕ → Found Tree) → ℕ → Found Trees
read_listed s square read i =
    if closes square (kind s i) then Some (none, i + 1) else read_items s square read (length s.tokens) none i

-- arguments in parentheses
unfoldable pub read_arguments : Source → (read : ℕ → Found Tree) → ℕ → Found Trees
read_arguments s read i = when (is_mark m.OpenParenthesis (kind s i)) (read_listed s false read (i + 1))

-- further statements behind these: at most n, and the `}`
unfoldable pub read_statements : Source → (read : ℕ → Found Statement) (n : ℕ) (all : Statements) → ℕ → Found Statements
read_statements s read zero all i = None
read_statements s read (suc n) all i =
    if is_mark m.CloseBrace (kind s i) then Some (all, i + 1)
    else (read i >>= λ a. read_statements s read n (put_statement all a.0) a.1)

-- a block: `{`, statements and `}`
unfoldable pub read_block : Source → (read : ℕ → Found Statement) → ℕ → Found Statements
read_block s read i = when (is_mark m.OpenBrace (kind s i)) (read_statements s read (length s.tokens) done (i + 1))

-- the block of a function expression or arrow, behind its heading
unfoldable pub read_handler : Source → Readers → (at : ℕ) (arrow : Bool) (heading : List Parameter × Option Annotation)
    → ℕ → Found Tree
read_handler s readers at arrow heading i =
    read_block s (readers.stmt true false) i >>= λ b. Some (Handler at (Does at heading.0 heading.1 b.0 arrow), b.1)

-- `++` or `--` before what can be assigned to
abbrev pub bump_before : (at : ℕ) (by : ℤ) (operand : Tree × ℕ) → Found Tree
bump_before at by a = when (is_target a.0) (Some (Bump at a.0 by false, a.1))

-- what a prefix operator at i begins
abbrev pub read_prefix : Source → Readers → ℕ → (op : Option ℕ) (by : Option ℤ) → Found Tree
read_prefix s readers i (Some op) by = readers.expr prefix_level (i + 1) >>= λ a. Some (Unary (place s i) op a.0, a.1)
read_prefix s readers i None (Some by) = readers.expr prefix_level (i + 1) >>= bump_before (place s i) by
read_prefix s readers i None None = None

-- What a mark at i begins. A `(` begins an arrow here.
abbrev pub read_mark : Source → Readers → ℕ → Mark → Found Tree
read_mark s readers i m.OpenBracket =
    read_listed s true (readers.expr assignment_level) (i + 1) >>= λ a. Some (Items (place s i) a.0, a.1)
read_mark s readers i m.OpenParenthesis =
    read_arrow_heading s i >>= λ h. read_handler s readers (place s i) true h.0 h.1
read_mark s readers i mark = read_prefix s readers i (prefix_number mark) (bump_by mark)

-- what `super` at i begins, by the token behind it
abbrev pub read_super : Source → Readers → ℕ → (method : Bool) → Found Tree
read_super s readers i false =
    read_arguments s (readers.expr assignment_level) (i + 1) >>= λ a. Some (SuperCall (place s i) None a.0, a.1)
read_super s readers i true =
    member_name_of (kind s (i + 2)) >>= λ method. read_arguments s (readers.expr assignment_level) (i + 3)
    >>= λ a. Some (SuperCall (place s i) (Some method) a.0, a.1)

-- what a reserved word at i begins
abbrev pub read_word : Source → Readers → ℕ → Word → Found Tree
read_word s readers i w.True = Some (Truth (place s i) true, i + 1)
read_word s readers i w.False = Some (Truth (place s i) false, i + 1)
read_word s readers i w.Null = Some (Null (place s i), i + 1)
read_word s readers i w.This = Some (This (place s i), i + 1)
read_word s readers i w.New =
    name_of (kind s (i + 1)) >>= λ class. read_arguments s (readers.expr assignment_level) (i + 2)
    >>= λ a. Some (Make (place s i) class a.0, a.1)
read_word s readers i w.Super = read_super s readers i (is_mark m.Dot (kind s (i + 1)))
read_word s readers i w.Function = read_heading s (i + 1) >>= λ h. read_handler s readers (place s i) false h.0 h.1
read_word s readers i word = None

-- A primary without parentheses round it, or a prefix operator and its operand, by its first token.
abbrev pub read_primary : Source → Readers → ℕ → TokenKind → Found Tree
read_primary s readers i (k.Num value) = Some (Num (place s i) value, i + 1)
read_primary s readers i (k.Text text) = Some (Text (place s i) text, i + 1)
read_primary s readers i (k.Name name) = Some (Name (place s i) name, i + 1)
read_primary s readers i (k.Word word name) = read_word s readers i word
read_primary s readers i (k.Mark mark) = read_mark s readers i mark
read_primary s readers i k.Finish = None

-- an operator between two operands, an assignment, or `++` or `--` behind e
abbrev pub read_operator : Readers → (at : ℕ) (e : Tree) → ℕ
    → (op : Option ℕ) (assigned : Option (Option ℕ)) (by : Option ℤ) → Found Tree
read_operator readers at e i (Some op) assigned by =
    readers.expr (infix_level op + 1) (i + 1) >>= λ b. Some (Binary at op e b.0, b.1)
read_operator readers at e i None (Some op) by =
    when (is_target e) (readers.expr assignment_level (i + 1) >>= λ a. Some (Set at op e a.0, a.1))
read_operator readers at e i None None (Some by) = when (is_target e) (Some (Bump at e by true, i + 1))
read_operator readers at e i None None None = None

-- what stands behind the `?` after e
abbrev pub read_choice : Source → Readers → (at : ℕ) (e : Tree) → ℕ → Found Tree
read_choice s readers at e i =
    readers.expr assignment_level i >>= λ a. when (is_mark m.Colon (kind s a.1))
    (readers.expr assignment_level (a.1 + 1) >>= λ b. Some (Choice at e a.0 b.0, b.1))

-- What goes on at i with the expression e that ends there, by the mark: a larger expression, whose place is given.
abbrev pub read_further : Source → Readers → (at : ℕ) (e : Tree) → ℕ → Mark → Found Tree
read_further s readers at e i m.Dot = member_name_of (kind s (i + 1)) >>= λ name. Some (Member at e name, i + 2)
read_further s readers at e i m.OpenBracket =
    readers.expr assignment_level (i + 1)
    >>= λ b. when (is_mark m.CloseBracket (kind s b.1)) (Some (Item at e b.0, b.1 + 1))
read_further s readers at e i m.OpenParenthesis =
    read_listed s false (readers.expr assignment_level) (i + 1) >>= λ a. Some (Call at e a.0, a.1)
read_further s readers at e i m.Question = read_choice s readers at e (i + 1)
read_further s readers at e i m.BarBar = readers.expr (either_level + 1) (i + 1) >>= λ b. Some (Either at e b.0, b.1)
read_further s readers at e i m.AmpersandAmpersand =
    readers.expr (both_level + 1) (i + 1) >>= λ b. Some (Both at e b.0, b.1)
read_further s readers at e i mark = read_operator readers at e i (infix_number mark) (assignment mark) (bump_by mark)

abbrev pub read_behind : Source → Readers → (at : ℕ) (e : Tree) → ℕ → TokenKind → Found Tree
read_behind s readers at e i (k.Mark mark) = read_further s readers at e i mark
read_behind s readers at e i other = None

-- The longest expression that goes on with e at i, as far as the tokens bind at least as tightly as l, in at most n turns. e is
-- a child of what goes on with it, so its nesting is at most `room`.
unfoldable pub climb : Source → (upto room : ℕ) → Readers → (n l at : ℕ) (e : Tree) → ℕ → Found Tree
climb s upto room readers zero l at e i = None
climb s upto room readers (suc n) l at e i =
    if nat_lt (binds_before s upto i) l then Some (e, i)
    else (if nat_lt room (nesting e) then None
    else (read_behind s readers at e i (kind s i) >>= λ a. climb s upto room readers n l at a.0 a.1))

-- How many `(` stand one after another from i on, at most n, none of which begins the parameters of an arrow.
unfoldable pub opened : Source → (n : ℕ) → ℕ → ℕ
opened s zero i = 0
opened s (suc n) i =
    if is_mark m.OpenParenthesis (kind s i) && not (begins_arrow s i) then suc (opened s n (i + 1)) else 0

-- behind the `)` at i, where one stands and no arrow goes on behind it
unfoldable pub close_at : Source → ℕ → Option ℕ
close_at s i = when (is_mark m.CloseParenthesis (kind s i) && not (is_arrow_behind s (i + 1))) (Some (i + 1))

-- The expression of at least level l that goes on with e at i, where p parentheses are open that stand from `from` on, right before e.
unfoldable pub unwind : Source → (upto room : ℕ) → Readers → (p l from : ℕ) (e : Tree) → ℕ → Found Tree
unwind s upto room readers zero l from e i = climb s upto room readers (suc room) l (place s from) e i
unwind s upto room readers (suc p) l from e i =
    climb s upto room readers (suc room) assignment_level (place s (from + suc p)) e i >>= λ a.
    close_at s a.1 >>= λ j. unwind s upto room readers p l from a.0 j

-- the same behind the primary that follows those parentheses
unfoldable pub read_inside : Source → (upto room : ℕ) → Readers → (p l from : ℕ) → Found Tree
read_inside s upto room readers p l from =
    read_primary s readers (from + p) (kind s (from + p)) >>= λ a. unwind s upto room readers p l from a.0 a.1

-- An expression of at least level l, in any number of parentheses.
unfoldable pub read_operand : Source → (upto room : ℕ) → Readers → (l i : ℕ) → Found Tree
read_operand s upto room readers l i = read_inside s upto room readers (opened s (length s.tokens) i) l i
