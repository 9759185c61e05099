-- Where a statement ends (ECMA-262, section 12.10): a `;`, which may be left out before `}`, at the end of the text, and before a
-- token on a new line that doesn't go on with what stands before it.
use Rattle.std.specs.Prelude.{◌≡◌, ℕ, ◌+◌, ◌-◌, ◌⊎◌, Bool, true, false, not, ◌&&◌, ◌||◌, if◌then◌else◌, nat_lt, Option, Some, None, is_some, IsTrue}
use Rattle.sts_lexer.specs.declared.marks.Mark.{Mark}
use Rattle.sts_lexer.specs.declared.marks.Mark.TheVariants as m
use Rattle.sts_lexer.specs.declared.token.TokenKind.{TokenKind}
use Rattle.sts_lexer.specs.declared.token.TokenKind.TheVariants as k
use Rattle.sts_syntax.specs.Trees.{absent, present, Declaration, Declare, Declarations, ended, next}
use Rattle.sts_grammar.specs.Precedence.{assignment_level, either_level, both_level, postfix_level, primary_level}
use Rattle.sts_grammar.specs.Source.{Source, kind, broken, IsMark, is_mark}
use Rattle.sts_grammar.specs.Operators.{infix_number, infix_level, bump_by, assignment}

-- `++` or `--`
abbrev pub is_bump : TokenKind → Bool
is_bump (k.Mark mark) = is_some (bump_by mark)
is_bump other = false

-- How tightly an operator between two operands binds, and an assignment; 0 for what is neither.
abbrev pub operator_binds : (number : Option ℕ) (assigned : Option (Option ℕ)) → ℕ
operator_binds (Some op) assigned = infix_level op
operator_binds None (Some op) = assignment_level
operator_binds None None = 0

-- How tightly a mark binds to the expression before it, 0 where it doesn't go on with one. A `++` or `--` on a new line doesn't,
-- and behind `++` and `--` stands no `.`, `[` or `(`.
abbrev pub mark_binds : (before : TokenKind) (new_line : Bool) → Mark → ℕ
mark_binds before new_line m.Question = assignment_level
mark_binds before new_line m.BarBar = either_level
mark_binds before new_line m.AmpersandAmpersand = both_level
mark_binds before new_line m.PlusPlus = if new_line then 0 else postfix_level
mark_binds before new_line m.MinusMinus = if new_line then 0 else postfix_level
mark_binds before new_line m.Dot = if is_bump before then 0 else primary_level
mark_binds before new_line m.OpenBracket = if is_bump before then 0 else primary_level
mark_binds before new_line m.OpenParenthesis = if is_bump before then 0 else primary_level
mark_binds before new_line mark = operator_binds (infix_number mark) (assignment mark)

abbrev pub kind_binds : (before : TokenKind) (new_line : Bool) → TokenKind → ℕ
kind_binds before new_line (k.Mark mark) = mark_binds before new_line mark
kind_binds before new_line other = 0

-- how tightly the token at j binds to the expression that ends before it
abbrev pub binds : Source → ℕ → ℕ
binds s j = kind_binds (kind s (j - 1)) (broken s j) (kind s j)

-- the token at j goes on with the expression that ends before it
abbrev pub continues : Source → ℕ → Bool
continues s j = nat_lt 0 (binds s j)

-- the token at j goes on with the declared name that ends before it
abbrev pub declaration_continues : Source → Declaration → ℕ → Bool
declaration_continues s (Declare at name shape (present first)) j = continues s j || is_mark m.Comma (kind s j)
declaration_continues s (Declare at name (Some shape) absent) j =
    is_mark m.Assign (kind s j) || is_mark m.Comma (kind s j)
declaration_continues s (Declare at name None absent) j =
    is_mark m.Colon (kind s j) || is_mark m.Assign (kind s j) || is_mark m.Comma (kind s j)

-- the same of the last of some
abbrev pub declarations_continue : Source → Declarations → ℕ → Bool
declarations_continue s ended j = false
declarations_continue s (next a ended) j = declaration_continues s a j
declarations_continue s (next a (next b rest)) j = declarations_continue s (next b rest) j

-- a statement may end before such a token without a `;`
abbrev pub may_end : TokenKind → (new_line goes_on : Bool) → Bool
may_end (k.Mark m.Semicolon) new_line goes_on = false
may_end (k.Mark m.CloseBrace) new_line goes_on = true
may_end k.Finish new_line goes_on = true
may_end other new_line goes_on = new_line && not goes_on

-- The end of a statement: what stands before i is whole there, and j is behind its `;`.
abbrev pub Ends : Source → (goes_on : Bool) → ℕ → ℕ → Type 0
Ends s goes_on i j =
    (IsMark s i m.Semicolon × (j ≡ i + 1)) ⊎ (IsTrue (may_end (kind s i) (broken s i) goes_on) × (j ≡ i))
