-- How tightly tokens bind, and what that tells of them.
use Rattle.std.proofs.Common.{◌≡◌, ◌≢◌, ℕ, ◌+◌, ◌-◌, ◌<◌, ◌≤◌, refl, sym, ap, ◌∙◌, arith, inl, inr, lt-ltb}
use Rattle.std.specs.Prelude.{ℤ, Bool, true, false, not, ◌&&◌, nat_lt, Option, Some, None, IsTrue, if◌then◌else◌}
use Rattle.std.proofs.lemmas.Bool.{false≢true, and_parts, not-true, ltb-false}
use Rattle.sts_lexer.specs.declared.marks.Mark.{Mark}
use Rattle.sts_lexer.specs.declared.marks.Mark.TheVariants as m
use Rattle.sts_lexer.specs.declared.token.TokenKind.{TokenKind}
use Rattle.sts_lexer.specs.declared.token.TokenKind.TheVariants as k
use Rattle.sts_syntax.specs.Trees.{Tree, Name, Unary, Binary, Both, Either, Choice, Set, Bump, Member, Item}
use Rattle.sts_grammar.specs.Source.{Source, kind, broken, is_mark}
use Rattle.sts_grammar.specs.Operators.{infix_number, infix_level, bump_by, assignment}
use Rattle.sts_grammar.specs.Ends.{is_bump, mark_binds, kind_binds, binds, continues, may_end, Ends}
use Rattle.sts_grammar.specs.Operands.{level, IsTarget}
use Rattle.sts_grammar.specs.Found.{when}
use Rattle.sts_grammar.specs.ReadExpressions.{is_target, binds_before}
use Rattle.sts_grammar.specs.ReadStatements.{read_end}
use Rattle.sts_grammar.proofs.Tokens.{never, is_true}
use Rattle.sts_grammar.proofs.Operators.{operator_max, binds_assignment}

-- 1. Operators.

-- an assignment mark is no operator between two operands
pub assignment_alone : (mark : Mark) (op : Option ℕ) → assignment mark ≡ Some op → infix_number mark ≡ None
assignment_alone m.Bar op h = never op h
assignment_alone m.Caret op h = never op h
assignment_alone m.Ampersand op h = never op h
assignment_alone m.Equal op h = never op h
assignment_alone m.StrictEqual op h = never op h
assignment_alone m.NotEqual op h = never op h
assignment_alone m.StrictNotEqual op h = never op h
assignment_alone m.Less op h = never op h
assignment_alone m.Greater op h = never op h
assignment_alone m.LessEqual op h = never op h
assignment_alone m.GreaterEqual op h = never op h
assignment_alone m.ShiftLeft op h = never op h
assignment_alone m.ShiftRight op h = never op h
assignment_alone m.UnsignedShiftRight op h = never op h
assignment_alone m.Plus op h = never op h
assignment_alone m.Minus op h = never op h
assignment_alone m.Star op h = never op h
assignment_alone m.Slash op h = never op h
assignment_alone m.Percent op h = never op h
assignment_alone mark op h = refl

pub assignment_binds : (before : TokenKind) (new_line : Bool) (mark : Mark) (op : Option ℕ) → assignment mark ≡ Some op → mark_binds before new_line mark ≡ 1
assignment_binds before new_line mark op h = binds_assignment before new_line mark op (assignment_alone mark op h) h

-- `++` and `--` bind as such where no line break stands before them
pub bump_binds : (before : TokenKind) (mark : Mark) (by : ℤ) → bump_by mark ≡ Some by → mark_binds before false mark ≡ 13
bump_binds before m.PlusPlus by h = refl
bump_binds before m.MinusMinus by h = refl
bump_binds before mark by h = never by h

-- 2. What any token can bind as.

chosen_gap : (t : Bool) (b : ℕ) → b ≢ 12 → (if t then 0 else b) ≢ 12
chosen_gap true b h = λ e. absurd (omega arith)
chosen_gap false b h = h

mark_gap : (before : TokenKind) (new_line : Bool) (mark : Mark) → mark_binds before new_line mark ≢ 12
mark_gap before new_line m.Question = λ e. absurd (omega arith)
mark_gap before new_line m.BarBar = λ e. absurd (omega arith)
mark_gap before new_line m.AmpersandAmpersand = λ e. absurd (omega arith)
mark_gap before new_line m.PlusPlus = chosen_gap new_line 13 (λ e. absurd (omega arith))
mark_gap before new_line m.MinusMinus = chosen_gap new_line 13 (λ e. absurd (omega arith))
mark_gap before new_line m.Dot = chosen_gap (is_bump before) 14 (λ e. absurd (omega arith))
mark_gap before new_line m.OpenBracket = chosen_gap (is_bump before) 14 (λ e. absurd (omega arith))
mark_gap before new_line m.OpenParenthesis = chosen_gap (is_bump before) 14 (λ e. absurd (omega arith))
mark_gap before new_line mark = λ e. absurd (omega (arith, operator_max mark))

kind_gap : (before : TokenKind) (new_line : Bool) (t : TokenKind) → kind_binds before new_line t ≢ 12
kind_gap before new_line (k.Mark mark) = mark_gap before new_line mark
kind_gap before new_line _ = λ e. absurd (omega arith)

before_gap : (s : Source) (j : ℕ) (t : Bool) → (if t then binds s j else 0) ≢ 12
before_gap s j true = kind_gap (kind s (j - 1)) (broken s j) (kind s j)
before_gap s j false = λ e. absurd (omega arith)

-- prefix operators have 12 alone: nothing binds to what stands before it as they do
pub binds_gap : (s : Source) (upto j : ℕ) → binds_before s upto j ≢ 12
binds_gap s upto j = before_gap s j (nat_lt j upto)

pub binds_inside : (s : Source) (upto j : ℕ) → j < upto → binds_before s upto j ≡ binds s j
binds_inside s upto j h = ap (λ x. if x then binds s j else 0) (lt-ltb j upto h)

binds_le_by : (b : ℕ) (t : Bool) → (if t then b else 0) ≤ b
binds_le_by b true = omega arith
binds_le_by b false = omega arith

pub binds_le : (s : Source) (upto j : ℕ) → binds_before s upto j ≤ binds s j
binds_le s upto j = binds_le_by (binds s j) (nat_lt j upto)

-- 3. Levels of trees.

-- how tightly a token may bind that stands behind a tree without parentheses
abbrev pub follow : Tree → ℕ
follow (Set at op x a) = 0
follow (Choice at c a b) = 0
follow (Either at a b) = 2
follow (Both at a b) = 3
follow (Binary at op a b) = infix_level op
follow (Unary at op a) = 11
follow (Bump at x by false) = 11
follow e = 14

pub follow_le : (e : Tree) (l b : ℕ) → l ≤ level e → b ≤ l → (l ≤ 1 → b ≡ 0) → b ≢ 12 → b ≤ 14 → b ≤ follow e
follow_le (Set at op x a) l b h le z gap top = omega (arith, z h)
follow_le (Choice at c x y) l b h le z gap top = omega (arith, z h)
follow_le (Either at x y) l b h le z gap top = omega arith
follow_le (Both at x y) l b h le z gap top = omega arith
follow_le (Binary at op x y) l b h le z gap top = omega arith
follow_le (Unary at op x) l b h le z gap top = omega (arith, gap)
follow_le (Bump at x by false) l b h le z gap top = omega (arith, gap)
follow_le (Bump at x by true) l b h le z gap top = top
follow_le _ l b h le z gap top = top

pub target_true : (x : Tree) → IsTarget x → is_target x ≡ true
target_true (Name at x) h = refl
target_true (Member at a x) h = refl
target_true (Item at a b) h = refl
target_true _ h = absurd h

-- 4. Ends of statements.

quiet : (new_line : Bool) (x : ℕ) → IsTrue (new_line && not (nat_lt 0 x)) → x ≡ 0
quiet new_line x h =
    let a = and_parts new_line (not (nat_lt 0 x)) (is_true _ h) in
    let le : x ≤ 0 = ltb-false 0 x (not-true (nat_lt 0 x) a.1) in omega arith

end_binds : (before : TokenKind) (new_line : Bool) (t : TokenKind) → IsTrue (may_end t new_line (nat_lt 0 (kind_binds before new_line t))) → kind_binds before new_line t ≡ 0
end_binds before new_line (k.Mark m.Semicolon) h = refl
end_binds before new_line (k.Mark m.CloseBrace) h = refl
end_binds before new_line (k.Mark mark) h = quiet new_line (mark_binds before new_line mark) h
end_binds before new_line _ h = refl

-- an expression that a statement ends with stops there
pub ends_stop : (s : Source) (n j : ℕ) → Ends s (continues s n) n j → binds s n ≡ 0
ends_stop s n j (inl h) = ap (kind_binds (kind s (n - 1)) (broken s n)) h.0
ends_stop s n j (inr h) = end_binds (kind s (n - 1)) (broken s n) (kind s n) h.0

weaker : (new_line goes_on : Bool) → IsTrue (new_line && not goes_on) → (new_line && not false) ≡ true
weaker true goes_on h = refl
weaker false goes_on h = absurd (false≢true h)

may_end_weak : (t : TokenKind) (new_line goes_on : Bool) → IsTrue (may_end t new_line goes_on) → may_end t new_line false ≡ true
may_end_weak (k.Mark m.Semicolon) new_line goes_on h = absurd (false≢true h)
may_end_weak (k.Mark m.CloseBrace) new_line goes_on h = refl
may_end_weak k.Finish new_line goes_on h = refl
may_end_weak _ new_line goes_on h = weaker new_line goes_on h

not_semicolon : (t : TokenKind) (new_line goes_on : Bool) → IsTrue (may_end t new_line goes_on) → is_mark m.Semicolon t ≡ false
not_semicolon (k.Mark m.Semicolon) new_line goes_on h = absurd (false≢true h)
not_semicolon _ new_line goes_on h = refl

-- an end is read
pub end_reads : (s : Source) (goes_on : Bool) (n j : ℕ) → Ends s goes_on n j → read_end s n ≡ Some j
unfolding read_end
end_reads s goes_on n j (inl h) =
    ap (λ x. if is_mark m.Semicolon x then Some (n + 1) else when (may_end (kind s n) (broken s n) false) (Some n)) h.0 ∙ ap Some (sym h.1)
end_reads s goes_on n j (inr h) =
    ap (λ x. if x then Some (n + 1) else when (may_end (kind s n) (broken s n) false) (Some n)) (not_semicolon (kind s n) (broken s n) goes_on h.0)
    ∙ ap (λ x. when x (Some n)) (may_end_weak (kind s n) (broken s n) goes_on h.0)
    ∙ ap Some (sym h.1)
