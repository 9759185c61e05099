-- How tightly operators bind, and what stands in operands.
use Rattle.std.proofs.Common.{◌≡◌, ℕ, ◌+◌, ◌-◌, ◌<◌, ◌≤◌, refl, sym, ap, ◌∙◌, subst, arith, ltb-true}
use Rattle.std.specs.Prelude.{ℤ, Bool, true, false, nat_lt, if◌then◌else◌, Option, Some, None, is_some}
use Rattle.std.proofs.lemmas.Bool.{false≢true}
use Rattle.sts_lexer.specs.declared.marks.Mark.{Mark}
use Rattle.sts_lexer.specs.declared.marks.Mark.TheVariants as m
use Rattle.sts_lexer.specs.declared.token.TokenKind.{TokenKind}
use Rattle.sts_lexer.specs.declared.token.TokenKind.TheVariants as k
use Rattle.sts_syntax.specs.Trees.{Tree, Name, Member, Item}
use Rattle.sts_grammar.specs.Source.{Source, kind, broken}
use Rattle.sts_grammar.specs.Operators.{infix_number, infix_level, bump_by, assignment}
use Rattle.sts_grammar.specs.Operands.{Stands, level, IsTarget, IsOperand}
use Rattle.sts_grammar.specs.Ends.{is_bump, operator_binds, mark_binds, kind_binds, binds}
use Rattle.sts_grammar.specs.ReadExpressions.{is_target, binds_before}
use Rattle.sts_grammar.proofs.Tokens.{never}

-- 1. Levels.

pub operator_max : (mark : Mark) → operator_binds (infix_number mark) (assignment mark) ≤ 11
operator_max m.Question = omega arith
operator_max _ = omega arith

pub infix_max : (mark : Mark) (op : ℕ) → infix_number mark ≡ Some op → infix_level op ≤ 11
infix_max mark op h = subst (λ (x : Option ℕ). operator_binds x (assignment mark) ≤ 11) h (operator_max mark)

abbrev binds_four : Option ℕ → Bool
binds_four None = true
binds_four (Some op) = nat_lt 3 (infix_level op)

infix_four : (mark : Mark) → binds_four (infix_number mark) ≡ true
infix_four m.Question = refl
infix_four _ = refl

pub infix_min : (mark : Mark) (op : ℕ) → infix_number mark ≡ Some op → 3 < infix_level op
infix_min mark op h = ltb-true 3 (infix_level op) (subst (λ (x : Option ℕ). binds_four x ≡ true) h (infix_four mark))

unless_max : (b : Bool) (n : ℕ) → (if b then 0 else n) ≤ n
unless_max true n = omega arith
unless_max false n = omega arith

mark_max : (before : TokenKind) (new_line : Bool) (mark : Mark) → mark_binds before new_line mark ≤ 14
mark_max before new_line m.Question = omega arith
mark_max before new_line m.BarBar = omega arith
mark_max before new_line m.AmpersandAmpersand = omega arith
mark_max before new_line m.PlusPlus = omega (arith, unless_max new_line 13)
mark_max before new_line m.MinusMinus = omega (arith, unless_max new_line 13)
mark_max before new_line m.Dot = unless_max (is_bump before) 14
mark_max before new_line m.OpenBracket = unless_max (is_bump before) 14
mark_max before new_line m.OpenParenthesis = unless_max (is_bump before) 14
mark_max before new_line mark = omega (arith, operator_max mark)

kind_max : (before : TokenKind) (new_line : Bool) (t : TokenKind) → kind_binds before new_line t ≤ 14
kind_max before new_line (k.Mark mark) = mark_max before new_line mark
kind_max before new_line _ = omega arith

pub binds_max : (s : Source) (upto j : ℕ) → binds_before s upto j ≤ 14
binds_max s upto j =
    let by : (b : Bool) → (if b then binds s j else 0) ≤ 14 =
    λ b. elim b as (λ b. (if b then binds s j else 0) ≤ 14) [ true ↦ kind_max (kind s (j - 1)) (broken s j) (kind s j) | false ↦ omega arith ] in
    by (nat_lt j upto)

-- behind `++` and `--` nothing binds more tightly than they do
bump_mark_max : (before : TokenKind) (new_line : Bool) (mark : Mark) → is_bump before ≡ true → mark_binds before new_line mark ≤ 13
bump_mark_max before new_line m.Question h = omega arith
bump_mark_max before new_line m.BarBar h = omega arith
bump_mark_max before new_line m.AmpersandAmpersand h = omega arith
bump_mark_max before new_line m.PlusPlus h = unless_max new_line 13
bump_mark_max before new_line m.MinusMinus h = unless_max new_line 13
bump_mark_max before new_line m.Dot h = subst (λ (b : Bool). (if b then 0 else 14) ≤ 13) (sym h) (omega arith)
bump_mark_max before new_line m.OpenBracket h = subst (λ (b : Bool). (if b then 0 else 14) ≤ 13) (sym h) (omega arith)
bump_mark_max before new_line m.OpenParenthesis h = subst (λ (b : Bool). (if b then 0 else 14) ≤ 13) (sym h) (omega arith)
bump_mark_max before new_line mark h = omega (arith, operator_max mark)

bump_kind_max : (before : TokenKind) (new_line : Bool) (t : TokenKind) → is_bump before ≡ true → kind_binds before new_line t ≤ 13
bump_kind_max before new_line (k.Mark mark) h = bump_mark_max before new_line mark h
bump_kind_max before new_line _ h = omega arith

pub behind_bump_max : (s : Source) (upto i j : ℕ) → j ≡ i + 1 → is_bump (kind s i) ≡ true → binds_before s upto j ≤ 13
behind_bump_max s upto i j e h =
    let back : i ≡ j - 1 = omega arith in
    let here : is_bump (kind s (j - 1)) ≡ true = subst (λ (x : ℕ). is_bump (kind s x) ≡ true) back h in
    let by : (b : Bool) → (if b then binds s j else 0) ≤ 13 =
    λ b. elim b as (λ b. (if b then binds s j else 0) ≤ 13) [ true ↦ bump_kind_max (kind s (j - 1)) (broken s j) (kind s j) here | false ↦ omega arith ] in
    by (nat_lt j upto)

pub bump_is_bump : (mark : Mark) (by : ℤ) → bump_by mark ≡ Some by → is_bump (k.Mark mark) ≡ true
bump_is_bump mark by h = ap is_some h

-- 2. How tightly a mark binds, by what it is.

pub binds_operator : (before : TokenKind) (new_line : Bool) (mark : Mark) (op : ℕ) → infix_number mark ≡ Some op → mark_binds before new_line mark ≡ infix_level op
binds_operator before new_line m.Question op h = never op h
binds_operator before new_line m.BarBar op h = never op h
binds_operator before new_line m.AmpersandAmpersand op h = never op h
binds_operator before new_line m.PlusPlus op h = never op h
binds_operator before new_line m.MinusMinus op h = never op h
binds_operator before new_line m.Dot op h = never op h
binds_operator before new_line m.OpenBracket op h = never op h
binds_operator before new_line m.OpenParenthesis op h = never op h
binds_operator before new_line mark op h = ap (λ (x : Option ℕ). operator_binds x (assignment mark)) h

pub binds_assignment : (before : TokenKind) (new_line : Bool) (mark : Mark) (op : Option ℕ) → infix_number mark ≡ None → assignment mark ≡ Some op → mark_binds before new_line mark ≡ 1
binds_assignment before new_line m.Question op n h = never op h
binds_assignment before new_line m.BarBar op n h = never op h
binds_assignment before new_line m.AmpersandAmpersand op n h = never op h
binds_assignment before new_line m.PlusPlus op n h = never op h
binds_assignment before new_line m.MinusMinus op n h = never op h
binds_assignment before new_line m.Dot op n h = never op h
binds_assignment before new_line m.OpenBracket op n h = never op h
binds_assignment before new_line m.OpenParenthesis op n h = never op h
binds_assignment before new_line mark op n h =
    ap (λ (x : Option ℕ). operator_binds x (assignment mark)) n ∙ ap (λ (x : Option (Option ℕ)). operator_binds None x) h

pub binds_bump : (before : TokenKind) (new_line : Bool) (mark : Mark) (by : ℤ) → bump_by mark ≡ Some by → mark_binds before new_line mark ≡ (if new_line then 0 else 13)
binds_bump before new_line m.PlusPlus by h = refl
binds_bump before new_line m.MinusMinus by h = refl
binds_bump before new_line _ by h = never by h

-- where something binds that doesn't behind b, b is false
pub unless_bound : (b : Bool) (l n w : ℕ) → 1 ≤ l → l ≤ (if b then 0 else n) → (if b then 0 else n) ≤ w → (b ≡ false) × (n ≤ w) × (l ≤ n)
unless_bound true l n w one le bw = absurd (omega arith)
unless_bound false l n w one le bw = (refl, bw, le)

-- 3. Operands.

-- an operand may stand where less is wanted
pub operand_weak : (s : Source) (l w : ℕ) (e : Tree) (P : Stands) (i j : ℕ) → l ≤ w → IsOperand s w e P i j → IsOperand s l e P i j
operand_weak s l w e P i j le h = (h.0, h.1, λ q. let up : w ≤ level e = h.2 q in omega arith)

pub target_is : (e : Tree) → is_target e ≡ true → IsTarget e
target_is (Name at x) h = tt
target_is (Member at a x) h = tt
target_is (Item at a b) h = tt
target_is _ h = absurd (false≢true h)

pub target_level : (e : Tree) → IsTarget e → level e ≡ 14
target_level (Name at x) h = refl
target_level (Member at a x) h = refl
target_level (Item at a b) h = refl
target_level _ h = absurd h

pub target_operand : (s : Source) (l w : ℕ) (e : Tree) (P : Stands) (i j : ℕ) → l ≤ 14 → IsTarget e → IsOperand s w e P i j → IsOperand s l e P i j
target_operand s l w e P i j le t h = (h.0, h.1, λ q. let up = target_level e t in omega arith)
