-- One turn of each reader, and where a reader arrives.
use Rattle.std.proofs.Common.{◌≡◌, ℕ, zero, suc, ◌+◌, ◌-◌, ◌<◌, ◌≤◌, length, refl, sym, ap, ◌∙◌, arith, lt-ltb, le-ltb}
use Rattle.std.specs.Prelude.{ℤ, Bool, true, false, not, ◌&&◌, nat_lt, Option, Some, None, if◌then◌else◌}
use Rattle.sts_lexer.specs.declared.marks.Mark.{Mark}
use Rattle.sts_lexer.specs.declared.marks.Mark.TheVariants as m
use Rattle.sts_lexer.specs.declared.token.TokenKind.{TokenKind}
use Rattle.sts_lexer.specs.declared.token.TokenKind.TheVariants as k
use Rattle.sts_syntax.specs.Trees.{Tree, Trees, Statement, Statements}
use Rattle.sts_syntax.specs.Nesting.{nesting}
use Rattle.sts_grammar.specs.Source.{Source, kind, place, IsMark, is_mark}
use Rattle.sts_grammar.specs.Operators.{infix_number, prefix_number, bump_by, assignment}
use Rattle.sts_grammar.specs.Found.{Found, ◌>>=◌, when}
use Rattle.sts_grammar.specs.ReadHeadings.{begins_arrow, is_arrow_behind}
use Rattle.sts_grammar.specs.ReadExpressions.{Readers, put, put_statement, binds_before, items_rest, read_items, read_statements, read_prefix, read_mark, read_primary, read_operator, read_further, read_behind, climb, opened, close_at, unwind, read_inside, read_operand}
use Rattle.sts_grammar.specs.Reading.{expression, statement, expression_readers, statement_readers}
use Rattle.sts_grammar.specs.ReadStatements.{read_statement}
use Rattle.sts_grammar.proofs.Tokens.{never}
use Rattle.sts_grammar.proofs.Levels.{assignment_alone}

-- 1. Marks, by what they are.

pub prefix_mark : (s : Source) (readers : Readers) (i : ℕ) (mark : Mark) (op : ℕ) → prefix_number mark ≡ Some op → read_mark s readers i mark ≡ read_prefix s readers i (Some op) (bump_by mark)
prefix_mark s readers i m.OpenBracket op h = never op h
prefix_mark s readers i m.OpenParenthesis op h = never op h
prefix_mark s readers i mark op h = ap (λ x. read_prefix s readers i x (bump_by mark)) h

pub bump_mark : (s : Source) (readers : Readers) (i : ℕ) (mark : Mark) (by : ℤ) → bump_by mark ≡ Some by → read_mark s readers i mark ≡ read_prefix s readers i None (Some by)
bump_mark s readers i m.PlusPlus by h = ap (read_prefix s readers i None) h
bump_mark s readers i m.MinusMinus by h = ap (read_prefix s readers i None) h
bump_mark s readers i mark by h = never by h

pub prefix_not_open : (mark : Mark) (op : ℕ) → prefix_number mark ≡ Some op → is_mark m.OpenParenthesis (k.Mark mark) ≡ false
prefix_not_open m.OpenParenthesis op h = never op h
prefix_not_open mark op h = refl

pub bump_not_open : (mark : Mark) (by : ℤ) → bump_by mark ≡ Some by → is_mark m.OpenParenthesis (k.Mark mark) ≡ false
bump_not_open m.OpenParenthesis by h = never by h
bump_not_open mark by h = refl

pub infix_further : (s : Source) (readers : Readers) (at : ℕ) (e : Tree) (i : ℕ) (mark : Mark) (op : ℕ) → infix_number mark ≡ Some op → read_further s readers at e i mark ≡ read_operator readers at e i (Some op) (assignment mark) (bump_by mark)
infix_further s readers at e i m.Dot op h = never op h
infix_further s readers at e i m.OpenBracket op h = never op h
infix_further s readers at e i m.OpenParenthesis op h = never op h
infix_further s readers at e i m.Question op h = never op h
infix_further s readers at e i m.BarBar op h = never op h
infix_further s readers at e i m.AmpersandAmpersand op h = never op h
infix_further s readers at e i mark op h = ap (λ x. read_operator readers at e i x (assignment mark) (bump_by mark)) h

pub set_further : (s : Source) (readers : Readers) (at : ℕ) (e : Tree) (i : ℕ) (mark : Mark) (op : Option ℕ) → assignment mark ≡ Some op → read_further s readers at e i mark ≡ read_operator readers at e i None (Some op) (bump_by mark)
set_further s readers at e i m.Dot op h = never op h
set_further s readers at e i m.OpenBracket op h = never op h
set_further s readers at e i m.OpenParenthesis op h = never op h
set_further s readers at e i m.Question op h = never op h
set_further s readers at e i m.BarBar op h = never op h
set_further s readers at e i m.AmpersandAmpersand op h = never op h
set_further s readers at e i mark op h =
    ap (λ x. read_operator readers at e i x (assignment mark) (bump_by mark)) (assignment_alone mark op h)
    ∙ ap (λ x. read_operator readers at e i None x (bump_by mark)) h

pub bump_further : (s : Source) (readers : Readers) (at : ℕ) (e : Tree) (i : ℕ) (mark : Mark) (by : ℤ) → bump_by mark ≡ Some by → read_further s readers at e i mark ≡ read_operator readers at e i None None (Some by)
bump_further s readers at e i m.PlusPlus by h = ap (read_operator readers at e i None None) h
bump_further s readers at e i m.MinusMinus by h = ap (read_operator readers at e i None None) h
bump_further s readers at e i mark by h = never by h

-- 2. One turn of a loop.

pub climb_stop : (s : Source) (upto room : ℕ) (readers : Readers) (n l at : ℕ) (e : Tree) (i : ℕ) → 0 < n → binds_before s upto i < l → climb s upto room readers n l at e i ≡ Some (e, i)
unfolding climb
climb_stop s upto room readers zero l at e i n h = absurd (omega arith)
climb_stop s upto room readers (suc t) l at e i n h =
    ap (λ x. if x then Some (e, i) else (if nat_lt room (nesting e) then None else (read_behind s readers at e i (kind s i) >>= λ a. climb s upto room readers t l at a.0 a.1))) (lt-ltb (binds_before s upto i) l h)

pub climb_goes : (s : Source) (upto room : ℕ) (readers : Readers) (n l at : ℕ) (e : Tree) (i : ℕ) (mark : Mark) (f : Tree) (j : ℕ) → 0 < n → l ≤ binds_before s upto i → nesting e ≤ room → IsMark s i mark → read_further s readers at e i mark ≡ Some (f, j) → climb s upto room readers n l at e i ≡ climb s upto room readers (n - 1) l at f j
unfolding climb
climb_goes s upto room readers zero l at e i mark f j n b fit mk h = absurd (omega arith)
climb_goes s upto room readers (suc t) l at e i mark f j n b fit mk h =
    let e1 : suc t - 1 ≡ t = omega arith in
    ap (λ x. if x then Some (e, i) else (if nat_lt room (nesting e) then None else (read_behind s readers at e i (kind s i) >>= λ a. climb s upto room readers t l at a.0 a.1))) (le-ltb (binds_before s upto i) l b)
    ∙ ap (λ x. if x then None else (read_behind s readers at e i (kind s i) >>= λ a. climb s upto room readers t l at a.0 a.1)) (le-ltb room (nesting e) fit)
    ∙ ap (λ x. read_behind s readers at e i x >>= λ a. climb s upto room readers t l at a.0 a.1) mk
    ∙ ap (λ r. r >>= λ a. climb s upto room readers t l at a.0 a.1) h
    ∙ ap (λ x. climb s upto room readers x l at f j) (sym e1)

pub opened_stop : (s : Source) (n i : ℕ) → (is_mark m.OpenParenthesis (kind s i) && not (begins_arrow s i)) ≡ false → opened s n i ≡ 0
unfolding opened
opened_stop s zero i h = refl
opened_stop s (suc n) i h = ap (λ x. if x then suc (opened s n (i + 1)) else 0) h

pub opened_goes : (s : Source) (n i : ℕ) → 0 < n → (is_mark m.OpenParenthesis (kind s i) && not (begins_arrow s i)) ≡ true → opened s n i ≡ suc (opened s (n - 1) (i + 1))
unfolding opened
opened_goes s zero i n h = absurd (omega arith)
opened_goes s (suc t) i n h =
    let e : suc t - 1 ≡ t = omega arith in
    ap (λ x. if x then suc (opened s t (i + 1)) else 0) h ∙ ap (λ x. suc (opened s x (i + 1))) (sym e)

pub items_at : (s : Source) (square : Bool) (read : ℕ → Found Tree) (n : ℕ) (all : Trees) (i : ℕ) → 0 < n → read_items s square read n all i ≡ (read i >>= λ a. items_rest square (read_items s square read (n - 1)) (put all a.0) a.1 (kind s a.1))
unfolding read_items
items_at s square read zero all i h = absurd (omega arith)
items_at s square read (suc n) all i h = let e : suc n - 1 ≡ n = omega arith in rw e refl

pub statements_at : (s : Source) (read : ℕ → Found Statement) (n : ℕ) (all : Statements) (i : ℕ) → 0 < n → read_statements s read n all i ≡ (if is_mark m.CloseBrace (kind s i) then Some (all, i + 1) else (read i >>= λ a. read_statements s read (n - 1) (put_statement all a.0) a.1))
unfolding read_statements
statements_at s read zero all i h = absurd (omega arith)
statements_at s read (suc n) all i h = let e : suc n - 1 ≡ n = omega arith in rw e refl

pub expression_at : (s : Source) (upto room l i : ℕ) → expression s upto (suc room) l i ≡ read_operand s upto room (expression_readers s upto room) l i
unfolding expression
expression_at s upto room l i = refl

pub statement_by : (s : Source) (room : ℕ) (f l : Bool) (i : ℕ) (t : TokenKind) → 1 ≤ room → kind s i ≡ t → statement s room f l i ≡ read_statement s (room - 1) (statement_readers s (room - 1)) f l i t
unfolding expression
statement_by s zero f l i t h e = absurd (omega arith)
statement_by s (suc room) f l i t h e =
    let r : suc room - 1 ≡ room = omega arith in
    ap (read_statement s room (statement_readers s room) f l i) e
    ∙ ap (λ x. read_statement s x (statement_readers s x) f l i t) (sym r)

-- 3. Where a reader arrives.

-- the level in force with q open parentheses
abbrev pub inner_level : (q l : ℕ) → ℕ
inner_level zero l = l
inner_level (suc q) l = 1

-- what is done with an expression that is whole there
abbrev pub rest : Source → (upto room : ℕ) → Readers → (q l from : ℕ) → Tree × ℕ → Found Tree
rest s upto room readers zero l from a = Some a
rest s upto room readers (suc q) l from a = close_at s a.1 >>= λ j. unwind s upto room readers q l from a.0 j

bind_some : {A : Type 0} (r : Option A) → (r >>= λ a. Some a) ≡ r
bind_some None = refl
bind_some (Some x) = refl

unwind_is : (s : Source) (upto room : ℕ) (readers : Readers) (q l from i : ℕ) (e : Tree) (j : ℕ) → i ≡ from + q → unwind s upto room readers q l from e j ≡ (climb s upto room readers (suc room) (inner_level q l) (place s i) e j >>= rest s upto room readers q l from)
unfolding unwind
unwind_is s upto room readers zero l from i e j h =
    let same : from ≡ i = omega arith in
    ap (λ x. climb s upto room readers (suc room) l (place s x) e j) same
    ∙ sym (bind_some (climb s upto room readers (suc room) l (place s i) e j))
unwind_is s upto room readers (suc q) l from i e j h =
    ap (λ x. climb s upto room readers (suc room) 1 (place s x) e j >>= rest s upto room readers (suc q) l from) (sym h)

-- With q parentheses open that stand from `from` on, reading from i on comes to e, which ends at j. t bounds the parentheses.
pub record Arrives (s : Source) (upto room : ℕ) (readers : Readers) (t q l from i : ℕ) (e : Tree) (j : ℕ) : Type 0 where
  pub turns : ℕ
  pub enough : room + 2 ≤ turns + nesting e
  pub is : read_inside s upto room readers (q + opened s t i) l from ≡ (climb s upto room readers turns (inner_level q l) (place s i) e j >>= rest s upto room readers q l from)

pub primary_arrives : (s : Source) (upto room : ℕ) (readers : Readers) (t q l from i : ℕ) (e : Tree) (j : ℕ) → i ≡ from + q → (is_mark m.OpenParenthesis (kind s i) && not (begins_arrow s i)) ≡ false → read_primary s readers i (kind s i) ≡ Some (e, j) → 1 ≤ nesting e → Arrives s upto room readers t q l from i e j
unfolding read_inside
primary_arrives s upto room readers t q l from i e j here closed read pos =
    let none_open : q + opened s t i ≡ q = omega (arith, opened_stop s t i closed) in
    record {
      turns = suc room;
      enough = omega arith;
      is =
          ap (λ o. read_inside s upto room readers o l from) none_open
          ∙ ap (λ x. read_primary s readers x (kind s x) >>= λ a. unwind s upto room readers q l from a.0 a.1) (sym here)
          ∙ ap (λ r. r >>= λ a. unwind s upto room readers q l from a.0 a.1) read
          ∙ unwind_is s upto room readers q l from i e j here;
    }

pub further_arrives : (s : Source) (upto room : ℕ) (readers : Readers) (t q l from i : ℕ) (a : Tree) (n : ℕ) (mark : Mark) (e : Tree) (j : ℕ) → Arrives s upto room readers t q l from i a n → inner_level q l ≤ binds_before s upto n → nesting a ≤ room → IsMark s n mark → read_further s readers (place s i) a n mark ≡ Some (e, j) → nesting a < nesting e → Arrives s upto room readers t q l from i e j
further_arrives s upto room readers t q l from i a n mark e j x lv fit mk read deeper =
    let enough : room + 2 ≤ x.turns + nesting a = x.enough in
    record {
      turns = x.turns - 1;
      enough = omega arith;
      is = x.is ∙ ap (λ r. r >>= rest s upto room readers q l from) (climb_goes s upto room readers x.turns (inner_level q l) (place s i) a n mark e j (omega arith) lv fit mk read);
    }

-- what is whole there is what the reader gives
pub arrived : (s : Source) (upto room : ℕ) (readers : Readers) (l i : ℕ) (e : Tree) (j : ℕ) → Arrives s upto room readers (length s.tokens) 0 l i i e j → nesting e ≤ room + 1 → binds_before s upto j < l → read_operand s upto room readers l i ≡ Some (e, j)
unfolding read_operand
arrived s upto room readers l i e j x fit b =
    let enough : room + 2 ≤ x.turns + nesting e = x.enough in
    let same : opened s (length s.tokens) i ≡ 0 + opened s (length s.tokens) i = omega arith in
    ap (λ o. read_inside s upto room readers o l i) same ∙ x.is
    ∙ ap (λ r. r >>= rest s upto room readers 0 l i) (climb_stop s upto room readers x.turns l (place s i) e j (omega arith) b)

close_yes : (s : Source) (n : ℕ) → IsMark s n m.CloseParenthesis → is_arrow_behind s (n + 1) ≡ false → close_at s n ≡ Some (n + 1)
unfolding close_at
close_yes s n mk clear =
    ap (λ x. when (is_mark m.CloseParenthesis x && not (is_arrow_behind s (n + 1))) (Some (n + 1))) mk ∙ ap (λ x. when (not x) (Some (n + 1))) clear

-- one more pair of parentheses
pub wrapped_arrives : (s : Source) (upto room : ℕ) (readers : Readers) (t q l from i : ℕ) (e : Tree) (n : ℕ) → i ≡ from + q → 0 < t → IsMark s i m.OpenParenthesis → begins_arrow s i ≡ false → IsMark s n m.CloseParenthesis → is_arrow_behind s (n + 1) ≡ false → binds_before s upto n ≡ 0 → 1 ≤ nesting e → nesting e ≤ room + 1 → Arrives s upto room readers (t - 1) (suc q) l from (i + 1) e n → Arrives s upto room readers t q l from i e (n + 1)
unfolding read_inside
wrapped_arrives s upto room readers t q l from i e n here turn mk clear close behind b pos fit x =
    let enough : room + 2 ≤ x.turns + nesting e = x.enough in
    let open_here : (is_mark m.OpenParenthesis (kind s i) && not (begins_arrow s i)) ≡ true = ap (λ y. is_mark m.OpenParenthesis y && not (begins_arrow s i)) mk ∙ ap not clear in
    let one_more : q + opened s t i ≡ suc q + opened s (t - 1) (i + 1) = omega (arith, opened_goes s t i turn open_here) in
    record {
      turns = suc room;
      enough = omega arith;
      is =
          ap (λ o. read_inside s upto room readers o l from) one_more ∙ x.is
          ∙ ap (λ r. r >>= rest s upto room readers (suc q) l from) (climb_stop s upto room readers x.turns 1 (place s (i + 1)) e n (omega arith) (omega arith))
          ∙ ap (λ r. r >>= λ j. unwind s upto room readers q l from e j) (close_yes s n close behind)
          ∙ unwind_is s upto room readers q l from i e (n + 1) here;
    }
