-- The readings with one more turn left.
use Rattle.std.proofs.Common.{◌≡◌, ◌≢◌, ℕ, ◌≤◌, ap, sym, subst, length, ◌∙◌, lt-ltb, le-ltb, zero, suc, ◌+◌, ◌-◌, ◌<◌, refl, arith}
use Rattle.std.specs.Prelude.{Bool, if◌then◌else◌, nat_lt, Option, Some, None, Result, Ok, Err, IsErrAnd}
use Rattle.sts_syntax.specs.Trees.{Tree}
use Rattle.sts_syntax.specs.Nesting.{nesting}
use Rattle.sts_lexer.specs.declared.marks.Mark.{Mark}
use Rattle.sts_lexer.specs.declared.marks.Mark.TheVariants as m
use Rattle.sts_grammar.specs.Source.{Source, kind, place}
use Rattle.sts_grammar.specs.Operators.{infix_number, assignment, bump_by}
use Rattle.sts_grammar.specs.Found.{◌>>=◌}
use Rattle.sts_grammar.specs.ReadExpressions.{Readers, binds_before, read_operator, read_further, read_behind, climb, close_at, unwind, read_operand}
use Rattle.parse_expr.specs.Gives.{Fails, Gives}
use Rattle.parse_expr.specs.declared.reader.Unread.{Unread}
use Rattle.parse_expr.specs.declared.reader.Unread.TheVariants.{Syntax, NoMemory}
use Rattle.sts_grammar.specs.ReadStatements.{read_statement}
use Rattle.sts_grammar.specs.Reading.{expression, statement, expression_readers}

pub climb_deep : (s : Source) (upto room : ℕ) (readers : Readers) (n l at : ℕ) (e : Tree) (i : ℕ) → 0 < n → l ≤ binds_before s upto i → room < nesting e →
    climb s upto room readers n l at e i ≡ None
unfolding climb
climb_deep s upto room readers zero l at e i n b h = absurd (omega arith)
climb_deep s upto room readers (suc t) l at e i n b h =
    ap (λ x. if x then Some (e, i) else (if nat_lt room (nesting e) then None else (read_behind s readers at e i (kind s i) >>= λ a. climb s upto room readers t l at a.0 a.1))) (le-ltb (binds_before s upto i) l b)
    ∙ ap (λ x. if x then None else (read_behind s readers at e i (kind s i) >>= λ a. climb s upto room readers t l at a.0 a.1)) (lt-ltb room (nesting e) h)

pub climb_reads : (s : Source) (upto room : ℕ) (readers : Readers) (n l at : ℕ) (e : Tree) (i : ℕ) → 0 < n → l ≤ binds_before s upto i → nesting e ≤ room →
    climb s upto room readers n l at e i ≡ (read_behind s readers at e i (kind s i) >>= λ a. climb s upto room readers (n - 1) l at a.0 a.1)
unfolding climb
climb_reads s upto room readers zero l at e i n b h = absurd (omega arith)
climb_reads s upto room readers (suc t) l at e i n b h =
    let back : suc t - 1 ≡ t = omega arith in
    ap (λ x. if x then Some (e, i) else (if nat_lt room (nesting e) then None else (read_behind s readers at e i (kind s i) >>= λ a. climb s upto room readers t l at a.0 a.1))) (le-ltb (binds_before s upto i) l b)
    ∙ ap (λ x. if x then None else (read_behind s readers at e i (kind s i) >>= λ a. climb s upto room readers t l at a.0 a.1)) (le-ltb room (nesting e) h)
    ∙ ap (λ x. read_behind s readers at e i (kind s i) >>= λ a. climb s upto room readers x l at a.0 a.1) (sym back)

-- a mark other than these is an operator between two operands, an assignment, or `++` or `--`
pub further_operator : (s : Source) (readers : Readers) (at : ℕ) (e : Tree) (i : ℕ) (mark : Mark) → mark ≢ m.Dot → mark ≢ m.OpenBracket → mark ≢ m.OpenParenthesis → mark ≢ m.Question → mark ≢ m.BarBar → mark ≢ m.AmpersandAmpersand →
    read_further s readers at e i mark ≡ read_operator readers at e i (infix_number mark) (assignment mark) (bump_by mark)
further_operator s readers at e i m.Dot a b c d f g = absurd (a refl)
further_operator s readers at e i m.OpenBracket a b c d f g = absurd (b refl)
further_operator s readers at e i m.OpenParenthesis a b c d f g = absurd (c refl)
further_operator s readers at e i m.Question a b c d f g = absurd (d refl)
further_operator s readers at e i m.BarBar a b c d f g = absurd (f refl)
further_operator s readers at e i m.AmpersandAmpersand a b c d f g = absurd (g refl)
further_operator s readers at e i mark a b c d f g = refl

-- where the first of two readings fails, both do
pub fails_first : {A B : Type 0} (why : Unread) (read : Option A) (f : A → Option B) → Fails why read → Fails why (read >>= f)
fails_first (Syntax at) read f h = ap (λ r. r >>= f) h
fails_first NoMemory read f h = tt

-- what the exit of a `?` hands on
pub handed : {X Y : Type 0} (view : X → Y) (result : Result X Unread) (why : Unread) (read : Option Y) → IsErrAnd result (λ given. given ≡ why) → Fails why read → Gives view result read
handed view (Ok v) why read h f = absurd h
handed view (Err given) why read h f = subst (λ w. Fails w read) (sym h) f

pub unwind_at : (s : Source) (upto room : ℕ) (readers : Readers) (p l from : ℕ) (e : Tree) (i : ℕ) → 0 < p →
    unwind s upto room readers p l from e i ≡ (climb s upto room readers (room + 1) 1 (place s (from + p)) e i >>= λ a. close_at s a.1 >>= λ j. unwind s upto room readers (p - 1) l from a.0 j)
unfolding unwind
unwind_at s upto room readers zero l from e i h = absurd (omega arith)
unwind_at s upto room readers (suc p) l from e i h = let r : suc p - 1 ≡ p = omega arith in let q : room + 1 ≡ suc room = omega arith in rw (r, q) refl

-- 2. The knot.

pub expression_none : (s : Source) (upto n l i : ℕ) → n ≡ 0 → expression s upto n l i ≡ None
unfolding expression
expression_none s upto n l i h = ap (λ x. expression s upto x l i) h

pub expression_at : (s : Source) (upto n l i : ℕ) → 0 < n → expression s upto n l i ≡ read_operand s upto (n - 1) (expression_readers s upto (n - 1)) l i
unfolding expression
expression_at s upto zero l i h = absurd (omega arith)
expression_at s upto (suc n) l i h = let e : suc n - 1 ≡ n = omega arith in ap (λ x. read_operand s upto x (expression_readers s upto x) l i) (sym e)

pub statement_none : (s : Source) (n : ℕ) (f l : Bool) (i : ℕ) → n ≡ 0 → statement s n f l i ≡ None
unfolding expression
statement_none s n f l i h = ap (λ x. statement s x f l i) h

pub statement_at : (s : Source) (n : ℕ) (f l : Bool) (i : ℕ) → 0 < n → statement s n f l i ≡ read_statement s (n - 1) (expression_readers s (length s.tokens) (n - 1)) f l i (kind s i)
unfolding expression
statement_at s zero f l i h = absurd (omega arith)
statement_at s (suc n) f l i h = let e : suc n - 1 ≡ n = omega arith in ap (λ x. read_statement s x (expression_readers s (length s.tokens) x) f l i (kind s i)) (sym e)

pub statement_whole : (s t : Source) (upto n : ℕ) (f l : Bool) (i : ℕ) → t ≡ s → upto ≡ length s.tokens → 0 < n →
    read_statement t (n - 1) (expression_readers t upto (n - 1)) f l i (kind t i) ≡ statement s n f l i
statement_whole s t upto n f l i e q h =
    ap (λ x. read_statement x (n - 1) (expression_readers x upto (n - 1)) f l i (kind x i)) e
    ∙ ap (λ x. read_statement s (n - 1) (expression_readers s x (n - 1)) f l i (kind s i)) q
    ∙ sym (statement_at s n f l i h)
