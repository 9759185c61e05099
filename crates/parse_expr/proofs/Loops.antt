-- The readings with one more turn left.
use Rattle.std.proofs.Common.{◌≡◌, ℕ, zero, suc, ◌+◌, ◌-◌, ◌<◌, List, [], ◌∷◌, ◌++◌, refl, ap, sym, ◌∙◌, subst, arith}
use Rattle.std.specs.Prelude.{Bool, true, false, not, ◌&&◌, if◌then◌else◌, Some, None}
use Rattle.sts_syntax.specs.Annotations.{Annotation, ListOf}
use Rattle.sts_syntax.specs.Trees.{Parameter, Tree, Trees, Statement, Statements, Declaration, Declarations}
use Rattle.sts_lexer.specs.declared.marks.Mark.TheVariants as m
use Rattle.sts_grammar.specs.Source.{Source, kind, is_mark}
use Rattle.sts_grammar.specs.Found.{Found, ◌>>=◌, when, closes}
use Rattle.sts_grammar.specs.ReadHeadings.{wrap_type, is_pair, read_parameter, parameters_rest, read_more_parameters, begins_arrow}
use Rattle.sts_grammar.specs.ReadExpressions.{put, put_statement, items_rest, read_items, read_statements, opened}
use Rattle.sts_grammar.specs.ReadStatements.{put_declaration, read_declaration, declarations_rest, read_declarations}
use Rattle.parse_expr.specs.Gives.{Fails}
use Rattle.parse_expr.specs.declared.reader.Unread.{Unread}
use Rattle.parse_expr.proofs.Turns.{fails_first}

pub wrap_at : (s : Source) (n : ℕ) (t : Annotation) (i : ℕ) → 0 < n → wrap_type s n t i ≡ (if is_pair s i then wrap_type s (n - 1) (ListOf t) (i + 2) else (t, i))
unfolding wrap_type
wrap_at s zero t i h = absurd (omega arith)
wrap_at s (suc n) t i h = let e : suc n - 1 ≡ n = omega arith in rw e refl

pub parameters_at : (s : Source) (n : ℕ) (all : List Parameter) (i : ℕ) → 0 < n →
    read_more_parameters s n all i ≡ (read_parameter s i >>= λ p. parameters_rest (read_more_parameters s (n - 1)) (all ++ p.0 ∷ []) p.1 (kind s p.1))
unfolding read_more_parameters
parameters_at s zero all i h = absurd (omega arith)
parameters_at s (suc n) all i h = let e : suc n - 1 ≡ n = omega arith in rw e refl

pub opened_at : (s : Source) (n i : ℕ) → 0 < n →
    opened s n i ≡ (if is_mark m.OpenParenthesis (kind s i) && not (begins_arrow s i) then suc (opened s (n - 1) (i + 1)) else 0)
unfolding opened
opened_at s zero i h = absurd (omega arith)
opened_at s (suc n) i h = let e : suc n - 1 ≡ n = omega arith in rw e refl

pub items_at : (s : Source) (square : Bool) (read : ℕ → Found Tree) (n : ℕ) (all : Trees) (i : ℕ) → 0 < n →
    read_items s square read n all i ≡ (read i >>= λ a. items_rest square (read_items s square read (n - 1)) (put all a.0) a.1 (kind s a.1))
unfolding read_items
items_at s square read zero all i h = absurd (omega arith)
items_at s square read (suc n) all i h = let e : suc n - 1 ≡ n = omega arith in rw e refl

pub statements_at : (s : Source) (read : ℕ → Found Statement) (n : ℕ) (all : Statements) (i : ℕ) → 0 < n →
    read_statements s read n all i ≡ (if is_mark m.CloseBrace (kind s i) then Some (all, i + 1) else (read i >>= λ a. read_statements s read (n - 1) (put_statement all a.0) a.1))
unfolding read_statements
statements_at s read zero all i h = absurd (omega arith)
statements_at s read (suc n) all i h = let e : suc n - 1 ≡ n = omega arith in rw e refl

pub declarations_at : (s : Source) (read : ℕ → Found Tree) (fixed : Bool) (n : ℕ) (all : Declarations) (i : ℕ) → 0 < n →
    read_declarations s read fixed n all i ≡ (read_declaration s read fixed i >>= λ a. declarations_rest (read_declarations s read fixed (n - 1)) (put_declaration all a.0) a.1 (is_mark m.Comma (kind s a.1)))
unfolding read_declarations
declarations_at s read fixed zero all i h = absurd (omega arith)
declarations_at s read fixed (suc n) all i h = let e : suc n - 1 ≡ n = omega arith in rw e refl

-- 2. The same by what stands there.

pub items_closed : (s : Source) (square : Bool) (read : ℕ → Found Tree) (n : ℕ) (all : Trees) (i : ℕ) (a : Tree × ℕ) → 0 < n → read i ≡ Some a → closes square (kind s a.1) ≡ true →
    read_items s square read n all i ≡ Some (put all a.0, a.1 + 1)
items_closed s square read n all i a h e c =
    items_at s square read n all i h
    ∙ ap (λ (r : Found Tree). r >>= λ b. items_rest square (read_items s square read (n - 1)) (put all b.0) b.1 (kind s b.1)) e
    ∙ ap (λ (t : Bool). if t then Some (put all a.0, a.1 + 1) else when (is_mark m.Comma (kind s a.1)) (read_items s square read (n - 1) (put all a.0) (a.1 + 1))) c

pub items_open : (s : Source) (square : Bool) (read : ℕ → Found Tree) (n : ℕ) (all : Trees) (i : ℕ) (a : Tree × ℕ) → 0 < n → read i ≡ Some a → closes square (kind s a.1) ≡ false →
    read_items s square read n all i ≡ when (is_mark m.Comma (kind s a.1)) (read_items s square read (n - 1) (put all a.0) (a.1 + 1))
items_open s square read n all i a h e c =
    items_at s square read n all i h
    ∙ ap (λ (r : Found Tree). r >>= λ b. items_rest square (read_items s square read (n - 1)) (put all b.0) b.1 (kind s b.1)) e
    ∙ ap (λ (t : Bool). if t then Some (put all a.0, a.1 + 1) else when (is_mark m.Comma (kind s a.1)) (read_items s square read (n - 1) (put all a.0) (a.1 + 1))) c

pub items_fail : (s : Source) (square : Bool) (read : ℕ → Found Tree) (n : ℕ) (all : Trees) (i : ℕ) (why : Unread) → 0 < n → Fails why (read i) → Fails why (read_items s square read n all i)
items_fail s square read n all i why h f =
    subst (λ (r : Found Trees). Fails why r) (sym (items_at s square read n all i h))
    (fails_first why (read i) (λ a. items_rest square (read_items s square read (n - 1)) (put all a.0) a.1 (kind s a.1)) f)

pub items_over : (s : Source) (square : Bool) (read : ℕ → Found Tree) (n : ℕ) (all : Trees) (i : ℕ) → n ≡ 0 → read_items s square read n all i ≡ None
unfolding read_items
items_over s square read n all i e = ap (λ k. read_items s square read k all i) e

pub statements_closed : (s : Source) (read : ℕ → Found Statement) (n : ℕ) (all : Statements) (i : ℕ) → 0 < n → is_mark m.CloseBrace (kind s i) ≡ true →
    read_statements s read n all i ≡ Some (all, i + 1)
statements_closed s read n all i h c =
    statements_at s read n all i h
    ∙ ap (λ (t : Bool). if t then Some (all, i + 1) else (read i >>= λ a. read_statements s read (n - 1) (put_statement all a.0) a.1)) c

pub statements_open : (s : Source) (read : ℕ → Found Statement) (n : ℕ) (all : Statements) (i : ℕ) → 0 < n → is_mark m.CloseBrace (kind s i) ≡ false →
    read_statements s read n all i ≡ (read i >>= λ a. read_statements s read (n - 1) (put_statement all a.0) a.1)
statements_open s read n all i h c =
    statements_at s read n all i h
    ∙ ap (λ (t : Bool). if t then Some (all, i + 1) else (read i >>= λ a. read_statements s read (n - 1) (put_statement all a.0) a.1)) c

pub statements_fail : (s : Source) (read : ℕ → Found Statement) (n : ℕ) (all : Statements) (i : ℕ) (why : Unread) → 0 < n → is_mark m.CloseBrace (kind s i) ≡ false → Fails why (read i) → Fails why (read_statements s read n all i)
statements_fail s read n all i why h c f =
    subst (λ (r : Found Statements). Fails why r) (sym (statements_open s read n all i h c)) (fails_first why (read i) (λ a. read_statements s read (n - 1) (put_statement all a.0) a.1) f)

pub statements_over : (s : Source) (read : ℕ → Found Statement) (n : ℕ) (all : Statements) (i : ℕ) → n ≡ 0 → read_statements s read n all i ≡ None
unfolding read_statements
statements_over s read n all i e = ap (λ k. read_statements s read k all i) e

pub declarations_next : (s : Source) (read : ℕ → Found Tree) (fixed : Bool) (n : ℕ) (all : Declarations) (i : ℕ) (a : Declaration × ℕ) (t : Bool) → 0 < n → read_declaration s read fixed i ≡ Some a → is_mark m.Comma (kind s a.1) ≡ t →
    read_declarations s read fixed n all i ≡ declarations_rest (read_declarations s read fixed (n - 1)) (put_declaration all a.0) a.1 t
declarations_next s read fixed n all i a t h e c =
    declarations_at s read fixed n all i h
    ∙ ap (λ (r : Found Declaration). r >>= λ b. declarations_rest (read_declarations s read fixed (n - 1)) (put_declaration all b.0) b.1 (is_mark m.Comma (kind s b.1))) e
    ∙ ap (λ (t : Bool). declarations_rest (read_declarations s read fixed (n - 1)) (put_declaration all a.0) a.1 t) c

pub declarations_fail : (s : Source) (read : ℕ → Found Tree) (fixed : Bool) (n : ℕ) (all : Declarations) (i : ℕ) (why : Unread) → 0 < n → Fails why (read_declaration s read fixed i) → Fails why (read_declarations s read fixed n all i)
declarations_fail s read fixed n all i why h f =
    subst (λ (r : Found Declarations). Fails why r) (sym (declarations_at s read fixed n all i h))
    (fails_first why (read_declaration s read fixed i) (λ a. declarations_rest (read_declarations s read fixed (n - 1)) (put_declaration all a.0) a.1 (is_mark m.Comma (kind s a.1))) f)

pub declarations_over : (s : Source) (read : ℕ → Found Tree) (fixed : Bool) (n : ℕ) (all : Declarations) (i : ℕ) → n ≡ 0 → read_declarations s read fixed n all i ≡ None
unfolding read_declarations
declarations_over s read fixed n all i e = ap (λ k. read_declarations s read fixed k all i) e
