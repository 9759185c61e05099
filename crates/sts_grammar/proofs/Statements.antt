-- Statements are read where their parts are.
use Rattle.std.proofs.Common.{◌≡◌, ◌≢◌, ℕ, zero, suc, ◌+◌, ◌-◌, ◌<◌, ◌≤◌, refl, sym, ap, ◌∙◌, arith, inl, inr, lt-ltb, le-ltb}
use Rattle.std.specs.Prelude.{Bool, true, false, not, ◌&&◌, ◌||◌, nat_lt, ◌⊎◌, Option, Some, None, IsTrue, if◌then◌else◌, slice_get}
use lib.Chars.{codes}
use Rattle.std.proofs.lemmas.Bool.{false≢true, false_from_ne_true, and_parts, not-true, or_parts, ltb-false}
use Rattle.sts_lexer.specs.declared.marks.Mark.{Mark}
use Rattle.sts_lexer.specs.declared.marks.Mark.TheVariants as m
use Rattle.sts_lexer.specs.declared.words.Word.TheVariants as w
use Rattle.sts_lexer.specs.declared.token.TokenKind.{TokenKind}
use Rattle.sts_lexer.specs.declared.token.TokenKind.TheVariants as k
use Rattle.sts_syntax.specs.Annotations.{Annotation}
use Rattle.sts_syntax.specs.Trees.{Tree, OptionalTree, absent, present, Statement, Let, IfOnly, IfElse, While, DoWhile, For, ForOf, Return, Plain, OptionalStatement, omitted, written, Declaration, Declare, Declarations, ended, next}
use Rattle.sts_syntax.specs.Nesting.{nesting, deepest_declaration}
use Rattle.sts_grammar.specs.Source.{Source, kind, broken, place, IsMark, IsWord, IsName, IsSpelled, is_mark, is_word}
use Rattle.sts_grammar.specs.Headings.{HasType}
use Rattle.sts_grammar.specs.Ends.{binds, kind_binds, continues, declaration_continues, declarations_continue, may_end, Ends}
use Rattle.sts_grammar.specs.Operands.{IsLet, BeginsPlain}
use Rattle.sts_grammar.specs.Found.{Found, ◌>>=◌, when, name_of, let_of, is_of, closes}
use Rattle.sts_grammar.specs.ReadHeadings.{is_pair, read_optional_type}
use Rattle.sts_grammar.specs.ReadExpressions.{Readers}
use Rattle.sts_grammar.specs.ReadStatements.{put_declaration, read_end, read_condition, read_initialiser, read_declaration, declarations_rest, read_declarations, read_let, read_optional, read_first, read_optional_first, read_step, read_three, read_for_of, of_head, read_for_by, read_for, read_else, read_if, skip_semicolon, read_do, read_returned, read_plain, read_let_statement, read_while, read_statement}
use Rattle.sts_grammar.proofs.Tokens.{true_false, is_true, and_no, mark_is, word_is, has_bytes_yes}
use Rattle.sts_grammar.proofs.Headings.{Stops, stops_at, optional_type_reads}
use Rattle.sts_grammar.proofs.Begins.{begins, binds_mark}

-- 1. What begins an expression closes nothing.

pub begins_not_closed : (t : TokenKind) → begins t ≡ true → is_mark m.CloseParenthesis t ≡ false
begins_not_closed (k.Mark m.CloseParenthesis) h = absurd (false≢true h)
begins_not_closed _ h = refl

begins_not_bracket : (t : TokenKind) → begins t ≡ true → is_mark m.CloseBracket t ≡ false
begins_not_bracket (k.Mark m.CloseBracket) h = absurd (false≢true h)
begins_not_bracket _ h = refl

pub begins_not_closing : (square : Bool) (t : TokenKind) → begins t ≡ true → closes square t ≡ false
begins_not_closing true t h = begins_not_bracket t h
begins_not_closing false t h = begins_not_closed t h

pub begins_not_brace : (t : TokenKind) → begins t ≡ true → is_mark m.CloseBrace t ≡ false
begins_not_brace (k.Mark m.CloseBrace) h = absurd (false≢true h)
begins_not_brace _ h = refl

pub begins_not_semicolon : (t : TokenKind) → begins t ≡ true → is_mark m.Semicolon t ≡ false
begins_not_semicolon (k.Mark m.Semicolon) h = absurd (false≢true h)
begins_not_semicolon _ h = refl

begins_not_let : (t : TokenKind) → begins t ≡ true → let_of t ≡ None
begins_not_let (k.Word w.Let entry) h = absurd (false≢true h)
begins_not_let (k.Word w.Const entry) h = absurd (false≢true h)
begins_not_let _ h = refl

not_end_by : (t : TokenKind) → begins t ≡ true → may_end t false false ≡ false
not_end_by (k.Mark m.CloseBrace) h = absurd (false≢true h)
not_end_by k.Finish h = absurd (false≢true h)
not_end_by _ h = refl

-- an expression on the same line doesn't end a statement
no_end : (s : Source) (i : ℕ) → begins (kind s i) ≡ true → broken s i ≡ false → read_end s i ≡ None
unfolding read_end
no_end s i b u =
    ap (λ x. if x then Some (i + 1) else when (may_end (kind s i) (broken s i) false) (Some i)) (begins_not_semicolon (kind s i) b)
    ∙ ap (λ x. when (may_end (kind s i) x false) (Some i)) u
    ∙ ap (λ x. when x (Some i)) (not_end_by (kind s i) b)

pub let_is : (s : Source) (fixed : Bool) (i : ℕ) → IsLet s fixed i → let_of (kind s i) ≡ Some fixed
let_is s false i h = ap let_of h.1
let_is s true i h = ap let_of h.1

let_not_semicolon : (s : Source) (fixed : Bool) (i : ℕ) → IsLet s fixed i → is_mark m.Semicolon (kind s i) ≡ false
let_not_semicolon s false i h = ap (is_mark m.Semicolon) h.1
let_not_semicolon s true i h = ap (is_mark m.Semicolon) h.1

-- 2. Conditions, `if` and `while`.

pub condition_reads : (s : Source) (read : ℕ → Found Tree) (c : Tree) (i o n : ℕ) → IsMark s i m.OpenParenthesis → o ≡ i + 1 → read o ≡ Some (c, n) → IsMark s n m.CloseParenthesis → read_condition s read i ≡ Some (c, n + 1)
unfolding read_condition
condition_reads s read c i o n mk e h close =
    ap (λ x. when (is_mark m.OpenParenthesis x) (read (i + 1) >>= λ c. when (is_mark m.CloseParenthesis (kind s c.1)) (Some (c.0, c.1 + 1)))) mk
    ∙ ap (λ x. read x >>= λ c. when (is_mark m.CloseParenthesis (kind s c.1)) (Some (c.0, c.1 + 1))) (sym e)
    ∙ ap (λ r. r >>= λ c. when (is_mark m.CloseParenthesis (kind s c.1)) (Some (c.0, c.1 + 1))) h
    ∙ ap (λ x. when (is_mark m.CloseParenthesis x) (Some (c, n + 1))) close

not_else : (s : Source) (j : ℕ) → ¬ (IsWord s j w.Else) → is_word w.Else (kind s j) ≡ false
not_else s j h = false_from_ne_true (is_word w.Else (kind s j)) (λ e. h (word_is s j w.Else (kind s j) refl e))

pub if_only_reads : (s : Source) (readers : Readers) (f l : Bool) (at : ℕ) (c : Tree) (a : Statement) (i n j : ℕ) → read_condition s (readers.expr 1) i ≡ Some (c, n) → readers.stmt f l n ≡ Some (a, j) → ¬ (IsWord s j w.Else) → read_if s readers f l at i ≡ Some (IfOnly at c a, j)
unfolding read_if
if_only_reads s readers f l at c a i n j h g e =
    ap (λ r. r >>= λ c. readers.stmt f l c.1 >>= λ a. read_else (readers.stmt f l) at c.0 a.0 a.1 (is_word w.Else (kind s a.1))) h
    ∙ ap (λ r. r >>= λ a. read_else (readers.stmt f l) at c a.0 a.1 (is_word w.Else (kind s a.1))) g
    ∙ ap (read_else (readers.stmt f l) at c a j) (not_else s j e)

pub if_else_reads : (s : Source) (readers : Readers) (f l : Bool) (at : ℕ) (c : Tree) (a b : Statement) (i n o j : ℕ) → read_condition s (readers.expr 1) i ≡ Some (c, n) → readers.stmt f l n ≡ Some (a, o) → IsWord s o w.Else → readers.stmt f l (o + 1) ≡ Some (b, j) → read_if s readers f l at i ≡ Some (IfElse at c a b, j)
unfolding read_if
if_else_reads s readers f l at c a b i n o j h g e x =
    ap (λ r. r >>= λ c. readers.stmt f l c.1 >>= λ a. read_else (readers.stmt f l) at c.0 a.0 a.1 (is_word w.Else (kind s a.1))) h
    ∙ ap (λ r. r >>= λ a. read_else (readers.stmt f l) at c a.0 a.1 (is_word w.Else (kind s a.1))) g
    ∙ ap (λ y. read_else (readers.stmt f l) at c a o (is_word w.Else y)) e.1
    ∙ ap (λ r. r >>= λ b. Some (IfElse at c a b.0, b.1)) x

pub while_reads : (s : Source) (readers : Readers) (f : Bool) (at : ℕ) (c : Tree) (a : Statement) (i n j : ℕ) → read_condition s (readers.expr 1) i ≡ Some (c, n) → readers.stmt f true n ≡ Some (a, j) → read_while s readers f at i ≡ Some (While at c a, j)
unfolding read_while
while_reads s readers f at c a i n j h g =
    ap (λ r. r >>= λ c. readers.stmt f true c.1 >>= λ a. Some (While at c.0 a.0, a.1)) h ∙ ap (λ r. r >>= λ a. Some (While at c a.0, a.1)) g

pub do_reads : (s : Source) (readers : Readers) (f : Bool) (at : ℕ) (a : Statement) (c : Tree) (i n o : ℕ) → readers.stmt f true i ≡ Some (a, n) → IsWord s n w.While → read_condition s (readers.expr 1) (n + 1) ≡ Some (c, o) → read_do s readers f at i ≡ Some (DoWhile at a c, skip_semicolon s o)
unfolding read_do
do_reads s readers f at a c i n o h e g =
    ap (λ r. r >>= λ a. when (is_word w.While (kind s a.1)) (read_condition s (readers.expr 1) (a.1 + 1) >>= λ c. Some (DoWhile at a.0 c.0, skip_semicolon s c.1))) h
    ∙ ap (λ x. when (is_word w.While x) (read_condition s (readers.expr 1) (n + 1) >>= λ c. Some (DoWhile at a c.0, skip_semicolon s c.1))) e.1
    ∙ ap (λ r. r >>= λ c. Some (DoWhile at a c.0, skip_semicolon s c.1)) g

pub skips : (s : Source) (o j : ℕ) → ((IsMark s (o + 1) m.Semicolon × (j ≡ o + 2)) ⊎ (¬ (IsMark s (o + 1) m.Semicolon) × (j ≡ o + 1))) → skip_semicolon s (o + 1) ≡ j
skips s o j (inl h) =
    let e : o + 1 + 1 ≡ j = omega (arith, h.1) in ap (λ x. if is_mark m.Semicolon x then o + 1 + 1 else o + 1) h.0 ∙ e
skips s o j (inr h) =
    ap (λ x. if x then o + 1 + 1 else o + 1) (false_from_ne_true (is_mark m.Semicolon (kind s (o + 1))) (λ e. h.0 (mark_is m.Semicolon (kind s (o + 1)) e))) ∙ sym h.1

-- 3. `for`.

bind_none : {A B : Type 0} (r : Option A) (f : A → Option B) → ((x : A) → f x ≡ None) → (r >>= f) ≡ None
bind_none None f h = refl
bind_none (Some x) f h = h x

pub of_head_yes : (s : Source) (fixed : Bool) (name i : ℕ) → IsLet s fixed i → IsName s (i + 1) name → IsSpelled s (i + 2) (codes "of") → of_head s i ≡ Some (fixed, name)
unfolding of_head
of_head_yes s fixed name i h n o =
    ap (λ r. r >>= λ fixed. name_of (kind s (i + 1)) >>= λ name. when (is_of s (kind s (i + 2))) (Some (fixed, name))) (let_is s fixed i h)
    ∙ ap (λ x. name_of x >>= λ name. when (is_of s (kind s (i + 2))) (Some (fixed, name))) n
    ∙ ap (λ x. when (is_of s x) (Some (fixed, name))) o.1
    ∙ ap (λ x. when x (Some (fixed, name))) (has_bytes_yes (slice_get s.names o.0) (codes "of") o.2)

of_head_no_of : (s : Source) (i : ℕ) → is_of s (kind s (i + 2)) ≡ false → of_head s i ≡ None
unfolding of_head
of_head_no_of s i h =
    bind_none (let_of (kind s i)) _ (λ fixed. bind_none (name_of (kind s (i + 1))) _ (λ name. ap (λ x. when x (Some (fixed, name))) h))

of_head_no_let : (s : Source) (i : ℕ) → let_of (kind s i) ≡ None → of_head s i ≡ None
unfolding of_head
of_head_no_let s i h =
    ap (λ r. r >>= λ fixed. name_of (kind s (i + 1)) >>= λ name. when (is_of s (kind s (i + 2))) (Some (fixed, name))) h

pub for_of_reads : (s : Source) (room : ℕ) (readers : Readers) (f : Bool) (at : ℕ) (fixed : Bool) (name : ℕ) (list : Tree) (a : Statement) (i o n j : ℕ) → IsMark s i m.OpenParenthesis → of_head s (i + 1) ≡ Some (fixed, name) → o ≡ i + 1 + 3 → readers.expr 1 o ≡ Some (list, n) → IsMark s n m.CloseParenthesis → readers.stmt f true (n + 1) ≡ Some (a, j) → read_for s room readers f at i ≡ Some (ForOf at fixed name list a, j)
unfolding read_for read_for_of
for_of_reads s room readers f at fixed name list a i o n j mk h e x close g =
    ap (λ y. when (is_mark m.OpenParenthesis y) (read_for_by s room readers f at (i + 1) (of_head s (i + 1)))) mk
    ∙ ap (read_for_by s room readers f at (i + 1)) h
    ∙ ap (λ y. readers.expr 1 y >>= λ list. when (is_mark m.CloseParenthesis (kind s list.1)) (readers.stmt f true (list.1 + 1) >>= λ a. Some (ForOf at fixed name list.0 a.0, a.1))) (sym e)
    ∙ ap (λ r. r >>= λ list. when (is_mark m.CloseParenthesis (kind s list.1)) (readers.stmt f true (list.1 + 1) >>= λ a. Some (ForOf at fixed name list.0 a.0, a.1))) x
    ∙ ap (λ y. when (is_mark m.CloseParenthesis y) (readers.stmt f true (n + 1) >>= λ a. Some (ForOf at fixed name list a.0, a.1))) close
    ∙ ap (λ r. r >>= λ a. Some (ForOf at fixed name list a.0, a.1)) g

step_reads : (s : Source) (readers : Readers) (f : Bool) (at : ℕ) (first : OptionalStatement) (c step : OptionalTree) (a : Statement) (i p j : ℕ) → read_optional (readers.expr 1) (is_mark m.CloseParenthesis (kind s i)) i ≡ Some (step, p) → IsMark s p m.CloseParenthesis → readers.stmt f true (p + 1) ≡ Some (a, j) → read_step s readers f at first c i ≡ Some (For at first c step a, j)
unfolding read_step
step_reads s readers f at first c step a i p j h mk g =
    ap (λ r. r >>= λ step. when (is_mark m.CloseParenthesis (kind s step.1)) (readers.stmt f true (step.1 + 1) >>= λ a. Some (For at first c step.0 a.0, a.1))) h
    ∙ ap (λ x. when (is_mark m.CloseParenthesis x) (readers.stmt f true (p + 1) >>= λ a. Some (For at first c step a.0, a.1))) mk
    ∙ ap (λ r. r >>= λ a. Some (For at first c step a.0, a.1)) g

three_reads : (s : Source) (room : ℕ) (readers : Readers) (f : Bool) (at : ℕ) (first : OptionalStatement) (c step : OptionalTree) (a : Statement) (i n o p j : ℕ) → read_optional_first s room (readers.expr 1) i ≡ Some (first, n) → IsMark s n m.Semicolon → read_optional (readers.expr 1) (is_mark m.Semicolon (kind s (n + 1))) (n + 1) ≡ Some (c, o) → IsMark s o m.Semicolon → read_optional (readers.expr 1) (is_mark m.CloseParenthesis (kind s (o + 1))) (o + 1) ≡ Some (step, p) → IsMark s p m.CloseParenthesis → readers.stmt f true (p + 1) ≡ Some (a, j) → read_three s room readers f at i ≡ Some (For at first c step a, j)
unfolding read_three
three_reads s room readers f at first c step a i n o p j h mk1 x mk2 y mk3 g =
    ap (λ r. r >>= λ first. when (is_mark m.Semicolon (kind s first.1)) (read_optional (readers.expr 1) (is_mark m.Semicolon (kind s (first.1 + 1))) (first.1 + 1) >>= λ c. when (is_mark m.Semicolon (kind s c.1)) (read_step s readers f at first.0 c.0 (c.1 + 1)))) h
    ∙ ap (λ z. when (is_mark m.Semicolon z) (read_optional (readers.expr 1) (is_mark m.Semicolon (kind s (n + 1))) (n + 1) >>= λ c. when (is_mark m.Semicolon (kind s c.1)) (read_step s readers f at first c.0 (c.1 + 1)))) mk1
    ∙ ap (λ r. r >>= λ c. when (is_mark m.Semicolon (kind s c.1)) (read_step s readers f at first c.0 (c.1 + 1))) x
    ∙ ap (λ z. when (is_mark m.Semicolon z) (read_step s readers f at first c (o + 1))) mk2
    ∙ step_reads s readers f at first c step a (o + 1) p j y mk3 g

pub for_reads : (s : Source) (room : ℕ) (readers : Readers) (f : Bool) (at : ℕ) (first : OptionalStatement) (c step : OptionalTree) (a : Statement) (i q n o p j : ℕ) → IsMark s i m.OpenParenthesis → q ≡ i + 1 → of_head s q ≡ None → read_optional_first s room (readers.expr 1) q ≡ Some (first, n) → IsMark s n m.Semicolon → read_optional (readers.expr 1) (is_mark m.Semicolon (kind s (n + 1))) (n + 1) ≡ Some (c, o) → IsMark s o m.Semicolon → read_optional (readers.expr 1) (is_mark m.CloseParenthesis (kind s (o + 1))) (o + 1) ≡ Some (step, p) → IsMark s p m.CloseParenthesis → readers.stmt f true (p + 1) ≡ Some (a, j) → read_for s room readers f at i ≡ Some (For at first c step a, j)
unfolding read_for
for_reads s room readers f at first c step a i q n o p j mk e head h mk1 x mk2 y mk3 g =
    ap (λ z. when (is_mark m.OpenParenthesis z) (read_for_by s room readers f at (i + 1) (of_head s (i + 1)))) mk
    ∙ ap (λ z. read_for_by s room readers f at z (of_head s z)) (sym e)
    ∙ ap (read_for_by s room readers f at q) head
    ∙ three_reads s room readers f at first c step a q n o p j h mk1 x mk2 y mk3 g

-- what stands first in a `for`
pub first_omitted : (s : Source) (room : ℕ) (read : ℕ → Found Tree) (i n : ℕ) → i ≡ n → IsMark s n m.Semicolon → read_optional_first s room read i ≡ Some (omitted, n)
unfolding read_optional_first
first_omitted s room read i n e mk =
    ap (λ x. if is_mark m.Semicolon (kind s x) then Some (omitted, x) else read_first s room read x (let_of (kind s x))) e
    ∙ ap (λ x. if is_mark m.Semicolon x then Some (omitted, n) else read_first s room read n (let_of (kind s n))) mk

pub first_let : (s : Source) (room : ℕ) (read : ℕ → Found Tree) (fixed : Bool) (each : Declarations) (i n : ℕ) → IsLet s fixed i → read_let s read fixed (i + 1) ≡ Some (each, n) → deepest_declaration each < room → read_optional_first s room read i ≡ Some (written (Let (place s i) fixed each), n)
unfolding read_optional_first
first_let s room read fixed each i n h r fit =
    ap (λ x. if x then Some (omitted, i) else read_first s room read i (let_of (kind s i))) (let_not_semicolon s fixed i h)
    ∙ ap (read_first s room read i) (let_is s fixed i h)
    ∙ ap (λ r. r >>= λ each. when (nat_lt (deepest_declaration each.0) room) (Some (written (Let (place s i) fixed each.0), each.1))) r
    ∙ ap (λ x. when x (Some (written (Let (place s i) fixed each), n))) (lt-ltb (deepest_declaration each) room fit)

pub first_plain : (s : Source) (room : ℕ) (read : ℕ → Found Tree) (a : Tree) (i n : ℕ) → begins (kind s i) ≡ true → read i ≡ Some (a, n) → nesting a < room → read_optional_first s room read i ≡ Some (written (Plain (place s i) a), n)
unfolding read_optional_first
first_plain s room read a i n b r fit =
    ap (λ x. if x then Some (omitted, i) else read_first s room read i (let_of (kind s i))) (begins_not_semicolon (kind s i) b)
    ∙ ap (read_first s room read i) (begins_not_let (kind s i) b)
    ∙ ap (λ r. r >>= λ a. when (nat_lt (nesting a.0) room) (Some (written (Plain (place s i) a.0), a.1))) r
    ∙ ap (λ x. when x (Some (written (Plain (place s i) a), n))) (lt-ltb (nesting a) room fit)

-- no `of` stands behind the first name, as what stands there is a mark
pub head_let : (s : Source) (i : ℕ) (mark : Mark) → IsMark s (i + 2) mark → of_head s i ≡ None
head_let s i mark h = of_head_no_of s i (ap (is_of s) h)

pub head_plain : (s : Source) (i : ℕ) → begins (kind s i) ≡ true → of_head s i ≡ None
head_plain s i b = of_head_no_let s i (begins_not_let (kind s i) b)

pub head_omitted : (s : Source) (i : ℕ) → IsMark s i m.Semicolon → of_head s i ≡ None
head_omitted s i h = of_head_no_let s i (ap let_of h)

-- 4. Expressions as statements, and `return`.

plain_is : (s : Source) (room : ℕ) (readers : Readers) (f l : Bool) (i : ℕ) (t : TokenKind) → begins t ≡ true → ((entry : ℕ) → t ≢ k.Word w.Function entry) → read_statement s room readers f l i t ≡ read_plain s readers i
plain_is s room readers f l i (k.Mark m.OpenBrace) b g = absurd (false≢true b)
plain_is s room readers f l i (k.Mark m.Semicolon) b g = absurd (false≢true b)
plain_is s room readers f l i (k.Word w.Let entry) b g = absurd (false≢true b)
plain_is s room readers f l i (k.Word w.Const entry) b g = absurd (false≢true b)
plain_is s room readers f l i (k.Word w.If entry) b g = absurd (false≢true b)
plain_is s room readers f l i (k.Word w.While entry) b g = absurd (false≢true b)
plain_is s room readers f l i (k.Word w.Do entry) b g = absurd (false≢true b)
plain_is s room readers f l i (k.Word w.For entry) b g = absurd (false≢true b)
plain_is s room readers f l i (k.Word w.Return entry) b g = absurd (false≢true b)
plain_is s room readers f l i (k.Word w.Break entry) b g = absurd (false≢true b)
plain_is s room readers f l i (k.Word w.Continue entry) b g = absurd (false≢true b)
plain_is s room readers f l i (k.Word w.Function entry) b g = absurd (g entry refl)
plain_is s room readers f l i (k.Word w.Class entry) b g = absurd (false≢true b)
plain_is s room readers f l i _ b g = refl

pub plain_reads : (s : Source) (room : ℕ) (readers : Readers) (f l : Bool) (a : Tree) (i n j : ℕ) → BeginsPlain s i → begins (kind s i) ≡ true → readers.expr 1 i ≡ Some (a, n) → read_end s n ≡ Some j → read_statement s room readers f l i (kind s i) ≡ Some (Plain (place s i) a, j)
unfolding read_plain
plain_reads s room readers f l a i n j g b h e =
    plain_is s room readers f l i (kind s i) b (λ entry q. g.no_function (entry, q))
    ∙ ap (λ r. r >>= λ a. read_end s a.1 >>= λ j. Some (Plain (place s i) a.0, j)) h
    ∙ ap (λ r. r >>= λ j. Some (Plain (place s i) a, j)) e

pub returned_reads : (s : Source) (readers : Readers) (at : ℕ) (a : Tree) (i n j : ℕ) → begins (kind s i) ≡ true → broken s i ≡ false → readers.expr 1 i ≡ Some (a, n) → read_end s n ≡ Some j → read_returned s readers at i (read_end s i) ≡ Some (Return at (present a), j)
returned_reads s readers at a i n j b u h e =
    ap (read_returned s readers at i) (no_end s i b u)
    ∙ ap (λ r. r >>= λ a. read_end s a.1 >>= λ j. Some (Return at (present a.0), j)) h
    ∙ ap (λ r. r >>= λ j. Some (Return at (present a), j)) e

-- 5. Declared names.

-- the token at n goes on with no declared name that ends there
abbrev pub Settled : Source → Declaration → ℕ → Type 0
Settled s (Declare at name shape (present first)) n = binds s n ≡ 0
Settled s (Declare at name shape absent) n = (is_mark m.Assign (kind s n) ≡ false) × Stops s shape n

settled_at : (s : Source) (a : Declaration) (n : ℕ) → binds s n ≡ 0 → is_mark m.Assign (kind s n) ≡ false → is_mark m.OpenBracket (kind s n) ≡ false → is_mark m.Colon (kind s n) ≡ false → Settled s a n
settled_at s (Declare at name shape (present first)) n b x y z = b
settled_at s (Declare at name shape absent) n b x y z = (x, stops_at s shape n y z)

pub settled_comma : (s : Source) (a : Declaration) (n : ℕ) → IsMark s n m.Comma → Settled s a n
settled_comma s a n h = settled_at s a n (binds_mark s n m.Comma h) (ap (is_mark m.Assign) h) (ap (is_mark m.OpenBracket) h) (ap (is_mark m.Colon) h)

pub settled_semicolon : (s : Source) (a : Declaration) (n : ℕ) → IsMark s n m.Semicolon → Settled s a n
settled_semicolon s a n h = settled_at s a n (binds_mark s n m.Semicolon h) (ap (is_mark m.Assign) h) (ap (is_mark m.OpenBracket) h) (ap (is_mark m.Colon) h)

-- the last of some declared names is whole at n, and no comma stands there
abbrev pub LastSettled : Source → Declarations → ℕ → Type 0
LastSettled s ended n = Unit {0}
LastSettled s (next a ended) n = Settled s a n × (is_mark m.Comma (kind s n) ≡ false)
LastSettled s (next a (next b rest)) n = LastSettled s (next b rest) n

pub last_semicolon : (s : Source) (each : Declarations) (n : ℕ) → IsMark s n m.Semicolon → LastSettled s each n
last_semicolon s ended n h = tt
last_semicolon s (next a ended) n h = (settled_semicolon s a n h, ap (is_mark m.Comma) h)
last_semicolon s (next a (next b rest)) n h = last_semicolon s (next b rest) n h

last_quiet : (s : Source) (each : Declarations) (n : ℕ) (t : TokenKind) → kind s n ≡ t → kind_binds (kind s (n - 1)) (broken s n) t ≡ 0 → is_mark m.Assign t ≡ false → is_mark m.OpenBracket t ≡ false → is_mark m.Colon t ≡ false → is_mark m.Comma t ≡ false → LastSettled s each n
last_quiet s ended n t h b x y z c = tt
last_quiet s (next a ended) n t h b x y z c =
    (settled_at s a n (ap (kind_binds (kind s (n - 1)) (broken s n)) h ∙ b) (ap (is_mark m.Assign) h ∙ x) (ap (is_mark m.OpenBracket) h ∙ y) (ap (is_mark m.Colon) h ∙ z), ap (is_mark m.Comma) h ∙ c)
last_quiet s (next a (next b rest)) n t h e x y z c = last_quiet s (next b rest) n t h e x y z c

not_continued : (x : ℕ) → nat_lt 0 x ≡ false → x ≡ 0
not_continued x h = let le : x ≤ 0 = ltb-false 0 x h in omega arith

pair_broken : (s : Source) (n : ℕ) → broken s n ≡ true → is_pair s n ≡ false
pair_broken s n h = ap (λ x. is_mark m.OpenBracket (kind s n) && (not x && is_mark m.CloseBracket (kind s (n + 1)))) h ∙ and_no (is_mark m.OpenBracket (kind s n))

three_parts : (a b c : Bool) → (a || b || c) ≡ false → (a ≡ false) × (b ≡ false) × (c ≡ false)
three_parts true b c h = true_false h
three_parts false true c h = true_false h
three_parts false false true h = true_false h
three_parts false false false h = (refl, refl, refl)

-- on a new line
new_line_settled : (s : Source) (a : Declaration) (n : ℕ) → broken s n ≡ true → declaration_continues s a n ≡ false → Settled s a n × (is_mark m.Comma (kind s n) ≡ false)
new_line_settled s (Declare at name shape (present first)) n nl g =
    let p = or_parts (continues s n) (is_mark m.Comma (kind s n)) g in (not_continued (binds s n) p.0, p.1)
new_line_settled s (Declare at name (Some shape) absent) n nl g =
    let p = or_parts (is_mark m.Assign (kind s n)) (is_mark m.Comma (kind s n)) g in ((p.0, pair_broken s n nl), p.1)
new_line_settled s (Declare at name None absent) n nl g =
    let p = three_parts (is_mark m.Colon (kind s n)) (is_mark m.Assign (kind s n)) (is_mark m.Comma (kind s n)) g in ((p.1, p.0), p.2)

last_new_line : (s : Source) (each : Declarations) (n : ℕ) → broken s n ≡ true → declarations_continue s each n ≡ false → LastSettled s each n
last_new_line s ended n nl g = tt
last_new_line s (next a ended) n nl g = new_line_settled s a n nl g
last_new_line s (next a (next b rest)) n nl g = last_new_line s (next b rest) n nl g

-- before which tokens a statement may end
may_end_cases : (t : TokenKind) (new_line goes_on : Bool) → IsTrue (may_end t new_line goes_on) → (t ≡ k.Mark m.CloseBrace) ⊎ ((t ≡ k.Finish) ⊎ ((new_line ≡ true) × (goes_on ≡ false)))
may_end_cases (k.Mark m.Semicolon) new_line goes_on h = absurd (false≢true h)
may_end_cases (k.Mark m.CloseBrace) new_line goes_on h = inl refl
may_end_cases k.Finish new_line goes_on h = inr (inl refl)
may_end_cases _ new_line goes_on h =
    let p = and_parts new_line (not goes_on) (is_true (new_line && not goes_on) h) in inr (inr (p.0, not-true goes_on p.1))

pub last_ends : (s : Source) (each : Declarations) (n j : ℕ) → Ends s (declarations_continue s each n) n j → LastSettled s each n
last_ends s each n j (inl h) = last_semicolon s each n h.0
last_ends s each n j (inr h) =
    elim (may_end_cases (kind s n) (broken s n) (declarations_continue s each n) h.0) [
      | inl e ↦ last_quiet s each n (k.Mark m.CloseBrace) e refl refl refl refl refl
      | inr e ↦
          elim e [
            | inl x ↦ last_quiet s each n k.Finish x refl refl refl refl refl
            | inr x ↦ last_new_line s each n x.0 x.1
          ]
    ]

pub initialiser_absent : (s : Source) (read : ℕ → Found Tree) (fixed : Bool) (n : ℕ) → fixed ≡ false → is_mark m.Assign (kind s n) ≡ false → read_initialiser read fixed (is_mark m.Assign (kind s n)) n ≡ Some (absent, n)
initialiser_absent s read fixed n e h = ap (λ x. read_initialiser read fixed x n) h ∙ ap (λ x. read_initialiser read x false n) e

pub initialiser_present : (s : Source) (read : ℕ → Found Tree) (fixed : Bool) (a : Tree) (n j : ℕ) → IsMark s n m.Assign → read (n + 1) ≡ Some (a, j) → read_initialiser read fixed (is_mark m.Assign (kind s n)) n ≡ Some (present a, j)
initialiser_present s read fixed a n j mk h =
    ap (λ x. read_initialiser read fixed (is_mark m.Assign x) n) mk ∙ ap (λ r. r >>= λ a. Some (present a.0, a.1)) h

declaration_by : (s : Source) (read : ℕ → Found Tree) (fixed : Bool) (at name : ℕ) (shape : Option Annotation) (first : OptionalTree) (i n j : ℕ) → at ≡ place s i → IsName s i name → HasType s shape (i + 1) n → Stops s shape n → read_initialiser read fixed (is_mark m.Assign (kind s n)) n ≡ Some (first, j) → read_declaration s read fixed i ≡ Some (Declare at name shape first, j)
unfolding read_declaration
declaration_by s read fixed at name shape first i n j e nm t stop h =
    ap (λ x. name_of x >>= λ name. read_optional_type s (i + 1) >>= λ t. read_initialiser read fixed (is_mark m.Assign (kind s t.1)) t.1 >>= λ first. Some (Declare (place s i) name t.0 first.0, first.1)) nm
    ∙ ap (λ r. r >>= λ t. read_initialiser read fixed (is_mark m.Assign (kind s t.1)) t.1 >>= λ first. Some (Declare (place s i) name t.0 first.0, first.1)) (optional_type_reads s shape (i + 1) n t stop)
    ∙ ap (λ r. r >>= λ first. Some (Declare (place s i) name shape first.0, first.1)) h
    ∙ ap (λ x. Some (Declare x name shape first, j)) (sym e)

pub declaration_absent : (s : Source) (read : ℕ → Found Tree) (fixed : Bool) (at name : ℕ) (shape : Option Annotation) (i n : ℕ) → at ≡ place s i → IsName s i name → HasType s shape (i + 1) n → fixed ≡ false → is_mark m.Assign (kind s n) ≡ false → Stops s shape n → read_declaration s read fixed i ≡ Some (Declare at name shape absent, n)
declaration_absent s read fixed at name shape i n e nm t fx x stop =
    declaration_by s read fixed at name shape absent i n n e nm t stop (initialiser_absent s read fixed n fx x)

pub declaration_present : (s : Source) (read : ℕ → Found Tree) (fixed : Bool) (at name : ℕ) (shape : Option Annotation) (a : Tree) (i n j : ℕ) → at ≡ place s i → IsName s i name → HasType s shape (i + 1) n → IsMark s n m.Assign → read (n + 1) ≡ Some (a, j) → read_declaration s read fixed i ≡ Some (Declare at name shape (present a), j)
declaration_present s read fixed at name shape a i n j e nm t mk h =
    declaration_by s read fixed at name shape (present a) i n j e nm t (stops_at s shape n (ap (is_mark m.OpenBracket) mk) (ap (is_mark m.Colon) mk)) (initialiser_present s read fixed a n j mk h)

-- one list of declared names before another
abbrev pub join_declarations : Declarations → Declarations → Declarations
join_declarations all ended = all
join_declarations all (next a rest) = join_declarations (put_declaration all a) rest

join_next : (a : Declaration) (all rest : Declarations) → join_declarations (next a all) rest ≡ next a (join_declarations all rest)
join_next a all ended = refl
join_next a all (next b rest) = join_next a (put_declaration all b) rest

pub join_ended : (all : Declarations) → join_declarations ended all ≡ all
join_ended ended = refl
join_ended (next a rest) = join_next a ended rest ∙ ap (next a) (join_ended rest)

pub declarations_at : (s : Source) (read : ℕ → Found Tree) (fixed : Bool) (n : ℕ) (all : Declarations) (i : ℕ) → 0 < n → read_declarations s read fixed n all i ≡ (read_declaration s read fixed i >>= λ a. declarations_rest (read_declarations s read fixed (n - 1)) (put_declaration all a.0) a.1 (is_mark m.Comma (kind s a.1)))
unfolding read_declarations
declarations_at s read fixed zero all i h = absurd (omega arith)
declarations_at s read fixed (suc n) all i h = let e : suc n - 1 ≡ n = omega arith in rw e refl

pub let_reads : (s : Source) (room : ℕ) (readers : Readers) (at : ℕ) (fixed : Bool) (each : Declarations) (i n j : ℕ) → read_let s (readers.expr 1) fixed i ≡ Some (each, n) → deepest_declaration each ≤ room → read_end s n ≡ Some j → read_let_statement s room readers at fixed i ≡ Some (Let at fixed each, j)
unfolding read_let_statement
let_reads s room readers at fixed each i n j h fit e =
    ap (λ r. r >>= λ each. if nat_lt room (deepest_declaration each.0) then None else (read_end s each.1 >>= λ j. Some (Let at fixed each.0, j))) h
    ∙ ap (λ x. if x then None else (read_end s n >>= λ j. Some (Let at fixed each, j))) (le-ltb room (deepest_declaration each) fit)
    ∙ ap (λ r. r >>= λ j. Some (Let at fixed each, j)) e
