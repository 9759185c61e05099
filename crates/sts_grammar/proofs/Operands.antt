-- A tree that is spelled is read, in parentheses too, where the trees that it is made of are.
use Rattle.std.proofs.Common.{◌≡◌, ℕ, zero, suc, ◌+◌, ◌-◌, ◌<◌, ◌≤◌, length, refl, sym, ap, ◌∙◌, subst, arith}
use Rattle.std.specs.Prelude.{Bool, true, false, not, ◌&&◌, Some}
use Rattle.sts_lexer.specs.declared.marks.Mark.{Mark}
use Rattle.sts_lexer.specs.declared.marks.Mark.TheVariants as m
use Rattle.sts_lexer.specs.declared.token.TokenKind.{TokenKind}
use Rattle.sts_lexer.specs.declared.token.TokenKind.TheVariants as k
use Rattle.sts_syntax.specs.Trees.{Tree, Num, Binary, Bump, Trees, none, more, Statement, Statements, done, also}
use Rattle.sts_syntax.specs.Nesting.{nesting}
use Rattle.sts_grammar.specs.Source.{Source, kind, IsMark, is_mark}
use Rattle.sts_grammar.specs.Operators.{infix_level}
use Rattle.sts_grammar.specs.Ends.{binds}
use Rattle.sts_grammar.specs.Operands.{level, IsWrapped, IsOperand}
use Rattle.sts_grammar.specs.Spells.{IsBare, AreFurther}
use Rattle.sts_grammar.specs.Found.{Found, when, closes}
use Rattle.sts_grammar.specs.ReadHeadings.{begins_arrow, is_arrow_behind}
use Rattle.sts_grammar.specs.ReadExpressions.{Readers, put, put_statement, binds_before, read_listed, read_arguments, read_statements, read_block, read_primary}
use Rattle.sts_grammar.specs.Reading.{expression, expression_readers}
use Rattle.sts_grammar.proofs.Tokens.{and_no}
use Rattle.sts_grammar.proofs.Spans.{Within, mark_in, wrapped_spans, bare_spans, operand_spans}
use Rattle.sts_grammar.proofs.Headings.{not_behind}
use Rattle.sts_grammar.proofs.Operators.{infix_min, binds_max}
use Rattle.sts_grammar.proofs.Levels.{binds_gap, binds_le, follow, follow_le}
use Rattle.sts_grammar.proofs.Begins.{binds_mark, no_arrow}
use Rattle.sts_grammar.proofs.Turns.{inner_level, Arrives, primary_arrives, arrived, wrapped_arrives, expression_at}

pub nesting_pos : (e : Tree) → 1 ≤ nesting e
nesting_pos (Num at value) = omega arith
nesting_pos _ = omega arith

bare_level : (s : Source) (e : Tree) (i j : ℕ) → IsBare s e i j → 1 ≤ level e
bare_level s (Binary at op a b) i j h =
    let low : 3 < infix_level op = infix_min h.1 op h.5 in omega arith
bare_level s (Bump at x by true) i j h = omega arith
bare_level s (Bump at x by false) i j h = omega arith
bare_level s _ i j h = omega arith

wrapped_level : (s : Source) (p : ℕ) (e : Tree) (i j : ℕ) → IsWrapped s p (IsBare s e) i j → 1 ≤ level e
wrapped_level s zero e i j h = bare_level s e i j h
wrapped_level s (suc p) e i j h = wrapped_level s p e (i + 1) h.0 h.2

-- a tree without parentheses round it is read
abbrev pub Reads : Source → Tree → Type 0
Reads s e =
    (upto room t q l from i j : ℕ) → i ≡ from + q → IsBare s e i j → nesting e ≤ room + 1 → length s.tokens ≤ t + i
    → inner_level q l ≤ level e → j ≤ upto → binds_before s upto j ≤ follow e
    → Arrives s upto room (expression_readers s upto room) t q l from i e j

wrapped_reads : (s : Source) (e : Tree) → Reads s e → (p upto room t q l from i j : ℕ) → i ≡ from + q → IsWrapped s p (IsBare s e) i j → nesting e ≤ room + 1 → length s.tokens ≤ t + i → (p ≡ 0 → inner_level q l ≤ level e) → j ≤ upto → (p ≡ 0 → binds_before s upto j ≤ follow e) → Arrives s upto room (expression_readers s upto room) t q l from i e j
wrapped_reads s e ok zero upto room t q l from i j here h fit fuel lv le st =
    ok upto room t q l from i j here h fit fuel (lv refl) le (st refl)
wrapped_reads s e ok (suc p) upto room t q l from i j here h fit fuel lv le st =
    let inside : Within s (i + 1) h.0 = wrapped_spans s p (IsBare s e) (bare_spans s e) (i + 1) h.0 h.2 in
    let lt : i < length s.tokens = mark_in s i m.OpenParenthesis h.1 in
    let end : j ≡ h.0 + 1 = h.4 in
    let closed : binds s h.0 ≡ 0 = binds_mark s h.0 m.CloseParenthesis h.3 in
    let stop : binds_before s upto h.0 ≡ 0 = omega (arith, binds_le s upto h.0) in
    let less : i + 1 < h.0 = inside.less in
    let one : 1 ≤ level e = wrapped_level s p e (i + 1) h.0 h.2 in
    let x : Arrives s upto room (expression_readers s upto room) (t - 1) (suc q) l from (i + 1) e h.0 =
    wrapped_reads s e ok p upto room (t - 1) (suc q) l from (i + 1) h.0 (omega arith) h.2 fit (omega arith) (λ _. one) (omega arith) (λ _. omega arith) in
    let y : Arrives s upto room (expression_readers s upto room) t q l from i e (h.0 + 1) =
    wrapped_arrives s upto room (expression_readers s upto room) t q l from i e h.0 here (omega arith) h.1 (no_arrow s p e i j h) h.3 (subst (λ z. is_arrow_behind s z ≡ false) end (not_behind s j h.5)) stop (nesting_pos e) fit x in
    subst (λ z. Arrives s upto room (expression_readers s upto room) t q l from i e z) (sym end) y

-- an operand of at least level w, behind which a token binds at most as tightly
pub operand_arrives : (s : Source) (e : Tree) (w : ℕ) → Reads s e → (upto room t q l from i j : ℕ) → i ≡ from + q → IsOperand s w e (IsBare s e) i j → nesting e ≤ room + 1 → length s.tokens ≤ t + i → inner_level q l ≤ w → j ≤ upto → binds_before s upto j ≤ w → (w ≤ 1 → binds_before s upto j ≡ 0) → Arrives s upto room (expression_readers s upto room) t q l from i e j
operand_arrives s e w ok upto room t q l from i j here h fit fuel lv le b z =
    wrapped_reads s e ok h.0 upto room t q l from i j here h.1 fit fuel (λ p. let up : w ≤ level e = h.2 p in omega arith) le (λ p. follow_le e w (binds_before s upto j) (h.2 p) b z (binds_gap s upto j) (binds_max s upto j))

found_at : (s : Source) (e : Tree) → Reads s e → (upto room l i j : ℕ) → IsOperand s l e (IsBare s e) i j → nesting e ≤ room + 1 → j ≤ upto → binds_before s upto j < l → expression s upto (suc room) l i ≡ Some (e, j)
found_at s e ok upto room l i j h fit le b =
    expression_at s upto room l i
    ∙ arrived s upto room (expression_readers s upto room) l i e j (operand_arrives s e l ok upto room (length s.tokens) 0 l i i j (omega arith) h fit (omega arith) (omega arith) le (omega arith) (λ w. omega arith)) fit b

-- an operand is read, where the token behind it binds less tightly than the level
pub operand_found : (s : Source) (e : Tree) → Reads s e → (upto room l i j : ℕ) → IsOperand s l e (IsBare s e) i j → nesting e ≤ room → j ≤ upto → binds_before s upto j < l → expression s upto room l i ≡ Some (e, j)
operand_found s e ok upto zero l i j h fit le b = absurd (omega (arith, nesting_pos e))
operand_found s e ok upto (suc room) l i j h fit le b = found_at s e ok upto room l i j h (omega arith) le b

-- an expression is read, where nothing goes on with it
pub whole_found : (s : Source) (e : Tree) → Reads s e → (upto room i j : ℕ) → IsOperand s 1 e (IsBare s e) i j → nesting e ≤ room → j ≤ upto → binds s j ≡ 0 → expression s upto room 1 i ≡ Some (e, j)
whole_found s e ok upto room i j h fit le z = operand_found s e ok upto room 1 i j h fit le (omega (arith, binds_le s upto j))

-- the same in a statement
pub in_statement : (s : Source) (e : Tree) → Reads s e → (room i j : ℕ) → IsOperand s 1 e (IsBare s e) i j → nesting e ≤ room → binds s j ≡ 0 → expression s (length s.tokens) room 1 i ≡ Some (e, j)
in_statement s e ok room i j h fit z =
    let x : Within s i j = operand_spans s 1 e (IsBare s e) (bare_spans s e) i j h in
    whole_found s e ok (length s.tokens) room i j h fit x.inside z

closed_by : (s : Source) (i : ℕ) (t : TokenKind) → kind s i ≡ t → is_mark m.OpenParenthesis t ≡ false → (is_mark m.OpenParenthesis (kind s i) && not (begins_arrow s i)) ≡ false
closed_by s i t e h = ap (λ x. is_mark m.OpenParenthesis x && not (begins_arrow s i)) e ∙ ap (λ x. x && not (begins_arrow s i)) h

-- by the first token
pub token_arrives : (s : Source) (upto room : ℕ) (readers : Readers) (t q l from i : ℕ) (e : Tree) (j : ℕ) (token : TokenKind) → i ≡ from + q → kind s i ≡ token → is_mark m.OpenParenthesis token ≡ false → read_primary s readers i token ≡ Some (e, j) → Arrives s upto room readers t q l from i e j
token_arrives s upto room readers t q l from i e j token here h o read =
    primary_arrives s upto room readers t q l from i e j here (closed_by s i token h o) (ap (read_primary s readers i) h ∙ read) (nesting_pos e)

pub arrow_arrives : (s : Source) (upto room : ℕ) (readers : Readers) (t q l from i : ℕ) (e : Tree) (j : ℕ) → i ≡ from + q → IsMark s i m.OpenParenthesis → begins_arrow s i ≡ true → read_primary s readers i (k.Mark m.OpenParenthesis) ≡ Some (e, j) → Arrives s upto room readers t q l from i e j
arrow_arrives s upto room readers t q l from i e j here h b read =
    primary_arrives s upto room readers t q l from i e j here (ap (λ x. is_mark m.OpenParenthesis (kind s i) && not x) b ∙ and_no (is_mark m.OpenParenthesis (kind s i))) (ap (read_primary s readers i) h ∙ read) (nesting_pos e)

-- Lists.

-- the mark that closes a list
abbrev pub close_of : (square : Bool) → Mark
close_of true = m.CloseBracket
close_of false = m.CloseParenthesis

pub closes_yes : (square : Bool) → closes square (k.Mark (close_of square)) ≡ true
closes_yes true = refl
closes_yes false = refl

pub closes_comma : (square : Bool) → closes square (k.Mark m.Comma) ≡ false
closes_comma true = refl
closes_comma false = refl

close_binds : (s : Source) (square : Bool) (i : ℕ) → IsMark s i (close_of square) → binds s i ≡ 0
close_binds s true i h = binds_mark s i m.CloseBracket h
close_binds s false i h = binds_mark s i m.CloseParenthesis h

pub further_stops : (s : Source) (square : Bool) (all : Trees) (i j : ℕ) → AreFurther s all (close_of square) i j → binds s i ≡ 0
further_stops s square none i j h = close_binds s square i h.0
further_stops s square (more a rest) i j h = binds_mark s i m.Comma h.1

-- one list before another
abbrev pub join : Trees → Trees → Trees
join all none = all
join all (more a rest) = join (put all a) rest

pub join_more : (a : Tree) (all rest : Trees) → join (more a all) rest ≡ more a (join all rest)
join_more a all none = refl
join_more a all (more b rest) = join_more a (put all b) rest

pub join_none : (all : Trees) → join none all ≡ all
join_none none = refl
join_none (more a rest) = join_more a none rest ∙ ap (more a) (join_none rest)

abbrev pub join_statements : Statements → Statements → Statements
join_statements all done = all
join_statements all (also a rest) = join_statements (put_statement all a) rest

pub join_also : (a : Statement) (all rest : Statements) → join_statements (also a all) rest ≡ also a (join_statements all rest)
join_also a all done = refl
join_also a all (also b rest) = join_also a (put_statement all b) rest

pub join_done : (all : Statements) → join_statements done all ≡ all
join_done done = refl
join_done (also a rest) = join_also a done rest ∙ ap (also a) (join_done rest)

pub arguments_by : (s : Source) (read : ℕ → Found Tree) (args : Trees) (i o j : ℕ) → IsMark s i m.OpenParenthesis → o ≡ i + 1 → read_listed s false read o ≡ Some (args, j) → read_arguments s read i ≡ Some (args, j)
unfolding read_arguments
arguments_by s read args i o j mk e h =
    ap (λ x. when (is_mark m.OpenParenthesis x) (read_listed s false read (i + 1))) mk ∙ ap (read_listed s false read) (sym e) ∙ h

pub block_by : (s : Source) (read : ℕ → Found Statement) (all : Statements) (i o j : ℕ) → IsMark s i m.OpenBrace → o ≡ i + 1 → read_statements s read (length s.tokens) done o ≡ Some (all, j) → read_block s read i ≡ Some (all, j)
unfolding read_block
block_by s read all i o j mk e h =
    ap (λ x. when (is_mark m.OpenBrace x) (read_statements s read (length s.tokens) done (i + 1))) mk ∙ ap (read_statements s read (length s.tokens) done) (sym e) ∙ h
