-- What the tokens spell is read.
use Rattle.std.proofs.Common.{◌≡◌, ℕ, ◌+◌, ◌-◌, ◌<◌, ◌≤◌, List, length, refl, sym, ap, ◌∙◌, subst, arith, inl, inr}
use Rattle.std.specs.Prelude.{Bool, true, false, if◌then◌else◌, Option, Some, None}
use lib.Chars.{codes}
use Rattle.std.proofs.lemmas.Bool.{false_from_ne_true}
use Rattle.sts_lexer.specs.declared.marks.Mark.{Mark}
use Rattle.sts_lexer.specs.declared.marks.Mark.TheVariants as m
use Rattle.sts_lexer.specs.declared.words.Word.TheVariants as w
use Rattle.sts_lexer.specs.declared.token.TokenKind.{TokenKind}
use Rattle.sts_lexer.specs.declared.token.TokenKind.TheVariants as k
use Rattle.sts_syntax.specs.Annotations.{Annotation}
use Rattle.sts_syntax.specs.Trees.{Parameter, Tree, Num, Text, Truth, Null, This, Name, Unary, Binary, Both, Either, Choice, Set, Bump, Member, Item, Call, SuperCall, Make, Items, Handler, Trees, none, more, OptionalTree, absent, present, Statement, Block, Let, IfOnly, IfElse, While, DoWhile, For, ForOf, Return, Break, Continue, Plain, Empty, Statements, done, also, OptionalStatement, omitted, written, Declaration, Declare, Declarations, ended, next, Does}
use Rattle.sts_syntax.specs.Nesting.{nesting, deepest_tree, optional_nesting, statement_nesting, deepest_statement, optional_statement_nesting, declaration_nesting, deepest_declaration}
use Rattle.sts_grammar.specs.Source.{Source, kind, broken, place, IsMark, IsName, IsMemberName, IsSpelled, is_mark}
use Rattle.sts_grammar.specs.Operators.{infix_level}
use Rattle.sts_grammar.specs.Headings.{HasType, HasResult, AreParameters}
use Rattle.sts_grammar.specs.Ends.{binds, continues, declarations_continue}
use Rattle.sts_grammar.specs.Operands.{IsOperand, IsLet}
use Rattle.sts_grammar.specs.Spells.{IsBare, AreListed, AreFurther, IsOptional, IsStatement, IsReturned, IsFirst, AreDeclared, IsDeclared, IsInitialised, InBlock, IsWholeExpression}
use Rattle.sts_grammar.specs.Found.{Found, ◌>>=◌, when, name_of, member_name_of, closes}
use Rattle.sts_grammar.specs.ReadHeadings.{read_heading}
use Rattle.sts_grammar.specs.ReadExpressions.{Readers, put, put_statement, binds_before, items_rest, read_items, read_listed, read_arguments, read_statements, read_block, read_handler, bump_before, read_super}
use Rattle.sts_grammar.specs.ReadStatements.{put_declaration, read_end, read_initialiser, declarations_rest, read_declarations, read_declaration, read_let, read_optional, read_optional_first, of_head, read_returned, read_let_statement, read_statement}
use Rattle.sts_grammar.specs.Reading.{expression, statement, expression_readers, statement_readers}
use Rattle.sts_grammar.proofs.Tokens.{is_true, mark_is}
use Rattle.sts_grammar.proofs.Spans.{Within, mark_in, operand_spans, bare_spans, listed_spans, further_spans, statement_spans, declaration_spans}
use Rattle.sts_grammar.proofs.SoundHeadings.{IsHeading}
use Rattle.sts_grammar.proofs.Headings.{Stops, stops_at, heading_reads, arrow_heading_reads, begins_reads}
use Rattle.sts_grammar.proofs.Operators.{infix_min, binds_operator}
use Rattle.sts_grammar.proofs.Levels.{assignment_binds, binds_inside, target_true, ends_stop, end_reads}
use Rattle.sts_grammar.proofs.Begins.{begins, operand_begins, operand_last, binds_mark, binds_dot, binds_bracket, binds_parenthesis, binds_bump}
use Rattle.sts_grammar.proofs.Turns.{prefix_mark, bump_mark, prefix_not_open, bump_not_open, infix_further, set_further, bump_further, items_at, statements_at, statement_by, Arrives, further_arrives}
use Rattle.sts_grammar.proofs.Operands.{Reads, operand_arrives, operand_found, whole_found, in_statement, token_arrives, arrow_arrives, close_of, closes_yes, closes_comma, further_stops, join, join_more, join_none, join_statements, join_done, arguments_by, block_by}
use Rattle.sts_grammar.proofs.Statements.{begins_not_closed, begins_not_closing, begins_not_brace, begins_not_semicolon, condition_reads, if_only_reads, if_else_reads, while_reads, do_reads, skips, of_head_yes, for_of_reads, for_reads, first_omitted, first_let, first_plain, head_let, head_plain, head_omitted, plain_reads, returned_reads, Settled, settled_comma, LastSettled, last_semicolon, last_ends, initialiser_absent, initialiser_present, declaration_absent, declaration_present, join_declarations, join_ended, declarations_at, let_reads}

member_read : (s : Source) (i name : ℕ) → IsMemberName s i name → member_name_of (kind s i) ≡ Some name
member_read s i name (inl h) = ap member_name_of h
member_read s i name (inr h) = ap member_name_of h.1

-- the place and the end of what one token spells
one : (f : ℕ → ℕ → Tree) (at i j n : ℕ) → at ≡ n → j ≡ i + 1 → ◌≡◌ {A = Found Tree} (Some (f n 0, i + 1)) (Some (f at 0, j))
one f at i j n e g = ap (λ x. Some (f x 0, i + 1)) (sym e) ∙ ap (λ x. Some (f at 0, x)) (sym g)

-- 1. Readers of lists, and of blocks behind a heading.

brace_stops : (s : Source) (gives : Option Annotation) (i : ℕ) → IsMark s i m.OpenBrace → Stops s gives i
brace_stops s gives i mk = stops_at s gives i (ap (is_mark m.OpenBracket) mk) (ap (is_mark m.Colon) mk)

handler_by : (s : Source) (readers : Readers) (at at' : ℕ) (params : List Parameter) (gives : Option Annotation) (all : Statements) (arrow : Bool) (i o j : ℕ) → at ≡ place s i → at' ≡ place s i → read_block s (readers.stmt true false) o ≡ Some (all, j) → read_handler s readers (place s i) arrow (params, gives) o ≡ Some (Handler at (Does at' params gives all arrow), j)
unfolding read_handler
handler_by s readers at at' params gives all arrow i o j e g h =
    ap (λ r. r >>= λ b. Some (Handler (place s i) (Does (place s i) params gives b.0 arrow), b.1)) h
    ∙ ap (λ z. Some (Handler z (Does (place s i) params gives all arrow), j)) (sym e)
    ∙ ap (λ z. Some (Handler at (Does z params gives all arrow), j)) (sym g)

listed_none : (s : Source) (square : Bool) (read : ℕ → Found Tree) (i j : ℕ) → IsMark s i (close_of square) → j ≡ i + 1 → read_listed s square read i ≡ Some (none, j)
unfolding read_listed
listed_none s square read i j mk e =
    ap (λ x. if closes square x then Some (none, i + 1) else read_items s square read (length s.tokens) none i) mk
    ∙ ap (λ x. if x then Some (none, i + 1) else read_items s square read (length s.tokens) none i) (closes_yes square)
    ∙ ap (λ x. Some (none, x)) (sym e)

listed_more : (s : Source) (square : Bool) (read : ℕ → Found Tree) (i : ℕ) → begins (kind s i) ≡ true → read_listed s square read i ≡ read_items s square read (length s.tokens) none i
unfolding read_listed
listed_more s square read i b =
    ap (λ x. if x then Some (none, i + 1) else read_items s square read (length s.tokens) none i) (begins_not_closing square (kind s i) b)

rest_close : (s : Source) (square : Bool) (read : Trees → ℕ → Found Trees) (all : Trees) (i j : ℕ) → IsMark s i (close_of square) → j ≡ i + 1 → items_rest square read all i (kind s i) ≡ Some (all, j)
rest_close s square read all i j mk e =
    ap (items_rest square read all i) mk
    ∙ ap (λ x. if x then Some (all, i + 1) else when (is_mark m.Comma (k.Mark (close_of square))) (read all (i + 1))) (closes_yes square)
    ∙ ap (λ x. Some (all, x)) (sym e)

rest_comma : (s : Source) (square : Bool) (read : Trees → ℕ → Found Trees) (all : Trees) (i : ℕ) → IsMark s i m.Comma → items_rest square read all i (kind s i) ≡ read all (i + 1)
rest_comma s square read all i mk =
    ap (items_rest square read all i) mk
    ∙ ap (λ x. if x then Some (all, i + 1) else when true (read all (i + 1))) (closes_comma square)

let_by : (s : Source) (read : ℕ → Found Tree) (fixed : Bool) (each : Declarations) (i n : ℕ) → read_declarations s read fixed (length s.tokens) ended i ≡ Some (join_declarations ended each, n) → read_let s read fixed i ≡ Some (each, n)
unfolding read_let
let_by s read fixed each i n h = h ∙ ap (λ x. Some (x, n)) (join_ended each)

let_word : (s : Source) (room : ℕ) (readers : Readers) (f l fixed : Bool) (i : ℕ) → IsLet s fixed i → read_statement s room readers f l i (kind s i) ≡ read_let_statement s room readers (place s i) fixed (i + 1)
let_word s room readers f l false i h = ap (read_statement s room readers f l i) h.1
let_word s room readers f l true i h = ap (read_statement s room readers f l i) h.1

let_not_brace : (s : Source) (fixed : Bool) (i : ℕ) → IsLet s fixed i → is_mark m.CloseBrace (kind s i) ≡ false
let_not_brace s false i h = ap (is_mark m.CloseBrace) h.1
let_not_brace s true i h = ap (is_mark m.CloseBrace) h.1

-- what doesn't bind is no `=`
not_assign : (s : Source) (i : ℕ) → binds s i ≡ 0 → is_mark m.Assign (kind s i) ≡ false
not_assign s i z =
    false_from_ne_true (is_mark m.Assign (kind s i)) (λ e. let b : binds s i ≡ 1 = binds_mark s i m.Assign (mark_is m.Assign (kind s i) e) in absurd (omega arith))

-- no statement begins with `}`
statement_not_brace : (s : Source) (f l : Bool) (a : Statement) (i j : ℕ) → IsStatement s f l a i j → is_mark m.CloseBrace (kind s i) ≡ false
statement_not_brace s f l (Block at all) i j h = ap (is_mark m.CloseBrace) h.1
statement_not_brace s f l (Let at fixed each) i j h = let_not_brace s fixed i h.2
statement_not_brace s f l (IfOnly at c a) i j h = ap (is_mark m.CloseBrace) h.2.1
statement_not_brace s f l (IfElse at c a b) i j h = ap (is_mark m.CloseBrace) h.3.1
statement_not_brace s f l (While at c a) i j h = ap (is_mark m.CloseBrace) h.2.1
statement_not_brace s f l (DoWhile at a c) i j h = ap (is_mark m.CloseBrace) h.3.1
statement_not_brace s f l (For at first c step a) i j h = ap (is_mark m.CloseBrace) h.4.1
statement_not_brace s f l (ForOf at fixed name list a) i j h = ap (is_mark m.CloseBrace) h.2.1
statement_not_brace s f l (Return at value) i j h = ap (is_mark m.CloseBrace) h.2.1
statement_not_brace s f l (Break at) i j h = ap (is_mark m.CloseBrace) h.2.1
statement_not_brace s f l (Continue at) i j h = ap (is_mark m.CloseBrace) h.2.1
statement_not_brace s f l (Plain at a) i j h = begins_not_brace (kind s i) (operand_begins s 1 a i h.0 h.3)
statement_not_brace s f l (Empty at) i j h = ap (is_mark m.CloseBrace) h.1

-- a mark stands behind the first of some declared names
behind_name : (s : Source) (shape : Option Annotation) (first : OptionalTree) (fixed : Bool) (i n o : ℕ) (mark : Mark) → HasType s shape i n → IsInitialised s fixed first n o → IsMark s o mark → (other : Mark) × IsMark s i other
behind_name s (Some a) first fixed i n o mark h x mk = (m.Colon, h.0)
behind_name s None (present a) fixed i n o mark h x mk = (m.Assign, ap (kind s) h ∙ x.0)
behind_name s None absent fixed i n o mark h x mk = (mark, ap (kind s) h ∙ ap (kind s) x.1 ∙ mk)

second_mark : (s : Source) (fixed : Bool) (each : Declarations) (i n : ℕ) (mark : Mark) → AreDeclared s fixed each i n → IsMark s n mark → (other : Mark) × IsMark s (i + 1) other
second_mark s fixed ended i n mark h mk = absurd h
second_mark s fixed (next (Declare at name shape first) ended) i n mark h mk = behind_name s shape first fixed (i + 1) h.0 n mark h.3 h.4 mk
second_mark s fixed (next (Declare at name shape first) (next b rest)) i n mark h mk =
    behind_name s shape first fixed (i + 1) h.1.0 h.0 m.Comma h.1.3 h.1.4 h.2

-- what stands first in a `for` of three parts isn't the head of one over a list
first_head : (s : Source) (first : OptionalStatement) (i n : ℕ) → IsFirst s first i n → IsMark s n m.Semicolon → of_head s i ≡ None
first_head s omitted i n h mk = head_omitted s i (ap (kind s) h ∙ mk)
first_head s (written (Let at fixed each)) i n h mk =
    let x = second_mark s fixed each (i + 1) n m.Semicolon h.2 mk in
    let e : i + 1 + 1 ≡ i + 2 = omega arith in
    head_let s i x.0 (subst (λ z. IsMark s z x.0) e x.1)
first_head s (written (Plain at a)) i n h mk = head_plain s i (operand_begins s 1 a i n h.1)
first_head s (written a) i n h mk = absurd h

-- 2. By cases on the tree.

mutual
  pub bare_reads : (s : Source) (e : Tree) → Reads s e
  bare_reads s (Num at value) upto room t q l from i j here h fit fuel lv le st =
      token_arrives s upto room (expression_readers s upto room) t q l from i (Num at value) j (k.Num value) here h.1 refl (one (λ x _. Num x value) at i j (place s i) h.0 h.2)
  bare_reads s (Text at text) upto room t q l from i j here h fit fuel lv le st =
      token_arrives s upto room (expression_readers s upto room) t q l from i (Text at text) j (k.Text text) here h.1 refl (one (λ x _. Text x text) at i j (place s i) h.0 h.2)
  bare_reads s (Truth at true) upto room t q l from i j here h fit fuel lv le st =
      token_arrives s upto room (expression_readers s upto room) t q l from i (Truth at true) j (k.Word w.True h.1.0) here h.1.1 refl (one (λ x _. Truth x true) at i j (place s i) h.0 h.2)
  bare_reads s (Truth at false) upto room t q l from i j here h fit fuel lv le st =
      token_arrives s upto room (expression_readers s upto room) t q l from i (Truth at false) j (k.Word w.False h.1.0) here h.1.1 refl (one (λ x _. Truth x false) at i j (place s i) h.0 h.2)
  bare_reads s (Null at) upto room t q l from i j here h fit fuel lv le st =
      token_arrives s upto room (expression_readers s upto room) t q l from i (Null at) j (k.Word w.Null h.1.0) here h.1.1 refl (one (λ x _. Null x) at i j (place s i) h.0 h.2)
  bare_reads s (This at) upto room t q l from i j here h fit fuel lv le st =
      token_arrives s upto room (expression_readers s upto room) t q l from i (This at) j (k.Word w.This h.1.0) here h.1.1 refl (one (λ x _. This x) at i j (place s i) h.0 h.2)
  bare_reads s (Name at name) upto room t q l from i j here h fit fuel lv le st =
      token_arrives s upto room (expression_readers s upto room) t q l from i (Name at name) j (k.Name name) here h.1 refl (one (λ x _. Name x name) at i j (place s i) h.0 h.2)
  bare_reads s (Unary at op a) upto room t q l from i j here h fit fuel lv le st =
      let read : expression s upto room 12 (i + 1) ≡ Some (a, j) =
      operand_found s a (bare_reads s a) upto room 12 (i + 1) j h.4 (omega arith) le (omega arith) in
      token_arrives s upto room (expression_readers s upto room) t q l from i (Unary at op a) j (k.Mark h.0) here h.2 (prefix_not_open h.0 op h.3)
      (prefix_mark s (expression_readers s upto room) i h.0 op h.3
      ∙ ap (λ r. r >>= λ a. Some (Unary (place s i) op a.0, a.1)) read
      ∙ ap (λ x. Some (Unary x op a, j)) (sym h.1))
  bare_reads s (Bump at x by false) upto room t q l from i j here h fit fuel lv le st =
      let read : expression s upto room 12 (i + 1) ≡ Some (x, j) =
      operand_found s x (bare_reads s x) upto room 12 (i + 1) j h.5 (omega arith) le (omega arith) in
      token_arrives s upto room (expression_readers s upto room) t q l from i (Bump at x by false) j (k.Mark h.0) here h.2 (bump_not_open h.0 by h.3)
      (bump_mark s (expression_readers s upto room) i h.0 by h.3
      ∙ ap (λ r. r >>= bump_before (place s i) by) read
      ∙ ap (λ y. when y (Some (Bump (place s i) x by false, j))) (target_true x h.4)
      ∙ ap (λ y. Some (Bump y x by false, j)) (sym h.1))
  bare_reads s (Binary at op a b) upto room t q l from i j here h fit fuel lv le st =
      let x : Within s i h.0 = operand_spans s (infix_level op) a (IsBare s a) (bare_spans s a) i h.0 h.3 in
      let y : Within s (h.0 + 1) j = operand_spans s (infix_level op + 1) b (IsBare s b) (bare_spans s b) (h.0 + 1) j h.6 in
      let less : h.0 + 1 < j = y.less in
      let low : 3 < infix_level op = infix_min h.1 op h.5 in
      let there : binds_before s upto h.0 ≡ infix_level op =
      binds_inside s upto h.0 (omega arith) ∙ binds_mark s h.0 h.1 h.4 ∙ binds_operator (kind s (h.0 - 1)) (broken s h.0) h.1 op h.5 in
      let left : Arrives s upto room (expression_readers s upto room) t q l from i a h.0 =
      operand_arrives s a (infix_level op) (bare_reads s a) upto room t q l from i h.0 here h.3 (omega arith) fuel lv (omega arith) (omega arith) (λ z. absurd (omega arith)) in
      let read : expression s upto room (infix_level op + 1) (h.0 + 1) ≡ Some (b, j) =
      operand_found s b (bare_reads s b) upto room (infix_level op + 1) (h.0 + 1) j h.6 (omega arith) le (omega arith) in
      further_arrives s upto room (expression_readers s upto room) t q l from i a h.0 h.1 (Binary at op a b) j left (omega arith) (omega arith) h.4
      (infix_further s (expression_readers s upto room) (place s i) a h.0 h.1 op h.5
      ∙ ap (λ r. r >>= λ b. Some (Binary (place s i) op a b.0, b.1)) read
      ∙ ap (λ z. Some (Binary z op a b, j)) (sym h.2)) (omega arith)
  bare_reads s (Both at a b) upto room t q l from i j here h fit fuel lv le st =
      let y : Within s (h.0 + 1) j = operand_spans s 4 b (IsBare s b) (bare_spans s b) (h.0 + 1) j h.4 in
      let less : h.0 + 1 < j = y.less in
      let there : binds_before s upto h.0 ≡ 3 = binds_inside s upto h.0 (omega arith) ∙ binds_mark s h.0 m.AmpersandAmpersand h.3 in
      let left : Arrives s upto room (expression_readers s upto room) t q l from i a h.0 =
      operand_arrives s a 3 (bare_reads s a) upto room t q l from i h.0 here h.2 (omega arith) fuel lv (omega arith) (omega arith) (λ z. absurd (omega arith)) in
      let read : expression s upto room 4 (h.0 + 1) ≡ Some (b, j) =
      operand_found s b (bare_reads s b) upto room 4 (h.0 + 1) j h.4 (omega arith) le (omega arith) in
      further_arrives s upto room (expression_readers s upto room) t q l from i a h.0 m.AmpersandAmpersand (Both at a b) j left (omega arith) (omega arith) h.3
      (ap (λ r. r >>= λ b. Some (Both (place s i) a b.0, b.1)) read ∙ ap (λ z. Some (Both z a b, j)) (sym h.1)) (omega arith)
  bare_reads s (Either at a b) upto room t q l from i j here h fit fuel lv le st =
      let y : Within s (h.0 + 1) j = operand_spans s 3 b (IsBare s b) (bare_spans s b) (h.0 + 1) j h.4 in
      let less : h.0 + 1 < j = y.less in
      let there : binds_before s upto h.0 ≡ 2 = binds_inside s upto h.0 (omega arith) ∙ binds_mark s h.0 m.BarBar h.3 in
      let left : Arrives s upto room (expression_readers s upto room) t q l from i a h.0 =
      operand_arrives s a 2 (bare_reads s a) upto room t q l from i h.0 here h.2 (omega arith) fuel lv (omega arith) (omega arith) (λ z. absurd (omega arith)) in
      let read : expression s upto room 3 (h.0 + 1) ≡ Some (b, j) =
      operand_found s b (bare_reads s b) upto room 3 (h.0 + 1) j h.4 (omega arith) le (omega arith) in
      further_arrives s upto room (expression_readers s upto room) t q l from i a h.0 m.BarBar (Either at a b) j left (omega arith) (omega arith) h.3
      (ap (λ r. r >>= λ b. Some (Either (place s i) a b.0, b.1)) read ∙ ap (λ z. Some (Either z a b, j)) (sym h.1)) (omega arith)
  bare_reads s (Choice at c a b) upto room t q l from i j here h fit fuel lv le st =
      let x : Within s (h.0 + 1) h.1 = operand_spans s 1 a (IsBare s a) (bare_spans s a) (h.0 + 1) h.1 h.5 in
      let y : Within s (h.1 + 1) j = operand_spans s 1 b (IsBare s b) (bare_spans s b) (h.1 + 1) j h.7 in
      let less_a : h.0 + 1 < h.1 = x.less in
      let less_b : h.1 + 1 < j = y.less in
      let there : binds_before s upto h.0 ≡ 1 = binds_inside s upto h.0 (omega arith) ∙ binds_mark s h.0 m.Question h.4 in
      let at_colon : binds s h.1 ≡ 0 = binds_mark s h.1 m.Colon h.6 in
      let left : Arrives s upto room (expression_readers s upto room) t q l from i c h.0 =
      operand_arrives s c 2 (bare_reads s c) upto room t q l from i h.0 here h.3 (omega arith) fuel (omega arith) (omega arith) (omega arith) (λ z. absurd (omega arith)) in
      let read_a : expression s upto room 1 (h.0 + 1) ≡ Some (a, h.1) =
      whole_found s a (bare_reads s a) upto room (h.0 + 1) h.1 h.5 (omega arith) (omega arith) at_colon in
      let read_b : expression s upto room 1 (h.1 + 1) ≡ Some (b, j) =
      operand_found s b (bare_reads s b) upto room 1 (h.1 + 1) j h.7 (omega arith) le (omega arith) in
      further_arrives s upto room (expression_readers s upto room) t q l from i c h.0 m.Question (Choice at c a b) j left (omega arith) (omega arith) h.4
      (ap (λ r. r >>= λ a. when (is_mark m.Colon (kind s a.1)) (expression s upto room 1 (a.1 + 1) >>= λ b. Some (Choice (place s i) c a.0 b.0, b.1))) read_a
      ∙ ap (λ z. when (is_mark m.Colon z) (expression s upto room 1 (h.1 + 1) >>= λ b. Some (Choice (place s i) c a b.0, b.1))) h.6
      ∙ ap (λ r. r >>= λ b. Some (Choice (place s i) c a b.0, b.1)) read_b
      ∙ ap (λ z. Some (Choice z c a b, j)) (sym h.2)) (omega arith)
  bare_reads s (Set at op x a) upto room t q l from i j here h fit fuel lv le st =
      let y : Within s (h.0 + 1) j = operand_spans s 1 a (IsBare s a) (bare_spans s a) (h.0 + 1) j h.7 in
      let less : h.0 + 1 < j = y.less in
      let there : binds_before s upto h.0 ≡ 1 =
      binds_inside s upto h.0 (omega arith) ∙ binds_mark s h.0 h.1 h.5 ∙ assignment_binds (kind s (h.0 - 1)) (broken s h.0) h.1 op h.6 in
      let left : Arrives s upto room (expression_readers s upto room) t q l from i x h.0 =
      operand_arrives s x 14 (bare_reads s x) upto room t q l from i h.0 here h.4 (omega arith) fuel (omega arith) (omega arith) (omega arith) (λ z. absurd (omega arith)) in
      let read : expression s upto room 1 (h.0 + 1) ≡ Some (a, j) =
      operand_found s a (bare_reads s a) upto room 1 (h.0 + 1) j h.7 (omega arith) le (omega arith) in
      further_arrives s upto room (expression_readers s upto room) t q l from i x h.0 h.1 (Set at op x a) j left (omega arith) (omega arith) h.5
      (set_further s (expression_readers s upto room) (place s i) x h.0 h.1 op h.6
      ∙ ap (λ y. when y (expression s upto room 1 (h.0 + 1) >>= λ a. Some (Set (place s i) op x a.0, a.1))) (target_true x h.3)
      ∙ ap (λ r. r >>= λ a. Some (Set (place s i) op x a.0, a.1)) read
      ∙ ap (λ z. Some (Set z op x a, j)) (sym h.2)) (omega arith)
  bare_reads s (Bump at x by true) upto room t q l from i j here h fit fuel lv le st =
      let end : j ≡ h.0 + 1 = h.8 in
      let there : binds_before s upto h.0 ≡ 13 = binds_inside s upto h.0 (omega arith) ∙ binds_bump s h.0 h.1 by h.5 h.6 h.7 in
      let left : Arrives s upto room (expression_readers s upto room) t q l from i x h.0 =
      operand_arrives s x 14 (bare_reads s x) upto room t q l from i h.0 here h.4 (omega arith) fuel (omega arith) (omega arith) (omega arith) (λ z. absurd (omega arith)) in
      further_arrives s upto room (expression_readers s upto room) t q l from i x h.0 h.1 (Bump at x by true) j left (omega arith) (omega arith) h.5
      (bump_further s (expression_readers s upto room) (place s i) x h.0 h.1 by h.6
      ∙ ap (λ y. when y (Some (Bump (place s i) x by true, h.0 + 1))) (target_true x h.3)
      ∙ ap (λ y. Some (Bump (place s i) x by true, y)) (sym end)
      ∙ ap (λ z. Some (Bump z x by true, j)) (sym h.2)) (omega arith)
  bare_reads s (Member at a name) upto room t q l from i j here h fit fuel lv le st =
      let end : j ≡ h.0 + 2 = h.5 in
      let there : binds_before s upto h.0 ≡ 14 = binds_inside s upto h.0 (omega arith) ∙ binds_dot s h.0 h.3 (operand_last s a i h.0 h.2) in
      let left : Arrives s upto room (expression_readers s upto room) t q l from i a h.0 =
      operand_arrives s a 14 (bare_reads s a) upto room t q l from i h.0 here h.2 (omega arith) fuel lv (omega arith) (omega arith) (λ z. absurd (omega arith)) in
      further_arrives s upto room (expression_readers s upto room) t q l from i a h.0 m.Dot (Member at a name) j left (omega arith) (omega arith) h.3
      (ap (λ r. r >>= λ name. Some (Member (place s i) a name, h.0 + 2)) (member_read s (h.0 + 1) name h.4)
      ∙ ap (λ y. Some (Member (place s i) a name, y)) (sym end)
      ∙ ap (λ z. Some (Member z a name, j)) (sym h.1)) (omega arith)
  bare_reads s (Item at a b) upto room t q l from i j here h fit fuel lv le st =
      let y : Within s (h.0 + 1) h.1 = operand_spans s 1 b (IsBare s b) (bare_spans s b) (h.0 + 1) h.1 h.5 in
      let less : h.0 + 1 < h.1 = y.less in
      let end : j ≡ h.1 + 1 = h.7 in
      let there : binds_before s upto h.0 ≡ 14 = binds_inside s upto h.0 (omega arith) ∙ binds_bracket s h.0 h.4 (operand_last s a i h.0 h.3) in
      let left : Arrives s upto room (expression_readers s upto room) t q l from i a h.0 =
      operand_arrives s a 14 (bare_reads s a) upto room t q l from i h.0 here h.3 (omega arith) fuel lv (omega arith) (omega arith) (λ z. absurd (omega arith)) in
      let read : expression s upto room 1 (h.0 + 1) ≡ Some (b, h.1) =
      whole_found s b (bare_reads s b) upto room (h.0 + 1) h.1 h.5 (omega arith) (omega arith) (binds_mark s h.1 m.CloseBracket h.6) in
      further_arrives s upto room (expression_readers s upto room) t q l from i a h.0 m.OpenBracket (Item at a b) j left (omega arith) (omega arith) h.4
      (ap (λ r. r >>= λ b. when (is_mark m.CloseBracket (kind s b.1)) (Some (Item (place s i) a b.0, b.1 + 1))) read
      ∙ ap (λ z. when (is_mark m.CloseBracket z) (Some (Item (place s i) a b, h.1 + 1))) h.6
      ∙ ap (λ y. Some (Item (place s i) a b, y)) (sym end)
      ∙ ap (λ z. Some (Item z a b, j)) (sym h.2)) (omega arith)
  bare_reads s (Call at a args) upto room t q l from i j here h fit fuel lv le st =
      let y : Within s (h.0 + 1) j = listed_spans s args m.CloseParenthesis (h.0 + 1) j h.4 in
      let less : h.0 + 1 < j = y.less in
      let there : binds_before s upto h.0 ≡ 14 = binds_inside s upto h.0 (omega arith) ∙ binds_parenthesis s h.0 h.3 (operand_last s a i h.0 h.2) in
      let left : Arrives s upto room (expression_readers s upto room) t q l from i a h.0 =
      operand_arrives s a 14 (bare_reads s a) upto room t q l from i h.0 here h.2 (omega arith) fuel lv (omega arith) (omega arith) (λ z. absurd (omega arith)) in
      let read : read_listed s false (expression s upto room 1) (h.0 + 1) ≡ Some (args, j) =
      listed_reads s args false upto room (h.0 + 1) j h.4 (omega arith) le in
      further_arrives s upto room (expression_readers s upto room) t q l from i a h.0 m.OpenParenthesis (Call at a args) j left (omega arith) (omega arith) h.3
      (ap (λ r. r >>= λ x. Some (Call (place s i) a x.0, x.1)) read ∙ ap (λ z. Some (Call z a args, j)) (sym h.1)) (omega arith)
  bare_reads s (SuperCall at None args) upto room t q l from i j here h fit fuel lv le st =
      let read : read_arguments s (expression s upto room 1) (i + 1) ≡ Some (args, j) =
      arguments_by s (expression s upto room 1) args (i + 1) (i + 2) j h.2 (omega arith) (listed_reads s args false upto room (i + 2) j h.3 (omega arith) le) in
      token_arrives s upto room (expression_readers s upto room) t q l from i (SuperCall at None args) j (k.Word w.Super h.1.0) here h.1.1 refl
      (ap (λ x. read_super s (expression_readers s upto room) i (is_mark m.Dot x)) h.2
      ∙ ap (λ r. r >>= λ a. Some (SuperCall (place s i) None a.0, a.1)) read ∙ ap (λ z. Some (SuperCall z None args, j)) (sym h.0))
  bare_reads s (SuperCall at (Some method) args) upto room t q l from i j here h fit fuel lv le st =
      let read : read_arguments s (expression s upto room 1) (i + 3) ≡ Some (args, j) =
      arguments_by s (expression s upto room 1) args (i + 3) (i + 4) j h.4 (omega arith) (listed_reads s args false upto room (i + 4) j h.5 (omega arith) le) in
      token_arrives s upto room (expression_readers s upto room) t q l from i (SuperCall at (Some method) args) j (k.Word w.Super h.1.0) here h.1.1 refl
      (ap (λ x. read_super s (expression_readers s upto room) i (is_mark m.Dot x)) h.2
      ∙ ap (λ r. r >>= λ method. read_arguments s (expression s upto room 1) (i + 3) >>= λ a. Some (SuperCall (place s i) (Some method) a.0, a.1)) (member_read s (i + 2) method h.3)
      ∙ ap (λ r. r >>= λ a. Some (SuperCall (place s i) (Some method) a.0, a.1)) read ∙ ap (λ z. Some (SuperCall z (Some method) args, j)) (sym h.0))
  bare_reads s (Make at class args) upto room t q l from i j here h fit fuel lv le st =
      let read : read_arguments s (expression s upto room 1) (i + 2) ≡ Some (args, j) =
      arguments_by s (expression s upto room 1) args (i + 2) (i + 3) j h.3 (omega arith) (listed_reads s args false upto room (i + 3) j h.4 (omega arith) le) in
      token_arrives s upto room (expression_readers s upto room) t q l from i (Make at class args) j (k.Word w.New h.1.0) here h.1.1 refl
      (ap (λ x. name_of x >>= λ class. read_arguments s (expression s upto room 1) (i + 2) >>= λ a. Some (Make (place s i) class a.0, a.1)) h.2
      ∙ ap (λ r. r >>= λ a. Some (Make (place s i) class a.0, a.1)) read ∙ ap (λ z. Some (Make z class args, j)) (sym h.0))
  bare_reads s (Items at items) upto room t q l from i j here h fit fuel lv le st =
      let read : read_listed s true (expression s upto room 1) (i + 1) ≡ Some (items, j) =
      listed_reads s items true upto room (i + 1) j h.2 (omega arith) le in
      token_arrives s upto room (expression_readers s upto room) t q l from i (Items at items) j (k.Mark m.OpenBracket) here h.1 refl
      (ap (λ r. r >>= λ a. Some (Items (place s i) a.0, a.1)) read ∙ ap (λ z. Some (Items z items, j)) (sym h.0))
  bare_reads s (Handler at (Does at' params gives all true)) upto room t q l from i j here h fit fuel lv le st =
      let x = h.1.1 in
      let heading : IsHeading s params gives i x.1 = (x.0, x.3, x.4, x.5) in
      let read : read_block s (statement s room true false) (x.1 + 1) ≡ Some (all, j) =
      block_by s (statement s room true false) all (x.1 + 1) (x.2 + 1) j (subst (λ z. IsMark s z m.OpenBrace) x.6.1 x.7) (ap (λ z. z + 1) x.6.1)
      (block_reads s all true false room (length s.tokens) done (x.2 + 1) j x.8 (omega arith) (omega arith) ∙ ap (λ z. Some (z, j)) (join_done all)) in
      arrow_arrives s upto room (expression_readers s upto room) t q l from i (Handler at (Does at' params gives all true)) j here x.3 (begins_reads s params gives i x.1 heading x.6.0)
      (ap (λ r. r >>= λ h. read_handler s (expression_readers s upto room) (place s i) true h.0 h.1) (arrow_heading_reads s params gives i x.1 heading x.6.0)
      ∙ handler_by s (expression_readers s upto room) at at' params gives all true i (x.1 + 1) j h.0 h.1.0 read)
  bare_reads s (Handler at (Does at' params gives all false)) upto room t q l from i j here h fit fuel lv le st =
      let x = h.1.2 in
      let brace : IsMark s x.1 m.OpenBrace = subst (λ z. IsMark s z m.OpenBrace) (sym x.6) x.7 in
      let heading : IsHeading s params gives (i + 1) x.1 = (x.0, x.3, x.4, x.5) in
      let read : read_block s (statement s room true false) x.1 ≡ Some (all, j) =
      block_by s (statement s room true false) all x.1 (x.2 + 1) j brace (ap (λ z. z + 1) (sym x.6))
      (block_reads s all true false room (length s.tokens) done (x.2 + 1) j x.8 (omega arith) (omega arith) ∙ ap (λ z. Some (z, j)) (join_done all)) in
      token_arrives s upto room (expression_readers s upto room) t q l from i (Handler at (Does at' params gives all false)) j (k.Word w.Function h.1.1.0) here h.1.1.1 refl
      (ap (λ r. r >>= λ h. read_handler s (expression_readers s upto room) (place s i) false h.0 h.1) (heading_reads s params gives (i + 1) x.1 heading (brace_stops s gives x.1 brace))
      ∙ handler_by s (expression_readers s upto room) at at' params gives all false i x.1 j h.0 h.1.0 read)

  -- expressions with commas between them, and the closing mark
  pub listed_reads : (s : Source) (all : Trees) (square : Bool) (upto room i j : ℕ) → AreListed s all (close_of square) i j → deepest_tree all ≤ room → j ≤ upto → read_listed s square (expression s upto room 1) i ≡ Some (all, j)
  listed_reads s none square upto room i j h fit le = listed_none s square (expression s upto room 1) i j h.0 h.1
  listed_reads s (more a rest) square upto room i j h fit le =
      let x : Within s i h.0 = operand_spans s 1 a (IsBare s a) (bare_spans s a) i h.0 h.1 in
      let y : Within s h.0 j = further_spans s rest (close_of square) h.0 j h.2 in
      let less : i < h.0 = x.less in
      let within : h.0 ≤ length s.tokens = x.inside in
      let less_rest : h.0 < j = y.less in
      let read : expression s upto room 1 i ≡ Some (a, h.0) =
      whole_found s a (bare_reads s a) upto room i h.0 h.1 (omega arith) (omega arith) (further_stops s square rest h.0 j h.2) in
      listed_more s square (expression s upto room 1) i (operand_begins s 1 a i h.0 h.1)
      ∙ items_at s square (expression s upto room 1) (length s.tokens) none i (omega arith)
      ∙ ap (λ r. r >>= λ a. items_rest square (read_items s square (expression s upto room 1) (length s.tokens - 1)) (put none a.0) a.1 (kind s a.1)) read
      ∙ further_reads s rest square upto room (length s.tokens - 1) (more a none) h.0 j h.2 (omega arith) (omega arith) le
      ∙ ap (λ z. Some (z, j)) (join_more a none rest ∙ ap (more a) (join_none rest))

  further_reads : (s : Source) (rest : Trees) (square : Bool) (upto room t : ℕ) (all : Trees) (i j : ℕ) → AreFurther s rest (close_of square) i j → deepest_tree rest ≤ room → length s.tokens ≤ t + i + 1 → j ≤ upto → items_rest square (read_items s square (expression s upto room 1) t) all i (kind s i) ≡ Some (join all rest, j)
  further_reads s none square upto room t all i j h fit fuel le = rest_close s square (read_items s square (expression s upto room 1) t) all i j h.0 h.1
  further_reads s (more a rest) square upto room t all i j h fit fuel le =
      let x : Within s (i + 1) h.0 = operand_spans s 1 a (IsBare s a) (bare_spans s a) (i + 1) h.0 h.2 in
      let y : Within s h.0 j = further_spans s rest (close_of square) h.0 j h.3 in
      let less : i + 1 < h.0 = x.less in
      let within : h.0 ≤ length s.tokens = x.inside in
      let less_rest : h.0 < j = y.less in
      let read : expression s upto room 1 (i + 1) ≡ Some (a, h.0) =
      whole_found s a (bare_reads s a) upto room (i + 1) h.0 h.2 (omega arith) (omega arith) (further_stops s square rest h.0 j h.3) in
      rest_comma s square (read_items s square (expression s upto room 1) t) all i h.1
      ∙ items_at s square (expression s upto room 1) t all (i + 1) (omega arith)
      ∙ ap (λ r. r >>= λ a. items_rest square (read_items s square (expression s upto room 1) (t - 1)) (put all a.0) a.1 (kind s a.1)) read
      ∙ further_reads s rest square upto room (t - 1) (put all a) h.0 j h.3 (omega arith) (omega arith) le

  -- statements and the `}` behind them
  pub block_reads : (s : Source) (rest : Statements) (f l : Bool) (room t : ℕ) (all : Statements) (i j : ℕ) → InBlock s f l rest i j → deepest_statement rest ≤ room → length s.tokens ≤ t + i → read_statements s (statement s room f l) t all i ≡ Some (join_statements all rest, j)
  block_reads s done f l room t all i j h fit fuel =
      statements_at s (statement s room f l) t all i (omega (arith, mark_in s i m.CloseBrace h.0))
      ∙ ap (λ x. if is_mark m.CloseBrace x then Some (all, i + 1) else (statement s room f l i >>= λ a. read_statements s (statement s room f l) (t - 1) (put_statement all a.0) a.1)) h.0
      ∙ ap (λ x. Some (all, x)) (sym h.1)
  block_reads s (also a rest) f l room t all i j h fit fuel =
      let x : Within s i h.0 = statement_spans s f l a i h.0 h.1 in
      let less : i < h.0 = x.less in
      let within : h.0 ≤ length s.tokens = x.inside in
      let read : statement s room f l i ≡ Some (a, h.0) = statement_reads s a room f l i h.0 h.1 (omega arith) in
      statements_at s (statement s room f l) t all i (omega arith)
      ∙ ap (λ x. if x then Some (all, i + 1) else (statement s room f l i >>= λ a. read_statements s (statement s room f l) (t - 1) (put_statement all a.0) a.1)) (statement_not_brace s f l a i h.0 h.1)
      ∙ ap (λ r. r >>= λ a. read_statements s (statement s room f l) (t - 1) (put_statement all a.0) a.1) read
      ∙ block_reads s rest f l room (t - 1) (put_statement all a) h.0 j h.2 (omega arith) (omega arith)

  pub statement_reads : (s : Source) (a : Statement) (room : ℕ) (f l : Bool) (i j : ℕ) → IsStatement s f l a i j → statement_nesting a ≤ room → statement s room f l i ≡ Some (a, j)
  statement_reads s (Block at all) room f l i j h fit =
      let read : read_block s (statement s (room - 1) f l) i ≡ Some (all, j) =
      block_by s (statement s (room - 1) f l) all i (i + 1) j h.1 refl (block_reads s all f l (room - 1) (length s.tokens) done (i + 1) j h.2 (omega arith) (omega arith) ∙ ap (λ z. Some (z, j)) (join_done all)) in
      statement_by s room f l i (k.Mark m.OpenBrace) (omega arith) h.1
      ∙ ap (λ r. r >>= λ b. Some (Block (place s i) b.0, b.1)) read ∙ ap (λ z. Some (Block z all, j)) (sym h.0)
  statement_reads s (Let at fixed each) room f l i j h fit =
      let read : read_let s (expression s (length s.tokens) (room - 1) 1) fixed (i + 1) ≡ Some (each, h.0) =
      let_by s (expression s (length s.tokens) (room - 1) 1) fixed each (i + 1) h.0 (declared_reads s each fixed (room - 1) (length s.tokens) ended (i + 1) h.0 h.3 (last_ends s each h.0 j h.4) (omega arith) (omega arith)) in
      statement_by s room f l i (kind s i) (omega arith) refl
      ∙ let_word s (room - 1) (statement_readers s (room - 1)) f l fixed i h.2
      ∙ let_reads s (room - 1) (statement_readers s (room - 1)) (place s i) fixed each (i + 1) h.0 j read (omega arith) (end_reads s (declarations_continue s each h.0) h.0 j h.4)
      ∙ ap (λ z. Some (Let z fixed each, j)) (sym h.1)
  statement_reads s (IfOnly at c a) room f l i j h fit =
      let cond : expression s (length s.tokens) (room - 1) 1 (i + 2) ≡ Some (c, h.0) =
      in_statement s c (bare_reads s c) (room - 1) (i + 2) h.0 h.4 (omega arith) (binds_mark s h.0 m.CloseParenthesis h.5) in
      let body : statement s (room - 1) f l (h.0 + 1) ≡ Some (a, j) = statement_reads s a (room - 1) f l (h.0 + 1) j h.6 (omega arith) in
      statement_by s room f l i (k.Word w.If h.2.0) (omega arith) h.2.1
      ∙ if_only_reads s (statement_readers s (room - 1)) f l (place s i) c a (i + 1) (h.0 + 1) j (condition_reads s (expression s (length s.tokens) (room - 1) 1) c (i + 1) (i + 2) h.0 h.3 (omega arith) cond h.5) body h.7
      ∙ ap (λ z. Some (IfOnly z c a, j)) (sym h.1)
  statement_reads s (IfElse at c a b) room f l i j h fit =
      let cond : expression s (length s.tokens) (room - 1) 1 (i + 2) ≡ Some (c, h.0) =
      in_statement s c (bare_reads s c) (room - 1) (i + 2) h.0 h.5 (omega arith) (binds_mark s h.0 m.CloseParenthesis h.6) in
      let body : statement s (room - 1) f l (h.0 + 1) ≡ Some (a, h.1) = statement_reads s a (room - 1) f l (h.0 + 1) h.1 h.7 (omega arith) in
      let other : statement s (room - 1) f l (h.1 + 1) ≡ Some (b, j) = statement_reads s b (room - 1) f l (h.1 + 1) j h.9 (omega arith) in
      statement_by s room f l i (k.Word w.If h.3.0) (omega arith) h.3.1
      ∙ if_else_reads s (statement_readers s (room - 1)) f l (place s i) c a b (i + 1) (h.0 + 1) h.1 j (condition_reads s (expression s (length s.tokens) (room - 1) 1) c (i + 1) (i + 2) h.0 h.4 (omega arith) cond h.6) body h.8 other
      ∙ ap (λ z. Some (IfElse z c a b, j)) (sym h.2)
  statement_reads s (While at c a) room f l i j h fit =
      let cond : expression s (length s.tokens) (room - 1) 1 (i + 2) ≡ Some (c, h.0) =
      in_statement s c (bare_reads s c) (room - 1) (i + 2) h.0 h.4 (omega arith) (binds_mark s h.0 m.CloseParenthesis h.5) in
      let body : statement s (room - 1) f true (h.0 + 1) ≡ Some (a, j) = statement_reads s a (room - 1) f true (h.0 + 1) j h.6 (omega arith) in
      statement_by s room f l i (k.Word w.While h.2.0) (omega arith) h.2.1
      ∙ while_reads s (statement_readers s (room - 1)) f (place s i) c a (i + 1) (h.0 + 1) j (condition_reads s (expression s (length s.tokens) (room - 1) 1) c (i + 1) (i + 2) h.0 h.3 (omega arith) cond h.5) body
      ∙ ap (λ z. Some (While z c a, j)) (sym h.1)
  statement_reads s (DoWhile at a c) room f l i j h fit =
      let body : statement s (room - 1) f true (i + 1) ≡ Some (a, h.0) = statement_reads s a (room - 1) f true (i + 1) h.0 h.4 (omega arith) in
      let cond : expression s (length s.tokens) (room - 1) 1 (h.0 + 2) ≡ Some (c, h.1) =
      in_statement s c (bare_reads s c) (room - 1) (h.0 + 2) h.1 h.7 (omega arith) (binds_mark s h.1 m.CloseParenthesis h.8) in
      statement_by s room f l i (k.Word w.Do h.3.0) (omega arith) h.3.1
      ∙ do_reads s (statement_readers s (room - 1)) f (place s i) a c (i + 1) h.0 (h.1 + 1) body h.5 (condition_reads s (expression s (length s.tokens) (room - 1) 1) c (h.0 + 1) (h.0 + 2) h.1 h.6 (omega arith) cond h.8)
      ∙ ap (λ z. Some (DoWhile (place s i) a c, z)) (skips s h.1 j h.9)
      ∙ ap (λ z. Some (DoWhile z a c, j)) (sym h.2)
  statement_reads s (For at first c step a) room f l i j h fit =
      let begun : read_optional_first s (room - 1) (expression s (length s.tokens) (room - 1) 1) (i + 2) ≡ Some (first, h.0) =
      first_reads s first (room - 1) (i + 2) h.0 h.6 h.7 (omega arith) in
      let cond : read_optional (expression s (length s.tokens) (room - 1) 1) (is_mark m.Semicolon (kind s (h.0 + 1))) (h.0 + 1) ≡ Some (c, h.1) =
      optional_reads s c (is_mark m.Semicolon) (room - 1) (h.0 + 1) h.1 h.8 (ap (is_mark m.Semicolon) h.9) begins_not_semicolon (binds_mark s h.1 m.Semicolon h.9) (omega arith) in
      let stepped : read_optional (expression s (length s.tokens) (room - 1) 1) (is_mark m.CloseParenthesis (kind s (h.1 + 1))) (h.1 + 1) ≡ Some (step, h.2) =
      optional_reads s step (is_mark m.CloseParenthesis) (room - 1) (h.1 + 1) h.2 h.10 (ap (is_mark m.CloseParenthesis) h.11) begins_not_closed (binds_mark s h.2 m.CloseParenthesis h.11) (omega arith) in
      let body : statement s (room - 1) f true (h.2 + 1) ≡ Some (a, j) = statement_reads s a (room - 1) f true (h.2 + 1) j h.12 (omega arith) in
      statement_by s room f l i (k.Word w.For h.4.0) (omega arith) h.4.1
      ∙ for_reads s (room - 1) (statement_readers s (room - 1)) f (place s i) first c step a (i + 1) (i + 2) h.0 h.1 h.2 j h.5 (omega arith) (first_head s first (i + 2) h.0 h.6 h.7) begun h.7 cond h.9 stepped h.11 body
      ∙ ap (λ z. Some (For z first c step a, j)) (sym h.3)
  statement_reads s (ForOf at fixed name list a) room f l i j h fit =
      let e2 : i + 2 ≡ i + 1 + 1 = omega arith in
      let e3 : i + 3 ≡ i + 1 + 1 + 1 = omega arith in
      let e4 : i + 4 ≡ i + 1 + 1 + 2 = omega arith in
      let listed : expression s (length s.tokens) (room - 1) 1 (i + 5) ≡ Some (list, h.0) =
      in_statement s list (bare_reads s list) (room - 1) (i + 5) h.0 h.7 (omega arith) (binds_mark s h.0 m.CloseParenthesis h.8) in
      let body : statement s (room - 1) f true (h.0 + 1) ≡ Some (a, j) = statement_reads s a (room - 1) f true (h.0 + 1) j h.9 (omega arith) in
      statement_by s room f l i (k.Word w.For h.2.0) (omega arith) h.2.1
      ∙ for_of_reads s (room - 1) (statement_readers s (room - 1)) f (place s i) fixed name list a (i + 1) (i + 5) h.0 j h.3
      (of_head_yes s fixed name (i + 1 + 1) (subst (λ z. IsLet s fixed z) e2 h.4) (subst (λ z. IsName s z name) e3 h.5) (subst (λ z. IsSpelled s z (codes "of")) e4 h.6)) (omega arith) listed h.8 body
      ∙ ap (λ z. Some (ForOf z fixed name list a, j)) (sym h.1)
  statement_reads s (Return at value) room f l i j h fit =
      statement_by s room f l i (k.Word w.Return h.2.0) (omega arith) h.2.1
      ∙ ap (λ x. when x (read_returned s (statement_readers s (room - 1)) (place s i) (i + 1) (read_end s (i + 1)))) (is_true f h.1)
      ∙ value_reads s value (room - 1) (place s i) (i + 1) j h.3 (omega arith)
      ∙ ap (λ z. Some (Return z value, j)) (sym h.0)
  statement_reads s (Break at) room f l i j h fit =
      statement_by s room f l i (k.Word w.Break h.2.0) (omega arith) h.2.1
      ∙ ap (λ x. when x (read_end s (i + 1) >>= λ j. Some (Break (place s i), j))) (is_true l h.1)
      ∙ ap (λ r. r >>= λ j. Some (Break (place s i), j)) (end_reads s false (i + 1) j h.3)
      ∙ ap (λ z. Some (Break z, j)) (sym h.0)
  statement_reads s (Continue at) room f l i j h fit =
      statement_by s room f l i (k.Word w.Continue h.2.0) (omega arith) h.2.1
      ∙ ap (λ x. when x (read_end s (i + 1) >>= λ j. Some (Continue (place s i), j))) (is_true l h.1)
      ∙ ap (λ r. r >>= λ j. Some (Continue (place s i), j)) (end_reads s false (i + 1) j h.3)
      ∙ ap (λ z. Some (Continue z, j)) (sym h.0)
  statement_reads s (Plain at a) room f l i j h fit =
      let read : expression s (length s.tokens) (room - 1) 1 i ≡ Some (a, h.0) =
      in_statement s a (bare_reads s a) (room - 1) i h.0 h.3 (omega arith) (ends_stop s h.0 j h.4) in
      statement_by s room f l i (kind s i) (omega arith) refl
      ∙ plain_reads s (room - 1) (statement_readers s (room - 1)) f l a i h.0 j h.2 (operand_begins s 1 a i h.0 h.3) read (end_reads s (continues s h.0) h.0 j h.4)
      ∙ ap (λ z. Some (Plain z a, j)) (sym h.1)
  statement_reads s (Empty at) room f l i j h fit =
      statement_by s room f l i (k.Mark m.Semicolon) (omega arith) h.1
      ∙ ap (λ z. Some (Empty z, i + 1)) (sym h.0) ∙ ap (λ z. Some (Empty at, z)) (sym h.2)

  value_reads : (s : Source) (value : OptionalTree) (room at i j : ℕ) → IsReturned s value i j → optional_nesting value ≤ room → read_returned s (statement_readers s room) at i (read_end s i) ≡ Some (Return at value, j)
  value_reads s absent room at i j h fit = ap (read_returned s (statement_readers s room) at i) (end_reads s false i j h)
  value_reads s (present a) room at i j h fit =
      let read : expression s (length s.tokens) room 1 i ≡ Some (a, h.0) = in_statement s a (bare_reads s a) room i h.0 h.2 fit (ends_stop s h.0 j h.3) in
      returned_reads s (statement_readers s room) at a i h.0 j (operand_begins s 1 a i h.0 h.2) h.1 read (end_reads s (continues s h.0) h.0 j h.3)

  optional_reads : (s : Source) (c : OptionalTree) (test : TokenKind → Bool) (room i n : ℕ) → IsOptional s c i n → test (kind s n) ≡ true → ((t : TokenKind) → begins t ≡ true → test t ≡ false) → binds s n ≡ 0 → optional_nesting c ≤ room → read_optional (expression s (length s.tokens) room 1) (test (kind s i)) i ≡ Some (c, n)
  optional_reads s absent test room i n h ends_it not_begun z fit =
      ap (λ x. read_optional (expression s (length s.tokens) room 1) (test (kind s x)) x) h ∙ ap (λ x. read_optional (expression s (length s.tokens) room 1) x n) ends_it
  optional_reads s (present a) test room i n h ends_it not_begun z fit =
      ap (λ x. read_optional (expression s (length s.tokens) room 1) x i) (not_begun (kind s i) (operand_begins s 1 a i n h))
      ∙ ap (λ r. r >>= λ a. Some (present a.0, a.1)) (in_statement s a (bare_reads s a) room i n h fit z)

  first_reads : (s : Source) (first : OptionalStatement) (room i n : ℕ) → IsFirst s first i n → IsMark s n m.Semicolon → optional_statement_nesting first ≤ room → read_optional_first s room (expression s (length s.tokens) room 1) i ≡ Some (first, n)
  first_reads s omitted room i n h mk fit = first_omitted s room (expression s (length s.tokens) room 1) i n h mk
  first_reads s (written (Let at fixed each)) room i n h mk fit =
      first_let s room (expression s (length s.tokens) room 1) fixed each i n h.1
      (let_by s (expression s (length s.tokens) room 1) fixed each (i + 1) n (declared_reads s each fixed room (length s.tokens) ended (i + 1) n h.2 (last_semicolon s each n mk) (omega arith) (omega arith))) (omega arith)
      ∙ ap (λ z. Some (written (Let z fixed each), n)) (sym h.0)
  first_reads s (written (Plain at a)) room i n h mk fit =
      first_plain s room (expression s (length s.tokens) room 1) a i n (operand_begins s 1 a i n h.1) (in_statement s a (bare_reads s a) room i n h.1 (omega arith) (binds_mark s n m.Semicolon mk)) (omega arith)
      ∙ ap (λ z. Some (written (Plain z a), n)) (sym h.0)
  first_reads s (written a) room i n h mk fit = absurd h

  declared_reads : (s : Source) (each : Declarations) (fixed : Bool) (room t : ℕ) (all : Declarations) (i n : ℕ) → AreDeclared s fixed each i n → LastSettled s each n → deepest_declaration each ≤ room → length s.tokens ≤ t + i → read_declarations s (expression s (length s.tokens) room 1) fixed t all i ≡ Some (join_declarations all each, n)
  declared_reads s ended fixed room t all i n h st fit fuel = absurd h
  declared_reads s (next a ended) fixed room t all i n h st fit fuel =
      let x : Within s i n = declaration_spans s fixed a i n h in
      let less : i < n = x.less in
      let within : n ≤ length s.tokens = x.inside in
      declarations_at s (expression s (length s.tokens) room 1) fixed t all i (omega arith)
      ∙ ap (λ r. r >>= λ a. declarations_rest (read_declarations s (expression s (length s.tokens) room 1) fixed (t - 1)) (put_declaration all a.0) a.1 (is_mark m.Comma (kind s a.1))) (declaration_reads s a fixed room i n h st.0 (omega arith))
      ∙ ap (declarations_rest (read_declarations s (expression s (length s.tokens) room 1) fixed (t - 1)) (put_declaration all a) n) st.1
  declared_reads s (next a (next b rest)) fixed room t all i n h st fit fuel =
      let x : Within s i h.0 = declaration_spans s fixed a i h.0 h.1 in
      let less : i < h.0 = x.less in
      let within : h.0 ≤ length s.tokens = x.inside in
      declarations_at s (expression s (length s.tokens) room 1) fixed t all i (omega arith)
      ∙ ap (λ r. r >>= λ a. declarations_rest (read_declarations s (expression s (length s.tokens) room 1) fixed (t - 1)) (put_declaration all a.0) a.1 (is_mark m.Comma (kind s a.1))) (declaration_reads s a fixed room i h.0 h.1 (settled_comma s a h.0 h.2) (omega arith))
      ∙ ap (λ y. declarations_rest (read_declarations s (expression s (length s.tokens) room 1) fixed (t - 1)) (put_declaration all a) h.0 (is_mark m.Comma y)) h.2
      ∙ declared_reads s (next b rest) fixed room (t - 1) (put_declaration all a) (h.0 + 1) n h.3 st (omega arith) (omega arith)

  -- a declared name, where its children's nesting is at most `room`
  pub declaration_reads : (s : Source) (a : Declaration) (fixed : Bool) (room i j : ℕ) → IsDeclared s fixed a i j → Settled s a j → declaration_nesting a ≤ room → read_declaration s (expression s (length s.tokens) room 1) fixed i ≡ Some (a, j)
  declaration_reads s (Declare at name shape absent) fixed room i j h st fit =
      declaration_absent s (expression s (length s.tokens) room 1) fixed at name shape i j h.1 h.2 (subst (λ z. HasType s shape (i + 1) z) h.4.1 h.3) h.4.0 st.0 st.1
  declaration_reads s (Declare at name shape (present a)) fixed room i j h st fit =
      declaration_present s (expression s (length s.tokens) room 1) fixed at name shape a i h.0 j h.1 h.2 h.3 h.4.0 (in_statement s a (bare_reads s a) room (h.0 + 1) j h.4.1 (omega arith) st)

-- 3. What is published.

-- An operand of at least level l is read, where the token behind it binds less tightly.
pub complete_expr : (s : Source) (upto room l : ℕ) (e : Tree) (i j : ℕ) → IsOperand s l e (IsBare s e) i j → nesting e ≤ room → j ≤ upto → binds_before s upto j < l → expression s upto room l i ≡ Some (e, j)
complete_expr s upto room l e i j h fit le b = operand_found s e (bare_reads s e) upto room l i j h fit le b

-- An expression that the next token doesn't go on with is read.
pub complete_whole : (s : Source) (room : ℕ) (e : Tree) (i j : ℕ) → IsWholeExpression s e i j → nesting e ≤ room → expression s (length s.tokens) room 1 i ≡ Some (e, j)
complete_whole s room e i j h fit = in_statement s e (bare_reads s e) room i j h.0 fit h.1

-- A statement is read.
pub complete_stmt : (s : Source) (room : ℕ) (f l : Bool) (a : Statement) (i j : ℕ) → IsStatement s f l a i j → statement_nesting a ≤ room → statement s room f l i ≡ Some (a, j)
complete_stmt s room f l a i j h fit = statement_reads s a room f l i j h fit

-- A block is read.
pub complete_block : (s : Source) (room : ℕ) (f l : Bool) (all : Statements) (i j : ℕ) → IsMark s i m.OpenBrace → InBlock s f l all (i + 1) j → deepest_statement all ≤ room → read_block s (statement s room f l) i ≡ Some (all, j)
complete_block s room f l all i j mk h fit =
    block_by s (statement s room f l) all i (i + 1) j mk refl (block_reads s all f l room (length s.tokens) done (i + 1) j h fit (omega arith) ∙ ap (λ z. Some (z, j)) (join_done all))

-- Parameters in parentheses and a result's type are read, before a `{`.
pub complete_heading : (s : Source) (params : List Parameter) (gives : Option Annotation) (i n j : ℕ) → IsMark s i m.OpenParenthesis → AreParameters s params (i + 1) n → HasResult s gives n j → IsMark s j m.OpenBrace → read_heading s i ≡ Some ((params, gives), j)
complete_heading s params gives i n j o p r b =
    heading_reads s params gives i j (n, o, p, r) (brace_stops s gives j b)

-- An initialiser, which may be left out, is read where no token goes on with it.
pub complete_initialiser : (s : Source) (room : ℕ) (fixed : Bool) (first : OptionalTree) (i j : ℕ) → IsInitialised s fixed first i j → optional_nesting first ≤ room → binds s j ≡ 0 → read_initialiser (expression s (length s.tokens) room 1) fixed (is_mark m.Assign (kind s i)) i ≡ Some (first, j)
complete_initialiser s room fixed absent i j h fit z =
    subst (λ x. read_initialiser (expression s (length s.tokens) room 1) fixed (is_mark m.Assign (kind s i)) i ≡ Some (absent, x)) h.1
    (initialiser_absent s (expression s (length s.tokens) room 1) fixed i h.0 (not_assign s i (ap (binds s) h.1 ∙ z)))
complete_initialiser s room fixed (present a) i j h fit z =
    initialiser_present s (expression s (length s.tokens) room 1) fixed a i j h.0 (in_statement s a (bare_reads s a) room (i + 1) j h.1 fit z)

-- A declared name is read where no token goes on with it.
pub complete_declaration : (s : Source) (room : ℕ) (fixed : Bool) (a : Declaration) (i j : ℕ) → IsDeclared s fixed a i j → Settled s a j → declaration_nesting a ≤ room → read_declaration s (expression s (length s.tokens) room 1) fixed i ≡ Some (a, j)
complete_declaration s room fixed a i j h st fit = declaration_reads s a fixed room i j h st fit
