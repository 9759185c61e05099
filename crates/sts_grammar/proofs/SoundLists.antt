-- Lists of expressions and blocks of statements that are read are spelled, where each of theirs is.
use Rattle.std.proofs.Common.{◌≡◌, ℕ, zero, suc, ◌+◌, ◌≤◌, refl, sym, ap, ◌∙◌, subst, arith}
use Rattle.std.specs.Prelude.{Bool, true, false, if◌then◌else◌, Some, length}
use Rattle.sts_lexer.specs.declared.marks.Mark.TheVariants as m
use Rattle.sts_syntax.specs.Trees.{Tree, Trees, none, more, Statement, Statements, done, also}
use Rattle.sts_syntax.specs.Nesting.{nesting, deepest_tree, statement_nesting, deepest_statement}
use Rattle.sts_grammar.specs.Source.{Source, kind, IsMark, is_mark}
use Rattle.sts_grammar.specs.Operands.{IsOperand}
use Rattle.sts_grammar.specs.Spells.{IsBare, AreListed, AreFurther, IsStatement, InBlock}
use Rattle.sts_grammar.specs.Found.{Found, ◌>>=◌, when, closes}
use Rattle.sts_grammar.specs.ReadExpressions.{put, put_statement, items_rest, read_items, read_listed, read_arguments, read_statements, read_block}
use Rattle.sts_grammar.proofs.Tokens.{bind_ok, when_ok, moved, both_are, never, closing, closes_is, mark_is}

-- 1. Lists one behind another.

abbrev pub join : Trees → Trees → Trees
join none b = b
join (more a rest) b = more a (join rest b)

pub join_put : (all : Trees) (a : Tree) (rest : Trees) → join (put all a) rest ≡ join all (more a rest)
join_put none a rest = refl
join_put (more b all) a rest = ap (more b) (join_put all a rest)

pub join_none : (all : Trees) → join all none ≡ all
join_none none = refl
join_none (more b all) = ap (more b) (join_none all)

abbrev pub join_statements : Statements → Statements → Statements
join_statements done b = b
join_statements (also a rest) b = also a (join_statements rest b)

pub join_put_statement : (all : Statements) (a : Statement) (rest : Statements) → join_statements (put_statement all a) rest ≡ join_statements all (also a rest)
join_put_statement done a rest = refl
join_put_statement (also b all) a rest = ap (also b) (join_put_statement all a rest)

pub join_done : (all : Statements) → join_statements all done ≡ all
join_done done = refl
join_done (also b all) = ap (also b) (join_done all)

-- 2. Expressions with commas between them.

-- what a reader of expressions keeps
abbrev pub ReadsExpressions : Source → (room : ℕ) → (ℕ → Found Tree) → Type 0
ReadsExpressions s room read = (i : ℕ) (e : Tree) (j : ℕ) → read i ≡ Some (e, j) → IsOperand s 1 e (IsBare s e) i j × (nesting e ≤ room)

-- what expressions that are read behind others add to them
abbrev FurtherItems : Source → (room : ℕ) (square : Bool) (all found : Trees) → ℕ → ℕ → Type 0
FurtherItems s room square all found i j =
    (a : Tree) × (rest : Trees) × (n : ℕ) × (found ≡ join all (more a rest)) × IsOperand s 1 a (IsBare s a) i n × AreFurther s rest (closing square) n j ×
    (nesting a ≤ room) × (deepest_tree rest ≤ room)

rest_by : (s : Source) (room : ℕ) (square : Bool) (read : ℕ → Found Tree) (n : ℕ) (all : Trees) (i : ℕ) (b : Bool) → closes square (kind s i) ≡ b → (found : Trees) (j : ℕ) → (if b then Some (all, i + 1) else when (is_mark m.Comma (kind s i)) (read_items s square read n all (i + 1))) ≡ Some (found, j) →
    ((found : Trees) (j : ℕ) → read_items s square read n all (i + 1) ≡ Some (found, j) → FurtherItems s room square all found (i + 1) j) →
    (rest : Trees) × (found ≡ join all rest) × AreFurther s rest (closing square) i j × (deepest_tree rest ≤ room)
rest_by s room square read n all i true q found j h ih =
    let same = both_are all (i + 1) found j h in (
      none,
      sym same.0 ∙ sym (join_none all),
      (closes_is square (kind s i) q, sym same.1),
      omega arith,
    )
rest_by s room square read n all i false q found j h ih =
    let c = when_ok (is_mark m.Comma (kind s i)) (read_items s square read n all (i + 1)) (found, j) h in
    let r = ih found j c.1 in
    let a : nesting r.0 ≤ room = r.6 in
    let d : deepest_tree r.1 ≤ room = r.7 in
    (more r.0 r.1, r.3, (r.2, mark_is m.Comma (kind s i) c.0, r.4, r.5), omega arith)

items_ok : (s : Source) (room : ℕ) (square : Bool) (read : ℕ → Found Tree) → ReadsExpressions s room read → (n : ℕ) (all : Trees) (i : ℕ) (found : Trees) (j : ℕ) → read_items s square read n all i ≡ Some (found, j) → FurtherItems s room square all found i j
unfolding read_items
items_ok s room square read ok zero all i found j h = never (found, j) h
items_ok s room square read ok (suc n) all i found j h =
    let a = bind_ok (read i) (λ a. items_rest square (read_items s square read n) (put all a.0) a.1 (kind s a.1)) (found, j) h in
    let r = rest_by s room square read n (put all a.0.0) a.0.1 (closes square (kind s a.0.1)) (refl {a = closes square (kind s a.0.1)}) found j a.2 (items_ok s room square read ok n (put all a.0.0) (a.0.1 + 1)) in
    let x = ok i a.0.0 a.0.1 a.1 in
    (a.0.0, r.0, a.0.1, r.1 ∙ join_put all a.0.0 r.0, x.0, r.2, x.1, r.3)

listed_by : (s : Source) (room : ℕ) (square : Bool) (read : ℕ → Found Tree) → ReadsExpressions s room read → (i : ℕ) (b : Bool) → closes square (kind s i) ≡ b → (all : Trees) (j : ℕ) → (if b then Some (none, i + 1) else read_items s square read (length s.tokens) none i) ≡ Some (all, j) → AreListed s all (closing square) i j × (deepest_tree all ≤ room)
listed_by s room square read ok i true q all j h =
    moved (λ (z : Trees × ℕ). AreListed s z.0 (closing square) i z.1 × (deepest_tree z.0 ≤ room)) (none, i + 1) (all, j) h
    ((closes_is square (kind s i) q, refl), omega arith)
listed_by s room square read ok i false q all j h =
    let r = items_ok s room square read ok (length s.tokens) none i all j h in
    let a : nesting r.0 ≤ room = r.6 in
    let d : deepest_tree r.1 ≤ room = r.7 in
    subst (λ (z : Trees). AreListed s z (closing square) i j × (deepest_tree z ≤ room)) (sym r.3) ((r.2, r.4, r.5), omega arith)

pub listed_ok : (s : Source) (room : ℕ) (square : Bool) (read : ℕ → Found Tree) → ReadsExpressions s room read → (i : ℕ) (all : Trees) (j : ℕ) → read_listed s square read i ≡ Some (all, j) → AreListed s all (closing square) i j × (deepest_tree all ≤ room)
unfolding read_listed
listed_ok s room square read ok i all j h = listed_by s room square read ok i (closes square (kind s i)) refl all j h

-- arguments in parentheses from i on
pub arguments_ok : (s : Source) (room : ℕ) (read : ℕ → Found Tree) → ReadsExpressions s room read → (i n : ℕ) → n ≡ i + 1 → (all : Trees) (j : ℕ) → read_arguments s read i ≡ Some (all, j) → IsMark s i m.OpenParenthesis × AreListed s all m.CloseParenthesis n j × (deepest_tree all ≤ room)
unfolding read_arguments
arguments_ok s room read ok i n e all j h =
    let o = when_ok (is_mark m.OpenParenthesis (kind s i)) (read_listed s false read (i + 1)) (all, j) h in
    let r = listed_ok s room false read ok (i + 1) all j o.1 in
    (mark_is m.OpenParenthesis (kind s i) o.0, subst (λ (x : ℕ). AreListed s all m.CloseParenthesis x j) (sym e) r.0, r.1)

-- 3. Statements.

-- what a reader of statements keeps
abbrev pub ReadsStatements : Source → (room : ℕ) → (f l : Bool) → (ℕ → Found Statement) → Type 0
ReadsStatements s room f l read = (i : ℕ) (a : Statement) (j : ℕ) → read i ≡ Some (a, j) → IsStatement s f l a i j × (statement_nesting a ≤ room)

-- what statements that are read behind others add to them
abbrev FurtherStatements : Source → (room : ℕ) (f l : Bool) (all found : Statements) → ℕ → ℕ → Type 0
FurtherStatements s room f l all found i j =
    (rest : Statements) × (found ≡ join_statements all rest) × InBlock s f l rest i j × (deepest_statement rest ≤ room)

statements_by : (s : Source) (room : ℕ) (f l : Bool) (read : ℕ → Found Statement) → ReadsStatements s room f l read → (n : ℕ) (all : Statements) (i : ℕ) (b : Bool) → is_mark m.CloseBrace (kind s i) ≡ b → (found : Statements) (j : ℕ) → (if b then Some (all, i + 1) else (read i >>= λ a. read_statements s read n (put_statement all a.0) a.1)) ≡ Some (found, j) →
    ((all : Statements) (i : ℕ) (found : Statements) (j : ℕ) → read_statements s read n all i ≡ Some (found, j) → FurtherStatements s room f l all found i j) →
    FurtherStatements s room f l all found i j
statements_by s room f l read ok n all i true q found j h ih =
    let same = both_are all (i + 1) found j h in (
      done,
      sym same.0 ∙ sym (join_done all),
      (mark_is m.CloseBrace (kind s i) q, sym same.1),
      omega arith,
    )
statements_by s room f l read ok n all i false q found j h ih =
    let a = bind_ok (read i) (λ a. read_statements s read n (put_statement all a.0) a.1) (found, j) h in
    let x = ok i a.0.0 a.0.1 a.1 in
    let r = ih (put_statement all a.0.0) a.0.1 found j a.2 in
    (also a.0.0 r.0, r.1 ∙ join_put_statement all a.0.0 r.0, (a.0.1, x.0, r.2), omega (arith, x.1, r.3))

statements_ok : (s : Source) (room : ℕ) (f l : Bool) (read : ℕ → Found Statement) → ReadsStatements s room f l read → (n : ℕ) (all : Statements) (i : ℕ) (found : Statements) (j : ℕ) → read_statements s read n all i ≡ Some (found, j) → FurtherStatements s room f l all found i j
unfolding read_statements
statements_ok s room f l read ok zero all i found j h = never (found, j) h
statements_ok s room f l read ok (suc n) all i found j h =
    statements_by s room f l read ok n all i (is_mark m.CloseBrace (kind s i)) refl found j h (statements_ok s room f l read ok n)

-- a block from i on
pub block_ok : (s : Source) (room : ℕ) (f l : Bool) (read : ℕ → Found Statement) → ReadsStatements s room f l read → (i : ℕ) (all : Statements) (j : ℕ) → read_block s read i ≡ Some (all, j) → IsMark s i m.OpenBrace × InBlock s f l all (i + 1) j × (deepest_statement all ≤ room)
unfolding read_block
block_ok s room f l read ok i all j h =
    let o = when_ok (is_mark m.OpenBrace (kind s i)) (read_statements s read (length s.tokens) done (i + 1)) (all, j) h in
    let r = statements_ok s room f l read ok (length s.tokens) done (i + 1) all j o.1 in
    (mark_is m.OpenBrace (kind s i) o.0, subst (λ (z : Statements). InBlock s f l z (i + 1) j) (sym r.1) r.2, subst (λ (z : Statements). deepest_statement z ≤ room) (sym r.1) r.3)
