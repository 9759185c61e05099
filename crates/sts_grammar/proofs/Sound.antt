-- What is read is spelled, and has at most the nesting that it is read with.
use Rattle.std.proofs.Common.{◌≡◌, ℕ, zero, suc, ◌+◌, ◌<◌, ◌≤◌, List, refl, arith}
use Rattle.std.specs.Prelude.{Bool, true, false, Option, Some, None, length}
use Rattle.sts_lexer.specs.declared.marks.Mark.TheVariants as m
use Rattle.sts_syntax.specs.Annotations.{Annotation}
use Rattle.sts_syntax.specs.Trees.{Parameter, Tree, Trees, OptionalTree, Statement, Statements, Declaration, Declarations}
use Rattle.sts_syntax.specs.Nesting.{nesting, deepest_tree, statement_nesting, deepest_statement, declaration_nesting, deepest_declaration}
use Rattle.sts_grammar.specs.Source.{Source, kind, IsMark, is_mark}
use Rattle.sts_grammar.specs.Headings.{IsType, HasType, HasResult, AreParameters, IsArrowBehind}
use Rattle.sts_grammar.specs.Operands.{IsOperand}
use Rattle.sts_grammar.specs.Ends.{declarations_continue, Ends}
use Rattle.sts_grammar.specs.Spells.{IsBare, AreListed, IsStatement, InBlock, AreDeclared, IsDeclared, IsWholeExpression}
use Rattle.sts_grammar.specs.ReadHeadings.{read_type, read_optional_type, read_optional_result, read_parameters, read_heading, read_arrow_heading, begins_arrow, is_arrow_behind}
use Rattle.sts_grammar.specs.ReadExpressions.{binds_before, read_listed, read_block}
use Rattle.sts_grammar.specs.ReadStatements.{read_end, read_initialiser, read_declaration, read_let}
use Rattle.sts_grammar.specs.Reading.{expression, statement, expression_readers, statement_readers}
use Rattle.sts_grammar.proofs.Tokens.{never, closing}
use Rattle.sts_grammar.proofs.SoundHeadings.{type_ok, optional_type_ok, optional_result_ok, IsHeading, parameters_ok, heading_ok, arrow_heading_ok, begins_arrow_ok}
use Rattle.sts_grammar.proofs.Headings.{no_arrow_behind}
use Rattle.sts_grammar.proofs.SoundLists.{listed_ok, block_ok}
use Rattle.sts_grammar.proofs.SoundPrimaries.{IsRead, AreSound}
use Rattle.sts_grammar.proofs.SoundExpressions.{operand_ok}
use Rattle.sts_grammar.proofs.SoundDeclarations.{nothing_binds, end_ok, ReadsWhole, StopsDeclared, IsInitialiser, initialiser_ok, declaration_ok, let_ok}
use Rattle.sts_grammar.proofs.SoundStatements.{statement_ok}

-- what is proved by recursion on the nesting
record IsSound (s : Source) (room : ℕ) : Type 0 where
  expr_ok : (upto l i : ℕ) (e : Tree) (j : ℕ) → expression s upto room l i ≡ Some (e, j) → 1 ≤ l → l ≤ 12 → IsRead s upto room l e i j
  stmt_ok : (f l : Bool) (i : ℕ) (a : Statement) (j : ℕ) → statement s room f l i ≡ Some (a, j) → IsStatement s f l a i j × (statement_nesting a ≤ room)

readers_of : (s : Source) (upto room : ℕ) → IsSound s room → AreSound s upto room (expression_readers s upto room)
readers_of s upto room ok = record {
  expr_ok = λ l i e j h one most. ok.expr_ok upto l i e j h one most;
  stmt_ok = λ f l i a j h. ok.stmt_ok f l i a j h;
}

sound : (s : Source) (room : ℕ) → IsSound s room
unfolding expression
sound s zero = record {
  expr_ok = λ upto l i e j h one most. never (e, j) h;
  stmt_ok = λ f l i a j h. never (a, j) h;
}
sound s (suc room) = record {
  expr_ok = λ upto l i e j h one most. operand_ok s upto room (expression_readers s upto room) (readers_of s upto room (sound s room)) l i e j h one most;
  stmt_ok = λ f l i a j h. statement_ok s room (statement_readers s room) (readers_of s (length s.tokens) room (sound s room)) f l i (kind s i) refl a j h;
}

-- What is read as an operand of at least level l is one, and what stands behind it before `upto` binds less tightly.
pub sound_expression : (s : Source) (upto room l i : ℕ) (e : Tree) (j : ℕ) → expression s upto room l i ≡ Some (e, j) → 1 ≤ l → l ≤ 12 → IsOperand s l e (IsBare s e) i j × (nesting e ≤ room) × (binds_before s upto j < l)
sound_expression s upto room l i e j h one most = (sound s room).expr_ok upto l i e j h one most

-- What is read as a statement is one.
pub sound_statement : (s : Source) (room : ℕ) (f l : Bool) (i : ℕ) (a : Statement) (j : ℕ) → statement s room f l i ≡ Some (a, j) → IsStatement s f l a i j × (statement_nesting a ≤ room)
sound_statement s room f l i a j h = (sound s room).stmt_ok f l i a j h

-- The readers of what has at most a nesting keep to the grammar.
pub sound_readers : (s : Source) (upto room : ℕ) → AreSound s upto room (expression_readers s upto room)
sound_readers s upto room = readers_of s upto room (sound s room)

-- An expression that is read up to where nothing goes on with it is a whole one.
pub sound_whole : (s : Source) (room i : ℕ) (e : Tree) (j : ℕ) → expression s (length s.tokens) room 1 i ≡ Some (e, j) → IsWholeExpression s e i j × (nesting e ≤ room)
sound_whole s room i e j h =
    let r = sound_expression s (length s.tokens) room 1 i e j h (omega arith) (omega arith) in ((r.0, nothing_binds s j r.2), r.1)

reads_whole : (s : Source) (room : ℕ) → ReadsWhole s room (expression s (length s.tokens) room 1)
reads_whole s room i e j h = let r = sound_whole s room i e j h in (r.0.0, r.1, r.0.1)

-- Expressions with commas between them, and the closing mark.
pub sound_listed : (s : Source) (upto room : ℕ) (square : Bool) (i : ℕ) (all : Trees) (j : ℕ) → read_listed s square (expression s upto room 1) i ≡ Some (all, j) → AreListed s all (closing square) i j × (deepest_tree all ≤ room)
sound_listed s upto room square i all j h =
    listed_ok s room square (expression s upto room 1) (λ i e j h. let r = sound_expression s upto room 1 i e j h (omega arith) (omega arith) in (r.0, r.1)) i all j h

-- A block.
pub sound_block : (s : Source) (room : ℕ) (f l : Bool) (i : ℕ) (all : Statements) (j : ℕ) → read_block s (statement s room f l) i ≡ Some (all, j) → IsMark s i m.OpenBrace × InBlock s f l all (i + 1) j × (deepest_statement all ≤ room)
sound_block s room f l i all j h = block_ok s room f l (statement s room f l) (λ i a j h. sound_statement s room f l i a j h) i all j h

-- An initialiser, or none: with its name and type it is a declared name that only a comma goes on with.
pub sound_initialiser : (s : Source) (room : ℕ) (fixed : Bool) (i : ℕ) (first : OptionalTree) (j : ℕ) → read_initialiser (expression s (length s.tokens) room 1) fixed (is_mark m.Assign (kind s i)) i ≡ Some (first, j) → IsInitialiser s room fixed first i j
sound_initialiser s room fixed i first j h = initialiser_ok s room (expression s (length s.tokens) room 1) (reads_whole s room) fixed i (is_mark m.Assign (kind s i)) refl first j h

-- A declared name.
pub sound_declaration : (s : Source) (room : ℕ) (fixed : Bool) (i : ℕ) (a : Declaration) (j : ℕ) → read_declaration s (expression s (length s.tokens) room 1) fixed i ≡ Some (a, j) → IsDeclared s fixed a i j × (declaration_nesting a ≤ suc room) × StopsDeclared s a j
sound_declaration s room fixed i a j h = declaration_ok s room (expression s (length s.tokens) room 1) (reads_whole s room) fixed i a j h

-- Declared names behind a `let` or `const`: nothing goes on with the last.
pub sound_let : (s : Source) (room : ℕ) (fixed : Bool) (i : ℕ) (each : Declarations) (j : ℕ) → read_let s (expression s (length s.tokens) room 1) fixed i ≡ Some (each, j) → AreDeclared s fixed each i j × (deepest_declaration each ≤ suc room) × (declarations_continue s each j ≡ false)
sound_let s room fixed i each j h = let_ok s room (expression s (length s.tokens) room 1) (reads_whole s room) fixed i each j h

-- The end of a statement that the token there doesn't go on with.
pub sound_end : (s : Source) (goes_on : Bool) → goes_on ≡ false → (i j : ℕ) → read_end s i ≡ Some j → Ends s goes_on i j
sound_end s goes_on g i j h = end_ok s goes_on g i j h

-- A type, perhaps none, and a result's type.
pub sound_type : (s : Source) (i : ℕ) (t : Annotation) (j : ℕ) → read_type s i ≡ Some (t, j) → IsType s t i j
sound_type s i t j h = type_ok s i t j h

pub sound_optional_type : (s : Source) (i : ℕ) (t : Option Annotation) (j : ℕ) → read_optional_type s i ≡ Some (t, j) → HasType s t i j × (t ≡ None → is_mark m.Colon (kind s j) ≡ false)
sound_optional_type s i t j h = optional_type_ok s i t j h

pub sound_result : (s : Source) (i : ℕ) (t : Option Annotation) (j : ℕ) → read_optional_result s i ≡ Some (t, j) → HasResult s t i j
sound_result s i t j h = optional_result_ok s i t j h

-- Parameters, and a heading.
pub sound_parameters : (s : Source) (i : ℕ) (all : List Parameter) (j : ℕ) → read_parameters s i ≡ Some (all, j) → AreParameters s all i j
sound_parameters s i all j h = parameters_ok s i all j h

pub sound_heading : (s : Source) (i : ℕ) (head : List Parameter × Option Annotation) (j : ℕ) → read_heading s i ≡ Some (head, j) →
    (n : ℕ) × IsMark s i m.OpenParenthesis × AreParameters s head.0 (i + 1) n × HasResult s head.1 n j
sound_heading s i head j h = heading_ok s i head j h

-- The heading of an arrow, and what begins like one.
pub sound_arrow_heading : (s : Source) (i : ℕ) (head : List Parameter × Option Annotation) (j : ℕ) → read_arrow_heading s i ≡ Some (head, j) → (n : ℕ) × IsHeading s head.0 head.1 i n × IsMark s n m.Arrow × (j ≡ n + 1)
sound_arrow_heading s i head j h = arrow_heading_ok s i head j h

pub sound_begins_arrow : (s : Source) (i : ℕ) → begins_arrow s i ≡ true → (params : List Parameter) × (gives : Option Annotation) × (n : ℕ) × IsHeading s params gives i n × IsMark s n m.Arrow
sound_begins_arrow s i h = begins_arrow_ok s i h

-- Where no arrow is seen behind a `)`, none goes on there.
pub sound_no_arrow : (s : Source) (i : ℕ) → is_arrow_behind s i ≡ false → ¬ (IsArrowBehind s i)
sound_no_arrow s i h = no_arrow_behind s i h
