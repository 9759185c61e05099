-- What the readers of statements and expressions find, for the readers of a whole text.
use Rattle.std.proofs.Common.{◌≡◌, ◌≢◌, ℕ, ◌+◌, ◌≤◌, length, refl, ap, ◌∙◌, arith}
use Rattle.std.specs.Prelude.{Bool, true, false, Option, Some, None}
use Rattle.std.proofs.lemmas.Bool.{false≢true}
use Rattle.sts_lexer.specs.declared.words.Word.TheVariants as w
use Rattle.sts_lexer.specs.declared.token.TokenKind.{TokenKind}
use Rattle.sts_lexer.specs.declared.token.TokenKind.TheVariants as k
use Rattle.sts_syntax.specs.Annotations.{Annotation}
use Rattle.sts_syntax.specs.Trees.{OptionalTree, absent, present, Statement, Block, Let, IfOnly, IfElse, While, DoWhile, For, ForOf, Return, Break, Continue, Plain, Empty}
use Rattle.sts_syntax.specs.Nesting.{optional_nesting}
use Rattle.sts_lexer.specs.declared.marks.Mark.TheVariants as m
use Rattle.sts_grammar.specs.Source.{Source, kind, is_mark}
use Rattle.sts_grammar.specs.Operands.{IsLet}
use Rattle.sts_grammar.specs.Ends.{binds}
use Rattle.sts_grammar.specs.Spells.{IsInitialised, IsStatement, InBlock}
use Rattle.sts_grammar.specs.ReadHeadings.{is_pair}
use Rattle.sts_grammar.specs.ReadStatements.{read_initialiser}
use Rattle.sts_grammar.specs.Reading.{expression, statement_readers}
use Rattle.sts_grammar.proofs.Sound.{sound_statement, sound_block, sound_heading, sound_parameters, sound_optional_type, sound_initialiser, sound_end}
use Rattle.sts_grammar.proofs.Complete.{complete_stmt, complete_block, complete_heading, complete_initialiser}
use Rattle.sts_grammar.proofs.Headings.{Stops, optional_type_reads, parameters_reads}
use Rattle.sts_grammar.proofs.Levels.{end_reads}
use Rattle.sts_grammar.proofs.Begins.{begins, operand_begins}
use Rattle.sts_grammar.proofs.Spans.{Reaches, mark_in, member_in, has_type_spans, ends_spans, routine_spans, operand_spans, bare_spans, statement_spans, block_spans}
use Rattle.sts_grammar.specs.ReadUnits.{read_main, read_part, is_finish}
use Rattle.sts_grammar.proofs.SoundUnits.{SoundBelow}
use Rattle.sts_grammar.proofs.CompleteUnits.{CompleteBelow}

pub sound_below : (s : Source) → SoundBelow s
sound_below s = record {
  statement_ok = λ room f l i a j h. sound_statement s room f l i a j h;
  block_ok = λ room i all j h. sound_block s room true false i all j h;
  heading_ok = λ i head j h. sound_heading s i head j h;
  parameters_ok = λ i params j h. sound_parameters s i params j h;
  type_ok = λ i shape j h. sound_optional_type s i shape j h;
  initialiser_ok = λ room i first j h. sound_initialiser s room false i first j h;
  end_ok = λ i j h. sound_end s false refl i j h;
}

-- A part of a text that begins with a token that begins no class and no function is a statement.
begins_main : (s : Source) (room i : ℕ) (t : TokenKind) → begins t ≡ true → ((entry : ℕ) → t ≡ k.Word w.Class entry → ⊥) → ((entry : ℕ) → t ≡ k.Word w.Function entry → ⊥)
    → (read_part s room i t ≡ read_main (statement_readers s room) i) × (is_finish t ≡ false)
begins_main s room i (k.Word w.Class entry) b c f = absurd (c entry refl)
begins_main s room i (k.Word w.Function entry) b c f = absurd (f entry refl)
begins_main s room i k.Finish b c f = absurd (false≢true b)
begins_main s room i t b c f = (refl, refl)

module _ (s : Source) (room i : ℕ) where
  abbrev Main : Type 0
  Main = (read_part s room i (kind s i) ≡ read_main (statement_readers s room) i) × (is_finish (kind s i) ≡ false)

  let_main : (fixed : Bool) → IsLet s fixed i → Main
  let_main false h = (ap (read_part s room i) h.1, ap is_finish h.1)
  let_main true h = (ap (read_part s room i) h.1, ap is_finish h.1)

  statement_main : (a : Statement) (j : ℕ) → IsStatement s false false a i j → Main
  statement_main (Block at all) j h = (ap (read_part s room i) h.1, ap is_finish h.1)
  statement_main (Let at fixed each) j h = let_main fixed h.2
  statement_main (IfOnly at c a) j h = (ap (read_part s room i) h.2.1, ap is_finish h.2.1)
  statement_main (IfElse at c a b) j h = (ap (read_part s room i) h.3.1, ap is_finish h.3.1)
  statement_main (While at c a) j h = (ap (read_part s room i) h.2.1, ap is_finish h.2.1)
  statement_main (DoWhile at a c) j h = (ap (read_part s room i) h.3.1, ap is_finish h.3.1)
  statement_main (For at first c step a) j h = (ap (read_part s room i) h.4.1, ap is_finish h.4.1)
  statement_main (ForOf at fixed name list a) j h = (ap (read_part s room i) h.2.1, ap is_finish h.2.1)
  statement_main (Return at value) j h = absurd (false≢true h.1)
  statement_main (Break at) j h = absurd (false≢true h.1)
  statement_main (Continue at) j h = absurd (false≢true h.1)
  statement_main (Plain at a) j h =
      begins_main s room i (kind s i) (operand_begins s 1 a i h.0 h.3) (λ entry q. h.2.no_class (entry, q)) (λ entry q. h.2.no_function (entry, q))
  statement_main (Empty at) j h = (ap (read_part s room i) h.1, ap is_finish h.1)

type_stops : (s : Source) (shape : Option Annotation) (j : ℕ) → is_pair s j ≡ false → (shape ≡ None → is_mark m.Colon (kind s j) ≡ false) → Stops s shape j
type_stops s None j pair colon = colon refl
type_stops s (Some shape) j pair colon = pair

initialised_reads : (s : Source) (room i : ℕ) (first : OptionalTree) (j : ℕ) → IsInitialised s false first i j → optional_nesting first ≤ room → (first ≡ absent → is_mark m.Assign (kind s j) ≡ false) → (first ≢ absent → binds s j ≡ 0)
    → read_initialiser (expression s (length s.tokens) room 1) false (is_mark m.Assign (kind s i)) i ≡ Some (first, j)
initialised_reads s room i absent j h fit assign whole =
    ap (λ x. read_initialiser (expression s (length s.tokens) room 1) false x i) (ap (λ x. is_mark m.Assign (kind s x)) h.1 ∙ assign refl) ∙ ap (λ x. Some (absent, x)) h.1
initialised_reads s room i (present a) j h fit assign whole = complete_initialiser s room false (present a) i j h fit (whole (λ e. cc))

initialised_spans : (s : Source) (first : OptionalTree) (i j : ℕ) → IsInitialised s false first i j → Reaches s i j
initialised_spans s absent i j h = record { less = omega (arith, h.1); inside = λ le. omega (arith, h.1) }
initialised_spans s (present a) i j h = let r = operand_spans s 1 a _ (bare_spans s a) (i + 1) j h.1 in let less = r.less in record { less = omega arith; inside = λ le. r.inside }

pub complete_below : (s : Source) → CompleteBelow s
complete_below s = record {
  statement_reads = λ room f l i a j h fit. complete_stmt s room f l a i j h fit;
  begins = λ room i a j h. statement_main s room i a j h;
  statement_less = λ i a j h. (let r = statement_spans s false false a i j h in (r.less, r.inside));
  routine_less = λ params gives all i j h. (let r = routine_spans s params gives false (InBlock s true false all) (block_spans s true false all) i j h in (r.less, r.inside));
  block_reads = λ room i all j brace h fit. complete_block s room true false all i j brace h fit;
  heading_reads = λ i n params gives j o p r b. complete_heading s params gives i n j o p r b;
  parameters_reads = λ i params j h. parameters_reads s params i j h;
  type_reads = λ i shape j h pair colon. optional_type_reads s shape i j h (type_stops s shape j pair colon);
  end_reads = λ goes_on i j h. end_reads s goes_on i j h;
  field_spans = λ shape first goes_on i n o j t f e le.
      (let a = has_type_spans s shape i n t in let b = initialised_spans s first n o f in let c = ends_spans s goes_on o j e in
      let up = a.less in let more = b.less in let most = c.less in (omega arith, c.inside (b.inside (a.inside le))));
  mark_inside = λ i mark h. mark_in s i mark h;
  member_inside = λ i name h. member_in s i name h;
  initialiser_reads = λ room i first j h fit assign whole. initialised_reads s room i first j h fit assign whole;
}
