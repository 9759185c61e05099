-- What holds of the grammar, and of how it is read.
use Rattle.std.specs.Prelude.{◌≡◌, ℕ, ◌<◌, ◌≤◌, Bool, Some, None, List, length}
use Rattle.sts_syntax.specs.Trees.{Tree, Statement}
use Rattle.sts_syntax.specs.Nesting.{nesting, statement_nesting}
use Rattle.sts_grammar.specs.Precedence.{assignment_level, prefix_level}
use Rattle.sts_grammar.specs.Limits.{most_nesting}
use Rattle.sts_grammar.specs.Source.{Source}
use Rattle.sts_grammar.specs.Operands.{IsOperand}
use Rattle.sts_grammar.specs.Spells.{IsBare, IsStatement, IsExpression, IsWholeExpression}
use Rattle.sts_grammar.specs.Longest.{IsLongestExpression, NoExpression, IsLongestStatement, NoStatement}
use Rattle.sts_grammar.specs.ReadExpressions.{binds_before}
use Rattle.sts_grammar.specs.Reading.{expression, statement, longest_expression}
use Rattle.sts_base.specs.declared.refused.Code.{Code}
use Rattle.sts_syntax.specs.Programs.{Program}
use Rattle.sts_grammar.specs.Texts.{SpellsProgram, SpellsNone}
use Rattle.sts_grammar.specs.Units.{AreParts, IsProgram}
use Rattle.sts_grammar.specs.ReadUnits.{read_program}

-- Tokens spell at most one tree: between two places one expression; from a place on one expression that the next token doesn't go on
-- with, one longest, and one statement, each with one end.
pub record OneTree : Type 0 where
  pub between : (s : Source) (i j : ℕ) (e e' : Tree) → IsExpression s e i j → IsExpression s e' i j → e ≡ e'
  pub whole : (s : Source) (i : ℕ) (e : Tree) (j : ℕ) (e' : Tree) (j' : ℕ) → IsWholeExpression s e i j
      → IsWholeExpression s e' i j' → (e ≡ e') × (j ≡ j')
  pub longest : (s : Source) (i : ℕ) (e : Tree) (j : ℕ) (e' : Tree) (j' : ℕ) → IsLongestExpression s i e j
      → IsLongestExpression s i e' j' → (e ≡ e') × (j ≡ j')
  pub statement : (s : Source) (f l : Bool) (i : ℕ) (a : Statement) (j : ℕ) (a' : Statement) (j' : ℕ)
      → IsStatement s f l a i j → IsStatement s f l a' i j' → (a ≡ a') × (j ≡ j')

-- What the tokens spell is read, where there is room for its nesting: an operand, where no token before `upto` goes on with it, and
-- a statement.
pub record SpelledIsRead : Type 0 where
  pub operand : (s : Source) (upto room l : ℕ) (e : Tree) (i j : ℕ) → IsOperand s l e (IsBare s e) i j
      → nesting e ≤ room → j ≤ upto
      → binds_before s upto j < l → expression s upto room l i ≡ Some (e, j)
  pub statement : (s : Source) (room : ℕ) (f l : Bool) (a : Statement) (i j : ℕ) → IsStatement s f l a i j
      → statement_nesting a ≤ room
      → statement s room f l i ≡ Some (a, j)

-- What is read is spelled, with at most the nesting that there is room for, and the token behind an operand binds less tightly.
pub record ReadIsSpelled : Type 0 where
  pub operand : (s : Source) (upto room l i : ℕ) (e : Tree) (j : ℕ) → expression s upto room l i ≡ Some (e, j)
      → assignment_level ≤ l → l ≤ prefix_level
      → IsOperand s l e (IsBare s e) i j × (nesting e ≤ room) × (binds_before s upto j < l)
  pub statement : (s : Source) (room : ℕ) (f l : Bool) (i : ℕ) (a : Statement) (j : ℕ)
      → statement s room f l i ≡ Some (a, j)
      → IsStatement s f l a i j × (statement_nesting a ≤ room)

-- The longest expression from a token on is read, and the longest statement, or there is none.
pub record LongestIsRead : Type 0 where
  pub longest_tree : (s : Source) (i : ℕ) (e : Tree) (j : ℕ) → longest_expression s (length s.tokens) i ≡ Some (e, j)
      → IsLongestExpression s i e j
  pub no_tree : (s : Source) (i : ℕ) → longest_expression s (length s.tokens) i ≡ None → NoExpression s i
  pub longest_statement : (s : Source) (f l : Bool) (i : ℕ) (a : Statement) (j : ℕ)
      → statement s most_nesting f l i ≡ Some (a, j) → IsLongestStatement s f l i a j
  pub no_statement : (s : Source) (f l : Bool) (i : ℕ) → statement s most_nesting f l i ≡ None → NoStatement s f l i

-- The tokens of a whole text spell at most one program, whatever its nesting.
pub record OneProgram : Type 0 where
  pub one : (s : Source) (p q : Program) → AreParts s p 0 → AreParts s q 0 → p ≡ q

-- The program that is read of a whole text is the one that its tokens spell; where none is read they spell none within the nesting.
pub record ProgramIsRead : Type 0 where
  pub read : (s : Source) (program : Program) → read_program s ≡ Some program → IsProgram s program
  pub unread : (s : Source) → read_program s ≡ None → (program : Program) → ¬ (IsProgram s program)

-- A text spells a program or is refused, and never both; it spells one program.
pub record OneVerdict : Type 0 where
  pub either : (text : List ℕ) (code : Code) (at : ℕ) → SpellsProgram text → SpellsNone text code at → ⊥
  pub program : (text : List ℕ) (a b : SpellsProgram text) → a.program ≡ b.program
