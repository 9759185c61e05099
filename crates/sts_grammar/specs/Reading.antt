-- How the tokens are read: a tree from a token's number on, with at most the nesting `room`, and the number behind it. This is proved
-- to find what the tokens spell.
use Rattle.std.specs.Prelude.{ℕ, zero, suc, Bool, Option, Some, None, length}
use Rattle.std.specs.Option.{option_or}
use Rattle.sts_syntax.specs.Trees.{Tree, Statement}
use Rattle.sts_grammar.specs.Precedence.{assignment_level}
use Rattle.sts_grammar.specs.Limits.{most_nesting}
use Rattle.sts_grammar.specs.Source.{Source, kind}
use Rattle.sts_grammar.specs.Found.{Found}
use Rattle.sts_grammar.specs.ReadExpressions.{Readers, read_operand}
use Rattle.sts_grammar.specs.ReadStatements.{read_statement}

unfoldable mutual
  -- An expression of at least level l, which goes on only with tokens before `upto`.
  pub expression : Source → (upto room l i : ℕ) → Found Tree
  expression s upto zero l i = None
  expression s upto (suc room) l i =
      read_operand s upto room (record { expr = expression s upto room; stmt = statement s room }) l i

  -- A statement, in a function or handler (f) and in a loop (l).
  pub statement : Source → (room : ℕ) → (f l : Bool) (i : ℕ) → Found Statement
  statement s zero f l i = None
  statement s (suc room) f l i =
      read_statement s room
      (record { expr = expression s (length s.tokens) room; stmt = statement s room }) f l i (kind s i)

-- the readers of what has at most the nesting `room`, in an expression
abbrev pub expression_readers : Source → (upto room : ℕ) → Readers
expression_readers s upto room = record { expr = expression s upto room; stmt = statement s room }

-- the same in a statement
abbrev pub statement_readers : Source → (room : ℕ) → Readers
statement_readers s room = expression_readers s (length s.tokens) room

-- The longest expression within the limit of nesting: what is read with the greatest bound, at most n, with which something is.
unfoldable pub longest_expression : Source → (n i : ℕ) → Found Tree
longest_expression s zero i = None
longest_expression s (suc n) i =
    option_or (expression s (suc n) most_nesting assignment_level i) (longest_expression s n i)
