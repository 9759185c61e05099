-- The longest expression and statement from a token on, within the limit of nesting.
use Rattle.std.specs.Prelude.{ℕ, ◌≤◌, Bool}
use Rattle.sts_syntax.specs.Trees.{Tree, Statement}
use Rattle.sts_syntax.specs.Nesting.{nesting, statement_nesting}
use Rattle.sts_grammar.specs.Limits.{most_nesting}
use Rattle.sts_grammar.specs.Source.{Source}
use Rattle.sts_grammar.specs.Spells.{IsExpression, IsStatement}

-- The longest expression from i on.
pub record IsLongestExpression (s : Source) (i : ℕ) (e : Tree) (j : ℕ) : Type 0 where
  pub spelled : IsExpression s e i j
  pub nested : nesting e ≤ most_nesting
  pub longest : (other : Tree) (end : ℕ) → IsExpression s other i end → nesting other ≤ most_nesting → end ≤ j

-- no expression begins at i
abbrev pub NoExpression : Source → ℕ → Type 0
NoExpression s i = (e : Tree) (j : ℕ) → IsExpression s e i j → nesting e ≤ most_nesting → ⊥

-- The longest statement from i on. f says that it stands in a function or handler, and l that it stands in a loop.
pub record IsLongestStatement (s : Source) (f l : Bool) (i : ℕ) (a : Statement) (j : ℕ) : Type 0 where
  pub spelled : IsStatement s f l a i j
  pub nested : statement_nesting a ≤ most_nesting
  pub longest : (other : Statement) (end : ℕ) → IsStatement s f l other i end
      → statement_nesting other ≤ most_nesting → end ≤ j

-- no statement begins at i
abbrev pub NoStatement : Source → (f l : Bool) → ℕ → Type 0
NoStatement s f l i = (a : Statement) (j : ℕ) → IsStatement s f l a i j → statement_nesting a ≤ most_nesting → ⊥
