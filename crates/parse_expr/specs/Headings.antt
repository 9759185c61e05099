-- What stands for a heading.
use Rattle.std.specs.Prelude.{ℕ, ◌+◌, List, Option, length}
use Rattle.sts_syntax.specs.Annotations.{Annotation}
use Rattle.sts_syntax.specs.Trees.{Parameter}
use Rattle.sts_syntax.specs.Views.{optional_annotation, parameters}
use Rattle.sts_grammar.specs.Source.{Source}
use Rattle.sts_grammar.specs.ReadExpressions.{opened}
use Rattle.parse_expr.specs.declared.headings.Heading.{Heading}

abbrev pub parts : Heading → List Parameter × Option Annotation
parts heading = (parameters heading.params, optional_annotation heading.gives)

-- the number of open parentheses that begin no arrow, and the token behind them
abbrev pub opened_by : Source → ℕ → ℕ × ℕ
opened_by s i = let p : ℕ = opened s (length s.tokens) i in (p, i + p)
