use Rattle.std.proofs.Common.{◌≡◌, drop}
use Rattle.sts_syntax.specs.TypedViews.{typed_statements}
use Rattle.sts_syntax.specs.Nodes.{expressions_of}
use Rattle.typed_limits.specs.Uses.{noted}
use Rattle.typed_limits.proofs.uses.+statement_uses.Given as goal

abbrev pub invariant-note_statements-loop-s : goal.invariant-note_statements-loop-s
invariant-note_statements-loop-s l = noted l.uses (expressions_of (typed_statements (drop l.s-index l.all))) ≡ noted l.initial.uses (expressions_of (typed_statements l.all))
