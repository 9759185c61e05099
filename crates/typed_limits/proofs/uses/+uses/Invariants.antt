use Rattle.std.proofs.Common.{◌≡◌, drop}
use Rattle.sts_syntax.specs.TypedViews.{typed_trees}
use Rattle.sts_syntax.specs.Nodes.{nodes_of}
use Rattle.typed_limits.specs.Uses.{noted}
use Rattle.typed_limits.proofs.uses.+uses.Given as goal

-- what is noted, with what is left to note, is the whole
abbrev pub invariant-note_each-loop-e : goal.invariant-note_each-loop-e
invariant-note_each-loop-e l = noted l.uses (nodes_of (typed_trees (drop l.e-index l.all))) ≡ noted l.initial.uses (nodes_of (typed_trees l.all))
