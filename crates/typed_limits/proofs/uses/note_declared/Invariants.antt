use Rattle.std.proofs.Common.{◌≡◌, drop}
use Rattle.sts_syntax.specs.TypedViews.{typed_declarations}
use Rattle.sts_syntax.specs.Nodes.{declared_nodes}
use Rattle.typed_limits.specs.Uses.{noted}
use Rattle.typed_limits.proofs.uses.note_declared.Given as goal

abbrev pub invariant-loop-binding : goal.invariant-loop-binding
invariant-loop-binding l = noted l.uses (declared_nodes (typed_declarations (drop l.binding-index l.each))) ≡ noted l.initial.uses (declared_nodes (typed_declarations l.each))
