use Rattle.std.proofs.Common.{◌≡◌, ◌+◌, drop}
use Rattle.sts_syntax.specs.TypedViews.{typed_declarations}
use Rattle.sts_lower.specs.Sizes.{declared_size}
use Rattle.sts_lower.proofs.statement_sizes.declared_size.Given as goal

abbrev pub invariant-loop-binding : goal.invariant-loop-binding
invariant-loop-binding l = l.sum + declared_size (typed_declarations (drop l.binding-index l.each)) ≡ declared_size (typed_declarations l.each)
