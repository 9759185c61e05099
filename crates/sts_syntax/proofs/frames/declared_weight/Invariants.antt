use Rattle.std.proofs.Common.{◌≡◌, ◌+◌, ◌-◌, ◌^◌, ◌≤◌, min, drop}
use Rattle.sts_syntax.specs.TypedViews.{typed_declarations}
use Rattle.sts_syntax.specs.Weights.{declared_weight}
use Rattle.sts_syntax.proofs.frames.declared_weight.Given as goal

abbrev pub invariant-loop-binding : goal.invariant-loop-binding
invariant-loop-binding l = record {
  sum : min (l.weight + declared_weight (typed_declarations (drop l.binding-index l.each))) (2 ^ 64 - 1) ≡ min (declared_weight (typed_declarations l.each)) (2 ^ 64 - 1);
  fits : l.weight ≤ 2 ^ 64 - 1;
}
