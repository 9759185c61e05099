use Rattle.std.proofs.Common.{◌≡◌, ◌+◌, ◌++◌, drop}
use Rattle.sts_syntax.specs.Views.{parameters}
use Rattle.type_derive.specs.Functions.{parameter_spots}
use Rattle.typed_trees.proofs.build_functions.parameter_spots.Given as goal

abbrev pub invariant-loop-param : goal.invariant-loop-param
invariant-loop-param l = record {
  all : l.all ++ parameter_spots l.at (parameters (drop l._param-index l.params)) ≡ parameter_spots l.first (parameters l.params);
  at : l.at ≡ l.first + l._param-index;
}
