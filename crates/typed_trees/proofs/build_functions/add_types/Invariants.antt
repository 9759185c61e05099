use Rattle.std.proofs.Common.{◌≡◌, ◌++◌, drop}
use Rattle.sts_syntax.specs.Types as value
use Rattle.sts_syntax.specs.Views.{parameters}
use Rattle.sts_scope.specs.Kinds as kind
use Rattle.sts_scope.specs.Entries.{parameter_kinds}
use Rattle.typed_trees.specs.Sites.{naming}
use Rattle.typed_trees.proofs.build_functions.add_types.Given as goal

abbrev pub invariant-loop-param : goal.invariant-loop-param
invariant-loop-param l =
    value.value_types l.all ++ kind.value_types (parameter_kinds (naming l.plan) (parameters (drop l.param-index l.params)))
    ≡ value.value_types l.fn.all ++ kind.value_types (parameter_kinds (naming l.plan) (parameters l.params))
