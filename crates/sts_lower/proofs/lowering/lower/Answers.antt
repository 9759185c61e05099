use Rattle.std.proofs.Common.{arith}
use Rattle.sts_syntax.specs.TypedViews.{typed_program}
use Rattle.sts_lower.proofs.Made.{all_lowerable, few_fields, few_functions, routines_length}
use Rattle.sts_lower.proofs.lowering.lower.Goals as goal

pub all_functions-requires-clause-few : goal.all_functions-requires-clause-few
all_functions-requires-clause-few c =
    omega (arith, few_functions (typed_program c.args.typed.now) c.requires.limits.0 c.requires.limits.1, routines_length c.args.typed.now.functions)

pub all_functions-requires-clause-fits : goal.all_functions-requires-clause-fits
all_functions-requires-clause-fits c = all_lowerable (typed_program c.args.typed.now) c.requires.limits.0 c.requires.well_typed c.requires.limits.1

pub lower_classes-requires : goal.lower_classes-requires
lower_classes-requires c = few_fields (typed_program c.args.typed.now) c.requires.limits.0 c.requires.limits.1
