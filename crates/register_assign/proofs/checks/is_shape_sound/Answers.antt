use Rattle.std.proofs.Common.{arith}
use Rattle.register_assign.proofs.checks.is_shape_sound.Goals as goal

pub returns : goal.returns
returns c = (
  λ h. record { one_each = omega arith; within = c.are_within.ensures.0 c.if-not-are_within.false; parameters = c.are_parameters_sound.ensures.0 h },
  λ s. c.are_parameters_sound.ensures.1 s.parameters,
)
