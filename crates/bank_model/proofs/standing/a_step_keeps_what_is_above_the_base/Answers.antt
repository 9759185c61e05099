use Rattle.bank_model.proofs.AboveBase.{step_keeps}
use Rattle.bank_model.proofs.standing.a_step_keeps_what_is_above_the_base.Goals as goal

pub returns : goal.returns
returns c = step_keeps
