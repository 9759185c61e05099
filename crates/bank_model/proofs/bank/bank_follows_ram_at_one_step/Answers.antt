use Rattle.bank_model.proofs.Laws.{step_follows}
use Rattle.bank_model.proofs.bank.bank_follows_ram_at_one_step.Goals as goal

pub returns : goal.returns
returns c = step_follows
