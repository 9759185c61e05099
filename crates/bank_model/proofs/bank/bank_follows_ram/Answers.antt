use Rattle.bank_model.proofs.Laws.{bank_follows_steps}
use Rattle.bank_model.proofs.bank.bank_follows_ram.Goals as goal

pub returns : goal.returns
returns c = bank_follows_steps
