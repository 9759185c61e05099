use Rattle.bank_model.proofs.Laws.{bank_follows_instruction}
use Rattle.bank_model.proofs.bank.bank_follows_ram_at_one_instruction.Goals as goal

pub returns : goal.returns
returns c = bank_follows_instruction
