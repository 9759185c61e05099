use Rattle.lowered_code.proofs.Named.{program_fits}
use Rattle.lowered_code.proofs.texts.its_numbers_have_32_bits.Goals as goal

pub returns : goal.returns
returns c = λ P well. program_fits P well
