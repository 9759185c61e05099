use Rattle.bank_model.proofs.UsedWords.{used_counted}
use Rattle.bank_model.proofs.runs.used_words_are_counted.Goals as goal

pub returns : goal.returns
returns c = used_counted
