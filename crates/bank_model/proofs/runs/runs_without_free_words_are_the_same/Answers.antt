use Rattle.bank_model.proofs.FreeRuns.{free_words_dont_matter}
use Rattle.bank_model.proofs.runs.runs_without_free_words_are_the_same.Goals as goal

pub returns : goal.returns
returns c = free_words_dont_matter
