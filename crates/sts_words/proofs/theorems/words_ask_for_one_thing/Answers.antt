use Rattle.sts_words.proofs.Spelled.{some-asked, one-asked}
use Rattle.sts_words.proofs.theorems.words_ask_for_one_thing.Goals as goal

pub returns-clause-some : goal.returns-clause-some
returns-clause-some c = some-asked

pub returns-clause-one : goal.returns-clause-one
returns-clause-one c = one-asked
