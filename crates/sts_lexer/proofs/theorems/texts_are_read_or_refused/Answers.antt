use Rattle.sts_lexer.proofs.SomeReading.{some_reading}
use Rattle.sts_lexer.proofs.theorems.texts_are_read_or_refused.Goals as goal

pub returns : goal.returns
returns c = some_reading
