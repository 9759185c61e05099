use Rattle.std.specs.Prelude.{Err}
use Rattle.sts_words.proofs.Digits.{number-parsed}
use Rattle.sts_words.proofs.numbers.value_of.Goals as goal

pub returns-in-Err : goal.returns-in-Err
returns-in-Err c = number-parsed c.args.number.now (Err c.in-Err.field-0) c.requires c.in-Err.ensures.value.0
