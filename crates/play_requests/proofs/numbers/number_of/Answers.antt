use Rattle.std.proofs.Common.{rules}
use Rattle.play_requests.proofs.Digits.{always-parsed}
use Rattle.play_requests.proofs.numbers.number_of.Goals as goal

pub returns-in-Err : goal.returns-in-Err
returns-in-Err c = absurd (always-parsed c.args.word.now c.in-Err.field-0 (search rules) c.in-Err.ensures.value.0)
