use Rattle.std.proofs.Common.{ap, arith}
use Rattle.std.specs.Prelude.{string_bytes}
use Rattle.std.specs.Option.{option_map}
use Rattle.sts_words.specs.Orders.{order_view}
use Rattle.sts_words.proofs.Spelled.{asked-behind}
use Rattle.sts_words.proofs.reading.read_words.Goals as goal

pub returns-in_err-given_by-in-len1-up-clause-order : goal.returns-in_err-given_by-in-len1-up-clause-order
returns-in_err-given_by-in-len1-up-clause-order c =
    asked-behind string_bytes c.args.words.now c.command-item.result c.as_str.result.now _ _ (omega (arith, c.in-len1-up.len_at_least)) c.command-item.is c.as_str.ensures.value
    (ap (option_map order_view) c.from_residual.ensures) (c.in_err-given_by-in-len1-up.ensures.said c.as_str.result.now)

pub returns-in_ok-given_by-in-len1-up-clause-order : goal.returns-in_ok-given_by-in-len1-up-clause-order
returns-in_ok-given_by-in-len1-up-clause-order c =
    asked-behind string_bytes c.args.words.now c.command-item.result c.as_str.result.now _ _ (omega (arith, c.in-len1-up.len_at_least)) c.command-item.is c.as_str.ensures.value
    c.asked_by.ensures.order (c.in_ok-given_by-in-len1-up.ensures.said c.as_str.result.now)
