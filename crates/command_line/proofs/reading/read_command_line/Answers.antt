use Rattle.std.specs.Prelude.{map, string_bytes}
use Rattle.std.specs.Option.{option_map}
use Rattle.sts_words.specs.Orders.{order_view}
use Rattle.sts_words.proofs.Laws.{is-asked, asked-is}
use Rattle.command_line.proofs.Taken.{takes-them, same-order, none-asked}
use Rattle.command_line.proofs.reading.read_command_line.Goals as goal

pub no_memory-requires : goal.no_memory-requires
no_memory-requires c =
    let words = map string_bytes c.args.words.now in
    c.in-Err.ensures.memory (takes-them words c.read_words.result c.if-is_none.ensures (asked-is words (option_map order_view c.read_words.result) c.read_words.ensures.order))

pub returns-in-Ok-clause-order : goal.returns-in-Ok-clause-order
returns-in-Ok-clause-order c =
    let words = map string_bytes c.args.words.now in
    is-asked words (option_map order_view c.order_in.result)
    (same-order words c.in-Ok.matches c.read_words.result c.order_in.result c.if-is_none.ensures (asked-is words (option_map order_view c.read_words.result) c.read_words.ensures.order) c.in-Ok.ensures.matches c.order_in.ensures.order)

pub returns-then-is_none-clause-order : goal.returns-then-is_none-clause-order
returns-then-is_none-clause-order c = none-asked (map string_bytes c.args.words.now) c.read_words.result c.if-is_none.ensures c.read_words.ensures.order
