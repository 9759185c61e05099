-- What a raise answers.
use Rattle.std.specs.Prelude.{List, length, if◌then◌else◌, nat_lt}
use Rattle.board_world.specs.declared.events.Event.{Event}
use Rattle.board_world.specs.Limits.{queue_limit}
use Rattle.message_bus.specs.declared.bus.Raised.{Raised}
use Rattle.message_bus.specs.declared.bus.Raised.TheVariants.{Queued, Dropped}

abbrev pub answer_of : List Event → Raised
answer_of q = if nat_lt (length q) queue_limit then Queued else Dropped
