use Rattle.arena_heap.proofs.AsAsked.{push_asked}
use Rattle.arena_heap.proofs.service.a_push_is_the_service.Goals as goal

pub returns : goal.returns
returns c = push_asked
