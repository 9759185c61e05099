use Rattle.board_world.specs.Activities.{woken}
use Rattle.fiber_queues.proofs.Keys.{meant-same, meant-woken}
use Rattle.fiber_queues.proofs.meanings.woken_keys_have_the_value.Goals as goal

pub returns-clause-others : goal.returns-clause-others
returns-clause-others g c f f2 q h = meant-same f f2 q h

pub returns-clause-woken : goal.returns-clause-woken
returns-clause-woken g c f f2 e q once woke others = meant-woken f f2 (woken e.value) e q once woke others
