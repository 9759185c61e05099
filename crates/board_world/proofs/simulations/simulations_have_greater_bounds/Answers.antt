use Rattle.board_world.specs.Simulation.{ties}
use Rattle.board_world.proofs.Laws.{loosened, partial_loosened}
use Rattle.board_world.proofs.simulations.simulations_have_greater_bounds.Goals as goal

pub returns-clause-whole : goal.returns-clause-whole
returns-clause-whole g c = (λ K L weight bound greater h sim. loosened K L (ties g.T.Tied.shared g.T.Tied.active g.T.Tied.code g.T.Tied.placed) weight bound greater h sim)

pub returns-clause-partial : goal.returns-clause-partial
returns-clause-partial g c = (λ K L weight bound greater h sim. partial_loosened K L (ties g.T.Tied.shared g.T.Tied.active g.T.Tied.code g.T.Tied.placed) weight bound greater h sim)
