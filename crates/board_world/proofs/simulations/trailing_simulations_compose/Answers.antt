use Rattle.board_world.specs.Simulation.{ties}
use Rattle.board_world.proofs.Laws.{partial_trailing_compose}
use Rattle.board_world.proofs.simulations.trailing_simulations_compose.Goals as goal

pub returns : goal.returns
returns g c = (λ K L M bound weight lower_weight r upper lower. partial_trailing_compose K L M g.T.Chained.down g.T.Chained.fine g.T.Chained.active g.T.Chained.code g.T.Chained.placed (ties g.T.Chained.lower_shared g.T.Chained.lower_active g.T.Chained.lower_code g.T.Chained.lower_placed) weight lower_weight r bound upper lower)
