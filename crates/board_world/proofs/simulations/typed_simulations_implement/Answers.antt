use Rattle.board_world.specs.Simulation.{ties}
use Rattle.board_world.specs.Sound.{typing}
use Rattle.board_world.proofs.Laws.{implements}
use Rattle.board_world.proofs.simulations.typed_simulations_implement.Goals as goal

pub returns : goal.returns
returns g c = (λ K L bound positive sound sim main entry shared below code tied fine same. implements K L bound (typing g.T.Typed.typed_shared g.T.Typed.typed g.T.Typed.typed_code) (ties g.T.Tied.shared g.T.Tied.active g.T.Tied.code g.T.Tied.placed) positive sound sim main entry shared below code tied fine same)
