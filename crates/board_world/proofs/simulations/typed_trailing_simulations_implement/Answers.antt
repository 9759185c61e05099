use Rattle.board_world.specs.Simulation.{ties}
use Rattle.board_world.specs.Sound.{typing}
use Rattle.board_world.proofs.Laws.{trailing_implements}
use Rattle.board_world.proofs.simulations.typed_trailing_simulations_implement.Goals as goal

pub returns : goal.returns
returns g c = (λ K L r bound positive sound sim main entry shared below code tied fine same. trailing_implements K L r bound (typing g.T.Typed.typed_shared g.T.Typed.typed g.T.Typed.typed_code) (ties g.T.Tied.shared g.T.Tied.active g.T.Tied.code g.T.Tied.placed) positive sound sim main entry shared below code tied fine same)
