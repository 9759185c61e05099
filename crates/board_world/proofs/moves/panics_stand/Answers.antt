use Rattle.board_world.proofs.Laws.{run_panics}
use Rattle.board_world.proofs.moves.panics_stand.Goals as goal

pub returns : goal.returns
returns g c = (λ K w arrivals n going panicked. run_panics K w arrivals n going panicked)
