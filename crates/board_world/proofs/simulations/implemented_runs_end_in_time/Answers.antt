use Rattle.board_world.proofs.Laws.{implemented_in_time}
use Rattle.board_world.proofs.simulations.implemented_runs_end_in_time.Goals as goal

pub returns : goal.returns
returns g c = implemented_in_time
