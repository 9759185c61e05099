use Rattle.world_rows.proofs.Slowly.{twice, twice_runs}
use Rattle.world_rows.proofs.slow.slowed_kinds_compose.Goals as goal

pub returns-clause-simulation : goal.returns-clause-simulation
returns-clause-simulation g c = λ K. twice K

pub returns-clause-runs : goal.returns-clause-runs
returns-clause-runs g c = λ K main shared until script arrivals m rises. twice_runs K main shared until script arrivals m rises
