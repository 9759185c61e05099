use Rattle.sts_whole.proofs.Reached.{reaches, faultless, run_exists}
use Rattle.sts_whole.proofs.reaching.runs_reach_their_sources.Goals as goal

pub returns-clause-reaches : goal.returns-clause-reaches
returns-clause-reaches c = λ P texts image h script budget free executed e. reaches P texts image h script free budget executed e

pub returns-clause-faultless : goal.returns-clause-faultless
returns-clause-faultless c = λ P texts image h script free n. faultless P texts image h script free n

pub returns-clause-exists : goal.returns-clause-exists
returns-clause-exists c = λ P texts image h script budget free. run_exists P texts image h script free budget
