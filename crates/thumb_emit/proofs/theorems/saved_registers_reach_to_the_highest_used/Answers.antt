use Rattle.thumb_emit.proofs.Saved.{register_saved, highest_used}
use Rattle.thumb_emit.proofs.theorems.saved_registers_reach_to_the_highest_used.Goals as goal

pub returns-clause-each : goal.returns-clause-each
returns-clause-each c = register_saved

pub returns-clause-highest : goal.returns-clause-highest
returns-clause-highest c = highest_used
