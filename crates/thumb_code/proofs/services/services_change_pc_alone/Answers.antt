use Rattle.thumb_code.specs.Machine.{ram_memory}
use Rattle.thumb_code.proofs.Asking.{asks_only, step_asks_only}
use Rattle.thumb_code.proofs.services.services_change_pc_alone.Goals as goal

pub returns-clause-instruction : goal.returns-clause-instruction
returns-clause-instruction c = λ i next s m. asks_only ram_memory s m i next

pub returns-clause-step : goal.returns-clause-step
returns-clause-step c = step_asks_only
