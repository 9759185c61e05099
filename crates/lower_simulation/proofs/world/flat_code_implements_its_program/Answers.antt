use Rattle.std.proofs.Common.{ap}
use Rattle.board_world.specs.World.{start}
use Rattle.sts_meaning.specs.Heaps.{FlatHeap}
use Rattle.flat_meaning.specs.Steps.{flat}
use Rattle.sts_lower.specs.Lowered.{lowered}
use Rattle.lower_simulation.proofs.Implementing.{flat_implements, starts_empty}
use Rattle.lower_simulation.proofs.world.flat_code_implements_its_program.Goals as goal

pub returns-clause-implements : goal.returns-clause-implements
returns-clause-implements c = flat_implements

pub returns-clause-starts : goal.returns-clause-starts
returns-clause-starts c = λ P texts until script. ap (λ (h : FlatHeap). start (flat (lowered P) texts) P.main h until script) (starts_empty P texts)
