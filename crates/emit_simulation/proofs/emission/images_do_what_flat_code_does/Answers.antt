use Rattle.emit_simulation.proofs.Laws.{emits}
use Rattle.emit_simulation.proofs.emission.images_do_what_flat_code_does.Goals as goal

pub returns : goal.returns
returns c = emits
