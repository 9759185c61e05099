use Rattle.tool_io.proofs.Laws.{puts-then}
use Rattle.tool_io.proofs.puts.then_put.Goals as goal

pub returns-in-Ok : goal.returns-in-Ok
returns-in-Ok g c = λ taken faults text p. puts-then _ c.put.result text c.args.piece.now (rw c.in-Ok.is at p) c.put.ensures
