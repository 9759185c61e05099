use Rattle.std.proofs.Common.{refl}
use Rattle.tool_io.proofs.Laws.{puts-then, puts-more}
use Rattle.board_run.proofs.board.Board.put_end.Goals as goal

pub returns-in-Ok-put_closing : goal.returns-in-Ok-put_closing
returns-in-Ok-put_closing g c = (_, puts-then _ _ _ _ c.in-Ok.ensures c.in-Ok-put_closing.ensures, c.told.ensures)

pub returns-in-Err-put_closing : goal.returns-in-Err-put_closing
returns-in-Err-put_closing g c = (_, puts-then _ _ _ _ c.in-Ok.ensures c.in-Err-put_closing.ensures, refl)

pub returns-in-Err : goal.returns-in-Err
returns-in-Err g c = (_, puts-more _ _ _ c.in-Err.ensures, refl)
