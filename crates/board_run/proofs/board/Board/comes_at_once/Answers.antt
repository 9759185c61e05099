use Rattle.std.proofs.Common.{rules}
use Rattle.board_run.proofs.AtOnce.{resting_of, due_kept}
use Rattle.board_run.proofs.board.Board.comes_at_once.Goals as goal

pub returns-then-not-is_empty-clause-due : goal.returns-then-not-is_empty-clause-due
returns-then-not-is_empty-clause-due g c = (resting_of c.args.self.now.engine c.requires (search rules) (search rules), due_kept c.args.self.now.kept c.args.self.now.engine (search rules))
