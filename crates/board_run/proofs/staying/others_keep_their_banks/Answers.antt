use Rattle.bank_model.specs.BoardMachine.{fibers}
use Rattle.board_run.proofs.Others.{turn_leaves, idle_leaves, rest_leaves}
use Rattle.board_run.proofs.staying.others_keep_their_banks.Goals as goal

pub returns-clause-turn : goal.returns-clause-turn
returns-clause-turn c = λ image test first others w e going. turn_leaves test (fibers image) first others w e going

pub returns-clause-idle : goal.returns-clause-idle
returns-clause-idle c = λ image test w. idle_leaves test (fibers image) w.board.queue w

pub returns-clause-rest : goal.returns-clause-rest
returns-clause-rest c = λ image test w. rest_leaves test (fibers image) w
