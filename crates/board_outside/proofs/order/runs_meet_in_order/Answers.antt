use Rattle.board_outside.proofs.Moving.{met_then}
use Rattle.board_outside.proofs.Meeting.{goes_on_meeting}
use Rattle.board_outside.proofs.order.runs_meet_in_order.Goals as goal

pub returns-clause-further : goal.returns-clause-further
returns-clause-further g c = λ K met n w h. goes_on_meeting K met n w h

pub returns-clause-behind : goal.returns-clause-behind
returns-clause-behind g c = λ met moves b d h m. met_then met moves b d h m
