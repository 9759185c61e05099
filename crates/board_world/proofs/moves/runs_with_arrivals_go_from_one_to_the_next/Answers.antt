use Rattle.board_world.proofs.Laws.{with_nothing, list_before, list_behind, applied_first}
use Rattle.board_world.proofs.moves.runs_with_arrivals_go_from_one_to_the_next.Goals as goal

pub returns-clause-nothing : goal.returns-clause-nothing
returns-clause-nothing g c = with_nothing

pub returns-clause-before : goal.returns-clause-before
returns-clause-before g c = list_before

pub returns-clause-behind : goal.returns-clause-behind
returns-clause-behind g c = list_behind

pub returns-clause-first : goal.returns-clause-first
returns-clause-first g c = (λ K arrivals n w r. applied_first K n arrivals w r)
