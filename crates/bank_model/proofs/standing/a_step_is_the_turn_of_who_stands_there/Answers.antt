use Rattle.bank_model.proofs.ItsTurn.{is_its_turn}
use Rattle.bank_model.proofs.standing.a_step_is_the_turn_of_who_stands_there.Goals as goal

pub returns : goal.returns
returns c = is_its_turn
