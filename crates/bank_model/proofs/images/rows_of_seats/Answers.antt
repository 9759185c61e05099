use Rattle.std.proofs.Common.{refl}
use Rattle.std.specs.Fmt.{digits}
use Rattle.bank_model.proofs.images.rows_of_seats.Goals as goal

pub returns-clause-spawns_23 : goal.returns-clause-spawns_23
unfolding digits
returns-clause-spawns_23 c = refl

pub returns-clause-spawns_24 : goal.returns-clause-spawns_24
unfolding digits
returns-clause-spawns_24 c = refl

pub returns-clause-pauses_at_23 : goal.returns-clause-pauses_at_23
unfolding digits
returns-clause-pauses_at_23 c = refl

pub returns-clause-pauses_at_24 : goal.returns-clause-pauses_at_24
unfolding digits
returns-clause-pauses_at_24 c = refl

pub returns-clause-waits_at_23 : goal.returns-clause-waits_at_23
unfolding digits
returns-clause-waits_at_23 c = refl

pub returns-clause-waits_at_24 : goal.returns-clause-waits_at_24
unfolding digits
returns-clause-waits_at_24 c = refl

pub returns-clause-no_block_at_24 : goal.returns-clause-no_block_at_24
unfolding digits
returns-clause-no_block_at_24 c = refl

pub returns-clause-keeps_its_seat : goal.returns-clause-keeps_its_seat
unfolding digits
returns-clause-keeps_its_seat c = refl

pub returns-clause-given_back : goal.returns-clause-given_back
unfolding digits
returns-clause-given_back c = refl

pub returns-clause-begins_again_at_24 : goal.returns-clause-begins_again_at_24
unfolding digits
returns-clause-begins_again_at_24 c = refl

pub returns-clause-given_back_by_handler : goal.returns-clause-given_back_by_handler
unfolding digits
returns-clause-given_back_by_handler c = refl

pub returns-clause-taken_by_handler : goal.returns-clause-taken_by_handler
unfolding digits
returns-clause-taken_by_handler c = refl

pub returns-clause-nothing_given_back : goal.returns-clause-nothing_given_back
unfolding digits
returns-clause-nothing_given_back c = refl

pub returns-clause-even_at_24 : goal.returns-clause-even_at_24
unfolding digits
returns-clause-even_at_24 c = refl
