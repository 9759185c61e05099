use Rattle.std.proofs.Common.{refl}
use Rattle.std.specs.Fmt.{digits}
use Rattle.bank_model.proofs.images.rows_of_pushes.Goals as goal

pub returns-clause-first : goal.returns-clause-first
unfolding digits
returns-clause-first c = refl

pub returns-clause-second : goal.returns-clause-second
unfolding digits
returns-clause-second c = refl

pub returns-clause-fifth : goal.returns-clause-fifth
unfolding digits
returns-clause-fifth c = refl

pub returns-clause-room_of_1 : goal.returns-clause-room_of_1
unfolding digits
returns-clause-room_of_1 c = refl

pub returns-clause-used_behind : goal.returns-clause-used_behind
unfolding digits
returns-clause-used_behind c = refl

pub returns-clause-without_growth : goal.returns-clause-without_growth
unfolding digits
returns-clause-without_growth c = refl

pub returns-clause-growth_to_the_end : goal.returns-clause-growth_to_the_end
unfolding digits
returns-clause-growth_to_the_end c = refl
