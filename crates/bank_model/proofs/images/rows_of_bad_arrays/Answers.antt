use Rattle.std.proofs.Common.{refl}
use Rattle.std.specs.Fmt.{digits}
use Rattle.bank_model.proofs.images.rows_of_bad_arrays.Goals as goal

pub returns-clause-null : goal.returns-clause-null
unfolding digits
returns-clause-null c = refl

pub returns-clause-unaligned : goal.returns-clause-unaligned
unfolding digits
returns-clause-unaligned c = refl

pub returns-clause-behind_used : goal.returns-clause-behind_used
unfolding digits
returns-clause-behind_used c = refl

pub returns-clause-nothing_used : goal.returns-clause-nothing_used
unfolding digits
returns-clause-nothing_used c = refl

pub returns-clause-below_arena : goal.returns-clause-below_arena
unfolding digits
returns-clause-below_arena c = refl

pub returns-clause-longer_than_room : goal.returns-clause-longer_than_room
unfolding digits
returns-clause-longer_than_room c = refl

pub returns-clause-items_unaligned : goal.returns-clause-items_unaligned
unfolding digits
returns-clause-items_unaligned c = refl

pub returns-clause-items_behind_used : goal.returns-clause-items_behind_used
unfolding digits
returns-clause-items_behind_used c = refl

pub returns-clause-no_growth : goal.returns-clause-no_growth
unfolding digits
returns-clause-no_growth c = refl

pub returns-clause-unsound_without_growth : goal.returns-clause-unsound_without_growth
unfolding digits
returns-clause-unsound_without_growth c = refl
