use Rattle.std.proofs.Common.{refl}
use Rattle.std.specs.Fmt.{digits}
use Rattle.bank_model.proofs.images.rows_of_time.Goals as goal

pub returns-clause-pauses : goal.returns-clause-pauses
unfolding digits
returns-clause-pauses c = refl

pub returns-clause-pauses_negative : goal.returns-clause-pauses_negative
unfolding digits
returns-clause-pauses_negative c = refl

pub returns-clause-waits : goal.returns-clause-waits
unfolding digits
returns-clause-waits c = refl

pub returns-clause-waits_for_another : goal.returns-clause-waits_for_another
unfolding digits
returns-clause-waits_for_another c = refl

pub returns-clause-no_value : goal.returns-clause-no_value
unfolding digits
returns-clause-no_value c = refl

pub returns-clause-pauses_past_the_end : goal.returns-clause-pauses_past_the_end
unfolding digits
returns-clause-pauses_past_the_end c = refl

pub returns-clause-waits_for_any : goal.returns-clause-waits_for_any
unfolding digits
returns-clause-waits_for_any c = refl

pub returns-clause-waits_for_another_source : goal.returns-clause-waits_for_another_source
unfolding digits
returns-clause-waits_for_another_source c = refl

pub returns-clause-wakes_once : goal.returns-clause-wakes_once
unfolding digits
returns-clause-wakes_once c = refl
