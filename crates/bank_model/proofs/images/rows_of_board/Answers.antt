use Rattle.std.proofs.Common.{refl}
use Rattle.std.specs.Fmt.{digits}
use Rattle.bank_model.proofs.images.rows_of_board.Goals as goal

pub returns-clause-pressed : goal.returns-clause-pressed
unfolding digits
returns-clause-pressed c = refl

pub returns-clause-plots : goal.returns-clause-plots
unfolding digits
returns-clause-plots c = refl

pub returns-clause-toggles : goal.returns-clause-toggles
unfolding digits
returns-clause-toggles c = refl

pub returns-clause-mode_3 : goal.returns-clause-mode_3
unfolding digits
returns-clause-mode_3 c = refl

pub returns-clause-shows : goal.returns-clause-shows
unfolding digits
returns-clause-shows c = refl

pub returns-clause-sets : goal.returns-clause-sets
unfolding digits
returns-clause-sets c = refl

pub returns-clause-sends : goal.returns-clause-sends
unfolding digits
returns-clause-sends c = refl

pub returns-clause-pressed_b : goal.returns-clause-pressed_b
unfolding digits
returns-clause-pressed_b c = refl

pub returns-clause-plots_off : goal.returns-clause-plots_off
unfolding digits
returns-clause-plots_off c = refl

pub returns-clause-plots_outside : goal.returns-clause-plots_outside
unfolding digits
returns-clause-plots_outside c = refl

pub returns-clause-shows_once : goal.returns-clause-shows_once
unfolding digits
returns-clause-shows_once c = refl

pub returns-clause-sets_low : goal.returns-clause-sets_low
unfolding digits
returns-clause-sets_low c = refl

pub returns-clause-mode_minus_1 : goal.returns-clause-mode_minus_1
unfolding digits
returns-clause-mode_minus_1 c = refl
