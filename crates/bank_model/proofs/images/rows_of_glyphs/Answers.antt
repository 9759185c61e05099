use Rattle.std.proofs.Common.{refl}
use Rattle.std.specs.Fmt.{digits}
use Rattle.bank_model.proofs.images.rows_of_glyphs.Goals as goal

pub returns-clause-of_text : goal.returns-clause-of_text
unfolding digits
returns-clause-of_text c = refl

pub returns-clause-behind_text : goal.returns-clause-behind_text
unfolding digits
returns-clause-behind_text c = refl

pub returns-clause-far_behind_text : goal.returns-clause-far_behind_text
unfolding digits
returns-clause-far_behind_text c = refl

pub returns-clause-null : goal.returns-clause-null
unfolding digits
returns-clause-null c = refl

pub returns-clause-bad_text : goal.returns-clause-bad_text
unfolding digits
returns-clause-bad_text c = refl

pub returns-clause-of_number : goal.returns-clause-of_number
unfolding digits
returns-clause-of_number c = refl

pub returns-clause-behind_number : goal.returns-clause-behind_number
unfolding digits
returns-clause-behind_number c = refl

pub returns-clause-sign_of_number : goal.returns-clause-sign_of_number
unfolding digits
returns-clause-sign_of_number c = refl

pub returns-clause-far_behind_number : goal.returns-clause-far_behind_number
unfolding digits
returns-clause-far_behind_number c = refl
