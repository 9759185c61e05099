use Rattle.std.proofs.Common.{refl}
use Rattle.std.specs.Fmt.{digits}
use Rattle.bank_model.proofs.images.rows_of_limits.Goals as goal

pub returns-clause-listens_32 : goal.returns-clause-listens_32
unfolding digits
returns-clause-listens_32 c = refl

pub returns-clause-listens_33 : goal.returns-clause-listens_33
unfolding digits
returns-clause-listens_33 c = refl

pub returns-clause-listens_32_with_mode : goal.returns-clause-listens_32_with_mode
unfolding digits
returns-clause-listens_32_with_mode c = refl

pub returns-clause-listens_33_with_mode : goal.returns-clause-listens_33_with_mode
unfolding digits
returns-clause-listens_33_with_mode c = refl

pub returns-clause-raises_32 : goal.returns-clause-raises_32
unfolding digits
returns-clause-raises_32 c = refl

pub returns-clause-raises_33 : goal.returns-clause-raises_33
unfolding digits
returns-clause-raises_33 c = refl

pub returns-clause-holds_10 : goal.returns-clause-holds_10
unfolding digits
returns-clause-holds_10 c = refl

pub returns-clause-holds_10_of_11 : goal.returns-clause-holds_10_of_11
unfolding digits
returns-clause-holds_10_of_11 c = refl

pub returns-clause-even_at_32 : goal.returns-clause-even_at_32
unfolding digits
returns-clause-even_at_32 c = refl

pub returns-clause-even_at_32_with_mode : goal.returns-clause-even_at_32_with_mode
unfolding digits
returns-clause-even_at_32_with_mode c = refl
