use Rattle.thumb_code.proofs.Sums.{overflows-signed, signed-overflows}
use Rattle.thumb_code.proofs.overflow.sums_overflow_where_signed_ones_do.Goals as goal

pub returns-clause-clear : goal.returns-clause-clear
returns-clause-clear c = overflows-signed

pub returns-clause-set : goal.returns-clause-set
returns-clause-set c = signed-overflows
