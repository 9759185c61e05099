use Rattle.std.proofs.Common.{refl}
use Rattle.std.specs.Fmt.{digits}
use Rattle.thumb_code.specs.RegisterFile.{listed, listed_from}
use Rattle.bank_model.proofs.images.rows_of_watching.Goals as goal

pub returns-clause-own : goal.returns-clause-own
unfolding digits listed listed_from
returns-clause-own c = refl

pub returns-clause-at_base : goal.returns-clause-at_base
unfolding digits listed listed_from
returns-clause-at_base c = refl

pub returns-clause-below_sp : goal.returns-clause-below_sp
unfolding digits listed listed_from
returns-clause-below_sp c = refl

pub returns-clause-lowered : goal.returns-clause-lowered
unfolding digits listed listed_from
returns-clause-lowered c = refl
