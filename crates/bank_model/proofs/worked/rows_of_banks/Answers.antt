use Rattle.std.proofs.Common.{refl}
use Rattle.std.specs.Fmt.{digits}
use Rattle.thumb_code.specs.RegisterFile.{listed, listed_from}
use Rattle.bank_model.proofs.worked.rows_of_banks.Goals as goal

pub returns-clause-at_base : goal.returns-clause-at_base
unfolding digits
returns-clause-at_base c = refl

pub returns-clause-none_free : goal.returns-clause-none_free
unfolding digits
returns-clause-none_free c = refl

pub returns-clause-byte : goal.returns-clause-byte
unfolding digits
returns-clause-byte c = refl

pub returns-clause-lowered : goal.returns-clause-lowered
unfolding digits
returns-clause-lowered c = refl

pub returns-clause-pushed : goal.returns-clause-pushed
unfolding digits listed listed_from
returns-clause-pushed c = refl

pub returns-clause-lost : goal.returns-clause-lost
unfolding digits
returns-clause-lost c = refl
