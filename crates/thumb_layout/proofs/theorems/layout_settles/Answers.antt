use Rattle.std.proofs.Common.{arith}
use Rattle.thumb_layout.proofs.Settling.{forms_fixed, branches_fit, pools_fit}
use Rattle.thumb_layout.proofs.Lengths.{bytes_most}
use Rattle.thumb_layout.proofs.Emitting.{laid_long}
use Rattle.thumb_layout.proofs.theorems.layout_settles.Goals as goal

pub returns-clause-fixed : goal.returns-clause-fixed
returns-clause-fixed c = forms_fixed

pub returns-clause-branches : goal.returns-clause-branches
returns-clause-branches c = branches_fit

pub returns-clause-pools : goal.returns-clause-pools
returns-clause-pools c = pools_fit

pub returns-clause-length : goal.returns-clause-length
returns-clause-length c = laid_long

pub returns-clause-most : goal.returns-clause-most
returns-clause-most c = λ xs s. let a = laid_long xs s in let b = bytes_most xs in omega arith
