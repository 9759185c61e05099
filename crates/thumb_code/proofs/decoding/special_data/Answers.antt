use Rattle.std.proofs.Common.{refl}
use Rattle.thumb_code.proofs.decoding.special_data.Goals as goal

pub returns-in-2-clause-same : goal.returns-in-2-clause-same
returns-in-2-clause-same c = rw c.in-2.is refl
