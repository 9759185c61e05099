use Rattle.std.specs.Prelude.{length}
use Rattle.typed_laws.proofs.Climbing.{reached_above, above_reached}
use Rattle.typed_laws.proofs.bases.classes_reach_those_above.Goals as goal

pub returns : goal.returns
returns g = λ classes c a bases. (reached_above classes (length classes) c a, above_reached classes bases c a)
