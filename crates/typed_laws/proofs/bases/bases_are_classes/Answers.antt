use Rattle.std.specs.Prelude.{◌++◌}
use Rattle.sts_scope.specs.Scopes.{all_names}
use Rattle.typed_laws.proofs.Facts.{bases_within}
use Rattle.typed_laws.proofs.bases.bases_are_classes.Goals as goal

pub returns : goal.returns
returns g = λ library text. bases_within (all_names library text) (library ++ text) (λ x b q. q)
