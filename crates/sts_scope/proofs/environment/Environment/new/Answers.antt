use Rattle.std.proofs.Common.{subst}
use Rattle.sts_scope.specs.Lines.{AreLines}
use Rattle.sts_scope.proofs.environment.Environment.new.Goals as goal

pub invariant_of-result : goal.invariant_of-result
invariant_of-result c = (subst (λ classes. AreLines c.args.known.entries classes c.in_ok-lines.lines) c.as_slice.ensures c.in_ok-lines.ensures, c.requires.few)
