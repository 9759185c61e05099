use Rattle.std.proofs.Common.{arith, ◌∙◌}
use Rattle.thumb_code.proofs.Spelled.{wide_only, narrow_only}
use Rattle.std.proofs.lemmas.Bool.Decides.{nat_tests}
use Rattle.thumb_code.proofs.decoding.decode.Goals as goal

pub returns-then-is_wide-clause-only : goal.returns-then-is_wide-clause-only
returns-then-is_wide-clause-only c = λ i h e. c.two_halfwords.ensures.same ∙ wide_only i _ _ (grind (arith, nat_tests, c.is_wide.ensures)) h e

pub returns-else-is_wide-clause-only : goal.returns-else-is_wide-clause-only
returns-else-is_wide-clause-only c = λ i h e. c.narrow.ensures.same ∙ narrow_only i _ _ (grind (arith, nat_tests, c.is_wide.ensures)) h e
