use Rattle.thumb_switch.proofs.Whole.{copies, ranges_few}
use Rattle.thumb_switch.proofs.theorems.the_routine_copies.Goals as goal

pub returns : goal.returns
returns c source target count t code size most r = copies source target count t code size r (ranges_few t source target count most r)
