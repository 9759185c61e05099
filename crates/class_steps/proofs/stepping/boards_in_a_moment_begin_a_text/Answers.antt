use Rattle.std.proofs.Common.{refl}
use Rattle.class_steps.proofs.Begins.{begins_text}
use Rattle.class_steps.proofs.stepping.boards_in_a_moment_begin_a_text.Goals as goal

pub returns : goal.returns
returns g c C budget t below above here bs cs order early boards hear passed came clock low = begins_text C order budget t early below above here bs cs boards _ hear refl passed came clock low
