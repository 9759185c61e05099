use Rattle.class_steps.proofs.Ending.{ends_whole}
use Rattle.class_steps.proofs.stepping.boards_that_wait_have_ended.Goals as goal

pub returns : goal.returns
returns g c C ps os order boards hear seen = ends_whole C ps os order boards hear seen
