use Rattle.image_link.proofs.Programs.{program_shown}
use Rattle.image_link.proofs.theorems.the_image_shows_its_program.Goals as goal

pub returns : goal.returns
returns c = program_shown
