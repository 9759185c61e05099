use Rattle.std.proofs.Common.{◌*◌, arith}
use Rattle.sts_implements.specs.Images.{instructions_of_a_step}
use Rattle.sts_implements.proofs.Plain.{plainly, plain_faultless}
use Rattle.sts_implements.proofs.images.images_do_what_programs_do.Goals as goal

pub returns-clause-follows : goal.returns-clause-follows
returns-clause-follows c = (λ P texts image h until script free m. (let kept = plainly P texts image h until script free m in (
  kept.steps,
  record { at_most = kept.at_most; board = kept.board; in_time = kept.at_least },
)))

pub returns-clause-no_fault : goal.returns-clause-no_fault
returns-clause-no_fault c = plain_faultless

pub returns-clause-ends : goal.returns-clause-ends
returns-clause-ends c = (λ P texts image h until script free s e. (plainly P texts image h until script free (instructions_of_a_step * s)).in_time s (omega arith) e)
