use Rattle.sts_lower.specs.Lowered.{lowered}
use Rattle.sts_whole.proofs.Implementing.{shows, implements}
use Rattle.sts_whole.proofs.compiled.compiled_images_implement_their_programs.Goals as goal

pub returns : goal.returns
returns c = λ P texts image b k. (
    let formed = c.code_is_well_formed.ensures.formed P texts b.typed b.limits in
    implements P texts image b k formed
    (shows P texts image b k formed c.the_image_shows_its_program.ensures)
    (c.lowered_code_does_what_the_source_does.ensures.keeps P texts b.typed)
    (c.images_do_what_flat_code_does.ensures (lowered P) k.placed image k.linked.at texts))
