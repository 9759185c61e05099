use Rattle.std.proofs.Common.{length, map}
use Rattle.thumb_layout.specs.Cells.{laid}
use Rattle.sts_lower.specs.Lowered.{lowered}
use Rattle.sts_whole.specs.Compiled.{bodies_of, with_chosen_places}
use Rattle.sts_whole.proofs.Layable.{texts_below}
use Rattle.sts_whole.proofs.Imaged.{placed_functions}
use Rattle.sts_whole.proofs.compiled.images_are_one.Goals as goal

pub returns : goal.returns
returns c = record {
  some = λ P texts b.
      (let placed = map with_chosen_places (lowered P).functions in
      let formed = c.code_is_well_formed.ensures.formed P texts b.typed b.limits in
      let below = texts_below P (length texts) b.named (c.names_only_its_texts.ensures P) in
      let linkable = c.emitted_code_can_be_linked.ensures (lowered P) placed (length texts) formed (placed_functions (lowered P).functions) below in
      let image = c.linkable_code_has_an_image.ensures (map laid (bodies_of placed)) (lowered P) texts linkable in
      (image.0, record { linked = image.1 }));
  one = λ P texts image other h k. c.images_are_alike.ensures (map laid (bodies_of (map with_chosen_places (lowered P).functions))) (lowered P) texts image other h.linked k.linked;
}
