use Rattle.thumb_code.specs.Step.{fetched}
use Rattle.thumb_layout.specs.Flash.{places}
use Rattle.thumb_layout.proofs.Laws.{laid_code_means, code_holds, label_goes}
use Rattle.laid_meaning.proofs.meaning.laid_code_means_its_pieces.Goals as goal

pub returns : goal.returns
returns g c over flash base stack_base entry word_of xs reads stand =
    let h = code_holds flash base stack_base entry word_of xs stand.sound stand.words stand.stack stand.whole stand.room stand.code in
    let p = places base entry word_of xs in
    record {
      each = λ i x e some s t at belongs.
          laid_code_means over flash g.M.FlashReader.belongs reads base stack_base entry word_of xs stand.sound stand.words stand.stack stand.whole stand.room stand.code i x e some s t at belongs;
      labels = λ i label e. label_goes flash (fetched flash stack_base) p xs h i label e;
      next = h.next;
      targets = h.labels;
    }
