use Rattle.std.proofs.Common.{◌∙◌, ◌+◌, ap, ℤ, pos, get_or, length, FitsSigned, w32, arith, rules}
use Rattle.std.proofs.lemmas.Int.{to_z-of_z}
use Rattle.std.proofs.lemmas.List.{length-set}
use Rattle.class_radio.specs.Playing.{hearing}
use Rattle.class_radio.proofs.Telling.{one_heard}
use Rattle.class_radio.proofs.hearing.hear_one.Goals as goal

pub loop-at-preserved : goal.loop-at-preserved
loop-at-preserved c = record {
  heard = λ d.
      (let fits : FitsSigned w32 (get_or c.sent_at.result.now c.loop-at.at (pos 0)) = search rules in
      one_heard c.args.moment c.args.from c.args.to c.loop-at.at c.args.players.now.items c.loop-at.players.items c.index.result.now c.index-in-loop-at.result.now c.index_mut.result.now c.hear.new.self d c.sent_at.result.now
      (omega arith) (omega arith) c.requires.other c.loop-at.invariant.long (c.loop-at.invariant.heard d) c.index.ensures (omega (arith, ap length c.sent_at-at-end.ensures)) c.index-in-loop-at.ensures c.sent_at.ensures c.index_mut.ensures.value
      (c.hear.ensures ∙ ap (λ (n : ℤ). hearing (c.args.moment + 1) n c.index_mut.result.now) (to_z-of_z w32 (get_or c.sent_at.result.now c.loop-at.at (pos 0)) fits)));
  long = length-set c.loop-at.players.items c.args.to c.hear.new.self ∙ c.loop-at.invariant.long;
}
