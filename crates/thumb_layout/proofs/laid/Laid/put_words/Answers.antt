use Rattle.thumb_layout.proofs.Writing.{words_step}
use Rattle.thumb_layout.proofs.laid.Laid.put_words.Goals as goal
use Rattle.std.proofs.Common.{arith}

pub loop-entry-preserved : goal.loop-entry-preserved
loop-entry-preserved c =
    words_step c.args.self.now c.loop-entry.self c.put_entry.new.self c.args.waiting.now c.loop-entry.entry-index _ (omega arith) c.loop-entry.invariant c.in_ok-put_entry.ensures
