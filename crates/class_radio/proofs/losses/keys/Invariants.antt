use Rattle.std.proofs.Common.{take}
use Rattle.class_radio.specs.Index.{HasKeys}
use Rattle.class_radio.proofs.losses.keys.Given as goal

abbrev pub invariant-loop-loss : goal.invariant-loop-loss
invariant-loop-loss l = HasKeys (take l.loss-index l.list) l.keys.items
