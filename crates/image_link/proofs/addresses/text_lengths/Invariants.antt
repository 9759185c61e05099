use Rattle.std.proofs.Common.{◌≡◌, ◌++◌, drop}
use Rattle.image_link.proofs.Written.{text_lengths}
use Rattle.image_link.proofs.addresses.text_lengths.Given as goal

abbrev pub invariant-loop-index : goal.invariant-loop-index
invariant-loop-index l = text_lengths l.laid 0 l.texts ≡ l.lengths.items ++ text_lengths l.laid l.index (drop l.index l.texts)
