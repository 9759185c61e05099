use Rattle.std.proofs.Common.{◌≡◌, take}
use Rattle.image_link.proofs.Written.{code_lengths}
use Rattle.image_link.proofs.addresses.code_lengths.Given as goal

abbrev pub invariant-loop-code : goal.invariant-loop-code
invariant-loop-code l = l.lengths.items ≡ code_lengths (take l.code-index l.laid)
