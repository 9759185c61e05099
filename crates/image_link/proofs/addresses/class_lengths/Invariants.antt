use Rattle.std.proofs.Common.{◌≡◌, take}
use Rattle.image_link.proofs.Written.{class_lengths}
use Rattle.image_link.proofs.addresses.class_lengths.Given as goal

abbrev pub invariant-loop-class : goal.invariant-loop-class
invariant-loop-class l = l.lengths.items ≡ class_lengths (take l.class-index l.classes)
