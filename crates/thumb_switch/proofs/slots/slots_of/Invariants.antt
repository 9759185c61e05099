use Rattle.std.proofs.Common.{◌≡◌, length}
use Rattle.thumb_switch.specs.ReadOnce.{AreRead}
use Rattle.thumb_switch.proofs.slots.slots_of.Given as goal

abbrev pub invariant-loop-place : goal.invariant-loop-place
invariant-loop-place l = (length l.slots ≡ 16) × AreRead l.code l.slots
