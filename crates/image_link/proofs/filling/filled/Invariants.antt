use Rattle.std.proofs.Common.{◌≡◌, length, drop}
use Rattle.image_link.specs.inner.{as_addresses, filled}
use Rattle.image_link.proofs.filling.filled.Given as goal

-- what is filled in, and what is left to fill in, is the whole
abbrev pub invariant-loop-fix : goal.invariant-loop-fix
invariant-loop-fix l = (length l.bytes.items ≡ length l.laid.bytes) × (filled (as_addresses l.addresses) l.at (drop l.fix-index l.laid.fixes) l.bytes.items ≡ filled (as_addresses l.addresses) l.at l.laid.fixes l.laid.bytes)
