use Rattle.std.proofs.Common.{length}
use Rattle.message_bus.proofs.registration.+begun.Given as goal

abbrev pub decreases-begun : goal.decreases-begun
decreases-begun l = length l.registrations.now
