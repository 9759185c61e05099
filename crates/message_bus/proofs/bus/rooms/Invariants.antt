use Rattle.std.proofs.Common.{◌≡◌, length}
use Rattle.message_bus.proofs.bus.rooms.Given as goal

-- as many as were made
abbrev pub invariant-loop : goal.invariant-loop
invariant-loop l = length l.spare.items ≡ l.counter
