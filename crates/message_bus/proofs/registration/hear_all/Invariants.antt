use Rattle.std.proofs.Common.{◌≡◌, ◌++◌, map, take, drop}
use Rattle.message_bus.specs.ListenerState.{heard}
use Rattle.message_bus.proofs.registration.hear_all.Given as goal

-- those before have heard the event
abbrev pub invariant-loop-registration : goal.invariant-loop-registration
invariant-loop-registration l = l.registrations ≡ map (heard l.event) (take l.registration-index l.fn.registrations) ++ drop l.registration-index l.fn.registrations
