use Rattle.std.proofs.Common.{refl}
use Rattle.message_bus.proofs.Keeping.{goes-agrees, asks-agrees, takes-agrees, pauses-agrees, awaits-agrees, spawns-agrees, leaves-agrees, stops-agrees, jump-agrees}
use Rattle.message_bus.proofs.agreement.other_moves_agree.Goals as goal

pub returns-clause-goes : goal.returns-clause-goes
returns-clause-goes g c K a others self shared b w h first = goes-agrees b b.queue a others (self, shared) w.board w h first h.queue

pub returns-clause-asks : goal.returns-clause-asks
returns-clause-asks g c K a others q next b w h first = asks-agrees K a others b w h first q next

pub returns-clause-takes : goal.returns-clause-takes
returns-clause-takes g c K a others n next b w h first = takes-agrees K a others b w h first n next

pub returns-clause-pauses : goal.returns-clause-pauses
returns-clause-pauses g c K a others n self shared b w h first = pauses-agrees K a others b w h first n self shared

pub returns-clause-waits : goal.returns-clause-waits
returns-clause-waits g c K a others e self shared b w h first = awaits-agrees K a others b w h first e self shared

pub returns-clause-spawns : goal.returns-clause-spawns
returns-clause-spawns g c K a others f self shared b w h first = spawns-agrees K a others b w h first f self shared

pub returns-clause-leaves : goal.returns-clause-leaves
returns-clause-leaves g c a others shared b w h first none = leaves-agrees b a others shared w h first none

pub returns-clause-stops : goal.returns-clause-stops
returns-clause-stops g c end b w h = stops-agrees end b w h

pub returns-clause-jump : goal.returns-clause-jump
returns-clause-jump g c t b w h = jump-agrees b _ t w h refl
