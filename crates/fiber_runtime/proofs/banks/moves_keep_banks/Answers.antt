use Rattle.std.proofs.Common.{refl}
use Rattle.fiber_runtime.proofs.Fibers.{fiber_found, placed_begins, resumed_fiber}
use Rattle.fiber_runtime.proofs.banks.moves_keep_banks.Goals as goal

pub returns-clause-main : goal.returns-clause-main
returns-clause-main c machine s m = fiber_found s.pool m.key _ m.main

pub returns-clause-spawned : goal.returns-clause-spawned
returns-clause-spawned c entry old new m = fiber_found new.pool m.key _ m.claims.updates.changed

pub returns-clause-started : goal.returns-clause-started
returns-clause-started c entry base t s = placed_begins entry base s.machine

pub returns-clause-restarted : goal.returns-clause-restarted
returns-clause-restarted c entry t s = placed_begins entry s.machine.memory.base s.machine

pub returns-clause-blocked : goal.returns-clause-blocked
returns-clause-blocked c key now t why old new m = fiber_found new.pool key _ m.updates.changed

pub returns-clause-resumed : goal.returns-clause-resumed
returns-clause-resumed c old new m = resumed_fiber old new m

pub returns-clause-suspended : goal.returns-clause-suspended
returns-clause-suspended c t s = refl

pub returns-clause-reinstated : goal.returns-clause-reinstated
returns-clause-reinstated c r rs s = refl
