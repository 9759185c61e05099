-- Who copies the words doesn't matter: parking behind words that were put into the record is a block, and taking behind words that
-- were put into the stack region is a resume.
use Rattle.std.proofs.Common.{◌≡◌, ℕ, List, Some, sym, ap, ◌∙◌, subst}
use Rattle.slab.specs.Slab.{Slab, get}
use Rattle.thumb_code.specs.Machine.{State as Machine}
use Rattle.fiber_pool.specs.Kept.{Kept, or_unused}
use Rattle.fiber_runtime.specs.declared.turning.Turning.{Turning}
use Rattle.fiber_runtime.specs.declared.blocking.Why.{Why}
use Rattle.fiber_runtime.specs.State.{State, ReachesBase, kept_of}
use Rattle.fiber_runtime.specs.Moves.{BlocksWith, Blocked, Put, Resumed, Parked, Taken, HasWords}
use Rattle.fiber_runtime.proofs.Sound.{updates_twice}

pub parked_is_blocked : (key : ℕ) (t : Turning) (why : Why) (now : ℕ) (old new : State) (pool : Slab Kept) (k : Kept) → get old.pool key ≡ Some k
    → HasWords key (kept_of old.machine t).words old.pool pool → Parked key t why now (record old { pool = pool }) new → Blocked key t why now old new
parked_is_blocked key t why now old new pool k found w p =
    let u = w.updates k found in
    let b : Blocked key t why now (record old { pool = pool }) new = subst (λ ws. BlocksWith ws key t why now (record old { pool = pool }) new) (ap (λ o. (or_unused o).words) u.changed) p in
    record {
      updates = updates_twice old.pool pool new.pool key _ _ u b.updates;
      live = b.live ∙ w.live;
      rest = b.rest;
    }

pub taken_is_resumed : (old new : State) (stack : List ℕ) (p : Taken (record old { machine = record old.machine { memory = record old.machine.memory { stack = stack } } }) new) → ReachesBase p.kept → Put p.kept old.machine.memory.stack stack → Resumed old new
taken_is_resumed old new stack p f w =
    let words : new.machine.memory.stack ≡ stack = ap (λ (m : Machine). m.memory.stack) p.machine in
    record {
      key = p.key;
      kept = p.kept;
      next = record { first = p.next.first; found = p.next.found; rest = p.next.rest };
      fits = f;
      holds = record {
        put = subst (Put p.kept old.machine.memory.stack) (sym words) w;
        rest = p.machine ∙ ap (λ l. (let m : Machine = record { registers = p.kept.registers; memory = record old.machine.memory { base = p.kept.base; stack = l } } in m)) (sym words);
      };
    }
