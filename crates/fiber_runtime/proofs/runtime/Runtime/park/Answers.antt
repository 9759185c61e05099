use Rattle.std.proofs.Common.{◌≡◌, ℕ, ◌+◌, ◌*◌, Option, Some, None, IfSome, ap, length, sym, ◌∙◌, subst}
use Rattle.slab.specs.Slab.{Updates}
use Rattle.fiber_pool.specs.Kept.{Kept, kept_at}
use Rattle.bank_model.specs.Standing.{IsInside}
use Rattle.fiber_runtime.specs.State.{State, running_key, kept_of}
use Rattle.fiber_runtime.proofs.Sound.{sound_laid, updates_twice}
use Rattle.fiber_runtime.proofs.runtime.Runtime.park.Goals as goal

abbrev Sized : State → Option ℕ → Type 0
Sized s o = IfSome o (λ key. s.machine.registers.sp + 4 * length (kept_at s.pool key).words ≡ s.machine.memory.base)

pub invariant_of-self : goal.invariant_of-self
invariant_of-self c =
    let i = c.self.inside in
    let s : State = record { machine = i.machine; running = i.running; raisers = i.raisers; pool = i.pool; lists = i.queues } in
    let n : State = record { machine = i.machine; running = None; raisers = i.raisers; pool = c.name.new.pool; lists = c.join.new.queues } in
    let key = c.in-Some-key.key in
    let k = kept_at i.pool key in
    let x : Kept = record (kept_of i.machine c.in-Some.turning) { words = k.words } in
    let mine : running_key i.running ≡ Some key = ap running_key c.in-Some.is ∙ c.in-Some-key.is in
    let sized : Sized s (running_key i.running) = subst (λ (q : State). Sized q (running_key q.running)) (sym c.self.view_is) c.requires.sized in
    let span : s.machine.registers.sp + 4 * length k.words ≡ s.machine.memory.base = subst (Sized s) mine sized in
    let inside : IsInside s.machine.registers.sp s.machine.memory.base = subst (λ (q : State). IsInside q.machine.registers.sp q.machine.memory.base) (sym c.self.view_is) c.requires.inside in
    let y : Kept = record k { registers = c.registers.result; base = c.base.result } in
    let whole : record y { value = c.in-Some.turning.value; listener = c.in-Some.turning.listener } ≡ x =
    ap (λ r. (let z : Kept = record { registers = r; base = c.base.result; value = c.in-Some.turning.value; listener = c.in-Some.turning.listener; words = k.words } in z)) c.registers.ensures
    ∙ ap (λ b. (let z : Kept = record { registers = i.machine.registers; base = b; value = c.in-Some.turning.value; listener = c.in-Some.turning.listener; words = k.words } in z)) c.base.ensures in
    let named = c.name.ensures.updates y (c.keep.ensures.updates.changed) in
    sound_laid key c.args.now c.in-Some.turning c.args.why s n x c.self.invariant c.in-Some.is c.in-Some-key.is
    (record { span = span; inside = λ some. inside })
    (updates_twice i.pool c.keep.new.self c.name.new.pool key _ (Some x) c.keep.ensures.updates (subst (λ z. Updates c.keep.new.self c.name.new.pool key (Some z)) whole named))
    (c.name.ensures.live ∙ c.keep.ensures.live)
    (ap (λ q. record n { lists = q }) c.join.ensures)
