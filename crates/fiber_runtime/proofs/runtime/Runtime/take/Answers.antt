use Rattle.std.proofs.Common.{rules, ◌≡◌, ℕ, ◌∷◌, subst, sym, Some, Option, IfSome, ◌∙◌, ap, w32, to_z, of_z}
use Rattle.thumb_code.specs.declared.register_file.Registers.{Registers}
use Rattle.thumb_code.specs.Machine.{State as Machine}
use Rattle.fiber_pool.specs.Kept.{Kept}
use Rattle.fiber_queues.specs.Lists.{ListsOf, Leads}
use Rattle.fiber_runtime.specs.State.{State}
use Rattle.fiber_runtime.specs.Moves.{Taken}
use Rattle.fiber_runtime.proofs.Sound.{next_fits}
use Rattle.fiber_runtime.proofs.runtime.Runtime.take.Goals as goal

pub returns-clause-taken : goal.returns-clause-taken
returns-clause-taken c =
    let i = c.self.inside in
    let s : State = record { machine = i.machine; running = i.running; raisers = i.raisers; pool = i.pool; lists = i.queues } in
    let key = c.args.key in
    let popped : s.lists.ready ≡ c.in-Some.field-0 ∷ c.next.new.self.ready = ap (λ (q : ListsOf ℕ). q.ready) c.in-Some.ensures.taken in
    let leads : Leads key s.lists.ready = subst (λ (q : State). Leads key q.lists.ready) (sym c.self.view_is) c.requires.first in
    let same : key ≡ c.in-Some.field-0 = subst (Leads key) popped leads in
    let f = next_fits s key c.next.new.self.ready c.self.invariant (ap (λ (q : State). q.running) c.self.view_is ∙ c.requires.idle) (ap (λ (q : State). q.raisers) c.self.view_is ∙ c.requires.alone) (popped ∙ ap (λ k. k ∷ c.next.new.self.ready) (sym same)) in
    let kept : c.kept-base.result ≡ (f.kept.registers, f.kept.base) = subst (λ (o : Option Kept). IfSome o (λ j. c.kept-base.result ≡ (j.registers, j.base))) f.found c.kept-base.ensures in
    let v : c.value-value.result ≡ f.kept.value = subst (λ (o : Option Kept). IfSome o (λ k. c.value-value.result ≡ k.value)) f.found c.value-value.ensures in
    let l : c.listener-listener.result ≡ f.kept.listener = subst (λ (o : Option Kept). IfSome o (λ k. c.listener-listener.result ≡ k.listener)) f.found c.listener-listener.ensures in
    let z : to_z w32 (of_z w32 c.value-value.result) ≡ c.value-value.result = search rules in
    let machine : c.set_base.new.self ≡ record { registers = f.kept.registers; memory = record i.machine.memory { base = f.kept.base } } =
    c.set_base.ensures ∙ (ap (λ (m : Machine). record m { memory = record m.memory { base = c.kept-base.result.1 } }) c.set_registers.ensures
    ∙ ap (λ (p : Registers × ℕ). (let m : Machine = record { registers = p.0; memory = record i.machine.memory { base = p.1 } } in m)) kept) in
    subst (λ (q : State). Taken q (record { machine = c.set_base.new.self; running = Some (record { key = Some key; value = to_z w32 (of_z w32 c.value-value.result); listener = c.listener-listener.result }); raisers = i.raisers; pool = i.pool; lists = c.next.new.self })) c.self.view_is
    (record {
      key = key;
      kept = f.kept;
      next = record {
        first = c.in-Some.ensures.taken ∙ ap (λ k. record c.next.new.self { ready = k ∷ c.next.new.self.ready }) (sym same);
        found = f.found;
        rest = ap (λ x. record s { machine = c.set_base.new.self; running = Some (record { key = Some key; value = x; listener = c.listener-listener.result }); lists = c.next.new.self }) (z ∙ v)
            ∙ ap (λ x. record s { machine = c.set_base.new.self; running = Some (record { key = Some key; value = f.kept.value; listener = x }); lists = c.next.new.self }) l;
      };
      machine = machine;
    })
