use Rattle.std.proofs.Common.{rules, ◌≡◌, ℕ, subst, Some, Option, IfSome, ◌∙◌, ap, w32, to_z, of_z}
use Rattle.fiber_pool.specs.Kept.{Kept}
use Rattle.fiber_queues.specs.Lists.{ListsOf}
use Rattle.fiber_runtime.specs.State.{State}
use Rattle.fiber_runtime.specs.Moves.{Resumed}
use Rattle.fiber_runtime.proofs.Sound.{next_fits}
use Rattle.fiber_runtime.proofs.runtime.Runtime.resume.Goals as goal

pub returns-in-Some-clause-some : goal.returns-in-Some-clause-some
returns-in-Some-clause-some c =
    let i = c.self.inside in
    let s : State = record { machine = i.machine; running = i.running; raisers = i.raisers; pool = i.pool; lists = i.queues } in
    let key = c.in-Some.key in
    let f = next_fits s key c.next.new.self.ready c.self.invariant (ap (λ (q : State). q.running) c.self.view_is ∙ c.requires.idle) (ap (λ (q : State). q.raisers) c.self.view_is ∙ c.requires.alone) (ap (λ (q : ListsOf ℕ). q.ready) c.in-Some.ensures.taken) in
    let v : c.value-value.result ≡ f.kept.value = subst (λ (o : Option Kept). IfSome o (λ k. c.value-value.result ≡ k.value)) f.found c.value-value.ensures in
    let l : c.listener-listener.result ≡ f.kept.listener = subst (λ (o : Option Kept). IfSome o (λ k. c.listener-listener.result ≡ k.listener)) f.found c.listener-listener.ensures in
    let z : to_z w32 (of_z w32 c.value-value.result) ≡ c.value-value.result = search rules in
    subst (λ (q : State). Resumed q (record { machine = c.copy_in.new.machine; running = Some (record { key = Some key; value = to_z w32 (of_z w32 c.value-value.result); listener = c.listener-listener.result }); raisers = i.raisers; pool = i.pool; lists = c.next.new.self })) c.self.view_is
    (record {
      key = key;
      kept = f.kept;
      next = record {
        first = c.in-Some.ensures.taken;
        found = f.found;
        rest = ap (λ x. record s { machine = c.copy_in.new.machine; running = Some (record { key = Some key; value = x; listener = c.listener-listener.result }); lists = c.next.new.self }) (z ∙ v)
            ∙ ap (λ x. record s { machine = c.copy_in.new.machine; running = Some (record { key = Some key; value = f.kept.value; listener = x }); lists = c.next.new.self }) l;
      };
      fits = f.fits;
      holds = c.copy_in.ensures f.kept f.found;
    })
