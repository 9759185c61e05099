use Rattle.std.proofs.Common.{◌≡◌, ◌∙◌, sym, ap, arith, List, set}
use Rattle.board_world.specs.declared.events.Event.{Event}
use Rattle.message_bus.specs.ListenerState.{ListenerState, oldest, ended}
use Rattle.message_bus.specs.BusState.{BusState}
use Rattle.message_bus.proofs.Changes.{alive-here, held-here, changed-here}
use Rattle.message_bus.proofs.bus.Bus.again.Goals as goal

pub end-requires : goal.end-requires
end-requires c =
    let same = ap (λ (h : BusState). h.listeners) c.self.view_is in
    let lives = alive-here c.self.inside.registrations.items c.args.self.now.listeners c.args.at c.index_mut-registration.result.now same c.requires.stands c.index_mut-registration.ensures.value in
    omega (arith, lives, c.requires.lives)

pub returns-clause-next : goal.returns-clause-next
returns-clause-next c =
    let same = ap (λ (h : BusState). h.listeners) c.self.view_is in
    c.end.ensures.next
    ∙ ap oldest (sym (held-here c.self.inside.registrations.items c.args.self.now.listeners c.args.at c.index_mut-registration.result.now same c.requires.stands c.index_mut-registration.ensures.value))

same_heard : (ls ls' : List ListenerState) (q q' : List Event) → ls ≡ ls' → q ≡ q' → (let a : BusState = record { listeners = ls; queue = q } in let b : BusState = record { listeners = ls'; queue = q' } in a ≡ b)
same_heard ls ls' q q' e f = rw (e, f)

pub returns-clause-after : goal.returns-clause-after
returns-clause-after c =
    let same = ap (λ (h : BusState). h.listeners) c.self.view_is in
    same_heard _ _ _ _
    (ap (set c.self.inside.registrations.items c.args.at) c.end.ensures.after
    ∙ changed-here c.self.inside.registrations.items c.args.self.now.listeners c.args.at c.index_mut-registration.result.now same c.requires.stands c.index_mut-registration.ensures.value ended)
    (ap (λ (h : BusState). h.queue) c.self.view_is)
