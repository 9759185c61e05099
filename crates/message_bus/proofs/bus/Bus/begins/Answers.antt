use Rattle.std.proofs.Common.{◌≡◌, ◌∙◌, ap}
use Rattle.std.specs.List.{list_any}
use Rattle.message_bus.specs.ListenerState.{begins_new}
use Rattle.message_bus.specs.BusState.{BusState}
use Rattle.message_bus.proofs.Changes.{some-bit}
use Rattle.message_bus.proofs.bus.Bus.begins.Goals as goal

pub returns-clause-bits : goal.returns-clause-bits
returns-clause-bits c =
    let found : c.some_begins.result ≡ list_any (begins_new c.args.event) c.args.self.now.listeners =
    c.some_begins.ensures ∙ ap (list_any (begins_new c.args.event)) (c.as_slice.ensures.value ∙ ap (λ (h : BusState). h.listeners) c.self.view_is) in
    rw found (some-bit c.args.event c.args.self.now.listeners)
