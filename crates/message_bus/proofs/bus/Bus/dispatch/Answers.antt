use Rattle.std.proofs.Common.{◌≡◌, ◌∙◌, ap}
use Rattle.message_bus.specs.BusState.{BusState, begun_bits}
use Rattle.message_bus.proofs.Changes.{each-bit}
use Rattle.message_bus.proofs.bus.Bus.dispatch.Goals as goal

pub returns-clause-each : goal.returns-clause-each
returns-clause-each c i =
    let found : c.begun-bits.result ≡ begun_bits c.args.event c.args.self.now.listeners =
    c.begun-bits.ensures.bits ∙ ap (begun_bits c.args.event) (c.as_slice.ensures.value ∙ ap (λ (h : BusState). h.listeners) c.self.view_is) in
    rw found (each-bit c.args.event c.args.self.now.listeners i)
