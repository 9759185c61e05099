use Rattle.std.proofs.Common.{arith, ap, sym, ◌∙◌}
use Rattle.message_bus.specs.ListenerState.{heard}
use Rattle.message_bus.proofs.Changes.{heard-next}
use Rattle.message_bus.proofs.registration.hear_all.Goals as goal

pub loop-registration-preserved : goal.loop-registration-preserved
loop-registration-preserved c =
    heard-next (heard c.args.event) c.args.registrations.now c.loop-registration.registrations c.loop-registration.registration-index c.registration-item.result c.hear.new.self c.loop-registration.invariant c.registration-item.is
    (c.hear.ensures ∙ ap (heard c.args.event) (sym c.registration-item.is)) (omega arith)
