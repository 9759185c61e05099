-- A step of the machine leaves all words from the base on.
use Rattle.std.proofs.Common.{◌≡◌, refl, sym, ap, subst}
use Rattle.thumb_code.specs.Step.{Stepped, On, Served, Faulted}
use Rattle.thumb_code.specs.Machine.{State as Machine, step, Ram}
use Rattle.armv6m_machine.specs.Steps.{IsStep}
use Rattle.armv6m_machine.specs.declared.faults.Turn.{Turn}
use Rattle.armv6m_machine.specs.declared.faults.Turn.TheVariants.{Went, Service, Fault}
use Rattle.bank_model.specs.Standing.{KeepsAbove, StepKeepsAbove}
use Rattle.bank_model.proofs.Laws.{step_keeps}

-- also where it is a fault, which leaves the machine as it was
pub step_kept : (m m2 : Machine) (turn : Turn) → IsStep (step m) turn m m2 → KeepsAbove m.memory m2.memory
step_kept m m2 turn h = by_step (step m) turn (step_keeps m) h
  where
    along : (t : Ram) → KeepsAbove m.memory t → m2.memory ≡ t → KeepsAbove m.memory m2.memory
    along t k e = subst (KeepsAbove m.memory) (sym e) k

    by_step : (x : Stepped Ram) (turn : Turn) → StepKeepsAbove m.memory x → IsStep x turn m m2 → KeepsAbove m.memory m2.memory
    by_step (On r t) turn k s = along t k.0 (ap (λ (x : Machine). x.memory) s.1)
    by_step (Served n r t) turn k s = along t k.0 (ap (λ (x : Machine). x.memory) s.1)
    by_step (Faulted n at) (Fault f a) k s = along m.memory (record { flash = refl; base = refl; size = refl; above = refl }) (ap (λ (x : Machine). x.memory) s.2)
    by_step (Faulted n at) Went k s = absurd s
    by_step (Faulted n at) (Service q) k s = absurd s
