use Rattle.std.proofs.Common.{◌≡◌, ◌+◌, ◌*◌, ◌/◌, ℕ, List, None, arith, sym, ap, ◌∙◌, subst, get_or}
use Rattle.armv6m_machine.specs.Steps.{IsSlot}
use Rattle.armv6m_machine.proofs.Slots.{slot_at}
use Rattle.armv6m_machine.proofs.flash.Flash.slot.Goals as goal

pub returns-in-Some : goal.returns-in-Some
returns-in-Some c =
    let e : 0 + 2 * (c.args.at / 2) ≡ c.args.at = omega arith in
    let bytes : List ℕ → Type 0 = λ f. IsSlot f c.args.at c.in-Some.slot.now in
    let told = slot_at c.self.inside.bytes.items 0 c.self.inside.slots.items (c.args.at / 2) c.self.invariant in
    let same : get_or c.self.inside.slots.items (c.args.at / 2) None ≡ c.in-Some.slot.now = sym (c.in-Some.ensures.lookup.3.1 None ∙ ap (λ xs. get_or xs (c.args.at / 2) None) c.deref.ensures.value) in
    subst bytes c.self.view_is (rw e at (rw same at told))
