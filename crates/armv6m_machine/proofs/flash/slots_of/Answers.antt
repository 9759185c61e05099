use Rattle.std.proofs.Common.{◌≡◌, ◌*◌, ◌+◌, length, length-append, arith}
use Rattle.armv6m_machine.specs.Steps.{IsSlot}
use Rattle.armv6m_machine.proofs.Slots.{slots_more}
use Rattle.armv6m_machine.proofs.flash.slots_of.Goals as goal

pub loop-k-preserved : goal.loop-k-preserved
loop-k-preserved c =
    let told = c.loop-k.invariant.told in
    let count : length c.loop-k.slots.items ≡ c.loop-k.k = c.loop-k.invariant.count in
    let pushed = c.in-Ok-push.ensures.items in
    let at : 2 * c.loop-k.k ≡ 0 + 2 * length c.loop-k.slots.items = omega arith in
    let here : IsSlot c.args.bytes.now (2 * c.loop-k.k) c.read.result = c.read.ensures in
    rw pushed (record { told = slots_more c.args.bytes.now 0 c.loop-k.slots.items c.read.result told (rw at at here); count = simp length-append (omega arith) })
