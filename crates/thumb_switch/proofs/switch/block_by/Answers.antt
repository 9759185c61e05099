use Rattle.std.proofs.Common.{sym, ap, subst, ◌∙◌, ◌≡◌, ◌-◌, ◌/◌, length}
use Rattle.fiber_runtime.specs.State.{State}
use Rattle.thumb_code.specs.declared.register_file.Registers.{Registers}
use Rattle.thumb_switch.specs.Switching.{counted, BlockedBy}
use Rattle.thumb_switch.proofs.Blocking.{live_resized, blocked_from, key_same, sized_left, runs_on, few_steps}
use Rattle.thumb_switch.proofs.switch.block_by.Goals as goal

pub run-steps-requires-clause-live : goal.run-steps-requires-clause-live
run-steps-requires-clause-live c = live_resized _ c.args.runtime.now c.in-Some.key ((c.base.result - c.registers-sp.result.sp) / 4) c.size.ensures.live c.size.ensures.sized

pub park-requires-clause-sized : goal.park-requires-clause-sized
park-requires-clause-sized c = sized_left _ _ c.args.runtime.now _ c.registers-sp.result.sp c.base.result _ _ c.size.ensures.live c.requires.inside (ap (λ (r : Registers). r.sp) c.registers-sp.ensures) c.base.ensures c.size.ensures.sized c.run-steps.ensures.executes c.run-steps.ensures.known c.running.ensures.key c.in-Some.is

pub returns-clause-any : goal.returns-clause-any
returns-clause-any c key t h e f held =
    let key_is : key ≡ c.in-Some.key = key_same c.args.runtime.now.running c.running.result key c.in-Some.key t e f c.running.ensures.key c.in-Some.is in
    let now = runs_on _ _ c.args.runtime.now ((c.base.result - c.registers-sp.result.sp) / 4) t c.size.ensures.sized c.run-steps.ensures.known e in
    let b = blocked_from _ _ c.args.runtime.now c.park.new.self h key t c.args.why c.args.now c.run-steps.result c.registers-sp.result.sp c.base.result _ c.size.ensures.live
    (ap (λ (r : Registers). r.sp) c.registers-sp.ensures) c.base.ensures c.size.ensures.sized c.call.ensures c.run-steps.ensures.executes c.run-steps.ensures.known held key_is (c.park.ensures key t now f) in
    subst (BlockedBy key t c.args.why c.args.now h (counted h c.run-steps.result) c.args.runtime.now) (sym (c.runtime-1.given.1 (sym c.run-steps.ensures.known.reference))) b

pub returns-clause-most : goal.returns-clause-most
returns-clause-most c = (few_steps c.run-steps.result c.registers-sp.result.sp c.base.result c.args.runtime.now _ _ _ c.requires.inside (ap (λ (r : Registers). r.sp) c.registers-sp.ensures) c.base.ensures c.run-steps.ensures.executes).0

pub returns-clause-small : goal.returns-clause-small
returns-clause-small c = (few_steps c.run-steps.result c.registers-sp.result.sp c.base.result c.args.runtime.now _ _ _ c.requires.inside (ap (λ (r : Registers). r.sp) c.registers-sp.ensures) c.base.ensures c.run-steps.ensures.executes).1

pub returns-clause-stack : goal.returns-clause-stack
returns-clause-stack c = ap (λ (s : State). length s.machine.memory.stack) (sym c.size.ensures.sized) ∙ c.run-steps.ensures.region
