use Rattle.std.proofs.Common.{arith, ◌≡◌}
use Rattle.armv6m_machine.proofs.Shifts.{asr_fits, power_fits}
use Rattle.armv6m_machine.proofs.arithmetic.shifted_with_sign.Goals.{then-v-eq1, else-v-eq1}
use Rattle.armv6m_machine.proofs.arithmetic.shifted_with_sign.Goals as goal

pub overflow_cast-result-2 : goal.overflow_cast-result-2
overflow_cast-result-2 c =
    let e : c.from-wide.result ≡ c.args.v = c.from-wide.ensures in
    let f = asr_fits c.args.v c.args.n (omega arith) (omega arith) in
    let p = power_fits c.args.n in
    rw e (elim c.if-v-eq1.branch [ then-v-eq1 w ↦ let s = w.signs-is in omega (arith, f, p) | else-v-eq1 w ↦ let s = w.signs-is in omega (arith, f, p) ])
