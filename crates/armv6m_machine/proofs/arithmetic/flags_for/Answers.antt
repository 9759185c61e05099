use Rattle.std.proofs.Common.{◌≡◌, refl, arith}
use Rattle.armv6m_machine.proofs.Flags.{right_bits}
use Rattle.armv6m_machine.proofs.arithmetic.flags_for.Goals as goal

pub returns-in-0 : goal.returns-in-0
returns-in-0 c = let e : c.args.cond ≡ 0 = c.in-0.is in rw e (right_bits 0xf0f0 0 refl)

pub returns-in-1 : goal.returns-in-1
returns-in-1 c = let e : c.args.cond ≡ 1 = c.in-1.is in rw e (right_bits 0x0f0f 1 refl)

pub returns-in-2 : goal.returns-in-2
returns-in-2 c = let e : c.args.cond ≡ 2 = c.in-2.is in rw e (right_bits 0xcccc 2 refl)

pub returns-in-3 : goal.returns-in-3
returns-in-3 c = let e : c.args.cond ≡ 3 = c.in-3.is in rw e (right_bits 0x3333 3 refl)

pub returns-in-4 : goal.returns-in-4
returns-in-4 c = let e : c.args.cond ≡ 4 = c.in-4.is in rw e (right_bits 0xff00 4 refl)

pub returns-in-5 : goal.returns-in-5
returns-in-5 c = let e : c.args.cond ≡ 5 = c.in-5.is in rw e (right_bits 0x00ff 5 refl)

pub returns-in-6 : goal.returns-in-6
returns-in-6 c = let e : c.args.cond ≡ 6 = c.in-6.is in rw e (right_bits 0xaaaa 6 refl)

pub returns-in-7 : goal.returns-in-7
returns-in-7 c = let e : c.args.cond ≡ 7 = c.in-7.is in rw e (right_bits 0x5555 7 refl)

pub returns-in-8 : goal.returns-in-8
returns-in-8 c = let e : c.args.cond ≡ 8 = c.in-8.is in rw e (right_bits 0x0c0c 8 refl)

pub returns-in-9 : goal.returns-in-9
returns-in-9 c = let e : c.args.cond ≡ 9 = c.in-9.is in rw e (right_bits 0xf3f3 9 refl)

pub returns-in-10 : goal.returns-in-10
returns-in-10 c = let e : c.args.cond ≡ 10 = c.in-10.is in rw e (right_bits 0xaa55 10 refl)

pub returns-in-11 : goal.returns-in-11
returns-in-11 c = let e : c.args.cond ≡ 11 = c.in-11.is in rw e (right_bits 0x55aa 11 refl)

pub returns-in-12 : goal.returns-in-12
returns-in-12 c = let e : c.args.cond ≡ 12 = c.in-12.is in rw e (right_bits 0x0a05 12 refl)

pub returns-in_default : goal.returns-in_default
returns-in_default c = let e : c.args.cond ≡ 13 = omega arith in rw e (right_bits 0xf5fa 13 refl)
