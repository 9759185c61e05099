use Rattle.std.proofs.Common.{◌≡◌, true, length, subst, arith}
use Rattle.register_assign.specs.Chosen.{is_free_to}
use Rattle.register_assign.proofs.Choosing.{free_is}
use Rattle.register_assign.proofs.intervals.is_free.Goals as goal

pub returns-clause-free : goal.returns-clause-free
returns-clause-free c = λ e.
    let n : c.loop-u.u ≡ length c.args.places.now = omega arith in
    free_is c.args.register c.args.places.now c.args.intervals.now c.args.interval
    (subst (λ k. is_free_to c.args.register c.args.places.now c.args.intervals.now c.args.interval k ≡ true) n c.loop-u.invariant)
