use Rattle.std.proofs.Common.{◌≡◌, ◌<◌, ◌+◌, ◌-◌, ℕ, length, refl, sym, ap, subst, cond, true, arith}
use Rattle.std.proofs.lemmas.Option.{slice_get_read}
use Rattle.register_assign.proofs.Marking.{Passing, pass_step}
use Rattle.register_assign.proofs.liveness.pass.Goals as goal

pub loop-at-preserved-then-made : goal.loop-at-preserved-then-made
loop-at-preserved-then-made c =
    let reached = c.loop-at.invariant.reached in
    let positive = c.loop-at-test.true in
    let l : c.loop-at.at - 1 < length c.args.ops.now = omega arith in
    let s : c.loop-at.at ≡ c.loop-at.at - 1 + 1 = omega arith in
    pass_step c.args.ops.now c.args.t c.args.marks.now c.loop-at.marks c.loop-at.changed (c.loop-at.at - 1) c.index-ops-at.result
    (slice_get_read c.args.ops.now (length c.args.ops.now) (c.loop-at.at - 1) c.index-ops-at.result refl l c.index-ops-at.is)
    (subst (λ (k : ℕ). Passing c.args.ops.now c.args.t c.args.marks.now c.loop-at.marks c.loop-at.changed k) s c.loop-at.invariant)
    c.mark-made.result c.mark-made.ensures.made c.mark-made.new.marks c.mark-made.ensures.marks true (sym (ap (λ b. cond b true c.loop-at.changed) c.if-made.true))

pub loop-at-preserved : goal.loop-at-preserved
loop-at-preserved c =
    let reached = c.loop-at.invariant.reached in
    let positive = c.loop-at-test.true in
    let l : c.loop-at.at - 1 < length c.args.ops.now = omega arith in
    let s : c.loop-at.at ≡ c.loop-at.at - 1 + 1 = omega arith in
    pass_step c.args.ops.now c.args.t c.args.marks.now c.loop-at.marks c.loop-at.changed (c.loop-at.at - 1) c.index-ops-at.result
    (slice_get_read c.args.ops.now (length c.args.ops.now) (c.loop-at.at - 1) c.index-ops-at.result refl l c.index-ops-at.is)
    (subst (λ (k : ℕ). Passing c.args.ops.now c.args.t c.args.marks.now c.loop-at.marks c.loop-at.changed k) s c.loop-at.invariant)
    c.mark-made.result c.mark-made.ensures.made c.mark-made.new.marks c.mark-made.ensures.marks c.loop-at.changed (sym (ap (λ b. cond b true c.loop-at.changed) c.if-made.false))
