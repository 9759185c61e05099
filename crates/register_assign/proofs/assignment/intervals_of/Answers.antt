use Rattle.std.proofs.Common.{◌≡◌, ◌+◌, ◌∷◌, ◌++◌, [], List, sym, ap, ◌∙◌, subst, arith, nat_lt}
use Rattle.std.proofs.lemmas.Grind.{common_steps}
use Rattle.std.proofs.lemmas.Bool.{lt-ltb}
use Rattle.flat_ir.specs.declared.ops.Op.{Op}
use Rattle.flat_ir.specs.WellFormed.{temporaries}
use Rattle.register_assign.specs.declared.intervals.Interval.{Interval}
use Rattle.register_assign.specs.Intervals.{Covers, AreIntervals}
use Rattle.register_assign.specs.Chosen.{busy_interval, intervals_to}
use Rattle.register_assign.proofs.Assigning.{intervals_step}
use Rattle.register_assign.proofs.Choosing.{firsts_next}
use Rattle.register_assign.proofs.assignment.intervals_of.Goals as goal

pub loop-t-preserved : goal.loop-t-preserved
loop-t-preserved c =
    let f = c.args.function.now in
    let t = c.loop-t.t in
    let intervals = c.loop-t.intervals.items in
    let interval = c.interval_of-interval.result in
    let made = c.interval_of-interval.ensures in
    let i = c.loop-t.invariant in
    let noted : c.push.new.self.items ≡ intervals ++ interval ∷ [] = grind (arith, common_steps) in
    let step = intervals_step f intervals t interval i.0
    (subst (λ (q : List Op). Covers q t interval) c.as_slice-ops.ensures made.covers)
    (λ l. made.entry (lt-ltb t f.params l)) in (
      subst (λ (q : List Interval). AreIntervals f q (t + 1)) (sym noted) step,
      noted ∙ firsts_next (λ u. busy_interval f.ops u (nat_lt u f.params)) t intervals interval i.1 (subst (λ (q : List Op). interval ≡ busy_interval q t (nat_lt t f.params)) c.as_slice-ops.ensures made.chosen),
    )

pub returns : goal.returns
returns c =
    let f = c.args.function.now in
    let e : c.loop-t.t ≡ temporaries f = omega arith in
    let i = c.loop-t.invariant in
    record { intervals = subst (AreIntervals f c.loop-t.intervals.items) e i.0; chosen = i.1 ∙ ap (intervals_to f) e }
