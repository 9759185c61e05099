use Rattle.std.proofs.Common.{◌≡◌, ◌<◌, ◌+◌, ℕ, length, true, false, refl, sym, ◌∙◌, subst, arith}
use Rattle.std.proofs.lemmas.Grind.{common_steps}
use Rattle.std.proofs.lemmas.Option.{slice_get_read}
use Rattle.register_assign.specs.Chosen.{interval_from, empty_interval}
use Rattle.register_assign.proofs.Covering.{Covering, is_busy, covering_busy, covering_idle, covering_last}
use Rattle.register_assign.proofs.Choosing.{same_interval, widened_next}
use Rattle.register_assign.proofs.intervals.interval_of.Goals.{then-busy, else-busy, then-marks-at, else-marks-at}
use Rattle.register_assign.proofs.intervals.interval_of.Goals as goal

pub loop-at-init : goal.loop-at-init
loop-at-init c = grind (arith, common_steps)

pub loop-at-preserved : goal.loop-at-preserved
loop-at-preserved c =
    let ops = c.args.ops.now in let marks = c.args.marks.now in
    let at = c.loop-at.at in let op = c.index-ops-at.result in
    let i = c.loop-at.invariant in
    let start = empty_interval ops c.args.is_parameter in
    let l : at < length ops = omega (arith, c.loop-at-test.true) in
    let g = slice_get_read ops (length ops) at op refl l c.index-ops-at.is in
    elim c.if-busy.branch [
      | then-busy w ↦
          let busy : is_busy op c.args.t marks at ≡ true = elim c.if-marks-at.branch [
            | then-marks-at v ↦ grind (arith, common_steps)
            | else-marks-at v ↦ grind (arith, common_steps)
          ] in
          let first = w.first-is ∙ w.min-first.ensures in (
            covering_busy ops c.args.t marks c.args.is_parameter at c.loop-at.first c.loop-at.end i.0 c.if-busy.first c.if-busy.end first w.end-is,
            widened_next ops c.args.t at op marks start true (interval_from c.loop-at.first c.loop-at.end) (interval_from c.if-busy.first c.if-busy.end) g c.requires i.1 busy
                (same_interval _ _ _ _ first w.end-is),
          )
      | else-busy w ↦
          let idle : is_busy op c.args.t marks at ≡ false = elim c.if-marks-at.branch [
            | then-marks-at v ↦ absurd (cc)
            | else-marks-at v ↦ grind (arith, common_steps)
          ] in (
            subst (λ (n : ℕ). Covering ops c.args.t marks c.args.is_parameter (at + 1) n c.if-busy.end) (sym w.first-is)
                (subst (λ (n : ℕ). Covering ops c.args.t marks c.args.is_parameter (at + 1) c.loop-at.first n) (sym w.end-is)
                (covering_idle ops c.args.t marks c.args.is_parameter at c.loop-at.first c.loop-at.end i.0 op g idle)),
            widened_next ops c.args.t at op marks start false (interval_from c.loop-at.first c.loop-at.end) (interval_from c.if-busy.first c.if-busy.end) g c.requires i.1 idle
                (same_interval _ _ _ _ w.first-is w.end-is),
          )
    ]

pub returns-clause-covers : goal.returns-clause-covers
returns-clause-covers c =
    covering_last c.args.ops.now c.args.t c.args.marks.now c.args.is_parameter c.loop-at.at (record { first = c.loop-at.first; end = c.loop-at.end }) c.requires (omega arith) c.loop-at.invariant.0

pub returns-clause-entry : goal.returns-clause-entry
returns-clause-entry c = c.loop-at.invariant.0.entry
