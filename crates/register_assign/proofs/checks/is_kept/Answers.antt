use Rattle.std.proofs.Common.{length, refl, arith, Some, ◌≡◌, slice_get}
use Rattle.std.proofs.lemmas.Option.{slice_get_read}
use Rattle.register_assign.specs.Checks.{IsClear, IsKept}
use Rattle.register_assign.proofs.Checking.{refuted, shown, clear_of, kept_of, clear_more}
use Rattle.register_assign.proofs.checks.is_kept.Goals as goal

pub returns-then-not-is_clear : goal.returns-then-not-is_clear
returns-then-not-is_clear c =
    let ops = c.args.ops.now in
    let g : slice_get ops c.loop-at.at ≡ Some c.index-ops-at.result = slice_get_read ops (length ops) c.loop-at.at c.index-ops-at.result refl (omega arith) c.index-ops-at.is in
    refuted c.is_clear.result (IsClear c.index-ops-at.result c.loop-at.at c.args.places.now c.args.u c.args.marks.now) (IsKept ops c.args.places.now c.args.u) c.is_clear.ensures c.if-not-is_clear.true
    (clear_of ops c.args.places.now c.args.u c.args.marks.now c.loop-at.at c.index-ops-at.result g c.requires.marks)

pub loop-at-preserved : goal.loop-at-preserved
loop-at-preserved c =
    let ops = c.args.ops.now in
    let g : slice_get ops c.loop-at.at ≡ Some c.index-ops-at.result = slice_get_read ops (length ops) c.loop-at.at c.index-ops-at.result refl (omega arith) c.index-ops-at.is in
    clear_more ops c.args.places.now c.args.u c.args.marks.now c.loop-at.at c.index-ops-at.result g (c.is_clear.ensures.0 c.if-not-is_clear.false) c.loop-at.invariant

pub returns : goal.returns
returns c =
    shown (IsKept c.args.ops.now c.args.places.now c.args.u) (kept_of c.args.ops.now c.args.places.now c.args.u c.args.marks.now c.loop-at.at c.requires.marks (omega arith) c.loop-at.invariant)
