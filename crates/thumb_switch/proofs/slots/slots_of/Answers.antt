use Rattle.std.proofs.Common.{◌<◌, ◌∙◌, length, refl, length-set, arith}
use Rattle.thumb_switch.proofs.ReadOnce.{nones_tell, one_read}
use Rattle.thumb_switch.proofs.slots.slots_of.Goals as goal

pub loop-place-init : goal.loop-place-init
loop-place-init c = (refl, nones_tell c.args.code.now 16)

pub loop-place-preserved : goal.loop-place-preserved
loop-place-preserved c =
    let count = c.loop-place.invariant.0 in
    let test = c.loop-place-test.true in
    let there : c.loop-place.place < length c.loop-place.slots = omega (arith, count, test) in
    (length-set c.loop-place.slots _ _ ∙ count, one_read c.args.code.now c.loop-place.slots c.loop-place.place c.read.result there c.loop-place.invariant.1 c.read.ensures)
