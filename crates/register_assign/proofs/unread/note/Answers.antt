use Rattle.std.proofs.Common.{◌≡◌, ◌<◌, ◌+◌, length, not, refl, sym, ap, ◌∙◌, subst, slice_set, arith}
use Rattle.std.proofs.lemmas.Option.{slice_get_read}
use Rattle.register_assign.specs.Unread.{AreNotedAnew}
use Rattle.register_assign.proofs.Unreading.{noted_here, noted_past}
use Rattle.register_assign.proofs.unread.note.Goals.{then-handles, else-handles}
use Rattle.register_assign.proofs.unread.note.Goals as goal

pub loop-at-preserved : goal.loop-at-preserved
loop-at-preserved c =
    let ops = c.args.ops.now in
    let at = c.loop-at.at in
    let l : at < length ops = omega (arith, c.loop-at-test.true) in
    let op = c.index-ops-at.result in
    let g = slice_get_read ops (length ops) at op refl l c.index-ops-at.is in
    elim c.if-handles.branch [
      | then-handles w ↦
          subst (AreNotedAnew ops c.args.t (at + 1) c.args.notes.now)
          (sym (w.notes-is ∙ ap (λ b. slice_set c.loop-at.notes at (not b)) w.is_marked_behind.ensures))
          (noted_here ops c.args.t at op c.args.marks.now c.args.notes.now c.loop-at.notes g c.requires.marks c.requires.long (sym c.handles.ensures ∙ w.if-handles.true) c.loop-at.invariant)
      | else-handles w ↦
          subst (AreNotedAnew ops c.args.t (at + 1) c.args.notes.now) (sym w.notes-is)
          (noted_past ops c.args.t at op c.args.notes.now c.loop-at.notes g (sym c.handles.ensures ∙ w.if-handles.false) c.loop-at.invariant)
    ]

pub loop-at-init : goal.loop-at-init
loop-at-init c = Rattle.register_assign.proofs.Unreading.noted_first c.args.ops.now c.args.t c.args.notes.now

pub returns : goal.returns
returns c =
    let e : c.loop-at.at ≡ length c.args.ops.now = omega arith in
    subst (λ n. AreNotedAnew c.args.ops.now c.args.t n c.args.notes.now c.loop-at.notes) e c.loop-at.invariant
