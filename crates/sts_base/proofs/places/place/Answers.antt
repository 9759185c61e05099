use Rattle.std.proofs.Common.{sym, ◌∙◌}
use Rattle.sts_base.proofs.Lines.{kept-first, kept-begins, kept-goes-on}
use Rattle.sts_base.proofs.places.place.Goals as goal
use Rattle.sts_base.proofs.places.place.Goals.{then-begins_line, else-begins_line}

pub loop-here-init : goal.loop-here-init
loop-here-init c = kept-first c.args.text.now

pub loop-here-preserved : goal.loop-here-preserved
loop-here-preserved c =
    elim c.if-begins_line.branch [
      | then-begins_line w ↦ kept-begins _ _ _ _ _ _ c.loop-here.invariant (sym c.begins_line.ensures ∙ w.if-begins_line.true) w.line-is w.start-is
      | else-begins_line w ↦ kept-goes-on _ _ _ _ _ _ c.loop-here.invariant (sym c.begins_line.ensures ∙ w.if-begins_line.false) w.line-is w.start-is
    ]
