use Rattle.sts_scope.proofs.Seeing.{marked_less, ends_seen, ends_here}
use Rattle.sts_scope.proofs.lines.see.Goals as goal

pub loop-next-smaller : goal.loop-next-smaller
loop-next-smaller c = marked_less c.loop-next.seen c.mark.new.seen c.in-Some.c c.mark.result c.mark.ensures.first c.mark.ensures.marked c.if-not-mark.false

pub returns-then-not-mark : goal.returns-then-not-mark
returns-then-not-mark c =
    ends_seen c.args.classes.now c.args.seen.now c.loop-next.seen c.mark.new.seen c.args.order.now.items c.loop-next.order.items c.args.c c.in-Some.c c.loop-next.next c.mark.result
    c.loop-next.invariant c.in-Some.is c.mark.ensures.first c.mark.ensures.marked c.if-not-mark.true

pub returns-in_default : goal.returns-in_default
returns-in_default c = ends_here c.args.classes.now c.args.seen.now c.loop-next.seen c.args.order.now.items c.loop-next.order.items c.args.c c.loop-next.next c.loop-next.invariant c.in_default.is
