use Rattle.std.proofs.Common.{◌≡◌, drop}
use Rattle.event_script.specs.Order.{falls_by}
use Rattle.event_script.proofs.order.falls.Given as goal

-- none fell so far
abbrev pub invariant-loop-item : goal.invariant-loop-item
invariant-loop-item g l = falls_by g.X.Ordered.place l.before (drop l.item-index l.items) ≡ falls_by g.X.Ordered.place 0 l.fn.items
