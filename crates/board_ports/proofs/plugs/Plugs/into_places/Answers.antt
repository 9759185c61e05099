use Rattle.std.proofs.Common.{rules, ap, subst, sym, List}
use Rattle.std.specs.Prelude.{Option}
use Rattle.board_ports.specs.History.{PlacesAfter, entries_at, unplugged_at}
use Rattle.board_ports.specs.Plugged.{Plugged, SettlesAll}
use Rattle.board_ports.proofs.History.{settled_none, settled_more, settled_all, follows_settle, places_after}
use Rattle.board_ports.proofs.plugs.Plugs.into_places.Goals as goal

pub loop-port-preserved : goal.loop-port-preserved
loop-port-preserved g c = (
  settled_more g.D.Device.account g.D.Device.settled c.loop-port.port c.args.self c.loop-port.plugs c.settle.new.self c.loop-port.invariant.0 c.settle.ensures.settles c.settle.ensures.others,
  λ moves start f. c.settle.ensures.follows moves start (c.loop-port.invariant.1 moves start f),
)

pub returns-clause-settles : goal.returns-clause-settles
returns-clause-settles g c =
    subst (λ (l : List (Option g.row.D.Denot)). SettlesAll g.D.Device.settled g.D.Device.account c.args.self l) (ap (λ (p : Plugged g.row.D.Denot). p.places) (sym c.plugs.view_is))
    (settled_all g.D.Device.account g.D.Device.settled c.loop-port.port c.args.self c.loop-port.plugs (search rules) c.loop-port.invariant.0)

pub returns-clause-after : goal.returns-clause-after
returns-clause-after g c = λ moves start f.
    subst (λ (l : List (Option g.row.D.Denot)). PlacesAfter g.D.Device.account (entries_at moves) (unplugged_at moves) start l) (ap (λ (p : Plugged g.row.D.Denot). p.places) (sym c.plugs.view_is))
    (places_after g.D.Device.account moves start c.loop-port.plugs (c.loop-port.invariant.1 moves start f))
