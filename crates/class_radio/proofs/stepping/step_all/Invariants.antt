use Rattle.std.proofs.Common.{◌≡◌, ◌≤◌, List}
use Rattle.class_radio.specs.Stepped.{ClassPlan, Past}
use Rattle.class_radio.specs.Stopping.{AreAt}
use Rattle.class_radio.proofs.Stepped.{Onto, moments_left}
use Rattle.class_radio.proofs.stepping.step_all.Given as goal

abbrev pub invariant-loop-next : goal.invariant-loop-next
invariant-loop-next g l = record {
  onto : (plan : ClassPlan) (pasts : List Past) → plan.losses ≡ l.losses → plan.until ≡ l.end → AreAt plan (g.K.Sink.taken l.initial.out) 0 pasts l.initial.players.items (g.K.Sink.taken l.initial.out)
      → Onto plan (g.K.Sink.taken l.initial.out) l.next l.players.items (g.K.Sink.taken l.out);
  later : g.K.Sink.faults l.initial.out ≤ g.K.Sink.faults l.out;
}

abbrev pub decreases-loop-next : goal.decreases-loop-next
decreases-loop-next g l = moments_left l.end l.next
