use Rattle.std.proofs.Common.{◌≡◌, ◌≤◌, ℕ, List, length, Option}
use Rattle.class_radio.specs.Stepped.{ClassPlan, Past}
use Rattle.class_radio.specs.Stopping.{AreAt}
use Rattle.class_radio.proofs.Turning.{Midway}
use Rattle.class_radio.proofs.turns.go_all.Given as goal

abbrev pub invariant-loop-number : goal.invariant-loop-number
invariant-loop-number g l = record {
  midway : (plan : ClassPlan) (began : Option (List ℕ)) (pasts : List Past) → AreAt plan began l.moment pasts l.initial.players.items (g.K.Sink.taken l.initial.out)
      → Midway plan began l.moment l.number l.players.items (g.K.Sink.taken l.out);
  long : length l.players.items ≡ length l.initial.players.items;
  later : g.K.Sink.faults l.initial.out ≤ g.K.Sink.faults l.out;
}
