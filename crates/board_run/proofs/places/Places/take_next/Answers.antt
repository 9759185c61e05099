use Rattle.std.proofs.Common.{◌∷◌, ℕ, Option, IfSome, sym, subst, refl, reverse}
use Rattle.board_world.specs.declared.events.Event.{Event}
use Rattle.board_run.specs.Shown.{Takes}
use Rattle.board_run.proofs.Bits.{takes_of}
use Rattle.board_run.proofs.places.Places.take_next.Goals.{in-Some, in-None}
use Rattle.board_run.proofs.places.Places.take_next.Goals as goal

pub returns-clause-taken : goal.returns-clause-taken
returns-clause-taken c = elim c.match-take_next.branch [
  | in-Some w ↦ subst (λ (o : Option (Event × ℕ)). IfSome o (λ x. Takes x.0 x.1 c.args.self.now (c.take_next.new.self ∷ reverse c.self.inside.below.items))) (sym w.result-is)
      (takes_of c.self.inside.top c.take_next.new.self (reverse c.self.inside.below.items) c.args.self.now _ c.event-event.result w.in-Some.at c.self.view_is refl c.event-event.ensures c.take_next.ensures.event w.in-Some.ensures.taken)
  | in-None w ↦ subst (λ (o : Option (Event × ℕ)). IfSome o (λ x. Takes x.0 x.1 c.args.self.now (c.take_next.new.self ∷ reverse c.self.inside.below.items))) (sym w.result-is) tt
]
