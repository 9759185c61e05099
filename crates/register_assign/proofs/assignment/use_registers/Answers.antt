use Rattle.std.proofs.Common.{List, sym, ◌∙◌, ap, length, subst}
use Rattle.register_assign.specs.declared.intervals.Interval.{Interval}
use Rattle.register_assign.specs.Intervals.{AreAssigned}
use Rattle.register_assign.proofs.Assigning.{assigned_own, assigned_last}
use Rattle.register_assign.proofs.Choosing.{chosen_is}
use Rattle.register_assign.proofs.assignment.use_registers.Goals as goal

pub returns-clause-sound : goal.returns-clause-sound
returns-clause-sound c =
    let f = c.args.function.now in
    let intervals = c.in_ok-intervals.intervals.items in
    let own = assigned_own f c.args.places.now intervals c.requires.own c.in_ok-intervals.ensures.intervals in
    let seen = subst (λ (q : List Interval). AreAssigned f c.args.places.now q) (sym c.deref.ensures.value) own in
    assigned_last f c.give_registers.new.places c.deref.result.now c.requires.entry (c.give_registers.ensures.assigned f seen)

pub returns-clause-chosen : goal.returns-clause-chosen
returns-clause-chosen c = λ own.
    let same = c.deref_mut.ensures.value in
    chosen_is c.args.function.now c.deref.result.now c.args.places.now c.give_registers.new.places c.deref_mut.result.now (c.deref.ensures.value ∙ c.in_ok-intervals.ensures.chosen) (same ∙ c.in_ok-left.ensures.chosen)
    (ap length same ∙ c.in_ok-left.ensures.long) c.give_registers.ensures.chosen own
