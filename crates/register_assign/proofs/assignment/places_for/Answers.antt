use Rattle.std.proofs.Common.{List, sym, subst}
use Rattle.flat_ir.specs.WellFormed.{temporaries}
use Rattle.register_assign.specs.declared.places.Place.{Place}
use Rattle.register_assign.specs.Intervals.{AreHomes}
use Rattle.register_assign.proofs.assignment.places_for.Goals as goal

pub use_registers-requires-clause-own : goal.use_registers-requires-clause-own
use_registers-requires-clause-own c =
    let f = c.args.function.now in
    subst (λ (q : List Place). AreHomes f q (temporaries f)) (sym c.deref_mut.ensures.value) c.in_ok-places.ensures.homes
