use Rattle.std.proofs.Common.{◌<◌, refl, ap, subst, arith}
use Rattle.std.proofs.lemmas.List.{length-set}
use Rattle.register_assign.specs.declared.places.Place.TheVariants.{Reg}
use Rattle.register_assign.specs.Chosen.{in_register}
use Rattle.register_assign.proofs.Assigning.{assigned_moved}
use Rattle.register_assign.proofs.assignment.move_to_register.Goals as goal

pub returns-in-Some : goal.returns-in-Some
returns-in-Some c =
    let places = c.args.places.now in
    let r = c.in-Some.r in
    let free = c.in-Some.ensures.free in record {
      chosen = ap (in_register places c.args.t) c.in-Some.ensures.chosen;
      long = length-set places c.args.t (Reg r);
      assigned = λ f a. let n = a.long in let known = c.requires.known in assigned_moved f places c.args.intervals.now c.args.t r a (omega arith) free.0 free.1 free.2;
    }

pub returns-in_default : goal.returns-in_default
returns-in_default c = record { chosen = ap (in_register c.args.places.now c.args.t) c.in_default.ensures.chosen; long = refl; assigned = λ f a. a }

pub bounds-intervals-t : goal.bounds-intervals-t
bounds-intervals-t c = subst (λ n. c.args.t < n) c.requires.long c.requires.known

pub bounds-places-t : goal.bounds-places-t
bounds-places-t c = c.requires.known
