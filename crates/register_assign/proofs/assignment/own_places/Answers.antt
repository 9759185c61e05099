use Rattle.std.proofs.Common.{◌≡◌, ◌+◌, ◌∷◌, ◌++◌, [], List, sym, ap, ◌∙◌, subst, arith}
use Rattle.std.proofs.lemmas.Grind.{common_steps}
use Rattle.flat_ir.specs.WellFormed.{temporaries}
use Rattle.register_assign.specs.declared.places.Place.{Place}
use Rattle.register_assign.specs.Intervals.{AreHomes}
use Rattle.register_assign.specs.Chosen.{firsts, own_place}
use Rattle.register_assign.proofs.Assigning.{own_step}
use Rattle.register_assign.proofs.Choosing.{firsts_next}
use Rattle.register_assign.proofs.assignment.own_places.Goals as goal

pub loop-t-preserved : goal.loop-t-preserved
loop-t-preserved c =
    let f = c.args.function.now in
    let places = c.loop-t.places.items in
    let place = c.own_place.result in
    let i = c.loop-t.invariant in
    let noted : c.push.new.self.items ≡ places ++ place ∷ [] = grind (arith, common_steps) in (
      subst (λ (q : List Place). AreHomes f q (c.loop-t.t + 1)) (sym noted) (own_step f places c.loop-t.t place i.0 c.own_place.ensures.home),
      noted ∙ firsts_next (own_place f.params) c.loop-t.t places place i.1 c.own_place.ensures.chosen,
    )

pub returns : goal.returns
returns c =
    let f = c.args.function.now in
    let e : c.loop-t.t ≡ temporaries f = omega arith in
    let i = c.loop-t.invariant in
    record { homes = subst (AreHomes f c.loop-t.places.items) e i.0; chosen = i.1 ∙ ap (firsts (own_place f.params)) e }
