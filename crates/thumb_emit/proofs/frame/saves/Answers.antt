use Rattle.std.proofs.Common.{◌≡◌, subst, arith}
use Rattle.flat_ir.specs.WellFormed.{temporaries}
use Rattle.register_assign.specs.Sound.{place_of}
use Rattle.register_assign.specs.Saving.{registers_of_first, saves}
use Rattle.register_assign.proofs.Laws.{saves_few}
use Rattle.thumb_emit.proofs.frame.saves.Goals as goal

pub returns-clause-few : goal.returns-clause-few
returns-clause-few c =
    let p = c.args.placed.now in let place = place_of p.places in
    let few = saves_few p.function place (c.requires.sound).within in
    let at_end = c.loop-t.auto.t-end in let past = c.loop-t-test.false in
    let all : c.loop-t.t ≡ temporaries p.function = omega arith in
    let most : c.loop-t.most ≡ saves p.function place = subst (λ n. c.loop-t.most ≡ registers_of_first place n) all c.loop-t.invariant in
    omega arith
