use Rattle.std.proofs.Common.{refl, sym, subst, arith}
use Rattle.sts_syntax.specs.TypedTrees.{TypedStatement}
use Rattle.sts_syntax.specs.TypedViews.{typed_statement}
use Rattle.sts_syntax.specs.Views.{declarations, statement}
use Rattle.type_derive.specs.inner.Filling.{Making}
use Rattle.typed_trees.specs.Steps.{IsBuilt}
use Rattle.typed_program.proofs.Mains.{main_without, main_with, main_long}
use Rattle.typed_program.proofs.build_globals.build_main.Goals as goal

pub build_lets-requires-clause-numbered : goal.build_lets-requires-clause-numbered
build_lets-requires-clause-numbered c =
    let h = c.in-Some.lets in
    omega (arith, c.requires.numbered, main_long (statement c.args.a.now) (record { fixed = h.fixed; each = declarations h.each.now }) h.each.now (sym c.in-Some.ensures) refl)

pub returns-in_ok-made-in-None : goal.returns-in_ok-made-in-None
returns-in_ok-made-in-None c =
    let e = main_without c.args.plan.now c.args.d (statement c.args.a.now) (sym c.in-None.ensures) in
    subst (λ (f : Making TypedStatement). IsBuilt c.args.builder.now c.build_outer.new.builder f (typed_statement c.in_ok-made-in-None.made)) e c.in_ok-made-in-None.ensures

pub returns-in_ok-made-in-Some : goal.returns-in_ok-made-in-Some
returns-in_ok-made-in-Some c =
    let h = c.in-Some.lets in
    let e = main_with c.args.plan.now c.args.d (statement c.args.a.now) (record { fixed = h.fixed; each = declarations h.each.now }) (sym c.in-Some.ensures) in
    subst (λ (f : Making TypedStatement). IsBuilt c.args.builder.now c.build_lets.new.builder f (typed_statement c.in_ok-made-in-Some.made)) e c.in_ok-made-in-Some.ensures
