use Rattle.std.proofs.Common.{ℕ, ap, ◌∙◌, subst}
use Rattle.sts_syntax.specs.TypedTrees.{TypedDeclaration}
use Rattle.sts_syntax.specs.TypedViews.{typed_declaration}
use Rattle.sts_syntax.specs.Views.{declaration}
use Rattle.sts_scope.specs.declared.known.This.TheVariants as this
use Rattle.type_derive.specs.inner.Filled as b
use Rattle.type_derive.specs.inner.Filling.{Making}
use Rattle.typed_trees.specs.Steps.{IsBuilt}
use Rattle.typed_program.specs.Wholes as w
use Rattle.typed_program.proofs.Mains.{declared_is}
use Rattle.typed_program.proofs.build_globals.build_declared.Goals as goal

pub returns : goal.returns
returns c =
    let l = c.args.plan.now in
    let a = declaration c.args.a.now in
    let e = ap (λ (st : b.Site). w.global_made l st c.global_number-number.result a) c.outer_site-site.ensures ∙ ap (λ (n : ℕ). w.global_made l (w.outer_site this.Nowhere) n a) c.global_number-number.ensures ∙ declared_is l c.args.d a in
    subst (λ (f : Making TypedDeclaration). IsBuilt c.args.builder.now c.build_global.new.builder f (typed_declaration c.in_ok-made.made)) e c.in_ok-made.ensures
