use Rattle.std.proofs.Common.{◌+◌, ◌^◌, ◌<◌, List, ◌∷◌, length, ap, sym, subst, ◌∙◌}
use Rattle.std.specs.Prelude.{false, Some}
use Rattle.sts_syntax.specs.declared.trees.Param.{Param}
use Rattle.sts_syntax.specs.Types as value
use Rattle.sts_syntax.specs.Views.{parameters, routine}
use Rattle.sts_scope.specs.declared.kinds.StaticType.{StaticType}
use Rattle.sts_scope.specs.Kinds as kind
use Rattle.sts_scope.specs.declared.known.This.TheVariants as this
use Rattle.sts_syntax.specs.TypedTrees.{TypedRoutine}
use Rattle.typed_trees.specs.Fits.{numbers_taken}
use Rattle.typed_trees.specs.Sites as s
use Rattle.typed_trees.specs.Functions as functions
use Rattle.typed_program.specs.Wholes as w
use Rattle.typed_program.proofs.Constructors.{both_of, constructor_whole, constructor_fits, params_few}
use Rattle.typed_trees.proofs.Laws.{put_behind}
use Rattle.typed_program.proofs.build_makers.add_constructor.Goals as goal

pub function_site-requires : goal.function_site-requires
function_site-requires c =
    let body = c.args.body.now in
    subst (λ (ps : List Param). 1 + length ps < 2 ^ 32) (sym c.as_slice-params.ensures) (params_few c.args.n body c.requires.functions)

pub build_constructor-requires-clause-fits : goal.build_constructor-requires-clause-fits
build_constructor-requires-clause-fits c =
    let l = c.args.plan.now in
    let class = c.args.parts.now.class in
    let n = c.args.n in
    let inits = w.initials_of l c.args.parts.now in
    let vs = c.in_ok-types.ensures ∙ ap (λ (q : List Param). value.Object class ∷ kind.value_types (w.written_takes l q)) c.as_slice-params.ensures in
    let st = c.in_ok-site.ensures ∙ (ap (λ (k : StaticType). functions.site_of l (this.Object class) (Some k) false 1 (parameters c.as_slice-params.result.now)) c.flat.ensures
    ∙ ap (λ (q : List Param). functions.site_of l (this.Object class) (Some kind.nothing) false 1 (parameters q)) c.as_slice-params.ensures) in
    let e = constructor_whole l class n inits c.args.body.now (value.value_types c.in_ok-types.types) (s.site c.in_ok-site.site) c.as_slice-all.result.now vs st c.as_slice-all.ensures in
    subst (λ (xs : List TypedRoutine). n + numbers_taken xs < 2 ^ 32) (sym e) (constructor_fits l class n inits (routine c.args.body.now) c.requires.functions)

pub returns : goal.returns
returns c =
    let l = c.args.plan.now in
    let class = c.args.parts.now.class in
    let inits = w.initials_of l c.args.parts.now in
    let f = c.in_ok-function.function in
    let vs = c.in_ok-types.ensures ∙ ap (λ (q : List Param). value.Object class ∷ kind.value_types (w.written_takes l q)) c.as_slice-params.ensures in
    let st = c.in_ok-site.ensures ∙ (ap (λ (k : StaticType). functions.site_of l (this.Object class) (Some k) false 1 (parameters c.as_slice-params.result.now)) c.flat.ensures
    ∙ ap (λ (q : List Param). functions.site_of l (this.Object class) (Some kind.nothing) false 1 (parameters q)) c.as_slice-params.ensures) in
    let us = value.value_types c.in_ok-types.types in
    let here = s.site c.in_ok-site.site in
    let e = both_of l class c.args.n inits us here c.as_slice-all.result.now f.own f.inner c.in_ok-function.ensures.own c.in_ok-function.ensures.inner
    ∙ constructor_whole l class c.args.n inits c.args.body.now us here c.as_slice-all.result.now vs st c.as_slice-all.ensures in
    put_behind c.add.result c.args.routines.now c.add.new.routines f.own f.inner (w.constructor_made l class c.args.n inits (routine c.args.body.now)) c.add.ensures e
