use Rattle.std.proofs.Common.{◌+◌, ◌^◌, ◌<◌, ◌++◌, List, [], ◌∷◌, length, ap, sym, subst, ◌∙◌}
use Rattle.std.specs.Prelude.{false}
use Rattle.sts_syntax.specs.declared.types.Ty.{Ty}
use Rattle.sts_syntax.specs.declared.trees.Param.{Param}
use Rattle.sts_syntax.specs.Types as value
use Rattle.sts_syntax.specs.Views.{parameters, routine}
use Rattle.sts_scope.specs.Kinds as kind
use Rattle.sts_scope.specs.Entries.{parameter_kinds}
use Rattle.sts_scope.specs.declared.known.This.TheVariants as this
use Rattle.sts_syntax.specs.TypedTrees.{TypedRoutine}
use Rattle.typed_trees.specs.Fits.{numbers_taken}
use Rattle.typed_trees.specs.Sites as s
use Rattle.typed_trees.specs.Sites.{naming}
use Rattle.typed_trees.specs.Functions as functions
use Rattle.typed_trees.proofs.Functions.{both_of, method_whole, method_few, put_behind}
use Rattle.typed_trees.proofs.build_functions.add_method.Goals as goal

pub function_site-requires : goal.function_site-requires
function_site-requires c =
    let l = c.args.plan.now in
    subst (λ (ps : List Param). 1 + length ps < 2 ^ 32) (sym c.as_slice-params.ensures) (method_few l c.args.class c.args.n c.args.gives c.args.body.now c.requires.fits)

pub build_function-requires-clause-fits : goal.build_function-requires-clause-fits
build_function-requires-clause-fits c =
    let l = c.args.plan.now in
    let ps = kind.value_types (parameter_kinds (naming l) (parameters c.as_slice-params.result.now)) in
    let first = ap value.value_types (c.in_ok-push.ensures.ok ∙ ap (λ (q : List Ty). q ++ c.object.result ∷ []) c.new-types.ensures) ∙ ap (λ (t : value.ValueType). t ∷ []) c.object.ensures in
    let vs = c.in_ok-add_types.ensures ∙ (ap (λ (q : List value.ValueType). q ++ ps) first
    ∙ ap (λ (q : List Param). value.Object c.args.class ∷ kind.value_types (parameter_kinds (naming l) (parameters q))) c.as_slice-params.ensures) in
    let st = c.in_ok-site.ensures ∙ ap (λ (q : List Param). functions.site_of l (this.Object c.args.class) c.args.gives false 1 (parameters q)) c.as_slice-params.ensures in
    let us = value.value_types c.add_types.new.all in
    let v = value.value_type c.noted_type-gives.result in
    let here = s.site c.in_ok-site.site in
    subst (λ (xs : List TypedRoutine). c.args.n + numbers_taken xs < 2 ^ 32) (sym (method_whole l c.args.class c.args.n c.args.gives c.args.body.now us v here c.as_slice.result.now vs c.noted_type-gives.ensures st c.as_slice.ensures)) c.requires.fits

pub returns : goal.returns
returns c =
    let l = c.args.plan.now in
    let ps = kind.value_types (parameter_kinds (naming l) (parameters c.as_slice-params.result.now)) in
    let first = ap value.value_types (c.in_ok-push.ensures.ok ∙ ap (λ (q : List Ty). q ++ c.object.result ∷ []) c.new-types.ensures) ∙ ap (λ (t : value.ValueType). t ∷ []) c.object.ensures in
    let vs = c.in_ok-add_types.ensures ∙ (ap (λ (q : List value.ValueType). q ++ ps) first
    ∙ ap (λ (q : List Param). value.Object c.args.class ∷ kind.value_types (parameter_kinds (naming l) (parameters q))) c.as_slice-params.ensures) in
    let st = c.in_ok-site.ensures ∙ ap (λ (q : List Param). functions.site_of l (this.Object c.args.class) c.args.gives false 1 (parameters q)) c.as_slice-params.ensures in
    let us = value.value_types c.add_types.new.all in
    let v = value.value_type c.noted_type-gives.result in
    let here = s.site c.in_ok-site.site in
    let own = c.in_ok-function.function.own in
    let inner = c.in_ok-function.function.inner in
    let e = both_of l c.args.n us v here c.as_slice.result.now own inner c.in_ok-function.ensures.own c.in_ok-function.ensures.inner
    ∙ method_whole l c.args.class c.args.n c.args.gives c.args.body.now us v here c.as_slice.result.now vs c.noted_type-gives.ensures st c.as_slice.ensures in
    put_behind c.add.result c.args.routines.now c.add.new.routines own inner (functions.method_made l c.args.class c.args.n c.args.gives (routine c.args.body.now)) c.add.ensures e
