use Rattle.std.proofs.Common.{◌<◌, ◌≤◌, ◌++◌, length, sym, ap, ◌∙◌, arith, append-nil}
use Rattle.std.specs.Prelude.{false, None}
use Rattle.sts_syntax.specs.Views.{parameters}
use Rattle.sts_scope.specs.Values.{value_at}
use Rattle.sts_scope.specs.Places.{NameScope, inner, with, outside}
use Rattle.sts_scope.proofs.Laws.{drop_end}
use Rattle.type_derive.specs.Scopes.{place}
use Rattle.type_derive.specs.Returns.{parameter_locals}
use Rattle.derived_types.proofs.Gathered.{locals_step}
use Rattle.derived_types.proofs.solving.within.Goals as goal

pub loop-i-preserved : goal.loop-i-preserved
loop-i-preserved c =
    let f = value_at c.args.classes.now.values.items in
    let lt : c.loop-i.i < length c.args.params.now = omega arith in
    let p = place c.outside-scope.result in
    let d = c.in_ok-declare.ensures in
    record {
      locals = locals_step f c.args.params.now c.loop-i.i c.index-params-i.result (place c.loop-i.scope).locals (place c.declare.new.scope).locals c.written_kind-kind.result _
          lt c.index-params-i.is c.written_kind-kind.ensures (ap (λ (q : NameScope). q.locals) d) c.loop-i.invariant.locals;
      same = d ∙ ap {A = NameScope} (λ q. record q { locals = (with q c.index-params-i.result.name c.written_kind-kind.result false).locals }) c.loop-i.invariant.same
          ∙ ap (λ ls. record p { locals = ls }) (sym (ap (λ (q : NameScope). q.locals) d));
    }

pub returns : goal.returns
returns c =
    let f = value_at c.args.classes.now.values.items in
    let ls = (place c.loop-i.scope).locals in
    let ge : length c.args.params.now ≤ c.loop-i.i = omega arith in
    let all = sym (append-nil ls) ∙ ap (λ qs. ls ++ parameter_locals f (parameters qs)) (sym (drop_end c.args.params.now c.loop-i.i ge)) ∙ c.loop-i.invariant.locals in
    ap inner (c.loop-i.invariant.same ∙ ap {A = NameScope} (λ q. record q { locals = ls }) c.outside-scope.ensures ∙ ap (λ zs. record (outside c.args.this c.args.library None) { locals = zs }) all)
