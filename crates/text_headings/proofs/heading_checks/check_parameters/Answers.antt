use Rattle.std.proofs.Common.{◌≡◌, ◌<◌, ◌||◌, ◌==◌, length, take, get_or, sym, ap, ◌∙◌, arith}
use Rattle.std.proofs.lemmas.Grind.{common_steps}
use Rattle.sts_syntax.specs.Views.{parameters}
use Rattle.sts_scope.specs.Values.{value_at}
use Rattle.sts_scope.specs.Headings.{takes_name}
use Rattle.text_headings.proofs.Parameters.{parameter_step, takes_more}
use Rattle.text_headings.proofs.heading_checks.check_parameters.Goals as goal

pub returns-in_err-check_parameter : goal.returns-in_err-check_parameter
returns-in_err-check_parameter c =
    let ps = c.args.params.now in
    let i = c.loop-i.i in
    let p = c.index-params-i-in-loop-i.result in
    let lt : i < length ps = omega arith in
    let twice : c.in_ok-twice.twice ≡ takes_name (parameters (take i ps)) p.name = grind (arith, common_steps) in
    let s = parameter_step (value_at c.args.classes.now.values.items) ps i p c.in_ok-twice.twice lt c.index-params-i-in-loop-i.is twice in
    grind (arith, common_steps, s)

pub loop-i-preserved : goal.loop-i-preserved
loop-i-preserved c =
    let ps = c.args.params.now in
    let i = c.loop-i.i in
    let p = c.index-params-i-in-loop-i.result in
    let q = c.index-params-i.result in
    let lt : i < length ps = omega arith in
    let twice : c.in_ok-twice.twice ≡ takes_name (parameters (take i ps)) p.name = grind (arith, common_steps) in
    let s = parameter_step (value_at c.args.classes.now.values.items) ps i p c.in_ok-twice.twice lt c.index-params-i-in-loop-i.is twice in
    record {
      found = grind (arith, common_steps, s);
      seen = λ y.
          c.in_ok-twice.ensures.noted y ∙ ap (λ b. (get_or ps i q).name == y || b) (c.loop-i.invariant.seen y)
          ∙ ap (λ x. x.name == y || takes_name (parameters (take i ps)) y) (sym c.index-params-i.is) ∙ sym (takes_more ps i q y lt c.index-params-i.is);
    }
