use Rattle.std.proofs.Common.{ap, ◌∙◌}
use Rattle.std.proofs.lemmas.Result.{IfOk-weaker}
use Rattle.clap.specs.Words.{with_rule}
use Rattle.command_line.specs.Tool.{name_rule, script_rule, arrivals_rule}
use Rattle.command_line.proofs.Given.{arg-added, arg-local}
use Rattle.command_line.proofs.tool.command.Goals as goal

pub returns-clause-app : goal.returns-clause-app
returns-clause-app c = IfOk-weaker c.arg-3.result _ _ (λ r adds. arg-added _ r c.image.result _ _ adds c.image.ensures.local c.image.ensures.rule
    (arg-added _ _ c.stats.result _ _ c.in_ok-arg-2.ensures c.stats.ensures.local c.stats.ensures.rule
    (arg-added _ _ c.budget.result _ _ c.in_ok-arg.ensures c.budget.ensures.local c.budget.ensures.rule
    (c.in_ok-line.ensures.app ∙ ap (λ a. with_rule (with_rule (with_rule a name_rule) script_rule) arrivals_rule) c.new.ensures.app)))) c.arg-3.ensures

pub returns-clause-local : goal.returns-clause-local
returns-clause-local c = IfOk-weaker c.arg-3.result _ _ (λ r adds. arg-local _ r c.image.result adds c.image.ensures.local
    (arg-local _ _ c.stats.result c.in_ok-arg-2.ensures c.stats.ensures.local
    (arg-local _ _ c.budget.result c.in_ok-arg.ensures c.budget.ensures.local c.in_ok-line.ensures.local))) c.arg-3.ensures
