use Rattle.std.proofs.Common.{◌++◌, ◌∙◌, sym, ap, append-nil}
use Rattle.sts_syntax.specs.Types as value
use Rattle.sts_scope.specs.Kinds as kind
use Rattle.std.specs.Prelude.{unwrap_or}
use Rattle.typed_program.proofs.Classes.{global_added, one_false}
use Rattle.typed_trees.proofs.Laws.{on_ok}
use Rattle.typed_program.proofs.build_classes.add_global.Goals as goal

pub returns-then-is_global : goal.returns-then-is_global
returns-then-is_global c = let p = c.args.plan.now in
    on_ok c.push.result _ _ (λ h. global_added p c.args.d c.args.entry.now c.args.all.now c.push.new.self c.noted_type.result (sym c.is_global.ensures ∙ c.if-is_global.true) (c.noted_type.ensures ∙ ap (λ o. kind.value_type (unwrap_or o kind.nothing)) c.kind_at.ensures) h) c.push.ensures.ok

pub returns : goal.returns
returns c = sym (ap (λ q. value.value_types c.args.all.now ++ q) (one_false c.args.plan.now c.args.d c.args.entry.now (sym c.is_global.ensures ∙ c.if-is_global.false)) ∙ append-nil (value.value_types c.args.all.now))
