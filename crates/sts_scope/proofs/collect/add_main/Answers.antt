use Rattle.std.proofs.Common.{sym, ap, subst, [], ◌∙◌}
use Rattle.std.specs.Prelude.{OnOk}
use Rattle.sts_syntax.specs.Views.{declarations, statement}
use Rattle.sts_scope.specs.Values.{value_at}
use Rattle.sts_scope.specs.Entries as entry
use Rattle.sts_scope.specs.Adding.{Adds}
use Rattle.sts_scope.proofs.Statements.{let_entries, let_kinds}
use Rattle.sts_scope.proofs.collect.add_main.Goals as goal

pub returns-in-Let : goal.returns-in-Let
returns-in-Let c =
    let f = value_at c.args.classes.now.values.items in
    let is = ap (λ xs. declarations xs) c.as_slice.ensures in
    let es = ap (entry.global_entries c.in-Let.fixed) is ∙ sym (let_entries c.args.s.now c.in-Let.fixed c.in-Let.each c.in-Let.is) in
    let ks = ap (entry.global_kinds f) is ∙ sym (let_kinds f c.args.s.now c.in-Let.fixed c.in-Let.each c.in-Let.is) in
    subst (λ xs. OnOk c.add_globals.result (Adds c.args.known.now c.add_globals.new.known xs (entry.main_kinds f (statement c.args.s.now)) [])) es
    (subst (λ xs. OnOk c.add_globals.result (Adds c.args.known.now c.add_globals.new.known (entry.global_entries c.in-Let.fixed (declarations c.as_slice.result.now)) xs [])) ks c.add_globals.ensures)
