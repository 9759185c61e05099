use Rattle.std.proofs.Common.{ℕ, List, Option, Some, sym, ap, ◌∙◌}
use Rattle.sts_syntax.specs.declared.trees.Expr.{Expr}
use Rattle.sts_syntax.specs.Trees.{Trees, SuperCall}
use Rattle.sts_syntax.specs.Views.{trees, node_tree}
use Rattle.sts_syntax.proofs.Laws.{super_call_tree}
use Rattle.type_derive.specs.Heads.{SuperHead, super_of}
use Rattle.type_derive.proofs.heads.super_of.Goals as goal

pub returns-in-None : goal.returns-in-None
returns-in-None c =
    let e = c.args.e.now in
    let is = ap (node_tree e.at) c.in-SuperCall.is ∙ super_call_tree e.at c.in-SuperCall.m c.in-SuperCall.args ∙ ap (λ (m : Option ℕ). SuperCall e.at m (trees c.in-SuperCall.args)) c.in-None.is in
    let made : (xs : Trees) → Option SuperHead = λ xs. Some (record { at = e.at; args = xs }) in
    ap (λ (xs : List Expr). made (trees xs)) c.as_slice.ensures ∙ sym (ap super_of is)
