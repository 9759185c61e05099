use Rattle.std.proofs.Common.{sym, ap, ◌∙◌, List}
use Rattle.std.specs.Prelude.{Some}
use Rattle.sts_syntax.specs.declared.trees.Expr.{Expr}
use Rattle.sts_syntax.specs.Views.{trees}
use Rattle.sts_scope.specs.declared.kinds.StaticType.{StaticType}
use Rattle.typed_trees.specs.declared.build_heads.Head.TheVariants as head
use Rattle.typed_trees.specs.Calls as call
use Rattle.typed_trees.specs.Sites as s
use Rattle.typed_numbers.proofs.Laws.{items_is}
use Rattle.typed_trees.proofs.build_heads.head_of.Goals as goal

pub returns-in_ok-kind-in-Items : goal.returns-in_ok-kind-in-Items
unfolding call.head_of
returns-in_ok-kind-in-Items c =
    let p = c.args.plan.now in let st = s.site c.args.site.now in
    ap (λ (u : StaticType). Some (head.Items u)) (c.in_ok-kind-in-Items.ensures ∙ ap (λ (xs : List Expr). call.first_kind p st (trees xs)) c.as_slice.ensures)
    ∙ sym (ap (call.head_of p st) (items_is c.args.e.now c.in-Items.items c.in-Items.is))
