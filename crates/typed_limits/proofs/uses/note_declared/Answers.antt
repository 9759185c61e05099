use Rattle.std.proofs.Common.{◌≡◌, ◌+◌, ◌∷◌, ◌<◌, List, length, drop, sym, ap, ◌∙◌, arith}
use Rattle.sts_syntax.specs.declared.typed.TypedBinding.{TypedBinding}
use Rattle.sts_syntax.specs.TypedViews.{optional_typed_tree, typed_declarations}
use Rattle.sts_syntax.specs.Nodes.{optional_nodes, declared_nodes}
use Rattle.sts_syntax.proofs.Laws.{drop_at}
use Rattle.typed_limits.specs.declared.uses.Uses.{Uses}
use Rattle.typed_limits.specs.Uses.{noted}
use Rattle.typed_limits.proofs.Noting.{noted_append}
use Rattle.typed_limits.proofs.uses.note_declared.Goals as goal

pub loop-binding-preserved : goal.loop-binding-preserved
loop-binding-preserved c =
    let items = c.args.each.now in
    let i = c.loop-binding.binding-index in
    let e = c.binding-item.result in
    let lt : i < length items = omega (arith, c.loop-binding-test.true) in
    let next : drop i items ≡ e ∷ drop (i + 1) items = drop_at items i e lt ∙ ap (λ (x : TypedBinding). x ∷ drop (i + 1) items) (sym c.binding-item.is) in
    let rest = declared_nodes (typed_declarations (drop (i + 1) items)) in
    ap (λ (u : Uses). noted u rest) c.in_ok-note_optional.ensures
    ∙ sym (noted_append c.loop-binding.uses (optional_nodes (optional_typed_tree e.first)) rest)
    ∙ ap (λ (xs : List TypedBinding). noted c.loop-binding.uses (declared_nodes (typed_declarations xs))) (sym next)
    ∙ c.loop-binding.invariant
