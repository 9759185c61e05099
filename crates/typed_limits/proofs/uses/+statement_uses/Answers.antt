use Rattle.std.proofs.Common.{◌≡◌, ◌+◌, ◌∷◌, ◌<◌, List, length, drop, sym, ap, subst, ◌∙◌, arith}
use Rattle.std.specs.Prelude.{OnOk}
use Rattle.sts_syntax.specs.declared.typed.TypedStmt.{TypedStmt}
use Rattle.sts_syntax.specs.TypedTrees.{TypedStatement}
use Rattle.sts_syntax.specs.TypedViews.{typed_statement, typed_statements}
use Rattle.sts_syntax.specs.Nodes.{expressions, expressions_of}
use Rattle.sts_syntax.proofs.Laws.{drop_at, block_is}
use Rattle.typed_limits.specs.declared.uses.Uses.{Uses}
use Rattle.typed_limits.specs.Uses.{noted}
use Rattle.typed_limits.proofs.Noting.{noted_append}
use Rattle.typed_limits.proofs.uses.+statement_uses.Goals as goal

pub note_statement-returns-in-Block : goal.note_statement-returns-in-Block
note_statement-returns-in-Block t c =
    let is = block_is c.args.s.now c.in-Block.all c.in-Block.is in
    let P : Uses → Type 0 = λ v. OnOk c.note_statements.result (c.note_statements.new.uses ≡ v) in
    subst P
    (ap (λ (xs : List TypedStmt). noted c.args.uses.now (expressions_of (typed_statements xs))) c.as_slice.ensures
    ∙ ap (λ (a : TypedStatement). noted c.args.uses.now (expressions a)) (sym is)) c.note_statements.ensures

pub note_statements-loop-s-preserved : goal.note_statements-loop-s-preserved
note_statements-loop-s-preserved t c =
    let items = c.args.all.now in
    let i = c.loop-s.s-index in
    let e = c.s-item.result in
    let lt : i < length items = omega (arith, c.loop-s-test.true) in
    let next : drop i items ≡ e ∷ drop (i + 1) items = drop_at items i e lt ∙ ap (λ (x : TypedStmt). x ∷ drop (i + 1) items) (sym c.s-item.is) in
    let rest = expressions_of (typed_statements (drop (i + 1) items)) in
    ap (λ (u : Uses). noted u rest) c.in_ok-note_statement.ensures
    ∙ sym (noted_append c.loop-s.uses (expressions (typed_statement e)) rest)
    ∙ ap (λ (xs : List TypedStmt). noted c.loop-s.uses (expressions_of (typed_statements xs))) (sym next)
    ∙ c.loop-s.invariant
