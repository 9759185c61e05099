use Rattle.std.proofs.Common.{◌≡◌, ◌∷◌, ◌++◌, List, sym, subst}
use Rattle.std.specs.Prelude.{OnOk}
use Rattle.sts_syntax.specs.declared.typed.TypedStmt.{TypedStmt}
use Rattle.sts_syntax.specs.TypedTrees.{TypedStatement}
use Rattle.sts_syntax.specs.TypedViews.{typed_statements}
use Rattle.sts_syntax.proofs.Laws.{block_is}
use Rattle.sts_lower.specs.inner.Works.{ExpandAll, opened_statement}
use Rattle.sts_lower.specs.inner.Shown.{layout, works}
use Rattle.sts_lower.proofs.statements.open_statement.Goals as goal

pub returns-in-Block : goal.returns-in-Block
returns-in-Block c =
    let P : TypedStatement → Type 0 =
    λ a. OnOk c.push_statements.result (works c.push_statements.new.stack ≡ opened_statement (layout c.args.frame.now) a c.args.course.at c.args.course.next c.args.course.out c.args.course.again ++ works c.args.stack.now)
    in
    let Q : List TypedStmt → Type 0 =
    λ all. OnOk c.push_statements.result (works c.push_statements.new.stack ≡ ExpandAll (typed_statements all) c.args.course.at c.args.course.next c.args.course.out c.args.course.again ∷ works c.args.stack.now)
    in
    subst P (sym (block_is c.args.s.now c.in-Block.all c.in-Block.is)) (subst Q c.as_slice.ensures c.push_statements.ensures)
