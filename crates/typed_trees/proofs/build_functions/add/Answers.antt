use Rattle.typed_trees.proofs.Listed.{on_ok}
use Rattle.typed_trees.proofs.Functions.{added}
use Rattle.typed_trees.proofs.build_functions.add.Goals as goal

pub returns : goal.returns
returns c =
    let f = c.args.function in
    on_ok c.append.result _ _ (λ h. added c.args.routines.now c.push.new.self c.append.new.self f.inner f.own c.in_ok-push.ensures h) c.append.ensures
