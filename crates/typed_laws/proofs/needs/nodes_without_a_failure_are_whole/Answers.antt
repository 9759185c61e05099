use Rattle.typed_laws.proofs.WholeNodes.{node_whole, bound_whole, loop_whole}
use Rattle.typed_laws.proofs.needs.nodes_without_a_failure_are_whole.Goals as goal

pub returns-clause-expressions : goal.returns-clause-expressions
returns-clause-expressions c = λ tables names k p r e read h. node_whole tables k p names r e read h

pub returns-clause-declarations : goal.returns-clause-declarations
returns-clause-declarations c = λ tables names k p at x shape first h. bound_whole tables k p names at x shape first h

pub returns-clause-loops : goal.returns-clause-loops
returns-clause-loops c = λ tables names k p at x fixed list a h. loop_whole tables k p names at x fixed list a h
