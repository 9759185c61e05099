use Rattle.elaborated.proofs.Agreement.{trees_agree, statements_agree}
use Rattle.elaborated.proofs.law.elaboration_agrees.Goals as goal

pub returns-clause-trees : goal.returns-clause-trees
returns-clause-trees c = λ w s r a m n even. trees_agree w s r a m n even

pub returns-clause-statements : goal.returns-clause-statements
returns-clause-statements c = λ w s all m n even. statements_agree w s all m n even
