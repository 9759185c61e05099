use Rattle.typed_laws.proofs.WholeNodes.{one_more, parameters_spots, statement_spots}
use Rattle.typed_laws.proofs.needs.each_local_in_scope_has_a_spot.Goals as goal

pub returns-clause-functions : goal.returns-clause-functions
returns-clause-functions c = λ names this result library i params. parameters_spots names i params

pub returns-clause-statements : goal.returns-clause-statements
returns-clause-statements c = λ tables names k m s a h. statement_spots tables names k m s a h

pub returns-clause-loops : goal.returns-clause-loops
returns-clause-loops c = λ tables names k m x s fixed list h. one_more s.spots s.place.locals _ _ h
