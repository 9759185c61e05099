use Rattle.typed_laws.proofs.Climbing.{member_is_nearest, nearest_is_member, inherited_is_nearest, nearest_is_inherited}
use Rattle.typed_laws.proofs.bases.members_are_of_the_nearest.Goals as goal

pub returns-clause-members : goal.returns-clause-members
returns-clause-members g = λ entries classes c x d bases near. (member_is_nearest classes entries x c d, nearest_is_member classes entries x bases c d near)

pub returns-clause-inherited : goal.returns-clause-inherited
returns-clause-inherited g = λ entries classes c x d bases. (inherited_is_nearest classes entries x c d, nearest_is_inherited classes entries x bases c d)
