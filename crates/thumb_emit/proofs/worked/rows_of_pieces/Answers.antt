use Rattle.std.proofs.Common.{refl}
use Rattle.register_assign.specs.Unread.{is_unread}
use Rattle.thumb_emit.specs.Joined.{joined_by}
use Rattle.thumb_emit.proofs.worked.rows_of_pieces.Goals as goal

pub returns-clause-one_less : goal.returns-clause-one_less
unfolding is_unread joined_by
returns-clause-one_less c = refl

pub returns-clause-less : goal.returns-clause-less
unfolding is_unread joined_by
returns-clause-less c = refl

pub returns-clause-call : goal.returns-clause-call
unfolding is_unread joined_by
returns-clause-call c = refl

pub returns-clause-field : goal.returns-clause-field
unfolding is_unread joined_by
returns-clause-field c = refl
