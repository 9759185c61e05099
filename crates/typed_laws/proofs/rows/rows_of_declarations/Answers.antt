use Rattle.std.proofs.Common.{refl}
use Rattle.sts_scope.specs.Kinds.{same, is_array, class_of, takes_null}
use Rattle.sts_scope.specs.Rules.{reaches, below, goes, all_go, all_go_to, comparable, operate, prefix, joined, common, choose, assign, counted, element, items_type, part_of, serves, call_kind}
use Rattle.typed_laws.proofs.rows.rows_of_declarations.Goals as goal

pub returns-clause-typed : goal.returns-clause-typed
unfolding same is_array class_of takes_null reaches below goes all_go all_go_to comparable operate prefix joined common choose assign counted element items_type part_of serves call_kind
returns-clause-typed c = refl

pub returns-clause-untyped : goal.returns-clause-untyped
unfolding same is_array class_of takes_null reaches below goes all_go all_go_to comparable operate prefix joined common choose assign counted element items_type part_of serves call_kind
returns-clause-untyped c = refl
