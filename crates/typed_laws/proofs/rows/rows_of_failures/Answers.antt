use Rattle.std.proofs.Common.{refl}
use Rattle.sts_scope.specs.Kinds.{same, is_array, class_of, takes_null}
use Rattle.sts_scope.specs.Rules.{reaches, below, goes, all_go, all_go_to, comparable, operate, prefix, joined, common, choose, assign, counted, element, items_type, part_of, serves, call_kind}
use Rattle.typed_laws.proofs.rows.rows_of_failures.Goals as goal

pub returns-clause-arrays : goal.returns-clause-arrays
unfolding same is_array class_of takes_null reaches below goes all_go all_go_to comparable operate prefix joined common choose assign counted element items_type part_of serves call_kind
returns-clause-arrays c = refl
