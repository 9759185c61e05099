use Rattle.std.proofs.Common.{refl}
use Rattle.sts_scope.specs.Kinds.{same, is_array, class_of, takes_null}
use Rattle.sts_scope.specs.Rules.{reaches, below, goes, all_go, all_go_to, comparable, operate, prefix, joined, common, choose, assign, counted, element, items_type, part_of, serves, call_kind}
use Rattle.typed_laws.proofs.rows.rows_of_functions.Goals as goal

pub returns-clause-overriding : goal.returns-clause-overriding
unfolding same is_array class_of takes_null reaches below goes all_go all_go_to comparable operate prefix joined common choose assign counted element items_type part_of serves call_kind
returns-clause-overriding c = refl

pub returns-clause-bad_handler : goal.returns-clause-bad_handler
unfolding same is_array class_of takes_null reaches below goes all_go all_go_to comparable operate prefix joined common choose assign counted element items_type part_of serves call_kind
returns-clause-bad_handler c = refl

pub returns-clause-derived : goal.returns-clause-derived
unfolding same is_array class_of takes_null reaches below goes all_go all_go_to comparable operate prefix joined common choose assign counted element items_type part_of serves call_kind
returns-clause-derived c = refl

pub returns-clause-underived : goal.returns-clause-underived
unfolding same is_array class_of takes_null reaches below goes all_go all_go_to comparable operate prefix joined common choose assign counted element items_type part_of serves call_kind
returns-clause-underived c = refl
