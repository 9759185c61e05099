use Rattle.std.proofs.Common.{refl}
use Rattle.sts_scope.specs.Kinds.{same, is_array, class_of, takes_null}
use Rattle.sts_scope.specs.Rules.{reaches, below, goes, all_go, all_go_to, comparable, operate, prefix, joined, common, choose, assign, counted, element, items_type, part_of, serves, call_kind}
use Rattle.elaborated.proofs.rows.rows_of_first_failures.Goals as goal

pub returns-clause-a_surplus : goal.returns-clause-a_surplus
unfolding same is_array class_of takes_null reaches below goes all_go all_go_to comparable operate prefix joined common choose assign counted element items_type part_of serves call_kind
returns-clause-a_surplus c = refl

pub returns-clause-null_only : goal.returns-clause-null_only
unfolding same is_array class_of takes_null reaches below goes all_go all_go_to comparable operate prefix joined common choose assign counted element items_type part_of serves call_kind
returns-clause-null_only c = refl

pub returns-clause-no_list : goal.returns-clause-no_list
unfolding same is_array class_of takes_null reaches below goes all_go all_go_to comparable operate prefix joined common choose assign counted element items_type part_of serves call_kind
returns-clause-no_list c = refl

pub returns-clause-its_item : goal.returns-clause-its_item
unfolding same is_array class_of takes_null reaches below goes all_go all_go_to comparable operate prefix joined common choose assign counted element items_type part_of serves call_kind
returns-clause-its_item c = refl

pub returns-clause-no_test : goal.returns-clause-no_test
unfolding same is_array class_of takes_null reaches below goes all_go all_go_to comparable operate prefix joined common choose assign counted element items_type part_of serves call_kind
returns-clause-no_test c = refl

pub returns-clause-an_unknown : goal.returns-clause-an_unknown
unfolding same is_array class_of takes_null reaches below goes all_go all_go_to comparable operate prefix joined common choose assign counted element items_type part_of serves call_kind
returns-clause-an_unknown c = refl

pub returns-clause-one_that_gives : goal.returns-clause-one_that_gives
unfolding same is_array class_of takes_null reaches below goes all_go all_go_to comparable operate prefix joined common choose assign counted element items_type part_of serves call_kind
returns-clause-one_that_gives c = refl

pub returns-clause-also_fail : goal.returns-clause-also_fail
unfolding same is_array class_of takes_null reaches below goes all_go all_go_to comparable operate prefix joined common choose assign counted element items_type part_of serves call_kind
returns-clause-also_fail c = (refl, refl)
