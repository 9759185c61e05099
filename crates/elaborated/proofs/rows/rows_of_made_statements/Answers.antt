use Rattle.std.proofs.Common.{refl}
use Rattle.sts_scope.specs.Kinds.{same, is_array, class_of, takes_null}
use Rattle.sts_scope.specs.Rules.{reaches, below, goes, all_go, all_go_to, comparable, operate, prefix, joined, common, choose, assign, counted, element, items_type, part_of, serves, call_kind}
use Rattle.elaborated.proofs.rows.rows_of_made_statements.Goals as goal

pub returns-clause-a_sum : goal.returns-clause-a_sum
unfolding same is_array class_of takes_null reaches below goes all_go all_go_to comparable operate prefix joined common choose assign counted element items_type part_of serves call_kind
returns-clause-a_sum c = refl

pub returns-clause-an_empty_list : goal.returns-clause-an_empty_list
unfolding same is_array class_of takes_null reaches below goes all_go all_go_to comparable operate prefix joined common choose assign counted element items_type part_of serves call_kind
returns-clause-an_empty_list c = refl

pub returns-clause-one_in_another : goal.returns-clause-one_in_another
unfolding same is_array class_of takes_null reaches below goes all_go all_go_to comparable operate prefix joined common choose assign counted element items_type part_of serves call_kind
returns-clause-one_in_another c = refl

pub returns-clause-also_made : goal.returns-clause-also_made
unfolding same is_array class_of takes_null reaches below goes all_go all_go_to comparable operate prefix joined common choose assign counted element items_type part_of serves call_kind
returns-clause-also_made c = (refl, refl)
