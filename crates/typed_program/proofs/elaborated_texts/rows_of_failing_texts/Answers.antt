use Rattle.std.proofs.Common.{refl}
use Rattle.sts_scope.specs.Kinds.{same, is_array, class_of, takes_null}
use Rattle.sts_scope.specs.Rules.{reaches, below, goes, all_go, all_go_to, comparable, operate, prefix, joined, common, choose, assign, counted, element, items_type, part_of, serves, call_kind}
use Rattle.typed_program.proofs.elaborated_texts.rows_of_failing_texts.Goals as goal

pub returns-clause-unknown : goal.returns-clause-unknown
unfolding same is_array class_of takes_null reaches below goes all_go all_go_to comparable operate prefix joined common choose assign counted element items_type part_of serves call_kind
returns-clause-unknown c = refl

pub returns-clause-null_alone : goal.returns-clause-null_alone
unfolding same is_array class_of takes_null reaches below goes all_go all_go_to comparable operate prefix joined common choose assign counted element items_type part_of serves call_kind
returns-clause-null_alone c = refl

pub returns-clause-own_base : goal.returns-clause-own_base
unfolding same is_array class_of takes_null reaches below goes all_go all_go_to comparable operate prefix joined common choose assign counted element items_type part_of serves call_kind
returns-clause-own_base c = refl

pub returns-clause-overriding : goal.returns-clause-overriding
unfolding same is_array class_of takes_null reaches below goes all_go all_go_to comparable operate prefix joined common choose assign counted element items_type part_of serves call_kind
returns-clause-overriding c = refl

pub returns-clause-underived : goal.returns-clause-underived
unfolding same is_array class_of takes_null reaches below goes all_go all_go_to comparable operate prefix joined common choose assign counted element items_type part_of serves call_kind
returns-clause-underived c = refl
