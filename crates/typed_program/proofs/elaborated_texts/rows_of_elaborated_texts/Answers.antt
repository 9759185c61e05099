use Rattle.std.proofs.Common.{refl}
use Rattle.sts_scope.specs.Kinds.{same, is_array, class_of, takes_null}
use Rattle.sts_scope.specs.Rules.{reaches, below, goes, all_go, all_go_to, comparable, operate, prefix, joined, common, choose, assign, counted, element, items_type, part_of, serves, call_kind}
use Rattle.typed_program.proofs.elaborated_texts.rows_of_elaborated_texts.Goals as goal

pub returns-clause-sum : goal.returns-clause-sum
unfolding same is_array class_of takes_null reaches below goes all_go all_go_to comparable operate prefix joined common choose assign counted element items_type part_of serves call_kind
returns-clause-sum c = refl

pub returns-clause-late_field : goal.returns-clause-late_field
unfolding same is_array class_of takes_null reaches below goes all_go all_go_to comparable operate prefix joined common choose assign counted element items_type part_of serves call_kind
returns-clause-late_field c = refl
