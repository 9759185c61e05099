use Rattle.std.specs.Prelude.{◌++◌}
use Rattle.sts_scope.specs.Numbers.{numbering}
use Rattle.sts_scope.specs.Scopes.{all_names}
use Rattle.type_derive.specs.Derived.{known}
use Rattle.typed_laws.specs.inner.FilledTexts.{filled_program}
use Rattle.typed_laws.proofs.Classes.{field_listed, method_listed}
use Rattle.typed_laws.proofs.Rounds.{kinds_proper}
use Rattle.typed_laws.proofs.Whole.{made_all}
use Rattle.typed_laws.proofs.needs.members_stand_among_the_names_of_their_class.Goals as goal

pub returns-clause-fields : goal.returns-clause-fields
returns-clause-fields g = λ tables library text kinds formed derived ok no_failure c m d h.
    field_listed tables (all_names library text) (known library text kinds) (numbering (library ++ text)) (filled_program tables library text kinds)
    (made_all tables library text kinds derived ok formed no_failure (kinds_proper tables library text kinds derived)) c m d h

pub returns-clause-slots : goal.returns-clause-slots
returns-clause-slots g = λ tables library text kinds formed derived ok no_failure c m d h.
    method_listed tables (all_names library text) (known library text kinds) (numbering (library ++ text)) (filled_program tables library text kinds)
    (made_all tables library text kinds derived ok formed no_failure (kinds_proper tables library text kinds derived)) c m d h
