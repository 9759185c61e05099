use Rattle.sts_scope.specs.Lookup.{is_field}
use Rattle.sts_scope.specs.Numbers.{is_method}
use Rattle.typed_laws.proofs.Climbing.{names_behind_base}
use Rattle.typed_laws.proofs.bases.names_of_the_base_come_first.Goals as goal

pub returns-clause-fields : goal.returns-clause-fields
returns-clause-fields g = λ k c bases near forward. names_behind_base k is_field c near bases forward

pub returns-clause-slots : goal.returns-clause-slots
returns-clause-slots g = λ k c bases near forward. names_behind_base k is_method c near bases forward
