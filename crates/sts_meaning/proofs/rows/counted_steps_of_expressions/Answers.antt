use Rattle.sts_meaning.proofs.Computed.{counted_steps_of_expressions-nothing, counted_steps_of_expressions-literal, counted_steps_of_expressions-name, counted_steps_of_expressions-operator, counted_steps_of_expressions-both, counted_steps_of_expressions-choice, counted_steps_of_expressions-assignment, counted_steps_of_expressions-compound, counted_steps_of_expressions-bump, counted_steps_of_expressions-array, counted_steps_of_expressions-length, counted_steps_of_expressions-item, counted_steps_of_expressions-push, counted_steps_of_expressions-call, counted_steps_of_expressions-board, counted_steps_of_expressions-always, counted_steps_of_expressions-object, counted_steps_of_expressions-base, counted_steps_of_expressions-method, counted_steps_of_expressions-field, counted_steps_of_expressions-field_set, counted_steps_of_expressions-field_added, counted_steps_of_expressions-handler}
use Rattle.sts_meaning.proofs.rows.counted_steps_of_expressions.Goals as goal

pub returns-clause-nothing : goal.returns-clause-nothing
returns-clause-nothing c = counted_steps_of_expressions-nothing

pub returns-clause-literal : goal.returns-clause-literal
returns-clause-literal c = counted_steps_of_expressions-literal

pub returns-clause-name : goal.returns-clause-name
returns-clause-name c = counted_steps_of_expressions-name

pub returns-clause-operator : goal.returns-clause-operator
returns-clause-operator c = counted_steps_of_expressions-operator

pub returns-clause-both : goal.returns-clause-both
returns-clause-both c = counted_steps_of_expressions-both

pub returns-clause-choice : goal.returns-clause-choice
returns-clause-choice c = counted_steps_of_expressions-choice

pub returns-clause-assignment : goal.returns-clause-assignment
returns-clause-assignment c = counted_steps_of_expressions-assignment

pub returns-clause-compound : goal.returns-clause-compound
returns-clause-compound c = counted_steps_of_expressions-compound

pub returns-clause-bump : goal.returns-clause-bump
returns-clause-bump c = counted_steps_of_expressions-bump

pub returns-clause-array : goal.returns-clause-array
returns-clause-array c = counted_steps_of_expressions-array

pub returns-clause-length : goal.returns-clause-length
returns-clause-length c = counted_steps_of_expressions-length

pub returns-clause-item : goal.returns-clause-item
returns-clause-item c = counted_steps_of_expressions-item

pub returns-clause-push : goal.returns-clause-push
returns-clause-push c = counted_steps_of_expressions-push

pub returns-clause-call : goal.returns-clause-call
returns-clause-call c = counted_steps_of_expressions-call

pub returns-clause-board : goal.returns-clause-board
returns-clause-board c = counted_steps_of_expressions-board

pub returns-clause-always : goal.returns-clause-always
returns-clause-always c = counted_steps_of_expressions-always

pub returns-clause-object : goal.returns-clause-object
returns-clause-object c = counted_steps_of_expressions-object

pub returns-clause-base : goal.returns-clause-base
returns-clause-base c = counted_steps_of_expressions-base

pub returns-clause-method : goal.returns-clause-method
returns-clause-method c = counted_steps_of_expressions-method

pub returns-clause-field : goal.returns-clause-field
returns-clause-field c = counted_steps_of_expressions-field

pub returns-clause-field_set : goal.returns-clause-field_set
returns-clause-field_set c = counted_steps_of_expressions-field_set

pub returns-clause-field_added : goal.returns-clause-field_added
returns-clause-field_added c = counted_steps_of_expressions-field_added

pub returns-clause-handler : goal.returns-clause-handler
returns-clause-handler c = counted_steps_of_expressions-handler
