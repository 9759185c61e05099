use Rattle.sts_meaning.proofs.Computed.{counted_steps_of_statements-initialised, counted_steps_of_statements-declared, counted_steps_of_statements-condition, counted_steps_of_statements-turns, counted_steps_of_statements-repetition, counted_steps_of_statements-bounded, counted_steps_of_statements-items, counted_steps_of_statements-left, counted_steps_of_statements-left_of_items, counted_steps_of_statements-block}
use Rattle.sts_meaning.proofs.rows.counted_steps_of_statements.Goals as goal

pub returns-clause-initialised : goal.returns-clause-initialised
returns-clause-initialised c = counted_steps_of_statements-initialised

pub returns-clause-declared : goal.returns-clause-declared
returns-clause-declared c = counted_steps_of_statements-declared

pub returns-clause-condition : goal.returns-clause-condition
returns-clause-condition c = counted_steps_of_statements-condition

pub returns-clause-turns : goal.returns-clause-turns
returns-clause-turns c = counted_steps_of_statements-turns

pub returns-clause-repetition : goal.returns-clause-repetition
returns-clause-repetition c = counted_steps_of_statements-repetition

pub returns-clause-bounded : goal.returns-clause-bounded
returns-clause-bounded c = counted_steps_of_statements-bounded

pub returns-clause-items : goal.returns-clause-items
returns-clause-items c = counted_steps_of_statements-items

pub returns-clause-left : goal.returns-clause-left
returns-clause-left c = counted_steps_of_statements-left

pub returns-clause-left_of_items : goal.returns-clause-left_of_items
returns-clause-left_of_items c = counted_steps_of_statements-left_of_items

pub returns-clause-block : goal.returns-clause-block
returns-clause-block c = counted_steps_of_statements-block
