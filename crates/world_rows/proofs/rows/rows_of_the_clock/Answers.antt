use Rattle.world_rows.proofs.Computed.{row_blinking, row_sleeper_first, row_at_the_end, row_past_the_end, row_entry_at_the_end, row_budget, row_entry_heard_at_the_end, row_budget_of_one}
use Rattle.world_rows.proofs.rows.rows_of_the_clock.Goals as goal

pub returns-clause-blinking : goal.returns-clause-blinking
returns-clause-blinking c = row_blinking

pub returns-clause-sleeper_first : goal.returns-clause-sleeper_first
returns-clause-sleeper_first c = row_sleeper_first

pub returns-clause-at_the_end : goal.returns-clause-at_the_end
returns-clause-at_the_end c = row_at_the_end

pub returns-clause-past_the_end : goal.returns-clause-past_the_end
returns-clause-past_the_end c = row_past_the_end

pub returns-clause-entry_at_the_end : goal.returns-clause-entry_at_the_end
returns-clause-entry_at_the_end c = row_entry_at_the_end

pub returns-clause-budget : goal.returns-clause-budget
returns-clause-budget c = row_budget

pub returns-clause-entry_heard_at_the_end : goal.returns-clause-entry_heard_at_the_end
returns-clause-entry_heard_at_the_end c = row_entry_heard_at_the_end

pub returns-clause-budget_of_one : goal.returns-clause-budget_of_one
returns-clause-budget_of_one c = row_budget_of_one
