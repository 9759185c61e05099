use Rattle.world_rows.proofs.Computed.{row_click, row_long_click, row_heard_click, row_unheard_click, row_down_twice, row_asked, row_last_click, row_button_b, row_all_asked}
use Rattle.world_rows.proofs.rows.rows_of_buttons.Goals as goal

pub returns-clause-click : goal.returns-clause-click
returns-clause-click c = row_click

pub returns-clause-long_click : goal.returns-clause-long_click
returns-clause-long_click c = row_long_click

pub returns-clause-heard_click : goal.returns-clause-heard_click
returns-clause-heard_click c = row_heard_click

pub returns-clause-unheard_click : goal.returns-clause-unheard_click
returns-clause-unheard_click c = row_unheard_click

pub returns-clause-down_twice : goal.returns-clause-down_twice
returns-clause-down_twice c = row_down_twice

pub returns-clause-asked : goal.returns-clause-asked
returns-clause-asked c = row_asked

pub returns-clause-last_click : goal.returns-clause-last_click
returns-clause-last_click c = row_last_click

pub returns-clause-button_b : goal.returns-clause-button_b
returns-clause-button_b c = row_button_b

pub returns-clause-all_asked : goal.returns-clause-all_asked
returns-clause-all_asked c = row_all_asked
