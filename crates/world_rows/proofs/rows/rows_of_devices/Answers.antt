use Rattle.world_rows.proofs.Computed.{row_pins_and_radio, row_fault, row_display, row_unplug, row_unplug_placed}
use Rattle.world_rows.proofs.rows.rows_of_devices.Goals as goal

pub returns-clause-pins_and_radio : goal.returns-clause-pins_and_radio
returns-clause-pins_and_radio c = row_pins_and_radio

pub returns-clause-fault : goal.returns-clause-fault
returns-clause-fault c = row_fault

pub returns-clause-display : goal.returns-clause-display
returns-clause-display c = row_display

pub returns-clause-unplug : goal.returns-clause-unplug
returns-clause-unplug c = row_unplug

pub returns-clause-unplug_placed : goal.returns-clause-unplug_placed
returns-clause-unplug_placed c = row_unplug_placed
