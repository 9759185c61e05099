use Rattle.meaning_sound.proofs.Sample.{methods_are_typed, growing_list_is_typed, blinking_is_typed}
use Rattle.meaning_sound.proofs.soundness.worked_programs_are_well_typed.Goals as goal

pub returns-clause-methods : goal.returns-clause-methods
returns-clause-methods c = methods_are_typed

pub returns-clause-lists : goal.returns-clause-lists
returns-clause-lists c = growing_list_is_typed

pub returns-clause-handlers : goal.returns-clause-handlers
returns-clause-handlers c = blinking_is_typed
