use Rattle.thumb_divide.proofs.Laws.{bytes_have_routine, routine_stands, divides_on_a_bank}
use Rattle.thumb_divide.proofs.theorems.the_routine_divides.Goals as goal

pub returns-clause-bytes : goal.returns-clause-bytes
returns-clause-bytes c = bytes_have_routine

pub returns-clause-fetched : goal.returns-clause-fetched
returns-clause-fetched c = routine_stands

pub returns-clause-divides : goal.returns-clause-divides
returns-clause-divides c = divides_on_a_bank
