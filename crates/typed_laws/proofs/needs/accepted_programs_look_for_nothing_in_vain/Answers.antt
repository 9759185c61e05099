use Rattle.typed_laws.proofs.WholePrograms.{types, members, named, routines, supers, numbers}
use Rattle.typed_laws.proofs.needs.accepted_programs_look_for_nothing_in_vain.Goals as goal

pub returns-clause-types : goal.returns-clause-types
returns-clause-types c = λ tables library text kinds h. types tables library text kinds h

pub returns-clause-members : goal.returns-clause-members
returns-clause-members c = λ tables library text kinds h. members tables library text kinds h

pub returns-clause-names : goal.returns-clause-names
returns-clause-names c = λ tables library text kinds h p x. named tables library text kinds h p x

pub returns-clause-routines : goal.returns-clause-routines
returns-clause-routines c = λ tables library text kinds h. routines tables library text kinds h

pub returns-clause-supers : goal.returns-clause-supers
returns-clause-supers c = λ tables k this m d h. supers tables k this m d h

pub returns-clause-numbers : goal.returns-clause-numbers
returns-clause-numbers c = λ library text kinds. numbers library text kinds
