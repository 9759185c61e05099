use Rattle.text_sizes.proofs.Declarations.{few_declarations}
use Rattle.text_sizes.proofs.Functions.{few_numbered}
use Rattle.text_sizes.proofs.Routines.{few_functions}
use Rattle.text_sizes.proofs.theorems.programs_have_few_parts.Goals as goal

pub returns-clause-functions : goal.returns-clause-functions
returns-clause-functions c = few_functions

pub returns-clause-numbered : goal.returns-clause-numbered
returns-clause-numbered c = few_numbered

pub returns-clause-declarations : goal.returns-clause-declarations
returns-clause-declarations c = few_declarations
