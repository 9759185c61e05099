use Rattle.std.proofs.Common.{refl}
use Rattle.std.specs.Fmt.{digits}
use Rattle.bank_model.proofs.images.rows_of_fibers.Goals as goal

pub returns-clause-spawns : goal.returns-clause-spawns
unfolding digits
returns-clause-spawns c = refl

pub returns-clause-spawned_base : goal.returns-clause-spawned_base
unfolding digits
returns-clause-spawned_base c = refl

pub returns-clause-even : goal.returns-clause-even
unfolding digits
returns-clause-even c = refl

pub returns-clause-own_value : goal.returns-clause-own_value
unfolding digits
returns-clause-own_value c = refl

pub returns-clause-in_order : goal.returns-clause-in_order
unfolding digits
returns-clause-in_order c = refl
