use Rattle.std.proofs.Common.{refl}
use Rattle.std.specs.Fmt.{digits}
use Rattle.bank_model.proofs.images.rows_of_texts.Goals as goal

pub returns-clause-writes : goal.returns-clause-writes
unfolding digits
returns-clause-writes c = refl

pub returns-clause-empty : goal.returns-clause-empty
unfolding digits
returns-clause-empty c = refl

pub returns-clause-null : goal.returns-clause-null
unfolding digits
returns-clause-null c = refl

pub returns-clause-unaligned : goal.returns-clause-unaligned
unfolding digits
returns-clause-unaligned c = refl

pub returns-clause-too_long : goal.returns-clause-too_long
unfolding digits
returns-clause-too_long c = refl

pub returns-clause-in_arena : goal.returns-clause-in_arena
unfolding digits
returns-clause-in_arena c = refl

pub returns-clause-past_flash : goal.returns-clause-past_flash
unfolding digits
returns-clause-past_flash c = refl

pub returns-clause-longest : goal.returns-clause-longest
unfolding digits
returns-clause-longest c = refl

pub returns-clause-longest_to_the_end : goal.returns-clause-longest_to_the_end
unfolding digits
returns-clause-longest_to_the_end c = refl
