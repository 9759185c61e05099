-- The laws that proofs of other crates cite. The refinement between any two memories stands in thumb_code.

-- one instruction, one step and so many steps over one RAM, and over the bank that it shows
pub use Rattle.bank_model.proofs.FollowsRam.{bank_follows_instruction, bank_follows_steps}
pub use Rattle.bank_model.proofs.OneStep.{step_follows, reset_agrees}
-- the steps of a world with one fiber, and how its run begins
pub use Rattle.bank_model.proofs.OneFiber.{single_start, single_goes, single_writes, single_ends, single_panics, single_faults}
-- a step of the machine keeps what is above the base, and it is the turn of who stands there; whose bank is what the RAM shows
pub use Rattle.bank_model.proofs.AboveBase.{step_keeps, base_good, good_base}
pub use Rattle.bank_model.proofs.OnStack.{same_above, same_words, length_words, bank_shows, shown_bank, shown_inside}
pub use Rattle.bank_model.proofs.ItsTurn.{stands_agrees, is_its_turn}
-- what is shared counts the used words of the arena as the board does
pub use Rattle.bank_model.proofs.UsedWords.{used_counted}
-- a run that loads no free word, and lowers SP only as it stores, is the same for each list of free words
pub use Rattle.bank_model.proofs.FreeRuns.{free_words_dont_matter}
