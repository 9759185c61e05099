use Rattle.std.proofs.Common.{refl, ◌≡◌, ℕ, zero, suc, ◌∙◌, sym, arith}
use Rattle.board_world.specs.Waiting.{chosen, hears}
use Rattle.fiber_queues.specs.Keys.{how_often}
use Rattle.fiber_runtime.specs.State.{fiber_at}
use Rattle.fiber_runtime.proofs.Fibers.{fiber_found, raisers_same}
use Rattle.fiber_runtime.proofs.Frame.{step_kept}
use Rattle.fiber_runtime.proofs.banks.others_keep_banks.Goals as goal

pub returns-clause-step : goal.returns-clause-step
returns-clause-step c old new turn h = step_kept old new turn h

pub returns-clause-raisers : goal.returns-clause-raisers
returns-clause-raisers c t rs old new turn s h = raisers_same old.memory.base old.memory.stack new.memory.stack rs s.1 (step_kept old new turn h).above

pub returns-clause-woken : goal.returns-clause-woken
returns-clause-woken c e old new key k m g = by_count (how_often key (chosen (hears e) old.lists.waiters)) refl
  where
    by_count : (n : ℕ) → how_often key (chosen (hears e) old.lists.waiters) ≡ n → fiber_at new.pool key ≡ fiber_at old.pool key
    by_count zero n = fiber_found new.pool key k (m.others key n ∙ g) ∙ sym (fiber_found old.pool key k g)
    by_count (suc i) n = fiber_found new.pool key _ (m.changed key k g (omega arith)) ∙ sym (fiber_found old.pool key k g)
