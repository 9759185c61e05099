-- The moves as those of fibers that each have their own words.
use Rattle.std.proofs.Common.{◌≡◌, ℕ, ◌≤◌, List, [], ◌∷◌, map, Some, refl, sym, ap, ◌∙◌, arith}
use Rattle.slab.specs.Slab.{Slab, get}
use Rattle.thumb_code.specs.declared.register_file.Registers.{Registers}
use Rattle.thumb_code.specs.Machine.{State as Machine}
use Rattle.bank_model.specs.Fibers.{Fiber, begins_on}
use Rattle.fiber_pool.specs.Kept.{Kept, or_unused}
use Rattle.fiber_runtime.specs.declared.turning.Raiser.{Raiser}
use Rattle.bank_model.specs.Standing.{fiber_on, words_in, SameFrom}
use Rattle.fiber_runtime.specs.State.{State, fiber_raising, fiber_kept, fiber_at}
use Rattle.fiber_runtime.specs.Sound.{IsNested}
use Rattle.fiber_runtime.specs.Moves.{machine_started, Resumed}
use Rattle.fiber_runtime.proofs.Stack.{no_words}
use Rattle.bank_model.proofs.Laws.{same_words}

pub same_fiber : (r r' : Registers) (b b' : ℕ) (w w' : List ℕ) → r ≡ r' → b ≡ b' → w ≡ w'
    → (let x : Fiber = record { registers = r; base = b; bank = w } in let y : Fiber = record { registers = r'; base = b'; bank = w' } in x ≡ y)
same_fiber r r' b b' w w' p q s = rw (p, q, s) refl

-- who is kept at a key
pub fiber_found : (pool : Slab Kept) (key : ℕ) (k : Kept) → get pool key ≡ Some k → fiber_at pool key ≡ fiber_kept k
fiber_found pool key k g = ap (λ o. fiber_kept (or_unused o)) g

-- who begins has no words
pub placed_begins : (entry base : ℕ) (m : Machine) → fiber_on (machine_started entry base m) ≡ begins_on m.memory.flash base entry
placed_begins entry base m = same_fiber _ _ _ _ _ _ refl refl (no_words m.memory.stack base)

-- who is copied in is who was kept
pub resumed_fiber : (old new : State) (m : Resumed old new) → fiber_on new.machine ≡ fiber_at old.pool m.key
resumed_fiber old new m =
    let machine = m.holds.rest in
    same_fiber _ _ _ _ _ _ (ap (λ (x : Machine). x.registers) machine) (ap (λ (x : Machine). x.memory.base) machine)
    (ap (λ (x : Machine). words_in new.machine.memory.stack x.registers.sp x.memory.base) machine ∙ m.holds.put.words)
    ∙ sym (fiber_found old.pool m.key m.kept m.next.found)

-- raisers that stand above an address stand above each lower one
pub nested_lower : (low high : ℕ) (rs : List Raiser) → low ≤ high → IsNested high rs → IsNested low rs
nested_lower low high [] l n = tt
nested_lower low high (r ∷ rs) l n = (omega (arith, l, n.0), n.1, n.2)

-- raisers stand on words that stay
pub raisers_same : (at : ℕ) (old new : List ℕ) (rs : List Raiser) → IsNested at rs → SameFrom at old new → map (fiber_raising new) rs ≡ map (fiber_raising old) rs
raisers_same at old new [] n h = refl
raisers_same at old new (r ∷ rs) n h =
    let here : fiber_raising new r ≡ fiber_raising old r = same_fiber _ _ _ _ _ _ refl refl (same_words at r.registers.sp r.base old new h n.0) in
    let lower : at ≤ r.base = omega (arith, n.0, n.1.within) in
    let others = raisers_same at old new rs (nested_lower at r.base rs lower n.2) h in
    rw (here, others) refl
