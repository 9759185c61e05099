-- The set of bits of the listeners that begin, and their numbers.
use Rattle.std.proofs.Common.{◌≡◌, ℕ, zero, suc, ◌+◌, ◌*◌, ◌/◌, ◌%◌, ◌≤◌, ◌==◌, Bool, true, false, if◌then◌else◌, List, [], ◌∷◌, length, refl, arith}
use Rattle.std.proofs.lemmas.Bool.Decides.{nat_tests}
use Rattle.board_world.specs.declared.events.Event.{Event}
use Rattle.message_bus.specs.ListenerState.{ListenerState, begins_new}
use Rattle.message_bus.specs.BusState.{begun_bits}
use Rattle.message_bus.specs.Numbers.{numbers, beginning, IsRising}

pub numbers-none : (n k : ℕ) → numbers n k 0 ≡ []
numbers-none zero k = refl
numbers-none (suc n) k = numbers-none n (suc k)

-- the numbers of the bits are those of the listeners that begin
pub numbers-bits : (e : Event) (n k : ℕ) (ls : List ListenerState) → length ls ≤ n → numbers n k (begun_bits e ls) ≡ beginning e k ls
numbers-bits e n k [] h = numbers-none n k
numbers-bits e zero k (l ∷ ls) h = absurd (omega arith)
numbers-bits e (suc n) k (l ∷ ls) h = by_first (begins_new e l) (begun_bits e ls) (numbers-bits e n (suc k) ls (omega arith))
  where
    by_first : (c : Bool) (m : ℕ) → numbers n (suc k) m ≡ beginning e (suc k) ls
        → (let bits = (if c then 1 else 0) + 2 * m in if bits % 2 == 1 then k ∷ numbers n (suc k) (bits / 2) else numbers n (suc k) (bits / 2)) ≡ (if c then k ∷ beginning e (suc k) ls else beginning e (suc k) ls)
    by_first true m g = (let odd : ((1 + 2 * m) % 2 == 1) ≡ true = grind (arith, nat_tests) in let half : (1 + 2 * m) / 2 ≡ m = omega arith in rw (odd, half, g) refl)
    by_first false m g = (let even : ((0 + 2 * m) % 2 == 1) ≡ false = grind (arith, nat_tests) in let half : (0 + 2 * m) / 2 ≡ m = omega arith in rw (even, half, g) refl)

pub rising-weaker : (j i n : ℕ) (is : List ℕ) → i ≤ j → IsRising j is n → IsRising i is n
rising-weaker j i n [] l g = tt
rising-weaker j i n (k ∷ ks) l g = (omega (arith, g.0, l), g.1, g.2)

-- they ascend, and each is that of a listener
pub rising-beginning : (e : Event) (k n : ℕ) (ls : List ListenerState) → k + length ls ≤ n → IsRising k (beginning e k ls) n
rising-beginning e k n [] h = tt
rising-beginning e k n (l ∷ ls) h = by_first (begins_new e l) (rising-beginning e (suc k) n ls (omega arith))
  where
    by_first : (c : Bool) → IsRising (suc k) (beginning e (suc k) ls) n → IsRising k (if c then k ∷ beginning e (suc k) ls else beginning e (suc k) ls) n
    by_first true g = (omega arith, omega arith, g)
    by_first false g = rising-weaker (suc k) k n (beginning e (suc k) ls) (omega arith) g
