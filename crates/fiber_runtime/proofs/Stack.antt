-- A fiber on RAM, as a record would keep it.
use Rattle.std.proofs.Common.{◌≡◌, ℕ, zero, ◌-◌, ◌/◌, List, [], length, take, drop, ap, arith}
use Rattle.thumb_code.specs.Map.{stack_at}
use Rattle.thumb_code.specs.Machine.{State as Machine}
use Rattle.bank_model.specs.Standing.{words_in, IsInside}
use Rattle.bank_model.proofs.Laws.{length_words}
use Rattle.fiber_runtime.specs.declared.turning.Turning.{Turning}
use Rattle.fiber_runtime.specs.State.{ReachesBase, kept_of}

-- who has just begun has no words
pub no_words : (stack : List ℕ) (base : ℕ) → words_in stack base base ≡ []
no_words stack base = let z : (base - base) / 4 ≡ zero = omega arith in ap (λ n. take n (drop ((base - stack_at) / 4) stack)) z

-- who stands inside can be kept
pub inside_fits : (m : Machine) (t : Turning) → IsInside m.registers.sp m.memory.base → length m.memory.stack ≡ 1024 → ReachesBase (kept_of m t)
inside_fits m t i n = let l = length_words m.memory.stack m.registers.sp m.memory.base i n in record { span = omega (arith, l, i.within, i.sp_aligned, i.aligned); inside = λ some. i }
