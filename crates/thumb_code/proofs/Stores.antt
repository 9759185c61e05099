-- What a store into one RAM leaves.
use Rattle.std.proofs.Common.{◌≡◌, ℕ, refl, Bool, true, false, cond, nat_lt}
use Rattle.thumb_code.specs.Effect.{Access}
use Rattle.thumb_code.specs.Map.{arena_at, stack_at}
use Rattle.thumb_code.specs.Machine.{Ram, ram_store}

base_of_cases : (b c : Bool) (x y z : Ram) (n : ℕ) → x.base ≡ n → y.base ≡ n → z.base ≡ n
    → (cond b x (cond c y z)).base ≡ n
base_of_cases true c x y z n p q r = p
base_of_cases false true x y z n p q r = q
base_of_cases false false x y z n p q r = r

-- The base stays.
pub store_keeps_base : (m : Ram) (a : Access) (v : ℕ) → (ram_store m a v).base ≡ m.base
store_keeps_base m a v = base_of_cases (nat_lt a.at arena_at) (nat_lt a.at stack_at) _ _ _ m.base refl refl refl
