-- What players hear of what the others sent at a moment, and when something comes to them next.
use Rattle.std.specs.Prelude.{◌≡◌, ◌<◌, ◌≤◌, ◌⊎◌, ℕ, suc, ℤ, Bool, ◌||◌, ◌==◌, if◌then◌else◌, nat_lt, nat_le, List, [], ◌∷◌, ◌++◌, Option, Some, None, IfSome}
use Rattle.std.specs.List.{AllByRecursion}
use Rattle.class_radio.specs.declared.player.Player.{Player}
use Rattle.class_radio.specs.Playing.{hearing_all}

-- what board j hears of what each board, from number i on, said at a moment
abbrev pub told_to : (lost : ℕ → ℕ → ℕ → Bool) → (t j i : ℕ) → List (List ℤ) → List ℤ
told_to lost t j i [] = []
told_to lost t j i (numbers ∷ rest) = (if (i == j) || lost t i j then [] else numbers) ++ told_to lost t j (suc i) rest

-- players, from board j on, once each has heard that, a moment later
abbrev pub all_hearing : (lost : ℕ → ℕ → ℕ → Bool) → (t : ℕ) → List (List ℤ) → (j : ℕ) → List Player → List Player
all_hearing lost t numbers j [] = []
all_hearing lost t numbers j (p ∷ ps) =
    hearing_all (suc t) (told_to lost t j 0 numbers) p ∷ all_hearing lost t numbers (suc j) ps

-- something comes to one of these players at a moment
abbrev pub ComesToOne : ℕ → List Player → Type 0
ComesToOne t [] = ⊥
ComesToOne t (p ∷ ps) = (p.due ≡ Some t) ⊎ ComesToOne t ps

-- the next moment up to an end at which something comes to one of these players, if there is one
abbrev pub IsNextOf : (end : ℕ) → List Player → Option ℕ → Type 0
IsNextOf end ps None = AllByRecursion (λ (p : Player). IfSome p.due (λ m. end < m)) ps
IsNextOf end ps (Some t) = (t ≤ end) × AllByRecursion (λ (p : Player). IfSome p.due (λ m. t ≤ m)) ps × ComesToOne t ps

-- the sooner one of two moments, of which the second counts only up to the end
abbrev pub soonest : (end : ℕ) → Option ℕ → Option ℕ → Option ℕ
soonest end None None = None
soonest end None (Some b) = if nat_le b end then Some b else None
soonest end (Some a) None = Some a
soonest end (Some a) (Some b) = if nat_lt b a then Some b else Some a
