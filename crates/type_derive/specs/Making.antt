-- How typed trees are put together: numbers of locals and of functions are given in text order, so whatever is made says which it added. Where what is looked for isn't there, nothing is made.
use Rattle.std.specs.Prelude.{ℕ, ◌+◌, Option, Some, None, List, [], ◌∷◌, ◌++◌, length}
use Rattle.sts_syntax.specs.Types.{ValueType}
use Rattle.sts_syntax.specs.TypedTrees.{TypedRoutine}
use Rattle.type_derive.specs.Typing.{◌>>=◌}

-- what is made, with the locals of the function around it and the functions that stand in it
pub record Made (A : Type 0) : Type 0 where
  pub it : A
  pub locals : List ValueType
  pub routines : List TypedRoutine

-- from the numbers of the next local and the next function
abbrev pub Making : Type 0 → Type 0
Making A = ℕ → ℕ → Option (Made A)

abbrev pub nothing_made : {A : Type 0} → Making A
nothing_made = λ m n. None

abbrev pub pure : {A : Type 0} → A → Making A
pure a = λ m n. Some (record { it = a; locals = []; routines = [] })

-- one behind the other
infixl 10 ◌>=>◌
abbrev pub ◌>=>◌ : {A B : Type 0} → Making A → (A → Making B) → Making B
f >=> g = λ m n.
    f m n >>= λ x. g x.it (m + length x.locals) (n + length x.routines)
    >>= λ y. Some (record { it = y.it; locals = x.locals ++ y.locals; routines = x.routines ++ y.routines })

-- of what is looked for
abbrev pub looked : {A B : Type 0} → Option A → (A → Making B) → Making B
looked found make = λ m n. found >>= λ a. make a m n

-- a new local of this type, by its number
abbrev pub a_local : {A : Type 0} → ValueType → (ℕ → A) → Making A
a_local u make = λ m n. Some (record { it = make m; locals = u ∷ []; routines = [] })
