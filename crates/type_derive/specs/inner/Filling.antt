-- How filled trees are put together, as typed ones are (`Making` in crates/type_derive), but whatever they are made of.
use Rattle.std.specs.Prelude.{ℕ, ◌+◌, List, [], ◌∷◌, ◌++◌, length}
use Rattle.sts_syntax.specs.Types.{ValueType}
use Rattle.type_derive.specs.Making.{Made}

-- from the numbers of the next local and the next function
abbrev pub Making : Type 0 → Type 0
Making A = ℕ → ℕ → Made A

abbrev pub pure : {A : Type 0} → A → Making A
pure a = λ m n. record { it = a; locals = []; routines = [] }

-- one behind the other
infixl 10 ◌>=>◌
abbrev pub ◌>=>◌ : {A B : Type 0} → Making A → (A → Making B) → Making B
f >=> g = λ m n.
    let x = f m n in
    let y = g x.it (m + length x.locals) (n + length x.routines) in
    record { it = y.it; locals = x.locals ++ y.locals; routines = x.routines ++ y.routines }

-- a new local of this type, by its number
abbrev pub a_local : {A : Type 0} → ValueType → (ℕ → A) → Making A
a_local u make = λ m n. record { it = make m; locals = u ∷ []; routines = [] }
