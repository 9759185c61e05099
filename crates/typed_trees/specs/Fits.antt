-- Whether 32 bits number what is made.
use Rattle.std.specs.Prelude.{ℕ, suc, ◌+◌, ◌^◌, ◌<◌, List, [], ◌∷◌, length}
use Rattle.sts_syntax.specs.TypedTrees.{TypedRoutine}
use Rattle.type_derive.specs.Making.{Made}
use Rattle.typed_trees.specs.declared.build_places.Builder.{Builder}

-- How many numbers functions take: each one, and one for each of its parameters and locals.
abbrev pub numbers_taken : List TypedRoutine → ℕ
numbers_taken [] = 0
numbers_taken (r ∷ rest) = suc (length r.params + length r.locals) + numbers_taken rest

-- 32 bits number the locals and functions that are made behind those of a builder.
abbrev pub NumbersFit : {A : Type 0} → Builder → Made A → Type 0
NumbersFit b made = (b.local + length made.locals < 2 ^ 32) × (b.function + numbers_taken made.routines < 2 ^ 32)

-- 32 bits number a function, from n on, with those that stand in it, and its parameters and locals.
abbrev pub RoutineFits : ℕ → Made TypedRoutine → Type 0
RoutineFits n made = n + numbers_taken (made.it ∷ made.routines) < 2 ^ 32
