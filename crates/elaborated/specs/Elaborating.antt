-- How elaboration goes on from part to part: what is made, or the first failure.
use Rattle.std.specs.Prelude.{ℕ, suc, ◌+◌, Bool, true, false, Option, Some, None, [], ◌∷◌, ◌++◌, length, Result, Ok, Err}
use Rattle.sts_base.specs.declared.refused.Code.{Code}
use Rattle.sts_base.specs.declared.refused.Code.TheVariants.{BadHandler}
use Rattle.sts_syntax.specs.Types as t
use Rattle.sts_syntax.specs.Types.{ValueType}
use Rattle.sts_syntax.specs.TypedTrees as e
use Rattle.sts_syntax.specs.TypedTrees.{TypedTree, TypedStatements}
use Rattle.sts_scope.specs.Failures.{Failure}
use Rattle.type_derive.specs.Making.{Made}

-- from the numbers of the next local and the next function: what is made, or the first failure
abbrev pub Elab : Type 0 → Type 0
Elab A = ℕ → ℕ → Result (Made A) Failure

abbrev pub yields : {A : Type 0} → A → Elab A
yields a = λ m n. Ok (record { it = a; locals = []; routines = [] })

abbrev pub fails : {A : Type 0} → Code → ℕ → Elab A
fails code at = λ m n. Err (record { code = code; at = at })

-- what is made of two, one after the other
abbrev pub both_made : {A B : Type 0} → Made A → Made B → Made B
both_made x y = record { it = y.it; locals = x.locals ++ y.locals; routines = x.routines ++ y.routines }

abbrev pub joined_with : {A B : Type 0} → Made A → Result (Made B) Failure → Result (Made B) Failure
joined_with x (Err why) = Err why
joined_with x (Ok y) = Ok (both_made x y)

abbrev pub carries_on : {A B : Type 0} → Result (Made A) Failure → (A → Elab B) → ℕ → ℕ → Result (Made B) Failure
carries_on (Err why) g m n = Err why
carries_on (Ok x) g m n = joined_with x (g x.it (m + length x.locals) (n + length x.routines))

-- one after the other, whose locals and functions are numbered after those of the first
infixl 10 ◌>->◌
abbrev pub ◌>->◌ : {A B : Type 0} → Elab A → (A → Elab B) → Elab B
f >-> g = λ m n. carries_on (f m n) g m n

-- what has to be there, or else this fails
abbrev pub need : {A B : Type 0} → Option A → Code → ℕ → (A → Elab B) → Elab B
need None code at g = fails code at
need (Some a) code at g = g a

-- goes on where nothing failed
abbrev pub check : {A : Type 0} → Option Failure → Elab A → Elab A
check None g = g
check (Some why) g = λ m n. Err why

-- a new local of this type, by its number
abbrev pub new_local : {A : Type 0} → ValueType → (ℕ → A) → Elab A
new_local u make = λ m n. Ok (record { it = make m; locals = u ∷ []; routines = [] })

-- a function expression: a function of its own, whose number comes before those in it, where it may be a handler
abbrev pub handled_by : {A : Type 0} → Bool → ℕ → (TypedTree → A) → ℕ → Result (Made TypedStatements) Failure
    → Result (Made A) Failure
handled_by serves at make n (Err why) = Err why
handled_by false at make n (Ok x) = Err (record { code = BadHandler; at = at })
handled_by true at make n (Ok x) = Ok (record {
  it = make (e.Handler t.Nothing n);
  locals = [];
  routines = record { params = []; locals = x.locals; gives = t.Nothing; all = x.it } ∷ x.routines;
})

abbrev pub handled : {A : Type 0} → Bool → ℕ → (TypedTree → A) → Elab TypedStatements → Elab A
handled serves at make all = λ m n. handled_by serves at make n (all 0 (suc n))
