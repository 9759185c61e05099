-- The rules of types: classes and their bases, which values go where, and what operators take and give.
use Rattle.std.specs.Prelude.{◌≡◌, ℕ, zero, suc, ℤ, pos, negsuc, ◌^◌, Bool, List, [], ◌∷◌, Option, Some, None, nat_lt, ◌⊎◌}
use Rattle.sts_syntax.specs.Types.{ValueType, Number, Boolean, Text, Nothing, Object, ListOf, NullType}
use Rattle.sts_syntax.specs.TypedTrees.{TypedRoutine, ClassEntry, TypedProgram}
use Rattle.sts_syntax.specs.declared.operators.TheConstants.{NEGATE, PLUS, NOT, COMPLEMENT, BIT_OR, BIT_XOR, BIT_AND, EQUAL, UNEQUAL, LESS, GREATER, AT_MOST, AT_LEAST, SHIFT_LEFT, SHIFT_RIGHT, SHIFT_RIGHT_UNSIGNED, ADD, SUBTRACT, MULTIPLY, DIVIDE, REMAINDER}

-- an entry of a list, if it is there
abbrev pub entry : {X : Type 0} → List X → ℕ → Option X
entry [] i = None
entry (x ∷ xs) zero = Some x
entry (x ∷ xs) (suc i) = entry xs i

-- a number is one of these
abbrev pub IsOneOf : ℕ → List ℕ → Type 0
IsOneOf n [] = ⊥
IsOneOf n (m ∷ ms) = (n ≡ m) ⊎ IsOneOf n ms

-- null goes to a text, an object and an array
abbrev pub TakesNull : ValueType → Type 0
TakesNull Text = Unit {0}
TakesNull (Object c) = Unit {0}
TakesNull (ListOf u) = Unit {0}
TakesNull _ = ⊥

-- whole numbers of 32 bits with a sign
abbrev pub is_int32 : ℤ → Bool
is_int32 (pos n) = nat_lt n (2 ^ 31)
is_int32 (negsuc n) = nat_lt n (2 ^ 31)

-- operators: those that take numbers and give one, those that put numbers in order, and those of equality
abbrev pub arithmetic_operators : List ℕ
arithmetic_operators =
    BIT_OR ∷ BIT_XOR ∷ BIT_AND ∷ SHIFT_LEFT ∷ SHIFT_RIGHT ∷ SHIFT_RIGHT_UNSIGNED ∷ ADD ∷ SUBTRACT ∷ MULTIPLY ∷ DIVIDE
    ∷ REMAINDER ∷ []

abbrev pub order_operators : List ℕ
order_operators = LESS ∷ GREATER ∷ AT_MOST ∷ AT_LEAST ∷ []

abbrev pub equality_operators : List ℕ
equality_operators = EQUAL ∷ UNEQUAL ∷ []

-- prefix operators that take a number; `!` takes a truth value
abbrev pub number_prefixes : List ℕ
number_prefixes = NEGATE ∷ PLUS ∷ COMPLEMENT ∷ []

-- `++` adds 1, and `--` -1
abbrev pub IsOne : ℤ → Type 0
IsOne by = (by ≡ pos 1) ⊎ (by ≡ negsuc 0)

-- what a prefix operator takes and gives
abbrev pub Prefixes : ℕ → ValueType → ValueType → Type 0
Prefixes op u w =
    (IsOneOf op number_prefixes × (u ≡ Number) × (w ≡ Number)) ⊎ ((op ≡ NOT) × (u ≡ Boolean) × (w ≡ Boolean))

module _ (P : TypedProgram) where
  abbrev pub HasClass : ℕ → ClassEntry → Type 0
  HasClass c class = entry P.classes c ≡ Some class

  abbrev pub HasRoutine : ℕ → TypedRoutine → Type 0
  HasRoutine f r = entry P.functions f ≡ Some r

  -- c is n bases above d
  abbrev pub Climbs : ℕ → ℕ → ℕ → Type 0
  Climbs zero d c = d ≡ c
  Climbs (suc n) d c = (class : ClassEntry) × (base : ℕ) × HasClass d class × (class.base ≡ Some base) × Climbs n base c

  -- c is d, or one of the bases above it
  abbrev pub IsBelow : ℕ → ℕ → Type 0
  IsBelow d c = (n : ℕ) × Climbs n d c

  abbrev pub IsSubclass : ValueType → ValueType → Type 0
  IsSubclass (Object d) (Object c) = IsBelow d c
  IsSubclass u v = ⊥

  -- Values of one type go to another: of the same type, of a subclass, or null. Arrays go only to arrays of the same type.
  abbrev pub GoesTo : ValueType → ValueType → Type 0
  GoesTo u v = (u ≡ v) ⊎ (IsSubclass u v ⊎ ((u ≡ NullType) × TakesNull v))

  -- `==` takes two equal types other than nothing, a class and a base of it, or null and a type that takes null
  abbrev pub AreCompared : ValueType → ValueType → Type 0
  AreCompared u v = ((u ≡ Nothing) → ⊥) × (GoesTo u v ⊎ GoesTo v u)

  -- `?:` gives the type of one of the two, to which the other one's values go
  abbrev pub Join : ValueType → ValueType → ValueType → Type 0
  Join u v w = ((u ≡ w) ⊎ (v ≡ w)) × GoesTo u w × GoesTo v w

  -- what an operator between two operands takes and gives
  abbrev pub Works : ℕ → ValueType → ValueType → ValueType → Type 0
  Works op u v w =
      (IsOneOf op arithmetic_operators × (u ≡ Number) × (v ≡ Number) × (w ≡ Number))
      ⊎ ((IsOneOf op order_operators × (u ≡ Number) × (v ≡ Number) × (w ≡ Boolean))
      ⊎ (IsOneOf op equality_operators × AreCompared u v × (w ≡ Boolean)))

  -- a field of a class, by its number
  abbrev pub HasField : ℕ → ℕ → ValueType → Type 0
  HasField c f u = (class : ClassEntry) × HasClass c class × (entry class.fields f ≡ Some u)

  -- the function of a method or constructor: what it takes behind `this`, which is of a class at or above c, and what it gives
  abbrev pub IsMember : ℕ → ℕ → List ValueType → ValueType → Type 0
  IsMember c f params gives =
      (r : TypedRoutine) × (o : ℕ) × HasRoutine f r × (r.params ≡ Object o ∷ params) × IsBelow c o × (r.gives ≡ gives)

  -- the method in a slot of a class
  abbrev pub HasMethod : ℕ → ℕ → List ValueType → ValueType → Type 0
  HasMethod c s params gives =
      (class : ClassEntry) × (f : ℕ) × HasClass c class × (entry class.slots s ≡ Some f) × IsMember c f params gives

  -- a function with which an activity may begin: it takes nothing and gives nothing
  abbrev pub MayBegin : ℕ → Type 0
  MayBegin f = (r : TypedRoutine) × HasRoutine f r × (r.params ≡ []) × (r.gives ≡ Nothing)
