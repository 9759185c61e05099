-- Values, and what operators make of them.
use Rattle.std.specs.Prelude.{ℕ, zero, ◌/◌, ◌%◌, ◌^◌, ℤ, pos, ◌+ℤ◌, ◌-ℤ◌, ◌*ℤ◌, int_lt, int_le, int_rem, Bool, true, false, not, if◌then◌else◌, nat_eq, ◌==◌, Option, Some, None}
use Rattle.std.specs.Ordering.{int_eq}
use Rattle.std.specs.Int.{int_wrap, int_bit_and, int_bit_or, int_bit_xor, int_bit_not, int_shl, int_shr, int_wrapping_div, cast_signed, cast_unsigned, w32}
use Rattle.sts_syntax.specs.declared.operators.TheConstants.{NEGATE, PLUS, NOT, COMPLEMENT, BIT_OR, BIT_XOR, BIT_AND, EQUAL, UNEQUAL, LESS, GREATER, AT_MOST, AT_LEAST, SHIFT_LEFT, SHIFT_RIGHT, SHIFT_RIGHT_UNSIGNED, ADD, SUBTRACT, MULTIPLY, DIVIDE, REMAINDER}

-- A value has a tag: a number, the number of an object or array, of a text, or of a function. Truth values are 1 and 0; null is 0, and
-- so is what each name, field and item holds before it is set.
pub data Value : Type 0 where
  Whole : (n : ℤ) → Value
  Object : (number : ℕ) → Value  -- the words of the arena that were in use before it was made
  Text : (text : ℕ) → Value
  Code : (function : ℕ) → Value

abbrev pub default : Value
default = Whole (pos 0)

abbrev pub truth : Bool → Value
truth true = Whole (pos 1)
truth false = Whole (pos 0)

-- What comes of an operation: what it gives, a panic, or nothing, where its operands have the wrong tags. No well-typed program gets there.
pub data Outcome (X : Type 0) : Type 0 where
  Gives : (x : X) → Outcome X
  Breaks : (code : ℕ) → Outcome X
  Stuck : Outcome X

abbrev pub then_gives : {X Y : Type 0} → Outcome X → (X → Outcome Y) → Outcome Y
then_gives (Gives x) f = f x
then_gives (Breaks code) f = Breaks code
then_gives Stuck f = Stuck

-- what is there, and stuck where it isn't
abbrev pub there : {X : Type 0} → Option X → Outcome X
there None = Stuck
there (Some x) = Gives x

abbrev pub whole : Value → Outcome ℤ
whole (Whole n) = Gives n
whole v = Stuck

-- ToInt32 of a whole number (ECMA-262, 7.1.6): modulo 2^32, into -2^31 to 2^31 - 1
abbrev pub to_int32 : ℤ → ℤ
to_int32 n = int_wrap w32 n

-- a shift's count, modulo 32
abbrev pub shift_count : ℤ → ℕ
shift_count n = cast_unsigned w32 n % 32

-- the quotient truncated toward zero and through ToInt32, and the remainder, which has the dividend's sign; both are 0 where the divisor is
abbrev pub quotient : ℤ → ℤ → ℤ
quotient x y = if int_eq y (pos 0) then pos 0 else int_wrapping_div w32 x y

abbrev pub remainder : ℤ → ℤ → ℤ
remainder x y = if int_eq y (pos 0) then pos 0 else int_rem x y

-- The operators that take two numbers of 32 bits and give one, by their numbers: ECMA-262's (6.1.6.1) followed by `| 0`, but `*` is
-- `Math.imul`, without rounding.
abbrev pub arithmetic : ℕ → ℤ → ℤ → Option ℤ
arithmetic op x y =
    if op == BIT_OR then Some (int_bit_or w32 x y)
    else if op == BIT_XOR then Some (int_bit_xor w32 x y)
    else if op == BIT_AND then Some (int_bit_and w32 x y)
    else if op == SHIFT_LEFT then Some (int_shl w32 x (shift_count y))
    else if op == SHIFT_RIGHT then Some (int_shr x (shift_count y))
    else if op == SHIFT_RIGHT_UNSIGNED then Some (cast_signed w32 (cast_unsigned w32 x / 2 ^ shift_count y))
    else if op == ADD then Some (to_int32 (x +ℤ y))
    else if op == SUBTRACT then Some (to_int32 (x -ℤ y))
    else if op == MULTIPLY then Some (to_int32 (x *ℤ y))
    else if op == DIVIDE then Some (quotient x y)
    else if op == REMAINDER then Some (remainder x y)
    else None

-- those that put two numbers in order
abbrev pub order : ℕ → ℤ → ℤ → Option Bool
order op x y =
    if op == LESS then Some (int_lt x y)
    else if op == GREATER then Some (int_lt y x)
    else if op == AT_MOST then Some (int_le x y)
    else if op == AT_LEAST then Some (int_le y x)
    else None

-- Whether two values are the same one. Texts are so by number, since tables have no text twice; nothing but null is compared with an
-- object or a text.
abbrev pub same : Value → Value → Outcome Bool
same (Whole a) (Whole b) = Gives (int_eq a b)
same (Object a) (Object b) = Gives (a == b)
same (Text a) (Text b) = Gives (a == b)
same (Whole (pos zero)) (Object b) = Gives false
same (Whole (pos zero)) (Text b) = Gives false
same (Object a) (Whole (pos zero)) = Gives false
same (Text a) (Whole (pos zero)) = Gives false
same a b = Stuck

-- the first of two options that is there
abbrev pub either_value : Option ℤ → Option Bool → Outcome Value
either_value (Some n) o = Gives (Whole n)
either_value None (Some b) = Gives (truth b)
either_value None None = Stuck

abbrev pub of_numbers : ℕ → Value → Value → Outcome Value
of_numbers op a b =
    then_gives (whole a) (λ x. then_gives (whole b) (λ y. either_value (arithmetic op x y) (order op x y)))

-- an operator between two operands
abbrev pub applied : ℕ → Value → Value → Outcome Value
applied op a b =
    if op == EQUAL then then_gives (same a b) (λ e. Gives (truth e))
    else if op == UNEQUAL then then_gives (same a b) (λ e. Gives (truth (not e)))
    else of_numbers op a b

-- the prefix operators: `-`, `+`, `!`, `~`
abbrev pub prefixed : ℕ → ℤ → Option Value
prefixed op x =
    if op == NEGATE then Some (Whole (to_int32 (pos 0 -ℤ x)))
    else if op == PLUS then Some (Whole x)
    else if op == NOT then Some (truth (int_eq x (pos 0)))
    else if op == COMPLEMENT then Some (Whole (int_bit_not w32 x))
    else None

-- one of them before its operand
abbrev pub applied_before : ℕ → Value → Outcome Value
applied_before op a = then_gives (whole a) (λ x. there (prefixed op x))

-- `++` and `--`: the number that is stored, and the one that is the expression's value
pub record Bumped : Type 0 where
  pub new : Value
  pub given : Value

-- the value is the old number, through ToInt32, where the mark stands after its target
abbrev pub bumped : ℤ → Bool → Value → Outcome Bumped
bumped by late a =
    then_gives (whole a) (λ x.
    (let y = Whole (to_int32 (x +ℤ by)) in Gives (record { new = y; given = if late then Whole (to_int32 x) else y })))

-- what a condition decides
abbrev pub decided : Value → Outcome Bool
decided a = then_gives (whole a) (λ x. Gives (not (int_eq x (pos 0))))

-- a map with one entry changed
abbrev pub with_entry : {X : Type 0} → ℕ → X → (ℕ → X) → ℕ → X
with_entry i v m j = if nat_eq j i then v else m j
