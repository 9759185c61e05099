-- What the words may ask for.
use Rattle.std.specs.Prelude.{◌≤◌, ℕ, List, Bool, Option}
use Rattle.std.specs.Option.{option_map, ForSome}
use Rattle.sts_words.specs.declared.order.Order.{Order}
use Rattle.sts_words.specs.declared.order.Order.TheVariants.{Check, Build, Run, RunHex, RunAt, Class, Big}

-- what the words may ask for, with the names of files as bytes, the name of a script where one is given, that of arrivals, and a budget in instructions
pub data Asked : Type 0 where
  check_program : (name : List ℕ) → Asked
  build_program : (name : List ℕ) → Asked
  run_program : (name : List ℕ) (script : Option (List ℕ)) (budget : ℕ) (stats image : Bool) → Asked
  run_image : (name : List ℕ) (script : Option (List ℕ)) (budget : ℕ) → Asked
  run_at : (name script arrivals : List ℕ) (budget : ℕ) → Asked
  run_class : (name : List ℕ) (budget : ℕ) → Asked
  run_big : (size budget : ℕ) (stats : Bool) → Asked

-- what an order asks for
abbrev pub order_view : Order → Asked
order_view (Check name) = check_program name.now
order_view (Build name) = build_program name.now
order_view (Run program script budget stats image) =
    run_program program.now (option_map (λ name. name.now) script) budget stats image
order_view (RunHex image script budget) = run_image image.now (option_map (λ name. name.now) script) budget
order_view (RunAt program script arrivals budget) = run_at program.now script.now arrivals.now budget
order_view (Class name budget) = run_class name.now budget
order_view (Big size budget stats) = run_big size budget stats

-- the greatest budget of instructions, the one where none is given, and the greatest generated program
abbrev pub most_budget : ℕ
most_budget = 2147483648

abbrev pub default_budget : ℕ
default_budget = 50000000

abbrev pub most_size : ℕ
most_size = 200

abbrev pub IsBudget : ℕ → Type 0
IsBudget budget = (1 ≤ budget) × (budget ≤ most_budget)

-- a budget that is given is in range
abbrev pub HasBudget : Option ℕ → Type 0
HasBudget budget = ForSome budget IsBudget

-- the numbers of an order are in range
abbrev pub IsInRange : Order → Type 0
IsInRange (Run program script budget stats image) = IsBudget budget
IsInRange (RunHex image script budget) = IsBudget budget
IsInRange (RunAt program script arrivals budget) = IsBudget budget
IsInRange (Class name budget) = IsBudget budget
IsInRange (Big size budget stats) = ((1 ≤ size) × (size ≤ most_size)) × IsBudget budget
IsInRange _ = Unit {0}
