-- The numbers of declarations, kept by their owners and names.
use Rattle.std.specs.Prelude.{◌≡◌, ℕ, ◌==◌, Option, Some, None, List, slice_get, if◌then◌else◌}
use Rattle.std.specs.Option.{option_and_then, option_or}
use Rattle.std.specs.BTreeMap.{BTreeMap, get}
use Rattle.std.specs.Ordering.{nat_cmp}
use Rattle.sts_scope.specs.declared.entries.Owner.{Owner}
use Rattle.sts_scope.specs.declared.entries.Owner.TheVariants as o
use Rattle.sts_scope.specs.declared.entries.Entry.{Entry}
use Rattle.sts_scope.specs.declared.numbers.Numbers.{Numbers}
use Rattle.sts_scope.specs.Lookup.{entry_number}

-- the number of a name of a class's members
abbrev pub member_at : List (BTreeMap ℕ ℕ) → ℕ → ℕ → Option ℕ
member_at classes c x = option_and_then (λ numbers. get nat_cmp numbers x) (slice_get classes c)

-- the number of a name of an owner
abbrev pub number_at : Numbers → Owner → ℕ → Option ℕ
number_at numbers o.Whole x = get nat_cmp numbers.whole x
number_at numbers (o.Class c) x = member_at numbers.classes.items c x

-- a number was noted for a name, unless it had one
abbrev pub Notes : BTreeMap ℕ ℕ → BTreeMap ℕ ℕ → ℕ → ℕ → Type 0
Notes old new x d = (y : ℕ) → get nat_cmp new y ≡ option_or (get nat_cmp old y) (if x == y then Some d else None)

-- each name has the number of its first declaration, and a name that isn't declared has none
abbrev pub IsIndexed : Numbers → List Entry → Type 0
IsIndexed numbers entries = (owner : Owner) (x : ℕ) → number_at numbers owner x ≡ entry_number entries owner x
