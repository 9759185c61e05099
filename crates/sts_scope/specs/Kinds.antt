-- Types as names and calls are given them: a base, and how many `[]` stand behind it.
use Rattle.std.specs.Prelude.{ℕ, ◌+◌, ◌-◌, Bool, true, false, not, ◌&&◌, ◌||◌, ◌==◌, nat_lt, if◌then◌else◌, Option, Some, None, List, [], ◌∷◌}
use Rattle.sts_syntax.specs.Types as t
use Rattle.sts_syntax.specs.Layered.{layered}
use Rattle.sts_syntax.specs.Types.{ValueType, ListOf}
use Rattle.sts_scope.specs.declared.kinds.Base.{Base}
use Rattle.sts_scope.specs.declared.kinds.Base.TheVariants as b
use Rattle.sts_scope.specs.declared.kinds.StaticType.{StaticType}

abbrev pub flat : Base → StaticType
flat base = record { base = base; depth = 0 }

abbrev pub number : StaticType
number = flat b.Number

abbrev pub boolean : StaticType
boolean = flat b.Boolean

abbrev pub text : StaticType
text = flat b.Text

abbrev pub nothing : StaticType
nothing = flat b.Nothing

abbrev pub null : StaticType
null = flat b.Null

-- what `[]` has where a type is given
abbrev pub empty : StaticType
empty = flat b.Empty

abbrev pub object : ℕ → StaticType
object c = flat (b.Class c)

-- one `[]` more
abbrev pub array : StaticType → StaticType
array t = record { base = t.base; depth = t.depth + 1 }

-- how many `[]` a type has at most
abbrev pub most_brackets : ℕ
most_brackets = 4294967295

-- the type of an array of items of a type: a type of more `[]` isn't known
abbrev pub array_of : StaticType → Option StaticType
array_of t = if nat_lt t.depth most_brackets then Some (array t) else None

-- the type of an array's items
abbrev pub item : StaticType → StaticType
item t = record { base = t.base; depth = t.depth - 1 }

abbrev pub same_base : Base → Base → Bool
same_base b.Number b.Number = true
same_base b.Boolean b.Boolean = true
same_base b.Text b.Text = true
same_base b.Nothing b.Nothing = true
same_base b.Null b.Null = true
same_base b.Empty b.Empty = true
same_base (b.Class m) (b.Class n) = m == n
same_base _ _ = false

-- the same type
unfoldable pub same : StaticType → StaticType → Bool
same s t = same_base s.base t.base && (s.depth == t.depth)

unfoldable pub is_array : StaticType → Bool
is_array t = not (t.depth == 0)

abbrev pub base_class : Base → Option ℕ
base_class (b.Class n) = Some n
base_class _ = None

-- the number of the class of an object
unfoldable pub class_of : StaticType → Option ℕ
class_of t = elim (t.depth == 0) [ true ↦ base_class t.base | false ↦ None ]

abbrev pub base_takes_null : Base → Bool
base_takes_null b.Text = true
base_takes_null (b.Class n) = true
base_takes_null _ = false

-- null goes to a text, an object and an array
unfoldable pub takes_null : StaticType → Bool
takes_null t = is_array t || base_takes_null t.base

-- The type of values that it is. `[]` has the type of its place, so that `Empty` is none.
abbrev pub base_type : Base → ValueType
base_type b.Number = t.Number
base_type b.Boolean = t.Boolean
base_type b.Text = t.Text
base_type b.Nothing = t.Nothing
base_type b.Null = t.NullType
base_type b.Empty = t.Nothing
base_type (b.Class c) = t.Object c

abbrev pub value_type : StaticType → ValueType
value_type t = layered ListOf t.depth (base_type t.base)

abbrev pub value_types : List StaticType → List ValueType
value_types [] = []
value_types (t ∷ ts) = value_type t ∷ value_types ts
