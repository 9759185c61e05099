-- Types of values, without pointers.
use Rattle.std.specs.Prelude.{ℕ, List, [], ◌∷◌}
use Rattle.sts_syntax.specs.declared.types.BaseType.{BaseType}
use Rattle.sts_syntax.specs.declared.types.BaseType.TheVariants as base
use Rattle.sts_syntax.specs.declared.types.Ty.{Ty}
use Rattle.sts_syntax.specs.Layered.{layered}

-- The type of a value. `Nothing` is that of a call without a result, and `NullType` that of `null` alone.
pub data ValueType : Type 0 where
  Number : ValueType
  Boolean : ValueType
  Text : ValueType
  Nothing : ValueType
  Object : (class : ℕ) → ValueType
  ListOf : (item : ValueType) → ValueType
  NullType : ValueType

-- what a base in memory stands for
abbrev pub plain_type : BaseType → ValueType
plain_type base.Number = Number
plain_type base.Boolean = Boolean
plain_type base.Text = Text
plain_type base.Nothing = Nothing
plain_type (base.Class class) = Object class
plain_type base.Null = NullType

-- what a `Ty` in memory stands for
abbrev pub value_type : Ty → ValueType
value_type t = layered ListOf t.depth (plain_type t.base)

abbrev pub value_types : List Ty → List ValueType
value_types [] = []
value_types (t ∷ rest) = value_type t ∷ value_types rest
