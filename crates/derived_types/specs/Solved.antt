-- What a library and a text declare, with all types derived.
use Rattle.std.specs.Prelude.{◌≡◌, ℕ}
use Rattle.sts_base.specs.declared.tables.Tables.{Tables}
use Rattle.sts_syntax.specs.Programs.{Program}
use Rattle.sts_scope.specs.declared.collect.Declared.{Declared}
use Rattle.sts_scope.specs.Values.{value_at}
use Rattle.sts_scope.specs.Scopes.{all_names, library_classes}
use Rattle.type_derive.specs.Derived.{known, AreDerived}

pub record IsSolved (tables : Tables) (library text : Program) (d : Declared) : Type 0 where
  pub names : (y : ℕ) → value_at d.classes.values.items y ≡ all_names library text y
  pub known_is : d.known ≡ known library text d.known.kinds
  pub first_class : d.first_class ≡ library_classes library text
  pub derived : AreDerived tables library text d.known.kinds
