-- What is known of a library and a text before types are derived.
use Rattle.std.specs.Prelude.{◌≡◌, ◌≤◌, ℕ, length}
use Rattle.sts_syntax.specs.Programs.{Program}
use Rattle.sts_scope.specs.declared.collect.Declared.{Declared}
use Rattle.sts_scope.specs.Values.{value_at}
use Rattle.sts_scope.specs.Scopes.{all_names, all_entries, all_classes, all_kinds, library_entries, library_classes}

pub record IsDeclared (library text : Program) (d : Declared) : Type 0 where
  pub names : (y : ℕ) → value_at d.classes.values.items y ≡ all_names library text y
  pub entries : d.known.entries ≡ all_entries library text
  pub classes : d.known.classes ≡ all_classes library text
  pub kinds : d.known.kinds ≡ all_kinds library text
  pub counted : d.known.library ≡ library_entries library text
  pub first_class : d.first_class ≡ library_classes library text
  pub library_within : d.known.library ≤ length d.known.entries
  pub classes_within : d.first_class ≤ length d.known.classes
