-- Where what a text declares stands among all declarations.
use Rattle.std.specs.Prelude.{◌≡◌, ℕ, List, ◌++◌, length, take}
use Rattle.sts_syntax.specs.Programs.{TopLevel, Program}
use Rattle.sts_scope.specs.declared.entries.Entry.{Entry}
use Rattle.sts_scope.specs.declared.collect.Declared.{Declared}
use Rattle.sts_scope.specs.Values.{value_at}
use Rattle.sts_scope.specs.Entries.{Naming, item_entries, entries_from}
use Rattle.sts_scope.specs.Scopes.{is_class, names_of}

-- how many classes are declared before the d-th declaration
abbrev pub classes_before : List Entry → ℕ → ℕ
classes_before entries d = length (names_of is_class (take d entries))

-- these declarations stand among all, behind d others
pub record AreDeclaredFrom (d : ℕ) (some all : List Entry) : Type 0 where
  pub before : List Entry
  pub behind : List Entry
  pub counted : d ≡ length before
  pub split : all ≡ before ++ some ++ behind

-- what a part of a text declares is the d-th declaration and those behind it
abbrev pub IsItemAt : Naming → List Entry → ℕ → TopLevel → Type 0
IsItemAt names entries d i = AreDeclaredFrom d (item_entries names (classes_before entries d) i) entries

-- and the same of several parts
abbrev pub IsTextAt : Naming → List Entry → ℕ → Program → Type 0
IsTextAt names entries d text = AreDeclaredFrom d (entries_from names (classes_before entries d) text) entries

-- what a text declares stands behind what the library declares, and that many classes are the library's
pub record IsTextDeclared (text : Program) (d : Declared) : Type 0 where
  pub first_class : d.first_class ≡ classes_before d.known.entries d.known.library
  pub declared : IsTextAt (value_at d.classes.values.items) d.known.entries d.known.library text
