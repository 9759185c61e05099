-- That 32 bits number what a text declares, since it has at most 65,536 bytes.
use Rattle.std.specs.Prelude.{ℕ, ◌+◌, ◌^◌, ◌<◌, ◌≤◌, ◌++◌, length}
use Rattle.sts_lexer.specs.Bytes.{most_bytes}
use Rattle.sts_syntax.specs.Programs.{Program}
use Rattle.sts_scope.specs.Entries.{Naming, class_names, entries_from}
use Rattle.sts_scope.specs.Rules.{maker_takes_of}
use Rattle.sts_scope.specs.Scopes.{all_entries}
use Rattle.text_sizes.specs.Numbered.{all_numbered}
use Rattle.typed_trees.specs.declared.build_places.Plan.{Plan}

-- a program has no more functions, parameters and locals, and no more declarations, than a text has bytes
pub record HasFewParts (p : Program) : Type 0 where
  pub numbers : all_numbered p ≤ most_bytes
  pub declarations : (names : Naming) (first : ℕ) → length (entries_from names first p) ≤ most_bytes

-- 32 bits number the functions, parameters and locals, with one more for `this`, the declarations and the classes of a library and a text
pub record AreFew (library text : Program) : Type 0 where
  pub numbers : 1 + (all_numbered library + all_numbered text) < 2 ^ 32
  pub declarations : length (all_entries library text) < 2 ^ 32
  pub classes : length (class_names (library ++ text)) < 2 ^ 32

-- and the parameters of each constructor, `this` among them
abbrev pub HasFewTakes : Plan → Type 0
HasFewTakes l = (class : ℕ) → 1 + length (maker_takes_of l.known.now.classes class) < 2 ^ 32
