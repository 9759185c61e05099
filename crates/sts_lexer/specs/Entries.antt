-- A map that gives the number of each string of a table.
use Rattle.std.specs.Prelude.{◌≡◌, ◌≢◌, ℕ, List, Option, Some, MatchOption, slice_get, if◌then◌else◌}
use Rattle.std.specs.BTreeMap.{BTreeMap, get_by}
use Rattle.std.specs.Cmp.Lexicographic.{slice_cmp}
use Rattle.std.specs.Ordering.{nat_cmp}
use Rattle.std.specs.Str.{bytes_eq}
use Rattle.std.specs.declared.vec.Vec.{Vec}
use Rattle.sts_base.specs.Distinct.{IsDistinct}
use Rattle.sts_base.specs.declared.tables.Tables.{Tables}
use Rattle.sts_lexer.specs.declared.entries.Index.{Index}

-- no place of a table holds the string
abbrev pub Lacks : List (List ℕ) → List ℕ → Type 0
Lacks strings string = (entry : ℕ) → slice_get strings entry ≢ Some string

-- the number that a map holds for a string
abbrev pub entry_in : {A : Type 0} → BTreeMap (Vec ℕ A) ℕ → List ℕ → Option ℕ
entry_in entries string = get_by (λ key. slice_cmp nat_cmp string key.items) entries

-- The map has the number of each string of the table, and no other string.
abbrev pub Indexes : {A : Type 0} → BTreeMap (Vec ℕ A) ℕ → List (List ℕ) → Type 0
Indexes entries strings =
    (string : List ℕ)
    → MatchOption (entry_in entries string) (Lacks strings string) (λ entry. slice_get strings entry ≡ Some string)

-- The new map has this number at the string, and at others what the old one has.
abbrev pub Notes : {A : Type 0} → BTreeMap (Vec ℕ A) ℕ → BTreeMap (Vec ℕ A) ℕ → List ℕ → ℕ → Type 0
Notes old new string entry =
    (other : List ℕ) → entry_in new other ≡ (if bytes_eq string other then Some entry else entry_in old other)

-- What stands between tokens of the tables and of the numbers that are kept beside them: each table has distinct
-- strings, and the number of each is known.
pub record IsIndexed (tables : Tables) (index : Index) : Type 0 where
  pub distinct_names : IsDistinct tables.names
  pub distinct_texts : IsDistinct tables.texts
  pub names : Indexes index.names tables.names
  pub texts : Indexes index.texts tables.texts
