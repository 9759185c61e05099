-- The names of a text's globals, functions and classes: none begins with `$`, and none is a second one.
use Rattle.std.specs.Prelude.{ℕ, ◌+◌, Bool, false, not, ◌==◌, Option, Some, None, List, [], ◌∷◌, get_or, slice_get}
use Rattle.sts_base.specs.declared.refused.Code.TheVariants.{UnknownName, TwiceNamed}
use Rattle.sts_scope.specs.declared.entries.Owner.{Owner}
use Rattle.sts_scope.specs.declared.entries.Owner.TheVariants as o
use Rattle.sts_scope.specs.declared.entries.Entry.{Entry}
use Rattle.sts_scope.specs.Failures.{Failure, ◌then◌, unless}
use Rattle.sts_scope.specs.Lookup.{is_second}

-- a name of the library's kind, by the table of names: its first byte is 36, `$`
abbrev pub is_dollar : List (List ℕ) → ℕ → Bool
is_dollar names x = elim (slice_get names x) [ None ↦ false | Some bytes ↦ get_or bytes 0 0 == 36 ]

-- a declared name, which may be a second one; members are none of these names
abbrev pub name_failure : List (List ℕ) → Owner → ℕ → ℕ → Bool → Option Failure
name_failure names o.Whole x at second =
    unless (not (is_dollar names x)) UnknownName at then unless (not second) TwiceNamed at
name_failure names (o.Class c) x at second = None

-- the first failure from the d-th declaration on, in text order
abbrev pub names_failure : List (List ℕ) → List Entry → ℕ → List Entry → Option Failure
names_failure names entries d [] = None
names_failure names entries d (e ∷ rest) =
    name_failure names e.owner e.name e.at (is_second entries d e.owner e.name)
    then names_failure names entries (d + 1) rest
