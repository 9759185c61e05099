-- Names, bases and headings of a text behind a library: which declarations there are, and the first failure.
use Rattle.std.specs.Prelude.{ℕ, Bool, true, false, Option, List, [], ◌∷◌, ◌++◌, length, drop}
use Rattle.sts_syntax.specs.Programs.{Program}
use Rattle.sts_scope.specs.declared.kinds.StaticType.{StaticType}
use Rattle.sts_scope.specs.declared.entries.DeclarationKind.{DeclarationKind}
use Rattle.sts_scope.specs.declared.entries.DeclarationKind.TheVariants as sort
use Rattle.sts_scope.specs.declared.entries.Entry.{Entry}
use Rattle.sts_scope.specs.declared.entries.ClassHead.{ClassHead}
use Rattle.sts_scope.specs.Failures.{Failure, ◌then◌}
use Rattle.sts_scope.specs.Entries.{Naming, class_number, class_names, entries_from, heads_of, written_kinds}
use Rattle.sts_scope.specs.Globals.{names_failure}
use Rattle.sts_scope.specs.Bases.{bases_failure, chains_failure}
use Rattle.sts_scope.specs.Headings.{headings_failure}

-- which class a name stands for, all declarations and all classes, the library's first
abbrev pub all_names : Program → Program → Naming
all_names library text = class_number (class_names (library ++ text))

abbrev pub all_entries : Program → Program → List Entry
all_entries library text = entries_from (all_names library text) 0 (library ++ text)

abbrev pub all_classes : Program → Program → List ClassHead
all_classes library text = heads_of (all_names library text) (library ++ text)

abbrev pub all_kinds : Program → Program → List (Option StaticType)
all_kinds library text = written_kinds (all_names library text) (library ++ text)

-- how many of them are the library's
abbrev pub library_entries : Program → Program → ℕ
library_entries library text = length (entries_from (all_names library text) 0 library)

abbrev pub library_classes : Program → Program → ℕ
library_classes library text = length (class_names library)

-- The first failure of names, else of bases, else of headings: of a text before which stand d declarations and c
-- classes.
abbrev pub passes : List (List ℕ) → Program → Naming → List Entry → List ClassHead → ℕ → ℕ → Option Failure
passes spellings text names entries classes d c =
    names_failure spellings entries d (drop d entries) then bases_failure (drop c classes)
    then chains_failure classes c (drop c classes)
    then headings_failure spellings names entries classes c d text

-- The spellings are those of the table of names. The library's own are never refused.
abbrev pub heading_refusal : List (List ℕ) → Program → Program → Option Failure
heading_refusal spellings library text =
    passes spellings text (all_names library text) (all_entries library text) (all_classes library text)
    (library_entries library text) (library_classes library text)

-- the names of those of a sort, in text order
abbrev pub is_global : DeclarationKind → Bool
is_global (sort.Global fixed) = true
is_global _ = false

abbrev pub is_function : DeclarationKind → Bool
is_function sort.Function = true
is_function _ = false

abbrev pub is_class : DeclarationKind → Bool
is_class (sort.Class c) = true
is_class _ = false

abbrev pub names_of : (DeclarationKind → Bool) → List Entry → List ℕ
names_of which [] = []
names_of which (e ∷ rest) = elim (which e.sort) [ true ↦ e.name ∷ names_of which rest | false ↦ names_of which rest ]
