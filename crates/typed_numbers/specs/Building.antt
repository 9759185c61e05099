-- What the builder of typed trees keeps, as the definitions see it.
use Rattle.std.specs.Prelude.{ℕ, zero, suc, Bool, Option, Some, None, List, [], ◌∷◌, ◌++◌, ◌+◌, length, if◌then◌else◌}
use Rattle.sts_scope.specs.declared.entries.DeclarationKind.{DeclarationKind}
use Rattle.sts_scope.specs.declared.entries.Entry.{Entry}
use Rattle.sts_scope.specs.declared.known.Known.{Known}
use Rattle.sts_scope.specs.Scopes.{is_global}
use Rattle.sts_scope.specs.Lookup.{base_of, is_field}
use Rattle.sts_scope.specs.Numbers.{Numbering, is_method, names_from}
use Rattle.typed_numbers.specs.declared.routine_numbers.Numbers.{Numbers}
use Rattle.typed_numbers.specs.declared.member_names.Members.{Members}
use Rattle.typed_numbers.specs.declared.member_names.Members.TheVariants.{Fields, Methods}

abbrev pub numbering_of : Numbers → Numbering
numbering_of n = record { routines = n.routines; makers = n.makers }

-- a class's fields, or its methods
abbrev pub picks : Members → Option DeclarationKind → Bool
picks Fields = is_field
picks Methods = is_method

-- A class and its bases, the nearest first: not more than there are classes.
abbrev pub chain_from : Known → ℕ → ℕ → List ℕ
chain_from k zero c = []
chain_from k (suc n) c = c ∷ elim (base_of k.classes c) [ None ↦ [] | Some b ↦ chain_from k n b ]

-- the names of each of the first classes
abbrev pub names_upto : (Option DeclarationKind → Bool) → Known → ℕ → List (List ℕ)
names_upto which k zero = []
names_upto which k (suc n) = names_upto which k n ++ names_from which k (length k.classes) n ∷ []

-- how many globals are declared before each declaration, and before the end, counted on from a number
abbrev pub globals_from : ℕ → List Entry → List ℕ
globals_from n [] = n ∷ []
globals_from n (e ∷ rest) = n ∷ globals_from (if is_global e.sort then n + 1 else n) rest
