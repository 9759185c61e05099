-- The bases of classes: each is known, and no chain of them comes back.
use Rattle.std.specs.Prelude.{ℕ, zero, suc, ◌+◌, Bool, not, Option, Some, None, List, [], ◌∷◌, length, is_some}
use Rattle.std.specs.Option.{option_and_then}
use Rattle.sts_base.specs.declared.refused.Code.TheVariants.{UnknownName, ClassCycle}
use Rattle.sts_scope.specs.declared.entries.ClassHead.{ClassHead}
use Rattle.sts_scope.specs.Failures.{Failure, ◌then◌, unless, own}
use Rattle.sts_scope.specs.Lookup.{base_of}

-- a base that is written is a class
abbrev pub base_failure : ClassHead → Option Failure
base_failure class = elim class.base_name [ None ↦ None | Some x ↦ own class.base UnknownName class.base_at ]

abbrev pub bases_failure : List ClassHead → Option Failure
bases_failure [] = None
bases_failure (class ∷ rest) = base_failure class then bases_failure rest

-- the class that is n bases above, if there are so many
abbrev pub above : List ClassHead → ℕ → ℕ → Option ℕ
above classes zero c = Some c
above classes (suc n) c = option_and_then (above classes n) (base_of classes c)

-- The chain of a class goes on for as many bases as there are classes: exactly then it comes back
-- (`endless_chains_come_back` in crates/typed_laws).
abbrev pub is_endless : List ClassHead → ℕ → Bool
is_endless classes c = is_some (above classes (length classes) c)

abbrev pub chain_failure : List ClassHead → ℕ → ClassHead → Option Failure
chain_failure classes c class = unless (not (is_endless classes c)) ClassCycle class.at

-- the first failure from the class c on
abbrev pub chains_failure : List ClassHead → ℕ → List ClassHead → Option Failure
chains_failure classes c [] = None
chains_failure classes c (class ∷ rest) = chain_failure classes c class then chains_failure classes (c + 1) rest
