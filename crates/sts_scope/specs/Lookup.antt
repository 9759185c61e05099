-- Which declaration a name stands for: of the whole text, and of a class with its bases.
use Rattle.std.specs.Prelude.{ℕ, zero, suc, Bool, true, false, ◌&&◌, ◌==◌, Option, Some, None, List, length, slice_get, take, is_some}
use Rattle.std.specs.Option.{option_and_then, option_map}
use Rattle.std.specs.List.{position_from}
use Rattle.sts_scope.specs.declared.entries.Owner.{Owner}
use Rattle.sts_scope.specs.declared.entries.Owner.TheVariants as o
use Rattle.sts_scope.specs.declared.entries.DeclarationKind.{DeclarationKind}
use Rattle.sts_scope.specs.declared.entries.DeclarationKind.TheVariants as sort
use Rattle.sts_scope.specs.declared.entries.Entry.{Entry}
use Rattle.sts_scope.specs.declared.entries.ClassHead.{ClassHead}

abbrev pub same_owner : Owner → Owner → Bool
same_owner o.Whole o.Whole = true
same_owner (o.Class c) (o.Class d) = c == d
same_owner _ _ = false

-- a declaration of this name of the text or of this class
abbrev pub declares : Owner → ℕ → Entry → Bool
declares owner x e = same_owner e.owner owner && (e.name == x)

-- the number of the first one
abbrev pub entry_number : List Entry → Owner → ℕ → Option ℕ
entry_number entries owner x = position_from (declares owner x) 0 entries

-- before the d-th declaration stands one of this name of the same owner
abbrev pub is_second : List Entry → ℕ → Owner → ℕ → Bool
is_second entries d owner x = is_some (entry_number (take d entries) owner x)

-- the base of a class
abbrev pub base_of : List ClassHead → ℕ → Option ℕ
base_of classes c = option_and_then (λ class. class.base) (slice_get classes c)

-- A member of a class: its own one of this name, else that of the nearest base that has one
-- (`members_are_of_the_nearest` in crates/typed_laws, without a count).
abbrev pub member_from : List Entry → List ClassHead → ℕ → ℕ → ℕ → Option ℕ
member_from entries classes zero c x = None
member_from entries classes (suc n) c x =
    elim (entry_number entries (o.Class c) x) [
      | Some d ↦ Some d
      | None ↦ option_and_then (λ b. member_from entries classes n b x) (base_of classes c)
    ]

abbrev pub member_number : List Entry → List ClassHead → ℕ → ℕ → Option ℕ
member_number entries classes c x = member_from entries classes (length classes) c x

-- that of the nearest base
abbrev pub inherited : List Entry → List ClassHead → ℕ → ℕ → Option ℕ
inherited entries classes c x = option_and_then (λ b. member_number entries classes b x) (base_of classes c)

abbrev pub sort_of : List Entry → ℕ → Option DeclarationKind
sort_of entries d = option_map (λ e. e.sort) (slice_get entries d)

abbrev pub is_field : Option DeclarationKind → Bool
is_field (Some sort.Field) = true
is_field _ = false

-- a base has a field of this name
abbrev pub inherits_field : List Entry → List ClassHead → ℕ → ℕ → Bool
inherits_field entries classes c x =
    elim (inherited entries classes c x) [ None ↦ false | Some d ↦ is_field (sort_of entries d) ]
