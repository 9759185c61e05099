-- What a class has of those above it. No count bounds the way up here.
use Rattle.std.specs.Prelude.{◌≡◌, ℕ, suc, ◌<◌, Option, Some, None, List, length, slice_get}
use Rattle.sts_scope.specs.declared.kinds.StaticType.{StaticType}
use Rattle.sts_scope.specs.declared.entries.Owner.TheVariants as o
use Rattle.sts_scope.specs.declared.entries.Entry.{Entry}
use Rattle.sts_scope.specs.declared.entries.ClassHead.{ClassHead}
use Rattle.sts_scope.specs.Bases.{above}
use Rattle.sts_scope.specs.Lookup.{entry_number, base_of}

-- each base is a class of the list
abbrev pub BasesAreClasses : List ClassHead → Type 0
BasesAreClasses classes = (c b : ℕ) → base_of classes c ≡ Some b → b < length classes

-- a is the class c, or its base, or the base of that, and so on
abbrev pub HasAbove : List ClassHead → ℕ → ℕ → Type 0
HasAbove classes c a = (n : ℕ) × (above classes n c ≡ Some a)

-- the chain of a class comes back: the class, or one above it, is above itself
abbrev pub ComesBack : List ClassHead → ℕ → Type 0
ComesBack classes c = (a : ℕ) × HasAbove classes c a × (n : ℕ) × (above classes (suc n) a ≡ Some a)

-- of a class and those above it, the nearest that has something has this
abbrev pub IsNearest : {A : Type 0} → List ClassHead → (ℕ → Option A) → ℕ → A → Type 0
IsNearest classes has c it =
    (n a : ℕ) × (above classes n c ≡ Some a) × (has a ≡ Some it)
    × ((m b : ℕ) → m < n → above classes m c ≡ Some b → has b ≡ None)

-- the member of this name, by its number among the declarations: the class's own one, else that of the nearest class above it that declares one
abbrev pub IsMemberOf : List Entry → List ClassHead → ℕ → ℕ → ℕ → Type 0
IsMemberOf entries classes c x d = IsNearest classes (λ a. entry_number entries (o.Class a) x) c d

-- what a class's own constructor takes, where one is written
abbrev pub own_maker_takes : List ClassHead → ℕ → Option (List StaticType)
own_maker_takes classes c = elim (slice_get classes c) [ None ↦ None | Some class ↦ class.takes ]
