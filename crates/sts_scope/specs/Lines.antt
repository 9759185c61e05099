-- The lines of classes: of each class itself, its base, the base's base, and so on, kept by maps.
use Rattle.std.specs.Prelude.{◌≡◌, ℕ, ◌≤◌, Bool, true, false, Option, Some, None, List, [], ◌∷◌, slice_get, is_some, get_or, set}
use Rattle.std.specs.Option.{option_and_then, option_flatten, option_map_or, unwrap_or}
use Rattle.persistent_maps.specs.declared.maps.PersistentMap.{Empty}
use Rattle.persistent_maps.specs.Maps.{value_in}
use Rattle.sts_scope.specs.declared.kinds.StaticType.{StaticType}
use Rattle.sts_scope.specs.declared.entries.Entry.{Entry}
use Rattle.sts_scope.specs.declared.entries.ClassHead.{ClassHead}
use Rattle.sts_scope.specs.declared.lines.Line.{Line}
use Rattle.sts_scope.specs.Lookup.{base_of, member_from}
use Rattle.sts_scope.specs.Bases.{above as class_above}
use Rattle.sts_scope.specs.Rules.{reaches, maker_from}

-- what the written constructor of a class takes, if there is one
abbrev pub takes_of : List ClassHead → Option ℕ → List StaticType
takes_of classes maker =
    option_map_or (λ m. option_map_or (λ class. unwrap_or class.takes []) (slice_get classes m) []) maker []

-- A line of so many classes, from a class on or of none: up to as many bases above it, or more, its maps have what the
-- rules give.
pub record IsLine (entries : List Entry) (classes : List ClassHead) (c : Option ℕ) (line : Line) : Type 0 where
  pub ends : (n : ℕ) → line.len ≤ n → option_and_then (class_above classes n) c ≡ None
  pub reached : (n m : ℕ) → line.len ≤ n → option_map_or (λ b. reaches classes n b m) c false
      ≡ is_some (value_in line.classes m)
  pub member : (n x : ℕ) → line.len ≤ n → option_and_then (λ b. member_from entries classes n b x) c
      ≡ value_in line.members x
  pub maker : (n : ℕ) → line.len ≤ n → option_map_or (maker_from classes n) c [] ≡ takes_of classes line.maker

-- the line of a class, where it is known
abbrev pub at : List (Option Line) → ℕ → Option Line
at lines c = option_flatten (slice_get lines c)

abbrev pub AreLines : List Entry → List ClassHead → List (Option Line) → Type 0
AreLines entries classes lines = (c : ℕ) (line : Line) → at lines c ≡ Some line → IsLine entries classes (Some c) line

-- From a class on, if there is one: classes that weren't seen and are now, each the base of the one before it, up to
-- one that was seen or has no base.
abbrev pub GoesUp : List ClassHead → List Bool → List Bool → Option ℕ → List ℕ → Type 0
GoesUp classes old new None [] = new ≡ old
GoesUp classes old new None (d ∷ rest) = ⊥
GoesUp classes old new (Some c) [] = (get_or old c true ≡ true) × (new ≡ old)
GoesUp classes old new (Some c) (d ∷ rest) =
    (d ≡ c) × (get_or old c true ≡ false) × GoesUp classes (set old c true) new (base_of classes c) rest

-- that of no class
abbrev pub no_line : Line
no_line = record { len = 0; classes = Empty; members = Empty; maker = None }

-- the nearest class with a written constructor, where the base's is known
abbrev pub nearest_maker : ClassHead → ℕ → Option ℕ → Option ℕ
nearest_maker class c up = elim class.takes [ None ↦ up | Some takes ↦ Some c ]
