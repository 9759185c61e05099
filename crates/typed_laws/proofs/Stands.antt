-- What a typed program has of the declarations that are known.
use Rattle.std.specs.Prelude.{◌≡◌, ℕ, Bool, true, false, Some, List, [], ◌∷◌}
use Rattle.sts_base.specs.declared.tables.Tables.{Tables}
use Rattle.sts_syntax.specs.Types as t
use Rattle.sts_syntax.specs.BoardTable as board
use Rattle.sts_syntax.specs.BoardTable.{row_of}
use Rattle.sts_syntax.specs.declared.board_calls.BoardCall.{BoardCall}
use Rattle.sts_syntax.specs.TypedTrees.{TypedRoutine, ClassEntry, TypedProgram}
use Rattle.sts_syntax.specs.TypeRules.{entry, HasClass, HasRoutine, HasField, IsMember, HasMethod}
use Rattle.sts_scope.specs.declared.kinds.Base.{Base}
use Rattle.sts_scope.specs.declared.kinds.Base.TheVariants as b
use Rattle.sts_scope.specs.declared.kinds.StaticType.{StaticType}
use Rattle.sts_scope.specs.declared.entries.DeclarationKind.TheVariants as sort
use Rattle.sts_scope.specs.declared.known.Known.{Known}
use Rattle.sts_scope.specs.declared.known.Part.TheVariants as part
use Rattle.sts_scope.specs.declared.known.This.TheVariants as this
use Rattle.sts_scope.specs.Kinds.{value_type, value_types}
use Rattle.sts_scope.specs.Lookup.{base_of, sort_of}
use Rattle.sts_scope.specs.Rules.{class_part, kind_at, takes_at, maker_takes_of}
use Rattle.type_derive.specs.Typing.{super_method}
use Rattle.typed_laws.specs.Libraries.{taken}
use Rattle.sts_scope.specs.Numbers.{Numbering, global_number, field_names, slot_names, place_among, routine_number}

-- a type that values have: `[]` alone has none
abbrev pub is_proper_base : Base → Bool
is_proper_base b.Empty = false
is_proper_base _ = true

abbrev pub IsProper : StaticType → Type 0
IsProper u = is_proper_base u.base ≡ true

abbrev pub EachProper : List StaticType → Type 0
EachProper [] = Unit {0}
EachProper (u ∷ us) = IsProper u × EachProper us

pub record Stands (tables : Tables) (k : Known) (numbers : Numbering) (P : TypedProgram) : Type 0 where
  pub bases : (c b : ℕ) → base_of k.classes c ≡ Some b → (class : ClassEntry) × HasClass P c class
      × (class.base ≡ Some b)
  pub globals : (d : ℕ) (fixed : Bool) (u : StaticType) → sort_of k.entries d ≡ Some (sort.Global fixed)
      → kind_at k d ≡ Some u → entry P.globals (global_number k d) ≡ Some (value_type u)
  pub fields : (c m d : ℕ) (u : StaticType) → class_part k (Some c) m ≡ part.Field d → kind_at k d ≡ Some u
      → HasField P c (place_among (field_names k c) m) (value_type u)
  pub methods : (c m d : ℕ) (u : StaticType) → class_part k (Some c) m ≡ part.Method d → kind_at k d ≡ Some u
      → HasMethod P c (place_among (slot_names k c) m) (value_types (takes_at k.entries d)) (value_type u)
  pub functions : (d : ℕ) (u : StaticType) → sort_of k.entries d ≡ Some sort.Function → kind_at k d ≡ Some u
      → (r : TypedRoutine) × HasRoutine P (routine_number numbers d) r × (r.params ≡ value_types (takes_at k.entries d))
      × (r.gives ≡ value_type u)
  pub makers : (d c : ℕ) → sort_of k.entries d ≡ Some (sort.Class c)
      → (class : ClassEntry) × HasClass P c class
      × IsMember P c class.maker (value_types (maker_takes_of k.classes c)) (t.Object c)
  pub supers : (c m d : ℕ) (u : StaticType) → super_method k (this.Object c) m ≡ Some d → kind_at k d ≡ Some u
      → (class : ClassEntry) × (base : ℕ) × (s : ℕ) × (above : ClassEntry) × HasClass P c class
      × (class.base ≡ Some base) × HasClass P base above
      × (entry above.slots s ≡ Some (routine_number numbers d))
      × IsMember P base (routine_number numbers d) (value_types (takes_at k.entries d)) (value_type u)
  pub library : (call : BoardCall) (f : ℕ) → (row_of call).action ≡ board.Library f
      → (r : TypedRoutine) × HasRoutine P f r × (r.params ≡ taken (row_of call).takes) × (r.gives ≡ (row_of call).gives)
  pub kinds_proper : (d : ℕ) (u : StaticType) → kind_at k d ≡ Some u → IsProper u
  pub takes_proper : (d : ℕ) → EachProper (takes_at k.entries d)
  pub makers_proper : (c : ℕ) → EachProper (maker_takes_of k.classes c)
