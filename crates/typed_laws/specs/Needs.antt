-- What the making of a typed tree looks for at a node (`Built` in crates/type_derive), where it is there.
use Rattle.std.specs.Prelude.{◌≡◌, ℕ, true, Some, None, List, length, IsSome}
use Rattle.sts_base.specs.declared.tables.Tables.{Tables}
use Rattle.sts_syntax.specs.BoardTable.{row_of}
use Rattle.sts_syntax.specs.Trees.{Tree, Name, Member, Items, Call, SuperCall, Make, Handler, Trees, none}
use Rattle.sts_scope.specs.declared.kinds.StaticType.{StaticType}
use Rattle.sts_scope.specs.declared.known.Known.{Known}
use Rattle.sts_scope.specs.declared.known.Found.{Found}
use Rattle.sts_scope.specs.declared.known.Found.TheVariants as found
use Rattle.sts_scope.specs.declared.known.Part.{Part}
use Rattle.sts_scope.specs.declared.known.Part.TheVariants as part
use Rattle.sts_scope.specs.Kinds.{class_of}
use Rattle.sts_scope.specs.Places.{NameScope}
use Rattle.sts_scope.specs.Rules.{local_kind, kind_at, takes_at, maker_takes_of, part_of, all_go}
use Rattle.type_derive.specs.declared.roles.Role.{Role}
use Rattle.type_derive.specs.declared.roles.Role.TheVariants.{Free}
use Rattle.type_derive.specs.Built.{Site}
use Rattle.type_derive.specs.Typing.{Callee, finds, constant_of, board_callee, callee_of, super_method, type_of, types_of, are_given, is_given}

-- a member of an object of a class
abbrev pub IsOfSomeClass : StaticType → Type 0
IsOfSomeClass u = (c : ℕ) × (class_of u ≡ Some c)

-- a name that is read: a local or a global, with a type
abbrev pub IsReadName : Known → NameScope → Found → Type 0
IsReadName k p (found.Local i) = IsSome (local_kind p.locals i)
IsReadName k p (found.Global d) = IsSome (kind_at k d)
IsReadName k p _ = ⊥

-- a member that is read: a field of a class, or the length of an array
abbrev pub IsReadPart : StaticType → Part → Type 0
IsReadPart u (part.Field d) = IsOfSomeClass u
IsReadPart u part.Length = Unit {0}
IsReadPart u _ = ⊥

-- a name that is called: a function's
abbrev pub IsCalledName : Found → Type 0
IsCalledName (found.Function d) = Unit {0}
IsCalledName _ = ⊥

-- a member that is called: a method of a class, `push` or `pop`
abbrev pub IsCalledPart : StaticType → Part → Type 0
IsCalledPart u (part.Method d) = IsOfSomeClass u
IsCalledPart u (part.Push t) = Unit {0}
IsCalledPart u (part.Pop t) = Unit {0}
IsCalledPart u _ = ⊥

module _ (tables : Tables) (k : Known) (p : NameScope) where
  -- what is called, but for calls of the board
  abbrev pub IsCalledTree : Tree → Type 0
  IsCalledTree (Name at x) = IsCalledName (finds tables k p x)
  IsCalledTree (Member at a m) =
      (u : StaticType) × (type_of tables k p Free a ≡ Some u) × IsCalledPart u (part_of tables.names k u m)
  IsCalledTree _ = ⊥

  -- arguments for what takes these: as many, and each goes there
  abbrev pub ArgumentsGo : List StaticType → Trees → Type 0
  ArgumentsGo takes args =
      (us : List StaticType) × (types_of tables k p args ≡ Some us) × (all_go k.classes us takes ≡ true)

  -- what is looked for at a node that is read
  abbrev pub IsWholeNode : Role → Tree → Type 0
  IsWholeNode r (Name at x) = IsReadName k p (finds tables k p x)
  IsWholeNode r (Member at a m) = elim (constant_of tables k p a m) [
    | Some z ↦ Unit {0}
    | None ↦ (u : StaticType) × (type_of tables k p Free a ≡ Some u) × IsReadPart u (part_of tables.names k u m)
  ]
  IsWholeNode r (Items at none) = is_given r ≡ true
  IsWholeNode r (Call at f args) = elim (board_callee tables k p f) [
    | Some call ↦ are_given tables k p (row_of call).takes args ≡ true
    | None ↦ IsCalledTree f × (d : Callee) × (callee_of tables k p f ≡ Some d) × ArgumentsGo d.takes args
  ]
  IsWholeNode r (SuperCall at None args) = ⊥
  IsWholeNode r (SuperCall at (Some m) args) =
      (d : ℕ) × (super_method k p.this m ≡ Some d) × ArgumentsGo (takes_at k.entries d) args
  IsWholeNode r (Make at x args) =
      (c : ℕ) × (finds tables k p x ≡ found.Class c) × ArgumentsGo (maker_takes_of k.classes c) args
  IsWholeNode r (Handler at body) = ⊥
  IsWholeNode r e = Unit {0}

-- each local in scope has its spot
abbrev pub HasSpots : Site → Type 0
HasSpots s = length s.spots ≡ length s.place.locals
