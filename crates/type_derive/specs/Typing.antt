-- The type of an expression, by cases.
use Rattle.std.specs.Prelude.{ℕ, ℤ, Bool, true, false, not, ◌&&◌, ◌||◌, ◌==◌, Option, Some, None, List, [], ◌∷◌, length, slice_get, filter, if◌then◌else◌}
use Rattle.std.specs.List.{list_all}
use Rattle.sts_base.specs.declared.tables.Tables.{Tables}
use Rattle.sts_syntax.specs.Types as t
use Rattle.sts_syntax.specs.Types.{ValueType}
use Rattle.sts_syntax.specs.BoardTable as board
use Rattle.sts_syntax.specs.BoardTable.{BoardParameter, row_of, call_named, constant_named}
use Rattle.sts_syntax.specs.declared.board_calls.BoardCall.{BoardCall}
use Rattle.sts_syntax.specs.Trees.{Tree, Num, Text, Truth, Null, This, Name, Unary, Binary, Both, Either, Choice, Set, Bump, Member, Item, Call, SuperCall, Make, Items, Handler, Trees, none, more}
use Rattle.sts_scope.specs.declared.kinds.StaticType.{StaticType}
use Rattle.sts_scope.specs.declared.entries.DeclarationKind.TheVariants as sort
use Rattle.sts_scope.specs.declared.known.Known.{Known}
use Rattle.sts_scope.specs.declared.known.Found.{Found}
use Rattle.sts_scope.specs.declared.known.Found.TheVariants as found
use Rattle.sts_scope.specs.declared.known.Part.{Part}
use Rattle.sts_scope.specs.declared.known.Part.TheVariants as part
use Rattle.sts_scope.specs.declared.known.This.{This as Self}
use Rattle.sts_scope.specs.declared.known.This.TheVariants as this
use Rattle.sts_scope.specs.Kinds.{number, boolean, text, nothing, null, empty, object}
use Rattle.sts_scope.specs.Lookup.{inherited, sort_of}
use Rattle.sts_scope.specs.Places.{NameScope, name_found}
use Rattle.sts_scope.specs.Rules.{this_kind, name_kind, name_fixed, operate, prefix, joined, choose, assign, counted, element, items_type, part_of, part_kind, part_settable, takes_at, kind_at, maker_takes_of, call_kind, goes}
use Rattle.type_derive.specs.declared.roles.Role.{Role}
use Rattle.type_derive.specs.declared.roles.Role.TheVariants.{Free, Given, Served}

infixl 10 ◌>>=◌
abbrev pub ◌>>=◌ : {A B : Type 0} → Option A → (A → Option B) → Option B
None >>= f = None
(Some x) >>= f = f x

abbrev pub is_given : Role → Bool
is_given Given = true
is_given _ = false

-- What is called, but for calls of the board: what it takes and gives.
pub record Callee : Type 0 where
  pub takes : List StaticType
  pub gives : Option StaticType

abbrev pub callee : List StaticType → Option StaticType → Callee
callee takes gives = record { takes = takes; gives = gives }

-- the types of the board's table
abbrev pub board_kind : ValueType → StaticType
board_kind t.Number = number
board_kind t.Boolean = boolean
board_kind t.Text = text
board_kind t.Nothing = nothing
board_kind (t.Object c) = object c
board_kind (t.ListOf u) = nothing
board_kind t.NullType = null

abbrev pub fits : Known → Option StaticType → Option StaticType → Bool
fits k (Some s) (Some t) = goes k.classes s t
fits k _ _ = false

-- what the place of the next argument does with it
abbrev pub role_of : List BoardParameter → Role
role_of (board.Handler ∷ ps) = Served
role_of _ = Given

abbrev pub behind : List BoardParameter → List BoardParameter
behind [] = []
behind (p ∷ ps) = ps

-- A text draws a frame where its characters other than white space are 25 of `.` and `#`.
abbrev pub is_white : ℕ → Bool
is_white b = b == 32 || b == 9 || b == 10 || b == 13

abbrev pub is_dot_or_hash : ℕ → Bool
is_dot_or_hash b = b == 46 || b == 35

abbrev pub drawn : List ℕ → List ℕ
drawn bytes = filter (λ b. not (is_white b)) bytes

abbrev pub draws : List ℕ → Bool
draws bytes = (length (drawn bytes) == 25) && list_all is_dot_or_hash (drawn bytes)

abbrev pub text_at : Tables → ℕ → List ℕ
text_at tables n = elim (slice_get tables.texts n) [ None ↦ [] | Some bytes ↦ bytes ]

abbrev pub spelling : Tables → ℕ → List ℕ
spelling tables x = elim (slice_get tables.names x) [ None ↦ [] | Some bytes ↦ bytes ]

abbrev pub is_drawing : Tables → Tree → Bool
is_drawing tables (Text at n) = draws (text_at tables n)
is_drawing tables _ = false

-- a name that stands for nothing may name a part of the board's interface
abbrev pub space_of : Tables → ℕ → Found → Option (List ℕ)
space_of tables x found.Unknown = Some (spelling tables x)
space_of tables x _ = None

abbrev pub own_call : Bool → Option (List ℕ) → Option BoardCall
own_call false s = None
own_call true s = s >>= λ name. call_named [] name

-- A function stands where a handler is wanted. Whether it may be one is said where it stands.
abbrev pub names_function : Found → Bool
names_function (found.Function d) = true
names_function _ = false

module _ (k : Known) where
  abbrev pub named_callee : Found → Option Callee
  named_callee (found.Function d) = Some (callee (takes_at k.entries d) (kind_at k d))
  named_callee _ = None

  abbrev pub part_callee : Part → Option Callee
  part_callee (part.Method d) = Some (callee (takes_at k.entries d) (kind_at k d))
  part_callee (part.Push t) = Some (callee (t ∷ []) (Some nothing))
  part_callee (part.Pop t) = Some (callee [] (Some t))
  part_callee _ = None

  -- the method of a base
  abbrev pub method_of : Option ℕ → Option ℕ
  method_of None = None
  method_of (Some d) = elim (sort_of k.entries d) [ None ↦ None | Some s ↦ elim s [ sort.Method ↦ Some d | _ ↦ None ] ]

  abbrev pub super_method : Self → ℕ → Option ℕ
  super_method (this.Object c) m = method_of (inherited k.entries k.classes c m)
  super_method _ m = None

  abbrev pub made : Found → Option Callee
  made (found.Class c) = Some (callee (maker_takes_of k.classes c) (Some (object c)))
  made _ = None

  abbrev pub called : Option Callee → Option (List StaticType) → Option StaticType
  called d ts = d >>= λ c. ts >>= λ us. call_kind k.classes c.takes c.gives us

module _ (tables : Tables) (k : Known) where
  -- what a name stands for
  abbrev pub finds : NameScope → ℕ → Found
  finds p x = name_found tables.names k p x

  abbrev pub space : NameScope → Tree → Option (List ℕ)
  space p (Name at x) = space_of tables x (finds p x)
  space p _ = None

  abbrev pub constant_of : NameScope → Tree → ℕ → Option ℤ
  constant_of p a m = space p a >>= λ s. constant_named s (spelling tables m)

  -- a call of the board; the library has some whose space is empty
  abbrev pub board_callee : NameScope → Tree → Option BoardCall
  board_callee p (Member at a m) = space p a >>= λ s. call_named s (spelling tables m)
  board_callee p (Name at x) = own_call p.library (space p (Name at x))
  board_callee p _ = None

  abbrev pub is_routine : NameScope → Tree → Bool
  is_routine p (Name at x) = names_function (finds p x)
  is_routine p (Handler at body) = true
  is_routine p _ = false

  -- the type of an expression, and what its place does with it
  abbrev mutual
    pub type_of : NameScope → Role → Tree → Option StaticType
    type_of p r (Num at n) = Some number
    type_of p r (Text at n) = Some text
    type_of p r (Truth at b) = Some boolean
    type_of p r (Null at) = Some null
    type_of p r (This at) = this_kind p.this
    type_of p r (Name at x) = name_kind k p (finds p x)
    type_of p r (Unary at op a) = type_of p Free a >>= λ s. prefix op s
    type_of p r (Binary at op a b) = type_of p Free a >>= λ s. type_of p Free b >>= λ u. operate k.classes op s u
    type_of p r (Both at a b) = type_of p Free a >>= λ s. type_of p Free b >>= λ u. joined s u
    type_of p r (Either at a b) = type_of p Free a >>= λ s. type_of p Free b >>= λ u. joined s u
    type_of p r (Choice at c a b) =
        type_of p Free c >>= λ q. type_of p Free a >>= λ s. type_of p Free b >>= λ u. choose k.classes q s u
    type_of p r (Set at op x e) =
        type_of p Free x >>= λ u. type_of p Given e >>= λ s. if settable p x then assign k.classes op u s else None
    type_of p r (Bump at x by late) = type_of p Free x >>= λ u. if settable p x then counted u else None
    type_of p r (Member at a m) = elim (constant_of p a m) [
      | Some z ↦ Some number
      | None ↦ type_of p Free a >>= λ u. part_kind k (part_of tables.names k u m)
    ]
    type_of p r (Item at a i) = type_of p Free a >>= λ s. type_of p Free i >>= λ u. element s u
    type_of p r (Items at none) = if is_given r then Some empty else None
    type_of p r (Items at (more e rest)) = type_of p Free e >>= λ u. types_of p rest >>= λ us. items_type k.classes u us
    type_of p r (Call at f args) = elim (board_callee p f) [
      | Some call ↦ if are_given p (row_of call).takes args then Some (board_kind (row_of call).gives) else None
      | None ↦ called k (callee_of p f) (types_of p args)
    ]
    type_of p r (SuperCall at None args) = None
    type_of p r (SuperCall at (Some m) args) =
        called k (super_method k p.this m >>= λ d. Some (callee (takes_at k.entries d) (kind_at k d))) (types_of p args)
    type_of p r (Make at x args) = called k (made k (finds p x)) (types_of p args)
    type_of p r (Handler at body) = None

    -- those of expressions to which types are given
    pub types_of : NameScope → Trees → Option (List StaticType)
    types_of p none = Some []
    types_of p (more e rest) = type_of p Given e >>= λ u. types_of p rest >>= λ us. Some (u ∷ us)

    -- what is called
    pub callee_of : NameScope → Tree → Option Callee
    callee_of p (Name at x) = named_callee k (finds p x)
    callee_of p (Member at a m) = type_of p Free a >>= λ u. part_callee k (part_of tables.names k u m)
    callee_of p _ = None

    -- A target that may be set: no `const`, no length, no constant of the board.
    pub settable : NameScope → Tree → Bool
    settable p (Name at x) = not (name_fixed k p (finds p x))
    settable p (Member at a m) = elim (constant_of p a m) [
      | Some z ↦ false
      | None ↦ elim (type_of p Free a) [ None ↦ false | Some u ↦ part_settable (part_of tables.names k u m) ]
    ]
    settable p (Item at a i) = true
    settable p _ = false

    -- as many arguments as a call of the board takes, each of which fits
    pub are_given : NameScope → List BoardParameter → Trees → Bool
    are_given p [] none = true
    are_given p (board.Of u ∷ ps) (more a rest) = fits k (type_of p Given a) (Some (board_kind u)) && are_given p ps rest
    are_given p (board.Handler ∷ ps) (more a rest) = is_routine p a && are_given p ps rest
    are_given p (board.Drawing ∷ ps) (more a rest) = is_drawing tables a && are_given p ps rest
    are_given p _ _ = false
