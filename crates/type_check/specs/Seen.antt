-- What is seen of an expression that was gone through.
use Rattle.std.specs.Prelude.{ℕ, Option, Some, None, List, [], ◌∷◌, Bool, true, false, not, ◌&&◌, is_some, if◌then◌else◌}
use Rattle.sts_base.specs.declared.tables.Tables.{Tables}
use Rattle.sts_syntax.specs.BoardTable as board
use Rattle.sts_syntax.specs.BoardTable.{BoardParameter, row_of}
use Rattle.sts_syntax.specs.declared.board_calls.BoardCall.{BoardCall}
use Rattle.sts_syntax.specs.Annotations.{Annotation}
use Rattle.sts_syntax.specs.Trees.{Tree, Member, Trees, none, more, OptionalTree, absent, present}
use Rattle.sts_scope.specs.declared.kinds.StaticType.{StaticType}
use Rattle.sts_scope.specs.declared.entries.ClassHead.{ClassHead}
use Rattle.sts_scope.specs.declared.known.Known.{Known}
use Rattle.sts_scope.specs.declared.known.Found.{Found}
use Rattle.sts_scope.specs.declared.known.Part.{Part}
use Rattle.sts_scope.specs.declared.known.This.{This as Self}
use Rattle.sts_base.specs.declared.refused.Code.{Code}
use Rattle.sts_base.specs.declared.refused.Code.TheVariants.{BadHandler, Mismatch}
use Rattle.sts_scope.specs.Failures.{Failure, failure_at, own}
use Rattle.sts_scope.specs.Codes.{why_part, why_call}
use Rattle.sts_scope.specs.Kinds.{array_of}
use Rattle.sts_scope.specs.Places.{NameScope}
use Rattle.sts_scope.specs.Rules.{name_kind, takes_at, kind_at, part_of, part_kind, is_boolean, serves}
use Rattle.type_derive.specs.declared.roles.Role.{Role}
use Rattle.type_derive.specs.declared.roles.Role.TheVariants.{Free, Called, Served}
use Rattle.type_derive.specs.Typing.{Callee, callee, named_callee, part_callee, super_method, ◌>>=◌, type_of, role_of, behind, fits, is_routine, is_drawing, are_given, board_kind}
use Rattle.type_derive.specs.Shown.{goes_some}
use Rattle.type_derive.specs.Nodes.{waives, kind_role, why_named, lacks_handler}
use Rattle.type_check.specs.declared.seen.Seen.{Seen}

abbrev pub is_called : Role → Bool
is_called Called = true
is_called _ = false

abbrev pub is_served : Role → Bool
is_served Served = true
is_served _ = false

-- what stands behind no dot
abbrev pub plain : Option StaticType → Seen
plain kind = record { kind = kind; part = None }

-- values of types go where types are given, each to each; one without a type doesn't
abbrev pub fit_all : List ClassHead → List (Option StaticType) → List StaticType → Bool
fit_all classes [] [] = true
fit_all classes (o ∷ os) (t ∷ ts) = goes_some classes o t && fit_all classes os ts
fit_all classes _ _ = false

-- they all go to one
abbrev pub fit_one : List ClassHead → StaticType → List (Option StaticType) → Bool
fit_one classes t [] = true
fit_one classes t (o ∷ os) = goes_some classes o t && fit_one classes t os

-- the type of a list literal, by its first item's type and those of the others
abbrev pub listed_kind : List ClassHead → Option StaticType → List (Option StaticType) → Option StaticType
listed_kind classes None os = None
listed_kind classes (Some t) os = if fit_one classes t os then array_of t else None

-- the type of a call with arguments of some types
abbrev pub called_kind : List ClassHead → Option Callee → List (Option StaticType) → Option StaticType
called_kind classes None os = None
called_kind classes (Some c) os = if fit_all classes os c.takes then c.gives else None

-- why a call of this fails
abbrev pub own_called_kind : Known → Option Callee → List (Option StaticType) → ℕ → Option Failure
own_called_kind k None os at = failure_at Mismatch at
own_called_kind k (Some c) os at = own (called_kind k.classes (Some c) os) (why_call c.gives) at

-- the method of a base that is called
abbrev pub super_callee : Tables → Known → Self → ℕ → Option Callee
super_callee tables k this m = super_method k this m >>= λ d. Some (callee (takes_at k.entries d) (kind_at k d))

module _ (tables : Tables) (k : Known) where
  -- what stands behind the dot of what has a type
  abbrev pub part_at : NameScope → Tree → Option Part
  part_at p (Member at a m) = type_of tables k p Free a >>= λ u. Some (part_of tables.names k u m)
  part_at p _ = None

  -- the type of an expression, and what stands behind its dot
  abbrev pub seen : NameScope → Role → Tree → Seen
  seen p r e = record { kind = type_of tables k p r e; part = part_at p e }

  -- the types of arguments, by what their places do with them
  abbrev pub kinds_given : NameScope → List BoardParameter → Trees → List (Option StaticType)
  kinds_given p takes none = []
  kinds_given p takes (more e rest) = type_of tables k p (role_of takes) e ∷ kinds_given p (behind takes) rest

  -- a test that is left out, or is a truth value
  abbrev pub is_test : NameScope → OptionalTree → Bool
  is_test p absent = true
  is_test p (present e) = is_boolean (type_of tables k p Free e)

  -- the type of an initialiser, if it gives one
  abbrev pub initial_kind : NameScope → Option Annotation → OptionalTree → Option StaticType
  initial_kind p shape absent = None
  initial_kind p shape (present e) =
      if waives shape e then None else type_of tables k p (kind_role shape) e

  -- the failure of a name, by what it stands for
  abbrev pub name_suits : Role → Found → Bool
  name_suits Called f = is_some (named_callee k f)
  name_suits Served f = serves k f
  name_suits r f = false

  abbrev pub own_name : NameScope → Role → Found → ℕ → Option Failure
  own_name p r f at = if name_suits r f then None else own (name_kind k p f) (why_named k r f) at

  -- the failure of a member, by what it is, and by the type of what stands before its dot
  abbrev pub own_part : Role → Part → ℕ → Option Failure
  own_part r part at =
      if is_called r && is_some (part_callee k part) then None else own (part_kind k part) (why_part part) at

  abbrev pub own_member : Role → Option StaticType → ℕ → ℕ → Option Failure
  own_member r None m at = failure_at Mismatch at
  own_member r (Some t) m at = own_part r (part_of tables.names k t m) at

  -- what is seen of a member, by the type of what stands before its dot
  abbrev pub member : Option StaticType → ℕ → Seen
  member t m = record {
    kind = t >>= λ u. part_kind k (part_of tables.names k u m);
    part = t >>= λ u. Some (part_of tables.names k u m);
  }

  -- no function stands where a handler is wanted
  abbrev pub lacks_here : NameScope → BoardParameter → Tree → Bool
  lacks_here p board.Handler a = not (is_routine tables k p a)
  lacks_here p (board.Of u) a = false
  lacks_here p board.Drawing a = false

  -- an argument of this type fits its place in a call of the board
  abbrev pub fits_place : NameScope → BoardParameter → Option StaticType → Tree → Bool
  fits_place p (board.Of u) kind a = fits k kind (Some (board_kind u))
  fits_place p board.Handler kind a = is_routine tables k p a
  fits_place p board.Drawing kind a = is_drawing tables a

  -- the type of a call of the board
  abbrev pub board_kind_of : NameScope → BoardCall → Trees → Option StaticType
  board_kind_of p call args =
      if are_given tables k p (row_of call).takes args then Some (board_kind (row_of call).gives) else None

  -- why one fails
  abbrev pub board_cause : NameScope → BoardCall → Trees → Code
  board_cause p call args = if lacks_handler tables k p (row_of call).takes args then BadHandler else Mismatch
