-- Nodes that may need no type in their place.
use Rattle.std.proofs.Common.{◌≡◌, ℕ, ℤ, Bool, true, false, Option, Some, None, refl}
use Rattle.std.specs.Prelude.{is_some, ◌&&◌, ◌||◌, if◌then◌else◌}
use Rattle.sts_base.specs.declared.refused.Code.{Code}
use Rattle.sts_base.specs.declared.refused.Code.TheVariants.{Mismatch, BadHandler}
use Rattle.sts_base.specs.declared.tables.Tables.{Tables}
use Rattle.sts_syntax.specs.declared.board_calls.BoardCall.{BoardCall}
use Rattle.sts_syntax.specs.Trees.{Tree, Name, Member, Handler, Routine}
use Rattle.sts_scope.specs.declared.kinds.StaticType.{StaticType}
use Rattle.sts_scope.specs.declared.known.Known.{Known}
use Rattle.sts_scope.specs.Codes.{why_part}
use Rattle.sts_scope.specs.Failures.{Failure, ◌then◌, failure_at, unless, own}
use Rattle.sts_scope.specs.Kinds.{number}
use Rattle.sts_scope.specs.Places.{NameScope}
use Rattle.sts_scope.specs.Rules.{part_of, part_kind}
use Rattle.type_derive.specs.declared.context.Context.{Context}
use Rattle.type_derive.specs.declared.roles.Role.{Role}
use Rattle.type_derive.specs.declared.roles.Role.TheVariants.{Free, Given, Called, Served}
use Rattle.type_derive.specs.Scopes.{naming}
use Rattle.type_derive.specs.Nodes.{unsuited, serves_itself}
use Rattle.type_derive.specs.Typing.{◌>>=◌, finds, part_callee, constant_of, board_callee, type_of}
use Rattle.type_check.specs.Contexts.{failure}
use Rattle.type_check.specs.Seen.{is_called, is_served, own_name, own_member}

pub name_is : (c : Context) (p : NameScope) (r : Role) (at x : ℕ) →
    unsuited c.tables.now (naming c) c.known.now p r (Name at x) at ≡ own_name c.tables.now c.known.now p r (finds c.tables.now c.known.now p x) at
name_is c p Free at x = refl
name_is c p Given at x = refl
name_is c p Called at x = refl
name_is c p Served at x = refl

if_not : (b : Bool) (code : Code) (at : ℕ) → (if b then None else failure_at code at) ≡ unless b code at
if_not true code at = refl
if_not false code at = refl

pub handler_own : (c : Context) (p : NameScope) (r : Role) (at : ℕ) (body : Routine) →
    unsuited c.tables.now (naming c) c.known.now p r (Handler at body) at ≡ unless (is_served r && serves_itself c.tables.now (naming c) c.known.now p body) BadHandler at
handler_own c p Free at body = refl
handler_own c p Given at body = refl
handler_own c p Called at body = refl
handler_own c p Served at body = if_not (serves_itself c.tables.now (naming c) c.known.now p body) BadHandler at

-- a member, by what names a part of the board's interface, and by the type and the failure of what stands before its dot
module _ (t : Tables) (k : Known) (at m : ℕ) where
  abbrev member_suits : Role → Option ℤ → Option BoardCall → Option StaticType → Bool
  member_suits Called z b o = (is_some z || is_some b) || is_some (o >>= λ u. part_callee k (part_of t.names k u m))
  member_suits r z b o = false

  abbrev pub of_member : Role → Option ℤ → Option BoardCall → Option StaticType → Option Failure → Option Failure
  of_member r z b o before =
      (if is_some z || is_some b then None else before)
      then (if member_suits r z b o then None else own (elim z [ Some y ↦ Some number | None ↦ o >>= λ u. part_kind k (part_of t.names k u m) ])
      (elim b [ Some call ↦ BadHandler | None ↦ elim o [ None ↦ Mismatch | Some u ↦ why_part (part_of t.names k u m) ] ]) at)

  pub of_constant : (r : Role) (z : ℤ) (b : Option BoardCall) (o : Option StaticType) (before : Option Failure) → of_member r (Some z) b o before ≡ None
  of_constant Free z b o before = refl
  of_constant Given z b o before = refl
  of_constant Called z b o before = refl
  of_constant Served z b o before = refl

  pub of_board : (r : Role) (call : BoardCall) (before : Option Failure) → of_member r None (Some call) None before ≡ unless (is_called r) BadHandler at
  of_board Free call before = refl
  of_board Given call before = refl
  of_board Called call before = refl
  of_board Served call before = refl

  pub of_object : (r : Role) (o : Option StaticType) (before : Option Failure) → of_member r None None o before ≡ (before then own_member t k r o m at)
  of_object Free None before = refl
  of_object Free (Some u) before = refl
  of_object Given None before = refl
  of_object Given (Some u) before = refl
  of_object Called None before = refl
  of_object Called (Some u) before = refl
  of_object Served None before = refl
  of_object Served (Some u) before = refl

pub member_by : (c : Context) (p : NameScope) (r : Role) (at m : ℕ) (a : Tree) →
    failure c p r (Member at a m)
    ≡ of_member c.tables.now c.known.now at m r (constant_of c.tables.now c.known.now p a m) (board_callee c.tables.now c.known.now p (Member at a m)) (type_of c.tables.now c.known.now p Free a) (failure c p Free a)
member_by c p Free at m a = refl
member_by c p Given at m a = refl
member_by c p Called at m a = refl
member_by c p Served at m a = refl
