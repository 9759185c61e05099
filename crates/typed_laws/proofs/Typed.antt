-- An expression without a failure has a type.
use Rattle.std.proofs.Common.{◌≡◌, ℕ, ℤ, refl, sym, subst, ◌∙◌, Option, Some, None, List, [], Bool, true, false, ◌||◌}
use Rattle.std.specs.Prelude.{IsSome, is_some, if◌then◌else◌}
use Rattle.sts_base.specs.declared.tables.Tables.{Tables}
use Rattle.sts_base.specs.declared.refused.Code.{Code}
use Rattle.sts_base.specs.declared.refused.Code.TheVariants.{Mismatch, BadHandler}
use Rattle.sts_syntax.specs.BoardTable.{row_of, constant_named, call_named}
use Rattle.sts_syntax.specs.declared.board_calls.BoardCall.{BoardCall}
use Rattle.sts_syntax.specs.Trees.{Tree, Num, Text, Truth, Null, This, Name, Unary, Binary, Both, Either, Choice, Set, Bump, Member, Item, Call, SuperCall, Make, Items, Handler, Trees, none, more}
use Rattle.sts_scope.specs.declared.kinds.StaticType.{StaticType}
use Rattle.sts_scope.specs.declared.known.Known.{Known}
use Rattle.sts_scope.specs.Kinds.{number, boolean, text, null}
use Rattle.sts_scope.specs.Failures.{Failure, ◌then◌, unless, own}
use Rattle.sts_scope.specs.Entries.{Naming}
use Rattle.sts_scope.specs.Places.{NameScope}
use Rattle.sts_scope.specs.Rules.{this_kind}
use Rattle.sts_scope.specs.Codes.{why_this, why_call}
use Rattle.type_derive.specs.declared.roles.Role.{Role}
use Rattle.type_derive.specs.declared.roles.Role.TheVariants.{Free, Given, Called, Served}
use Rattle.type_derive.specs.Typing.{space, spelling, constant_of, board_callee, callee_of, called, type_of, types_of, are_given, board_kind}
use Rattle.typed_laws.specs.Laws.{IsRead}
use Rattle.typed_laws.proofs.Names.{bind_some, space_valueless}
use Rattle.type_derive.specs.Nodes.{failure, failures, handler_failure, unsuited, cause_of, lacks_handler, is_of_board}

-- a value that is there
pub record Has {A : Type 0} (o : Option A) : Type 0 where
  pub it : A
  pub is : o ≡ Some it

pub some : {A : Type 0} (o : Option A) → Has o → IsSome o
some {A} o h = let P : Option A → Type 0 = λ x. IsSome x in subst P (sym h.is) refl

pub last : (a b : Option Failure) → (a then b) ≡ None → b ≡ None
last None b h = h
last (Some f) b h = cc

pub first : (a b : Option Failure) → (a then b) ≡ None → a ≡ None
first None b h = refl
first (Some f) b h = cc

pub own_has : {A : Type 0} (o : Option A) (code : Code) (at : ℕ) → own o code at ≡ None → Has o
own_has (Some t) code at h = record { it = t; is = refl }
own_has None code at h = cc

pub unless_true : (b : Bool) (code : Code) (at : ℕ) → unless b code at ≡ None → b ≡ true
unless_true true code at h = refl
unless_true false code at h = cc

pub if_true : {A : Type 0} (b : Bool) (x : A) (code : Code) (at : ℕ) → own (if b then Some x else None) code at ≡ None → b ≡ true
if_true true x code at h = refl
if_true false x code at h = cc

has1 : {A : Type 0} (a : Option Failure) (o : Option A) (at : ℕ) → (a then own o Mismatch at) ≡ None → Has o
has1 a o at h = own_has o Mismatch at (last a (own o Mismatch at) h)

has2 : {A : Type 0} (a b : Option Failure) (o : Option A) (at : ℕ) → (a then b then own o Mismatch at) ≡ None → Has o
has2 a b o at h = has1 b o at (last a (b then own o Mismatch at) h)

has3 : {A : Type 0} (a b c : Option Failure) (o : Option A) (at : ℕ) → (a then b then c then own o Mismatch at) ≡ None → Has o
has3 a b c o at h = has2 b c o at (last a (b then c then own o Mismatch at) h)

module _ (tables : Tables) (names : Naming) (k : Known) where
  pub unsuited_has : (p : NameScope) (r : Role) (e : Tree) (at : ℕ) → IsRead r → unsuited tables names k p r e at ≡ None → Has (type_of tables k p r e)
  unsuited_has p Free e at i h = own_has (type_of tables k p Free e) (cause_of tables k p Free e) at h
  unsuited_has p Given e at i h = own_has (type_of tables k p Given e) (cause_of tables k p Given e) at h
  unsuited_has p Called e at i h = absurd i
  unsuited_has p Served e at i h = absurd i

  -- a call has no failure of its own, by what the board's table says of what is called
  abbrev pub call_type : NameScope → Tree → Trees → Option BoardCall → Option StaticType
  call_type p f args b = elim b [
    | Some call ↦ if are_given tables k p (row_of call).takes args then Some (board_kind (row_of call).gives) else None
    | None ↦ called k (callee_of tables k p f) (types_of tables k p args)
  ]

  abbrev call_cause : NameScope → Tree → Trees → Option BoardCall → Code
  call_cause p f args b = elim b [
    | Some call ↦ if lacks_handler tables k p (row_of call).takes args then BadHandler else Mismatch
    | None ↦ elim (callee_of tables k p f) [ None ↦ Mismatch | Some d ↦ why_call d.gives ]
  ]

  abbrev pub of_call : NameScope → ℕ → Tree → Trees → Option BoardCall → Option Failure
  of_call p at f args b =
      let o = own (call_type p f args b) (call_cause p f args b) at in
      elim b [
        | Some call ↦ failures tables names k p (row_of call).takes args then o
        | None ↦ failure tables names k p Called f then failures tables names k p [] args then o
      ]

  pub call_has : (p : NameScope) (at : ℕ) (f : Tree) (args : Trees) (b : Option BoardCall) → of_call p at f args b ≡ None → Has (call_type p f args b)
  call_has p at f args (Some call) h = own_has (call_type p f args (Some call)) (call_cause p f args (Some call)) at (last (failures tables names k p (row_of call).takes args) _ h)
  call_has p at f args None h =
      own_has (call_type p f args None) (call_cause p f args None) at (last (failures tables names k p [] args) _ (last (failure tables names k p Called f) _ h))

  pub typed : (p : NameScope) (r : Role) (e : Tree) → IsRead r → failure tables names k p r e ≡ None → Has (type_of tables k p r e)
  typed p r (Num at n) i h = record { it = number; is = refl }
  typed p r (Text at n) i h = record { it = text; is = refl }
  typed p r (Truth at b) i h = record { it = boolean; is = refl }
  typed p r (Null at) i h = record { it = null; is = refl }
  typed p r (This at) i h = own_has (this_kind p.this) (why_this p.this) at h
  typed p r (Name at x) i h = unsuited_has p r (Name at x) at i h
  typed p r (Unary at op a) i h = has1 (failure tables names k p Free a) (type_of tables k p r (Unary at op a)) at h
  typed p r (Binary at op a b) i h = has2 (failure tables names k p Free a) (failure tables names k p Free b) (type_of tables k p r (Binary at op a b)) at h
  typed p r (Both at a b) i h = has2 (failure tables names k p Free a) (failure tables names k p Free b) (type_of tables k p r (Both at a b)) at h
  typed p r (Either at a b) i h = has2 (failure tables names k p Free a) (failure tables names k p Free b) (type_of tables k p r (Either at a b)) at h
  typed p r (Choice at c a b) i h = has3 (failure tables names k p Free c) (failure tables names k p Free a) (failure tables names k p Free b) (type_of tables k p r (Choice at c a b)) at h
  typed p r (Set at op x e) i h = has2 (failure tables names k p Free x) (failure tables names k p Given e) (type_of tables k p r (Set at op x e)) at h
  typed p r (Bump at x by late) i h = has1 (failure tables names k p Free x) (type_of tables k p r (Bump at x by late)) at h
  typed p r (Member at a m) i h = unsuited_has p r (Member at a m) at i (last (if is_of_board tables k p (Member at a m) then None else failure tables names k p Free a) _ h)
  typed p r (Item at a j) i h = has2 (failure tables names k p Free a) (failure tables names k p Free j) (type_of tables k p r (Item at a j)) at h
  typed p r (Items at none) i h = own_has (type_of tables k p r (Items at none)) Mismatch at h
  typed p r (Items at (more e rest)) i h = has2 (failure tables names k p Free e) (failures tables names k p [] rest) (type_of tables k p r (Items at (more e rest))) at h
  typed p r (Call at f args) i h = call_has p at f args (board_callee tables k p f) h
  typed p r (SuperCall at m args) i h = own_has (type_of tables k p r (SuperCall at m args)) (cause_of tables k p r (SuperCall at m args)) at (last (failures tables names k p [] args) _ h)
  typed p r (Make at x args) i h = own_has (type_of tables k p r (Make at x args)) (cause_of tables k p r (Make at x args)) at (last (failures tables names k p [] args) _ h)
  typed p r (Handler at body) i h = unsuited_has p r (Handler at body) at i (last (handler_failure tables names k p body) _ h)

  -- what stands before the dot of a member has no failure where it has a type
  object_free : (p : NameScope) (at : ℕ) (a : Tree) (m : ℕ) (u : StaticType) (z : Option ℤ) (b : Option BoardCall) → constant_of tables k p a m ≡ z → board_callee tables k p (Member at a m) ≡ b → type_of tables k p Free a ≡ Some u
      → (if is_some z || is_some b then None else failure tables names k p Free a) ≡ None → failure tables names k p Free a ≡ None
  object_free p at a m u (Some y) b q o t h =
      let (sp, r, i) = bind_some (space tables k p a) (λ (x : List ℕ). constant_named x (spelling tables m)) y q in
      let n : None ≡ Some u = sym (space_valueless tables k p a sp r) ∙ t in
      cc
  object_free p at a m u None (Some call) q o t h =
      let (sp, r, i) = bind_some (space tables k p a) (λ (x : List ℕ). call_named x (spelling tables m)) call o in
      let n : None ≡ Some u = sym (space_valueless tables k p a sp r) ∙ t in
      cc
  object_free p at a m u None None q o t h = h

  pub member_free : (p : NameScope) (r : Role) (at : ℕ) (a : Tree) (m : ℕ) (u : StaticType) → failure tables names k p r (Member at a m) ≡ None → type_of tables k p Free a ≡ Some u → failure tables names k p Free a ≡ None
  member_free p r at a m u h t =
      object_free p at a m u (constant_of tables k p a m) (board_callee tables k p (Member at a m)) refl refl t (first (if is_of_board tables k p (Member at a m) then None else failure tables names k p Free a) _ h)
