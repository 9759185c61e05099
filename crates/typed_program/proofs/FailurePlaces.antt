-- Each failure of a node is at a place of its tree.
use Rattle.std.proofs.Common.{◌≡◌, ℕ, Bool, true, false, not, Some, None, List, [], ◌∷◌, subst}
use Rattle.std.specs.Prelude.{Option, if◌then◌else◌}
use Rattle.sts_base.specs.declared.tables.Tables.{Tables}
use Rattle.sts_base.specs.declared.refused.Code.{Code}
use Rattle.sts_base.specs.declared.refused.Code.TheVariants.{UnknownName, TwiceNamed, NeedsType, Mismatch}
use Rattle.sts_syntax.specs.Annotations.{Annotation, Number, Boolean, Nothing, Named, ListOf}
use Rattle.sts_syntax.specs.Annotations as annotations
use Rattle.sts_syntax.specs.BoardTable.{BoardParameter, row_of}
use Rattle.sts_syntax.specs.declared.board_calls.BoardCall.{BoardCall}
use Rattle.sts_syntax.specs.Trees.{Parameter, Tree, Num, Text, Truth, Null, This, Name, Unary, Binary, Both, Either, Choice, Set, Bump, Member, Item, Call, SuperCall, Make, Items, Handler, Trees, none, more, OptionalTree, absent, present, Statement, Block, Let, IfOnly, IfElse, While, DoWhile, For, ForOf, Return, Break, Continue, Plain, Empty, Statements, done, also, OptionalStatement, omitted, written, Declaration, Declare, Declarations, ended, next, Routine, Does}
use Rattle.sts_scope.specs.declared.kinds.StaticType.{StaticType}
use Rattle.sts_scope.specs.declared.known.Known.{Known}
use Rattle.sts_scope.specs.Failures.{Failure, ◌then◌, failure_at, unless, own}
use Rattle.sts_scope.specs.Entries.{Naming, kind_of}
use Rattle.sts_scope.specs.Globals.{is_dollar}
use Rattle.sts_scope.specs.Headings.{type_name_failure, written_failure}
use Rattle.sts_scope.specs.Places.{NameScope, inner, is_twice}
use Rattle.sts_scope.specs.Rules.{is_nothing, is_boolean}
use Rattle.type_derive.specs.declared.roles.Role.{Role}
use Rattle.type_derive.specs.declared.roles.Role.TheVariants.{Free, Given, Called}
use Rattle.type_derive.specs.Typing.{fits, board_callee, type_of, role_of, behind}
use Rattle.type_derive.specs.Returns.{bound, after, after_first, looped}
use Rattle.type_derive.specs.Nodes.{kind_role, suits, unsuited, cause_of, is_of_board, parameter_types_failure, handler_place, own_local, own_bound, waives, is_list, failure, failures, handler_failure, initial_failure, optional_failure, test_failure, declaration_failure, declarations_failure, statement_failure, first_failure, statements_failure}
use Rattle.typed_program.proofs.NodePlaces.{AnnotationAt, WrittenAt, ParametersAt, TreeAt, TreesAt, OptionAt, RoutineAt, DeclarationAt, DeclarationsAt, StatementAt, FirstAt, StatementsAt}

-- A failure, if there is one, is at such a place.
pub record FailsAt (P : ℕ → Type 0) (o : Option Failure) : Type 0 where
  pub place : (f : Failure) → o ≡ Some f → P f.at

pub none_in : {P : ℕ → Type 0} → FailsAt P None
none_in = record { place = λ f e. cc }

pub at_in : {P : ℕ → Type 0} (code : Code) (at : ℕ) → P at → FailsAt P (failure_at code at)
at_in {P} code at h = record { place = λ f e. (let same : at ≡ f.at = cc in subst P same h) }

pub then_in : {P : ℕ → Type 0} (a b : Option Failure) → FailsAt P a → FailsAt P b → FailsAt P (a then b)
then_in (Some x) b h g = h
then_in None b h g = g

pub unless_in : {P : ℕ → Type 0} (holds : Bool) (code : Code) (at : ℕ) → P at → FailsAt P (unless holds code at)
unless_in true code at h = none_in
unless_in false code at h = at_in code at h

pub own_in : {P : ℕ → Type 0} {A : Type 0} (t : Option A) (code : Code) (at : ℕ) → P at → FailsAt P (own t code at)
own_in (Some t) code at h = none_in
own_in None code at h = at_in code at h

pub if_in : {P : ℕ → Type 0} (which : Bool) (a b : Option Failure) → FailsAt P a → FailsAt P b → FailsAt P (if which then a else b)
if_in true a b h g = h
if_in false a b h g = g

-- a type that is written
type_name_in : {P : ℕ → Type 0} (names : Naming) (a : Annotation) → AnnotationAt P a → FailsAt P (type_name_failure names a)
type_name_in names (Named at x) h = own_in (names x) UnknownName at h
type_name_in names (ListOf a) h = type_name_in names a h
type_name_in names Number h = none_in
type_name_in names Boolean h = none_in
type_name_in names annotations.Text h = none_in
type_name_in names Nothing h = none_in

pub written_in : {P : ℕ → Type 0} (names : Naming) (at : ℕ) (shape : Option Annotation) → P at → WrittenAt P shape → FailsAt P (written_failure names at shape)
written_in names at None here h = none_in
written_in names at (Some a) here h =
    then_in (type_name_failure names a) (own (kind_of names a) UnknownName at) (type_name_in names a h) (own_in (kind_of names a) UnknownName at here)

parameter_types_in : {P : ℕ → Type 0} (names : Naming) (params : List Parameter) → ParametersAt P params → FailsAt P (parameter_types_failure names params)
parameter_types_in names [] h = none_in
parameter_types_in names (q ∷ rest) h = then_in (written_failure names q.at q.shape) (parameter_types_failure names rest) (written_in names q.at q.shape h.0 h.1) (parameter_types_in names rest h.2)

module _ (P : ℕ → Type 0) (tables : Tables) (names : Naming) (k : Known) where
  abbrev In : Option Failure → Type 0
  In o = FailsAt P o

  abbrev bad : NameScope → Role → Tree → Option Failure
  bad p r e = failure tables names k p r e

  abbrev ty : NameScope → Role → Tree → Option StaticType
  ty p r e = type_of tables k p r e

  -- a node's own failure
  unsuited_in : (p : NameScope) (r : Role) (e : Tree) (at : ℕ) → P at → In (unsuited tables names k p r e at)
  unsuited_in p r e at h = if_in (suits tables names k p r e) None (own (ty p r e) (cause_of tables k p r e) at) none_in (own_in (ty p r e) (cause_of tables k p r e) at h)

  local_in : (p : NameScope) (x at : ℕ) → P at → In (own_local tables p x at)
  local_in p x at h =
      then_in (unless (not (is_dollar tables.names x)) UnknownName at) (unless (not (is_twice p x)) TwiceNamed at)
      (unless_in (not (is_dollar tables.names x)) UnknownName at h) (unless_in (not (is_twice p x)) TwiceNamed at h)

  pub bound_in : (p : NameScope) (shape : Option Annotation) (first : OptionalTree) (at : ℕ) → P at → In (own_bound tables names k p shape first at)
  bound_in p None first at h = own_in (bound tables names k p None first) NeedsType at h
  bound_in p (Some a) absent at h = none_in
  bound_in p (Some a) (present e) at h = unless_in (fits k (ty p Given e) (kind_of names a)) Mismatch at h

  test_in : (p : NameScope) (test : OptionalTree) (at : ℕ) → P at → In (test_failure tables k p test at)
  test_in p absent at h = none_in
  test_in p (present e) at h = unless_in (is_boolean (ty p Free e)) Mismatch at h

  -- a call, by what the board's table says of what is called
  abbrev call_failure : NameScope → Tree → Trees → Option StaticType → Code → ℕ → Option BoardCall → Option Failure
  call_failure p f args o code at b = elim b [
    | Some call ↦ failures tables names k p (row_of call).takes args then own o code at
    | None ↦ bad p Called f then failures tables names k p [] args then own o code at
  ]

  call_in : (p : NameScope) (f : Tree) (args : Trees) (o : Option StaticType) (code : Code) (at : ℕ) (b : Option BoardCall) → P at → In (bad p Called f) → ((takes : List BoardParameter) → In (failures tables names k p takes args))
      → In (call_failure p f args o code at b)
  call_in p f args o code at (Some call) h g each = then_in (failures tables names k p (row_of call).takes args) (own o code at) (each (row_of call).takes) (own_in o code at h)
  call_in p f args o code at None h g each =
      then_in (bad p Called f) (failures tables names k p [] args then own o code at) g (then_in (failures tables names k p [] args) (own o code at) (each []) (own_in o code at h))

  -- parts, and then the node itself
  one_in : (p : NameScope) (r : Role) (a e : Tree) (at : ℕ) → In (bad p Free a) → P at → In (bad p Free a then own (ty p r e) Mismatch at)
  one_in p r a e at g h = then_in (bad p Free a) (own (ty p r e) Mismatch at) g (own_in (ty p r e) Mismatch at h)

  two_in : (x y : Option Failure) (p : NameScope) (r : Role) (e : Tree) (at : ℕ) → In x → In y → P at → In (x then y then own (ty p r e) Mismatch at)
  two_in x y p r e at f g h = then_in x (y then own (ty p r e) Mismatch at) f (then_in y (own (ty p r e) Mismatch at) g (own_in (ty p r e) Mismatch at h))

  mutual
    pub failure_in : (p : NameScope) (r : Role) (e : Tree) → TreeAt P e → In (failure tables names k p r e)
    failure_in p r (Num at n) h = none_in
    failure_in p r (Text at n) h = none_in
    failure_in p r (Truth at b) h = none_in
    failure_in p r (Null at) h = none_in
    failure_in p r (This at) h = own_in (ty p r (This at)) (cause_of tables k p r (This at)) at h
    failure_in p r (Name at x) h = unsuited_in p r (Name at x) at h
    failure_in p r (Unary at op a) h = one_in p r a (Unary at op a) at (failure_in p Free a h.1) h.0
    failure_in p r (Binary at op a b) h = two_in (bad p Free a) (bad p Free b) p r (Binary at op a b) at (failure_in p Free a h.1) (failure_in p Free b h.2) h.0
    failure_in p r (Both at a b) h = two_in (bad p Free a) (bad p Free b) p r (Both at a b) at (failure_in p Free a h.1) (failure_in p Free b h.2) h.0
    failure_in p r (Either at a b) h = two_in (bad p Free a) (bad p Free b) p r (Either at a b) at (failure_in p Free a h.1) (failure_in p Free b h.2) h.0
    failure_in p r (Choice at c a b) h =
        then_in (bad p Free c) (bad p Free a then bad p Free b then own (ty p r (Choice at c a b)) Mismatch at) (failure_in p Free c h.1)
        (two_in (bad p Free a) (bad p Free b) p r (Choice at c a b) at (failure_in p Free a h.2) (failure_in p Free b h.3) h.0)
    failure_in p r (Set at op x e) h = two_in (bad p Free x) (bad p Given e) p r (Set at op x e) at (failure_in p Free x h.1) (failure_in p Given e h.2) h.0
    failure_in p r (Bump at x by late) h = one_in p r x (Bump at x by late) at (failure_in p Free x h.1) h.0
    failure_in p r (Member at a m) h =
        let here : Bool = is_of_board tables k p (Member at a m) in
        then_in (if here then None else bad p Free a) (unsuited tables names k p r (Member at a m) at) (if_in here None (bad p Free a) none_in (failure_in p Free a h.1)) (unsuited_in p r (Member at a m) at h.0)
    failure_in p r (Item at a i) h = two_in (bad p Free a) (bad p Free i) p r (Item at a i) at (failure_in p Free a h.1) (failure_in p Free i h.2) h.0
    failure_in p r (Items at none) h = own_in (ty p r (Items at none)) Mismatch at h.0
    failure_in p r (Items at (more e rest)) h =
        two_in (bad p Free e) (failures tables names k p [] rest) p r (Items at (more e rest)) at (failure_in p Free e h.1.0) (failures_in p [] rest h.1.1) h.0
    failure_in p r (Call at f args) h =
        call_in p f args (ty p r (Call at f args)) (cause_of tables k p r (Call at f args)) at (board_callee tables k p f) h.0 (failure_in p Called f h.1) (λ takes. failures_in p takes args h.2)
    failure_in p r (SuperCall at m args) h =
        then_in (failures tables names k p [] args) (own (ty p r (SuperCall at m args)) (cause_of tables k p r (SuperCall at m args)) at) (failures_in p [] args h.1)
        (own_in (ty p r (SuperCall at m args)) (cause_of tables k p r (SuperCall at m args)) at h.0)
    failure_in p r (Make at x args) h =
        then_in (failures tables names k p [] args) (own (ty p r (Make at x args)) (cause_of tables k p r (Make at x args)) at) (failures_in p [] args h.1)
        (own_in (ty p r (Make at x args)) (cause_of tables k p r (Make at x args)) at h.0)
    failure_in p r (Handler at body) h =
        then_in (handler_failure tables names k p body) (unsuited tables names k p r (Handler at body) at) (handler_in p body h.1) (unsuited_in p r (Handler at body) at h.0)

    pub failures_in : (p : NameScope) (takes : List BoardParameter) (args : Trees) → TreesAt P args → In (failures tables names k p takes args)
    failures_in p takes none h = none_in
    failures_in p takes (more e rest) h =
        then_in (bad p (role_of takes) e) (failures tables names k p (behind takes) rest) (failure_in p (role_of takes) e h.0) (failures_in p (behind takes) rest h.1)

    handler_in : (p : NameScope) (body : Routine) → RoutineAt P body → In (handler_failure tables names k p body)
    handler_in p (Does at params gives all arrow) h =
        then_in (parameter_types_failure names params) (written_failure names at gives then statements_failure tables names k (handler_place tables names k p params gives all) all)
        (parameter_types_in names params h.1)
        (then_in (written_failure names at gives) (statements_failure tables names k (handler_place tables names k p params gives all) all) (written_in names at gives h.0 h.2)
        (statements_in (handler_place tables names k p params gives all) all h.3))

    pub initial_in : (p : NameScope) (shape : Option Annotation) (first : OptionalTree) → OptionAt P first → In (initial_failure tables names k p shape first)
    initial_in p shape absent h = none_in
    initial_in p shape (present e) h = if_in (waives shape e) None (bad p (kind_role shape) e) none_in (failure_in p (kind_role shape) e h)

    optional_in : (p : NameScope) (e : OptionalTree) → OptionAt P e → In (optional_failure tables names k p e)
    optional_in p absent h = none_in
    optional_in p (present e) h = failure_in p Free e h

    declaration_in : (p : NameScope) (a : Declaration) → DeclarationAt P a → In (declaration_failure tables names k p a)
    declaration_in p (Declare at x shape first) h =
        then_in (written_failure names at shape) (initial_failure tables names k p shape first then own_local tables p x at then own_bound tables names k p shape first at) (written_in names at shape h.0 h.1)
        (then_in (initial_failure tables names k p shape first) (own_local tables p x at then own_bound tables names k p shape first at) (initial_in p shape first h.2)
        (then_in (own_local tables p x at) (own_bound tables names k p shape first at) (local_in p x at h.0) (bound_in p shape first at h.0)))

    declarations_in : (p : NameScope) (fixed : Bool) (each : Declarations) → DeclarationsAt P each → In (declarations_failure tables names k p fixed each)
    declarations_in p fixed ended h = none_in
    declarations_in p fixed (next a rest) h =
        then_in (declaration_failure tables names k p a) (declarations_failure tables names k (after tables names k p (Let 0 fixed (next a ended))) fixed rest) (declaration_in p a h.0)
        (declarations_in (after tables names k p (Let 0 fixed (next a ended))) fixed rest h.1)

    pub statement_in : (p : NameScope) (a : Statement) → StatementAt P a → In (statement_failure tables names k p a)
    statement_in p (Block at all) h = statements_in (inner p) all h.1
    statement_in p (Let at fixed each) h = declarations_in p fixed each h.1
    statement_in p (IfOnly at test a) h =
        then_in (bad p Free test) (statement_failure tables names k (inner p) a then unless (is_boolean (ty p Free test)) Mismatch at) (failure_in p Free test h.1)
        (then_in (statement_failure tables names k (inner p) a) (unless (is_boolean (ty p Free test)) Mismatch at) (statement_in (inner p) a h.2) (unless_in (is_boolean (ty p Free test)) Mismatch at h.0))
    statement_in p (IfElse at test a b) h =
        then_in (bad p Free test) (statement_failure tables names k (inner p) a then statement_failure tables names k (inner p) b then unless (is_boolean (ty p Free test)) Mismatch at) (failure_in p Free test h.1)
        (then_in (statement_failure tables names k (inner p) a) (statement_failure tables names k (inner p) b then unless (is_boolean (ty p Free test)) Mismatch at) (statement_in (inner p) a h.2)
        (then_in (statement_failure tables names k (inner p) b) (unless (is_boolean (ty p Free test)) Mismatch at) (statement_in (inner p) b h.3) (unless_in (is_boolean (ty p Free test)) Mismatch at h.0)))
    statement_in p (While at test a) h =
        then_in (bad p Free test) (statement_failure tables names k (inner p) a then unless (is_boolean (ty p Free test)) Mismatch at) (failure_in p Free test h.1)
        (then_in (statement_failure tables names k (inner p) a) (unless (is_boolean (ty p Free test)) Mismatch at) (statement_in (inner p) a h.2) (unless_in (is_boolean (ty p Free test)) Mismatch at h.0))
    statement_in p (DoWhile at a test) h =
        then_in (statement_failure tables names k (inner p) a) (bad p Free test then unless (is_boolean (ty p Free test)) Mismatch at) (statement_in (inner p) a h.1)
        (then_in (bad p Free test) (unless (is_boolean (ty p Free test)) Mismatch at) (failure_in p Free test h.2) (unless_in (is_boolean (ty p Free test)) Mismatch at h.0))
    statement_in p (For at first test step a) h =
        let q = after_first tables names k (inner p) first in
        then_in (first_failure tables names k (inner p) first)
        (optional_failure tables names k q test then optional_failure tables names k q step then statement_failure tables names k (inner q) a then test_failure tables k q test at)
        (first_in (inner p) first h.1)
        (then_in (optional_failure tables names k q test) (optional_failure tables names k q step then statement_failure tables names k (inner q) a then test_failure tables k q test at) (optional_in q test h.2)
        (then_in (optional_failure tables names k q step) (statement_failure tables names k (inner q) a then test_failure tables k q test at) (optional_in q step h.3)
        (then_in (statement_failure tables names k (inner q) a) (test_failure tables k q test at) (statement_in (inner q) a h.4) (test_in q test at h.0))))
    statement_in p (ForOf at fixed x list a) h =
        let q = inner (looped tables k p fixed x list) in
        then_in (bad p Free list) (statement_failure tables names k q a then unless (not (is_dollar tables.names x)) UnknownName at then unless (is_list (ty p Free list)) Mismatch at) (failure_in p Free list h.1)
        (then_in (statement_failure tables names k q a) (unless (not (is_dollar tables.names x)) UnknownName at then unless (is_list (ty p Free list)) Mismatch at) (statement_in q a h.2)
        (then_in (unless (not (is_dollar tables.names x)) UnknownName at) (unless (is_list (ty p Free list)) Mismatch at) (unless_in (not (is_dollar tables.names x)) UnknownName at h.0)
        (unless_in (is_list (ty p Free list)) Mismatch at h.0)))
    statement_in p (Return at absent) h = unless_in (is_nothing p.gives) Mismatch at h.0
    statement_in p (Return at (present e)) h =
        then_in (bad p (kind_role p.gives) e) (unless (fits k (ty p (kind_role p.gives) e) p.gives) Mismatch at) (failure_in p (kind_role p.gives) e h.1)
        (unless_in (fits k (ty p (kind_role p.gives) e) p.gives) Mismatch at h.0)
    statement_in p (Break at) h = none_in
    statement_in p (Continue at) h = none_in
    statement_in p (Plain at e) h = failure_in p Free e h.1
    statement_in p (Empty at) h = none_in

    first_in : (p : NameScope) (first : OptionalStatement) → FirstAt P first → In (first_failure tables names k p first)
    first_in p omitted h = none_in
    first_in p (written a) h = statement_in p a h

    pub statements_in : (p : NameScope) (all : Statements) → StatementsAt P all → In (statements_failure tables names k p all)
    statements_in p done h = none_in
    statements_in p (also s rest) h =
        then_in (statement_failure tables names k p s) (statements_failure tables names k (after tables names k p s) rest) (statement_in p s h.0) (statements_in (after tables names k p s) rest h.1)
