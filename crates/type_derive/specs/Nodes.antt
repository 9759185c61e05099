-- The first failure of an expression: its parts in text order, then its own.
use Rattle.std.specs.Prelude.{ℕ, Bool, true, false, not, ◌&&◌, ◌||◌, Option, Some, None, List, [], ◌∷◌, ◌++◌, is_some, if◌then◌else◌}
use Rattle.sts_base.specs.declared.tables.Tables.{Tables}
use Rattle.sts_base.specs.declared.refused.Code.{Code}
use Rattle.sts_base.specs.declared.refused.Code.TheVariants.{UnknownName, TwiceNamed, NeedsType, BadHandler, Mismatch}
use Rattle.sts_syntax.specs.Annotations.{Annotation}
use Rattle.sts_syntax.specs.BoardTable as board
use Rattle.sts_syntax.specs.BoardTable.{BoardParameter, row_of}
use Rattle.sts_syntax.specs.Trees.{Parameter, Tree, This, Name, Unary, Binary, Both, Either, Choice, Set, Bump, Member, Item, Call, SuperCall, Make, Items, Handler, Trees, none, more, OptionalTree, absent, present, Statement, Block, Let, IfOnly, IfElse, While, DoWhile, For, ForOf, Return, Plain, Statements, done, also, OptionalStatement, omitted, written, Declaration, Declare, Declarations, ended, next, Routine, Does}
use Rattle.sts_scope.specs.declared.kinds.StaticType.{StaticType}
use Rattle.sts_scope.specs.declared.known.Known.{Known}
use Rattle.sts_scope.specs.declared.known.Found.{Found}
use Rattle.sts_scope.specs.declared.known.Found.TheVariants as found
use Rattle.sts_scope.specs.Kinds.{is_array}
use Rattle.sts_scope.specs.Failures.{Failure, ◌then◌, unless, own}
use Rattle.sts_scope.specs.Entries.{Naming, kind_of}
use Rattle.sts_scope.specs.Globals.{is_dollar}
use Rattle.sts_scope.specs.Headings.{written_failure}
use Rattle.sts_scope.specs.Places.{NameScope, in_handler, inner, is_twice}
use Rattle.sts_scope.specs.Rules.{part_of, kind_at, is_nothing, is_boolean, serves}
use Rattle.sts_scope.specs.Codes.{why_name, why_this, why_part, why_call, why_make, why_super}
use Rattle.type_derive.specs.declared.roles.Role.{Role}
use Rattle.type_derive.specs.declared.roles.Role.TheVariants.{Free, Given, Called, Served}
use Rattle.type_derive.specs.Typing.{fits, finds, constant_of, board_callee, callee_of, super_method, type_of, is_routine, role_of, behind}
use Rattle.type_derive.specs.Returns.{is_alone, parameter_locals, all_returned, answered, bound, after, after_first, looped}

abbrev pub takes_nothing : List Parameter → Bool
takes_nothing [] = true
takes_nothing (q ∷ rest) = false

-- what the place of a value does with it: where a type is known to be given, `[]` fits
abbrev pub kind_role : {A : Type 0} → Option A → Role
kind_role None = Free
kind_role (Some a) = Given

abbrev pub parameter_types_failure : Naming → List Parameter → Option Failure
parameter_types_failure names [] = None
parameter_types_failure names (q ∷ rest) = written_failure names q.at q.shape then parameter_types_failure names rest

-- `null` or `[]` alone is an initialiser without a type
abbrev pub waives : Option Annotation → Tree → Bool
waives None e = is_alone e
waives (Some a) e = false

abbrev pub is_list : Option StaticType → Bool
is_list None = false
is_list (Some t) = is_array t

-- a name that is read; where a handler is wanted, the result of a function may be what can't be told
abbrev pub why_named : Known → Role → Found → Code
why_named k Served (found.Function d) = elim (kind_at k d) [ None ↦ NeedsType | Some t ↦ BadHandler ]
why_named k r f = why_name f

-- in a handler its own parameters are known
abbrev pub handler_within : Naming → NameScope → List Parameter → Option StaticType → NameScope
handler_within names p params gives =
    let q = in_handler p gives in inner (record q { locals = q.locals ++ parameter_locals names params })

-- a name that is declared in a block
abbrev pub own_local : Tables → NameScope → ℕ → ℕ → Option Failure
own_local tables p x at =
    unless (not (is_dollar tables.names x)) UnknownName at then unless (not (is_twice p x)) TwiceNamed at

module _ (tables : Tables) (k : Known) where
  -- no function stands where a handler is wanted
  abbrev pub lacks_handler : NameScope → List BoardParameter → Trees → Bool
  lacks_handler p (board.Handler ∷ ps) (more a rest) = not (is_routine tables k p a) || lacks_handler p ps rest
  lacks_handler p (_ ∷ ps) (more a rest) = lacks_handler p ps rest
  lacks_handler p _ _ = false

  -- Why a node has no type although its parts have no failure: its forms in the order of the list in docs/LANGUAGE.md.
  abbrev pub cause_of : NameScope → Role → Tree → Code
  cause_of p r (Name at x) = why_named k r (finds tables k p x)
  cause_of p r (Member at a m) = elim (board_callee tables k p (Member at a m)) [
    | Some call ↦ BadHandler
    | None ↦ elim (type_of tables k p Free a) [ None ↦ Mismatch | Some u ↦ why_part (part_of tables.names k u m) ]
  ]
  cause_of p r (This at) = why_this p.this
  cause_of p r (Make at x args) = why_make (finds tables k p x)
  cause_of p r (SuperCall at (Some m) args) = elim (super_method k p.this m) [
    | None ↦ why_super k p.this m
    | Some d ↦ why_call (kind_at k d)
  ]
  cause_of p r (Call at f args) = elim (board_callee tables k p f) [
    | Some call ↦ if lacks_handler p (row_of call).takes args then BadHandler else Mismatch
    | None ↦ elim (callee_of tables k p f) [ None ↦ Mismatch | Some d ↦ why_call d.gives ]
  ]
  cause_of p r (Handler at body) = BadHandler
  cause_of p r e = Mismatch

  -- a node whose parts have no failure has no type
  abbrev pub untyped : NameScope → Role → Tree → ℕ → Option Failure
  untyped p r e at = own (type_of tables k p r e) (cause_of p r e) at

  -- `a.m` is a part of the board's interface, before which `a` is no node
  abbrev pub is_of_board : NameScope → Tree → Bool
  is_of_board p (Member at a m) = is_some (constant_of tables k p a m) || is_some (board_callee tables k p (Member at a m))
  is_of_board p e = false

  -- a test isn't boolean
  abbrev pub own_test : NameScope → Tree → ℕ → Option Failure
  own_test p test at = unless (is_boolean (type_of tables k p Free test)) Mismatch at

  abbrev pub test_failure : NameScope → OptionalTree → ℕ → Option Failure
  test_failure p absent at = None
  test_failure p (present e) at = own_test p e at

module _ (tables : Tables) (names : Naming) (k : Known) where
  -- its result is the one that is written, else that of its first value, as any function's
  abbrev pub handler_result : NameScope → List Parameter → Option Annotation → Statements → Option StaticType
  handler_result p params (Some a) all = kind_of names a
  handler_result p params None all =
      answered (all_returned tables names k (handler_within names p params None) all)

  abbrev pub handler_place : NameScope → List Parameter → Option Annotation → Statements → NameScope
  handler_place p params gives all = handler_within names p params (handler_result p params gives all)

  -- a function expression that may be a handler takes nothing, and its result is nothing
  abbrev pub serves_itself : NameScope → Routine → Bool
  serves_itself p (Does at params gives all arrow) =
      takes_nothing params && is_nothing (handler_result p params gives all)

  -- Some nodes need no type in their place: what is called, and where a handler is wanted a function that takes nothing and gives nothing.
  abbrev pub suits : NameScope → Role → Tree → Bool
  suits p Called e = is_of_board tables k p e || is_some (callee_of tables k p e)
  suits p Served (Name at x) = serves k (finds tables k p x)
  suits p Served (Handler at body) = serves_itself p body
  suits p r e = false

  abbrev pub unsuited : NameScope → Role → Tree → ℕ → Option Failure
  unsuited p r e at = if suits p r e then None else untyped tables k p r e at

  -- the type of a declared name
  abbrev pub own_bound : NameScope → Option Annotation → OptionalTree → ℕ → Option Failure
  own_bound p None first at = own (bound tables names k p None first) NeedsType at
  own_bound p (Some a) absent at = None
  own_bound p (Some a) (present e) at = unless (fits k (type_of tables k p Given e) (kind_of names a)) Mismatch at

  abbrev mutual
    pub failure : NameScope → Role → Tree → Option Failure
    failure p r (This at) = untyped tables k p r (This at) at
    failure p r (Name at x) = unsuited p r (Name at x) at
    failure p r (Unary at op a) = failure p Free a then untyped tables k p r (Unary at op a) at
    failure p r (Binary at op a b) = failure p Free a then failure p Free b then untyped tables k p r (Binary at op a b) at
    failure p r (Both at a b) = failure p Free a then failure p Free b then untyped tables k p r (Both at a b) at
    failure p r (Either at a b) = failure p Free a then failure p Free b then untyped tables k p r (Either at a b) at
    failure p r (Choice at c a b) =
        failure p Free c then failure p Free a then failure p Free b then untyped tables k p r (Choice at c a b) at
    failure p r (Set at op x e) = failure p Free x then failure p Given e then untyped tables k p r (Set at op x e) at
    failure p r (Bump at x by late) = failure p Free x then untyped tables k p r (Bump at x by late) at
    failure p r (Member at a m) =
        (if is_of_board tables k p (Member at a m) then None else failure p Free a) then unsuited p r (Member at a m) at
    failure p r (Item at a i) = failure p Free a then failure p Free i then untyped tables k p r (Item at a i) at
    failure p r (Items at none) = untyped tables k p r (Items at none) at
    failure p r (Items at (more e rest)) =
        failure p Free e then failures p [] rest then untyped tables k p r (Items at (more e rest)) at
    failure p r (Call at f args) = elim (board_callee tables k p f) [
      | Some call ↦ failures p (row_of call).takes args then untyped tables k p r (Call at f args) at
      | None ↦ failure p Called f then failures p [] args then untyped tables k p r (Call at f args) at
    ]
    failure p r (SuperCall at m args) = failures p [] args then untyped tables k p r (SuperCall at m args) at
    failure p r (Make at x args) = failures p [] args then untyped tables k p r (Make at x args) at
    failure p r (Handler at body) = handler_failure p body then unsuited p r (Handler at body) at
    failure p r _ = None

    -- of arguments, by what their places do with them
    pub failures : NameScope → List BoardParameter → Trees → Option Failure
    failures p takes none = None
    failures p takes (more e rest) = failure p (role_of takes) e then failures p (behind takes) rest

    pub handler_failure : NameScope → Routine → Option Failure
    handler_failure p (Does at params gives all arrow) =
        parameter_types_failure names params then written_failure names at gives
        then statements_failure (handler_place p params gives all) all

    -- of an initialiser; `null` or `[]` alone fails where it is declared
    pub initial_failure : NameScope → Option Annotation → OptionalTree → Option Failure
    initial_failure p shape absent = None
    initial_failure p shape (present e) = if waives shape e then None else failure p (kind_role shape) e

    pub optional_failure : NameScope → OptionalTree → Option Failure
    optional_failure p absent = None
    optional_failure p (present e) = failure p Free e

    -- of a declared name in a block
    pub declaration_failure : NameScope → Declaration → Option Failure
    declaration_failure p (Declare at x shape first) =
        written_failure names at shape then initial_failure p shape first then own_local tables p x at
        then own_bound p shape first at

    pub declarations_failure : NameScope → Bool → Declarations → Option Failure
    declarations_failure p fixed ended = None
    declarations_failure p fixed (next a rest) =
        declaration_failure p a
        then declarations_failure (after tables names k p (Let 0 fixed (next a ended))) fixed rest

    -- of a statement
    pub statement_failure : NameScope → Statement → Option Failure
    statement_failure p (Block at all) = statements_failure (inner p) all
    statement_failure p (Let at fixed each) = declarations_failure p fixed each
    statement_failure p (IfOnly at test a) =
        failure p Free test then statement_failure (inner p) a then own_test tables k p test at
    statement_failure p (IfElse at test a b) =
        failure p Free test then statement_failure (inner p) a then statement_failure (inner p) b
        then own_test tables k p test at
    statement_failure p (While at test a) =
        failure p Free test then statement_failure (inner p) a then own_test tables k p test at
    statement_failure p (DoWhile at a test) =
        statement_failure (inner p) a then failure p Free test then own_test tables k p test at
    statement_failure p (For at first test step a) =
        let q = after_first tables names k (inner p) first in
        first_failure (inner p) first then optional_failure q test then optional_failure q step
        then statement_failure (inner q) a then test_failure tables k q test at
    statement_failure p (ForOf at fixed x list a) =
        failure p Free list then statement_failure (inner (looped tables k p fixed x list)) a
        then unless (not (is_dollar tables.names x)) UnknownName at
        then unless (is_list (type_of tables k p Free list)) Mismatch at
    statement_failure p (Return at absent) = unless (is_nothing p.gives) Mismatch at
    statement_failure p (Return at (present e)) =
        failure p (kind_role p.gives) e
        then unless (fits k (type_of tables k p (kind_role p.gives) e) p.gives) Mismatch at
    statement_failure p (Plain at e) = failure p Free e
    statement_failure p _ = None

    pub first_failure : NameScope → OptionalStatement → Option Failure
    first_failure p omitted = None
    first_failure p (written a) = statement_failure p a

    pub statements_failure : NameScope → Statements → Option Failure
    statements_failure p done = None
    statements_failure p (also s rest) = statement_failure p s then statements_failure (after tables names k p s) rest
