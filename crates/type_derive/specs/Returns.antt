-- What declarations make known, and the first value that a function returns.
use Rattle.std.specs.Prelude.{ℕ, Bool, true, false, Option, Some, None, List, [], ◌∷◌, length, if◌then◌else◌}
use Rattle.std.specs.Option.{option_or}
use Rattle.sts_base.specs.declared.tables.Tables.{Tables}
use Rattle.sts_syntax.specs.Annotations.{Annotation}
use Rattle.sts_syntax.specs.Trees.{Parameter, Tree, Null, Items, none, OptionalTree, absent, present, Statement, Block, Let, IfOnly, IfElse, While, DoWhile, For, ForOf, Return, Statements, done, also, OptionalStatement, omitted, written, Declaration, Declare, Declarations, ended, next}
use Rattle.sts_scope.specs.declared.kinds.StaticType.{StaticType}
use Rattle.sts_scope.specs.declared.known.Known.{Known}
use Rattle.sts_scope.specs.declared.known.Local.{Local}
use Rattle.sts_scope.specs.declared.known.This.{This}
use Rattle.sts_scope.specs.Kinds.{nothing, is_array, item}
use Rattle.sts_scope.specs.Entries.{Naming, kind_of, written_kind}
use Rattle.sts_scope.specs.Places.{NameScope, with, inner, local}
use Rattle.type_derive.specs.declared.roles.Role.TheVariants.{Free}
use Rattle.type_derive.specs.Typing.{type_of}

-- `null` or `[]`, which give no type to what they are the initialiser of
abbrev pub is_alone : Tree → Bool
is_alone (Null at) = true
is_alone (Items at none) = true
is_alone _ = false

-- the parameters of a function, each with its type
abbrev pub parameter_locals : Naming → List Parameter → List Local
parameter_locals names [] = []
parameter_locals names (p ∷ rest) = local p.name (written_kind names p.shape) false ∷ parameter_locals names rest

-- the result of a function without a written one: nothing where no value is returned
abbrev pub answered : Option (Option StaticType) → Option StaticType
answered None = Some nothing
answered (Some kind) = kind

-- where a function's statements begin: its parameters are known, and its own block begins behind them
abbrev pub within : List Local → This → Option StaticType → Bool → NameScope
within params this gives library =
    record { around = []; locals = params; block = length params; this = this; gives = gives; library = library }

-- the type of the items that a loop goes through
abbrev pub items_of : Option StaticType → Option StaticType
items_of None = None
items_of (Some t) = if is_array t then Some (item t) else None

-- in the body of a `for of`
abbrev pub looped : Tables → Known → NameScope → Bool → ℕ → Tree → NameScope
looped tables k p fixed x list = with (inner p) x (items_of (type_of tables k p Free list)) fixed

-- Types are written by the names of classes.
module _ (tables : Tables) (names : Naming) (k : Known) where
  -- the type of a declared name: the one that is written, else its initialiser's
  abbrev pub bound : NameScope → Option Annotation → OptionalTree → Option StaticType
  bound p (Some a) first = kind_of names a
  bound p None absent = None
  bound p None (present e) = if is_alone e then None else type_of tables k p Free e

  -- behind a declared name
  abbrev pub declared : NameScope → Bool → Declaration → NameScope
  declared p fixed (Declare at x shape first) = with p x (bound p shape first) fixed

  abbrev pub all_declared : NameScope → Bool → Declarations → NameScope
  all_declared p fixed ended = p
  all_declared p fixed (next a rest) = all_declared (declared p fixed a) fixed rest

  -- behind a statement of the same block
  abbrev pub after : NameScope → Statement → NameScope
  after p (Let at fixed each) = all_declared p fixed each
  after p _ = p

  abbrev pub after_first : NameScope → OptionalStatement → NameScope
  after_first p omitted = p
  after_first p (written a) = after p a

  -- The first value that is returned: none, or its type if it has one.
  abbrev mutual
    pub returned : NameScope → Statement → Option (Option StaticType)
    returned p (Return at (present e)) = Some (type_of tables k p Free e)
    returned p (Block at all) = all_returned (inner p) all
    returned p (IfOnly at test a) = returned (inner p) a
    returned p (IfElse at test a b) = option_or (returned (inner p) a) (returned (inner p) b)
    returned p (While at test a) = returned (inner p) a
    returned p (DoWhile at a test) = returned (inner p) a
    returned p (For at first test step a) = returned (inner (after_first (inner p) first)) a
    returned p (ForOf at fixed x list a) = returned (inner (looped tables k p fixed x list)) a
    returned p _ = None

    pub all_returned : NameScope → Statements → Option (Option StaticType)
    all_returned p done = None
    all_returned p (also s rest) = option_or (returned p s) (all_returned (after p s) rest)
