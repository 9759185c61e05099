-- The failures behind the headings: overriding methods, then nodes.
use Rattle.std.specs.Prelude.{ℕ, suc, ◌+◌, Bool, true, false, ◌&&◌, Option, Some, None, List, [], ◌∷◌, length}
use Rattle.sts_base.specs.declared.tables.Tables.{Tables}
use Rattle.sts_base.specs.declared.refused.Code.TheVariants.{Mismatch}
use Rattle.sts_syntax.specs.Trees.{SuperCall, Statement, Let, Plain, Statements, also, Declaration, Declare, Declarations, ended, next, Routine, Does}
use Rattle.sts_syntax.specs.Programs.{ClassMember, Field, Method, Constructor, TopLevel, Class, Function, Main, Program}
use Rattle.sts_scope.specs.declared.kinds.StaticType.{StaticType}
use Rattle.sts_scope.specs.declared.known.Known.{Known}
use Rattle.sts_scope.specs.declared.known.This.{This}
use Rattle.sts_scope.specs.declared.known.This.TheVariants as this
use Rattle.sts_scope.specs.Kinds.{nothing, same}
use Rattle.sts_scope.specs.Failures.{Failure, ◌then◌, failure_at, unless}
use Rattle.sts_scope.specs.Entries.{Naming, classes_in, item_entries}
use Rattle.sts_scope.specs.Lookup.{base_of, inherited}
use Rattle.sts_scope.specs.Headings.{routine_at, written_failure}
use Rattle.sts_scope.specs.Places.{NameScope, outside}
use Rattle.sts_scope.specs.Rules.{takes_at, kind_at, maker_takes_of, all_go}
use Rattle.type_derive.specs.Typing.{types_of}
use Rattle.type_derive.specs.Returns.{parameter_locals, within}
use Rattle.type_derive.specs.Nodes.{initial_failure, own_bound, failures, statement_failure, statements_failure}

abbrev pub same_kinds : List StaticType → List StaticType → Bool
same_kinds [] [] = true
same_kinds (s ∷ ss) (t ∷ ts) = same s t && same_kinds ss ts
same_kinds _ _ = false

-- a result that can't be derived counts as equal to every other
abbrev pub same_result : Option StaticType → Option StaticType → Bool
same_result (Some s) (Some t) = same s t
same_result _ _ = true

module _ (k : Known) where
  abbrev pub agrees : ℕ → Option ℕ → Bool
  agrees d None = true
  agrees d (Some e) =
      same_kinds (takes_at k.entries d) (takes_at k.entries e) && same_result (kind_at k d) (kind_at k e)

  -- a method against the nearest one of its name in its bases
  abbrev pub overrides_failure : ℕ → ℕ → List ClassMember → Option Failure
  overrides_failure c d [] = None
  overrides_failure c d (Field a ∷ rest) = overrides_failure c (suc d) rest
  overrides_failure c d (Method x r ∷ rest) =
      unless (agrees d (inherited k.entries k.classes c x)) Mismatch (routine_at r)
      then overrides_failure c (suc d) rest
  overrides_failure c d (Constructor r ∷ rest) = overrides_failure c d rest

  abbrev pub item_overrides : ℕ → ℕ → TopLevel → Option Failure
  item_overrides c d (Class at x base base_at members) = overrides_failure c (suc d) members
  item_overrides c d _ = None

  abbrev pub all_overrides : Naming → ℕ → ℕ → Program → Option Failure
  all_overrides names c d [] = None
  all_overrides names c d (i ∷ rest) =
      item_overrides c d i then all_overrides names (c + classes_in i) (d + length (item_entries names c i)) rest

-- `super(..)` calls the base's constructor
abbrev pub own_super_call : Known → Option (List StaticType) → List StaticType → ℕ → Option Failure
own_super_call k None takes at = failure_at Mismatch at
own_super_call k (Some ts) takes at = unless (all_go k.classes ts takes) Mismatch at

-- The nodes of a text.
module _ (tables : Tables) (names : Naming) (k : Known) where
  -- a field or a global is declared outside all functions
  abbrev pub outside_failure : This → Declaration → Option Failure
  outside_failure self (Declare at x shape first) =
      written_failure names at shape then initial_failure tables names k (outside self false None) shape first
      then own_bound tables names k (outside self false None) shape first at

  abbrev pub globals_failure : Declarations → Option Failure
  globals_failure ended = None
  globals_failure (next a rest) = outside_failure this.Nowhere a then globals_failure rest

  abbrev pub main_failure : Statement → Option Failure
  main_failure (Let at fixed each) = globals_failure each
  main_failure a = statement_failure tables names k (outside this.Nowhere false None) a

  -- a function's statements, where `this` and the result are these
  abbrev pub body_failure : This → Option StaticType → Routine → Option Failure
  body_failure self result (Does at params gives all arrow) =
      statements_failure tables names k (within (parameter_locals names params) self result false) all

  -- The first statement of a constructor of a class with the base b is `super(..)`; where it isn't, the constructor itself fails behind its statements.
  abbrev pub made_failure : NameScope → ℕ → ℕ → Statements → Option Failure
  made_failure p at b (also (Plain j (SuperCall i None args)) rest) =
      failures tables names k p [] args then own_super_call k (types_of tables k p args) (maker_takes_of k.classes b) i
      then statements_failure tables names k p rest
  made_failure p at b all = statements_failure tables names k p all then failure_at Mismatch at

  abbrev pub constructor_failure : This → Option ℕ → Routine → Option Failure
  constructor_failure self None r = body_failure self (Some nothing) r
  constructor_failure self (Some b) (Does at params gives all arrow) =
      made_failure (within (parameter_locals names params) self (Some nothing) false) at b all

  abbrev pub members_nodes : ℕ → ℕ → List ClassMember → Option Failure
  members_nodes c d [] = None
  members_nodes c d (Field a ∷ rest) = outside_failure (this.Object c) a then members_nodes c (suc d) rest
  members_nodes c d (Method x r ∷ rest) = body_failure (this.Object c) (kind_at k d) r then members_nodes c (suc d) rest
  members_nodes c d (Constructor r ∷ rest) =
      constructor_failure (this.Object c) (base_of k.classes c) r then members_nodes c d rest

  abbrev pub item_nodes : ℕ → ℕ → TopLevel → Option Failure
  item_nodes c d (Class at x base base_at members) = members_nodes c (suc d) members
  item_nodes c d (Function x r) = body_failure this.Nowhere (kind_at k d) r
  item_nodes c d (Main a) = main_failure a

  -- the first failure of the parts of a text, which begin with the class c and the d-th declaration
  abbrev pub nodes_failure : ℕ → ℕ → Program → Option Failure
  nodes_failure c d [] = None
  nodes_failure c d (i ∷ rest) =
      item_nodes c d i then nodes_failure (c + classes_in i) (d + length (item_entries names c i)) rest
