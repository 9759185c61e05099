-- The types of declarations that aren't written: the least table in which each has the type that its rule gives from the others.
use Rattle.std.specs.Prelude.{◌≡◌, ◌<◌, ℕ, ◌+◌, Bool, Option, Some, None, List, [], ◌∷◌, ◌++◌, length, slice_get, nat_lt, get_or}
use Rattle.sts_base.specs.declared.tables.Tables.{Tables}
use Rattle.sts_syntax.specs.Trees.{Parameter, OptionalTree, Statement, Let, Statements, Declaration, Declare, Declarations, ended, next, Routine, Does}
use Rattle.sts_syntax.specs.Programs.{ClassMember, Field, Method, Constructor, TopLevel, Class, Function, Main, Program}
use Rattle.sts_scope.specs.declared.kinds.StaticType.{StaticType}
use Rattle.sts_scope.specs.declared.known.Known.{Known}
use Rattle.sts_scope.specs.declared.known.This.{This}
use Rattle.sts_scope.specs.declared.known.This.TheVariants as this
use Rattle.sts_scope.specs.Entries.{Naming, kind_of, classes_in}
use Rattle.sts_scope.specs.Places.{outside}
use Rattle.sts_scope.specs.Scopes.{all_names, all_entries, all_classes, library_entries}
use Rattle.type_derive.specs.Returns.{bound, parameter_locals, within, all_returned, answered}

-- the type of each declaration, where it is known
abbrev pub TypeTable : Type 0
TypeTable = List (Option StaticType)

-- How the type of a declaration follows: it is known, or that of an initialiser, or that of the first value that is returned.
pub data Source : Type 0 where
  Stated : (kind : Option StaticType) → Source
  Initial : (this : This) (first : OptionalTree) → Source
  Returns : (this : This) (params : List Parameter) (all : Statements) → Source

module _ (names : Naming) where
  abbrev pub declared_source : This → Declaration → Source
  declared_source self (Declare at x (Some a) first) = Stated (kind_of names a)
  declared_source self (Declare at x None first) = Initial self first

  abbrev pub routine_source : This → Routine → Source
  routine_source self (Does at params (Some a) all arrow) = Stated (kind_of names a)
  routine_source self (Does at params None all arrow) = Returns self params all

  abbrev pub global_sources : Declarations → List Source
  global_sources ended = []
  global_sources (next a rest) = declared_source this.Nowhere a ∷ global_sources rest

  abbrev pub main_sources : Statement → List Source
  main_sources (Let at fixed each) = global_sources each
  main_sources _ = []

  abbrev pub member_sources : ℕ → List ClassMember → List Source
  member_sources c [] = []
  member_sources c (Field a ∷ rest) = declared_source (this.Object c) a ∷ member_sources c rest
  member_sources c (Method x r ∷ rest) = routine_source (this.Object c) r ∷ member_sources c rest
  member_sources c (Constructor r ∷ rest) = member_sources c rest

  abbrev pub item_sources : ℕ → TopLevel → List Source
  item_sources c (Class at x base base_at members) = Stated None ∷ member_sources c members
  item_sources c (Function x r) = routine_source this.Nowhere r ∷ []
  item_sources c (Main a) = main_sources a

  -- one for each declaration, in text order
  abbrev pub sources_from : ℕ → Program → List Source
  sources_from c [] = []
  sources_from c (i ∷ rest) = item_sources c i ++ sources_from (c + classes_in i) rest

  -- the type that follows, where so much is known
  abbrev pub follows : Tables → Known → Bool → Source → Option StaticType
  follows tables k library (Stated kind) = kind
  follows tables k library (Initial self first) = bound tables names k (outside self library None) None first
  follows tables k library (Returns self params all) =
      answered
      (all_returned tables names k (within (parameter_locals names params) self None library) all)

-- what a table has at a place
abbrev pub at : TypeTable → ℕ → Option StaticType
at kinds d = get_or kinds d None

-- what the rule of a declaration gives from a table
abbrev pub rule : Tables → Naming → Known → List Source → TypeTable → ℕ → Option StaticType
rule tables names k sources kinds d = elim (slice_get sources d) [
  | None ↦ None
  | Some source ↦ follows names tables (record k { kinds = kinds }) (nat_lt d k.library) source
]

-- each declaration has the type that its rule gives from the others'
abbrev pub Solves : (TypeTable → ℕ → Option StaticType) → TypeTable → Type 0
Solves rule kinds = (d : ℕ) → d < length kinds → at kinds d ≡ rule kinds d

-- what is known stays
abbrev pub Less : Option StaticType → Option StaticType → Type 0
Less None y = Unit {0}
Less (Some x) y = y ≡ Some x

-- the second table has what the first has, and may have more
abbrev pub Within : TypeTable → TypeTable → Type 0
Within xs ys = (d : ℕ) → Less (at xs d) (at ys d)

-- the least of the tables that meet the rules
pub record IsLeast (rule : TypeTable → ℕ → Option StaticType)
    (kinds : TypeTable) : Type 0 where
  pub solves : Solves rule kinds
  pub least : (others : TypeTable) → length others ≡ length kinds → Solves rule others
      → Within kinds others

-- what is known of a library and a text, with this table of types
abbrev pub known : Program → Program → TypeTable → Known
known library text kinds = record {
  entries = all_entries library text;
  classes = all_classes library text;
  kinds = kinds;
  library = library_entries library text;
}

abbrev pub all_sources : Program → Program → List Source
all_sources library text = sources_from (all_names library text) 0 (library ++ text)

-- how the type of each declaration follows from those of the others
abbrev pub derivation : Tables → Program → Program → TypeTable → ℕ → Option StaticType
derivation tables library text kinds d =
    rule tables (all_names library text) (known library text kinds) (all_sources library text) kinds d

-- the types of all declarations: the least table that follows its own rules
pub record AreDerived (tables : Tables) (library text : Program) (kinds : TypeTable) : Type 0 where
  pub each : length kinds ≡ length (all_entries library text)
  pub least : IsLeast (derivation tables library text) kinds
