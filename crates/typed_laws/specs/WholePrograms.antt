-- What the making of a typed program looks for among the declarations (`Programs`), where it is there.
use Rattle.std.specs.Prelude.{◌≡◌, ◌≤◌, ◌<◌, ℕ, ◌+◌, Bool, true, Option, Some, None, List, [], ◌∷◌, length, slice_get, IsSome}
use Rattle.sts_base.specs.declared.tables.Tables.{Tables}
use Rattle.sts_syntax.specs.Trees.{Parameter, SuperCall, Trees, Plain, Statements, also, Routine, Does}
use Rattle.sts_syntax.specs.Programs.{ClassMember, Field, Method, Constructor, TopLevel, Class, Function, Main, Program}
use Rattle.sts_scope.specs.declared.kinds.StaticType.{StaticType}
use Rattle.sts_scope.specs.declared.entries.Owner.TheVariants as o
use Rattle.sts_scope.specs.declared.entries.DeclarationKind.{DeclarationKind}
use Rattle.sts_scope.specs.declared.entries.DeclarationKind.TheVariants as sort
use Rattle.sts_scope.specs.declared.entries.Entry.{Entry}
use Rattle.sts_scope.specs.declared.known.Known.{Known}
use Rattle.sts_scope.specs.declared.known.Found.{Found}
use Rattle.sts_scope.specs.declared.known.Found.TheVariants as found
use Rattle.sts_scope.specs.Entries.{Naming, written_kind, classes_in}
use Rattle.sts_scope.specs.Lookup.{base_of, member_number, sort_of}
use Rattle.sts_scope.specs.Numbers.{Numbering, global_number, field_names, slot_names, is_listed, place_among}
use Rattle.sts_scope.specs.Rules.{kind_at}
use Rattle.sts_scope.specs.Scopes.{is_global, names_of}
use Rattle.type_derive.specs.Derived.{AreDerived}
use Rattle.typed_laws.specs.Accepted.{text_failure}
use Rattle.typed_laws.specs.Libraries.{OnlyFunctions}
use Rattle.typed_laws.specs.Chains.{BasesAreClasses}

-- a text is accepted behind a library of functions, with these types of all declarations
pub record IsAcceptedWith (tables : Tables) (library text : Program) (kinds : List (Option StaticType)) : Type 0 where
  pub functions : OnlyFunctions library
  pub derived : AreDerived tables library text kinds
  pub no_failure : text_failure tables library text kinds ≡ None

-- the place of a name among names is one where it stands
abbrev pub HasItsPlace : List ℕ → ℕ → Type 0
HasItsPlace names x = slice_get names (place_among names x) ≡ Some x

module _ (k : Known) where
  -- Fields, methods, globals, and functions of the text have a type. A class has none; the library's functions aren't checked with a text.
  abbrev pub HasItsType : ℕ → DeclarationKind → Type 0
  HasItsType d sort.Function = k.library ≤ d → IsSome (kind_at k d)
  HasItsType d (sort.Class c) = Unit {0}
  HasItsType d _ = IsSome (kind_at k d)

  abbrev pub DeclarationsHaveTypes : Type 0
  DeclarationsHaveTypes = (d : ℕ) (s : DeclarationKind) → sort_of k.entries d ≡ Some s → HasItsType d s

  -- a class has a member of this name, its own or that of the nearest class above it, which is of this sort
  abbrev pub HasMember : ℕ → ℕ → DeclarationKind → Type 0
  HasMember c x s = (d : ℕ) × (member_number k.entries k.classes c x ≡ Some d) × (sort_of k.entries d ≡ Some s)

  -- The names of a class's fields are those of fields that it has, the names of its slots those of methods. Its own fields and methods stand among them.
  pub record NamesAreMembers : Type 0 where
    pub fields : (c x : ℕ) → c < length k.classes → is_listed (field_names k c) x ≡ true → HasMember c x sort.Field
    pub slots : (c x : ℕ) → c < length k.classes → is_listed (slot_names k c) x ≡ true → HasMember c x sort.Method
    pub own_fields : (d c : ℕ) (a : Entry) → slice_get k.entries d ≡ Some a → a.owner ≡ o.Class c
        → a.sort ≡ sort.Field → HasItsPlace (field_names k c) a.name
    pub own_methods : (d c : ℕ) (a : Entry) → slice_get k.entries d ≡ Some a → a.owner ≡ o.Class c
        → a.sort ≡ sort.Method → HasItsPlace (slot_names k c) a.name

  -- what a name stands for is declared so
  abbrev pub IsDeclaredSo : Found → Type 0
  IsDeclaredSo (found.Global d) = (fixed : Bool) × (sort_of k.entries d ≡ Some (sort.Global fixed))
  IsDeclaredSo (found.Function d) = sort_of k.entries d ≡ Some sort.Function
  IsDeclaredSo (found.Class c) = c < length k.classes
  IsDeclaredSo _ = Unit {0}

  -- A global stands at its number among the globals. Each declaration and each class has a place in the lists of functions' numbers, and each base is a class.
  pub record NumbersAreThere (numbers : Numbering) : Type 0 where
    pub globals : (d : ℕ) (a : Entry) → slice_get k.entries d ≡ Some a → is_global a.sort ≡ true
        → slice_get (names_of is_global k.entries) (global_number k d) ≡ Some a.name
    pub routines : length numbers.routines ≡ length k.entries
    pub makers : length numbers.makers ≡ length k.classes
    pub bases : BasesAreClasses k.classes

-- what is looked for in the functions, methods and constructors of a text
module _ (names : Naming) (k : Known) where
  -- each parameter has a type
  abbrev pub ParametersHaveTypes : List Parameter → Type 0
  ParametersHaveTypes [] = Unit {0}
  ParametersHaveTypes (p ∷ rest) = IsSome (written_kind names p.shape) × ParametersHaveTypes rest

  abbrev pub IsWholeRoutine : Routine → Type 0
  IsWholeRoutine (Does at params gives all arrow) = ParametersHaveTypes params

  -- a constructor of a class with a base begins with `super(..)`
  abbrev pub BeginsAbove : Option ℕ → Routine → Type 0
  BeginsAbove None r = Unit {0}
  BeginsAbove (Some b) (Does at params gives all arrow) =
      (i j : ℕ) × (args : Trees) × (rest : Statements) × (all ≡ also (Plain i (SuperCall j None args)) rest)

  abbrev pub AreWholeMembers : ℕ → List ClassMember → Type 0
  AreWholeMembers c [] = Unit {0}
  AreWholeMembers c (Field a ∷ rest) = AreWholeMembers c rest
  AreWholeMembers c (Method x r ∷ rest) = IsWholeRoutine r × AreWholeMembers c rest
  AreWholeMembers c (Constructor r ∷ rest) =
      IsWholeRoutine r × BeginsAbove (base_of k.classes c) r × AreWholeMembers c rest

  abbrev pub IsWholeItem : ℕ → TopLevel → Type 0
  IsWholeItem c (Class at x base base_at members) = AreWholeMembers c members
  IsWholeItem c (Function x r) = IsWholeRoutine r
  IsWholeItem c (Main a) = Unit {0}

  -- of the parts of a text, which begin with the class c
  abbrev pub IsWholeText : ℕ → Program → Type 0
  IsWholeText c [] = Unit {0}
  IsWholeText c (i ∷ rest) = IsWholeItem c i × IsWholeText (c + classes_in i) rest
