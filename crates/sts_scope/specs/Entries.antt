-- What a program declares by name, in text order: globals, functions and classes, and the fields and methods of
-- classes.
use Rattle.std.specs.Prelude.{ℕ, ◌+◌, Bool, Option, Some, None, List, [], ◌∷◌, ◌++◌, ◌==◌, length, unwrap_or}
use Rattle.std.specs.Option.{option_map, option_and_then}
use Rattle.std.specs.List.{position_from}
use Rattle.sts_syntax.specs.Annotations as s
use Rattle.sts_syntax.specs.Annotations.{Annotation}
use Rattle.sts_syntax.specs.Trees.{Parameter, Statement, Let, Declaration, Declare, Declarations, ended, next, Routine, Does}
use Rattle.sts_syntax.specs.Programs.{ClassMember, Field, Method, Constructor, TopLevel, Class, Function, Main, Program}
use Rattle.sts_scope.specs.declared.kinds.StaticType.{StaticType}
use Rattle.sts_scope.specs.declared.entries.Owner.{Owner}
use Rattle.sts_scope.specs.declared.entries.Owner.TheVariants as o
use Rattle.sts_scope.specs.declared.entries.DeclarationKind.{DeclarationKind}
use Rattle.sts_scope.specs.declared.entries.DeclarationKind.TheVariants as sort
use Rattle.sts_scope.specs.declared.entries.Entry.{Entry}
use Rattle.sts_scope.specs.declared.entries.ClassHead.{ClassHead}
use Rattle.sts_scope.specs.Kinds.{number, boolean, text, nothing, object, array_of}

-- the names of the classes, in text order
abbrev pub item_class : TopLevel → List ℕ
item_class (Class at name base base_at members) = name ∷ []
item_class _ = []

abbrev pub class_names : Program → List ℕ
class_names [] = []
class_names (i ∷ rest) = item_class i ++ class_names rest

-- the number of the class of a name
abbrev pub class_number : List ℕ → ℕ → Option ℕ
class_number names x = position_from (λ y. y == x) 0 names

-- which class a name stands for, by its number
abbrev pub Naming : Type 0
Naming = ℕ → Option ℕ

-- the type that is written, if its name is known and it hasn't too many `[]`
abbrev pub kind_of : Naming → Annotation → Option StaticType
kind_of names s.Number = Some number
kind_of names s.Boolean = Some boolean
kind_of names s.Text = Some text
kind_of names s.Nothing = Some nothing
kind_of names (s.Named at x) = option_map object (names x)
kind_of names (s.ListOf a) = option_and_then array_of (kind_of names a)

abbrev pub written_kind : Naming → Option Annotation → Option StaticType
written_kind names shape = option_and_then (kind_of names) shape

-- what a function takes; a parameter without a known type, which is refused elsewhere, counts as nothing
abbrev pub parameter_kinds : Naming → List Parameter → List StaticType
parameter_kinds names [] = []
parameter_kinds names (p ∷ rest) = unwrap_or (written_kind names p.shape) nothing ∷ parameter_kinds names rest

abbrev pub new_entry : ℕ → Owner → ℕ → DeclarationKind → List StaticType → Entry
new_entry at owner name sort takes = record { at = at; owner = owner; name = name; sort = sort; takes = takes }

abbrev pub routine_entry : Naming → Owner → ℕ → DeclarationKind → Routine → Entry
routine_entry names owner x sort (Does at params gives all arrow) =
    new_entry at owner x sort (parameter_kinds names params)

abbrev pub declared_entry : Owner → DeclarationKind → Declaration → Entry
declared_entry owner sort (Declare at x shape first) = new_entry at owner x sort []

abbrev pub global_entries : Bool → Declarations → List Entry
global_entries fixed ended = []
global_entries fixed (next a rest) = declared_entry o.Whole (sort.Global fixed) a ∷ global_entries fixed rest

-- the globals of a statement of the main program: a declaration in a block is a local
abbrev pub main_entries : Statement → List Entry
main_entries (Let at fixed each) = global_entries fixed each
main_entries _ = []

-- A constructor has no name of its own.
abbrev pub member_entry : Naming → ℕ → ClassMember → List Entry
member_entry names c (Field a) = declared_entry (o.Class c) sort.Field a ∷ []
member_entry names c (Method x r) = routine_entry names (o.Class c) x sort.Method r ∷ []
member_entry names c (Constructor r) = []

abbrev pub member_entries : Naming → ℕ → List ClassMember → List Entry
member_entries names c [] = []
member_entries names c (m ∷ rest) = member_entry names c m ++ member_entries names c rest

-- the declarations of a part of a text, before which stand c classes
abbrev pub item_entries : Naming → ℕ → TopLevel → List Entry
item_entries names c (Class at x base base_at members) =
    new_entry at o.Whole x (sort.Class c) [] ∷ member_entries names c members
item_entries names c (Function x r) = routine_entry names o.Whole x sort.Function r ∷ []
item_entries names c (Main a) = main_entries a

abbrev pub classes_in : TopLevel → ℕ
classes_in i = length (item_class i)

abbrev pub entries_from : Naming → ℕ → Program → List Entry
entries_from names c [] = []
entries_from names c (i ∷ rest) = item_entries names c i ++ entries_from names (c + classes_in i) rest

-- The types that are written for them, one for each; a class has none.
abbrev pub routine_gives : Naming → Routine → Option StaticType
routine_gives names (Does at params gives all arrow) = written_kind names gives

abbrev pub declared_kind : Naming → Declaration → Option StaticType
declared_kind names (Declare at x shape first) = written_kind names shape

abbrev pub global_kinds : Naming → Declarations → List (Option StaticType)
global_kinds names ended = []
global_kinds names (next a rest) = declared_kind names a ∷ global_kinds names rest

abbrev pub main_kinds : Naming → Statement → List (Option StaticType)
main_kinds names (Let at fixed each) = global_kinds names each
main_kinds names _ = []

abbrev pub member_kind : Naming → ClassMember → List (Option StaticType)
member_kind names (Field a) = declared_kind names a ∷ []
member_kind names (Method x r) = routine_gives names r ∷ []
member_kind names (Constructor r) = []

abbrev pub member_kinds : Naming → List ClassMember → List (Option StaticType)
member_kinds names [] = []
member_kinds names (m ∷ rest) = member_kind names m ++ member_kinds names rest

abbrev pub item_kinds : Naming → TopLevel → List (Option StaticType)
item_kinds names (Class at x base base_at members) = None ∷ member_kinds names members
item_kinds names (Function x r) = routine_gives names r ∷ []
item_kinds names (Main a) = main_kinds names a

abbrev pub written_kinds : Naming → Program → List (Option StaticType)
written_kinds names [] = []
written_kinds names (i ∷ rest) = item_kinds names i ++ written_kinds names rest

-- The heads of the classes. What a class's written constructor takes is that of its first one.
abbrev pub base_number : Naming → Option ℕ → Option ℕ
base_number names base = option_and_then names base

abbrev pub routine_takes : Naming → Routine → List StaticType
routine_takes names (Does at params gives all arrow) = parameter_kinds names params

abbrev pub maker_takes : Naming → List ClassMember → Option (List StaticType)
maker_takes names [] = None
maker_takes names (Constructor r ∷ rest) = Some (routine_takes names r)
maker_takes names (m ∷ rest) = maker_takes names rest

abbrev pub class_head : Naming → ℕ → Option ℕ → ℕ → List ClassMember → ClassHead
class_head names at x base_at members =
    record { at = at; base_name = x; base_at = base_at; base = base_number names x; takes = maker_takes names members }

abbrev pub item_heads : Naming → TopLevel → List ClassHead
item_heads names (Class at x base base_at members) = class_head names at base base_at members ∷ []
item_heads names _ = []

abbrev pub heads_of : Naming → Program → List ClassHead
heads_of names [] = []
heads_of names (i ∷ rest) = item_heads names i ++ heads_of names rest
