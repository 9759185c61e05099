-- The definitions of classes and whole programs, over what the builder knows.
use Rattle.std.specs.Prelude.{◌≡◌, ◌++◌, length, ℕ, suc, ◌+◌, Bool, true, false, Option, None, List, [], ◌∷◌}
use Rattle.sts_syntax.specs.Types.{ValueType, Object, Nothing, value_types}
use Rattle.sts_syntax.specs.declared.trees.Param.{Param}
use Rattle.sts_syntax.specs.Views.{parameters}
use Rattle.sts_syntax.specs.declared.typed.Spot.TheVariants.{Global}
use Rattle.sts_syntax.specs.Trees.{Routine, Declaration, Declare, Declarations, Statement, Statements}
use Rattle.sts_syntax.specs.Programs.{ClassMember, TopLevel, Class, Function, Main, Program, class_members}
use Rattle.sts_syntax.specs.Programs as m
use Rattle.sts_syntax.specs.declared.typed.TypedStmt.{TypedStmt}
use Rattle.sts_syntax.specs.TypedViews.{typed_statement, typed_routines}
use Rattle.sts_syntax.specs.TypedTrees as e
use Rattle.sts_syntax.specs.TypedTrees.{TypedTree, TypedTrees, TypedStatement, TypedStatements, TypedDeclaration, TypedRoutine, ClassEntry, TypedProgram}
use Rattle.sts_scope.specs.declared.kinds.StaticType.{StaticType}
use Rattle.sts_scope.specs.declared.entries.Entry.{Entry}
use Rattle.sts_scope.specs.declared.entries.ClassHead.{ClassHead}
use Rattle.sts_scope.specs.declared.known.This.{This}
use Rattle.sts_scope.specs.Entries.{parameter_kinds, classes_in, item_entries}
use Rattle.sts_scope.specs.Scopes.{is_global}
use Rattle.sts_scope.specs.Rules.{kind_at}
use Rattle.type_derive.specs.inner.Filled as b
use Rattle.sts_scope.specs.Handlers.{item_routines, all_routines}
use Rattle.type_derive.specs.Making.{Made}
use Rattle.type_derive.specs.inner.Filling.{Making, pure, ◌>=>◌}
use Rattle.sts_scope.specs.Numbers.{place_among, field_names}
use Rattle.typed_laws.specs.inner.FilledPrograms as p
use Rattle.typed_laws.specs.Programs as tp
use Rattle.typed_laws.specs.Programs.{◌before◌}
pub use Rattle.typed_laws.specs.Programs.{outer_site}
use Rattle.typed_numbers.specs.Building.{numbering_of}
use Rattle.typed_program.specs.declared.build_parts.ClassParts.{ClassParts}
use Rattle.typed_program.specs.declared.build_parts.Whole.{Whole}
use Rattle.typed_trees.specs.declared.build_places.Plan.{Plan}
use Rattle.typed_trees.specs.Sites as s
use Rattle.typed_trees.specs.Sites.{naming}
use Rattle.typed_trees.specs.Functions.{class_result, function_made, method_made}

abbrev pub member_kind : Plan → ℕ → ℕ → ValueType
member_kind l = p.member_kind l.tables.now (naming l) l.known.now (numbering_of l.numbers.now)

abbrev pub member_routine : Plan → ℕ → ℕ → ℕ
member_routine l = p.member_routine l.tables.now (naming l) l.known.now (numbering_of l.numbers.now)

abbrev pub class_entry : Plan → ℕ → ClassEntry
class_entry l = p.class_entry l.tables.now (naming l) l.known.now (numbering_of l.numbers.now)

abbrev pub class_entries : Plan → ℕ → List ClassHead → List ClassEntry
class_entries l = p.class_entries l.tables.now (naming l) l.known.now (numbering_of l.numbers.now)

abbrev pub global_types : Plan → ℕ → List Entry → List ValueType
global_types l = p.global_types l.tables.now (naming l) l.known.now (numbering_of l.numbers.now)

-- the type of a declaration, where it is a global
abbrev pub one_global : Plan → ℕ → Entry → List ValueType
one_global l d a = elim (is_global a.sort) [ true ↦ class_result l (kind_at l.known.now d) ∷ [] | false ↦ [] ]

-- the library's functions, from the d-th declaration and the function n on
abbrev pub library_made : Plan → ℕ → ℕ → Program → List TypedRoutine
library_made l = p.library_made l.tables.now (naming l) l.known.now (numbering_of l.numbers.now)

-- one part of the library, and the numbers behind it
abbrev pub library_item : Plan → ℕ → ℕ → TopLevel → List TypedRoutine
library_item l d n (Function x r) = function_made l true n (kind_at l.known.now d) r
library_item l d n _ = []

abbrev pub library_declaration : ℕ → TopLevel → ℕ
library_declaration d (Function x r) = suc d
library_declaration d _ = d

abbrev pub library_function : ℕ → TopLevel → ℕ
library_function n (Function x r) = n + item_routines (Function x r)
library_function n _ = n

-- a global with its first value, by its number, where the main program's names are in scope
abbrev pub global_made : Plan → b.Site → ℕ → Declaration → Making TypedDeclaration
global_made l st number (Declare at x shape first) =
    s.first_made l st shape first >=> λ a. pure (record { name = Global number; first = a })

-- statements, as a list
abbrev pub typed_list : List TypedStmt → List TypedStatement
typed_list [] = []
typed_list (a ∷ rest) = typed_statement a ∷ typed_list rest

-- a field's initialiser, and the functions in it
abbrev pub initial_made : Plan → ℕ → ℕ → Declaration → Made (Option TypedTree)
initial_made l = p.initial_made l.tables.now (naming l) l.known.now (numbering_of l.numbers.now)

-- `this.x = r`, where the field's number in the declarations is d
abbrev pub field_set : Plan → ℕ → ℕ → ℕ → TypedTree → TypedStatement
field_set l c d x r =
    let u = class_result l (kind_at l.known.now d) in
    e.Plain (e.Set u None (e.Field u (e.This (Object c)) (place_among (field_names l.known.now c) x)) r)

abbrev pub set_field : Plan → ℕ → ℕ → Declaration → Option TypedTree → List TypedStatement
set_field l = p.set_field l.tables.now (naming l) l.known.now (numbering_of l.numbers.now)

-- the initialisers of a class's own fields, from members whose first function and first declaration have these numbers
abbrev pub initials : Plan → ℕ → ℕ → ℕ → List ClassMember → List TypedStatement
initials l = p.initials l.tables.now (naming l) l.known.now (numbering_of l.numbers.now)

-- one member's part of them
abbrev pub member_initials : Plan → ℕ → ℕ → ℕ → ClassMember → List TypedStatement
member_initials l c n d (m.Field a) = set_field l c d a (initial_made l c n a).it
member_initials l c n d _ = []

-- those of a class
abbrev pub initials_of : Plan → ClassParts → List TypedStatement
initials_of l a = initials l a.class a.first.function a.first.declaration (class_members a.members.now)

abbrev pub super_called : Plan → ℕ → TypedTrees → TypedStatement
super_called l = tp.super_called (numbering_of l.numbers.now)

-- statements behind some that are there
abbrev pub behind_made : Plan → b.Site → List TypedStatement → Statements → Making TypedStatements
behind_made l st first all = s.statements_made l st all >=> λ xs. pure (first before xs)

-- the statements of a written constructor
unfoldable pub maker_statements : Plan → b.Site → Option ℕ → List TypedStatement → Statements → Making TypedStatements
maker_statements l = p.made_statements_of l.tables.now (naming l) l.known.now (numbering_of l.numbers.now)

abbrev pub constructor_made : Plan → ℕ → ℕ → List TypedStatement → Routine → List TypedRoutine
constructor_made l = p.constructor_made l.tables.now (naming l) l.known.now (numbering_of l.numbers.now)

abbrev pub passes_on : Plan → Option ℕ → List StaticType → List TypedStatement
passes_on l = tp.passes_on (numbering_of l.numbers.now)

abbrev pub constructor_unwritten : Plan → ℕ → List TypedStatement → TypedRoutine
constructor_unwritten l = tp.constructor_unwritten l.known.now (numbering_of l.numbers.now)

abbrev pub unwritten_made : Plan → ℕ → ℕ → List TypedStatement → List TypedRoutine
unwritten_made l = tp.unwritten_made l.known.now (numbering_of l.numbers.now)

-- the functions of members, whose class has these initialisers
abbrev pub members_made : Plan → ℕ → List TypedStatement → ℕ → ℕ → List ClassMember → List TypedRoutine
members_made l = p.members_made l.tables.now (naming l) l.known.now (numbering_of l.numbers.now)

-- those of one member
abbrev pub member_made : Plan → ℕ → List TypedStatement → ℕ → ℕ → ClassMember → List TypedRoutine
member_made l c inits n d (m.Field a) = (initial_made l c n a).routines
member_made l c inits n d (m.Method x r) = method_made l c n (kind_at l.known.now d) r
member_made l c inits n d (m.Constructor r) = constructor_made l c n inits r

abbrev pub class_made : Plan → ℕ → ℕ → ℕ → List ClassMember → List TypedRoutine
class_made l = p.class_made l.tables.now (naming l) l.known.now (numbering_of l.numbers.now)

-- globals with their first values, from the d-th declaration on
abbrev pub globals_made : Plan → ℕ → Declarations → Making (List TypedDeclaration)
globals_made l = p.globals_made l.tables.now (naming l) l.known.now (numbering_of l.numbers.now)

-- one of them, the d-th declaration
abbrev pub declared_made : Plan → ℕ → Declaration → Making TypedDeclaration
declared_made l = p.global_made l.tables.now (naming l) l.known.now (numbering_of l.numbers.now)

-- a statement that declares them
abbrev pub lets_made : Plan → ℕ → Bool → Declarations → Making TypedStatement
lets_made l d fixed each = globals_made l d each >=> λ ds. pure (e.Let fixed ds)

-- a statement of the main program
abbrev pub main_made : Plan → ℕ → Statement → Making TypedStatement
main_made l = p.main_made l.tables.now (naming l) l.known.now (numbering_of l.numbers.now)

-- the main program's own statements, and all functions, of parts from the class c, the d-th declaration, the local m and the function n on
abbrev pub items_made : Plan → ℕ → ℕ → ℕ → ℕ → Program → Made TypedStatements
items_made l = p.items_made l.tables.now (naming l) l.known.now (numbering_of l.numbers.now)

-- those of one part
abbrev pub item_made : Plan → ℕ → ℕ → ℕ → ℕ → TopLevel → Made (List TypedStatement)
item_made l c d m n (Class at x base base_at members) =
    record { it = []; locals = []; routines = class_made l c n (suc d) members }
item_made l c d m n (Function x r) =
    record { it = []; locals = []; routines = function_made l false n (kind_at l.known.now d) r }
item_made l c d m n (Main a) =
    let here = main_made l d a m n in record { it = here.it ∷ []; locals = here.locals; routines = here.routines }

-- what a function takes that is written
abbrev pub written_takes : Plan → List Param → List StaticType
written_takes l params = parameter_kinds (naming l) (parameters params)

-- the same, from where a text is built so far
abbrev pub item_of : Plan → Whole → TopLevel → Made (List TypedStatement)
item_of l b i = item_made l b.class b.declaration b.builder.local b.builder.function i

abbrev pub items_of : Plan → Whole → Program → Made TypedStatements
items_of l b all = items_made l b.class b.declaration b.builder.local b.builder.function all

-- one part more was built
pub record AddsPart (l : Plan) (old new : Whole) (i : TopLevel) : Type 0 where
  pub stmts : typed_list new.stmts ≡ typed_list old.stmts ++ (item_of l old i).it
  pub locals : value_types new.builder.locals ≡ value_types old.builder.locals ++ (item_of l old i).locals
  pub routines : typed_routines new.builder.routines ≡ typed_routines old.builder.routines ++ (item_of l old i).routines
  pub local : new.builder.local ≡ old.builder.local + length (item_of l old i).locals
  pub function : new.builder.function ≡ old.builder.function + item_routines i
  pub class : new.class ≡ old.class + classes_in i
  pub declaration : new.declaration ≡ old.declaration + length (item_entries (naming l) old.class i)

-- the main program
abbrev pub main_of : List ValueType → TypedStatements → TypedRoutine
main_of locals all = record { params = []; locals = locals; gives = Nothing; all = all }

-- a text behind a library, whose first class is c
abbrev pub text_made : Plan → ℕ → Program → Program → Made TypedStatements
text_made l c library text = items_made l c l.known.now.library 0 (all_routines library) text

-- the whole program of both
abbrev pub program_made : Plan → ℕ → Program → Program → TypedProgram
program_made l c library text =
    let first = library_made l 0 0 library in
    let made = text_made l c library text in
    record {
      classes = class_entries l 0 l.known.now.classes;
      functions = first ++ made.routines ++ main_of made.locals made.it ∷ [];
      globals = global_types l 0 l.known.now.entries;
      main = length first + length made.routines;
    }
