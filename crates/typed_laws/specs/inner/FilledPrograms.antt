-- The filled program of a library and a text.
use Rattle.std.specs.Prelude.{ℕ, suc, ◌+◌, true, false, Option, Some, None, List, [], ◌∷◌, ◌++◌, length, map}
use Rattle.sts_base.specs.declared.tables.Tables.{Tables}
use Rattle.sts_syntax.specs.declared.typed.Spot.TheVariants.{Global}
use Rattle.sts_syntax.specs.Types as t
use Rattle.sts_syntax.specs.Types.{ValueType}
use Rattle.sts_syntax.specs.TypedTrees as e
use Rattle.sts_syntax.specs.TypedTrees.{TypedTree, TypedStatement, TypedStatements, TypedDeclaration, TypedRoutine, ClassEntry}
use Rattle.sts_syntax.specs.Trees.{SuperCall, Statement, Let, Plain, Statements, also, Declaration, Declare, Declarations, ended, next, Routine, Does}
use Rattle.sts_syntax.specs.Programs.{ClassMember, Field, Method, Constructor, Class, Function, Main, Program}
use Rattle.sts_scope.specs.declared.entries.Entry.{Entry}
use Rattle.sts_scope.specs.declared.entries.ClassHead.{ClassHead}
use Rattle.sts_scope.specs.Scopes.{is_global}
use Rattle.sts_scope.specs.declared.known.Known.{Known}
use Rattle.sts_scope.specs.declared.known.This.{This}
use Rattle.sts_scope.specs.declared.known.This.TheVariants as this
use Rattle.sts_scope.specs.Kinds.{nothing, value_types}
use Rattle.sts_scope.specs.Entries.{Naming, item_entries, parameter_kinds}
use Rattle.sts_scope.specs.Lookup.{base_of, member_number}
use Rattle.sts_scope.specs.Places.{outside}
use Rattle.sts_scope.specs.Rules.{kind_at, maker_takes_of}
use Rattle.sts_scope.specs.Handlers.{unwritten, item_routines, declared_handlers, routine_handlers}
use Rattle.type_derive.specs.Making.{Made}
use Rattle.typed_laws.specs.Programs.{◌before◌, super_called, unwritten_made}
use Rattle.type_derive.specs.inner.Filling.{Making, pure, ◌>=>◌}
use Rattle.sts_scope.specs.Numbers.{Numbering, global_number, field_names, slot_names, place_among, routine_number, maker_number}
use Rattle.type_derive.specs.Built.{Site}
use Rattle.type_derive.specs.inner.Filled.{routine, made_first, made_given, made_statement, made_statements, site, class_result, function_made, method_made}

module _ (tables : Tables) (names : Naming) (k : Known) (numbers : Numbering) where
  -- a field's initialiser, and the functions in it
  abbrev pub initial_made : ℕ → ℕ → Declaration → Made (Option TypedTree)
  initial_made c n (Declare at x shape first) =
      made_first tables names k numbers (record { place = outside (this.Object c) false None; spots = [] }) shape first
      0 n

  -- `this.f = r`, where the field's number in the declarations is d
  abbrev pub set_field : ℕ → ℕ → Declaration → Option TypedTree → List TypedStatement
  set_field c d (Declare at x shape first) None = []
  set_field c d (Declare at x shape first) (Some r) =
      let u = class_result tables names k numbers (kind_at k d) in
      e.Plain (e.Set u None (e.Field u (e.This (t.Object c)) (place_among (field_names k c) x)) r) ∷ []

  -- the initialisers of a class's own fields, in text order: members from n and d on
  abbrev pub initials : ℕ → ℕ → ℕ → List ClassMember → List TypedStatement
  initials c n d [] = []
  initials c n d (Field a ∷ rest) =
      set_field c d a (initial_made c n a).it ++ initials c (n + declared_handlers a) (suc d) rest
  initials c n d (Method x r ∷ rest) = initials c (suc n + routine_handlers r) (suc d) rest
  initials c n d (Constructor r ∷ rest) = initials c (suc n + routine_handlers r) d rest

  -- A written constructor calls its base's first, then come the initialisers, then its own statements.
  abbrev pub made_statements_of : Site → Option ℕ → List TypedStatement → Statements → Making TypedStatements
  made_statements_of s None inits all = made_statements tables names k numbers s all >=> λ xs. pure (inits before xs)
  made_statements_of s (Some b) inits (also (Plain i (SuperCall j None args)) rest) =
      made_given tables names k numbers s (maker_takes_of k.classes b) args
      >=> λ ys. made_statements tables names k numbers s rest
      >=> λ xs. pure (e.also (super_called numbers b ys) (inits before xs))
  made_statements_of s (Some b) inits all =
      made_statements tables names k numbers s all >=> λ xs. pure (inits before xs)

  abbrev pub constructor_made : ℕ → ℕ → List TypedStatement → Routine → List TypedRoutine
  constructor_made c n inits (Does at params gives all arrow) =
      let made = routine tables names k numbers (t.Object c ∷ value_types (parameter_kinds names params)) (t.Object c)
      (made_statements_of (site tables names k numbers (this.Object c) (Some nothing) false 1 params) (base_of k.classes c)
      inits all) n in
      made.it ∷ made.routines

  -- the functions of members, from n and d on
  abbrev pub members_made : ℕ → List TypedStatement → ℕ → ℕ → List ClassMember → List TypedRoutine
  members_made c inits n d [] = []
  members_made c inits n d (Field a ∷ rest) =
      (initial_made c n a).routines ++ members_made c inits (n + declared_handlers a) (suc d) rest
  members_made c inits n d (Method x r ∷ rest) =
      method_made tables names k numbers c n (kind_at k d) r
      ++ members_made c inits (suc n + routine_handlers r) (suc d) rest
  members_made c inits n d (Constructor r ∷ rest) =
      constructor_made c n inits r ++ members_made c inits (suc n + routine_handlers r) d rest

  abbrev pub class_made : ℕ → ℕ → ℕ → List ClassMember → List TypedRoutine
  class_made c n d members =
      let first = n + unwritten members in
      let inits = initials c first d members in
      unwritten_made k numbers (unwritten members) c inits ++ members_made c inits first d members

  -- a declaration of the main program gives a global its first value
  abbrev pub global_made : ℕ → Declaration → Making TypedDeclaration
  global_made d (Declare at x shape first) =
      made_first tables names k numbers (record { place = outside this.Nowhere false None; spots = [] }) shape first
      >=> λ a. pure (record { name = Global (global_number k d); first = a })

  abbrev pub globals_made : ℕ → Declarations → Making (List TypedDeclaration)
  globals_made d ended = pure []
  globals_made d (next a rest) = global_made d a >=> λ x. globals_made (suc d) rest >=> λ xs. pure (x ∷ xs)

  -- a statement of the main program, whose locals, if it has blocks, are numbered behind m
  abbrev pub main_made : ℕ → Statement → Making TypedStatement
  main_made d (Let at fixed each) = globals_made d each >=> λ ds. pure (e.Let fixed ds)
  main_made d a =
      made_statement tables names k numbers (record { place = outside this.Nowhere false None; spots = [] }) a

  -- the main program's own statements, and all functions, of the parts of a text from the class c, the d-th declaration, the local m and the function n on
  abbrev pub items_made : ℕ → ℕ → ℕ → ℕ → Program → Made TypedStatements
  items_made c d m n [] = record { it = e.done; locals = []; routines = [] }
  items_made c d m n (Class at x base base_at members ∷ rest) =
      let here = class_made c n (suc d) members in
      let behind = items_made (suc c) (d + length (item_entries names c (Class at x base base_at members))) m
      (n + item_routines (Class at x base base_at members)) rest in
      record { it = behind.it; locals = behind.locals; routines = here ++ behind.routines }
  items_made c d m n (Function x r ∷ rest) =
      let here = function_made tables names k numbers false n (kind_at k d) r in
      let behind = items_made c (suc d) m (n + item_routines (Function x r)) rest in
      record { it = behind.it; locals = behind.locals; routines = here ++ behind.routines }
  items_made c d m n (Main a ∷ rest) =
      let here = main_made d a m n in
      let behind = items_made c (d + length (item_entries names c (Main a))) (m + length here.locals)
      (n + item_routines (Main a)) rest in
      record {
        it = e.also here.it behind.it;
        locals = here.locals ++ behind.locals;
        routines = here.routines ++ behind.routines;
      }

  -- the library's functions, which know their own names alone
  abbrev pub library_made : ℕ → ℕ → Program → List TypedRoutine
  library_made d n [] = []
  library_made d n (Function x r ∷ rest) =
      function_made tables names k numbers true n (kind_at k d) r
      ++ library_made (suc d) (n + item_routines (Function x r)) rest
  library_made d n (i ∷ rest) = library_made d n rest

  -- a class by its number: fields and slots are its base's, then its own, and each slot has the nearest method of its name
  abbrev pub member_kind : ℕ → ℕ → ValueType
  member_kind c x =
      elim (member_number k.entries k.classes c x) [
        | None ↦ t.Nothing
        | Some d ↦ class_result tables names k numbers (kind_at k d)
      ]

  abbrev pub member_routine : ℕ → ℕ → ℕ
  member_routine c x = elim (member_number k.entries k.classes c x) [ None ↦ 0 | Some d ↦ routine_number numbers d ]

  abbrev pub class_entry : ℕ → ClassEntry
  class_entry c = record {
    base = base_of k.classes c;
    fields = map (member_kind c) (field_names k c);
    slots = map (member_routine c) (slot_names k c);
    maker = maker_number numbers c;
  }

  abbrev pub class_entries : ℕ → List ClassHead → List ClassEntry
  class_entries c [] = []
  class_entries c (head ∷ rest) = class_entry c ∷ class_entries (suc c) rest

  abbrev pub global_types : ℕ → List Entry → List ValueType
  global_types d [] = []
  global_types d (a ∷ rest) = elim (is_global a.sort) [
    | true ↦ class_result tables names k numbers (kind_at k d) ∷ global_types (suc d) rest
    | false ↦ global_types (suc d) rest
  ]
