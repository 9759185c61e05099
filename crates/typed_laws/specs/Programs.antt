-- The typed program of a library and a text, where all is there that is looked for.
use Rattle.std.specs.Prelude.{ℕ, zero, suc, ◌+◌, true, false, Option, Some, None, List, [], ◌∷◌, ◌++◌, length}
use Rattle.std.specs.Option.{option_map}
use Rattle.sts_base.specs.declared.tables.Tables.{Tables}
use Rattle.sts_syntax.specs.declared.typed.Spot.TheVariants.{Param, Global}
use Rattle.sts_syntax.specs.Types as t
use Rattle.sts_syntax.specs.Types.{ValueType}
use Rattle.sts_syntax.specs.TypedTrees as e
use Rattle.sts_syntax.specs.TypedTrees.{TypedTree, TypedTrees, TypedStatement, TypedStatements, TypedDeclaration, TypedRoutine, ClassEntry}
use Rattle.sts_syntax.specs.Trees.{SuperCall, Statement, Let, Plain, Statements, also, Declaration, Declare, Declarations, ended, next, Routine, Does}
use Rattle.sts_syntax.specs.Programs.{ClassMember, Field, Method, Constructor, TopLevel, Class, Function, Main, Program}
use Rattle.sts_scope.specs.declared.kinds.StaticType.{StaticType}
use Rattle.sts_scope.specs.declared.entries.Entry.{Entry}
use Rattle.sts_scope.specs.declared.entries.ClassHead.{ClassHead}
use Rattle.sts_scope.specs.Scopes.{is_global}
use Rattle.sts_scope.specs.declared.known.Known.{Known}
use Rattle.sts_scope.specs.declared.known.This.{This}
use Rattle.sts_scope.specs.declared.known.This.TheVariants as this
use Rattle.sts_scope.specs.Kinds.{nothing, value_type, value_types}
use Rattle.sts_scope.specs.Entries.{Naming, classes_in, item_entries, parameter_kinds, written_kind}
use Rattle.sts_scope.specs.Lookup.{base_of, member_number}
use Rattle.sts_scope.specs.Places.{outside}
use Rattle.sts_scope.specs.Rules.{kind_at, maker_takes_of}
use Rattle.type_derive.specs.Typing.{◌>>=◌}
use Rattle.sts_scope.specs.Handlers.{unwritten, item_routines, declared_handlers, routine_handlers}
use Rattle.type_derive.specs.Making.{Made, Making, nothing_made, pure, ◌>=>◌}
use Rattle.sts_scope.specs.Numbers.{Numbering, global_number, field_names, slot_names, place_among, routine_number, maker_number}
use Rattle.type_derive.specs.Built.{Site, routines_made, made_value, made_given, made_statement, made_statements}
use Rattle.type_derive.specs.Functions.{site, function_made, method_made}

-- some statements before others
infixr 5 ◌before◌
abbrev pub ◌before◌ : List TypedStatement → TypedStatements → TypedStatements
[] before all = all
(a ∷ rest) before all = e.also a (rest before all)

-- parameters that are passed on, from the number i on
abbrev pub passed_on : ℕ → List StaticType → TypedTrees
passed_on i [] = e.none
passed_on i (u ∷ us) = e.more (e.Name (value_type u) (Param i)) (passed_on (suc i) us)

-- what is made of each of some things, where it is of all
abbrev pub each_made : {A B : Type 0} → (A → Option B) → List A → Option (List B)
each_made make [] = Some []
each_made make (a ∷ rest) = make a >>= λ x. each_made make rest >>= λ xs. Some (x ∷ xs)

-- outside all functions
abbrev pub outer_site : This → Site
outer_site self = record { place = outside self false None; spots = [] }

-- `this.f = r`, where the field's number in the declarations is d
abbrev pub set_field : Known → ℕ → ℕ → Declaration → Option TypedTree → Option (List TypedStatement)
set_field k c d a None = Some []
set_field k c d (Declare at x shape first) (Some r) =
    kind_at k d >>= λ kind. let u = value_type kind in
    Some (e.Plain (e.Set u None (e.Field u (e.This (t.Object c)) (place_among (field_names k c) x)) r) ∷ [])

-- the call of the base's constructor
abbrev pub super_called : Numbering → ℕ → TypedTrees → TypedStatement
super_called numbers b args = e.Plain (e.SuperCall (t.Object b) (maker_number numbers b) args)

-- One that isn't written has its base's parameters and passes them on.
abbrev pub passes_on : Numbering → Option ℕ → List StaticType → List TypedStatement
passes_on numbers None takes = []
passes_on numbers (Some b) takes = super_called numbers b (passed_on 1 takes) ∷ []

module _ (k : Known) (numbers : Numbering) where
  abbrev pub constructor_unwritten : ℕ → List TypedStatement → TypedRoutine
  constructor_unwritten c inits =
      let takes = maker_takes_of k.classes c in
      record {
        params = t.Object c ∷ value_types takes;
        locals = [];
        gives = t.Object c;
        all = (passes_on numbers (base_of k.classes c) takes ++ inits) before e.done;
      }

  abbrev pub unwritten_made : ℕ → ℕ → List TypedStatement → List TypedRoutine
  unwritten_made zero c inits = []
  unwritten_made (suc n) c inits = constructor_unwritten c inits ∷ []

module _ (tables : Tables) (names : Naming) (k : Known) (numbers : Numbering) where
  -- a field's initialiser, and the functions in it
  abbrev pub initial_made : ℕ → ℕ → Declaration → Option (Made (Option TypedTree))
  initial_made c n (Declare at x shape first) =
      made_value tables names k numbers (outer_site (this.Object c)) (written_kind names shape) first 0 n

  -- the initialisers of a class's own fields, in text order: members from n and d on
  abbrev pub initials : ℕ → ℕ → ℕ → List ClassMember → Option (List TypedStatement)
  initials c n d [] = Some []
  initials c n d (Field a ∷ rest) =
      initial_made c n a >>= λ x. set_field k c d a x.it >>= λ sets. initials c (n + declared_handlers a) (suc d) rest
      >>= λ more. Some (sets ++ more)
  initials c n d (Method x r ∷ rest) = initials c (suc n + routine_handlers r) (suc d) rest
  initials c n d (Constructor r ∷ rest) = initials c (suc n + routine_handlers r) d rest

  -- A written constructor calls its base's first, then come the initialisers, then its own statements.
  abbrev pub made_statements_of : Site → Option ℕ → List TypedStatement → Statements → Making TypedStatements
  made_statements_of s None inits all = made_statements tables names k numbers s all >=> λ xs. pure (inits before xs)
  made_statements_of s (Some b) inits (also (Plain i (SuperCall j None args)) rest) =
      made_given tables names k numbers s (maker_takes_of k.classes b) args
      >=> λ ys. made_statements tables names k numbers s rest
      >=> λ xs. pure (e.also (super_called numbers b ys) (inits before xs))
  made_statements_of s _ inits all = nothing_made

  abbrev pub constructor_made : ℕ → ℕ → List TypedStatement → Routine → Option (List TypedRoutine)
  constructor_made c n inits (Does at params gives all arrow) =
      routines_made (t.Object c ∷ value_types (parameter_kinds names params)) (t.Object c)
      (made_statements_of (site names (this.Object c) (Some nothing) false 1 params) (base_of k.classes c) inits all) n

  -- the functions of members, from n and d on
  abbrev pub members_made : ℕ → List TypedStatement → ℕ → ℕ → List ClassMember → Option (List TypedRoutine)
  members_made c inits n d [] = Some []
  members_made c inits n d (Field a ∷ rest) =
      initial_made c n a >>= λ x. members_made c inits (n + declared_handlers a) (suc d) rest
      >>= λ more. Some (x.routines ++ more)
  members_made c inits n d (Method x r ∷ rest) =
      method_made tables names k numbers c n (kind_at k d) r
      >>= λ own. members_made c inits (suc n + routine_handlers r) (suc d) rest
      >>= λ more. Some (own ++ more)
  members_made c inits n d (Constructor r ∷ rest) =
      constructor_made c n inits r >>= λ own. members_made c inits (suc n + routine_handlers r) d rest
      >>= λ more. Some (own ++ more)

  abbrev pub class_made : ℕ → ℕ → ℕ → List ClassMember → Option (List TypedRoutine)
  class_made c n d members =
      let first = n + unwritten members in
      initials c first d members >>= λ inits. members_made c inits first d members
      >>= λ more. Some (unwritten_made k numbers (unwritten members) c inits ++ more)

  -- a declaration of the main program gives a global its first value
  abbrev pub global_made : ℕ → Declaration → Making TypedDeclaration
  global_made d (Declare at x shape first) =
      made_value tables names k numbers (outer_site this.Nowhere) (written_kind names shape) first
      >=> λ a. pure (record { name = Global (global_number k d); first = a })

  abbrev pub globals_made : ℕ → Declarations → Making (List TypedDeclaration)
  globals_made d ended = pure []
  globals_made d (next a rest) = global_made d a >=> λ x. globals_made (suc d) rest >=> λ xs. pure (x ∷ xs)

  -- a statement of the main program, whose locals, if it has blocks, are numbered behind m
  abbrev pub main_made : ℕ → Statement → Making TypedStatement
  main_made d (Let at fixed each) = globals_made d each >=> λ ds. pure (e.Let fixed ds)
  main_made d a = made_statement tables names k numbers (outer_site this.Nowhere) a

  -- what a part of a text adds to the main program, and its functions: the part of the class c, the d-th declaration, the local m and the function n
  abbrev pub part_made : ℕ → ℕ → ℕ → ℕ → TopLevel → Option (Made (List TypedStatement))
  part_made c d m n (Class at x base base_at members) =
      class_made c n (suc d) members >>= λ all. Some (record { it = []; locals = []; routines = all })
  part_made c d m n (Function x r) =
      function_made tables names k numbers false n (kind_at k d) r
      >>= λ all. Some (record { it = []; locals = []; routines = all })
  part_made c d m n (Main a) =
      main_made d a m n >>= λ x. Some (record { it = x.it ∷ []; locals = x.locals; routines = x.routines })

  -- the main program's own statements, and all functions, of the parts of a text
  abbrev pub items_made : ℕ → ℕ → ℕ → ℕ → Program → Option (Made TypedStatements)
  items_made c d m n [] = Some (record { it = e.done; locals = []; routines = [] })
  items_made c d m n (i ∷ rest) =
      part_made c d m n i
      >>= λ x. items_made (c + classes_in i) (d + length (item_entries names c i)) (m + length x.locals)
      (n + item_routines i) rest >>= λ y. Some (record {
        it = x.it before y.it;
        locals = x.locals ++ y.locals;
        routines = x.routines ++ y.routines;
      })

  -- the library's functions, which know their own names alone
  abbrev pub library_made : ℕ → ℕ → Program → Option (List TypedRoutine)
  library_made d n [] = Some []
  library_made d n (Function x r ∷ rest) =
      function_made tables names k numbers true n (kind_at k d) r
      >>= λ own. library_made (suc d) (n + item_routines (Function x r)) rest
      >>= λ more. Some (own ++ more)
  library_made d n (i ∷ rest) = library_made d n rest

-- a class by its number: fields and slots are its base's, then its own, and each slot has the nearest method of its name
abbrev pub member_kind : Known → ℕ → ℕ → Option ValueType
member_kind k c x = member_number k.entries k.classes c x >>= λ d. option_map value_type (kind_at k d)

module _ (k : Known) (numbers : Numbering) where
  abbrev pub member_routine : ℕ → ℕ → Option ℕ
  member_routine c x = option_map (routine_number numbers) (member_number k.entries k.classes c x)

  abbrev pub class_entry : ℕ → Option ClassEntry
  class_entry c =
      each_made (member_kind k c) (field_names k c) >>= λ fields. each_made (member_routine c) (slot_names k c)
      >>= λ slots. Some (record {
        base = base_of k.classes c;
        fields = fields;
        slots = slots;
        maker = maker_number numbers c;
      })

  abbrev pub class_entries : ℕ → List ClassHead → Option (List ClassEntry)
  class_entries c [] = Some []
  class_entries c (head ∷ rest) = class_entry c >>= λ x. class_entries (suc c) rest >>= λ xs. Some (x ∷ xs)

abbrev pub global_types : Known → ℕ → List Entry → Option (List ValueType)
global_types k d [] = Some []
global_types k d (a ∷ rest) = elim (is_global a.sort) [
  | true ↦ kind_at k d >>= λ u. global_types k (suc d) rest >>= λ us. Some (value_type u ∷ us)
  | false ↦ global_types k (suc d) rest
]
