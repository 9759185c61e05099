-- Elaboration of a whole text, after the library: its typed program, or its first failure. The numbers of functions are
-- those that the numbering gives them.
use Rattle.std.specs.Prelude.{◌≡◌, ℕ, suc, ◌+◌, Bool, true, false, Option, Some, None, List, [], ◌∷◌, ◌++◌, length, Result, Ok, Err}
use Rattle.std.specs.Option.{option_map}
use Rattle.sts_base.specs.declared.refused.Code.{Code}
use Rattle.sts_base.specs.declared.refused.Code.TheVariants.{Mismatch, NeedsType}
use Rattle.sts_base.specs.declared.tables.Tables.{Tables}
use Rattle.sts_syntax.specs.declared.typed.Spot.TheVariants.{Global}
use Rattle.sts_syntax.specs.Types as t
use Rattle.sts_syntax.specs.Types.{ValueType}
use Rattle.sts_syntax.specs.TypedTrees as e
use Rattle.sts_syntax.specs.TypedTrees.{TypedTree, TypedStatement, TypedStatements, TypedDeclaration, TypedRoutine, TypedProgram}
use Rattle.sts_syntax.specs.Trees.{SuperCall, Statement, Let, Plain, Statements, also, Declaration, Declare, Declarations, ended, next, Routine, Does}
use Rattle.sts_syntax.specs.Programs.{ClassMember, Field, Method, Constructor, TopLevel, Class, Function, Main, Program}
use Rattle.sts_scope.specs.declared.kinds.StaticType.{StaticType}
use Rattle.sts_scope.specs.declared.known.Known.{Known}
use Rattle.sts_scope.specs.declared.known.This.{This}
use Rattle.sts_scope.specs.declared.known.This.TheVariants as this
use Rattle.sts_scope.specs.Kinds.{nothing, value_type, value_types}
use Rattle.sts_scope.specs.Entries.{Naming, classes_in, item_entries, parameter_kinds}
use Rattle.sts_scope.specs.Failures.{Failure, ◌then◌, unless}
use Rattle.sts_scope.specs.Handlers.{unwritten, item_routines, declared_handlers, routine_handlers, all_routines}
use Rattle.sts_scope.specs.Headings.{written_failure}
use Rattle.sts_scope.specs.Lookup.{base_of}
use Rattle.sts_scope.specs.Numbers.{numbering, global_number, field_names, place_among}
use Rattle.sts_scope.specs.Rules.{kind_at, maker_takes_of, all_go}
use Rattle.sts_scope.specs.Scopes.{all_names, library_classes, heading_refusal}
use Rattle.type_derive.specs.Built.{Site}
use Rattle.type_derive.specs.Derived.{TypeTable, known, AreDerived}
use Rattle.type_derive.specs.Functions.{site}
use Rattle.type_derive.specs.Making.{Made}
use Rattle.type_derive.specs.Passes.{all_overrides}
use Rattle.elaborated.specs.Elaborating.{Elab, yields, fails, ◌>->◌, need, check}
use Rattle.elaborated.specs.Elaborated.{Whole, kind_declared, why_declared, tree_of, elab_initial, elab_given, elab_statement, elab_statements}
use Rattle.typed_laws.specs.Accepted.{main_routine, limits_failure}
use Rattle.typed_laws.specs.Programs.{◌before◌, outer_site, super_called, unwritten_made, class_entries, global_types}

-- one after the other
infixl 10 ◌>>-◌
abbrev pub ◌>>-◌ : {A B : Type 0} → Result A Failure → (A → Result B Failure) → Result B Failure
(Err why) >>- g = Err why
(Ok x) >>- g = g x

-- what has to be there, or else this fails
abbrev pub needed : {A B : Type 0} → Option A → Code → ℕ → (A → Result B Failure) → Result B Failure
needed None code at g = Err (record { code = code; at = at })
needed (Some a) code at g = g a

-- goes on where nothing failed
abbrev pub checked : {A : Type 0} → Option Failure → Result A Failure → Result A Failure
checked None r = r
checked (Some why) r = Err why

-- What the members of a class are: what its constructor sets first, and the functions, where it sets this.
pub record Members : Type 0 where
  pub sets : List TypedStatement
  pub functions : List TypedStatement → List TypedRoutine

-- a constructor: the call of its base's, and its own statements; between them it sets the fields
pub record Maker : Type 0 where
  pub above : List TypedStatement
  pub own : TypedStatements

-- a function of these parameters and this result, which does this, and those that stand in it
abbrev pub with_those_in_it : {A : Type 0} → List ValueType → ValueType → TypedStatements → Made A → List TypedRoutine
with_those_in_it params gives all made =
    record { params = params; locals = made.locals; gives = gives; all = all } ∷ made.routines

-- `this.x = value`, where a field has a first value
abbrev pub set_first : Known → ℕ → ℕ → StaticType → Option TypedTree → List TypedStatement
set_first k c x kind None = []
set_first k c x kind (Some value) =
    let u = value_type kind in
    e.Plain (e.Set u None (e.Field u (e.This (t.Object c)) (place_among (field_names k c) x)) value) ∷ []

abbrev pub no_members : Members
no_members = record { sets = []; functions = λ sets. [] }

-- some functions, and the members after them
abbrev pub functions_and : List TypedRoutine → Members → Members
functions_and own xs = record { sets = xs.sets; functions = λ sets. own ++ xs.functions sets }

module _ (w : Whole) where
  -- a field or a global, which is declared outside all functions
  abbrev pub elab_first : {A : Type 0} → This → Declaration → (StaticType → Option TypedTree → A) → Elab A
  elab_first self (Declare at x shape first) make =
      check (written_failure w.names at shape) (elab_initial w (outer_site self) shape first
      >-> λ a. need (kind_declared w.known w.names shape a) (why_declared shape) at
      (λ kind. yields (make kind (tree_of a))))

  abbrev pub elab_field : ℕ → Declaration → Elab (List TypedStatement)
  elab_field c (Declare at x shape first) =
      elab_first (this.Object c) (Declare at x shape first) (λ kind value. set_first w.known c x kind value)

  abbrev pub elab_global : ℕ → Declaration → Elab TypedDeclaration
  elab_global d a =
      elab_first this.Nowhere a (λ kind value. record { name = Global (global_number w.known d); first = value })

  -- a function by its number n; its result is derived from its statements, and so is known after them
  abbrev pub elab_function : List ValueType → Site → ℕ → Statements → ℕ → Result (List TypedRoutine) Failure
  elab_function params s at all n =
      elab_statements w s all 0 (suc n)
      >>- λ made. needed s.place.gives NeedsType at
      (λ kind. Ok (with_those_in_it params (value_type kind) made.it made))

  abbrev pub elab_plain : (library : Bool) → ℕ → Option StaticType → Routine → Result (List TypedRoutine) Failure
  elab_plain library n result (Does at params gives all arrow) =
      elab_function (value_types (parameter_kinds w.names params)) (site w.names this.Nowhere result library 0 params)
      at all n

  -- a method takes `this` first
  abbrev pub elab_method : ℕ → ℕ → Option StaticType → Routine → Result (List TypedRoutine) Failure
  elab_method c n result (Does at params gives all arrow) =
      elab_function (t.Object c ∷ value_types (parameter_kinds w.names params))
      (site w.names (this.Object c) result false 1 params) at all n

  -- the statements of a constructor, which begin with `super(..)` where its class has a base
  abbrev pub elab_making : Site → Option ℕ → ℕ → Statements → Elab Maker
  elab_making s None at all = elab_statements w s all >-> λ xs. yields (record { above = []; own = xs })
  elab_making s (Some b) at (also (Plain j (SuperCall i None args)) rest) =
      let takes = maker_takes_of w.known.classes b in
      elab_given w s takes args >-> λ ys. check (unless (all_go w.known.classes ys.kinds takes) Mismatch i)
      (elab_statements w s rest
      >-> λ xs. yields (record { above = super_called w.numbers b ys.trees ∷ []; own = xs }))
  elab_making s (Some b) at all = elab_statements w s all >-> λ xs. fails Mismatch at

  abbrev pub elab_constructor : ℕ → ℕ → Routine → Result (List TypedStatement → List TypedRoutine) Failure
  elab_constructor c n (Does at params gives all arrow) =
      elab_making (site w.names (this.Object c) (Some nothing) false 1 params) (base_of w.known.classes c) at all
      0 (suc n)
      >>- λ made. Ok (λ sets. with_those_in_it (t.Object c ∷ value_types (parameter_kinds w.names params)) (t.Object c)
      ((made.it.above ++ sets) before made.it.own) made)

  -- members of the class c, from the function n and the d-th declaration on
  abbrev pub elab_members : ℕ → ℕ → ℕ → List ClassMember → Result Members Failure
  elab_members c n d [] = Ok no_members
  elab_members c n d (Field a ∷ rest) =
      elab_field c a 0 n >>- λ x. elab_members c (n + declared_handlers a) (suc d) rest
      >>- λ xs. Ok (record { sets = x.it ++ xs.sets; functions = λ sets. x.routines ++ xs.functions sets })
  elab_members c n d (Method x r ∷ rest) =
      elab_method c n (kind_at w.known d) r >>- λ own. elab_members c (suc n + routine_handlers r) (suc d) rest
      >>- λ xs. Ok (functions_and own xs)
  elab_members c n d (Constructor r ∷ rest) =
      elab_constructor c n r >>- λ own. elab_members c (suc n + routine_handlers r) d rest
      >>- λ xs. Ok (record { sets = xs.sets; functions = λ sets. own sets ++ xs.functions sets })

  -- the functions of a class; a constructor that isn't written comes first
  abbrev pub elab_class : ℕ → ℕ → ℕ → List ClassMember → Result (List TypedRoutine) Failure
  elab_class c n d members =
      elab_members c (n + unwritten members) d members
      >>- λ x. Ok (unwritten_made w.known w.numbers (unwritten members) c x.sets ++ x.functions x.sets)

  abbrev pub elab_globals : ℕ → Declarations → Elab (List TypedDeclaration)
  elab_globals d ended = yields []
  elab_globals d (next a rest) = elab_global d a >-> λ x. elab_globals (suc d) rest >-> λ xs. yields (x ∷ xs)

  -- a statement of the main program, whose own names are globals
  abbrev pub elab_main : ℕ → Statement → Elab TypedStatement
  elab_main d (Let at fixed each) = elab_globals d each >-> λ ds. yields (e.Let fixed ds)
  elab_main d a = elab_statement w (outer_site this.Nowhere) a

  -- what a part of a text adds to the main program, and its functions: the part has the class c, the d-th declaration,
  -- the main program's local m and the function n first
  abbrev pub elab_part : ℕ → ℕ → ℕ → ℕ → TopLevel → Result (Made (List TypedStatement)) Failure
  elab_part c d m n (Class at x base base_at members) =
      elab_class c n (suc d) members >>- λ all. Ok (record { it = []; locals = []; routines = all })
  elab_part c d m n (Function x r) =
      elab_plain false n (kind_at w.known d) r >>- λ all. Ok (record { it = []; locals = []; routines = all })
  elab_part c d m n (Main a) =
      elab_main d a m n >>- λ x. Ok (record { it = x.it ∷ []; locals = x.locals; routines = x.routines })

  -- the main program and all functions
  abbrev pub elab_parts : ℕ → ℕ → ℕ → ℕ → Program → Result (Made TypedStatements) Failure
  elab_parts c d m n [] = Ok (record { it = e.done; locals = []; routines = [] })
  elab_parts c d m n (i ∷ rest) =
      elab_part c d m n i
      >>- λ x. elab_parts (c + classes_in i) (d + length (item_entries w.names c i)) (m + length x.locals)
      (n + item_routines i) rest
      >>- λ y. Ok (record {
        it = x.it before y.it;
        locals = x.locals ++ y.locals;
        routines = x.routines ++ y.routines;
      })

  -- the library's functions, which know their own names alone
  abbrev pub elab_library : ℕ → ℕ → Program → Result (List TypedRoutine) Failure
  elab_library d n [] = Ok []
  elab_library d n (Function x r ∷ rest) =
      elab_plain true n (kind_at w.known d) r >>- λ own. elab_library (suc d) (n + item_routines (Function x r)) rest
      >>- λ more. Ok (own ++ more)
  elab_library d n (i ∷ rest) = elab_library d n rest

-- all that is known of a text with these types of its declarations
abbrev pub whole_of : Tables → Program → Program → TypeTable → Whole
whole_of tables library text kinds = record {
  tables = tables;
  names = all_names library text;
  known = known library text kinds;
  numbers = numbering (library ++ text);
}

-- headings and methods that override others, then its functions and its main program, then the limits
abbrev pub elab_text : Tables → Program → Program → TypeTable → Result TypedProgram Failure
elab_text tables library text kinds =
    let w = whole_of tables library text kinds in
    let k = w.known in
    let c = library_classes library text in
    checked (heading_refusal tables.names library text then all_overrides k w.names c k.library text)
    (elab_library w 0 0 library >>- λ first. elab_parts w c k.library 0 (all_routines library) text
    >>- λ made. needed (class_entries k w.numbers 0 k.classes) NeedsType 0
    (λ classes. needed (global_types k 0 k.entries) NeedsType 0
    (λ globals. let P : TypedProgram = record {
      classes = classes;
      functions = first ++ made.routines ++ main_routine made ∷ [];
      globals = globals;
      main = length first + length made.routines;
    } in checked (limits_failure tables.texts P) (Ok P))))

-- With the types of declarations that aren't written, a text becomes this typed program; or it fails so.
abbrev pub BecomesProgram : Tables → Program → Program → TypedProgram → Type 0
BecomesProgram tables library text P =
    (kinds : TypeTable) × AreDerived tables library text kinds × (elab_text tables library text kinds ≡ Ok P)

abbrev pub FailsBy : Tables → Program → Program → Failure → Type 0
FailsBy tables library text f =
    (kinds : TypeTable) × AreDerived tables library text kinds × (elab_text tables library text kinds ≡ Err f)
