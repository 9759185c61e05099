-- The texts of a typed program are those of the programs that it is made of.
use Rattle.std.proofs.Common.{ℕ, zero, suc, ◌+◌, ◌<◌, Bool, true, false, Option, Some, None, List, [], ◌∷◌, ◌++◌, length}
use Rattle.std.specs.List.{All}
use Rattle.std.proofs.lemmas.List.Elements.{All-cons, All-nil}
use Rattle.sts_base.specs.declared.tables.Tables.{Tables}
use Rattle.sts_syntax.specs.declared.typed.Spot.TheVariants.{Global}
use Rattle.sts_syntax.specs.Types as t
use Rattle.sts_syntax.specs.TypedTrees as e
use Rattle.sts_syntax.specs.TypedTrees.{TypedTree, TypedStatement, TypedStatements, TypedRoutine}
use Rattle.sts_syntax.specs.Nodes.{nodes, nodes_of, optional_nodes, declared_nodes, expressions, expressions_of, all_expressions, texts_in, NamesTexts}
use Rattle.sts_syntax.specs.Trees.{SuperCall, Statement, Let, Plain, Statements, also, Declaration, Declare, Declarations, ended, next, Routine, Does}
use Rattle.sts_syntax.specs.Programs.{ClassMember, Field, Method, Constructor, Class, Function, Main, Program}
use Rattle.sts_scope.specs.declared.kinds.StaticType.{StaticType}
use Rattle.sts_scope.specs.declared.known.Known.{Known}
use Rattle.sts_scope.specs.declared.known.This.TheVariants as this
use Rattle.sts_scope.specs.Kinds.{nothing, value_types}
use Rattle.sts_scope.specs.Entries.{Naming, item_entries, parameter_kinds}
use Rattle.sts_scope.specs.Lookup.{base_of}
use Rattle.sts_scope.specs.Places.{outside}
use Rattle.sts_scope.specs.Rules.{kind_at, maker_takes_of}
use Rattle.sts_scope.specs.Scopes.{all_names, library_classes}
use Rattle.sts_scope.specs.Handlers.{unwritten, item_routines, declared_handlers, routine_handlers, all_routines}
use Rattle.sts_scope.specs.Numbers.{Numbering, numbering, global_number, maker_number}
use Rattle.type_derive.specs.Built.{Site}
use Rattle.type_derive.specs.inner.Filled.{made_first, made_given, made_statements, site, class_result, function_made, method_made}
use Rattle.typed_laws.specs.Programs.{◌before◌, passed_on, super_called, passes_on, unwritten_made}
use Rattle.typed_laws.specs.inner.FilledPrograms.{initial_made, set_field, initials, made_statements_of, constructor_made, members_made, class_made, global_made, globals_made, main_made, items_made, library_made}
use Rattle.typed_laws.specs.Formed.{BodyHas, DeclarationHas, DeclarationsHave, StatementsHave, MembersHave, ProgramHas, StatementHas, TextsBelow}
use Rattle.type_derive.specs.Derived.{known}
use Rattle.typed_laws.specs.inner.FilledTexts.{filled_program}
use Rattle.typed_laws.proofs.TextsKept.{AllName, RoutinesName, both, routines_both, Sound, Makes, makes_pure, one_of, two_of, OfTrees, OfOption, OfDeclaration, OfDeclarations, OfStatement, OfStatements, routine_names, Whatever, Below, first, given, statement, statements}

module _ (n : ℕ) where
  abbrev StatementsName : List TypedStatement → Type 0
  StatementsName [] = Unit {0}
  StatementsName (a ∷ rest) = AllName n (expressions a) × StatementsName rest

  before_names : (xs : List TypedStatement) (all : TypedStatements) → StatementsName xs → AllName n (expressions_of all) → AllName n (expressions_of (xs before all))
  before_names [] all h k = k
  before_names (a ∷ rest) all h k = both n (expressions a) (expressions_of (rest before all)) h.0 (before_names rest all h.1 k)

  statements_both : (xs ys : List TypedStatement) → StatementsName xs → StatementsName ys → StatementsName (xs ++ ys)
  statements_both [] ys h k = k
  statements_both (x ∷ xs) ys h k = (h.0, statements_both xs ys h.1 k)

  passed_names : (i : ℕ) (takes : List StaticType) → AllName n (nodes_of (passed_on i takes))
  passed_names i [] = tt
  passed_names i (u ∷ us) = (tt, passed_names (suc i) us)

  module _ (tables : Tables) (names : Naming) (k : Known) (numbers : Numbering) where
    function_names : (library : Bool) (i : ℕ) (result : Option StaticType) (r : Routine) → BodyHas Whatever (Below n) r → RoutinesName n (function_made tables names k numbers library i result r)
    function_names library i result (Does at params gives all arrow) h =
        routine_names n tables names k numbers (value_types (parameter_kinds names params)) (class_result tables names k numbers result) (made_statements tables names k numbers (site tables names k numbers this.Nowhere result library 0 params) all)
        (statements n tables names k numbers (site tables names k numbers this.Nowhere result library 0 params) false all h) i

    method_names : (c i : ℕ) (result : Option StaticType) (r : Routine) → BodyHas Whatever (Below n) r → RoutinesName n (method_made tables names k numbers c i result r)
    method_names c i result (Does at params gives all arrow) h =
        routine_names n tables names k numbers (t.Object c ∷ value_types (parameter_kinds names params)) (class_result tables names k numbers result) (made_statements tables names k numbers (site tables names k numbers (this.Object c) result false 1 params) all)
        (statements n tables names k numbers (site tables names k numbers (this.Object c) result false 1 params) false all h) i

    initial_names : (c i : ℕ) (d : Declaration) → DeclarationHas Whatever (Below n) d → Sound n (OfOption n) (initial_made tables names k numbers c i d)
    initial_names c i (Declare at x shape o) h = first n tables names k numbers (record { place = outside (this.Object c) false None; spots = [] }) shape o h 0 i

    set_names : (c d : ℕ) (a : Declaration) (o : Option TypedTree) → AllName n (optional_nodes o) → StatementsName (set_field tables names k numbers c d a o)
    set_names c d (Declare at x shape o) None h = tt
    set_names c d (Declare at x shape o) (Some r) h = ((tt, (tt, (tt, h))), tt)

    initials_name : (c i d : ℕ) (all : List ClassMember) → MembersHave Whatever (Below n) all → StatementsName (initials tables names k numbers c i d all)
    initials_name c i d [] h = tt
    initials_name c i d (Field a ∷ rest) h =
        statements_both (set_field tables names k numbers c d a (initial_made tables names k numbers c i a).it) (initials tables names k numbers c (i + declared_handlers a) (suc d) rest)
        (set_names c d a (initial_made tables names k numbers c i a).it (initial_names c i a h.0).it) (initials_name c (i + declared_handlers a) (suc d) rest h.1)
    initials_name c i d (Method x r ∷ rest) h = initials_name c (suc i + routine_handlers r) (suc d) rest h.1
    initials_name c i d (Constructor r ∷ rest) h = initials_name c (suc i + routine_handlers r) d rest h.1

    statements_of : (s : Site) (base : Option ℕ) (inits : List TypedStatement) (all : Statements) → StatementsName inits → StatementsHave Whatever (Below n) false all → Makes n (OfStatements n) (made_statements_of tables names k numbers s base inits all)
    statements_of s None inits all p h =
        one_of n (OfStatements n) (OfStatements n) (made_statements tables names k numbers s all) (λ xs. inits before xs) (statements n tables names k numbers s false all h) (λ xs q. before_names inits xs p q)
    statements_of s (Some b) inits (also (Plain i (SuperCall j None args)) rest) p h =
        two_of n (OfTrees n) (OfStatements n) (OfStatements n) (made_given tables names k numbers s (maker_takes_of k.classes b) args) (made_statements tables names k numbers s rest) (λ ys xs. e.also (super_called numbers b ys) (inits before xs))
        (given n tables names k numbers s (maker_takes_of k.classes b) args h.0) (statements n tables names k numbers s false rest h.1)
        (λ ys xs q r. both n (nodes (e.SuperCall (t.Object b) (maker_number numbers b) ys)) (expressions_of (inits before xs)) (tt, q) (before_names inits xs p r))
    statements_of s (Some b) inits all p h =
        one_of n (OfStatements n) (OfStatements n) (made_statements tables names k numbers s all) (λ xs. inits before xs) (statements n tables names k numbers s false all h) (λ xs q. before_names inits xs p q)

    constructor_names : (c i : ℕ) (inits : List TypedStatement) (r : Routine) → StatementsName inits → BodyHas Whatever (Below n) r → RoutinesName n (constructor_made tables names k numbers c i inits r)
    constructor_names c i inits (Does at params gives all arrow) p h =
        let s = site tables names k numbers (this.Object c) (Some nothing) false 1 params in
        routine_names n tables names k numbers (t.Object c ∷ value_types (parameter_kinds names params)) (t.Object c) (made_statements_of tables names k numbers s (base_of k.classes c) inits all) (statements_of s (base_of k.classes c) inits all p h) i

    passes_name : (base : Option ℕ) (takes : List StaticType) → StatementsName (passes_on numbers base takes)
    passes_name None takes = tt
    passes_name (Some b) takes = ((tt, passed_names 1 takes), tt)

    unwritten_names : (m c : ℕ) (inits : List TypedStatement) → StatementsName inits → RoutinesName n (unwritten_made k numbers m c inits)
    unwritten_names zero c inits p = tt
    unwritten_names (suc m) c inits p =
        let takes = maker_takes_of k.classes c in
        let passed = passes_on numbers (base_of k.classes c) takes in
        (before_names (passed ++ inits) e.done (statements_both passed inits (passes_name (base_of k.classes c) takes) p) tt, tt)

    members_name : (c : ℕ) (inits : List TypedStatement) (i d : ℕ) (all : List ClassMember) → StatementsName inits → MembersHave Whatever (Below n) all → RoutinesName n (members_made tables names k numbers c inits i d all)
    members_name c inits i d [] p h = tt
    members_name c inits i d (Field a ∷ rest) p h =
        routines_both n (initial_made tables names k numbers c i a).routines (members_made tables names k numbers c inits (i + declared_handlers a) (suc d) rest) (initial_names c i a h.0).routines (members_name c inits (i + declared_handlers a) (suc d) rest p h.1)
    members_name c inits i d (Method x r ∷ rest) p h =
        routines_both n (method_made tables names k numbers c i (kind_at k d) r) (members_made tables names k numbers c inits (suc i + routine_handlers r) (suc d) rest) (method_names c i (kind_at k d) r h.0)
        (members_name c inits (suc i + routine_handlers r) (suc d) rest p h.1)
    members_name c inits i d (Constructor r ∷ rest) p h =
        routines_both n (constructor_made tables names k numbers c i inits r) (members_made tables names k numbers c inits (suc i + routine_handlers r) d rest) (constructor_names c i inits r p h.0)
        (members_name c inits (suc i + routine_handlers r) d rest p h.1)

    class_names : (c i d : ℕ) (all : List ClassMember) → MembersHave Whatever (Below n) all → RoutinesName n (class_made tables names k numbers c i d all)
    class_names c i d all h =
        let start = i + unwritten all in
        let inits = initials tables names k numbers c start d all in
        let p = initials_name c start d all h in
        routines_both n (unwritten_made k numbers (unwritten all) c inits) (members_made tables names k numbers c inits start d all) (unwritten_names (unwritten all) c inits p) (members_name c inits start d all p h)

    global_names : (d : ℕ) (a : Declaration) → DeclarationHas Whatever (Below n) a → Makes n (OfDeclaration n) (global_made tables names k numbers d a)
    global_names d (Declare at x shape o) h =
        one_of n (OfOption n) (OfDeclaration n) (made_first tables names k numbers (record { place = outside this.Nowhere false None; spots = [] }) shape o) (λ a. record { name = Global (global_number k d); first = a })
        (first n tables names k numbers (record { place = outside this.Nowhere false None; spots = [] }) shape o h) (λ a p. p)

    globals_name : (d : ℕ) (ds : Declarations) → DeclarationsHave Whatever (Below n) ds → Makes n (OfDeclarations n) (globals_made tables names k numbers d ds)
    globals_name d ended h = makes_pure n (OfDeclarations n) [] tt
    globals_name d (next a rest) h =
        two_of n (OfDeclaration n) (OfDeclarations n) (OfDeclarations n) (global_made tables names k numbers d a) (globals_made tables names k numbers (suc d) rest) (λ x xs. x ∷ xs) (global_names d a h.0) (globals_name (suc d) rest h.1)
        (λ x xs p q. both n (optional_nodes x.first) (declared_nodes xs) p q)

    main_names : (d : ℕ) (a : Statement) → StatementHas Whatever (Below n) false a → Makes n (OfStatement n) (main_made tables names k numbers d a)
    main_names d (Let at fixed each) h = one_of n (OfDeclarations n) (OfStatement n) (globals_made tables names k numbers d each) (λ ds. e.Let fixed ds) (globals_name d each h) (λ ds p. p)
    main_names d a h = statement n tables names k numbers (record { place = outside this.Nowhere false None; spots = [] }) false a h

    pub items_name : (c d m i : ℕ) (all : Program) → ProgramHas Whatever (Below n) all → Sound n (OfStatements n) (items_made tables names k numbers c d m i all)
    items_name c d m i [] h = record { it = tt; routines = tt }
    items_name c d m i (Class at x base base_at members ∷ rest) h =
        let one = items_name (suc c) (d + length (item_entries names c (Class at x base base_at members))) m (i + item_routines (Class at x base base_at members)) rest h.1 in
        record { it = one.it; routines = routines_both n (class_made tables names k numbers c i (suc d) members) _ (class_names c i (suc d) members h.0) one.routines }
    items_name c d m i (Function x r ∷ rest) h =
        let one = items_name c (suc d) m (i + item_routines (Function x r)) rest h.1 in
        record { it = one.it; routines = routines_both n (function_made tables names k numbers false i (kind_at k d) r) _ (function_names false i (kind_at k d) r h.0) one.routines }
    items_name c d m i (Main a ∷ rest) h =
        let here = main_made tables names k numbers d a m i in
        let now = main_names d a h.0 m i in
        let behind = items_made tables names k numbers c (d + length (item_entries names c (Main a))) (m + length here.locals) (i + item_routines (Main a)) rest in
        let one = items_name c (d + length (item_entries names c (Main a))) (m + length here.locals) (i + item_routines (Main a)) rest h.1 in
        record { it = both n (expressions here.it) (expressions_of behind.it) now.it one.it; routines = routines_both n here.routines behind.routines now.routines one.routines }

    pub library_names : (d i : ℕ) (all : Program) → ProgramHas Whatever (Below n) all → RoutinesName n (library_made tables names k numbers d i all)
    library_names d i [] h = tt
    library_names d i (Function x r ∷ rest) h =
        routines_both n (function_made tables names k numbers true i (kind_at k d) r) (library_made tables names k numbers (suc d) (i + item_routines (Function x r)) rest) (function_names true i (kind_at k d) r h.0)
        (library_names (suc d) (i + item_routines (Function x r)) rest h.1)
    library_names d i (a ∷ rest) h = library_names d i rest h.1

  -- as the numbers of all texts
  pub routines_flat : (rs : List TypedRoutine) → RoutinesName n rs → AllName n (all_expressions rs)
  routines_flat [] h = tt
  routines_flat (r ∷ rest) h = both n (expressions_of r.all) (all_expressions rest) h.0 (routines_flat rest h.1)

  texts_below : (all : List TypedTree) → AllName n all → All (λ text. text < n) (texts_in all)
  texts_below [] h = All-nil (λ text. text < n)
  texts_below (e.Text u x ∷ rest) h = All-cons (λ text. text < n) x (texts_in rest) h.0 (texts_below rest h.1)
  texts_below (e.Num u z ∷ rest) h = texts_below rest h.1
  texts_below (e.Truth u b ∷ rest) h = texts_below rest h.1
  texts_below (e.Null u ∷ rest) h = texts_below rest h.1
  texts_below (e.This u ∷ rest) h = texts_below rest h.1
  texts_below (e.Name u x ∷ rest) h = texts_below rest h.1
  texts_below (e.Unary u op a ∷ rest) h = texts_below rest h.1
  texts_below (e.Binary u op a b ∷ rest) h = texts_below rest h.1
  texts_below (e.Both u a b ∷ rest) h = texts_below rest h.1
  texts_below (e.Either u a b ∷ rest) h = texts_below rest h.1
  texts_below (e.Choice u c a b ∷ rest) h = texts_below rest h.1
  texts_below (e.Set u op x r ∷ rest) h = texts_below rest h.1
  texts_below (e.Bump u x by late ∷ rest) h = texts_below rest h.1
  texts_below (e.Field u a f ∷ rest) h = texts_below rest h.1
  texts_below (e.Length u a ∷ rest) h = texts_below rest h.1
  texts_below (e.Item u a i ∷ rest) h = texts_below rest h.1
  texts_below (e.Call u f args ∷ rest) h = texts_below rest h.1
  texts_below (e.SuperCall u f args ∷ rest) h = texts_below rest h.1
  texts_below (e.Make u c args ∷ rest) h = texts_below rest h.1
  texts_below (e.Items u items ∷ rest) h = texts_below rest h.1
  texts_below (e.Handler u f ∷ rest) h = texts_below rest h.1

  pub typed_names : (tables : Tables) (library text : Program) (kinds : List (Option StaticType)) → TextsBelow n library → TextsBelow n text → NamesTexts n (filled_program tables library text kinds)
  typed_names tables library text kinds hl ht =
      let names = all_names library text in
      let k = known library text kinds in
      let numbers = numbering (library ++ text) in
      let start = library_made tables names k numbers 0 0 library in
      let made = items_made tables names k numbers (library_classes library text) k.library 0 (all_routines library) text in
      let good = items_name tables names k numbers (library_classes library text) k.library 0 (all_routines library) text ht in
      let last : RoutinesName n (record { params = []; locals = made.locals; gives = t.Nothing; all = made.it } ∷ []) = (good.it, tt) in
      let front = routines_both n start made.routines (library_names tables names k numbers 0 0 library hl) good.routines in
      let whole = routines_both n (start ++ made.routines) (record { params = []; locals = made.locals; gives = t.Nothing; all = made.it } ∷ []) front last in
      texts_below (all_expressions (filled_program tables library text kinds).functions) (routines_flat (filled_program tables library text kinds).functions whole)
