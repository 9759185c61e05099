-- The typed program of a text without a failure is there, and is the one that is filled in.
use Rattle.std.proofs.Common.{◌≡◌, ◌≤◌, ◌<◌, ℕ, suc, ◌+◌, refl, sym, ap, ◌∙◌, subst, Bool, true, false, Option, Some, None, List, [], ◌∷◌, ◌++◌, length, arith}
use Rattle.std.specs.Prelude.{slice_get, IsSome, map, unwrap_or}
use Rattle.std.specs.Option.{option_map}
use Rattle.sts_base.specs.declared.tables.Tables.{Tables}
use Rattle.sts_base.specs.declared.refused.Code.TheVariants.{Mismatch, NeedsType, UnknownName}
use Rattle.sts_syntax.specs.Annotations.{Annotation}
use Rattle.sts_syntax.specs.Types as t
use Rattle.sts_syntax.specs.Types.{ValueType}
use Rattle.sts_syntax.specs.TypedTrees as e
use Rattle.sts_syntax.specs.declared.typed.Spot.TheVariants.{Global}
use Rattle.sts_syntax.specs.TypedTrees.{TypedTree, TypedTrees, TypedStatement, TypedStatements, TypedDeclaration, TypedRoutine, ClassEntry}
use Rattle.sts_syntax.specs.Trees.{Parameter, Trees, SuperCall, OptionalTree, Statement, Block, Let, IfOnly, IfElse, While, DoWhile, For, ForOf, Return, Break, Continue, Plain, Empty, Statements, also, Declaration, Declare, Declarations, ended, next, Routine, Does}
use Rattle.sts_syntax.specs.Programs.{ClassMember, Field, Method, Constructor, TopLevel, Class, Function, Main, Program}
use Rattle.sts_scope.specs.declared.kinds.StaticType.{StaticType}
use Rattle.sts_scope.specs.declared.entries.DeclarationKind.{DeclarationKind}
use Rattle.sts_scope.specs.declared.entries.DeclarationKind.TheVariants as sort
use Rattle.sts_scope.specs.declared.entries.Entry.{Entry}
use Rattle.sts_scope.specs.declared.entries.ClassHead.{ClassHead}
use Rattle.sts_scope.specs.declared.entries.Owner.TheVariants as o
use Rattle.sts_scope.specs.declared.known.Known.{Known}
use Rattle.sts_scope.specs.declared.known.This.{This}
use Rattle.sts_scope.specs.declared.known.This.TheVariants as this
use Rattle.sts_scope.specs.Kinds.{nothing, value_type, value_types}
use Rattle.sts_scope.specs.Entries.{Naming, kind_of, written_kind, classes_in, member_entries, item_entries, entries_from, parameter_kinds}
use Rattle.sts_scope.specs.Failures.{Failure, ◌then◌, own}
use Rattle.sts_scope.specs.Handlers.{unwritten, item_routines, declared_handlers, routine_handlers}
use Rattle.sts_scope.specs.Headings.{written_failure, type_name_failure}
use Rattle.sts_scope.specs.Lookup.{base_of, sort_of}
use Rattle.sts_scope.specs.Numbers.{Numbering, global_number, field_names, slot_names, is_listed, place_among, routine_number, maker_number}
use Rattle.sts_scope.specs.Places.{NameScope, outside}
use Rattle.sts_scope.specs.Rules.{kind_at, maker_takes_of, all_go}
use Rattle.sts_scope.specs.Scopes.{is_global}
use Rattle.type_derive.specs.Built as b
use Rattle.type_derive.specs.Built.{Site}
use Rattle.typed_laws.specs.Libraries.{OnlyFunctions, library_failure}
use Rattle.type_derive.specs.Making.{Made, Making, pure, ◌>=>◌}
use Rattle.type_derive.specs.Nodes.{failures, initial_failure, own_bound, statements_failure}
use Rattle.type_derive.specs.Passes.{outside_failure, globals_failure, main_failure, body_failure, own_super_call, made_failure, constructor_failure, members_nodes, item_nodes, nodes_failure}
use Rattle.type_derive.specs.Functions as tf
use Rattle.typed_laws.specs.Programs as p
use Rattle.typed_laws.specs.Programs.{◌before◌, each_made, outer_site}
use Rattle.type_derive.specs.Functions.{site}
use Rattle.type_derive.specs.Returns.{parameter_locals, within, bound}
use Rattle.type_derive.specs.Typing.{◌>>=◌, types_of}
use Rattle.type_derive.specs.inner.Filled as f
use Rattle.typed_laws.specs.inner.FilledPrograms as fp
use Rattle.type_derive.specs.inner.Filling as f'
use Rattle.typed_laws.specs.WholePrograms.{HasItsType, HasMember, NamesAreMembers}
use Rattle.typed_laws.proofs.Agreeing.{Agree, agree1, agree2, agree_routines}
use Rattle.typed_laws.proofs.BuiltTrees.{there, has_some, mapped, given, initial, statement, statements}
use Rattle.typed_laws.proofs.FilledParts.{onward}
use Rattle.typed_laws.proofs.Items.{begins_super, maker_failure, constructor_case}
use Rattle.typed_laws.proofs.Names.{bind_some, some_is}
use Rattle.typed_laws.proofs.Searching.{get_within, get_listed, listed_right}
use Rattle.typed_laws.proofs.Suffixes.{Suffix, suffix_step, suffix_one, suffix_head}
use Rattle.typed_laws.proofs.Typed.{last, first, some, unless_true, own_has}
use Rattle.typed_laws.proofs.WholeNodes.{parameters_spots}

module _ (tables : Tables) (names : Naming) (k : Known) (numbers : Numbering) where
  -- a function's statements, of which it is known that they are made
  routines_so : (params : List ValueType) (result : Option StaticType) (n : ℕ) (x : Making TypedStatements) (y : f'.Making TypedStatements) → IsSome result → Agree x y
      → (result >>= λ u. b.routines_made params (value_type u) x n)
      ≡ Some ((f.routine tables names k numbers params (f.class_result tables names k numbers result) y n).it ∷ (f.routine tables names k numbers params (f.class_result tables names k numbers result) y n).routines)
  routines_so params result n x y typed h =
      ap (λ (o : Option StaticType). o >>= λ u. b.routines_made params (value_type u) x n) (there result nothing (has_some result typed))
      ∙ agree_routines params (value_type (unwrap_or result nothing)) x y n h

  pub function_so : (library : Bool) (n : ℕ) (result : Option StaticType) (i : ℕ) (params : List Parameter) (gives : Option Annotation) (all : Statements) (arrow : Bool) → IsSome result
      → statements_failure tables names k (within (parameter_locals names params) this.Nowhere result library) all ≡ None
      → tf.function_made tables names k numbers library n result (Does i params gives all arrow) ≡ Some (f.function_made tables names k numbers library n result (Does i params gives all arrow))
  function_so library n result i params gives all arrow typed h =
      routines_so (value_types (parameter_kinds names params)) result n _ _ typed
      (statements tables names k numbers (site names this.Nowhere result library 0 params) all (parameters_spots names 0 params) h)

  pub method_so : (c n : ℕ) (result : Option StaticType) (i : ℕ) (params : List Parameter) (gives : Option Annotation) (all : Statements) (arrow : Bool) → IsSome result
      → statements_failure tables names k (within (parameter_locals names params) (this.Object c) result false) all ≡ None
      → tf.method_made tables names k numbers c n result (Does i params gives all arrow) ≡ Some (f.method_made tables names k numbers c n result (Does i params gives all arrow))
  method_so c n result i params gives all arrow typed h =
      routines_so (t.Object c ∷ value_types (parameter_kinds names params)) result n _ _ typed
      (statements tables names k numbers (site names (this.Object c) result false 1 params) all (parameters_spots names 1 params) h)

  -- a field or a global
  bound_so : (q : NameScope) (shape : Option Annotation) (a : OptionalTree) (i : ℕ) → written_failure names i shape ≡ None → own_bound tables names k q shape a i ≡ None → IsSome (bound tables names k q shape a)
  bound_so q (Some shape) a i h g = some (kind_of names shape) (own_has (kind_of names shape) UnknownName i (last (type_name_failure names shape) (own (kind_of names shape) UnknownName i) h))
  bound_so q None a i h g = some (bound tables names k q None a) (own_has (bound tables names k q None a) NeedsType i g)

  first_so : (self : This) (i x : ℕ) (shape : Option Annotation) (a : OptionalTree) → outside_failure tables names k self (Declare i x shape a) ≡ None
      → Agree (b.made_value tables names k numbers (outer_site self) (written_kind names shape) a) (f.made_first tables names k numbers (outer_site self) shape a)
  first_so self i x shape a h =
      let q : NameScope = outside self false None in
      let A : Option Failure = written_failure names i shape in
      let B : Option Failure = initial_failure tables names k q shape a in
      let C : Option Failure = own_bound tables names k q shape a i in
      initial tables names k numbers (outer_site self) shape a i refl (first A (B then C) h) (first B C (last A (B then C) h)) (bound_so q shape a i (first A (B then C) h) (last B C (last A (B then C) h)))

  initial_so : (c n i x : ℕ) (shape : Option Annotation) (a : OptionalTree) → outside_failure tables names k (this.Object c) (Declare i x shape a) ≡ None
      → p.initial_made tables names k numbers c n (Declare i x shape a) ≡ Some (fp.initial_made tables names k numbers c n (Declare i x shape a))
  initial_so c n i x shape a h = first_so (this.Object c) i x shape a h 0 n

  set_so : (c d i x : ℕ) (shape : Option Annotation) (a : OptionalTree) (r : Option TypedTree) → IsSome (kind_at k d) → p.set_field k c d (Declare i x shape a) r ≡ Some (fp.set_field tables names k numbers c d (Declare i x shape a) r)
  set_so c d i x shape a None h = refl
  set_so c d i x shape a (Some r) h =
      ap (λ (u : Option StaticType). u >>= λ kind. Some (e.Plain (e.Set (value_type kind) None (e.Field (value_type kind) (e.This (t.Object c)) (place_among (field_names k c) x)) r) ∷ []))
      (there (kind_at k d) nothing (has_some (kind_at k d) h))

  -- constructors
  constructor_statements : (s : Site) (base : Option ℕ) (inits : List TypedStatement) (i : ℕ) (all : Statements) → length s.spots ≡ length s.place.locals
      → maker_failure tables names k numbers s.place base i all ≡ None
      → Agree (p.made_statements_of tables names k numbers s base inits all) (fp.made_statements_of tables names k numbers s base inits all)
  constructor_statements s None inits i all hs h = agree1 (λ xs. inits before xs) _ _ (statements tables names k numbers s all hs h)
  constructor_statements s (Some b') inits i all hs h =
      let (j, l, args, rest, is) = begins_super tables names k numbers all i b' s.place h in
      let G : Statements → Type 0 = λ xs. made_failure tables names k s.place i b' xs ≡ None → Agree (p.made_statements_of tables names k numbers s (Some b') inits xs) (fp.made_statements_of tables names k numbers s (Some b') inits xs) in
      let base : G (also (Plain j (SuperCall l None args)) rest) = λ h1. super_first s b' inits l args rest hs h1 in
      subst G (sym is) base h
    where
      given_super : (s : Site) (b' l : ℕ) (args : Trees) (us : Option (List StaticType)) → length s.spots ≡ length s.place.locals → types_of tables k s.place args ≡ us → failures tables names k s.place [] args ≡ None
          → own_super_call k us (maker_takes_of k.classes b') l ≡ None
          → Agree (b.made_given tables names k numbers s (maker_takes_of k.classes b') args) (f.made_given tables names k numbers s (maker_takes_of k.classes b') args)
      given_super s b' l args (Some us) hs q h g = given tables names k numbers s (maker_takes_of k.classes b') us args hs h q (unless_true (all_go k.classes us (maker_takes_of k.classes b')) Mismatch l g)
      given_super s b' l args None hs q h g = cc

      super_first : (s : Site) (b' : ℕ) (inits : List TypedStatement) (l : ℕ) (args : Trees) (rest : Statements) → length s.spots ≡ length s.place.locals
          → (failures tables names k s.place [] args then own_super_call k (types_of tables k s.place args) (maker_takes_of k.classes b') l then statements_failure tables names k s.place rest) ≡ None
          → Agree (b.made_given tables names k numbers s (maker_takes_of k.classes b') args >=> λ ys. b.made_statements tables names k numbers s rest >=> λ xs. pure (e.also (p.super_called numbers b' ys) (inits before xs)))
          (onward (f.made_given tables names k numbers s (maker_takes_of k.classes b') args) (λ ys. onward (f.made_statements tables names k numbers s rest) (λ xs. f'.pure (e.also (p.super_called numbers b' ys) (inits before xs)))))
      super_first s b' inits l args rest hs h =
          let A : Option Failure = failures tables names k s.place [] args in
          let B : Option Failure = own_super_call k (types_of tables k s.place args) (maker_takes_of k.classes b') l in
          let C : Option Failure = statements_failure tables names k s.place rest in
          agree2 (λ ys xs. e.also (p.super_called numbers b' ys) (inits before xs)) _ _ _ _
          (given_super s b' l args (types_of tables k s.place args) hs refl (first A (B then C) h) (first B C (last A (B then C) h)))
          (statements tables names k numbers s rest hs (last B C (last A (B then C) h)))

  constructor_so : (c n : ℕ) (inits : List TypedStatement) (base : Option ℕ) (i : ℕ) (params : List Parameter) (gives : Option Annotation) (all : Statements) (arrow : Bool) → base_of k.classes c ≡ base
      → constructor_failure tables names k (this.Object c) base (Does i params gives all arrow) ≡ None
      → p.constructor_made tables names k numbers c n inits (Does i params gives all arrow) ≡ Some (fp.constructor_made tables names k numbers c n inits (Does i params gives all arrow))
  constructor_so c n inits base i params gives all arrow is h =
      let s : Site = site names (this.Object c) (Some nothing) false 1 params in
      let none : maker_failure tables names k numbers s.place base i all ≡ None = constructor_case tables names k numbers (this.Object c) base i params gives all arrow h in
      agree_routines (t.Object c ∷ value_types (parameter_kinds names params)) (t.Object c) _ _ n
      (constructor_statements s (base_of k.classes c) inits i all (parameters_spots names 1 params) (subst (λ (x : Option ℕ). maker_failure tables names k numbers s.place x i all ≡ None) (sym is) none))

  -- one behind another
  abbrev joined : Option (List TypedRoutine) → Option (List TypedRoutine) → Option (List TypedRoutine)
  joined x y = x >>= λ own. y >>= λ more. Some (own ++ more)

  joined_so : (x y : Option (List TypedRoutine)) (xs ys : List TypedRoutine) → x ≡ Some xs → y ≡ Some ys → joined x y ≡ Some (xs ++ ys)
  joined_so x y xs ys h g = ap (λ (z : Option (List TypedRoutine)). joined z y) h ∙ ap (λ (z : Option (List TypedRoutine)). joined (Some xs) z) g

  -- The declarations that are known have types, but for functions of the library and classes.
  module _ (typed_so : (d : ℕ) (a : Entry) → slice_get k.entries d ≡ Some a → HasItsType k d a.sort) where
    field_typed : (d : ℕ) (a : Entry) (es : List Entry) → a.sort ≡ sort.Field → Suffix k.entries d (a ∷ es) → IsSome (kind_at k d)
    field_typed d a es is s = subst (λ (y : DeclarationKind). HasItsType k d y) is (typed_so d a (suffix_head k.entries d a es s))

    method_typed : (d : ℕ) (a : Entry) (es : List Entry) → a.sort ≡ sort.Method → Suffix k.entries d (a ∷ es) → IsSome (kind_at k d)
    method_typed d a es is s = subst (λ (y : DeclarationKind). HasItsType k d y) is (typed_so d a (suffix_head k.entries d a es s))

    initials_so : (c n d : ℕ) (members : List ClassMember) (es : List Entry) → Suffix k.entries d (member_entries names c members ++ es) → members_nodes tables names k c d members ≡ None
        → p.initials tables names k numbers c n d members ≡ Some (fp.initials tables names k numbers c n d members)
    initials_so c n d [] es s h = refl
    initials_so c n d (Field (Declare i x shape a) ∷ rest) es s h =
        let D : Declaration = Declare i x shape a in
        let en : Entry = record { at = i; owner = o.Class c; name = x; sort = sort.Field; takes = [] } in
        let A : Option Failure = outside_failure tables names k (this.Object c) D in
        let B : Option Failure = members_nodes tables names k c (suc d) rest in
        let y : Made (Option TypedTree) = fp.initial_made tables names k numbers c n D in
        let xs : List TypedStatement = fp.set_field tables names k numbers c d D y.it in
        let later : Option (List TypedStatement) = p.initials tables names k numbers c (n + declared_handlers D) (suc d) rest in
        ap (λ (z : Option (Made (Option TypedTree))). z >>= λ y. p.set_field k c d D y.it >>= λ sets. later >>= λ more. Some (sets ++ more)) (initial_so c n i x shape a (first A B h))
        ∙ ap (λ (z : Option (List TypedStatement)). z >>= λ sets. later >>= λ more. Some (sets ++ more)) (set_so c d i x shape a y.it (field_typed d en (member_entries names c rest ++ es) refl s))
        ∙ ap (λ (z : Option (List TypedStatement)). z >>= λ more. Some (xs ++ more)) (initials_so c (n + declared_handlers D) (suc d) rest es (suffix_one k.entries d en (member_entries names c rest ++ es) s) (last A B h))
    initials_so c n d (Method x (Does i params gives all arrow) ∷ rest) es s h =
        let R : Routine = Does i params gives all arrow in
        let en : Entry = record { at = i; owner = o.Class c; name = x; sort = sort.Method; takes = parameter_kinds names params } in
        initials_so c (suc n + routine_handlers R) (suc d) rest es (suffix_one k.entries d en (member_entries names c rest ++ es) s) (last (body_failure tables names k (this.Object c) (kind_at k d) R) (members_nodes tables names k c (suc d) rest) h)
    initials_so c n d (Constructor r ∷ rest) es s h = initials_so c (suc n + routine_handlers r) d rest es s (last (constructor_failure tables names k (this.Object c) (base_of k.classes c) r) (members_nodes tables names k c d rest) h)

    members_so : (c : ℕ) (inits : List TypedStatement) (n d : ℕ) (members : List ClassMember) (es : List Entry) → Suffix k.entries d (member_entries names c members ++ es) → members_nodes tables names k c d members ≡ None
        → p.members_made tables names k numbers c inits n d members ≡ Some (fp.members_made tables names k numbers c inits n d members)
    members_so c inits n d [] es s h = refl
    members_so c inits n d (Field (Declare i x shape a) ∷ rest) es s h =
        let D : Declaration = Declare i x shape a in
        let en : Entry = record { at = i; owner = o.Class c; name = x; sort = sort.Field; takes = [] } in
        let A : Option Failure = outside_failure tables names k (this.Object c) D in
        let B : Option Failure = members_nodes tables names k c (suc d) rest in
        let y : Made (Option TypedTree) = fp.initial_made tables names k numbers c n D in
        let later : Option (List TypedRoutine) = p.members_made tables names k numbers c inits (n + declared_handlers D) (suc d) rest in
        ap (λ (z : Option (Made (Option TypedTree))). z >>= λ y. later >>= λ more. Some (y.routines ++ more)) (initial_so c n i x shape a (first A B h))
        ∙ ap (λ (z : Option (List TypedRoutine)). z >>= λ more. Some (y.routines ++ more)) (members_so c inits (n + declared_handlers D) (suc d) rest es (suffix_one k.entries d en (member_entries names c rest ++ es) s) (last A B h))
    members_so c inits n d (Method x (Does i params gives all arrow) ∷ rest) es s h =
        let R : Routine = Does i params gives all arrow in
        let en : Entry = record { at = i; owner = o.Class c; name = x; sort = sort.Method; takes = parameter_kinds names params } in
        let A : Option Failure = body_failure tables names k (this.Object c) (kind_at k d) R in
        let B : Option Failure = members_nodes tables names k c (suc d) rest in
        joined_so _ _ _ _ (method_so c n (kind_at k d) i params gives all arrow (method_typed d en (member_entries names c rest ++ es) refl s) (first A B h))
        (members_so c inits (suc n + routine_handlers R) (suc d) rest es (suffix_one k.entries d en (member_entries names c rest ++ es) s) (last A B h))
    members_so c inits n d (Constructor (Does i params gives all arrow) ∷ rest) es s h =
        let R : Routine = Does i params gives all arrow in
        let A : Option Failure = constructor_failure tables names k (this.Object c) (base_of k.classes c) R in
        let B : Option Failure = members_nodes tables names k c d rest in
        joined_so _ _ _ _ (constructor_so c n inits (base_of k.classes c) i params gives all arrow refl (first A B h)) (members_so c inits (suc n + routine_handlers R) d rest es s (last A B h))

    class_so : (c n d : ℕ) (members : List ClassMember) (es : List Entry) → Suffix k.entries d (member_entries names c members ++ es) → members_nodes tables names k c d members ≡ None
        → p.class_made tables names k numbers c n d members ≡ Some (fp.class_made tables names k numbers c n d members)
    class_so c n d members es s h =
        let n' : ℕ = n + unwritten members in
        let inits : List TypedStatement = fp.initials tables names k numbers c n' d members in
        ap (λ (z : Option (List TypedStatement)). z >>= λ inits. p.members_made tables names k numbers c inits n' d members >>= λ more. Some (p.unwritten_made k numbers (unwritten members) c inits ++ more)) (initials_so c n' d members es s h)
        ∙ ap (λ (z : Option (List TypedRoutine)). z >>= λ more. Some (p.unwritten_made k numbers (unwritten members) c inits ++ more)) (members_so c inits n' d members es s h)

    -- the main program
    globals_so : (d : ℕ) (each : Declarations) → globals_failure tables names k each ≡ None → Agree (p.globals_made tables names k numbers d each) (fp.globals_made tables names k numbers d each)
    globals_so d ended h = λ m n. refl
    globals_so d (next (Declare i x shape a) rest) h =
        let D : Declaration = Declare i x shape a in
        let A : Option Failure = outside_failure tables names k this.Nowhere D in
        let B : Option Failure = globals_failure tables names k rest in
        let M : Option TypedTree → TypedDeclaration = λ y. record { name = Global (global_number k d); first = y } in
        agree2 (λ y ys. y ∷ ys) (p.global_made tables names k numbers d D) (fp.global_made tables names k numbers d D) (p.globals_made tables names k numbers (suc d) rest) (fp.globals_made tables names k numbers (suc d) rest)
        (agree1 M _ _ (first_so this.Nowhere i x shape a (first A B h))) (globals_so (suc d) rest (last A B h))

    main_so : (d : ℕ) (a : Statement) → main_failure tables names k a ≡ None → Agree (p.main_made tables names k numbers d a) (fp.main_made tables names k numbers d a)
    main_so d (Let i fixed each) h = agree1 (λ ds. e.Let fixed ds) _ _ (globals_so d each h)
    main_so d (Block i all) h = statement tables names k numbers (outer_site this.Nowhere) (Block i all) refl h
    main_so d (IfOnly i test a) h = statement tables names k numbers (outer_site this.Nowhere) (IfOnly i test a) refl h
    main_so d (IfElse i test a a') h = statement tables names k numbers (outer_site this.Nowhere) (IfElse i test a a') refl h
    main_so d (While i test a) h = statement tables names k numbers (outer_site this.Nowhere) (While i test a) refl h
    main_so d (DoWhile i a test) h = statement tables names k numbers (outer_site this.Nowhere) (DoWhile i a test) refl h
    main_so d (For i one test step a) h = statement tables names k numbers (outer_site this.Nowhere) (For i one test step a) refl h
    main_so d (ForOf i fixed x list a) h = statement tables names k numbers (outer_site this.Nowhere) (ForOf i fixed x list a) refl h
    main_so d (Return i value) h = statement tables names k numbers (outer_site this.Nowhere) (Return i value) refl h
    main_so d (Break i) h = λ m n. refl
    main_so d (Continue i) h = λ m n. refl
    main_so d (Plain i a) h = statement tables names k numbers (outer_site this.Nowhere) (Plain i a) refl h
    main_so d (Empty i) h = λ m n. refl

    -- the parts of a text
    abbrev Later : ℕ → ℕ → ℕ → ℕ → Program → Type 0
    Later c d m n rest = p.items_made tables names k numbers c d m n rest ≡ Some (fp.items_made tables names k numbers c d m n rest)

    abbrev all_of : Made (List TypedStatement) → Option (Made TypedStatements) → Option (Made TypedStatements)
    all_of x z = z >>= λ y. Some (record { it = x.it before y.it; locals = x.locals ++ y.locals; routines = x.routines ++ y.routines })

    behind_item : Option (Made (List TypedStatement)) → ℕ → ℕ → ℕ → ℕ → Program → Option (Made TypedStatements)
    behind_item z c d m n rest = z >>= λ x. all_of x (p.items_made tables names k numbers c d (m + length x.locals) n rest)

    pub items_so : (c d m n : ℕ) (text : Program) → Suffix k.entries d (entries_from names c text) → k.library ≤ d → nodes_failure tables names k c d text ≡ None → Later c d m n text
    items_so c d m n [] s near h = refl
    items_so c d m n (Class i x base base_at members ∷ rest) s near h =
        let T : TopLevel = Class i x base base_at members in
        let es : List Entry = item_entries names c T in
        let A : Option Failure = item_nodes tables names k c d T in
        let d' : ℕ = d + length es in
        let n' : ℕ = n + item_routines T in
        let B : Option Failure = nodes_failure tables names k (c + classes_in T) d' rest in
        let own = fp.class_made tables names k numbers c n (suc d) members in
        let X : Made (List TypedStatement) = record { it = []; locals = []; routines = own } in
        let s' : Suffix k.entries (suc d) (member_entries names c members ++ entries_from names (c + classes_in T) rest) = suffix_one k.entries d _ (member_entries names c members ++ entries_from names (c + classes_in T) rest) s in
        let made_so = class_so c n (suc d) members (entries_from names (c + classes_in T) rest) s' (first A B h) in
        let m_step : m + 0 ≡ m = omega arith in
        let c_step : c + 1 ≡ suc c = omega arith in
        let later : Later (c + 1) d' m n' rest = items_so (c + 1) d' m n' rest (suffix_step k.entries d es (entries_from names (c + classes_in T) rest) s) (omega (arith, near)) (last A B h) in
        ap (λ (z : Option (List TypedRoutine)). (z >>= λ all. Some (record { it = []; locals = []; routines = all })) >>= λ (x : Made (List TypedStatement)). all_of x (p.items_made tables names k numbers (c + 1) d' (m + length x.locals) n' rest)) made_so
        ∙ ap (λ (j : ℕ). all_of X (p.items_made tables names k numbers (c + 1) d' j n' rest)) m_step ∙ ap (λ (z : Option (Made TypedStatements)). all_of X z) later
        ∙ ap (λ (j : ℕ). all_of X (Some (fp.items_made tables names k numbers j d' m n' rest))) c_step
    items_so c d m n (Function x (Does i params gives all arrow) ∷ rest) s near h =
        let R : Routine = Does i params gives all arrow in
        let T : TopLevel = Function x R in
        let es : List Entry = item_entries names c T in
        let A : Option Failure = item_nodes tables names k c d T in
        let d' : ℕ = d + 1 in
        let n' : ℕ = n + item_routines T in
        let B : Option Failure = nodes_failure tables names k (c + 0) d' rest in
        let own = f.function_made tables names k numbers false n (kind_at k d) R in
        let X : Made (List TypedStatement) = record { it = []; locals = []; routines = own } in
        let en : Entry = record { at = i; owner = o.Whole; name = x; sort = sort.Function; takes = parameter_kinds names params } in
        let made_so = function_so false n (kind_at k d) i params gives all arrow (typed_so d en (suffix_head k.entries d en (entries_from names (c + 0) rest) s) near) (first A B h) in
        let m_step : m + 0 ≡ m = omega arith in
        let c_step : c + 0 ≡ c = omega arith in
        let d_step : d + 1 ≡ suc d = omega arith in
        let later : Later (c + 0) d' m n' rest = items_so (c + 0) d' m n' rest (suffix_step k.entries d es (entries_from names (c + 0) rest) s) (omega (arith, near)) (last A B h) in
        ap (λ (z : Option (List TypedRoutine)). (z >>= λ all. Some (record { it = []; locals = []; routines = all })) >>= λ (x : Made (List TypedStatement)). all_of x (p.items_made tables names k numbers (c + 0) d' (m + length x.locals) n' rest)) made_so
        ∙ ap (λ (j : ℕ). all_of X (p.items_made tables names k numbers (c + 0) d' j n' rest)) m_step ∙ ap (λ (z : Option (Made TypedStatements)). all_of X z) later
        ∙ ap (λ (j : ℕ). all_of X (Some (fp.items_made tables names k numbers j d' m n' rest))) c_step ∙ ap (λ (j : ℕ). all_of X (Some (fp.items_made tables names k numbers c j m n' rest))) d_step
    items_so c d m n (Main a ∷ rest) s near h =
        let T : TopLevel = Main a in
        let es : List Entry = item_entries names c T in
        let A : Option Failure = item_nodes tables names k c d T in
        let d' : ℕ = d + length es in
        let n' : ℕ = n + item_routines T in
        let B : Option Failure = nodes_failure tables names k (c + 0) d' rest in
        let y : Made TypedStatement = fp.main_made tables names k numbers d a m n in
        let X : Made (List TypedStatement) = record { it = y.it ∷ []; locals = y.locals; routines = y.routines } in
        let m' : ℕ = m + length y.locals in
        let c_step : c + 0 ≡ c = omega arith in
        let later : Later (c + 0) d' m' n' rest = items_so (c + 0) d' m' n' rest (suffix_step k.entries d es (entries_from names (c + 0) rest) s) (omega (arith, near)) (last A B h) in
        ap (λ (z : Option (Made TypedStatement)). (z >>= λ y. Some (record { it = y.it ∷ []; locals = y.locals; routines = y.routines })) >>= λ (x : Made (List TypedStatement)). all_of x (p.items_made tables names k numbers (c + 0) d' (m + length x.locals) n' rest)) (main_so d a (first A B h) m n)
        ∙ ap (λ (z : Option (Made TypedStatements)). all_of X z) later ∙ ap (λ (j : ℕ). all_of X (Some (fp.items_made tables names k numbers j d' m' n' rest))) c_step

    -- globals
    pub globals_typed : (d : ℕ) (es : List Entry) → Suffix k.entries d es → p.global_types k d es ≡ Some (fp.global_types tables names k numbers d es)
    globals_typed d [] s = refl
    globals_typed d (a ∷ rest) s =
        let later = globals_typed (suc d) rest (suffix_one k.entries d a rest s) in
        let L : Option (List ValueType) = p.global_types k (suc d) rest in
        let L' : List ValueType = fp.global_types tables names k numbers (suc d) rest in
        let go : (x : DeclarationKind) → HasItsType k d x
        → elim (is_global x) [ true ↦ kind_at k d >>= λ u. L >>= λ us. Some (value_type u ∷ us) | false ↦ L ]
        ≡ Some (elim (is_global x) [ true ↦ f.class_result tables names k numbers (kind_at k d) ∷ L' | false ↦ L' ]) =
        λ x. elim x as (λ y. HasItsType k d y → elim (is_global y) [ true ↦ kind_at k d >>= λ u. L >>= λ us. Some (value_type u ∷ us) | false ↦ L ]
        ≡ Some (elim (is_global y) [ true ↦ f.class_result tables names k numbers (kind_at k d) ∷ L' | false ↦ L' ])) [
          | sort.Global fixed ↦ (λ q. ap (λ (z : Option StaticType). z >>= λ u. L >>= λ us. Some (value_type u ∷ us)) (there (kind_at k d) nothing (has_some (kind_at k d) q))
              ∙ ap (λ (z : Option (List ValueType)). z >>= λ us. Some (f.class_result tables names k numbers (kind_at k d) ∷ us)) later)
          | sort.Function ↦ (λ q. later)
          | sort.Field ↦ (λ q. later)
          | sort.Method ↦ (λ q. later)
          | sort.Class j ↦ (λ q. later)
        ] in
        go a.sort (typed_so d a (suffix_head k.entries d a rest s))

    -- classes
    entry_of : (d : ℕ) (s : DeclarationKind) → sort_of k.entries d ≡ Some s → (a : Entry) × (slice_get k.entries d ≡ Some a) × (a.sort ≡ s)
    entry_of d s h = by_entry (slice_get k.entries d) refl h
      where
        by_entry : (z : Option Entry) → slice_get k.entries d ≡ z → option_map (λ (a : Entry). a.sort) z ≡ Some s → (a : Entry) × (slice_get k.entries d ≡ Some a) × (a.sort ≡ s)
        by_entry None is q = cc
        by_entry (Some a) is q = (a, is, some_is a.sort s q)

    here : (x : ℕ) (xs : List ℕ) → is_listed (x ∷ xs) x ≡ true
    here x xs = get_listed (x ∷ xs) 0 x refl

    behind : (x : ℕ) (xs : List ℕ) (y : ℕ) → is_listed xs y ≡ true → is_listed (x ∷ xs) y ≡ true
    behind x xs y q = listed_right (x ∷ []) xs y q

    pub each_so : {A : Type 0} (make : ℕ → Option A) (fill : ℕ → A) (xs : List ℕ) → ((x : ℕ) → is_listed xs x ≡ true → make x ≡ Some (fill x)) → each_made make xs ≡ Some (map fill xs)
    each_so {A} make fill [] h = refl
    each_so {A} make fill (x ∷ xs) h =
        ap (λ (z : Option A). z >>= λ y. each_made make xs >>= λ ys. Some (y ∷ ys)) (h x (here x xs))
        ∙ ap (λ (z : Option (List A)). z >>= λ ys. Some (fill x ∷ ys)) (each_so make fill xs (λ y q. h y (behind x xs y q)))

    module _ (members : NamesAreMembers k) where
      kind_there : (c x : ℕ) → HasMember k c x sort.Field → p.member_kind k c x ≡ Some (fp.member_kind tables names k numbers c x)
      kind_there c x (d, is, s) =
          let (a, at, same) = entry_of d sort.Field s in
          let typed : IsSome (kind_at k d) = subst (λ (y : DeclarationKind). HasItsType k d y) same (typed_so d a at) in
          ap (λ (z : Option ℕ). z >>= λ d. option_map value_type (kind_at k d)) is ∙ mapped (kind_at k d) (has_some (kind_at k d) typed)
          ∙ sym (ap (λ (z : Option ℕ). Some (elim z [ None ↦ t.Nothing | Some d ↦ f.class_result tables names k numbers (kind_at k d) ])) is)

      routine_there : (c x : ℕ) → HasMember k c x sort.Method → p.member_routine k numbers c x ≡ Some (fp.member_routine tables names k numbers c x)
      routine_there c x (d, is, s) =
          ap (λ (z : Option ℕ). option_map (routine_number numbers) z) is ∙ sym (ap (λ (z : Option ℕ). Some (elim z [ None ↦ 0 | Some d ↦ routine_number numbers d ])) is)

      class_entry_so : (c : ℕ) → c < length k.classes → p.class_entry k numbers c ≡ Some (fp.class_entry tables names k numbers c)
      class_entry_so c near =
          let F : List ValueType = map (fp.member_kind tables names k numbers c) (field_names k c) in
          let K : List ValueType → List ℕ → ClassEntry = λ fields slots. record { base = base_of k.classes c; fields = fields; slots = slots; maker = maker_number numbers c } in
          ap (λ (z : Option (List ValueType)). z >>= λ fields. each_made (p.member_routine k numbers c) (slot_names k c) >>= λ slots. Some (K fields slots))
          (each_so (p.member_kind k c) (fp.member_kind tables names k numbers c) (field_names k c) (λ x q. kind_there c x (members.fields c x near q)))
          ∙ ap (λ (z : Option (List ℕ)). z >>= λ slots. Some (K F slots))
          (each_so (p.member_routine k numbers c) (fp.member_routine tables names k numbers c) (slot_names k c) (λ x q. routine_there c x (members.slots c x near q)))

      pub classes_so : (c : ℕ) (heads : List ClassHead) → Suffix k.classes c heads → p.class_entries k numbers c heads ≡ Some (fp.class_entries tables names k numbers c heads)
      classes_so c [] s = refl
      classes_so c (head ∷ rest) s =
          let near : c < length k.classes = get_within k.classes c head (suffix_head k.classes c head rest s) in
          ap (λ (z : Option ClassEntry). z >>= λ x. p.class_entries k numbers (suc c) rest >>= λ xs. Some (x ∷ xs)) (class_entry_so c near)
          ∙ ap (λ (z : Option (List ClassEntry)). z >>= λ xs. Some (fp.class_entry tables names k numbers c ∷ xs)) (classes_so (suc c) rest (suffix_one k.classes c head rest s))

  -- the library, whose functions are there
  pub library_typed : (d n i : ℕ) (params : List Parameter) (gives : Option Annotation) (all : Statements) (arrow : Bool) (own : List TypedRoutine)
      → tf.function_made tables names k numbers true n (kind_at k d) (Does i params gives all arrow) ≡ Some own → IsSome (kind_at k d)
  library_typed d n i params gives all arrow own h =
      let (u, is, q) = bind_some (kind_at k d) (λ u. b.routines_made (value_types (parameter_kinds names params)) (value_type u) (b.made_statements tables names k numbers (site names this.Nowhere (kind_at k d) true 0 params) all) n) own h in
      some (kind_at k d) (record { it = u; is = is })

  pub library_so : (d n : ℕ) (library : Program) (rs : List TypedRoutine) → OnlyFunctions library → library_failure tables names k d library ≡ None → p.library_made tables names k numbers d n library ≡ Some rs
      → rs ≡ fp.library_made tables names k numbers d n library
  library_so d n [] rs only h q = some_is rs [] (sym q)
  library_so d n (Function x (Does i params gives all arrow) ∷ rest) rs only h q =
      let R : Routine = Does i params gives all arrow in
      let A : Option Failure = statements_failure tables names k (within (parameter_locals names params) this.Nowhere (kind_at k d) true) all in
      let B : Option Failure = library_failure tables names k (suc d) rest in
      let later : Option (List TypedRoutine) = p.library_made tables names k numbers (suc d) (n + item_routines (Function x R)) rest in
      let own' : List TypedRoutine = f.function_made tables names k numbers true n (kind_at k d) R in
      let (own, own_is, q1) = bind_some (tf.function_made tables names k numbers true n (kind_at k d) R) (λ own. later >>= λ more. Some (own ++ more)) rs q in
      let (more, more_is, q2) = bind_some later (λ more. Some (own ++ more)) rs q1 in
      let typed : IsSome (kind_at k d) = library_typed d n i params gives all arrow own own_is in
      let same : own ≡ own' = some_is own own' (sym own_is ∙ function_so true n (kind_at k d) i params gives all arrow typed (first A B h)) in
      let rest_so : more ≡ fp.library_made tables names k numbers (suc d) (n + item_routines (Function x R)) rest = library_so (suc d) (n + item_routines (Function x R)) rest more only (last A B h) more_is in
      sym (some_is (own ++ more) rs q2) ∙ ap (λ (z : List TypedRoutine). z ++ more) same ∙ ap (λ (z : List TypedRoutine). own' ++ z) rest_so
  library_so d n (Class at x base base_at members ∷ rest) rs only h q = absurd only
  library_so d n (Main a ∷ rest) rs only h q = absurd only

  -- functions that have types are there
  pub library_there : (d n : ℕ) (library : Program) → OnlyFunctions library → library_failure tables names k d library ≡ None → ((i : ℕ) → d ≤ i → i < d + length library → IsSome (kind_at k i))
      → p.library_made tables names k numbers d n library ≡ Some (fp.library_made tables names k numbers d n library)
  library_there d n [] only h typed = refl
  library_there d n (Function x (Does i params gives all arrow) ∷ rest) only h typed =
      let R : Routine = Does i params gives all arrow in
      let A : Option Failure = statements_failure tables names k (within (parameter_locals names params) this.Nowhere (kind_at k d) true) all in
      let B : Option Failure = library_failure tables names k (suc d) rest in
      joined_so _ _ _ _ (function_so true n (kind_at k d) i params gives all arrow (typed d (omega arith) (omega arith)) (first A B h))
      (library_there (suc d) (n + item_routines (Function x R)) rest only (last A B h) (λ j low high. typed j (omega (arith, low)) (omega (arith, high))))
  library_there d n (Class at x base base_at members ∷ rest) only h typed = absurd only
  library_there d n (Main a ∷ rest) only h typed = absurd only
