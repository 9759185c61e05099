-- How many functions the parts of a text make, and how many declarations they are.
use Rattle.std.proofs.Common.{◌≡◌, ℕ, suc, ◌+◌, refl, sym, ap, ◌∙◌, subst, Bool, false, Option, Some, None, List, [], ◌∷◌, length, length-append}
use Rattle.sts_base.specs.declared.tables.Tables.{Tables}
use Rattle.sts_base.specs.declared.refused.Code.TheVariants.{Mismatch}
use Rattle.sts_syntax.specs.declared.typed.Spot.TheVariants.{Global}
use Rattle.sts_syntax.specs.Annotations.{Annotation}
use Rattle.sts_syntax.specs.TypedTrees as e
use Rattle.sts_syntax.specs.TypedTrees.{TypedTree, TypedStatement, TypedDeclaration}
use Rattle.sts_syntax.specs.Trees.{Parameter, Num, Text, Truth, Null, This, Name, Unary, Binary, Both, Either, Choice, Set, Bump, Member, Item, Call, SuperCall, Make, Items, Handler, Trees, Statement, Block, Let, IfOnly, IfElse, While, DoWhile, For, ForOf, Return, Break, Continue, Plain, Empty, Statements, done, also, Declaration, Declare, Declarations, ended, next, Routine, Does}
use Rattle.sts_syntax.specs.Programs.{ClassMember, Field, Method, Constructor, TopLevel, Class, Function, Main}
use Rattle.sts_scope.specs.declared.kinds.StaticType.{StaticType}
use Rattle.sts_scope.specs.declared.known.Known.{Known}
use Rattle.sts_scope.specs.declared.known.This.{This as Self}
use Rattle.sts_scope.specs.declared.known.This.TheVariants as this
use Rattle.sts_scope.specs.Kinds.{nothing}
use Rattle.sts_scope.specs.Failures.{Failure, ◌then◌, failure_at}
use Rattle.sts_scope.specs.Entries.{Naming, item_entries, main_entries, member_entries, global_entries}
use Rattle.sts_scope.specs.Headings.{written_failure}
use Rattle.sts_scope.specs.Lookup.{base_of}
use Rattle.sts_scope.specs.Places.{NameScope, outside}
use Rattle.sts_scope.specs.Rules.{kind_at, maker_takes_of}
use Rattle.type_derive.specs.Typing.{types_of}
use Rattle.type_derive.specs.Returns.{parameter_locals, within}
use Rattle.type_derive.specs.Derived.{item_sources, main_sources, member_sources, global_sources}
use Rattle.type_derive.specs.Nodes.{failures, statements_failure, initial_failure, own_bound}
use Rattle.type_derive.specs.Passes.{outside_failure, globals_failure, main_failure, body_failure, made_failure, own_super_call, constructor_failure, members_nodes}
use Rattle.sts_scope.specs.Handlers.{handlers_of, optional_handlers, routine_handlers, declared_handlers, declarations_handlers, statement_handlers, statements_handlers, members_routines, unwritten}
use Rattle.type_derive.specs.inner.Filling.{pure, ◌>=>◌}
use Rattle.sts_scope.specs.Numbers.{Numbering, global_number, item_numbers, main_numbers, member_numbers, global_places}
use Rattle.type_derive.specs.Built.{Site}
use Rattle.type_derive.specs.inner.Filled.{made_given, made_first, made_statements, site, function_made, method_made}
use Rattle.typed_laws.specs.Programs.{◌before◌, unwritten_made, super_called}
use Rattle.typed_laws.specs.inner.FilledPrograms.{initial_made, initials, made_statements_of, constructor_made, members_made, class_made, global_made, globals_made, main_made}
use Rattle.typed_laws.proofs.Typed.{last, first}
use Rattle.typed_laws.proofs.Counts.{Counts, counts_bind, counts_one, counts_two, given_counts, initial_counts, statement_counts, statements_counts}

-- as many numbers and sources as declarations
globals_numbers : (fixed : Bool) (each : Declarations) → length (global_places each) ≡ length (global_entries fixed each)
globals_numbers fixed ended = refl
globals_numbers fixed (next a rest) = ap suc (globals_numbers fixed rest)

main_numbered : (a : Statement) → length (main_numbers a) ≡ length (main_entries a)
main_numbered (Let i fixed each) = globals_numbers fixed each
main_numbered (Block i all) = refl
main_numbered (IfOnly i test a) = refl
main_numbered (IfElse i test a b) = refl
main_numbered (While i test a) = refl
main_numbered (DoWhile i a test) = refl
main_numbered (For i one test step a) = refl
main_numbered (ForOf i fixed x list a) = refl
main_numbered (Return i value) = refl
main_numbered (Break i) = refl
main_numbered (Continue i) = refl
main_numbered (Plain i a) = refl
main_numbered (Empty i) = refl

module _ (names : Naming) where
  members_numbered : (c n : ℕ) (members : List ClassMember) → length (member_numbers n members) ≡ length (member_entries names c members)
  members_numbered c n [] = refl
  members_numbered c n (Field a ∷ rest) = ap suc (members_numbered c (n + declared_handlers a) rest)
  members_numbered c n (Method x r ∷ rest) = ap suc (members_numbered c (suc n + routine_handlers r) rest)
  members_numbered c n (Constructor r ∷ rest) = members_numbered c (suc n + routine_handlers r) rest

  pub item_numbered : (c n : ℕ) (i : TopLevel) → length (item_numbers n i) ≡ length (item_entries names c i)
  item_numbered c n (Class at x base base_at members) = ap suc (members_numbered c (n + unwritten members) members)
  item_numbered c n (Function x r) = refl
  item_numbered c n (Main a) = main_numbered a

  globals_sourced : (fixed : Bool) (each : Declarations) → length (global_sources names each) ≡ length (global_entries fixed each)
  globals_sourced fixed ended = refl
  globals_sourced fixed (next a rest) = ap suc (globals_sourced fixed rest)

  main_sourced : (a : Statement) → length (main_sources names a) ≡ length (main_entries a)
  main_sourced (Let i fixed each) = globals_sourced fixed each
  main_sourced (Block i all) = refl
  main_sourced (IfOnly i test a) = refl
  main_sourced (IfElse i test a b) = refl
  main_sourced (While i test a) = refl
  main_sourced (DoWhile i a test) = refl
  main_sourced (For i one test step a) = refl
  main_sourced (ForOf i fixed x list a) = refl
  main_sourced (Return i value) = refl
  main_sourced (Break i) = refl
  main_sourced (Continue i) = refl
  main_sourced (Plain i a) = refl
  main_sourced (Empty i) = refl

  members_sourced : (c : ℕ) (members : List ClassMember) → length (member_sources names c members) ≡ length (member_entries names c members)
  members_sourced c [] = refl
  members_sourced c (Field a ∷ rest) = ap suc (members_sourced c rest)
  members_sourced c (Method x r ∷ rest) = ap suc (members_sourced c rest)
  members_sourced c (Constructor r ∷ rest) = members_sourced c rest

  pub item_sourced : (c : ℕ) (i : TopLevel) → length (item_sources names c i) ≡ length (item_entries names c i)
  item_sourced c (Class at x base base_at members) = ap suc (members_sourced c members)
  item_sourced c (Function x r) = refl
  item_sourced c (Main a) = main_sourced a

module _ (tables : Tables) (names : Naming) (k : Known) (numbers : Numbering) where
  pub function_counts : (library : Bool) (n : ℕ) (result : Option StaticType) (i : ℕ) (params : List Parameter) (gives : Option Annotation) (all : Statements) (arrow : Bool)
      → statements_failure tables names k (within (parameter_locals names params) this.Nowhere result library) all ≡ None
      → length (function_made tables names k numbers library n result (Does i params gives all arrow)) ≡ suc (statements_handlers all)
  function_counts library n result i params gives all arrow h = ap suc (statements_counts tables names k numbers (site tables names k numbers this.Nowhere result library 0 params) all h 0 (suc n))

  pub method_counts : (c n : ℕ) (result : Option StaticType) (r : Routine) → body_failure tables names k (this.Object c) result r ≡ None → length (method_made tables names k numbers c n result r) ≡ suc (routine_handlers r)
  method_counts c n result (Does i params gives all arrow) h = ap suc (statements_counts tables names k numbers (site tables names k numbers (this.Object c) result false 1 params) all h 0 (suc n))

  pub field_counts : (c n : ℕ) (a : Declaration) → outside_failure tables names k (this.Object c) a ≡ None → length (initial_made tables names k numbers c n a).routines ≡ declared_handlers a
  field_counts c n (Declare i x shape first') h =
      let p = outside (this.Object c) false None in
      let w = written_failure names i shape in
      let j = initial_failure tables names k p shape first' in
      let o = own_bound tables names k p shape first' i in
      let r = last w (j then o) h in
      initial_counts tables names k numbers (record { place = p; spots = [] }) shape first' i (first j o r) (last j o r) 0 n

  no_super : (i : ℕ) → failure_at Mismatch i ≡ None → ⊥
  no_super i h = cc

  abbrev NotSuper : Statements → Type 0
  NotSuper all = (i b : ℕ) (p : NameScope) → made_failure tables names k p i b all ≡ (statements_failure tables names k p all then failure_at Mismatch i)

  refused : (all : Statements) (i b : ℕ) (p : NameScope) → NotSuper all → made_failure tables names k p i b all ≡ None → ⊥
  refused all i b p same h = no_super i (last (statements_failure tables names k p all) (failure_at Mismatch i) (sym (same i b p) ∙ h))

  -- The statements of a constructor with a base begin with `super(..)`.
  pub begins_super : (all : Statements) (i b : ℕ) (p : NameScope) → made_failure tables names k p i b all ≡ None → (j l : ℕ) × (args : Trees) × (rest : Statements) × (all ≡ also (Plain j (SuperCall l None args)) rest)
  begins_super (also (Plain j (SuperCall l None args)) rest) i b p h = (j, l, args, rest, refl)
  begins_super done i b p h = absurd (refused done i b p (λ i b p. refl) h)
  begins_super (also (Plain j (SuperCall l (Some m) args)) rest) i b p h = absurd (refused (also (Plain j (SuperCall l (Some m) args)) rest) i b p (λ i b p. refl) h)
  begins_super (also (Plain j (Num l n)) rest) i b p h = absurd (refused (also (Plain j (Num l n)) rest) i b p (λ i b p. refl) h)
  begins_super (also (Plain j (Text l n)) rest) i b p h = absurd (refused (also (Plain j (Text l n)) rest) i b p (λ i b p. refl) h)
  begins_super (also (Plain j (Truth l x)) rest) i b p h = absurd (refused (also (Plain j (Truth l x)) rest) i b p (λ i b p. refl) h)
  begins_super (also (Plain j (Null l)) rest) i b p h = absurd (refused (also (Plain j (Null l)) rest) i b p (λ i b p. refl) h)
  begins_super (also (Plain j (This l)) rest) i b p h = absurd (refused (also (Plain j (This l)) rest) i b p (λ i b p. refl) h)
  begins_super (also (Plain j (Name l x)) rest) i b p h = absurd (refused (also (Plain j (Name l x)) rest) i b p (λ i b p. refl) h)
  begins_super (also (Plain j (Unary l op a)) rest) i b p h = absurd (refused (also (Plain j (Unary l op a)) rest) i b p (λ i b p. refl) h)
  begins_super (also (Plain j (Binary l op a o)) rest) i b p h = absurd (refused (also (Plain j (Binary l op a o)) rest) i b p (λ i b p. refl) h)
  begins_super (also (Plain j (Both l a o)) rest) i b p h = absurd (refused (also (Plain j (Both l a o)) rest) i b p (λ i b p. refl) h)
  begins_super (also (Plain j (Either l a o)) rest) i b p h = absurd (refused (also (Plain j (Either l a o)) rest) i b p (λ i b p. refl) h)
  begins_super (also (Plain j (Choice l q a o)) rest) i b p h = absurd (refused (also (Plain j (Choice l q a o)) rest) i b p (λ i b p. refl) h)
  begins_super (also (Plain j (Set l op x a)) rest) i b p h = absurd (refused (also (Plain j (Set l op x a)) rest) i b p (λ i b p. refl) h)
  begins_super (also (Plain j (Bump l x by late)) rest) i b p h = absurd (refused (also (Plain j (Bump l x by late)) rest) i b p (λ i b p. refl) h)
  begins_super (also (Plain j (Member l a m)) rest) i b p h = absurd (refused (also (Plain j (Member l a m)) rest) i b p (λ i b p. refl) h)
  begins_super (also (Plain j (Item l a o)) rest) i b p h = absurd (refused (also (Plain j (Item l a o)) rest) i b p (λ i b p. refl) h)
  begins_super (also (Plain j (Items l xs)) rest) i b p h = absurd (refused (also (Plain j (Items l xs)) rest) i b p (λ i b p. refl) h)
  begins_super (also (Plain j (Call l f xs)) rest) i b p h = absurd (refused (also (Plain j (Call l f xs)) rest) i b p (λ i b p. refl) h)
  begins_super (also (Plain j (Make l x xs)) rest) i b p h = absurd (refused (also (Plain j (Make l x xs)) rest) i b p (λ i b p. refl) h)
  begins_super (also (Plain j (Handler l body)) rest) i b p h = absurd (refused (also (Plain j (Handler l body)) rest) i b p (λ i b p. refl) h)
  begins_super (also (Block j all) rest) i b p h = absurd (refused (also (Block j all) rest) i b p (λ i b p. refl) h)
  begins_super (also (Let j fixed each) rest) i b p h = absurd (refused (also (Let j fixed each) rest) i b p (λ i b p. refl) h)
  begins_super (also (IfOnly j test a) rest) i b p h = absurd (refused (also (IfOnly j test a) rest) i b p (λ i b p. refl) h)
  begins_super (also (IfElse j test a o) rest) i b p h = absurd (refused (also (IfElse j test a o) rest) i b p (λ i b p. refl) h)
  begins_super (also (While j test a) rest) i b p h = absurd (refused (also (While j test a) rest) i b p (λ i b p. refl) h)
  begins_super (also (DoWhile j a test) rest) i b p h = absurd (refused (also (DoWhile j a test) rest) i b p (λ i b p. refl) h)
  begins_super (also (For j one test step a) rest) i b p h = absurd (refused (also (For j one test step a) rest) i b p (λ i b p. refl) h)
  begins_super (also (ForOf j fixed x list a) rest) i b p h = absurd (refused (also (ForOf j fixed x list a) rest) i b p (λ i b p. refl) h)
  begins_super (also (Return j value) rest) i b p h = absurd (refused (also (Return j value) rest) i b p (λ i b p. refl) h)
  begins_super (also (Break j) rest) i b p h = absurd (refused (also (Break j) rest) i b p (λ i b p. refl) h)
  begins_super (also (Continue j) rest) i b p h = absurd (refused (also (Continue j) rest) i b p (λ i b p. refl) h)
  begins_super (also (Empty j) rest) i b p h = absurd (refused (also (Empty j) rest) i b p (λ i b p. refl) h)

  abbrev pub maker_failure : NameScope → Option ℕ → ℕ → Statements → Option Failure
  maker_failure p None i all = statements_failure tables names k p all
  maker_failure p (Some b) i all = made_failure tables names k p i b all

  made_counts : (s : Site) (base : Option ℕ) (inits : List TypedStatement) (i : ℕ) (all : Statements)
      → maker_failure s.place base i all ≡ None → Counts (statements_handlers all) (made_statements_of tables names k numbers s base inits all)
  made_counts s None inits i all h = counts_one (statements_handlers all) (made_statements tables names k numbers s all) (λ xs. inits before xs) (statements_counts tables names k numbers s all h)
  made_counts s (Some b) inits i all h =
      let (j, l, args, rest, is) = begins_super all i b s.place h in
      let G : Statements → Type 0 = λ xs. made_failure tables names k s.place i b xs ≡ None → Counts (statements_handlers xs) (made_statements_of tables names k numbers s (Some b) inits xs) in
      let base : G (also (Plain j (SuperCall l None args)) rest) = λ h1.
      let A = failures tables names k s.place [] args in
      let B = own_super_call k (types_of tables k s.place args) (maker_takes_of k.classes b) l in
      let C = statements_failure tables names k s.place rest in
      counts_two (handlers_of args) (statements_handlers rest) (made_given tables names k numbers s (maker_takes_of k.classes b) args) (made_statements tables names k numbers s rest)
      (λ ys xs. e.also (super_called numbers b ys) (inits before xs)) (given_counts tables names k numbers s (maker_takes_of k.classes b) args (first A (B then C) h1))
      (statements_counts tables names k numbers s rest (last B C (last A (B then C) h1))) in
      subst G (sym is) base h

  pub constructor_case : (self : Self) (base : Option ℕ) (i : ℕ) (params : List Parameter) (gives : Option Annotation) (all : Statements) (arrow : Bool) → constructor_failure tables names k self base (Does i params gives all arrow) ≡ None
      → maker_failure (within (parameter_locals names params) self (Some nothing) false) base i all ≡ None
  constructor_case self None i params gives all arrow h = h
  constructor_case self (Some b) i params gives all arrow h = h

  pub constructor_counts : (c n : ℕ) (inits : List TypedStatement) (r : Routine) → constructor_failure tables names k (this.Object c) (base_of k.classes c) r ≡ None → length (constructor_made tables names k numbers c n inits r) ≡ suc (routine_handlers r)
  constructor_counts c n inits (Does i params gives all arrow) h =
      ap suc (made_counts (site tables names k numbers (this.Object c) (Some nothing) false 1 params) (base_of k.classes c) inits i all (constructor_case (this.Object c) (base_of k.classes c) i params gives all arrow h) 0 (suc n))

  pub members_counts : (c n d : ℕ) (inits : List TypedStatement) (members : List ClassMember) → members_nodes tables names k c d members ≡ None → length (members_made tables names k numbers c inits n d members) ≡ members_routines members
  members_counts c n d inits [] h = refl
  members_counts c n d inits (Field a ∷ rest) h =
      let A = outside_failure tables names k (this.Object c) a in
      let B = members_nodes tables names k c (suc d) rest in
      length-append (initial_made tables names k numbers c n a).routines (members_made tables names k numbers c inits (n + declared_handlers a) (suc d) rest)
      ∙ ap (λ (i : ℕ). i + length (members_made tables names k numbers c inits (n + declared_handlers a) (suc d) rest)) (field_counts c n a (first A B h))
      ∙ ap (λ (i : ℕ). declared_handlers a + i) (members_counts c (n + declared_handlers a) (suc d) inits rest (last A B h))
  members_counts c n d inits (Method x r ∷ rest) h =
      let A = body_failure tables names k (this.Object c) (kind_at k d) r in
      let B = members_nodes tables names k c (suc d) rest in
      length-append (method_made tables names k numbers c n (kind_at k d) r) (members_made tables names k numbers c inits (suc n + routine_handlers r) (suc d) rest)
      ∙ ap (λ (i : ℕ). i + length (members_made tables names k numbers c inits (suc n + routine_handlers r) (suc d) rest)) (method_counts c n (kind_at k d) r (first A B h))
      ∙ ap (λ (i : ℕ). suc (routine_handlers r) + i) (members_counts c (suc n + routine_handlers r) (suc d) inits rest (last A B h))
  members_counts c n d inits (Constructor r ∷ rest) h =
      let A = constructor_failure tables names k (this.Object c) (base_of k.classes c) r in
      let B = members_nodes tables names k c d rest in
      length-append (constructor_made tables names k numbers c n inits r) (members_made tables names k numbers c inits (suc n + routine_handlers r) d rest)
      ∙ ap (λ (i : ℕ). i + length (members_made tables names k numbers c inits (suc n + routine_handlers r) d rest)) (constructor_counts c n inits r (first A B h))
      ∙ ap (λ (i : ℕ). suc (routine_handlers r) + i) (members_counts c (suc n + routine_handlers r) d inits rest (last A B h))

  pub unwritten_counts : (c : ℕ) (inits : List TypedStatement) (members : List ClassMember) → length (unwritten_made k numbers (unwritten members) c inits) ≡ unwritten members
  unwritten_counts c inits [] = refl
  unwritten_counts c inits (Field a ∷ rest) = unwritten_counts c inits rest
  unwritten_counts c inits (Method x r ∷ rest) = unwritten_counts c inits rest
  unwritten_counts c inits (Constructor r ∷ rest) = refl

  pub class_counts : (c n d : ℕ) (members : List ClassMember) → members_nodes tables names k c d members ≡ None → length (class_made tables names k numbers c n d members) ≡ unwritten members + members_routines members
  class_counts c n d members h =
      let first' = n + unwritten members in
      let inits = initials tables names k numbers c first' d members in
      length-append (unwritten_made k numbers (unwritten members) c inits) (members_made tables names k numbers c inits first' d members)
      ∙ ap (λ (i : ℕ). i + length (members_made tables names k numbers c inits first' d members)) (unwritten_counts c inits members) ∙ ap (λ (i : ℕ). unwritten members + i) (members_counts c first' d inits members h)

  abbrev global_make : ℕ → Option TypedTree → TypedDeclaration
  global_make d a = record { name = Global (global_number k d); first = a }

  globals_counts : (d : ℕ) (each : Declarations) → globals_failure tables names k each ≡ None → Counts (declarations_handlers each) (globals_made tables names k numbers d each)
  globals_counts d ended h = λ m n. refl
  globals_counts d (next (Declare i x shape first') rest) h =
      let p = outside this.Nowhere false None in
      let w = written_failure names i shape in
      let j = initial_failure tables names k p shape first' in
      let o = own_bound tables names k p shape first' i in
      let A = outside_failure tables names k this.Nowhere (Declare i x shape first') in
      let r = last w (j then o) (first A (globals_failure tables names k rest) h) in
      counts_bind (optional_handlers first') (declarations_handlers rest) (global_made tables names k numbers d (Declare i x shape first')) (λ y. globals_made tables names k numbers (suc d) rest >=> λ ys. pure (y ∷ ys))
      (counts_one (optional_handlers first') (made_first tables names k numbers (record { place = p; spots = [] }) shape first') (global_make d) (initial_counts tables names k numbers (record { place = p; spots = [] }) shape first' i (first j o r) (last j o r)))
      (λ y. counts_one (declarations_handlers rest) (globals_made tables names k numbers (suc d) rest) (λ ys. y ∷ ys) (globals_counts (suc d) rest (last A (globals_failure tables names k rest) h)))

  pub main_counts : (d : ℕ) (a : Statement) → main_failure tables names k a ≡ None → Counts (statement_handlers a) (main_made tables names k numbers d a)
  main_counts d (Let i fixed each) h = counts_one (declarations_handlers each) (globals_made tables names k numbers d each) (λ ds. e.Let fixed ds) (globals_counts d each h)
  main_counts d (Block i all) h = statement_counts tables names k numbers (record { place = outside this.Nowhere false None; spots = [] }) (Block i all) h
  main_counts d (IfOnly i test a) h = statement_counts tables names k numbers (record { place = outside this.Nowhere false None; spots = [] }) (IfOnly i test a) h
  main_counts d (IfElse i test a b) h = statement_counts tables names k numbers (record { place = outside this.Nowhere false None; spots = [] }) (IfElse i test a b) h
  main_counts d (While i test a) h = statement_counts tables names k numbers (record { place = outside this.Nowhere false None; spots = [] }) (While i test a) h
  main_counts d (DoWhile i a test) h = statement_counts tables names k numbers (record { place = outside this.Nowhere false None; spots = [] }) (DoWhile i a test) h
  main_counts d (For i one test step a) h = statement_counts tables names k numbers (record { place = outside this.Nowhere false None; spots = [] }) (For i one test step a) h
  main_counts d (ForOf i fixed x list a) h = statement_counts tables names k numbers (record { place = outside this.Nowhere false None; spots = [] }) (ForOf i fixed x list a) h
  main_counts d (Return i value) h = statement_counts tables names k numbers (record { place = outside this.Nowhere false None; spots = [] }) (Return i value) h
  main_counts d (Break i) h = statement_counts tables names k numbers (record { place = outside this.Nowhere false None; spots = [] }) (Break i) h
  main_counts d (Continue i) h = statement_counts tables names k numbers (record { place = outside this.Nowhere false None; spots = [] }) (Continue i) h
  main_counts d (Plain i a) h = statement_counts tables names k numbers (record { place = outside this.Nowhere false None; spots = [] }) (Plain i a) h
  main_counts d (Empty i) h = statement_counts tables names k numbers (record { place = outside this.Nowhere false None; spots = [] }) (Empty i) h
