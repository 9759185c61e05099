-- All functions of a text and its main program are well typed.
use Rattle.std.proofs.Common.{◌≡◌, ℕ, zero, suc, ◌+◌, ◌<◌, ◌≤◌, refl, sym, ap, ◌∙◌, subst, Bool, true, false, Option, Some, None, List, [], ◌∷◌, ◌++◌, length, arith, inl, inr, length-append}
use Rattle.std.specs.Prelude.{slice_get, unwrap_or}
use Rattle.sts_base.specs.declared.tables.Tables.{Tables}
use Rattle.sts_syntax.specs.Annotations.{Annotation}
use Rattle.sts_syntax.specs.declared.typed.Spot.TheVariants.{Global}
use Rattle.sts_syntax.specs.Types.{ValueType}
use Rattle.sts_syntax.specs.TypedTrees as e
use Rattle.sts_syntax.specs.TypedTrees.{TypedTree, TypedStatement, TypedStatements, TypedDeclaration, TypedProgram}
use Rattle.sts_syntax.specs.TypeRules.{entry}
use Rattle.sts_syntax.specs.WellTyped.{Setting, AreSound}
use Rattle.sts_syntax.specs.WellTyped as w
use Rattle.sts_syntax.specs.WellTypedPrograms as w'
use Rattle.sts_syntax.specs.WellTypedPrograms.{declared_names}
use Rattle.sts_syntax.specs.Trees.{OptionalTree, Statement, Block, Let, IfOnly, IfElse, While, DoWhile, For, ForOf, Return, Break, Continue, Plain, Empty, Declaration, Declare, Declarations, ended, next, Routine, Does}
use Rattle.sts_syntax.specs.Programs.{ClassMember, TopLevel, Class, Function, Main, Program}
use Rattle.sts_scope.specs.declared.kinds.StaticType.{StaticType}
use Rattle.sts_scope.specs.declared.entries.Owner.TheVariants as o
use Rattle.sts_scope.specs.declared.entries.DeclarationKind.TheVariants as sort
use Rattle.sts_scope.specs.declared.entries.Entry.{Entry}
use Rattle.sts_scope.specs.declared.entries.ClassHead.{ClassHead}
use Rattle.sts_scope.specs.declared.known.Known.{Known}
use Rattle.sts_scope.specs.declared.known.This.TheVariants as this
use Rattle.sts_scope.specs.Kinds.{nothing, value_type}
use Rattle.sts_scope.specs.Failures.{◌then◌}
use Rattle.sts_scope.specs.Bases.{above}
use Rattle.sts_scope.specs.Entries.{Naming, classes_in, new_entry as declared_as, item_entries, main_entries, global_entries, entries_from, member_entries, item_heads, heads_of, class_head, maker_takes}
use Rattle.sts_scope.specs.Headings.{written_failure, item_failure, headings_failure}
use Rattle.sts_scope.specs.Lookup.{base_of}
use Rattle.sts_scope.specs.Places.{NameScope, outside}
use Rattle.sts_scope.specs.Rules.{kind_at, maker_takes_of}
use Rattle.sts_scope.specs.Rules as rules
use Rattle.typed_laws.proofs.Returning.{gives_value}
use Rattle.type_derive.specs.Returns.{bound}
use Rattle.type_derive.specs.Derived.{Source, Stated, item_sources, main_sources, global_sources, sources_from, member_sources, declared_source, follows}
use Rattle.type_derive.specs.Nodes.{initial_failure, own_bound}
use Rattle.type_derive.specs.Passes.{outside_failure, globals_failure, main_failure, item_nodes, nodes_failure}
use Rattle.typed_laws.proofs.FormedParts.{IsFormedDeclaration, IsFormedIn, AreFormedDeclarations}
use Rattle.typed_laws.specs.Formed.{IsFormedProgram}
use Rattle.sts_scope.specs.Handlers.{optional_handlers, declarations_handlers, statement_handlers, statements_handlers, unwritten, members_routines, item_routines, all_routines}
use Rattle.type_derive.specs.Making.{Made as Made'}
use Rattle.type_derive.specs.inner.Filling.{pure, ◌>=>◌}
use Rattle.sts_scope.specs.Numbers.{Numbering, global_number, item_numbers, numbers_from, member_numbers, item_makers, makers_from, maker_from}
use Rattle.type_derive.specs.Built.{Site}
use Rattle.type_derive.specs.inner.Filled.{made_first, function_made}
use Rattle.typed_laws.specs.inner.FilledPrograms.{class_made, initials, global_made, globals_made, main_made, items_made}
use Rattle.typed_laws.proofs.Stands.{Stands}
use Rattle.typed_laws.proofs.Typed.{last, first}
use Rattle.typed_laws.proofs.Makings.{Gives, gives_as, gives_bind, gives_pure, Placed, placed_left, Kept, kept_left, kept_right, good_pure, good_bind, good_free, good_as, numbers_more}
use Rattle.typed_laws.proofs.Makings.{Good as Built}
use Rattle.typed_laws.proofs.Suffixes.{Suffix, suffix_step, suffix_one, suffix_at, suffix_head, suffix_or}
use Rattle.typed_laws.proofs.Searching.{get_within}
use Rattle.typed_laws.proofs.Trees.{initial, statement, bound_known, Answered, Sound}
use Rattle.typed_laws.proofs.Items.{item_numbered, item_sourced, function_counts, class_counts, main_counts}
use Rattle.typed_laws.proofs.Members.{sort_there}
use Rattle.typed_laws.proofs.Placing.{placed_at, members_placed}
use Rattle.typed_laws.proofs.Makers.{is_written, blank, item_marks, item_length, marks_from, AllMarked}
use Rattle.typed_laws.proofs.Classes.{Made}
use Rattle.typed_laws.proofs.Routines.{st, Stand, Each, each_at, inners_sound, body_sound}
use Rattle.typed_laws.proofs.Constructors.{Walk, class_sound}

-- a class without a written constructor takes what its base takes
takes_stay : (classes : List ClassHead) (n c : ℕ) → above classes n c ≡ None → rules.maker_from classes n c ≡ rules.maker_from classes (suc n) c
takes_stay classes zero c h = cc
takes_stay classes (suc n) c h =
    let E : (ℕ → List StaticType) → Option ClassHead → List StaticType = λ f x. elim x [ None ↦ [] | Some class ↦ elim class.takes [ Some takes ↦ takes | None ↦ elim class.base [ None ↦ [] | Some b ↦ f b ] ] ] in
    let B : Option ClassHead → Option ℕ = λ x. elim x [ None ↦ None | Some class ↦ class.base ] in
    let G : Option ℕ → Option ℕ = λ x. elim x [ None ↦ None | Some b ↦ above classes n b ] in
    let f : ℕ → List StaticType = λ b. rules.maker_from classes n b in
    let g : ℕ → List StaticType = λ b. rules.maker_from classes (suc n) b in
    let go : (x : Option ClassHead) → G (B x) ≡ None → E f x ≡ E g x = λ x. elim x as (λ y. G (B y) ≡ None → E f y ≡ E g y) [
      | None ↦ (λ q. refl)
      | Some class ↦ (λ q.
          let K : (ℕ → List StaticType) → Option ℕ → List StaticType = λ j y. elim y [ None ↦ [] | Some b ↦ j b ] in
          let base_case : (y : Option ℕ) → G y ≡ None → K f y ≡ K g y =
          λ y. elim y as (λ z. G z ≡ None → K f z ≡ K g z) [ None ↦ (λ r. refl) | Some b ↦ (λ r. takes_stay classes n b r) ] in
          let F : List StaticType → Option (List StaticType) → List StaticType = λ us y. elim y [ Some takes ↦ takes | None ↦ us ] in
          ap (λ (us : List StaticType). F us class.takes) (base_case class.base q))
    ] in
    go (slice_get classes c) h

takes_passed : (classes : List ClassHead) (l c b : ℕ) (head : ClassHead) → slice_get classes c ≡ Some head → head.takes ≡ None → base_of classes c ≡ Some b → length classes ≡ suc l → above classes (suc l) c ≡ None → maker_takes_of classes b ≡ maker_takes_of classes c
takes_passed classes l c b head q r s many ends =
    let E : Option ClassHead → List StaticType = λ x. elim x [ None ↦ [] | Some class ↦ elim class.takes [ Some takes ↦ takes | None ↦ elim class.base [ None ↦ [] | Some b ↦ rules.maker_from classes l b ] ] ] in
    let B : Option ClassHead → Option ℕ = λ x. elim x [ None ↦ None | Some class ↦ class.base ] in
    let G : Option ℕ → Option ℕ = λ x. elim x [ None ↦ None | Some i ↦ above classes l i ] in
    let F : Option (List StaticType) → List StaticType = λ y. elim y [ Some takes ↦ takes | None ↦ elim head.base [ None ↦ [] | Some b ↦ rules.maker_from classes l b ] ] in
    let H : Option ℕ → List StaticType = λ y. elim y [ None ↦ [] | Some b ↦ rules.maker_from classes l b ] in
    let base_so : head.base ≡ Some b = sym (ap B q) ∙ s in
    let none_b : above classes l b ≡ None = sym (ap G s) ∙ ends in
    let c_is : maker_takes_of classes c ≡ rules.maker_from classes l b = ap (λ (i : ℕ). rules.maker_from classes i c) many ∙ ap E q ∙ ap F r ∙ ap H base_so in
    ap (λ (i : ℕ). rules.maker_from classes i b) many ∙ sym (takes_stay classes l b none_b) ∙ sym c_is

module _ (tables : Tables) (names : Naming) (k : Known) (numbers : Numbering) (P : TypedProgram) (made : Made tables names k numbers P) (sources : List Source)
    (solved : (d : ℕ) (source : Source) → slice_get sources d ≡ Some source → k.library ≤ d → kind_at k d ≡ follows names tables k false source) where
  abbrev site0 : Site
  site0 = record { place = outside this.Nowhere false None; spots = [] }

  stand0 : (S : Setting) → Stand tables names k numbers P made S [] site0
  stand0 S = record { even = refl; here = λ i u h. cc; proper = λ i u h. cc; this = λ c q. cc }

  answers0 : (S : Setting) (b : Bool) → Answered tables names k numbers P (st tables names k numbers P made) S None b
  answers0 S b = ((λ q. cc), (λ q v h. cc))

  -- a global and its first value
  abbrev GlobalsSound : Setting → List TypedDeclaration → Type 0
  GlobalsSound S ds = w.AreDeclared P S [] ds × (w.known_behind ds [] ≡ []) × (declared_names ds ≡ [])

  global_kind : (d i x : ℕ) (shape : Option Annotation) (first' : OptionalTree) → slice_get sources d ≡ Some (declared_source names this.Nowhere (Declare i x shape first')) → k.library ≤ d
      → kind_at k d ≡ bound tables names k (outside this.Nowhere false None) shape first'
  global_kind d i x (Some a) first' h near = solved d (declared_source names this.Nowhere (Declare i x (Some a) first')) h near
  global_kind d i x None first' h near = solved d (declared_source names this.Nowhere (Declare i x None first')) h near

  global_good : (S : Setting) (fixed : Bool) (d i x : ℕ) (shape : Option Annotation) (first' : OptionalTree) → S.main ≡ true → IsFormedDeclaration (Declare i x shape first') → outside_failure tables names k this.Nowhere (Declare i x shape first') ≡ None
      → slice_get sources d ≡ Some (declared_source names this.Nowhere (Declare i x shape first')) → slice_get k.entries d ≡ Some (declared_as i o.Whole x (sort.Global fixed) []) → k.library ≤ d
      → Gives P (λ l. w.MayDeclare P S (Global (global_number k d)) (value_type (unwrap_or (kind_at k d) nothing)) × w.IsInitial P S [] l (value_type (unwrap_or (kind_at k d) nothing))) (optional_handlers first') (made_first tables names k numbers site0 shape first')
  global_good S fixed d i x shape first' main_so formed h src en near =
      let p : NameScope = outside this.Nowhere false None in
      let wf = written_failure names i shape in
      let jf = initial_failure tables names k p shape first' in
      let ob = own_bound tables names k p shape first' i in
      let hw : wf ≡ None = first wf (jf then ob) h in
      let hj : jf ≡ None = first jf ob (last wf (jf then ob) h) in
      let ho : ob ≡ None = last jf ob (last wf (jf then ob) h) in
      let (u, q, pu) = bound_known tables names k numbers P (st tables names k numbers P made) S [] site0 shape first' i (stand0 S) hw ho in
      let kind : kind_at k d ≡ Some u = global_kind d i x shape first' src near ∙ q in
      let same : value_type u ≡ value_type (unwrap_or (kind_at k d) nothing) = ap (λ (y : Option StaticType). value_type (unwrap_or y nothing)) (sym kind) in
      let s : Stands tables k numbers P = st tables names k numbers P made in
      let has : entry P.globals (global_number k d) ≡ Some (value_type u) = s.globals d fixed u (sort_there k made.sane made.chained d (declared_as i o.Whole x (sort.Global fixed) []) en) kind in
      let Q : ValueType → Option TypedTree → Type 0 = λ v l. w.MayDeclare P S (Global (global_number k d)) v × w.IsInitial P S [] l v in
      subst (λ (v : ValueType). Gives P (Q v) (optional_handlers first') (made_first tables names k numbers site0 shape first')) same
      (gives_as P (λ l. w.IsInitial P S [] l (value_type u)) (Q (value_type u)) (optional_handlers first') (optional_handlers first') (made_first tables names k numbers site0 shape first')
      (initial tables names k numbers P s S [] site0 shape first' i u (stand0 S) formed hw hj ho q) (λ l g. ((main_so, has), g)) refl)

  global_more : (S : Setting) (g : ℕ) (v : ValueType) (y : TypedDeclaration) (ys : List TypedDeclaration) → ((l : Option TypedTree) × (y ≡ record { name = Global g; first = l }) × w.MayDeclare P S (Global g) v × w.IsInitial P S [] l v) → GlobalsSound S ys → GlobalsSound S (y ∷ ys)
  global_more S g v y ys (l, is, may, initial_so) q = subst (λ (z : TypedDeclaration). GlobalsSound S (z ∷ ys)) (sym is) ((v, may, initial_so, q.0), q.1, q.2)

  globals_good : (S : Setting) (fixed : Bool) (d m n : ℕ) (each : Declarations) (ss : List Source) (es : List Entry) → S.main ≡ true → AreFormedDeclarations each → globals_failure tables names k each ≡ None
      → Suffix sources d (global_sources names each ++ ss) → Suffix k.entries d (global_entries fixed each ++ es) → k.library ≤ d
      → Built P S (GlobalsSound S) declared_names [] (declarations_handlers each) m n (globals_made tables names k numbers d each m n)
  globals_good S fixed d m n ended ss es main_so formed h src ent near = good_pure P S (GlobalsSound S) declared_names [] m n [] (tt, refl, refl) refl
  globals_good S fixed d m n (next (Declare i x shape first') rest) ss es main_so formed h src ent near =
      let a : Declaration = Declare i x shape first' in
      let A = outside_failure tables names k this.Nowhere a in
      let B = globals_failure tables names k rest in
      let en : Entry = declared_as i o.Whole x (sort.Global fixed) [] in
      let src0 : Source = declared_source names this.Nowhere a in
      let H : ℕ = optional_handlers first' in
      let J : ℕ = declarations_handlers rest in
      let g : ℕ = global_number k d in
      let v : ValueType = value_type (unwrap_or (kind_at k d) nothing) in
      let R = GlobalsSound S in
      let Q : TypedDeclaration → Type 0 = λ y. (l : Option TypedTree) × (y ≡ record { name = Global g; first = l }) × w.MayDeclare P S (Global g) v × w.IsInitial P S [] l v in
      let one : Gives P Q (H + 0) (global_made tables names k numbers d a) =
      gives_bind P (λ l. w.MayDeclare P S (Global g) v × w.IsInitial P S [] l v) Q H 0 (made_first tables names k numbers site0 shape first') (λ (l : Option TypedTree). let y : TypedDeclaration = record { name = Global g; first = l } in pure y)
      (global_good S fixed d i x shape first' main_so formed.0 (first A B h) (suffix_head sources d src0 (global_sources names rest ++ ss) src) (suffix_head k.entries d en (global_entries fixed rest ++ es) ent) near)
      (λ l q. gives_pure P Q (record { name = Global g; first = l }) (l, refl, q.0, q.1)) in
      good_as P S R R declared_names [] (H + 0 + (J + 0)) (H + J) m n (globals_made tables names k numbers d (next a rest) m n)
      (good_free P S Q R declared_names [] (H + 0) (J + 0) m n (global_made tables names k numbers d a) (λ y. globals_made tables names k numbers (suc d) rest >=> λ ys. pure (y ∷ ys)) one
      (λ y yq o1. good_bind P S (GlobalsSound S) declared_names R declared_names [] J 0 m o1 (globals_made tables names k numbers (suc d) rest) (λ ys. pure (y ∷ ys))
      (globals_good S fixed (suc d) m o1 rest ss es main_so formed.1 (last A B h) (suffix_one sources d src0 (global_sources names rest ++ ss) src) (suffix_one k.entries d en (global_entries fixed rest ++ es) ent) (omega (arith, near)))
      (λ ys q i2 o2. good_pure P S R declared_names (declared_names ys) i2 o2 (y ∷ ys) (global_more S g v y ys yq q) (ap (λ (z : TypedDeclaration). w'.declared_local z.name ++ declared_names ys) yq.1)))) (λ l. l) (omega arith)

  -- A statement of the main program.
  abbrev MainSound : Setting → TypedStatement → Type 0
  MainSound S y = w.IsSound P S y false [] × (w.known_after y [] ≡ [])

  main_good : (S : Setting) (d m n : ℕ) (a : Statement) (ss : List Source) (es : List Entry) → S.main ≡ true → IsFormedIn false a → main_failure tables names k a ≡ None
      → Suffix sources d (main_sources names a ++ ss) → Suffix k.entries d (main_entries a ++ es) → k.library ≤ d
      → Built P S (MainSound S) w'.declared [] (statement_handlers a) m n (main_made tables names k numbers d a m n)
  main_good S d m n (Let i fixed each) ss es main_so formed h src ent near =
      let R = MainSound S in
      let H : ℕ = declarations_handlers each in
      good_as P S R R w'.declared [] (H + 0) H m n (main_made tables names k numbers d (Let i fixed each) m n)
      (good_bind P S (GlobalsSound S) declared_names R w'.declared [] H 0 m n (globals_made tables names k numbers d each) (λ ds. pure (e.Let fixed ds)) (globals_good S fixed d m n each ss es main_so formed h src ent near)
      (λ ds q i1 o1. good_pure P S R w'.declared (declared_names ds) i1 o1 (e.Let fixed ds) (q.0, q.1) refl)) (λ l. l) (omega arith)
  main_good S d m n (Block i all) ss es main_so formed h src ent near =
      good_as P S (Sound tables names k numbers P (st tables names k numbers P made) S [] site0 false m (Block i all)) (MainSound S) w'.declared [] (statement_handlers (Block i all)) (statement_handlers (Block i all)) m n (main_made tables names k numbers d (Block i all) m n)
      (statement tables names k numbers P (st tables names k numbers P made) S [] site0 false None (Block i all) m n (stand0 S) formed refl h (answers0 S (gives_value (Block i all)))) (λ q. (q.0, refl)) refl
  main_good S d m n (IfOnly i test a) ss es main_so formed h src ent near =
      good_as P S (Sound tables names k numbers P (st tables names k numbers P made) S [] site0 false m (IfOnly i test a)) (MainSound S) w'.declared [] (statement_handlers (IfOnly i test a)) (statement_handlers (IfOnly i test a)) m n (main_made tables names k numbers d (IfOnly i test a) m n)
      (statement tables names k numbers P (st tables names k numbers P made) S [] site0 false None (IfOnly i test a) m n (stand0 S) formed refl h (answers0 S (gives_value (IfOnly i test a)))) (λ q. (q.0, refl)) refl
  main_good S d m n (IfElse i test a b) ss es main_so formed h src ent near =
      good_as P S (Sound tables names k numbers P (st tables names k numbers P made) S [] site0 false m (IfElse i test a b)) (MainSound S) w'.declared [] (statement_handlers (IfElse i test a b)) (statement_handlers (IfElse i test a b)) m n (main_made tables names k numbers d (IfElse i test a b) m n)
      (statement tables names k numbers P (st tables names k numbers P made) S [] site0 false None (IfElse i test a b) m n (stand0 S) formed refl h (answers0 S (gives_value (IfElse i test a b)))) (λ q. (q.0, refl)) refl
  main_good S d m n (While i test a) ss es main_so formed h src ent near =
      good_as P S (Sound tables names k numbers P (st tables names k numbers P made) S [] site0 false m (While i test a)) (MainSound S) w'.declared [] (statement_handlers (While i test a)) (statement_handlers (While i test a)) m n (main_made tables names k numbers d (While i test a) m n)
      (statement tables names k numbers P (st tables names k numbers P made) S [] site0 false None (While i test a) m n (stand0 S) formed refl h (answers0 S (gives_value (While i test a)))) (λ q. (q.0, refl)) refl
  main_good S d m n (DoWhile i a test) ss es main_so formed h src ent near =
      good_as P S (Sound tables names k numbers P (st tables names k numbers P made) S [] site0 false m (DoWhile i a test)) (MainSound S) w'.declared [] (statement_handlers (DoWhile i a test)) (statement_handlers (DoWhile i a test)) m n (main_made tables names k numbers d (DoWhile i a test) m n)
      (statement tables names k numbers P (st tables names k numbers P made) S [] site0 false None (DoWhile i a test) m n (stand0 S) formed refl h (answers0 S (gives_value (DoWhile i a test)))) (λ q. (q.0, refl)) refl
  main_good S d m n (For i one test step a) ss es main_so formed h src ent near =
      good_as P S (Sound tables names k numbers P (st tables names k numbers P made) S [] site0 false m (For i one test step a)) (MainSound S) w'.declared [] (statement_handlers (For i one test step a)) (statement_handlers (For i one test step a)) m n (main_made tables names k numbers d (For i one test step a) m n)
      (statement tables names k numbers P (st tables names k numbers P made) S [] site0 false None (For i one test step a) m n (stand0 S) formed refl h (answers0 S (gives_value (For i one test step a)))) (λ q. (q.0, refl)) refl
  main_good S d m n (ForOf i fixed x list a) ss es main_so formed h src ent near =
      good_as P S (Sound tables names k numbers P (st tables names k numbers P made) S [] site0 false m (ForOf i fixed x list a)) (MainSound S) w'.declared [] (statement_handlers (ForOf i fixed x list a)) (statement_handlers (ForOf i fixed x list a)) m n (main_made tables names k numbers d (ForOf i fixed x list a) m n)
      (statement tables names k numbers P (st tables names k numbers P made) S [] site0 false None (ForOf i fixed x list a) m n (stand0 S) formed refl h (answers0 S (gives_value (ForOf i fixed x list a)))) (λ q. (q.0, refl)) refl
  main_good S d m n (Return i value) ss es main_so formed h src ent near =
      good_as P S (Sound tables names k numbers P (st tables names k numbers P made) S [] site0 false m (Return i value)) (MainSound S) w'.declared [] (statement_handlers (Return i value)) (statement_handlers (Return i value)) m n (main_made tables names k numbers d (Return i value) m n)
      (statement tables names k numbers P (st tables names k numbers P made) S [] site0 false None (Return i value) m n (stand0 S) formed refl h (answers0 S (gives_value (Return i value)))) (λ q. (q.0, refl)) refl
  main_good S d m n (Break i) ss es main_so formed h src ent near =
      good_as P S (Sound tables names k numbers P (st tables names k numbers P made) S [] site0 false m (Break i)) (MainSound S) w'.declared [] (statement_handlers (Break i)) (statement_handlers (Break i)) m n (main_made tables names k numbers d (Break i) m n)
      (statement tables names k numbers P (st tables names k numbers P made) S [] site0 false None (Break i) m n (stand0 S) formed refl h (answers0 S (gives_value (Break i)))) (λ q. (q.0, refl)) refl
  main_good S d m n (Continue i) ss es main_so formed h src ent near =
      good_as P S (Sound tables names k numbers P (st tables names k numbers P made) S [] site0 false m (Continue i)) (MainSound S) w'.declared [] (statement_handlers (Continue i)) (statement_handlers (Continue i)) m n (main_made tables names k numbers d (Continue i) m n)
      (statement tables names k numbers P (st tables names k numbers P made) S [] site0 false None (Continue i) m n (stand0 S) formed refl h (answers0 S (gives_value (Continue i)))) (λ q. (q.0, refl)) refl
  main_good S d m n (Plain i a) ss es main_so formed h src ent near =
      good_as P S (Sound tables names k numbers P (st tables names k numbers P made) S [] site0 false m (Plain i a)) (MainSound S) w'.declared [] (statement_handlers (Plain i a)) (statement_handlers (Plain i a)) m n (main_made tables names k numbers d (Plain i a) m n)
      (statement tables names k numbers P (st tables names k numbers P made) S [] site0 false None (Plain i a) m n (stand0 S) formed refl h (answers0 S (gives_value (Plain i a)))) (λ q. (q.0, refl)) refl
  main_good S d m n (Empty i) ss es main_so formed h src ent near =
      good_as P S (Sound tables names k numbers P (st tables names k numbers P made) S [] site0 false m (Empty i)) (MainSound S) w'.declared [] (statement_handlers (Empty i)) (statement_handlers (Empty i)) m n (main_made tables names k numbers d (Empty i) m n)
      (statement tables names k numbers P (st tables names k numbers P made) S [] site0 false None (Empty i) m n (stand0 S) formed refl h (answers0 S (gives_value (Empty i)))) (λ q. (q.0, refl)) refl

  module _ (marks : List (Option ℕ)) (marked : AllMarked marks 0 numbers.makers) where
    -- what is said of a text from a part on
    pub record TextAt (c d n : ℕ) (text : Program) : Type 0 where
      pub entries_are : Suffix k.entries d (entries_from names c text)
      pub sources_are : Suffix sources d (sources_from names c text)
      pub routines_are : Suffix numbers.routines d (numbers_from n text)
      pub heads_are : Suffix k.classes c (heads_of names text)
      pub makers_are : Suffix numbers.makers c (makers_from n text)
      pub marks_are : Suffix marks n (marks_from c text)
      pub behind : k.library ≤ d
      pub headings : headings_failure tables.names names k.entries k.classes c d text ≡ None
      pub nodes : nodes_failure tables names k c d text ≡ None
      pub formed : IsFormedProgram text
      pub room : n + all_routines text ≤ P.main

    heads_many : (i : TopLevel) → length (item_heads names i) ≡ classes_in i
    heads_many (Class at x base base_at members) = refl
    heads_many (Function x r) = refl
    heads_many (Main a) = refl

    makers_many' : (n : ℕ) (i : TopLevel) → length (item_makers n i) ≡ classes_in i
    makers_many' n (Class at x base base_at members) = refl
    makers_many' n (Function x r) = refl
    makers_many' n (Main a) = refl

    text_step : (c d n : ℕ) (i : TopLevel) (rest : Program) → TextAt c d n (i ∷ rest) → TextAt (c + classes_in i) (d + length (item_entries names c i)) (n + item_routines i) rest
    text_step c d n i rest t' =
        let es = item_entries names c i in
        let c' : ℕ = c + classes_in i in
        let d' : ℕ = d + length es in
        let n' : ℕ = n + item_routines i in
        let near : k.library ≤ d = t'.behind in
        let room_so : n + (item_routines i + all_routines rest) ≤ P.main = t'.room in
        record {
          entries_are = suffix_step k.entries d es (entries_from names c' rest) t'.entries_are;
          sources_are = suffix_at sources (d + length (item_sources names c i)) d' (sources_from names c' rest) (ap (λ (j : ℕ). d + j) (item_sourced names c i)) (suffix_step sources d (item_sources names c i) (sources_from names c' rest) t'.sources_are);
          routines_are = suffix_at numbers.routines (d + length (item_numbers n i)) d' (numbers_from n' rest) (ap (λ (j : ℕ). d + j) (item_numbered names c n i)) (suffix_step numbers.routines d (item_numbers n i) (numbers_from n' rest) t'.routines_are);
          heads_are = suffix_at k.classes (c + length (item_heads names i)) c' (heads_of names rest) (ap (λ (j : ℕ). c + j) (heads_many i)) (suffix_step k.classes c (item_heads names i) (heads_of names rest) t'.heads_are);
          makers_are = suffix_at numbers.makers (c + length (item_makers n i)) c' (makers_from n' rest) (ap (λ (j : ℕ). c + j) (makers_many' n i)) (suffix_step numbers.makers c (item_makers n i) (makers_from n' rest) t'.makers_are);
          marks_are = suffix_at marks (n + length (item_marks c i)) n' (marks_from c' rest) (ap (λ (j : ℕ). n + j) (item_length c i)) (suffix_step marks n (item_marks c i) (marks_from c' rest) t'.marks_are);
          behind = omega (arith, near);
          headings = last (item_failure tables.names names k.entries k.classes c d i) (headings_failure tables.names names k.entries k.classes c' d' rest) t'.headings;
          nodes = last (item_nodes tables names k c d i) (nodes_failure tables names k c' d' rest) t'.nodes;
          formed = t'.formed.1;
          room = omega (arith, room_so);
        }

    some_classes_there : (classes : List ClassHead) (c : ℕ) (h : ClassHead) → slice_get classes c ≡ Some h → (l : ℕ) × (length classes ≡ suc l)
    some_classes_there [] c h q = cc
    some_classes_there (x ∷ xs) c h q = (length xs, refl)

    unwritten_takes : (members : List ClassMember) → unwritten members ≡ 1 → maker_takes names members ≡ None
    unwritten_takes members one = elim (is_written names members) [ inl p ↦ (let z : 0 ≡ 1 = sym p.0 ∙ one in absurd (omega arith)) | inr p ↦ p.1 ]

    -- the statements of the main program, and all functions
    abbrev TextSound : Setting → ℕ → ℕ → Made' TypedStatements → Type 0
    TextSound S m n x = Each tables names k numbers P made n x.routines × AreSound P S x.it false [] × (w'.all_declared x.it ≡ w'.numbers m (length x.locals))

    class_case : (c d n at x : ℕ) (base : Option ℕ) (base_at : ℕ) (members : List ClassMember) (rest : Program) → TextAt c d n (Class at x base base_at members ∷ rest) → Placed P n (class_made tables names k numbers c n (suc d) members)
        → Each tables names k numbers P made n (class_made tables names k numbers c n (suc d) members)
    class_case c d n at x base base_at members rest t' placed =
        let i : TopLevel = Class at x base base_at members in
        let head : ClassHead = class_head names at base base_at members in
        let tail = marks_from (c + classes_in i) rest in
        let near : k.library ≤ d = t'.behind in
        let room_so : n + ((unwritten members + members_routines members) + all_routines rest) ≤ P.main = t'.room in
        let at_c : slice_get k.classes c ≡ Some head = suffix_head k.classes c head (heads_of names rest) t'.heads_are in
        let near_c : c < length k.classes = get_within k.classes c head at_c in
        let (l, many) = some_classes_there k.classes c head at_c in
        let en : Entry = declared_as at o.Whole x (sort.Class c) [] in
        let start : ℕ = n + unwritten members in
        let inits = initials tables names k numbers c start (suc d) members in
        let walk : Walk tables names k numbers P made sources solved c start (suc d) inits members = record {
          es = entries_from names (c + classes_in i) rest;
          entries = suffix_one k.entries d en (member_entries names c members ++ entries_from names (c + classes_in i) rest) t'.entries_are;
          ss = sources_from names (c + classes_in i) rest;
          sources_are = suffix_one sources d (Stated None) (member_sources names c members ++ sources_from names (c + classes_in i) rest) t'.sources_are;
          js = numbers_from (n + item_routines i) rest;
          routines = suffix_one numbers.routines d 0 (member_numbers start members ++ numbers_from (n + item_routines i) rest) t'.routines_are;
          behind = omega (arith, near);
          no_failure = first (item_nodes tables names k c d i) (nodes_failure tables names k (c + classes_in i) (d + length (item_entries names c i)) rest) t'.nodes;
          formed = t'.formed.0;
          placed = members_placed tables names k numbers P c n (suc d) members placed;
        } in
        class_sound tables names k numbers P made sources solved marks marked c near_c (λ b q. made.chained.bases c b q) n (suc d) (d + 1) members tail walk
        (first (item_failure tables.names names k.entries k.classes c d i) (headings_failure tables.names names k.entries k.classes (c + classes_in i) (d + length (item_entries names c i)) rest) t'.headings)
        (suffix_or numbers.makers c (maker_from n n members) (makers_from (n + item_routines i) rest) 0 t'.makers_are) placed
        (λ b q one. takes_passed k.classes l c b head at_c (unwritten_takes members one) q many (ap (λ (j : ℕ). above k.classes j c) (sym many) ∙ made.chained.ends c near_c))
        t'.marks_are (omega (arith, room_so))

    pub text_sound : (S : Setting) → S.main ≡ true → (c d m n : ℕ) (text : Program) → TextAt c d n text → Placed P n (items_made tables names k numbers c d m n text).routines → Kept P S m (items_made tables names k numbers c d m n text).locals
        → TextSound S m n (items_made tables names k numbers c d m n text)
    text_sound S main_so c d m n [] t' placed kept = (tt, tt, refl)
    text_sound S main_so c d m n (Class at x base base_at members ∷ rest) t' placed kept =
        let i : TopLevel = Class at x base base_at members in
        let here = class_made tables names k numbers c n (suc d) members in
        let later : Made' TypedStatements = items_made tables names k numbers (suc c) (d + length (item_entries names c i)) m (n + item_routines i) rest in
        let count = class_counts tables names k numbers c n (suc d) members (first (item_nodes tables names k c d i) (nodes_failure tables names k (c + classes_in i) (d + length (item_entries names c i)) rest) t'.nodes) in
        let step : c + 1 ≡ suc c = omega arith in
        let t1 : TextAt (suc c) (d + length (item_entries names c i)) (n + item_routines i) rest = subst (λ (j : ℕ). TextAt j (d + length (item_entries names c i)) (n + item_routines i) rest) step (text_step c d n i rest t') in
        let (each_so, sound_so, declared_so) = text_sound S main_so (suc c) (d + length (item_entries names c i)) m (n + item_routines i) rest t1 (placed_at tables names k numbers P n (item_routines i) here later.routines count placed) kept in
        (each_at tables names k numbers P made n (item_routines i) here later.routines count (class_case c d n at x base base_at members rest t' (placed_left P n here later.routines placed)) each_so, sound_so, declared_so)
    text_sound S main_so c d m n (Function x (Does j params gives all arrow) ∷ rest) t' placed kept =
        let r : Routine = Does j params gives all arrow in
        let i : TopLevel = Function x r in
        let here = function_made tables names k numbers false n (kind_at k d) r in
        let later : Made' TypedStatements = items_made tables names k numbers c (suc d) m (n + item_routines i) rest in
        let h = first (item_nodes tables names k c d i) (nodes_failure tables names k (c + classes_in i) (d + length (item_entries names c i)) rest) t'.nodes in
        let count = function_counts tables names k numbers false n (kind_at k d) j params gives all arrow h in
        let room_so : n + (suc (statements_handlers all) + all_routines rest) ≤ P.main = t'.room in
        let c_step : c + 0 ≡ c = omega arith in
        let d_step : d + 1 ≡ suc d = omega arith in
        let t1 : TextAt c (suc d) (n + item_routines i) rest = subst (λ (y : ℕ). TextAt c y (n + item_routines i) rest) d_step (subst (λ (y : ℕ). TextAt y (d + 1) (n + item_routines i) rest) c_step (text_step c d n i rest t')) in
        let (each_so, sound_so, declared_so) = text_sound S main_so c (suc d) m (n + item_routines i) rest t1 (placed_at tables names k numbers P n (item_routines i) here later.routines count placed) kept in
        let own = body_sound tables names k numbers P made marks marked this.Nowhere (kind_at k d) false [] params all n (marks_from (c + 0) rest) t'.formed.0 h (λ u q. made.kinds_proper d u q) (placed_left P n here later.routines placed) (λ c' q. cc) t'.marks_are (omega (arith, room_so)) in
        (each_at tables names k numbers P made n (item_routines i) here later.routines count own each_so, sound_so, declared_so)
    text_sound S main_so c d m n (Main a ∷ rest) t' placed kept =
        let i : TopLevel = Main a in
        let here : Made' TypedStatement = main_made tables names k numbers d a m n in
        let later : Made' TypedStatements = items_made tables names k numbers c (d + length (item_entries names c i)) (m + length here.locals) (n + item_routines i) rest in
        let h = first (item_nodes tables names k c d i) (nodes_failure tables names k (c + classes_in i) (d + length (item_entries names c i)) rest) t'.nodes in
        let count = main_counts tables names k numbers d a h m n in
        let room_so : n + (statement_handlers a + all_routines rest) ≤ P.main = t'.room in
        let c_step : c + 0 ≡ c = omega arith in
        let t1 : TextAt c (d + length (item_entries names c i)) (n + item_routines i) rest = subst (λ (y : ℕ). TextAt y (d + length (item_entries names c i)) (n + item_routines i) rest) c_step (text_step c d n i rest t') in
        let (each_so, sound_so, declared_so) = text_sound S main_so c (d + length (item_entries names c i)) (m + length here.locals) (n + item_routines i) rest t1 (placed_at tables names k numbers P n (item_routines i) here.routines later.routines count placed)
        (kept_right P S m here.locals later.locals kept) in
        let (main_sound, declared_here, inners, count') = main_good S d m n a (sources_from names (c + classes_in i) rest) (entries_from names (c + classes_in i) rest) main_so t'.formed.0 h t'.sources_are t'.entries_are t'.behind
        (placed_left P n here.routines later.routines placed) (kept_left P S m here.locals later.locals kept) in
        let s1 : Suffix marks n (blank (length here.routines) ++ marks_from (c + classes_in i) rest) = subst (λ (y : ℕ). Suffix marks n (blank y ++ marks_from (c + classes_in i) rest)) (sym count) t'.marks_are in
        let own = inners_sound tables names k numbers P made marks marked n here.routines (marks_from (c + classes_in i) rest) inners s1 (omega (arith, room_so, count)) in
        let more : w'.numbers m (length (here.locals ++ later.locals)) ≡ w'.numbers m (length here.locals) ++ w'.numbers (m + length here.locals) (length later.locals) =
        ap (λ (y : ℕ). w'.numbers m y) (length-append here.locals later.locals) ∙ numbers_more m (length here.locals) (length later.locals) in
        let declared_all : w'.declared here.it ++ w'.all_declared later.it ≡ w'.numbers m (length (here.locals ++ later.locals)) =
        ap (λ (ys : List ℕ). ys ++ w'.all_declared later.it) declared_here ∙ ap (λ (ys : List ℕ). w'.numbers m (length here.locals) ++ ys) declared_so ∙ sym more in (
          each_at tables names k numbers P made n (item_routines i) here.routines later.routines count own each_so,
          (main_sound.0, subst (λ (ks : List ℕ). AreSound P S later.it false ks) (sym main_sound.1) sound_so),
          declared_all,
        )
