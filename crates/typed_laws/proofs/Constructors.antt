-- Constructors, field initialisers and all functions of a class are well typed.
use Rattle.std.proofs.Common.{◌≡◌, ℕ, zero, suc, ◌+◌, ◌<◌, ◌≤◌, ◌==◌, ◌||◌, refl, sym, ap, ◌∙◌, subst, Bool, true, false, Option, Some, None, List, [], ◌∷◌, ◌++◌, length, arith, inl, inr, eq-eqb, append_assoc, length-append}
use Rattle.std.specs.Prelude.{slice_get, unwrap_or, not, if◌then◌else◌}
use Rattle.sts_base.specs.declared.tables.Tables.{Tables}
use Rattle.sts_base.specs.declared.refused.Code.TheVariants.{Mismatch, TwiceNamed}
use Rattle.sts_syntax.specs.Annotations.{Annotation}
use Rattle.sts_syntax.specs.Types as t
use Rattle.sts_syntax.specs.Types.{ValueType}
use Rattle.sts_syntax.specs.TypedTrees as e
use Rattle.sts_syntax.specs.TypedTrees.{TypedTree, TypedStatement, TypedStatements, TypedRoutine, ClassEntry, TypedProgram}
use Rattle.sts_syntax.specs.Nodes.{is_among}
use Rattle.sts_syntax.specs.TypeRules.{entry, GoesTo}
use Rattle.sts_syntax.specs.WellTyped.{Setting, Has, HasThis, IsTyped, AreSound, AreGiven, parameters_of}
use Rattle.sts_syntax.specs.WellTyped as w
use Rattle.sts_syntax.specs.WellTypedPrograms.{IsBodyOf, base_of_maker, is_maker, setting}
use Rattle.sts_syntax.specs.WellTypedPrograms as w'
use Rattle.sts_syntax.specs.Trees.{Parameter, SuperCall, OptionalTree, Plain, Statements, also, Declaration, Declare, Routine, Does}
use Rattle.sts_syntax.specs.Programs.{ClassMember, Field, Method, Constructor}
use Rattle.sts_scope.specs.declared.kinds.StaticType.{StaticType}
use Rattle.sts_scope.specs.declared.entries.Owner.TheVariants as o
use Rattle.sts_scope.specs.declared.entries.DeclarationKind.TheVariants as sort
use Rattle.sts_scope.specs.declared.entries.Entry.{Entry}
use Rattle.sts_scope.specs.declared.known.Known.{Known}
use Rattle.sts_scope.specs.declared.known.This.TheVariants as this
use Rattle.sts_scope.specs.Kinds.{nothing, value_type, value_types}
use Rattle.sts_scope.specs.Failures.{◌then◌, unless}
use Rattle.sts_scope.specs.Entries.{Naming, new_entry as declared_as, member_entry, member_entries, parameter_kinds}
use Rattle.sts_scope.specs.Headings.{written_failure, members_failure, member_failure, is_constructor, routine_at, routine_failure}
use Rattle.sts_scope.specs.Lookup.{base_of, member_number}
use Rattle.sts_scope.specs.Places.{NameScope, outside}
use Rattle.sts_scope.specs.Rules.{kind_at, maker_takes_of, all_go}
use Rattle.type_derive.specs.Typing.{types_of}
use Rattle.typed_laws.proofs.Returning.{give_value}
use Rattle.type_derive.specs.Returns.{bound}
use Rattle.type_derive.specs.Derived.{Source, member_sources, follows, declared_source, routine_source}
use Rattle.type_derive.specs.Nodes.{failures, statements_failure, initial_failure, own_bound}
use Rattle.type_derive.specs.Passes.{outside_failure, body_failure, made_failure, own_super_call, constructor_failure, members_nodes}
use Rattle.typed_laws.proofs.FormedParts.{AreFormedMembers, AreFormedIn}
use Rattle.sts_scope.specs.Handlers.{handlers_of, routine_handlers, declared_handlers, statements_handlers, members_routines, unwritten}
use Rattle.type_derive.specs.inner.Filling.{pure, ◌>=>◌}
use Rattle.sts_scope.specs.Numbers.{Numbering, field_names, slot_names, place_among, member_numbers, maker_number, maker_from, routine_number}
use Rattle.type_derive.specs.Built.{Site}
use Rattle.type_derive.specs.inner.Filled.{made_given, made_statements, site, method_made}
use Rattle.typed_laws.specs.Programs.{passed_on, ◌before◌, super_called, passes_on, constructor_unwritten, unwritten_made}
use Rattle.typed_laws.specs.inner.FilledPrograms.{initial_made, set_field, initials, made_statements_of, constructor_made, members_made, class_made, class_entry}
use Rattle.typed_laws.proofs.Stands.{IsProper}
use Rattle.typed_laws.proofs.Typed.{last, first, unless_true}
use Rattle.typed_laws.proofs.Names.{some_is}
use Rattle.typed_laws.proofs.Makings.{Placed, placed_left, Inners, kept_all, good_pure, good_bind, good_free, good_as}
use Rattle.typed_laws.proofs.Makings.{Good as Built}
use Rattle.typed_laws.proofs.Suffixes.{Suffix, suffix_step, suffix_one, suffix_at, suffix_head, suffix_or}
use Rattle.typed_laws.proofs.Searching.{or_right}
use Rattle.typed_laws.proofs.Trees.{initial, given, statements, bound_known, Answered}
use Rattle.typed_laws.proofs.Items.{begins_super, constructor_case, maker_failure, method_counts, field_counts, constructor_counts, unwritten_counts}
use Rattle.typed_laws.proofs.Members.{own_number, own_member, class_within}
use Rattle.typed_laws.proofs.Placing.{result_at, placed_at, placed_more}
use Rattle.typed_laws.proofs.Makers.{blank, blank_length, opened, opened_length, member_marks, AllMarked, is_written}
use Rattle.typed_laws.proofs.Classes.{Made, class_at, field_at, maker_body, below_here, slot_is, result_is}
use Rattle.typed_laws.proofs.Routines.{st, Stand, site_stand, is_the_maker, one_maker, Each, each_at, each_more, below_main, inners_sound, body_sound}

among_there : (xs : List ℕ) (i f : ℕ) → entry xs i ≡ Some f → is_among xs f ≡ true
among_there [] i f h = cc
among_there (x ∷ xs) zero f h = ap (λ (b : Bool). b || is_among xs f) (eq-eqb x f (let z : x ≡ f = cc in z))
among_there (x ∷ xs) (suc i) f h = or_right (x == f) (is_among xs f) (among_there xs i f h)

method_there : (cs : List ClassEntry) (c f : ℕ) (cl : ClassEntry) → entry cs c ≡ Some cl → is_among cl.slots f ≡ true → w'.is_method cs f ≡ true
method_there [] c f cl h q = cc
method_there (x ∷ cs) zero f cl h q = ap (λ (b : Bool). b || w'.is_method cs f) (ap (λ (y : ClassEntry). is_among y.slots f) (let z : x ≡ cl = cc in z) ∙ q)
method_there (x ∷ cs) (suc c) f cl h q = or_right (is_among x.slots f) (w'.is_method cs f) (method_there cs c f cl h q)

module _ (tables : Tables) (names : Naming) (k : Known) (numbers : Numbering) (P : TypedProgram) (made : Made tables names k numbers P) where
  -- some initialisers, each an expression as a statement
  abbrev pub AllInits : Setting → List TypedStatement → Type 0
  AllInits S [] = Unit {0}
  AllInits S (x ∷ rest) = ((a : TypedTree) × (x ≡ e.Plain a) × IsTyped P S [] a) × AllInits S rest

  inits_both : (S : Setting) (xs ys : List TypedStatement) → AllInits S xs → AllInits S ys → AllInits S (xs ++ ys)
  inits_both S [] ys g h = h
  inits_both S (x ∷ xs) ys g h = (g.0, inits_both S xs ys g.1 h)

  before_sound : (S : Setting) (xs : List TypedStatement) (all : TypedStatements) → AllInits S xs → AreSound P S all false [] → AreSound P S (xs before all) false []
  before_sound S [] all g h = h
  before_sound S (x ∷ xs) all g h =
      let (a, is, typed_so) = g.0 in
      subst (λ (y : TypedStatement). AreSound P S (e.also y (xs before all)) false []) (sym is) (typed_so, before_sound S xs all g.1 h)

  before_declared : (S : Setting) (xs : List TypedStatement) (all : TypedStatements) → AllInits S xs → w'.all_declared (xs before all) ≡ w'.all_declared all
  before_declared S [] all g = refl
  before_declared S (x ∷ xs) all g = ap (λ (y : TypedStatement). w'.declared y ++ w'.all_declared (xs before all)) g.0.1 ∙ before_declared S xs all g.1

  -- `this.f = r`
  set_typed : (S : Setting) (c d x i : ℕ) (shape : Option Annotation) (first' : OptionalTree) (a : Entry) (u : StaticType) (r : Option TypedTree) → HasThis P S (t.Object c) → member_number k.entries k.classes c x ≡ Some d → slice_get k.entries d ≡ Some a
      → a.sort ≡ sort.Field → kind_at k d ≡ Some u → w.IsInitial P S [] r (value_type u) → AllInits S (set_field tables names k numbers c d (Declare i x shape first') r)
  set_typed S c d x i shape first' a u None this_so h q s kind initial_so = tt
  set_typed S c d x i shape first' a u (Some r) this_so h q s kind initial_so =
      let v : ValueType = result_at tables names k numbers P d in
      let same : v ≡ value_type u = result_is tables names k numbers P made d u kind in
      let field = field_at tables names k numbers P made c x d a h q s in (
        (
          e.Set v None (e.Field v (e.This (t.Object c)) (place_among (field_names k c) x)) r,
          refl,
          ((this_so, c, refl, field), initial_so.0, refl, subst (λ (y : ValueType). GoesTo P (w.type_of r) y) (sym same) initial_so.1),
        ),
        tt,
      )

  module _ (sources : List Source) (solved : (d : ℕ) (source : Source) → slice_get sources d ≡ Some source → k.library ≤ d → kind_at k d ≡ follows names tables k false source) where
    -- the type of a field or a global is that of its declaration
    pub declared_kind : (d c : ℕ) (i x : ℕ) (shape : Option Annotation) (first' : OptionalTree) → slice_get sources d ≡ Some (declared_source names (this.Object c) (Declare i x shape first')) → k.library ≤ d
        → kind_at k d ≡ bound tables names k (outside (this.Object c) false None) shape first'
    declared_kind d c i x (Some a) first' h near = solved d (declared_source names (this.Object c) (Declare i x (Some a) first')) h near
    declared_kind d c i x None first' h near = solved d (declared_source names (this.Object c) (Declare i x None first')) h near

    -- what is said of the members of a class from a member on: the functions from n on, the declarations from d on
    pub record Walk (c n d : ℕ) (inits : List TypedStatement) (members : List ClassMember) : Type 0 where
      pub es : List Entry
      pub entries : Suffix k.entries d (member_entries names c members ++ es)
      pub ss : List Source
      pub sources_are : Suffix sources d (member_sources names c members ++ ss)
      pub js : List ℕ
      pub routines : Suffix numbers.routines d (member_numbers n members ++ js)
      pub behind : k.library ≤ d
      pub no_failure : members_nodes tables names k c d members ≡ None
      pub formed : AreFormedMembers members
      pub placed : Placed P n (members_made tables names k numbers c inits n d members)

    walk_field : (c n d : ℕ) (inits : List TypedStatement) (a : Declaration) (rest : List ClassMember) → Walk c n d inits (Field a ∷ rest) → Walk c (n + declared_handlers a) (suc d) inits rest
    walk_field c n d inits (Declare i x shape first') rest walk =
        let a : Declaration = Declare i x shape first' in
        let A = outside_failure tables names k (this.Object c) a in
        let B = members_nodes tables names k c (suc d) rest in
        let near : k.library ≤ d = walk.behind in
        record {
          es = walk.es;
          entries = suffix_one k.entries d (declared_as i (o.Class c) x sort.Field []) (member_entries names c rest ++ walk.es) walk.entries;
          ss = walk.ss;
          sources_are = suffix_one sources d (declared_source names (this.Object c) a) (member_sources names c rest ++ walk.ss) walk.sources_are;
          js = walk.js;
          routines = suffix_one numbers.routines d 0 (member_numbers (n + declared_handlers a) rest ++ walk.js) walk.routines;
          behind = omega (arith, near);
          no_failure = last A B walk.no_failure;
          formed = walk.formed.1;
          placed = placed_at tables names k numbers P n (declared_handlers a) (initial_made tables names k numbers c n a).routines (members_made tables names k numbers c inits (n + declared_handlers a) (suc d) rest)
              (field_counts tables names k numbers c n a (first A B walk.no_failure)) walk.placed;
        }

    walk_method : (c n d : ℕ) (inits : List TypedStatement) (x : ℕ) (r : Routine) (rest : List ClassMember) → Walk c n d inits (Method x r ∷ rest) → Walk c (suc n + routine_handlers r) (suc d) inits rest
    walk_method c n d inits x (Does i params gives all arrow) rest walk =
        let r : Routine = Does i params gives all arrow in
        let A = body_failure tables names k (this.Object c) (kind_at k d) r in
        let B = members_nodes tables names k c (suc d) rest in
        let near : k.library ≤ d = walk.behind in
        record {
          es = walk.es;
          entries = suffix_one k.entries d (declared_as i (o.Class c) x sort.Method (parameter_kinds names params)) (member_entries names c rest ++ walk.es) walk.entries;
          ss = walk.ss;
          sources_are = suffix_one sources d (routine_source names (this.Object c) r) (member_sources names c rest ++ walk.ss) walk.sources_are;
          js = walk.js;
          routines = suffix_one numbers.routines d n (member_numbers (suc n + routine_handlers r) rest ++ walk.js) walk.routines;
          behind = omega (arith, near);
          no_failure = last A B walk.no_failure;
          formed = walk.formed.1;
          placed = placed_more tables names k numbers P n (routine_handlers r) (method_made tables names k numbers c n (kind_at k d) r) (members_made tables names k numbers c inits (suc n + routine_handlers r) (suc d) rest)
              (method_counts tables names k numbers c n (kind_at k d) r (first A B walk.no_failure)) walk.placed;
        }

    walk_constructor : (c n d : ℕ) (inits : List TypedStatement) (r : Routine) (rest : List ClassMember) → Walk c n d inits (Constructor r ∷ rest) → Walk c (suc n + routine_handlers r) d inits rest
    walk_constructor c n d inits r rest walk =
        let A = constructor_failure tables names k (this.Object c) (base_of k.classes c) r in
        let B = members_nodes tables names k c d rest in
        record {
          es = walk.es;
          entries = walk.entries;
          ss = walk.ss;
          sources_are = walk.sources_are;
          js = walk.js;
          routines = walk.routines;
          behind = walk.behind;
          no_failure = last A B walk.no_failure;
          formed = walk.formed.1;
          placed = placed_more tables names k numbers P n (routine_handlers r) (constructor_made tables names k numbers c n inits r) (members_made tables names k numbers c inits (suc n + routine_handlers r) d rest)
              (constructor_counts tables names k numbers c n inits r (first A B walk.no_failure)) walk.placed;
        }

    -- a field's initialiser, and the functions in it
    field_typed : (S : Setting) (c n d : ℕ) (inits : List TypedStatement) (i x : ℕ) (shape : Option Annotation) (first' : OptionalTree) (rest : List ClassMember) → HasThis P S (t.Object c) → Walk c n d inits (Field (Declare i x shape first') ∷ rest)
        → AllInits S (set_field tables names k numbers c d (Declare i x shape first') (initial_made tables names k numbers c n (Declare i x shape first')).it) × Inners P (initial_made tables names k numbers c n (Declare i x shape first')).routines
    field_typed S c n d inits i x shape first' rest this_so walk =
        let a : Declaration = Declare i x shape first' in
        let p : NameScope = outside (this.Object c) false None in
        let s0 : Site = record { place = p; spots = [] } in
        let A = outside_failure tables names k (this.Object c) a in
        let B = members_nodes tables names k c (suc d) rest in
        let wf = written_failure names i shape in
        let jf = initial_failure tables names k p shape first' in
        let of_ = own_bound tables names k p shape first' i in
        let hA : A ≡ None = first A B walk.no_failure in
        let hw : wf ≡ None = first wf (jf then of_) hA in
        let hj : jf ≡ None = first jf of_ (last wf (jf then of_) hA) in
        let ho : of_ ≡ None = last jf of_ (last wf (jf then of_) hA) in
        let stand0 : Stand tables names k numbers P made S [] s0 = record { even = refl; here = λ i u h. cc; proper = λ i u h. cc; this = λ c' q. let z : c ≡ c' = cc in subst (λ (y : ℕ). HasThis P S (t.Object y)) z this_so } in
        let (u, q, pu) = bound_known tables names k numbers P (st tables names k numbers P made) S [] s0 shape first' i stand0 hw ho in
        let en : Entry = declared_as i (o.Class c) x sort.Field [] in
        let at_d : slice_get k.entries d ≡ Some en = suffix_head k.entries d en (member_entries names c rest ++ walk.es) walk.entries in
        let near : c < length k.classes = class_within k made.sane made.chained d c en at_d refl in
        let number : member_number k.entries k.classes c x ≡ Some d = own_member k made.sane made.chained c x d near (own_number k made.sane made.chained d c x en at_d refl refl) in
        let kind : kind_at k d ≡ Some u = declared_kind d c i x shape first' (suffix_head sources d (declared_source names (this.Object c) a) (member_sources names c rest ++ walk.ss) walk.sources_are) walk.behind ∙ q in
        let (initial_so, locals_so, inners, count) = initial tables names k numbers P (st tables names k numbers P made) S [] s0 shape first' i u stand0 walk.formed.0 hw hj ho q 0 n
        (placed_left P n (initial_made tables names k numbers c n a).routines (members_made tables names k numbers c inits (n + declared_handlers a) (suc d) rest) walk.placed) in
        (set_typed S c d x i shape first' en u (initial_made tables names k numbers c n a).it this_so number at_d refl kind initial_so, inners)

    pub inits_typed : (S : Setting) (c n d : ℕ) (inits : List TypedStatement) (members : List ClassMember) → HasThis P S (t.Object c) → Walk c n d inits members → AllInits S (initials tables names k numbers c n d members)
    inits_typed S c n d inits [] this_so walk = tt
    inits_typed S c n d inits (Field (Declare i x shape first') ∷ rest) this_so walk =
        let a : Declaration = Declare i x shape first' in
        inits_both S (set_field tables names k numbers c d a (initial_made tables names k numbers c n a).it) (initials tables names k numbers c (n + declared_handlers a) (suc d) rest)
        (field_typed S c n d inits i x shape first' rest this_so walk).0 (inits_typed S c (n + declared_handlers a) (suc d) inits rest this_so (walk_field c n d inits a rest walk))
    inits_typed S c n d inits (Method x r ∷ rest) this_so walk = inits_typed S c (suc n + routine_handlers r) (suc d) inits rest this_so (walk_method c n d inits x r rest walk)
    inits_typed S c n d inits (Constructor r ∷ rest) this_so walk = inits_typed S c (suc n + routine_handlers r) d inits rest this_so (walk_constructor c n d inits r rest walk)

    module _ (marks : List (Option ℕ)) (marked : AllMarked marks 0 numbers.makers) where
      -- the setting of a constructor
      maker_facts : (c n : ℕ) → c < length k.classes → maker_number numbers c ≡ n → (is_maker P.classes n ≡ true) × (base_of_maker P P.classes n ≡ base_of k.classes c)
      maker_facts c n near q =
          let (a, b) = is_the_maker tables names k numbers P made c near (λ d near_d same. one_maker tables names k numbers P made marks marked d c near_d near same) in
          (subst (λ (j : ℕ). is_maker P.classes j ≡ true) q a, subst (λ (j : ℕ). base_of_maker P P.classes j ≡ base_of k.classes c) q b)

      maker_answers : (n : ℕ) (r : TypedRoutine) (b : Bool) → is_maker P.classes n ≡ true → n < P.main → Answered tables names k numbers P (st tables names k numbers P made) (setting P n r) (Some nothing) b
      maker_answers n r b h near =
          let answer_is : w.answer (setting P n r) ≡ Some t.Nothing =
          ap (λ (x : Bool). let y : Option ValueType = if x then None else Some (if is_maker P.classes n then t.Nothing else r.gives) in y) (below_main tables names k numbers P made n near)
          ∙ ap (λ (x : Bool). Some (if x then t.Nothing else r.gives)) h in
          ((λ q. (t.Nothing, answer_is)), (λ q v same. let z : nothing ≡ v = some_is nothing v same in (answer_is ∙ ap (λ (y : StaticType). Some (value_type y)) z, subst IsProper z refl)))

      super_types : (ts : Option (List StaticType)) (takes : List StaticType) (l : ℕ) → own_super_call k ts takes l ≡ None → (us : List StaticType) × (ts ≡ Some us) × (all_go k.classes us takes ≡ true)
      super_types None takes l h = cc
      super_types (Some us) takes l h = (us, refl, unless_true (all_go k.classes us takes) Mismatch l h)

      entry_front : (us vs : List ValueType) (v : ValueType) → entry (us ++ v ∷ vs) (length us) ≡ Some v
      entry_front [] vs v = refl
      entry_front (u ∷ us) vs v = entry_front us vs v

      -- the statements of a constructor behind its initialisers
      body_made : (S : Setting) (s : Site) (base : Option ℕ) (inits : List TypedStatement) (i : ℕ) (all : Statements) (n : ℕ) → Stand tables names k numbers P made S [] s → AreFormedIn false all → s.place.gives ≡ Some nothing
          → Answered tables names k numbers P (st tables names k numbers P made) S (Some nothing) (give_value all) → AllInits S inits → ((b : ℕ) → base ≡ Some b → b < length k.classes) → maker_failure tables names k numbers s.place base i all ≡ None
          → Built P S (λ xs. IsBodyOf P base S xs) w'.all_declared [] (statements_handlers all) 0 n (made_statements_of tables names k numbers s base inits all 0 n)
      body_made S s None inits i all n at formed gives answers inits_so within_so h =
          let R : TypedStatements → Type 0 = λ xs. AreSound P S xs false [] in
          let H : ℕ = statements_handlers all in
          good_as P S R R w'.all_declared [] (H + 0) H 0 n (made_statements_of tables names k numbers s None inits all 0 n)
          (good_bind P S R w'.all_declared R w'.all_declared [] H 0 0 n (made_statements tables names k numbers s all) (λ xs. pure (inits before xs))
          (statements tables names k numbers P (st tables names k numbers P made) S [] s false (Some nothing) all 0 n at formed gives h answers)
          (λ xs q i1 o1. good_pure P S R w'.all_declared (w'.all_declared xs) i1 o1 (inits before xs) (before_sound S inits xs inits_so q) (before_declared S inits xs inits_so))) (λ l. l) (omega arith)
      body_made S s (Some b) inits i all n at formed gives answers inits_so within_so h =
          let (j, l, args, rest, is) = begins_super tables names k numbers all i b s.place h in
          let G : Statements → Type 0 = λ xs. AreFormedIn false xs → Answered tables names k numbers P (st tables names k numbers P made) S (Some nothing) (give_value xs) → made_failure tables names k s.place i b xs ≡ None
          → Built P S (λ ys. IsBodyOf P (Some b) S ys) w'.all_declared [] (statements_handlers xs) 0 n (made_statements_of tables names k numbers s (Some b) inits xs 0 n) in
          let base_case : G (also (Plain j (SuperCall l None args)) rest) = λ f1 a1 h1.
          let takes : List StaticType = maker_takes_of k.classes b in
          let A = failures tables names k s.place [] args in
          let B = own_super_call k (types_of tables k s.place args) takes l in
          let C = statements_failure tables names k s.place rest in
          let hA : A ≡ None = first A (B then C) h1 in
          let hB : B ≡ None = first B C (last A (B then C) h1) in
          let hC : C ≡ None = last B C (last A (B then C) h1) in
          let (us, types_so, go) = super_types (types_of tables k s.place args) takes l hB in
          let near_b : b < length k.classes = within_so b refl in
          let (r, has, params, result) = maker_body tables names k numbers P made b near_b in
          let H : ℕ = handlers_of args in
          let J : ℕ = statements_handlers rest in
          let R : TypedStatements → Type 0 = λ ys. IsBodyOf P (Some b) S ys in
          good_as P S R R w'.all_declared [] (H + (J + 0)) (H + J) 0 n (made_statements_of tables names k numbers s (Some b) inits (also (Plain j (SuperCall l None args)) rest) 0 n)
          (good_free P S (AreGiven P S [] (parameters_of (value_types takes))) R w'.all_declared [] H (J + 0) 0 n (made_given tables names k numbers s takes args)
          (λ ys. made_statements tables names k numbers s rest >=> λ xs. pure (e.also (super_called numbers b ys) (inits before xs)))
          (given tables names k numbers P (st tables names k numbers P made) S [] s takes us args at f1.0 (made.makers_proper b) hA types_so go)
          (λ ys gs o1. good_bind P S (λ xs. AreSound P S xs false []) w'.all_declared R w'.all_declared [] J 0 0 o1 (made_statements tables names k numbers s rest) (λ xs. pure (e.also (super_called numbers b ys) (inits before xs)))
          (statements tables names k numbers P (st tables names k numbers P made) S [] s false (Some nothing) rest 0 o1 at f1.1 gives hC (a1.0, a1.1))
          (λ xs q i2 o2. good_pure P S R w'.all_declared (w'.all_declared xs) i2 o2 (e.also (super_called numbers b ys) (inits before xs))
          (class_entry tables names k numbers b, value_types takes, class_at tables names k numbers P made b near_b, refl, (r, b, has, params, below_here tables names k numbers P made b, result), gs, refl, before_sound S inits xs inits_so q)
          (before_declared S inits xs inits_so)))) (λ l. l) (omega arith) in
          subst G (sym is) base_case formed answers h

      -- A constructor that isn't written passes its base's parameters on.
      passed_typed : (S : Setting) (before' : List ValueType) (us : List StaticType) → S.routine.params ≡ before' ++ value_types us → AreGiven P S [] (parameters_of (value_types us)) (passed_on (length before') us)
      passed_typed S before' [] h = tt
      passed_typed S before' (u ∷ us) h =
          let here : entry S.routine.params (length before') ≡ Some (value_type u) = ap (λ (vs : List ValueType). entry vs (length before')) h ∙ entry_front before' (value_types us) (value_type u) in
          let h' : S.routine.params ≡ (before' ++ value_type u ∷ []) ++ value_types us = h ∙ sym (append_assoc before' (value_type u ∷ []) (value_types us)) in
          let long : length (before' ++ value_type u ∷ []) ≡ suc (length before') = length-append before' (value_type u ∷ []) ∙ (let z : length before' + 1 ≡ suc (length before') = omega arith in z) in
          (here, inl refl, subst (λ (i : ℕ). AreGiven P S [] (parameters_of (value_types us)) (passed_on i us)) long (passed_typed S (before' ++ value_type u ∷ []) us h'))

      unwritten_body : (S : Setting) (c : ℕ) (base : Option ℕ) (inits : List TypedStatement) (takes : List StaticType) → S.routine.params ≡ t.Object c ∷ value_types takes → ((b : ℕ) → base ≡ Some b → (b < length k.classes) × (maker_takes_of k.classes b ≡ takes)) → AllInits S inits
          → IsBodyOf P base S ((passes_on numbers base takes ++ inits) before e.done) × (w'.all_declared ((passes_on numbers base takes ++ inits) before e.done) ≡ [])
      unwritten_body S c None inits takes ps bases inits_so = (before_sound S inits e.done inits_so tt, before_declared S inits e.done inits_so)
      unwritten_body S c (Some b) inits takes ps bases inits_so =
          let (near_b, same) = bases b refl in
          let (r, has, params, result) = maker_body tables names k numbers P made b near_b in
          let params_so : r.params ≡ t.Object b ∷ value_types takes = params ∙ ap (λ (us : List StaticType). t.Object b ∷ value_types us) same in (
            (
              class_entry tables names k numbers b,
              value_types takes,
              class_at tables names k numbers P made b near_b,
              refl,
              (r, b, has, params_so, below_here tables names k numbers P made b, result),
              passed_typed S (t.Object c ∷ []) takes ps,
              refl,
              before_sound S inits e.done inits_so tt,
            ),
            before_declared S inits e.done inits_so,
          )

      -- the functions of a class's members
      module _ (c : ℕ) (near_c : c < length k.classes) (base_near : (b : ℕ) → base_of k.classes c ≡ Some b → b < length k.classes) where
        maker_sound : (n : ℕ) (inits : List TypedStatement) (i : ℕ) (params : List Parameter) (gives : Option Annotation) (all : Statements) (arrow : Bool) (tail : List (Option ℕ))
            → AreFormedIn false all → constructor_failure tables names k (this.Object c) (base_of k.classes c) (Does i params gives all arrow) ≡ None → ((S : Setting) → HasThis P S (t.Object c) → AllInits S inits)
            → Placed P n (constructor_made tables names k numbers c n inits (Does i params gives all arrow)) → maker_number numbers c ≡ n → Suffix marks n (Some c ∷ blank (statements_handlers all) ++ tail) → n + suc (statements_handlers all) ≤ P.main
            → Each tables names k numbers P made n (constructor_made tables names k numbers c n inits (Does i params gives all arrow))
        maker_sound n inits i params gives all arrow tail formed h inits_so placed maker_so s near =
            let s1 : Site = site tables names k numbers (this.Object c) (Some nothing) false 1 params in
            let x = made_statements_of tables names k numbers s1 (base_of k.classes c) inits all 0 (suc n) in
            let r : TypedRoutine = record { params = t.Object c ∷ value_types (parameter_kinds names params); locals = x.locals; gives = t.Object c; all = x.it } in
            let S : Setting = setting P n r in
            let (maker_true, base_so) = maker_facts c n near_c maker_so in
            let near_n : n < P.main = omega arith in
            let this_true : S.this ≡ true = ap (λ (b : Bool). b || w'.is_method P.classes n) maker_true in
            let this_so : HasThis P S (t.Object c) = (this_true, refl) in
            let at : Stand tables names k numbers P made S [] s1 = site_stand tables names k numbers P made S (this.Object c) (Some nothing) false (t.Object c ∷ []) params refl (λ d q. let z : c ≡ d = cc in subst (λ (y : ℕ). HasThis P S (t.Object y)) z this_so) in
            let (body_so, declared_so, inners, count) = body_made S s1 (base_of k.classes c) inits i all (suc n) at formed refl (maker_answers n r (give_value all) maker_true near_n) (inits_so S this_so) base_near
            (constructor_case tables names k numbers (this.Object c) (base_of k.classes c) i params gives all arrow h) placed.1 (kept_all P S x.locals refl) in
            let s' : Suffix marks (suc n) (blank (length x.routines) ++ tail) = subst (λ (i : ℕ). Suffix marks (suc n) (blank i ++ tail)) (sym count) (suffix_one marks n (Some c) (blank (statements_handlers all) ++ tail) s) in
            let near' : suc n + length x.routines ≤ P.main = omega (arith, count, near) in
            (record { body = subst (λ (o : Option ℕ). IsBodyOf P o S x.it) (sym base_so) body_so; locals = declared_so }, inners_sound tables names k numbers P made marks marked (suc n) x.routines tail inners s' near')

        -- a method
        method_sound : (n d x : ℕ) (inits : List TypedStatement) (i : ℕ) (params : List Parameter) (gives : Option Annotation) (all : Statements) (arrow : Bool) (rest : List ClassMember) (tail : List (Option ℕ))
            → Walk c n d inits (Method x (Does i params gives all arrow) ∷ rest) → Suffix marks n (blank (suc (statements_handlers all)) ++ tail) → n + suc (statements_handlers all) ≤ P.main
            → Each tables names k numbers P made n (method_made tables names k numbers c n (kind_at k d) (Does i params gives all arrow))
        method_sound n d x inits i params gives all arrow rest tail walk s near =
            let r' : Routine = Does i params gives all arrow in
            let A = body_failure tables names k (this.Object c) (kind_at k d) r' in
            let B = members_nodes tables names k c (suc d) rest in
            let en : Entry = declared_as i (o.Class c) x sort.Method (parameter_kinds names params) in
            let at_d : slice_get k.entries d ≡ Some en = suffix_head k.entries d en (member_entries names c rest ++ walk.es) walk.entries in
            let member : member_number k.entries k.classes c x ≡ Some d = own_member k made.sane made.chained c x d near_c (own_number k made.sane made.chained d c x en at_d refl refl) in
            let number_so : routine_number numbers d ≡ n = suffix_or numbers.routines d n (member_numbers (suc n + routine_handlers r') rest ++ walk.js) 0 walk.routines in
            let slot : entry (class_entry tables names k numbers c).slots (place_among (slot_names k c) x) ≡ Some n = slot_is tables names k numbers P made c x d en member at_d refl ∙ ap (λ (j : ℕ). Some j) number_so in
            let method_true : w'.is_method P.classes n ≡ true =
            method_there P.classes c n (class_entry tables names k numbers c) (class_at tables names k numbers P made c near_c) (among_there (class_entry tables names k numbers c).slots (place_among (slot_names k c) x) n slot) in
            let s1 : Site = site tables names k numbers (this.Object c) (kind_at k d) false 1 params in
            let m1 = made_statements tables names k numbers s1 all 0 (suc n) in
            let S : Setting = setting P n (record { params = t.Object c ∷ value_types (parameter_kinds names params); locals = m1.locals; gives = value_type (unwrap_or (kind_at k d) nothing); all = m1.it }) in
            body_sound tables names k numbers P made marks marked (this.Object c) (kind_at k d) false (t.Object c ∷ []) params all n tail walk.formed.0 (first A B walk.no_failure) (λ u q. made.kinds_proper d u q)
            (placed_left P n (method_made tables names k numbers c n (kind_at k d) r') (members_made tables names k numbers c inits (suc n + routine_handlers r') (suc d) rest) walk.placed)
            (λ j q. let z : c ≡ j = cc in subst (λ (y : ℕ). HasThis P S (t.Object y)) z (or_right (is_maker P.classes n) (w'.is_method P.classes n) method_true, refl)) s near

        not_is : (b : Bool) → not b ≡ true → b ≡ false
        not_is true h = cc
        not_is false h = refl

        or_left : (a b : Bool) → (a || b) ≡ false → a ≡ false
        or_left true b h = cc
        or_left false b h = refl

        or_never : (a : Bool) → (a || true) ≡ false → ⊥
        or_never true h = cc
        or_never false h = cc

        -- where a constructor is looked for doesn't matter if none is written
        start_same : (n : ℕ) (members : List ClassMember) → maker_from n n members ≡ maker_from n (n + unwritten members) members
        start_same n members = elim (is_written names members) [
          | inl (zero_so, takes, q) ↦ ap (λ (j : ℕ). maker_from n j members) (let z : n ≡ n + 0 = omega arith in z ∙ ap (λ (j : ℕ). n + j) (sym zero_so))
          | inr (one_so, q, same) ↦ same n n ∙ sym (same n (n + unwritten members))
        ]

        unwritten_sound : (n many : ℕ) (members : List ClassMember) (inits : List TypedStatement) → many ≡ unwritten members → Placed P n (unwritten_made k numbers many c inits) → maker_number numbers c ≡ maker_from n n members
            → ((b : ℕ) → base_of k.classes c ≡ Some b → unwritten members ≡ 1 → maker_takes_of k.classes b ≡ maker_takes_of k.classes c) → ((S : Setting) → HasThis P S (t.Object c) → AllInits S inits) → n + many ≤ P.main
            → Each tables names k numbers P made n (unwritten_made k numbers many c inits)
        unwritten_sound n zero members inits q placed maker_so passes inits_so near = tt
        unwritten_sound n (suc many) members inits q placed maker_so passes inits_so near = elim (is_written names members) [
          | inl (zero_so, takes, r) ↦ (let z : suc many ≡ 0 = q ∙ zero_so in absurd (omega arith))
          | inr (one_so, r, same) ↦ (let here : maker_number numbers c ≡ n = maker_so ∙ same n n in
              let (maker_true, base_so) = maker_facts c n near_c here in
              let takes : List StaticType = maker_takes_of k.classes c in
              let rt : TypedRoutine = constructor_unwritten k numbers c inits in
              let S : Setting = setting P n rt in
              let this_so : HasThis P S (t.Object c) = (ap (λ (b : Bool). b || w'.is_method P.classes n) maker_true, refl) in
              let (body_so, declared_so) = unwritten_body S c (base_of k.classes c) inits takes refl (λ b qb. (base_near b qb, passes b qb one_so)) (inits_so S this_so) in
              (record { body = subst (λ (o : Option ℕ). IsBodyOf P o S rt.all) (sym base_so) body_so; locals = declared_so }, tt))
        ]

        -- the functions of all members: `built` says whether a constructor stood before
        members_sound : (start n d d' : ℕ) (inits : List TypedStatement) (built : Bool) (members : List ClassMember) (tail : List (Option ℕ)) → Walk c n d inits members
            → members_failure tables.names names k.entries k.classes c d' built members ≡ None → (built ≡ false → maker_number numbers c ≡ maker_from start n members) → ((S : Setting) → HasThis P S (t.Object c) → AllInits S inits)
            → Suffix marks n (member_marks c members ++ tail) → n + members_routines members ≤ P.main → Each tables names k numbers P made n (members_made tables names k numbers c inits n d members)
        members_sound start n d d' inits built [] tail walk hd maker_so inits_so s near = tt
        members_sound start n d d' inits built (Field (Declare i x shape first') ∷ rest) tail walk hd maker_so inits_so s near =
            let a : Declaration = Declare i x shape first' in
            let m : ClassMember = Field a in
            let j : ℕ = declared_handlers a in
            let A = outside_failure tables names k (this.Object c) a in
            let B = members_nodes tables names k c (suc d) rest in
            let count : length (initial_made tables names k numbers c n a).routines ≡ j = field_counts tables names k numbers c n a (first A B walk.no_failure) in
            let S0 : Setting = record { routine = record { params = t.Object c ∷ []; locals = []; gives = t.Nothing; all = e.done }; this = true; maker = false; main = false } in
            let (field_so, inners) = field_typed S0 c n d inits i x shape first' rest (refl, refl) walk in
            let s1 : Suffix marks n (blank j ++ (member_marks c rest ++ tail)) = subst (λ (xs : List (Option ℕ)). Suffix marks n xs) (append_assoc (blank j) (member_marks c rest) tail) s in
            let here : Each tables names k numbers P made n (initial_made tables names k numbers c n a).routines =
            inners_sound tables names k numbers P made marks marked n (initial_made tables names k numbers c n a).routines (member_marks c rest ++ tail) inners
            (subst (λ (y : ℕ). Suffix marks n (blank y ++ (member_marks c rest ++ tail))) (sym count) s1) (omega (arith, count, near)) in
            let s2 : Suffix marks (n + j) (member_marks c rest ++ tail) = suffix_at marks (n + length (blank j)) (n + j) (member_marks c rest ++ tail) (ap (λ (y : ℕ). n + y) (blank_length j)) (suffix_step marks n (blank j) (member_marks c rest ++ tail) s1) in
            let hr = last (member_failure tables.names names k.entries k.classes c d' built m) (members_failure tables.names names k.entries k.classes c (d' + length (member_entry names c m)) (built || is_constructor tables.names m) rest) hd in
            each_at tables names k numbers P made n j (initial_made tables names k numbers c n a).routines (members_made tables names k numbers c inits (n + j) (suc d) rest) count here
            (members_sound start (n + j) (suc d) (d' + 1) inits (built || is_constructor tables.names m) rest tail (walk_field c n d inits a rest walk) hr (λ q. maker_so (or_left built (is_constructor tables.names m) q)) inits_so s2 (omega (arith, near)))
        members_sound start n d d' inits built (Method x (Does i params gives all arrow) ∷ rest) tail walk hd maker_so inits_so s near =
            let r : Routine = Does i params gives all arrow in
            let m : ClassMember = Method x r in
            let j : ℕ = statements_handlers all in
            let A = body_failure tables names k (this.Object c) (kind_at k d) r in
            let B = members_nodes tables names k c (suc d) rest in
            let made_here = method_made tables names k numbers c n (kind_at k d) r in
            let count : length made_here ≡ suc j = method_counts tables names k numbers c n (kind_at k d) r (first A B walk.no_failure) in
            let s1 : Suffix marks n (blank (suc j) ++ (member_marks c rest ++ tail)) = subst (λ (xs : List (Option ℕ)). Suffix marks n xs) (append_assoc (blank (suc j)) (member_marks c rest) tail) s in
            let here = method_sound n d x inits i params gives all arrow rest (member_marks c rest ++ tail) walk s1 (omega (arith, near)) in
            let at : n + length (blank (suc j)) ≡ suc n + j = ap (λ (y : ℕ). n + y) (blank_length (suc j)) ∙ (let z : n + suc j ≡ suc n + j = omega arith in z) in
            let s2 : Suffix marks (suc n + j) (member_marks c rest ++ tail) = suffix_at marks (n + length (blank (suc j))) (suc n + j) (member_marks c rest ++ tail) at (suffix_step marks n (blank (suc j)) (member_marks c rest ++ tail) s1) in
            let hr = last (member_failure tables.names names k.entries k.classes c d' built m) (members_failure tables.names names k.entries k.classes c (d' + length (member_entry names c m)) (built || is_constructor tables.names m) rest) hd in
            each_more tables names k numbers P made n j made_here (members_made tables names k numbers c inits (suc n + j) (suc d) rest) count here
            (members_sound start (suc n + j) (suc d) (d' + 1) inits (built || false) rest tail (walk_method c n d inits x r rest walk) hr (λ q. maker_so (or_left built false q)) inits_so s2 (omega (arith, near)))
        members_sound start n d d' inits built (Constructor (Does i params gives all arrow) ∷ rest) tail walk hd maker_so inits_so s near =
            let r : Routine = Does i params gives all arrow in
            let m : ClassMember = Constructor r in
            let j : ℕ = statements_handlers all in
            let A = constructor_failure tables names k (this.Object c) (base_of k.classes c) r in
            let B = members_nodes tables names k c d rest in
            let hA : A ≡ None = first A B walk.no_failure in
            let made_here = constructor_made tables names k numbers c n inits r in
            let count : length made_here ≡ suc j = constructor_counts tables names k numbers c n inits r hA in
            let mf = member_failure tables.names names k.entries k.classes c d' built m in
            let hm : mf ≡ None = first mf (members_failure tables.names names k.entries k.classes c (d' + length (member_entry names c m)) (built || is_constructor tables.names m) rest) hd in
            let unbuilt : built ≡ false = not_is built (unless_true (not built) TwiceNamed (routine_at r) (first (unless (not built) TwiceNamed (routine_at r)) (routine_failure names r) hm)) in
            let s1 : Suffix marks n (Some c ∷ blank j ++ (member_marks c rest ++ tail)) = subst (λ (xs : List (Option ℕ)). Suffix marks n xs) (append_assoc (Some c ∷ blank j) (member_marks c rest) tail) s in
            let own_placed = placed_left P n made_here (members_made tables names k numbers c inits (suc n + j) d rest) walk.placed in
            let here = maker_sound n inits i params gives all arrow (member_marks c rest ++ tail) walk.formed.0 hA inits_so own_placed (maker_so unbuilt) s1 (omega (arith, near)) in
            let at : n + length (Some c ∷ blank j) ≡ suc n + j = ap (λ (y : ℕ). n + suc y) (blank_length j) ∙ (let z : n + suc j ≡ suc n + j = omega arith in z) in
            let s2 : Suffix marks (suc n + j) (member_marks c rest ++ tail) = suffix_at marks (n + length (Some c ∷ blank j)) (suc n + j) (member_marks c rest ++ tail) at (suffix_step marks n (Some c ∷ blank j) (member_marks c rest ++ tail) s1) in
            let hr = last mf (members_failure tables.names names k.entries k.classes c (d' + length (member_entry names c m)) (built || is_constructor tables.names m) rest) hd in
            each_more tables names k numbers P made n j made_here (members_made tables names k numbers c inits (suc n + j) d rest) count here
            (members_sound start (suc n + j) d (d' + 0) inits (built || true) rest tail (walk_constructor c n d inits r rest walk) hr (λ q. absurd (or_never built q)) inits_so s2 (omega (arith, near)))

        -- all functions of a class
        pub class_sound : (n d d' : ℕ) (members : List ClassMember) (tail : List (Option ℕ)) → Walk c (n + unwritten members) d (initials tables names k numbers c (n + unwritten members) d members) members
            → members_failure tables.names names k.entries k.classes c d' false members ≡ None → maker_number numbers c ≡ maker_from n n members → Placed P n (class_made tables names k numbers c n d members)
            → ((b : ℕ) → base_of k.classes c ≡ Some b → unwritten members ≡ 1 → maker_takes_of k.classes b ≡ maker_takes_of k.classes c)
            → Suffix marks n ((opened (unwritten members) c ++ member_marks c members) ++ tail) → n + (unwritten members + members_routines members) ≤ P.main → Each tables names k numbers P made n (class_made tables names k numbers c n d members)
        class_sound n d d' members tail walk hd maker_so placed passes s near =
            let inits = initials tables names k numbers c (n + unwritten members) d members in
            let unmade = unwritten_made k numbers (unwritten members) c inits in
            let later = members_made tables names k numbers c inits (n + unwritten members) d members in
            let inits_so : (S : Setting) → HasThis P S (t.Object c) → AllInits S inits = λ S this_so. inits_typed S c (n + unwritten members) d inits members this_so walk in
            let s1 : Suffix marks n (opened (unwritten members) c ++ (member_marks c members ++ tail)) = subst (λ (xs : List (Option ℕ)). Suffix marks n xs) (append_assoc (opened (unwritten members) c) (member_marks c members) tail) s in
            let s2 : Suffix marks (n + unwritten members) (member_marks c members ++ tail) =
            suffix_at marks (n + length (opened (unwritten members) c)) (n + unwritten members) (member_marks c members ++ tail) (ap (λ (y : ℕ). n + y) (opened_length c members)) (suffix_step marks n (opened (unwritten members) c) (member_marks c members ++ tail) s1) in
            let own_placed = placed_left P n unmade later placed in
            let start_so : maker_number numbers c ≡ maker_from n (n + unwritten members) members = maker_so ∙ start_same n members in
            each_at tables names k numbers P made n (unwritten members) unmade later (unwritten_counts tables names k numbers c inits members)
            (unwritten_sound n (unwritten members) members inits refl own_placed maker_so passes inits_so (omega (arith, near)))
            (members_sound n (n + unwritten members) d d' inits false members tail walk hd (λ q. start_so) inits_so s2 (omega (arith, near)))
