-- Elaboration of a whole text agrees with its first failure and with its typed program.
use Rattle.std.proofs.Common.{◌≡◌, ◌≤◌, ℕ, suc, ◌+◌, ◌||◌, refl, sym, ap, ◌∙◌, subst, Bool, true, false, Option, Some, None, List, [], ◌∷◌, ◌++◌, length, append-nil, arith}
use Rattle.std.proofs.lemmas.Option.{same_Some}
use Rattle.std.specs.Prelude.{◌↔◌, slice_get, drop, not, Result, Ok, Err}
use Rattle.sts_base.specs.declared.refused.Code.TheVariants.{NeedsType, TwiceNamed}
use Rattle.sts_base.specs.declared.tables.Tables.{Tables}
use Rattle.sts_syntax.specs.Annotations.{Annotation}
use Rattle.sts_syntax.specs.Types.{ValueType}
use Rattle.sts_syntax.specs.TypedTrees as e
use Rattle.sts_syntax.specs.TypedTrees.{TypedTree, TypedStatement, TypedStatements, TypedDeclaration, TypedRoutine, ClassEntry, TypedProgram}
use Rattle.sts_syntax.specs.Trees.{OptionalTree, Statement, Let, Declaration, Declare, Declarations, ended, next, Routine, Does}
use Rattle.sts_syntax.specs.Programs.{ClassMember, Field, Method, Constructor, TopLevel, Class, Function, Main, Program}
use Rattle.sts_scope.specs.declared.kinds.StaticType.{StaticType}
use Rattle.sts_scope.specs.declared.entries.Owner.TheVariants as o
use Rattle.sts_scope.specs.declared.known.Known.{Known}
use Rattle.sts_scope.specs.declared.known.This.TheVariants as this
use Rattle.sts_scope.specs.Kinds.{value_types}
use Rattle.sts_scope.specs.Entries.{Naming, classes_in, item_entries, parameter_kinds}
use Rattle.sts_scope.specs.Failures.{Failure, ◌then◌, unless}
use Rattle.sts_scope.specs.Handlers.{unwritten, item_routines, declared_handlers, routine_handlers, all_routines}
use Rattle.sts_scope.specs.Headings.{written_failure, parameters_failure, is_constructor, member_failure, members_failure, item_failure, headings_failure}
use Rattle.sts_scope.specs.Bases.{bases_failure, chains_failure}
use Rattle.sts_scope.specs.Globals.{names_failure}
use Rattle.sts_scope.specs.Lookup.{base_of, is_second, inherits_field}
use Rattle.sts_scope.specs.Numbers.{Numbering, numbering}
use Rattle.sts_scope.specs.Rules.{kind_at}
use Rattle.sts_scope.specs.Scopes.{all_names, library_classes, heading_refusal}
use Rattle.type_derive.specs.Typing.{◌>>=◌}
use Rattle.type_derive.specs.Derived.{Source, Stated, TypeTable, known, all_sources, AreDerived, declared_source, routine_source, member_sources, item_sources, sources_from, follows}
use Rattle.type_derive.specs.Passes.{outside_failure, globals_failure, main_failure, body_failure, constructor_failure, members_nodes, item_nodes, nodes_failure, all_overrides}
use Rattle.type_derive.specs.Making.{Made}
use Rattle.type_derive.specs.Functions.{site, function_made}
use Rattle.elaborated.specs.Elaborated.{Whole}
use Rattle.elaborated.proofs.Laws.{Tells, ok_tells, then_tells, last_tells, made_then, made_end, looked_is, parameters_even, statement_tells}
use Rattle.typed_laws.specs.Accepted.{main_routine, typed, text_failure, limits_failure, refusal}
use Rattle.typed_laws.specs.BuiltTexts.{TextsAreBuilt}
use Rattle.typed_laws.specs.Libraries.{IsLibrary, OnlyFunctions, library_failure}
use Rattle.typed_laws.specs.Programs as p
use Rattle.typed_laws.specs.Programs.{outer_site}
use Rattle.typed_laws.specs.inner.FilledTexts.{filled_program}
use Rattle.typed_laws.proofs.Laws.{item_sourced, bind_some, Suffix, suffix_step, suffix_one, suffix_at, suffix_head, no_classes, sources_joined, sources_length, solved, first, last}
use Rattle.typed_program.specs.ElaboratedTexts as x
use Rattle.typed_program.specs.ElaboratedTexts.{Members, no_members, set_first, whole_of, elab_text}
use Rattle.typed_program.specs.ElaborationLaws.{AgreesOnText, ElaborationAgreesOnTexts}
use Rattle.typed_program.proofs.ElaboratedParts.{AreSolved, first_tells, global_tells, function_says, constructor_says, kind_known, plain_says, method_says}
use Rattle.typed_program.proofs.Saying.{failure_of, Says, says_ok, says_as, told_says, says_then, says_last, says_needed, says_checked, no_more}

module _ (w : Whole) where
  globals_tell : (d : ℕ) (each : Declarations) (m n : ℕ)
      → Tells (x.elab_globals w d each m n) (globals_failure w.tables w.names w.known each) (λ y. p.globals_made w.tables w.names w.known w.numbers d each m n ≡ Some y)
  globals_tell d ended m n = ok_tells _ _ refl
  globals_tell d (next a rest) m n =
      then_tells _ _ m n _ _ _ _ (global_tells w d a m n) (λ y h.
      last_tells _ (λ ys. y.it ∷ ys) _ _ _ _ _ (globals_tell (suc d) rest _ _) (λ ys j.
      made_then _ _ _ _ h (made_end _ _ _ j)))

  main_tells : (d : ℕ) (a : Statement) (m n : ℕ)
      → Tells (x.elab_main w d a m n) (main_failure w.tables w.names w.known a) (λ y. p.main_made w.tables w.names w.known w.numbers d a m n ≡ Some y)
  main_tells d (Let at fixed each) m n = last_tells _ (λ ds. e.Let fixed ds) m n _ _ _ (globals_tell d each m n) (λ y h. made_end _ _ _ h)
  main_tells d a m n = statement_tells w (outer_site this.Nowhere) refl a m n

  module _ (sources : List Source) (follow : AreSolved w sources) where
    record MembersMade (c n d : ℕ) (members : List ClassMember) (y : Members) : Type 0 where
      pub sets : p.initials w.tables w.names w.known w.numbers c n d members ≡ Some y.sets
      pub functions : (sets : List TypedStatement) → p.members_made w.tables w.names w.known w.numbers c sets n d members ≡ Some (y.functions sets)

    field_set : (c d at i : ℕ) (shape : Option Annotation) (value : OptionalTree) (kind : StaticType) (r : Option TypedTree) → kind_at w.known d ≡ Some kind
        → p.set_field w.known c d (Declare at i shape value) r ≡ Some (set_first w.known c i kind r)
    field_set c d at i shape value kind None h = refl
    field_set c d at i shape value kind (Some r) h = looked_is (kind_at w.known d) _ kind _ h refl

    members_say : (c n d d' : ℕ) (built : Bool) (members : List ClassMember) (ss : List Source) → Suffix sources d (member_sources w.names c members ++ ss) → w.known.library ≤ d
        → members_failure w.tables.names w.names w.known.entries w.known.classes c d' built members ≡ None
        → Says (x.elab_members w c n d members) (members_nodes w.tables w.names w.known c d members) (MembersMade c n d members)
    members_say c n d d' built [] ss s near h = says_ok no_members _ (record { sets = refl; functions = λ sets. refl })
    members_say c n d d' built (Field (Declare at i shape value) ∷ rest) ss s near h =
        let a : Declaration = Declare at i shape value in
        let A = member_failure w.tables.names w.names w.known.entries w.known.classes c d' built (Field a) in
        let B = members_failure w.tables.names w.names w.known.entries w.known.classes c (d' + 1) (built || is_constructor w.tables.names (Field a)) rest in
        let src : Source = declared_source w.names (this.Object c) a in
        let later_sources = member_sources w.names c rest ++ ss in
        let told = first_tells w (this.Object c) at i shape value (λ kind r. set_first w.known c i kind r) 0 n in
        says_then (x.elab_field w c a 0 n) _ _ _ _ _ (told_says _ _ _ told) (λ y none m.
        says_last _ _ _ _ _ (members_say c (n + declared_handlers a) (suc d) (d' + 1) (built || is_constructor w.tables.names (Field a)) rest ss
        (suffix_one sources d src later_sources s) (omega (arith, near)) (last A B h)) (λ xs none' later.
        let kind_is = kind_known w sources follow (this.Object c) d at i shape value m.kind (suffix_head sources d src later_sources s) near m.bound_is in
        says_ok _ _ (record {
          sets = looked_is _ _ m.value _ m.value_is (looked_is _ _ (set_first w.known c i m.kind m.value.it) _
              (field_set c d at i shape value m.kind m.value.it kind_is) (looked_is _ _ xs.sets _ later.sets refl))
              ∙ ap (λ (z : Made (List TypedStatement)). Some (z.it ++ xs.sets)) (sym m.is);
          functions = λ sets. looked_is _ _ m.value _ m.value_is (looked_is _ _ (xs.functions sets) _ (later.functions sets) refl)
              ∙ ap (λ (rs : List TypedRoutine). Some (rs ++ xs.functions sets)) (sym (append-nil m.value.routines))
              ∙ ap (λ (z : Made (List TypedStatement)). Some (z.routines ++ xs.functions sets)) (sym m.is);
        })))
    members_say c n d d' built (Method i (Does at params gives all arrow) ∷ rest) ss s near h =
        let r : Routine = Does at params gives all arrow in
        let A = member_failure w.tables.names w.names w.known.entries w.known.classes c d' built (Method i r) in
        let B = members_failure w.tables.names w.names w.known.entries w.known.classes c (d' + 1) (built || false) rest in
        let u1 = unless (not (is_second w.known.entries d' (o.Class c) i)) TwiceNamed at in
        let u2 = unless (not (inherits_field w.known.entries w.known.classes c i)) TwiceNamed at in
        let pf = parameters_failure w.names params 0 params in
        let wf = written_failure w.names at gives in
        let heading = last pf wf (last u2 (pf then wf) (last u1 (u2 then pf then wf) (first A B h))) in
        let src : Source = routine_source w.names (this.Object c) r in
        let later_sources = member_sources w.names c rest ++ ss in
        says_then (x.elab_method w c n (kind_at w.known d) r) _ _ _ _ _ (method_says w sources follow c n d r (suffix_head sources d src later_sources s) near heading) (λ own none m.
        says_last _ _ _ _ _ (members_say c (suc n + routine_handlers r) (suc d) (d' + 1) (built || false) rest ss
        (suffix_one sources d src later_sources s) (omega (arith, near)) (last A B h)) (λ xs none' later.
        says_ok _ _ (record { sets = later.sets; functions = λ sets. looked_is _ _ own _ m (looked_is _ _ (xs.functions sets) _ (later.functions sets) refl) })))
    members_say c n d d' built (Constructor r ∷ rest) ss s near h =
        let A = member_failure w.tables.names w.names w.known.entries w.known.classes c d' built (Constructor r) in
        let B = members_failure w.tables.names w.names w.known.entries w.known.classes c (d' + 0) (built || true) rest in
        says_then (x.elab_constructor w c n r) _ _ _ _ _ (constructor_says w c n r) (λ own none m.
        says_last _ _ _ _ _ (members_say c (suc n + routine_handlers r) d (d' + 0) (built || true) rest ss s near (last A B h)) (λ xs none' later.
        says_ok _ _ (record { sets = later.sets; functions = λ sets. looked_is _ _ (own sets) _ (m sets) (looked_is _ _ (xs.functions sets) _ (later.functions sets) refl) })))

    class_says : (c n d d' : ℕ) (members : List ClassMember) (ss : List Source) → Suffix sources d (member_sources w.names c members ++ ss) → w.known.library ≤ d
        → members_failure w.tables.names w.names w.known.entries w.known.classes c d' false members ≡ None
        → Says (x.elab_class w c n d members) (members_nodes w.tables w.names w.known c d members) (λ rs. p.class_made w.tables w.names w.known w.numbers c n d members ≡ Some rs)
    class_says c n d d' members ss s near h =
        says_last (x.elab_members w c (n + unwritten members) d members) _ _ _ _ (members_say c (n + unwritten members) d d' false members ss s near h) (λ y none m.
        says_ok _ _ (looked_is _ _ y.sets _ m.sets (looked_is _ _ (y.functions y.sets) _ (m.functions y.sets) refl)))

    part_says : (c d m n : ℕ) (i : TopLevel) (ss : List Source) → Suffix sources d (item_sources w.names c i ++ ss) → w.known.library ≤ d
        → item_failure w.tables.names w.names w.known.entries w.known.classes c d i ≡ None
        → Says (x.elab_part w c d m n i) (item_nodes w.tables w.names w.known c d i) (λ y. p.part_made w.tables w.names w.known w.numbers c d m n i ≡ Some y)
    part_says c d m n (Class at i base base_at members) ss s near h =
        says_last (x.elab_class w c n (suc d) members) _ _ _ _
        (class_says c n (suc d) (d + 1) members ss (suffix_one sources d (Stated None) (member_sources w.names c members ++ ss) s) (omega (arith, near)) h) (λ all none m.
        says_ok _ _ (looked_is _ _ all _ m refl))
    part_says c d m n (Function i (Does at params gives all arrow)) ss s near h =
        let r : Routine = Does at params gives all arrow in
        let pf = parameters_failure w.names params 0 params in
        let src : Source = routine_source w.names this.Nowhere r in
        says_last (x.elab_plain w false n (kind_at w.known d) r) _ _ _ _
        (plain_says w sources follow n d r (suffix_head sources d src ss s) near (last pf (written_failure w.names at gives) h)) (λ own none m.
        says_ok _ _ (looked_is _ _ own _ m refl))
    part_says c d m n (Main a) ss s near h =
        says_last (x.elab_main w d a m n) _ _ _ _ (told_says _ _ _ (main_tells d a m n)) (λ y none k. says_ok _ _ (looked_is _ _ y _ k refl))

    parts_say : (c d m n : ℕ) (text : Program) → Suffix sources d (sources_from w.names c text) → w.known.library ≤ d
        → headings_failure w.tables.names w.names w.known.entries w.known.classes c d text ≡ None
        → Says (x.elab_parts w c d m n text) (nodes_failure w.tables w.names w.known c d text) (λ y. p.items_made w.tables w.names w.known w.numbers c d m n text ≡ Some y)
    parts_say c d m n [] s near h = says_ok _ _ refl
    parts_say c d m n (i ∷ rest) s near h =
        let es = item_entries w.names c i in
        let later = sources_from w.names (c + classes_in i) rest in
        let A = item_failure w.tables.names w.names w.known.entries w.known.classes c d i in
        let B = headings_failure w.tables.names w.names w.known.entries w.known.classes (c + classes_in i) (d + length es) rest in
        let s' : Suffix sources (d + length es) later = suffix_at sources (d + length (item_sources w.names c i)) (d + length es) later
        (ap (λ (j : ℕ). d + j) (item_sourced w.names c i)) (suffix_step sources d (item_sources w.names c i) later s) in
        says_then (x.elab_part w c d m n i) _ _ _ _ _ (part_says c d m n i later s near (first A B h)) (λ y none k.
        says_last _ _ _ _ _ (parts_say (c + classes_in i) (d + length es) (m + length y.locals) (n + item_routines i) rest s' (omega (arith, near)) (last A B h)) (λ z none' l.
        says_ok _ _ (looked_is _ _ y _ k (looked_is _ _ z _ l refl))))

  -- the library's functions, which are made
  library_says : (d n : ℕ) (library : Program) (rs : List TypedRoutine) → OnlyFunctions library → p.library_made w.tables w.names w.known w.numbers d n library ≡ Some rs
      → Says (x.elab_library w d n library) (library_failure w.tables w.names w.known d library) (λ ys. p.library_made w.tables w.names w.known w.numbers d n library ≡ Some ys)
  library_says d n [] rs functions made = says_ok _ _ refl
  library_says d n (Function i (Does at params gives all arrow) ∷ rest) rs functions made =
      let r : Routine = Does at params gives all arrow in
      let (own, own_is, more_is) = bind_some (function_made w.tables w.names w.known w.numbers true n (kind_at w.known d) r) _ rs made in
      let (u, kind_is, done) = bind_some (kind_at w.known d) _ own own_is in
      let (more, later_is, same) = bind_some (p.library_made w.tables w.names w.known w.numbers (suc d) (n + item_routines (Function i r)) rest) _ rs more_is in
      says_then (x.elab_plain w true n (kind_at w.known d) r) _ _ _ _ _
      (function_says w (value_types (parameter_kinds w.names params)) (site w.names this.Nowhere (kind_at w.known d) true 0 params) at all n
      (parameters_even w.names 0 params) (λ none. (u, kind_is))) (λ own' none k.
      says_last _ _ _ _ _ (library_says (suc d) (n + item_routines (Function i r)) rest more functions later_is) (λ more' none' l.
      says_ok _ _ (looked_is _ _ own' _ k (looked_is _ _ more' _ l refl))))
  library_says d n (Class at i base base_at members ∷ rest) rs functions made = absurd functions
  library_says d n (Main a ∷ rest) rs functions made = absurd functions

then_joined : (f g h : Option Failure) → ((f then g) then h) ≡ (f then (g then h))
then_joined None g h = refl
then_joined (Some f) g h = refl

both_none : (f g h : Option Failure) → (f then g) ≡ None → h ≡ None → (f then (g then h)) ≡ None
both_none None None h clear none = none
both_none None (Some g) h clear none = cc
both_none (Some f) g h clear none = cc

module _ (built : TextsAreBuilt) (tables : Tables) (library text : Program) (kinds : TypeTable) (derived : AreDerived tables library text kinds) (ok : IsLibrary tables library text kinds) where
  abbrev w : Whole
  w = whole_of tables library text kinds

  abbrev k : Known
  k = known library text kinds

  abbrev c0 : ℕ
  c0 = library_classes library text

  abbrev heads : Option Failure
  heads = heading_refusal tables.names library text

  abbrev overrides : Option Failure
  overrides = all_overrides k w.names c0 k.library text

  abbrev nodes : Option Failure
  nodes = nodes_failure tables w.names k c0 k.library text

  abbrev limits : Option Failure
  limits = typed tables library text kinds >>= λ P. limits_failure tables.texts P

  -- the headings of functions
  headings_none : heads ≡ None → headings_failure w.tables.names w.names k.entries k.classes c0 k.library text ≡ None
  headings_none h =
      let pass_names : Option Failure = names_failure tables.names k.entries k.library (drop k.library k.entries) in
      let pass_bases : Option Failure = bases_failure (drop c0 k.classes) in
      let pass_chains : Option Failure = chains_failure k.classes c0 (drop c0 k.classes) in
      let pass_headings : Option Failure = headings_failure w.tables.names w.names k.entries k.classes c0 k.library text in
      last pass_chains pass_headings (last pass_bases (pass_chains then pass_headings) (last pass_names (pass_bases then pass_chains then pass_headings) h))

  -- the declarations of the text come after those of the library
  abbrev text_sources : Suffix (all_sources library text) k.library (sources_from w.names c0 text)
  text_sources =
      let c0_is : c0 ≡ 0 = ap (λ (xs : List ℕ). length xs) (no_classes library ok.functions) in
      let same : sources_from w.names 0 text ≡ sources_from w.names c0 text = ap (λ (j : ℕ). sources_from w.names j text) (sym c0_is) in (
        sources_from w.names 0 library,
        sources_length w.names 0 library,
        sources_joined w.names 0 library text ok.functions ∙ ap (λ (es : List Source). sources_from w.names 0 library ++ es) same,
      )

  text_says : Says (elab_text tables library text kinds) (refusal tables library text kinds) (λ P. typed tables library text kinds ≡ Some P)
  text_says =
      says_as _ _ _ _ (then_joined heads overrides (nodes then limits) ∙ ap (λ (f : Option Failure). heads then f) (sym (then_joined overrides nodes limits))
      ∙ sym (then_joined heads (overrides then nodes) limits))
      (says_checked (heads then overrides) _ (nodes then limits) _ (λ clear.
      says_as _ _ _ _ (ap (λ (f : Option Failure). f then (nodes then limits)) ok.no_failure)
      (says_then (x.elab_library w 0 0 library) _ _ (nodes then limits) _ _ (library_says w 0 0 library ok.routines ok.functions ok.built) (λ front none front_is.
      says_then (x.elab_parts w c0 k.library 0 (all_routines library) text) _ _ limits _ _
      (parts_say w (all_sources library text) (solved tables library text kinds derived) c0 k.library 0 (all_routines library) text
      text_sources (omega arith) (headings_none (first heads overrides clear))) (λ made no_nodes made_is.
      let whole_is = built tables library text kinds derived ok (both_none heads overrides nodes clear no_nodes) in
      let (front', p1, whole1) = bind_some (p.library_made tables w.names k w.numbers 0 0 library) _ (filled_program tables library text kinds) whole_is in
      let (made', p2, whole2) = bind_some (p.items_made tables w.names k w.numbers c0 k.library 0 (all_routines library) text) _ (filled_program tables library text kinds) whole1 in
      let (classes, p3, whole3) = bind_some (p.class_entries k w.numbers 0 k.classes) _ (filled_program tables library text kinds) whole2 in
      let (globals, p4, whole4) = bind_some (p.global_types k 0 k.entries) _ (filled_program tables library text kinds) whole3 in
      let P : TypedProgram = record {
        classes = classes;
        functions = front ++ made.routines ++ main_routine made ∷ [];
        globals = globals;
        main = length front + length made.routines;
      } in
      let typed_is : typed tables library text kinds ≡ Some P = looked_is _ _ front _ front_is (looked_is _ _ made _ made_is (looked_is _ _ classes _ p3 (looked_is _ _ globals _ p4 refl))) in
      says_needed (p.class_entries k w.numbers 0 k.classes) classes NeedsType 0 _ limits _ p3
      (says_needed (p.global_types k 0 k.entries) globals NeedsType 0 _ limits _ p4
      (says_as _ _ _ _ (no_more (limits_failure tables.texts P) ∙ sym (looked_is (typed tables library text kinds) (λ Q. limits_failure tables.texts Q) P _ typed_is refl))
      (says_checked (limits_failure tables.texts P) _ None _ (λ fits. says_ok P _ typed_is)))))))))

failed_so : {A : Type 0} (r : Result A Failure) (f : Failure) → failure_of r ≡ Some f → r ≡ Err f
failed_so {A} (Err g) f h = ap (λ (z : Failure). let y : Result A Failure = Err z in y) (same_Some g f h)
failed_so {A} (Ok a) f h = cc

gave : {A : Type 0} (r : Result A Failure) → failure_of r ≡ None → (a : A) × (r ≡ Ok a)
gave {A} (Ok a) h = (a, refl)
gave {A} (Err f) h = cc

pub agrees : TextsAreBuilt → ElaborationAgreesOnTexts
agrees built tables library text kinds derived ok =
    let said = text_says built tables library text kinds derived ok in
    record {
      fails = λ f. (λ is. sym said.fails ∙ ap failure_of is, λ is. failed_so (elab_text tables library text kinds) f (said.fails ∙ is));
      gives = λ P. (
        λ is. (sym said.fails ∙ ap failure_of is, said.made P is),
        λ (none, typed_is).
            let (Q, is) = gave (elab_text tables library text kinds) (said.fails ∙ none) in
            is ∙ ap (λ (z : TypedProgram). let q : Result TypedProgram Failure = Ok z in q) (same_Some Q P (sym (said.made Q is) ∙ typed_is)),
      );
    }
