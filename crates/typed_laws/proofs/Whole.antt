-- The typed program of a text without a failure is well typed.
use Rattle.std.proofs.Common.{◌≡◌, ℕ, zero, suc, ◌+◌, ◌≤◌, ◌==◌, refl, sym, ap, ◌∙◌, subst, true, false, Option, Some, None, List, [], ◌∷◌, ◌++◌, length, arith, inr, append_assoc, length-append, eq-eqb}
use Rattle.std.specs.Prelude.{slice_get}
use Rattle.sts_base.specs.declared.tables.Tables.{Tables}
use Rattle.sts_syntax.specs.TypedTrees.{TypedStatements, TypedRoutine, TypedProgram}
use Rattle.sts_syntax.specs.TypeRules.{entry, HasRoutine}
use Rattle.sts_syntax.specs.WellTyped.{Setting}
use Rattle.sts_syntax.specs.WellTypedPrograms.{IsWellTyped, IsRoutine, IsBodyOf, base_of_maker, setting}
use Rattle.sts_syntax.specs.Trees.{Routine, Does}
use Rattle.sts_syntax.specs.Programs.{TopLevel, Class, Function, Main, Program}
use Rattle.sts_scope.specs.declared.kinds.StaticType.{StaticType}
use Rattle.sts_scope.specs.declared.entries.Owner.TheVariants as o
use Rattle.sts_scope.specs.declared.entries.DeclarationKind.TheVariants as sort
use Rattle.sts_scope.specs.declared.entries.Owner.{Owner}
use Rattle.sts_scope.specs.declared.entries.DeclarationKind.{DeclarationKind}
use Rattle.sts_scope.specs.declared.entries.Entry.{Entry}
use Rattle.sts_scope.specs.declared.known.Known.{Known}
use Rattle.sts_scope.specs.declared.known.This.TheVariants as this
use Rattle.sts_scope.specs.Entries.{Naming, classes_in, item_entries, entries_from, heads_of}
use Rattle.sts_scope.specs.Headings.{headings_failure}
use Rattle.sts_scope.specs.Scopes.{all_names, library_classes}
use Rattle.sts_scope.specs.Rules.{kind_at}
use Rattle.type_derive.specs.Returns.{parameter_locals, within}
use Rattle.type_derive.specs.Derived.{Source, sources_from, follows, known, all_sources, AreDerived}
use Rattle.type_derive.specs.Nodes.{statements_failure}
use Rattle.type_derive.specs.Passes.{item_nodes, nodes_failure}
use Rattle.typed_laws.specs.Formed.{IsFormedProgram}
use Rattle.sts_scope.specs.Handlers.{statements_handlers, item_routines, all_routines}
use Rattle.type_derive.specs.Making.{Made as Made'}
use Rattle.sts_scope.specs.Numbers.{Numbering, numbering, numbers_from, makers_from, item_numbers}
use Rattle.type_derive.specs.inner.Filled.{function_made}
use Rattle.typed_laws.specs.inner.FilledPrograms.{class_made, main_made, items_made, library_made}
use Rattle.typed_laws.specs.Accepted.{main_routine, text_failure}
use Rattle.typed_laws.specs.inner.FilledTexts.{filled_program}
use Rattle.typed_laws.proofs.Stands.{IsProper}
use Rattle.typed_laws.specs.Libraries.{OnlyFunctions, library_failure, IsLibrary}
use Rattle.typed_laws.proofs.BuiltPrograms.{library_so}
use Rattle.typed_laws.proofs.Typed.{last, first}
use Rattle.typed_laws.proofs.Makings.{Placed, placed_left, placed_right, kept_all}
use Rattle.typed_laws.proofs.Suffixes.{Suffix, suffix_all, suffix_step, suffix_at}
use Rattle.typed_laws.proofs.Searching.{entry_get, get_left}
use Rattle.typed_laws.proofs.Items.{item_numbered, function_counts, class_counts, main_counts}
use Rattle.typed_laws.proofs.Placing.{Aligned, aligned_both, text_aligned, placed_at}
use Rattle.typed_laws.proofs.Makers.{marks_from, item_marks, item_length, AllMarked, all_marked, AllMake, text_makes, makers_heads}
use Rattle.typed_laws.proofs.Classes.{Made, classes_sound}
use Rattle.typed_laws.proofs.Routines.{Each, each_at, each_both, not_maker, no_maker, body_sound}
use Rattle.typed_laws.proofs.Facts.{AgreesAs, takes_proper, makers_proper}
use Rattle.typed_laws.proofs.DeclaredTypes.{TypedAs}
use Rattle.typed_laws.proofs.TextBehind as of_text
use Rattle.typed_laws.proofs.Parts.{TextAt, text_sound}

-- a library of functions before a text
marks_joined : (c : ℕ) (library text : Program) → OnlyFunctions library → marks_from c (library ++ text) ≡ marks_from c library ++ marks_from c text
marks_joined c [] text h = refl
marks_joined c (Function x r ∷ rest) text h =
    let i : TopLevel = Function x r in
    let z : c + 0 ≡ c = omega arith in
    ap (λ (es : List (Option ℕ)). item_marks c i ++ es) (marks_joined (c + 0) rest text h)
    ∙ sym (append_assoc (item_marks c i) (marks_from (c + 0) rest) (marks_from (c + 0) text)) ∙ ap (λ (j : ℕ). (item_marks c i ++ marks_from (c + 0) rest) ++ marks_from j text) z
marks_joined c (Class at x base base_at members ∷ rest) text h = absurd h
marks_joined c (Main a ∷ rest) text h = absurd h

pub numbers_joined : (n : ℕ) (library text : Program) → numbers_from n (library ++ text) ≡ numbers_from n library ++ numbers_from (n + all_routines library) text
numbers_joined n [] text = let z : n ≡ n + 0 = omega arith in ap (λ (j : ℕ). numbers_from j text) z
numbers_joined n (i ∷ rest) text =
    let z : n + item_routines i + all_routines rest ≡ n + (item_routines i + all_routines rest) = omega arith in
    ap (λ (js : List ℕ). item_numbers n i ++ js) (numbers_joined (n + item_routines i) rest text) ∙ sym (append_assoc (item_numbers n i) (numbers_from (n + item_routines i) rest) (numbers_from (n + item_routines i + all_routines rest) text))
    ∙ ap (λ (j : ℕ). (item_numbers n i ++ numbers_from (n + item_routines i) rest) ++ numbers_from j text) z

makers_joined : (n : ℕ) (library text : Program) → OnlyFunctions library → makers_from n (library ++ text) ≡ makers_from (n + all_routines library) text
makers_joined n [] text h = let z : n ≡ n + 0 = omega arith in ap (λ (j : ℕ). makers_from j text) z
makers_joined n (Function x r ∷ rest) text h =
    let i : TopLevel = Function x r in
    let z : n + item_routines i + all_routines rest ≡ n + (item_routines i + all_routines rest) = omega arith in
    makers_joined (n + item_routines i) rest text h ∙ ap (λ (j : ℕ). makers_from j text) z
makers_joined n (Class at x base base_at members ∷ rest) text h = absurd h
makers_joined n (Main a ∷ rest) text h = absurd h

marks_length : (c : ℕ) (text : Program) → length (marks_from c text) ≡ all_routines text
marks_length c [] = refl
marks_length c (i ∷ rest) =
    length-append (item_marks c i) (marks_from (c + classes_in i) rest) ∙ ap (λ (j : ℕ). j + length (marks_from (c + classes_in i) rest)) (item_length c i) ∙ ap (λ (j : ℕ). item_routines i + j) (marks_length (c + classes_in i) rest)

pub numbers_length : (names : Naming) (c n : ℕ) (text : Program) → length (numbers_from n text) ≡ length (entries_from names c text)
numbers_length names c n [] = refl
numbers_length names c n (i ∷ rest) =
    length-append (item_numbers n i) (numbers_from (n + item_routines i) rest) ∙ ap (λ (j : ℕ). j + length (numbers_from (n + item_routines i) rest)) (item_numbered names c n i)
    ∙ ap (λ (j : ℕ). length (item_entries names c i) + j) (numbers_length names (c + classes_in i) (n + item_routines i) rest) ∙ sym (length-append (item_entries names c i) (entries_from names (c + classes_in i) rest))

pub routines_joined : (library text : Program) → all_routines (library ++ text) ≡ all_routines library + all_routines text
routines_joined [] text = let z : all_routines text ≡ 0 + all_routines text = omega arith in z
routines_joined (i ∷ rest) text = ap (λ (j : ℕ). item_routines i + j) (routines_joined rest text) ∙ (let z : item_routines i + (all_routines rest + all_routines text) ≡ item_routines i + all_routines rest + all_routines text = omega arith in z)

get_past : {A : Type 0} (xs : List A) (i : ℕ) → length xs ≤ i → slice_get xs i ≡ None
get_past {A} [] i h = refl
get_past {A} (x ∷ xs) zero h = absurd (omega arith)
get_past {A} (x ∷ xs) (suc i) h = get_past xs i (omega arith)

entry_left : {A : Type 0} (xs ys : List A) (i : ℕ) (a : A) → entry xs i ≡ Some a → entry (xs ++ ys) i ≡ Some a
entry_left {A} xs ys i a h = entry_get (xs ++ ys) i ∙ get_left xs ys i a (sym (entry_get xs i) ∙ h)

entry_behind : {A : Type 0} (xs ys : List A) (i : ℕ) → entry (xs ++ ys) (length xs + i) ≡ entry ys i
entry_behind {A} [] ys i = ap (λ (j : ℕ). entry ys j) (let z : 0 + i ≡ i = omega arith in z)
entry_behind {A} (x ∷ xs) ys i = ap (λ (j : ℕ). entry (x ∷ xs ++ ys) j) (let z : suc (length xs) + i ≡ suc (length xs + i) = omega arith in z) ∙ entry_behind xs ys i

module _ (P : TypedProgram) where
  placed_from : (before rs : List TypedRoutine) → P.functions ≡ before ++ rs → Placed P (length before) rs
  placed_from before [] h = tt
  placed_from before (r ∷ rs) h =
      let here : HasRoutine P (length before) r =
      ap (λ (xs : List TypedRoutine). entry xs (length before)) h ∙ ap (λ (j : ℕ). entry (before ++ r ∷ rs) j) (let z : length before ≡ length before + 0 = omega arith in z) ∙ entry_behind before (r ∷ rs) 0 in
      let long : length (before ++ r ∷ []) ≡ suc (length before) = length-append before (r ∷ []) ∙ (let z : length before + 1 ≡ suc (length before) = omega arith in z) in
      (here, subst (λ (j : ℕ). Placed P j rs) long (placed_from (before ++ r ∷ []) rs (h ∙ sym (append_assoc before (r ∷ []) rs))))

module _ (tables : Tables) (names : Naming) (k : Known) (numbers : Numbering) where
  -- as many functions as the trees have
  text_counts : (c d m n : ℕ) (text : Program) → nodes_failure tables names k c d text ≡ None → length (items_made tables names k numbers c d m n text).routines ≡ all_routines text
  text_counts c d m n [] h = refl
  text_counts c d m n (Class at x base base_at members ∷ rest) h =
      let i : TopLevel = Class at x base base_at members in
      let A = item_nodes tables names k c d i in
      let B = nodes_failure tables names k (c + classes_in i) (d + length (item_entries names c i)) rest in
      let here = class_made tables names k numbers c n (suc d) members in
      let later : ℕ → List TypedRoutine = λ c'. (items_made tables names k numbers c' (d + length (item_entries names c i)) m (n + item_routines i) rest).routines in
      let step : suc c ≡ c + 1 = omega arith in
      length-append here (later (suc c)) ∙ ap (λ (j : ℕ). j + length (later (suc c))) (class_counts tables names k numbers c n (suc d) members (first A B h))
      ∙ ap (λ (c' : ℕ). item_routines i + length (later c')) step ∙ ap (λ (j : ℕ). item_routines i + j) (text_counts (c + 1) (d + length (item_entries names c i)) m (n + item_routines i) rest (last A B h))
  text_counts c d m n (Function x (Does j params gives all arrow) ∷ rest) h =
      let r : Routine = Does j params gives all arrow in
      let i : TopLevel = Function x r in
      let A = item_nodes tables names k c d i in
      let B = nodes_failure tables names k (c + classes_in i) (d + length (item_entries names c i)) rest in
      let here = function_made tables names k numbers false n (kind_at k d) r in
      let later : ℕ → ℕ → List TypedRoutine = λ c' d'. (items_made tables names k numbers c' d' m (n + item_routines i) rest).routines in
      let c_step : c ≡ c + 0 = omega arith in
      let d_step : suc d ≡ d + 1 = omega arith in
      length-append here (later c (suc d)) ∙ ap (λ (j : ℕ). j + length (later c (suc d))) (function_counts tables names k numbers false n (kind_at k d) j params gives all arrow (first A B h))
      ∙ ap (λ (c' : ℕ). item_routines i + length (later c' (suc d))) c_step ∙ ap (λ (d' : ℕ). item_routines i + length (later (c + 0) d')) d_step ∙ ap (λ (j : ℕ). item_routines i + j) (text_counts (c + 0) (d + 1) m (n + item_routines i) rest (last A B h))
  text_counts c d m n (Main a ∷ rest) h =
      let i : TopLevel = Main a in
      let A = item_nodes tables names k c d i in
      let B = nodes_failure tables names k (c + classes_in i) (d + length (item_entries names c i)) rest in
      let here = main_made tables names k numbers d a m n in
      let later : ℕ → List TypedRoutine = λ c'. (items_made tables names k numbers c' (d + length (item_entries names c i)) (m + length here.locals) (n + item_routines i) rest).routines in
      let c_step : c ≡ c + 0 = omega arith in
      length-append here.routines (later c) ∙ ap (λ (j : ℕ). j + length (later c)) (main_counts tables names k numbers d a (first A B h) m n)
      ∙ ap (λ (c' : ℕ). item_routines i + length (later c')) c_step ∙ ap (λ (j : ℕ). item_routines i + j) (text_counts (c + 0) (d + length (item_entries names c i)) (m + length here.locals) (n + item_routines i) rest (last A B h))

  library_counts : (d n : ℕ) (library : Program) → OnlyFunctions library → library_failure tables names k d library ≡ None → length (library_made tables names k numbers d n library) ≡ all_routines library
  library_counts d n [] f h = refl
  library_counts d n (Function x (Does j params gives all arrow) ∷ rest) f h =
      let r : Routine = Does j params gives all arrow in
      let A = statements_failure tables names k (within (parameter_locals names params) this.Nowhere (kind_at k d) true) all in
      let B = library_failure tables names k (suc d) rest in
      let here = function_made tables names k numbers true n (kind_at k d) r in
      let later = library_made tables names k numbers (suc d) (n + item_routines (Function x r)) rest in
      length-append here later ∙ ap (λ (j : ℕ). j + length later) (function_counts tables names k numbers true n (kind_at k d) j params gives all arrow (first A B h))
      ∙ ap (λ (j : ℕ). item_routines (Function x r) + j) (library_counts (suc d) (n + item_routines (Function x r)) rest f (last A B h))
  library_counts d n (Class at x base base_at members ∷ rest) f h = absurd f
  library_counts d n (Main a ∷ rest) f h = absurd f

  module _ (P : TypedProgram) where
    library_aligned : (c d n : ℕ) (library : Program) → OnlyFunctions library → library_failure tables names k d library ≡ None → Placed P n (library_made tables names k numbers d n library)
        → Aligned tables names k numbers P d (entries_from names c library) (numbers_from n library)
    library_aligned c d n [] f h placed = tt
    library_aligned c d n (Function x (Does j params gives all arrow) ∷ rest) f h placed =
        let r : Routine = Does j params gives all arrow in
        let i : TopLevel = Function x r in
        let A = statements_failure tables names k (within (parameter_locals names params) this.Nowhere (kind_at k d) true) all in
        let B = library_failure tables names k (suc d) rest in
        let here = function_made tables names k numbers true n (kind_at k d) r in
        let later = library_made tables names k numbers (suc d) (n + item_routines i) rest in
        let count = function_counts tables names k numbers true n (kind_at k d) j params gives all arrow (first A B h) in
        let own = placed_left P n here later placed in
        let d_step : suc d ≡ d + 1 = omega arith in
        ((_, own.0, refl, refl), library_aligned (c + 0) (suc d) (n + item_routines i) rest f (last A B h) (placed_at tables names k numbers P n (item_routines i) here later count placed))
    library_aligned c d n (Class at x base base_at members ∷ rest) f h placed = absurd f
    library_aligned c d n (Main a ∷ rest) f h placed = absurd f

    library_sound : (made : Made tables names k numbers P) (marks : List (Option ℕ)) (marked : AllMarked marks 0 numbers.makers) (c d n : ℕ) (library : Program) (tail : List (Option ℕ)) → OnlyFunctions library → IsFormedProgram library → library_failure tables names k d library ≡ None
        → Placed P n (library_made tables names k numbers d n library) → Suffix marks n (marks_from c library ++ tail) → n + all_routines library ≤ P.main → Each tables names k numbers P made n (library_made tables names k numbers d n library)
    library_sound made marks marked c d n [] tail f formed h placed s room = tt
    library_sound made marks marked c d n (Function x (Does j params gives all arrow) ∷ rest) tail f formed h placed s room =
        let r : Routine = Does j params gives all arrow in
        let i : TopLevel = Function x r in
        let A = statements_failure tables names k (within (parameter_locals names params) this.Nowhere (kind_at k d) true) all in
        let B = library_failure tables names k (suc d) rest in
        let here = function_made tables names k numbers true n (kind_at k d) r in
        let later = library_made tables names k numbers (suc d) (n + item_routines i) rest in
        let count = function_counts tables names k numbers true n (kind_at k d) j params gives all arrow (first A B h) in
        let room_so : n + (suc (statements_handlers all) + all_routines rest) ≤ P.main = room in
        let s1 : Suffix marks n (item_marks c i ++ (marks_from (c + 0) rest ++ tail)) = subst (λ (xs : List (Option ℕ)). Suffix marks n xs) (append_assoc (item_marks c i) (marks_from (c + 0) rest) tail) s in
        let s2 : Suffix marks (n + item_routines i) (marks_from (c + 0) rest ++ tail) =
        suffix_at marks (n + length (item_marks c i)) (n + item_routines i) (marks_from (c + 0) rest ++ tail) (ap (λ (y : ℕ). n + y) (item_length c i)) (suffix_step marks n (item_marks c i) (marks_from (c + 0) rest ++ tail) s1) in
        each_at tables names k numbers P made n (item_routines i) here later count
        (body_sound tables names k numbers P made marks marked this.Nowhere (kind_at k d) true [] params all n (marks_from (c + 0) rest ++ tail) formed.0 (first A B h) (λ u q. made.kinds_proper d u q) (placed_left P n here later placed) (λ c' q. cc) s1 (omega (arith, room_so)))
        (library_sound made marks marked (c + 0) (suc d) (n + item_routines i) rest tail f formed.1 (last A B h) (placed_at tables names k numbers P n (item_routines i) here later count placed) s2 (omega (arith, room_so)))
    library_sound made marks marked c d n (Class at x base base_at members ∷ rest) tail f formed h placed s room = absurd f
    library_sound made marks marked c d n (Main a ∷ rest) tail f formed h placed s room = absurd f

-- what the least table of types says of one declaration
module _ (tables : Tables) (library text : Program) (kinds : List (Option StaticType)) (derived : AreDerived tables library text kinds) where
  module _ (ok : IsLibrary tables library text kinds) (formed : IsFormedProgram text) (no_failure : text_failure tables library text kinds ≡ None)
      (proper : (d : ℕ) (u : StaticType) → kind_at (known library text kinds) d ≡ Some u → IsProper u) where
    abbrev names : Naming
    names = all_names library text

    abbrev k : Known
    k = known library text kinds

    abbrev numbers : Numbering
    numbers = numbering (library ++ text)

    abbrev P : TypedProgram
    P = filled_program tables library text kinds

    abbrev c0 : ℕ
    c0 = library_classes library text

    abbrev n0 : ℕ
    n0 = all_routines library

    abbrev front : List TypedRoutine
    front = library_made tables names k numbers 0 0 library

    abbrev back : Made' TypedStatements
    back = items_made tables names k numbers c0 k.library 0 n0 text

    abbrev own_main : TypedRoutine
    own_main = main_routine back

    -- the text behind the library
    c0_is : c0 ≡ 0
    c0_is = of_text.c0_is tables library text kinds ok.functions no_failure

    heads_none : headings_failure tables.names names k.entries k.classes c0 k.library text ≡ None
    heads_none = of_text.heads_none tables library text kinds ok.functions no_failure

    nodes_none : nodes_failure tables names k c0 k.library text ≡ None
    nodes_none = of_text.nodes_none tables library text kinds ok.functions no_failure

    abbrev text_entries : Suffix k.entries k.library (entries_from names c0 text)
    text_entries = of_text.text_entries tables library text kinds ok.functions no_failure

    abbrev text_sources : Suffix (all_sources library text) k.library (sources_from names c0 text)
    text_sources = of_text.text_sources tables library text kinds ok.functions no_failure

    abbrev text_heads : Suffix k.classes c0 (heads_of names text)
    text_heads = of_text.text_heads tables library text kinds ok.functions no_failure

    solved : (d : ℕ) (source : Source) → slice_get (all_sources library text) d ≡ Some source → k.library ≤ d → kind_at k d ≡ follows names tables k false source
    solved = of_text.solved tables library text kinds derived

    abbrev text_numbers : Suffix numbers.routines k.library (numbers_from n0 text)
    text_numbers =
        let z : 0 + n0 ≡ n0 = omega arith in
        (numbers_from 0 library, numbers_length names 0 0 library, numbers_joined 0 library text ∙ ap (λ (j : ℕ). numbers_from 0 library ++ numbers_from j text) z)

    makers_are : numbers.makers ≡ makers_from n0 text
    makers_are = makers_joined 0 library text ok.functions ∙ ap (λ (j : ℕ). makers_from j text) (let z : 0 + n0 ≡ n0 = omega arith in z)

    abbrev text_makers : Suffix numbers.makers c0 (makers_from n0 text)
    text_makers = ([], sym c0_is, makers_are)

    abbrev marks : List (Option ℕ)
    marks = marks_from 0 (library ++ text)

    abbrev text_marks : Suffix marks n0 (marks_from c0 text)
    text_marks =
        let same : marks_from 0 text ≡ marks_from c0 text = ap (λ (j : ℕ). marks_from j text) (sym c0_is) in
        (marks_from 0 library, marks_length 0 library, marks_joined 0 library text ok.functions ∙ ap (λ (es : List (Option ℕ)). marks_from 0 library ++ es) same)

    abbrev library_marks : Suffix marks 0 (marks_from 0 library ++ marks_from 0 text)
    library_marks = ([], refl, marks_joined 0 library text ok.functions)

    marked : AllMarked marks 0 numbers.makers
    marked = all_marked marks names 0 0 (library ++ text) (suffix_all marks)

    -- the functions
    front_many : length front ≡ n0
    front_many = library_counts tables names k numbers 0 0 library ok.functions ok.no_failure

    back_many : length back.routines ≡ all_routines text
    back_many = text_counts tables names k numbers c0 k.library 0 n0 text nodes_none

    pub main_is : P.main ≡ n0 + all_routines text
    main_is = ap (λ (j : ℕ). j + length back.routines) front_many ∙ ap (λ (j : ℕ). n0 + j) back_many

    all_placed : Placed P 0 (front ++ back.routines ++ own_main ∷ [])
    all_placed = placed_from P [] P.functions refl

    pub front_placed : Placed P 0 front
    front_placed = placed_left P 0 front back.routines (placed_left P 0 (front ++ back.routines) (own_main ∷ []) all_placed)

    pub back_placed : Placed P n0 back.routines
    back_placed =
        let z : 0 + length front ≡ n0 = (let y : 0 + length front ≡ length front = omega arith in y ∙ front_many) in
        subst (λ (j : ℕ). Placed P j back.routines) z (placed_right P 0 front back.routines (placed_left P 0 (front ++ back.routines) (own_main ∷ []) all_placed))

    pub main_there : HasRoutine P P.main own_main
    main_there =
        let z : 0 + length (front ++ back.routines) ≡ P.main = omega (arith, length-append front back.routines) in
        let placed_main = placed_right P 0 (front ++ back.routines) (own_main ∷ []) all_placed in
        subst (λ (j : ℕ). HasRoutine P j own_main) z placed_main.0

    aligned_all : Aligned tables names k numbers P 0 k.entries numbers.routines
    aligned_all =
        let (before', at', is') = text_entries in
        let (before2, at2, is2) = text_numbers in
        subst (λ (es : List Entry). Aligned tables names k numbers P 0 es numbers.routines) (sym is') (subst (λ (js : List ℕ). Aligned tables names k numbers P 0 (entries_from names 0 library ++ entries_from names c0 text) js) (sym is2)
        (aligned_both tables names k numbers P 0 (entries_from names 0 library) (entries_from names c0 text) (numbers_from 0 library) (numbers_from n0 text)
        (library_aligned tables names k numbers P 0 0 0 library ok.functions ok.no_failure front_placed)
        (subst (λ (j : ℕ). Aligned tables names k numbers P j (entries_from names c0 text) (numbers_from n0 text)) (let z : k.library ≡ 0 + length (entries_from names 0 library) = omega arith in z)
        (text_aligned tables names k numbers P c0 k.library 0 n0 text nodes_none back_placed))))

    makes_all : AllMake tables names k numbers P 0 numbers.makers
    makes_all = subst (λ (js : List ℕ). AllMake tables names k numbers P 0 js) (sym makers_are)
        (subst (λ (j : ℕ). AllMake tables names k numbers P j (makers_from n0 text)) c0_is (text_makes tables names k numbers P c0 k.library 0 n0 text text_heads nodes_none back_placed))

    pub made_all : Made tables names k numbers P
    made_all = record {
      sane = of_text.sane tables library text kinds ok.functions no_failure;
      chained = of_text.chained tables library text kinds ok.functions no_failure;
      classes_are = refl;
      globals_are = refl;
      aligned = aligned_all;
      makes = makes_all;
      makers_many = makers_heads names 0 (library ++ text);
      agreeing = λ d c x a h s w q.
          let here = of_text.agreeing tables library text kinds ok.functions no_failure d a h in
          let h1 = subst (λ (y : ℕ). AgreesAs names k a.sort a.owner y d) q here in
          let h2 = subst (λ (y : Owner). AgreesAs names k a.sort y x d) w h1 in
          subst (λ (y : DeclarationKind). AgreesAs names k y (o.Class c) x d) s h2;
      results = λ d a h s.
          let other : a.sort ≡ sort.Function → ⊥ = λ f. let z : sort.Function ≡ sort.Method = sym f ∙ s in cc in
          subst (λ (y : DeclarationKind). TypedAs names k tables y a.owner a.name d) s (of_text.typed_other tables library text kinds ok.functions no_failure derived d a h other);
      rows = λ call f q.
          let (r, has, params, gives) = ok.rows call f q in
          let same : ok.routines ≡ front = library_so tables names k numbers 0 0 library ok.routines ok.functions ok.no_failure ok.built in
          let has' : entry front f ≡ Some r = sym (ap (λ (xs : List TypedRoutine). entry xs f) same) ∙ has in
          (r, entry_left (front ++ back.routines) (own_main ∷ []) f r (entry_left front back.routines f r has'), params, gives);
      kinds_proper = proper;
      takes_proper = λ d. takes_proper names 0 d (library ++ text);
      makers_proper = λ c. makers_proper names (library ++ text) c;
    }

    each_get : (n f : ℕ) (rs : List TypedRoutine) (r : TypedRoutine) → Each tables names k numbers P made_all n rs → entry rs f ≡ Some r → IsRoutine P (n + f) r
    each_get n f [] r h q = cc
    each_get n zero (x ∷ rs) r h q =
        let z : n ≡ n + zero = omega arith in
        subst (λ (j : ℕ). IsRoutine P j r) z (subst (λ (y : TypedRoutine). IsRoutine P n y) (let y : x ≡ r = cc in y) h.0)
    each_get n (suc f) (x ∷ rs) r h q = subst (λ (j : ℕ). IsRoutine P j r) (let z : suc n + f ≡ n + suc f = omega arith in z) (each_get (suc n) f rs r h.1 q)

    text_at : TextAt tables names k numbers P made_all (all_sources library text) solved marks marked c0 k.library n0 text
    text_at = record {
      entries_are = text_entries;
      sources_are = text_sources;
      routines_are = text_numbers;
      heads_are = text_heads;
      makers_are = text_makers;
      marks_are = text_marks;
      behind = omega arith;
      headings = heads_none;
      nodes = nodes_none;
      formed = formed;
      room = omega (arith, main_is);
    }

    main_true : (P.main == P.main) ≡ true
    main_true = eq-eqb P.main P.main refl

    main_base : base_of_maker P P.classes P.main ≡ None
    main_base =
        let past : length marks ≤ P.main = omega (arith, marks_length 0 (library ++ text), routines_joined library text, main_is) in
        (not_maker tables names k numbers P made_all P.main (no_maker tables names k numbers P made_all marks marked P.main (inr (get_past marks P.main past)))).1

    pub well_typed : IsWellTyped P
    well_typed =
        let S : Setting = setting P P.main own_main in
        let (each_back, sound_so, declared_so) = text_sound tables names k numbers P made_all (all_sources library text) solved marks marked S main_true c0 k.library 0 n0 text text_at back_placed (kept_all P S back.locals refl) in
        let each_front : Each tables names k numbers P made_all 0 front =
        library_sound tables names k numbers P made_all marks marked 0 0 0 library (marks_from 0 text) ok.functions ok.formed ok.no_failure front_placed library_marks (omega (arith, main_is)) in
        let main_routine_so : IsRoutine P P.main own_main = record { body = subst (λ (x : Option ℕ). IsBodyOf P x S back.it) (sym main_base) sound_so; locals = declared_so } in
        let z : 0 + length (front ++ back.routines) ≡ P.main = omega (arith, length-append front back.routines) in
        let each_main : Each tables names k numbers P made_all (0 + length (front ++ back.routines)) (own_main ∷ []) = (subst (λ (j : ℕ). IsRoutine P j own_main) (sym z) main_routine_so, tt) in
        let each_later : Each tables names k numbers P made_all (0 + n0) back.routines = subst (λ (j : ℕ). Each tables names k numbers P made_all j back.routines) (let y : n0 ≡ 0 + n0 = omega arith in y) each_back in
        let each_text : Each tables names k numbers P made_all 0 (front ++ back.routines) = each_at tables names k numbers P made_all 0 n0 front back.routines front_many each_front each_later in
        let each_all : Each tables names k numbers P made_all 0 (front ++ back.routines ++ own_main ∷ []) = each_both tables names k numbers P made_all 0 (front ++ back.routines) (own_main ∷ []) each_text each_main in
        record {
          classes = λ c cl h. classes_sound tables names k numbers P made_all c cl h;
          functions = λ f r h. subst (λ (j : ℕ). IsRoutine P j r) (let y : 0 + f ≡ f = omega arith in y) (each_get 0 f (front ++ back.routines ++ own_main ∷ []) r each_all h);
          main = (own_main, main_there, refl, refl);
        }
