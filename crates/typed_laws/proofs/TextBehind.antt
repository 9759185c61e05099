-- A text behind a library of functions: where its declarations stand, and what is known of them where nothing fails.
use Rattle.std.proofs.Common.{◌≡◌, ℕ, zero, suc, ◌+◌, ◌-◌, ◌<◌, ◌≤◌, refl, sym, ap, ◌∙◌, subst, Bool, true, false, Option, Some, None, List, [], ◌∷◌, ◌++◌, length, drop, arith, append_assoc, length-append, leb-true, leb-false, ltb-true}
use Rattle.std.specs.Prelude.{slice_get, nat_le, nat_lt}
use Rattle.sts_base.specs.declared.tables.Tables.{Tables}
use Rattle.sts_syntax.specs.Trees.{Does}
use Rattle.sts_syntax.specs.Programs.{TopLevel, Class, Function, Main, Program}
use Rattle.sts_scope.specs.declared.kinds.StaticType.{StaticType}
use Rattle.sts_scope.specs.declared.entries.Owner.{Owner}
use Rattle.sts_scope.specs.declared.entries.Owner.TheVariants as o
use Rattle.sts_scope.specs.declared.entries.DeclarationKind.{DeclarationKind}
use Rattle.sts_scope.specs.declared.entries.DeclarationKind.TheVariants as sort
use Rattle.sts_scope.specs.declared.entries.Entry.{Entry}
use Rattle.sts_scope.specs.declared.known.Known.{Known}
use Rattle.sts_scope.specs.Bases.{bases_failure, chains_failure}
use Rattle.sts_scope.specs.Entries.{Naming, classes_in, class_names, item_entries, entries_from, heads_of}
use Rattle.sts_scope.specs.Failures.{Failure, ◌then◌}
use Rattle.sts_scope.specs.Globals.{names_failure}
use Rattle.sts_scope.specs.Headings.{headings_failure}
use Rattle.sts_scope.specs.Rules.{kind_at}
use Rattle.sts_scope.specs.Scopes.{all_names, library_classes, heading_refusal}
use Rattle.type_derive.specs.Derived.{known, all_sources, AreDerived, Source, item_sources, sources_from, follows, at}
use Rattle.typed_laws.specs.Accepted.{text_failure}
use Rattle.typed_laws.specs.Libraries.{OnlyFunctions}
use Rattle.type_derive.specs.Passes.{all_overrides, nodes_failure}
use Rattle.typed_laws.proofs.DeclaredTypes.{TypedAs, typed_text}
use Rattle.typed_laws.proofs.Facts.{EachIs, each_is_both, each_is_get, sane_text, AgreesAs, agree_text, bases_within, all_chains_end}
use Rattle.typed_laws.proofs.Items.{item_sourced}
use Rattle.typed_laws.proofs.Members.{SaneAs, AreSane, AreChained}
use Rattle.typed_laws.proofs.Names.{some_is}
use Rattle.typed_laws.proofs.OneNode.{test_false}
use Rattle.typed_laws.proofs.Searching.{get_within, get_there, get_left}
use Rattle.typed_laws.proofs.Suffixes.{Suffix, suffix_get}
use Rattle.typed_laws.proofs.Typed.{last, first}

pub entries_joined : (names : Naming) (c : ℕ) (library text : Program) → OnlyFunctions library → entries_from names c (library ++ text) ≡ entries_from names c library ++ entries_from names c text
entries_joined names c [] text h = refl
entries_joined names c (Function x r ∷ rest) text h =
    let i : TopLevel = Function x r in
    let z : c + 0 ≡ c = omega arith in
    ap (λ (es : List Entry). item_entries names c i ++ es) (entries_joined names (c + 0) rest text h)
    ∙ sym (append_assoc (item_entries names c i) (entries_from names (c + 0) rest) (entries_from names (c + 0) text)) ∙ ap (λ (j : ℕ). (item_entries names c i ++ entries_from names (c + 0) rest) ++ entries_from names j text) z
entries_joined names c (Class at x base base_at members ∷ rest) text h = absurd h
entries_joined names c (Main a ∷ rest) text h = absurd h

pub sources_joined : (names : Naming) (c : ℕ) (library text : Program) → OnlyFunctions library → sources_from names c (library ++ text) ≡ sources_from names c library ++ sources_from names c text
sources_joined names c [] text h = refl
sources_joined names c (Function x r ∷ rest) text h =
    let i : TopLevel = Function x r in
    let z : c + 0 ≡ c = omega arith in
    ap (λ (es : List Source). item_sources names c i ++ es) (sources_joined names (c + 0) rest text h)
    ∙ sym (append_assoc (item_sources names c i) (sources_from names (c + 0) rest) (sources_from names (c + 0) text)) ∙ ap (λ (j : ℕ). (item_sources names c i ++ sources_from names (c + 0) rest) ++ sources_from names j text) z
sources_joined names c (Class at x base base_at members ∷ rest) text h = absurd h
sources_joined names c (Main a ∷ rest) text h = absurd h

pub heads_joined : (names : Naming) (library text : Program) → OnlyFunctions library → heads_of names (library ++ text) ≡ heads_of names text
heads_joined names [] text h = refl
heads_joined names (Function x r ∷ rest) text h = heads_joined names rest text h
heads_joined names (Class at x base base_at members ∷ rest) text h = absurd h
heads_joined names (Main a ∷ rest) text h = absurd h

pub no_classes : (library : Program) → OnlyFunctions library → class_names library ≡ []
no_classes [] h = refl
no_classes (Function x r ∷ rest) h = no_classes rest h
no_classes (Class at x base base_at members ∷ rest) h = absurd h
no_classes (Main a ∷ rest) h = absurd h

pub sources_length : (names : Naming) (c : ℕ) (text : Program) → length (sources_from names c text) ≡ length (entries_from names c text)
sources_length names c [] = refl
sources_length names c (i ∷ rest) =
    length-append (item_sources names c i) (sources_from names (c + classes_in i) rest) ∙ ap (λ (j : ℕ). j + length (sources_from names (c + classes_in i) rest)) (item_sourced names c i)
    ∙ ap (λ (j : ℕ). length (item_entries names c i) + j) (sources_length names (c + classes_in i) rest) ∙ sym (length-append (item_entries names c i) (entries_from names (c + classes_in i) rest))

module _ (names : Naming) where
  library_each : (Q : DeclarationKind → Owner → ℕ → ℕ → Type 0) → ((x d : ℕ) → Q sort.Function o.Whole x d) → (c d : ℕ) (library : Program) → OnlyFunctions library → EachIs Q d (entries_from names c library)
  library_each Q q c d [] f = tt
  library_each Q q c d (Function x (Does j params gives all arrow) ∷ rest) f = (q x d, library_each Q q (c + 0) (suc d) rest f)
  library_each Q q c d (Class at x base base_at members ∷ rest) f = absurd f
  library_each Q q c d (Main a ∷ rest) f = absurd f

-- what the least table of types says of one declaration
module _ (tables : Tables) (library text : Program) (kinds : List (Option StaticType)) (derived : AreDerived tables library text kinds) where
  kind_is_at : (ks : List (Option StaticType)) (d : ℕ) → at ks d ≡ elim (slice_get ks d) [ None ↦ None | Some kind ↦ kind ]
  kind_is_at [] d = refl
  kind_is_at (x ∷ ks) zero = refl
  kind_is_at (x ∷ ks) (suc d) = kind_is_at ks d

  source_within : (d : ℕ) (source : Source) → slice_get (all_sources library text) d ≡ Some source → d < length kinds
  source_within d source h =
      let near : d < length (all_sources library text) = get_within (all_sources library text) d source h in
      omega (arith, near, sources_length (all_names library text) 0 (library ++ text), derived.each)

  solved_at : (d : ℕ) (source : Source) → slice_get (all_sources library text) d ≡ Some source
      → kind_at (known library text kinds) d ≡ follows (all_names library text) tables (known library text kinds) (nat_lt d (known library text kinds).library) source
  solved_at d source h =
      let k : Known = known library text kinds in
      let F : Option Source → Option StaticType = λ x. elim x [ None ↦ None | Some s ↦ follows (all_names library text) tables k (nat_lt d k.library) s ] in
      sym (kind_is_at kinds d) ∙ derived.least.solves d (source_within d source h) ∙ ap F h

  not_library : (i j : ℕ) → j ≤ i → nat_lt i j ≡ false
  not_library i j h = test_false (nat_lt i j) (λ q. let z : i < j = ltb-true i j q in absurd (omega arith))

  pub solved : (d : ℕ) (source : Source) → slice_get (all_sources library text) d ≡ Some source → (known library text kinds).library ≤ d
      → kind_at (known library text kinds) d ≡ follows (all_names library text) tables (known library text kinds) false source
  solved d source h near =
      let k : Known = known library text kinds in
      solved_at d source h ∙ ap (λ (b : Bool). follows (all_names library text) tables k b source) (not_library d k.library near)

-- where nothing fails
module _ (tables : Tables) (library text : Program) (kinds : List (Option StaticType)) (functions : OnlyFunctions library) (no_failure : text_failure tables library text kinds ≡ None) where
  abbrev names : Naming
  names = all_names library text

  abbrev k : Known
  k = known library text kinds

  abbrev c0 : ℕ
  c0 = library_classes library text

  pub c0_is : c0 ≡ 0
  c0_is = ap (λ (xs : List ℕ). length xs) (no_classes library functions)

  -- the passes
  abbrev pass_names : Option Failure
  pass_names = names_failure tables.names k.entries k.library (drop k.library k.entries)

  abbrev pass_bases : Option Failure
  pass_bases = bases_failure (drop c0 k.classes)

  abbrev pass_chains : Option Failure
  pass_chains = chains_failure k.classes c0 (drop c0 k.classes)

  abbrev pass_headings : Option Failure
  pass_headings = headings_failure tables.names names k.entries k.classes c0 k.library text

  abbrev pass_overrides : Option Failure
  pass_overrides = all_overrides k names c0 k.library text

  abbrev pass_nodes : Option Failure
  pass_nodes = nodes_failure tables names k c0 k.library text

  headings_none : heading_refusal tables.names library text ≡ None
  headings_none = first (heading_refusal tables.names library text) (pass_overrides then pass_nodes) no_failure

  types_none : (pass_overrides then pass_nodes) ≡ None
  types_none = last (heading_refusal tables.names library text) (pass_overrides then pass_nodes) no_failure

  pub chains_none : pass_chains ≡ None
  chains_none = first pass_chains pass_headings (last pass_bases (pass_chains then pass_headings) (last pass_names (pass_bases then pass_chains then pass_headings) headings_none))

  pub heads_none : pass_headings ≡ None
  heads_none = last pass_chains pass_headings (last pass_bases (pass_chains then pass_headings) (last pass_names (pass_bases then pass_chains then pass_headings) headings_none))

  pub overrides_none : pass_overrides ≡ None
  overrides_none = first pass_overrides pass_nodes types_none

  pub nodes_none : pass_nodes ≡ None
  nodes_none = last pass_overrides pass_nodes types_none

  -- the declarations of the text stand behind those of the library
  abbrev pub text_entries : Suffix k.entries k.library (entries_from names c0 text)
  text_entries =
      let same : entries_from names 0 text ≡ entries_from names c0 text = ap (λ (j : ℕ). entries_from names j text) (sym c0_is) in
      (entries_from names 0 library, refl, entries_joined names 0 library text functions ∙ ap (λ (es : List Entry). entries_from names 0 library ++ es) same)

  abbrev pub text_sources : Suffix (all_sources library text) k.library (sources_from names c0 text)
  text_sources =
      let same : sources_from names 0 text ≡ sources_from names c0 text = ap (λ (j : ℕ). sources_from names j text) (sym c0_is) in
      (sources_from names 0 library, sources_length names 0 library, sources_joined names 0 library text functions ∙ ap (λ (es : List Source). sources_from names 0 library ++ es) same)

  abbrev pub text_heads : Suffix k.classes c0 (heads_of names text)
  text_heads = ([], sym c0_is, heads_joined names library text functions)

  sane_all : EachIs (SaneAs k) 0 k.entries
  sane_all =
      let (before', at', is') = text_entries in
      subst (λ (es : List Entry). EachIs (SaneAs k) 0 es) (sym is')
      (each_is_both (SaneAs k) 0 (entries_from names 0 library) (entries_from names c0 text) (library_each names (SaneAs k) (λ x d. tt) 0 0 library functions)
      (subst (λ (j : ℕ). EachIs (SaneAs k) j (entries_from names c0 text)) (let z : k.library ≡ 0 + length (entries_from names 0 library) = omega arith in z) (sane_text names k tables.names c0 k.library text text_heads heads_none)))

  agree_all : EachIs (AgreesAs names k) 0 k.entries
  agree_all =
      let (before', at', is') = text_entries in
      subst (λ (es : List Entry). EachIs (AgreesAs names k) 0 es) (sym is')
      (each_is_both (AgreesAs names k) 0 (entries_from names 0 library) (entries_from names c0 text) (library_each names (AgreesAs names k) (λ x d. tt) 0 0 library functions)
      (subst (λ (j : ℕ). EachIs (AgreesAs names k) j (entries_from names c0 text)) (let z : k.library ≡ 0 + length (entries_from names 0 library) = omega arith in z) (agree_text names k c0 k.library text overrides_none)))

  at_zero : (Q : DeclarationKind → Owner → ℕ → ℕ → Type 0) (d : ℕ) (a : Entry) → EachIs Q 0 k.entries → slice_get k.entries d ≡ Some a → Q a.sort a.owner a.name d
  at_zero Q d a h q = subst (λ (j : ℕ). Q a.sort a.owner a.name j) (let z : 0 + d ≡ d = omega arith in z) (each_is_get Q 0 k.entries d a h q)

  pub sane : AreSane k
  sane d a h = at_zero (SaneAs k) d a sane_all h

  pub agreeing : (d : ℕ) (a : Entry) → slice_get k.entries d ≡ Some a → AgreesAs names k a.sort a.owner a.name d
  agreeing d a h = at_zero (AgreesAs names k) d a agree_all h

  pub chained : AreChained k
  chained = record {
    ends = λ c near. all_chains_end k.classes c (subst (λ (j : ℕ). chains_failure k.classes j (drop j k.classes) ≡ None) c0_is chains_none) near;
    bases = λ c b h. bases_within names (library ++ text) (λ x b' q. q) c b h;
  }

  -- the library's declarations are functions, so all others stand behind it
  front_sort : (d : ℕ) (a : Entry) → d < k.library → slice_get k.entries d ≡ Some a → a.sort ≡ sort.Function
  front_sort d a near h =
      let front : List Entry = entries_from names 0 library in
      let IsFunction : DeclarationKind → Owner → ℕ → ℕ → Type 0 = λ s w x j. s ≡ sort.Function in
      let (before, at', is) = text_entries in
      let (b, there) = get_there front d near in
      let same : b ≡ a = some_is b a (sym (ap (λ (es : List Entry). slice_get es d) is ∙ get_left front (entries_from names c0 text) d b there) ∙ h) in
      ap (λ (y : Entry). y.sort) (sym same) ∙ each_is_get IsFunction 0 front d b (library_each names IsFunction (λ x j. refl) 0 0 library functions) there

  pub behind_library : (d : ℕ) (a : Entry) → slice_get k.entries d ≡ Some a → (a.sort ≡ sort.Function → ⊥) → k.library ≤ d
  behind_library d a h other =
      let go : (b : Bool) → nat_le k.library d ≡ b → k.library ≤ d = λ b. elim b as (λ y. nat_le k.library d ≡ y → k.library ≤ d) [
        | true ↦ (λ q. leb-true k.library d q)
        | false ↦ (λ q. absurd (other (front_sort d a (leb-false k.library d q) h)))
      ] in
      go (nat_le k.library d) refl

  module _ (derived : AreDerived tables library text kinds) where
    typed_all : EachIs (TypedAs names k tables) k.library (entries_from names c0 text)
    typed_all = typed_text names k tables (all_sources library text) (solved tables library text kinds derived) c0 k.library text text_sources (omega arith) heads_none nodes_none

    -- a declaration of the text has a type
    pub typed_behind : (d : ℕ) (a : Entry) → k.library ≤ d → slice_get k.entries d ≡ Some a → TypedAs names k tables a.sort a.owner a.name d
    typed_behind d a near h =
        let es : List Entry = entries_from names c0 text in
        let i : ℕ = d - k.library in
        let z : k.library + i ≡ d = omega (arith, near) in
        let is : slice_get es i ≡ Some a = sym (suffix_get k.entries k.library i es text_entries) ∙ ap (λ (j : ℕ). slice_get k.entries j) z ∙ h in
        subst (λ (j : ℕ). TypedAs names k tables a.sort a.owner a.name j) z (each_is_get (TypedAs names k tables) k.library es i a typed_all is)

    pub typed_other : (d : ℕ) (a : Entry) → slice_get k.entries d ≡ Some a → (a.sort ≡ sort.Function → ⊥) → TypedAs names k tables a.sort a.owner a.name d
    typed_other d a h other = typed_behind d a (behind_library d a h other) h
