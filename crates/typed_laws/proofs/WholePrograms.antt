-- What the making of a typed program looks for among the declarations is there.
use Rattle.std.proofs.Common.{◌≡◌, ℕ, zero, suc, ◌+◌, ◌||◌, refl, sym, ap, ◌∙◌, subst, Bool, true, false, Option, Some, None, List, [], ◌∷◌, ◌++◌, length, take}
use Rattle.std.specs.Prelude.{slice_get, not, IsSome}
use Rattle.sts_base.specs.declared.tables.Tables.{Tables}
use Rattle.sts_base.specs.declared.refused.Code.TheVariants.{TwiceNamed, NeedsType}
use Rattle.sts_syntax.specs.Annotations.{Annotation}
use Rattle.sts_syntax.specs.Trees.{Parameter, Statements, Does}
use Rattle.sts_syntax.specs.Programs.{ClassMember, Field, Method, Constructor, TopLevel, Class, Function, Main, Program}
use Rattle.sts_scope.specs.declared.kinds.StaticType.{StaticType}
use Rattle.sts_scope.specs.declared.entries.Owner.TheVariants as o
use Rattle.sts_scope.specs.declared.entries.DeclarationKind.{DeclarationKind}
use Rattle.sts_scope.specs.declared.entries.DeclarationKind.TheVariants as sort
use Rattle.sts_scope.specs.declared.entries.Entry.{Entry}
use Rattle.sts_scope.specs.declared.known.Known.{Known}
use Rattle.sts_scope.specs.declared.known.Found.{Found}
use Rattle.sts_scope.specs.declared.known.Found.TheVariants as found
use Rattle.sts_scope.specs.declared.known.This.{This}
use Rattle.sts_scope.specs.declared.known.This.TheVariants as this
use Rattle.sts_scope.specs.Kinds.{nothing}
use Rattle.sts_scope.specs.Failures.{◌then◌, unless, own}
use Rattle.sts_scope.specs.Entries.{Naming, kind_of, written_kind, classes_in, item_entries}
use Rattle.sts_scope.specs.Headings.{written_failure, takes_name, parameters_failure, is_constructor, member_failure, members_failure, item_failure, headings_failure}
use Rattle.sts_scope.specs.Lookup.{is_second, base_of, inherited, inherits_field, sort_of, is_field}
use Rattle.sts_scope.specs.Numbers.{Numbering, numbering, is_method, names_from}
use Rattle.sts_scope.specs.Places.{NameScope}
use Rattle.sts_scope.specs.Rules.{kind_at}
use Rattle.sts_scope.specs.Scopes.{all_names, library_classes, is_global, names_of}
use Rattle.type_derive.specs.Derived.{known}
use Rattle.type_derive.specs.Passes.{outside_failure, body_failure, constructor_failure, members_nodes, item_nodes, nodes_failure}
use Rattle.type_derive.specs.Returns.{parameter_locals, within}
use Rattle.type_derive.specs.Typing.{finds, super_method}
use Rattle.typed_laws.specs.WholePrograms.{IsAcceptedWith, HasItsPlace, DeclarationsHaveTypes, NamesAreMembers, IsDeclaredSo, NumbersAreThere, ParametersHaveTypes, BeginsAbove, AreWholeMembers, IsWholeItem, IsWholeText}
use Rattle.typed_laws.proofs.Classes.{sort_entry, method_of_is}
use Rattle.typed_laws.proofs.DeclaredTypes.{HasKind, TypedAs, type_known}
use Rattle.typed_laws.proofs.Facts.{bases_within}
use Rattle.typed_laws.proofs.Items.{begins_super}
use Rattle.typed_laws.proofs.Makers.{makers_heads}
use Rattle.typed_laws.proofs.Members.{AreSane, AreChained, own_number, sort_there, class_within, class_there, own_member, member_listed, listed_member, field_is, method_is, fields_keep, methods_keep}
use Rattle.typed_laws.proofs.Names.{Real, real}
use Rattle.typed_laws.proofs.Searching.{place_there}
use Rattle.typed_laws.proofs.TextBehind as of_text
use Rattle.typed_laws.proofs.Typed.{some, last, first}
use Rattle.typed_laws.proofs.Whole.{numbers_length}

-- functions, methods and constructors
module _ (tables : Tables) (names : Naming) (k : Known) where
  shape_typed : (shape : Option Annotation) (i : ℕ) → own shape NeedsType i ≡ None → written_failure names i shape ≡ None → IsSome (written_kind names shape)
  shape_typed None i g h = cc
  shape_typed (Some a) i g h = let (u, q) = type_known names k tables i a h in some (kind_of names a) (record { it = u; is = q })

  parameters_typed : (all : List Parameter) (i : ℕ) (params : List Parameter) → parameters_failure names all i params ≡ None → ParametersHaveTypes names k params
  parameters_typed all i [] h = tt
  parameters_typed all i (p ∷ rest) h =
      let A = own p.shape NeedsType p.at in
      let B = unless (not (takes_name (take i all) p.name)) TwiceNamed p.at in
      let C = written_failure names p.at p.shape in
      let D = parameters_failure names all (i + 1) rest in
      let here = first (A then B then C) D h in
      (shape_typed p.shape p.at (first A (B then C) here) (last B C (last A (B then C) here)), parameters_typed all (i + 1) rest (last (A then B then C) D h))

  begins : (self : This) (base : Option ℕ) (i : ℕ) (params : List Parameter) (gives : Option Annotation) (all : Statements) (arrow : Bool)
      → constructor_failure tables names k self base (Does i params gives all arrow) ≡ None → BeginsAbove names k base (Does i params gives all arrow)
  begins self None i params gives all arrow h = tt
  begins self (Some b) i params gives all arrow h =
      let none : Numbering = record { routines = []; makers = [] } in
      begins_super tables names k none all i b (within (parameter_locals names params) self (Some nothing) false) h

  whole_members : (c d d' : ℕ) (built : Bool) (members : List ClassMember) → members_failure tables.names names k.entries k.classes c d' built members ≡ None
      → members_nodes tables names k c d members ≡ None → AreWholeMembers names k c members
  whole_members c d d' built [] h g = tt
  whole_members c d d' built (Field a ∷ rest) h g =
      let A = member_failure tables.names names k.entries k.classes c d' built (Field a) in
      let B = members_failure tables.names names k.entries k.classes c (d' + 1) (built || is_constructor tables.names (Field a)) rest in
      let C = outside_failure tables names k (this.Object c) a in
      let D = members_nodes tables names k c (suc d) rest in
      whole_members c (suc d) (d' + 1) (built || is_constructor tables.names (Field a)) rest (last A B h) (last C D g)
  whole_members c d d' built (Method x (Does i params gives all arrow) ∷ rest) h g =
      let A = member_failure tables.names names k.entries k.classes c d' built (Method x (Does i params gives all arrow)) in
      let B = members_failure tables.names names k.entries k.classes c (d' + 1) (built || false) rest in
      let C = body_failure tables names k (this.Object c) (kind_at k d) (Does i params gives all arrow) in
      let D = members_nodes tables names k c (suc d) rest in
      let E = unless (not (is_second k.entries d' (o.Class c) x)) TwiceNamed i in
      let F = unless (not (inherits_field k.entries k.classes c x)) TwiceNamed i in
      let G = parameters_failure names params 0 params in
      let H = written_failure names i gives in
      (parameters_typed params 0 params (first G H (last F (G then H) (last E (F then G then H) (first A B h)))), whole_members c (suc d) (d' + 1) (built || false) rest (last A B h) (last C D g))
  whole_members c d d' built (Constructor (Does i params gives all arrow) ∷ rest) h g =
      let A = member_failure tables.names names k.entries k.classes c d' built (Constructor (Does i params gives all arrow)) in
      let B = members_failure tables.names names k.entries k.classes c (d' + 0) (built || true) rest in
      let C = constructor_failure tables names k (this.Object c) (base_of k.classes c) (Does i params gives all arrow) in
      let D = members_nodes tables names k c d rest in
      let E = unless (not built) TwiceNamed i in
      let G = parameters_failure names params 0 params in
      let H = written_failure names i gives in (
        parameters_typed params 0 params (first G H (last E (G then H) (first A B h))),
        begins (this.Object c) (base_of k.classes c) i params gives all arrow (first C D g),
        whole_members c d (d' + 0) (built || true) rest (last A B h) (last C D g),
      )

  whole_item : (c d : ℕ) (i : TopLevel) → item_failure tables.names names k.entries k.classes c d i ≡ None → item_nodes tables names k c d i ≡ None → IsWholeItem names k c i
  whole_item c d (Class at x base base_at members) h g = whole_members c (suc d) (d + 1) false members h g
  whole_item c d (Function x (Does i params gives all arrow)) h g = parameters_typed params 0 params (first (parameters_failure names params 0 params) (written_failure names i gives) h)
  whole_item c d (Main a) h g = tt

  whole_text : (c d : ℕ) (text : Program) → headings_failure tables.names names k.entries k.classes c d text ≡ None → nodes_failure tables names k c d text ≡ None → IsWholeText names k c text
  whole_text c d [] h g = tt
  whole_text c d (i ∷ rest) h g =
      let c' = c + classes_in i in
      let d' = d + length (item_entries names c i) in
      let A = item_failure tables.names names k.entries k.classes c d i in
      let B = headings_failure tables.names names k.entries k.classes c' d' rest in
      let C = item_nodes tables names k c d i in
      let D = nodes_failure tables names k c' d' rest in
      (whole_item c d i (first A B h) (first C D g), whole_text c' d' rest (last A B h) (last C D g))

-- a method of a base is one
pub supers : (tables : Tables) (k : Known) (self : This) (m d : ℕ) → super_method k self m ≡ Some d → sort_of k.entries d ≡ Some sort.Method
supers tables k (this.Object c) m d q = let (at, s) = method_of_is tables k (inherited k.entries k.classes c m) d q in s
supers tables k (this.Hidden c) m d q = cc
supers tables k this.Nowhere m d q = cc

-- a global stands among the globals, behind those that are declared before it
counted : (es : List Entry) (i : ℕ) (a : Entry) → slice_get es i ≡ Some a → is_global a.sort ≡ true → slice_get (names_of is_global es) (length (names_of is_global (take i es))) ≡ Some a.name
counted [] i a h q = cc
counted (e ∷ rest) zero a h q =
    let same : e ≡ a = cc in
    let g : is_global e.sort ≡ true = ap (λ (y : Entry). is_global y.sort) same ∙ q in
    let F : Bool → List ℕ = λ b. elim b [ true ↦ e.name ∷ names_of is_global rest | false ↦ names_of is_global rest ] in
    ap (λ (b : Bool). slice_get (F b) 0) g ∙ ap (λ (y : Entry). Some y.name) same
counted (e ∷ rest) (suc i) a h q =
    let later = counted rest i a h q in
    let F : Bool → List ℕ = λ b. elim b [ true ↦ e.name ∷ names_of is_global rest | false ↦ names_of is_global rest ] in
    let G : Bool → List ℕ = λ b. elim b [ true ↦ e.name ∷ names_of is_global (take i rest) | false ↦ names_of is_global (take i rest) ] in
    let go : (b : Bool) → slice_get (F b) (length (G b)) ≡ Some a.name = λ b. elim b as (λ y. slice_get (F y) (length (G y)) ≡ Some a.name) [ true ↦ later | false ↦ later ] in
    go (is_global e.sort)

pub numbers : (library text : Program) (kinds : List (Option StaticType)) → NumbersAreThere (known library text kinds) (numbering (library ++ text))
numbers library text kinds =
    let names : Naming = all_names library text in
    record {
      globals = λ d a is g. counted (known library text kinds).entries d a is g;
      routines = numbers_length names 0 0 (library ++ text);
      makers = makers_heads names 0 (library ++ text);
      bases = λ c b q. bases_within names (library ++ text) (λ x i r. r) c b q;
    }

module _ (tables : Tables) (library text : Program) (kinds : List (Option StaticType)) (h : IsAcceptedWith tables library text kinds) where
  abbrev names : Naming
  names = all_names library text

  abbrev k : Known
  k = known library text kinds

  sane : AreSane k
  sane = of_text.sane tables library text kinds h.functions h.no_failure

  chained : AreChained k
  chained = of_text.chained tables library text kinds h.functions h.no_failure

  -- types
  there : (d : ℕ) → HasKind names k tables d → IsSome (kind_at k d)
  there d (u, q) = some (kind_at k d) (record { it = u; is = q })

  of_sort : (d : ℕ) (s : DeclarationKind) → sort_of k.entries d ≡ Some s → (s ≡ sort.Function → ⊥) → (a : Entry) × TypedAs names k tables s a.owner a.name d
  of_sort d s q other =
      let (a, is, sa) = sort_entry tables k d s q in
      (a, subst (λ (y : DeclarationKind). TypedAs names k tables y a.owner a.name d) sa (of_text.typed_other tables library text kinds h.functions h.no_failure h.derived d a is (λ f. other (sym sa ∙ f))))

  pub types : DeclarationsHaveTypes k
  types d sort.Field q = let (a, has) = of_sort d sort.Field q (λ f. cc) in there d has
  types d sort.Method q = let (a, has) = of_sort d sort.Method q (λ f. cc) in there d has
  types d (sort.Global fixed) q = let (a, has) = of_sort d (sort.Global fixed) q (λ f. cc) in there d has
  types d sort.Function q = λ near.
      let (a, is, sa) = sort_entry tables k d sort.Function q in
      there d (subst (λ (y : DeclarationKind). TypedAs names k tables y a.owner a.name d) sa (of_text.typed_behind tables library text kinds h.functions h.no_failure h.derived d a near is))
  types d (sort.Class c) q = tt

  -- members
  placed : (which : Option DeclarationKind → Bool) (d c : ℕ) (a : Entry) → slice_get k.entries d ≡ Some a → a.owner ≡ o.Class c → which (Some a.sort) ≡ true → HasItsPlace (names_from which k (length k.classes) c) a.name
  placed which d c a is owner w =
      let near = class_within k sane chained d c a is owner in
      let at = own_member k sane chained c a.name d near (own_number k sane chained d c a.name a is owner refl) in
      place_there (names_from which k (length k.classes) c) a.name (member_listed k sane chained which c a.name d a near at is w)

  pub members : NamesAreMembers k
  members = record {
    fields = λ c x near listed. let (d, a, at, is, w) = listed_member k sane chained is_field (fields_keep k sane chained) c x near listed in
        (d, at, sort_there k sane chained d a is ∙ ap (λ (s : DeclarationKind). Some s) (field_is k sane chained a.sort w));
    slots = λ c x near listed. let (d, a, at, is, w) = listed_member k sane chained is_method (methods_keep k sane chained) c x near listed in
        (d, at, sort_there k sane chained d a is ∙ ap (λ (s : DeclarationKind). Some s) (method_is k sane chained a.sort w));
    own_fields = λ d c a is owner s. placed is_field d c a is owner (ap (λ (y : DeclarationKind). is_field (Some y)) s);
    own_methods = λ d c a is owner s. placed is_method d c a is owner (ap (λ (y : DeclarationKind). is_method (Some y)) s);
  }

  -- what names stand for
  declared_so : (p : NameScope) (f : Found) → Real k p f → IsDeclaredSo k f
  declared_so p (found.Local i) r = tt
  declared_so p found.Captured r = tt
  declared_so p (found.Global d) r = r
  declared_so p (found.Function d) r = r
  declared_so p (found.Class c) r = let (d, q) = r in let (a, is, s) = sort_entry tables k d (sort.Class c) q in class_there k sane chained d c a is s
  declared_so p found.Unknown r = tt

  pub named : (p : NameScope) (x : ℕ) → IsDeclaredSo k (finds tables k p x)
  named p x = declared_so p (finds tables k p x) (real k tables p x)

  pub routines : IsWholeText names k (library_classes library text) text
  routines =
      let heads = of_text.heads_none tables library text kinds h.functions h.no_failure in
      let nodes = of_text.nodes_none tables library text kinds h.functions h.no_failure in
      whole_text tables names k (library_classes library text) k.library text heads nodes
