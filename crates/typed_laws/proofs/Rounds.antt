-- The least table of types has no type but those that values have.
use Rattle.std.proofs.Common.{◌≡◌, ℕ, zero, suc, ◌+◌, refl, ap, ◌∙◌, subst, Bool, Option, Some, None, List, [], ◌∷◌, ◌++◌, length, inl, inr}
use Rattle.std.specs.Prelude.{slice_get, nat_lt}
use Rattle.std.specs.Option.{option_or}
use Rattle.sts_base.specs.declared.tables.Tables.{Tables}
use Rattle.sts_syntax.specs.Annotations.{Annotation}
use Rattle.sts_syntax.specs.Trees.{Parameter, Tree, OptionalTree, absent, present, Statement, Block, Let, IfOnly, IfElse, While, DoWhile, For, ForOf, Return, Break, Continue, Plain, Empty, Statements, done, also, OptionalStatement, omitted, written, Declaration, Declare, Declarations, ended, next, Routine, Does}
use Rattle.sts_syntax.specs.Programs.{ClassMember, Field, Method, Constructor, TopLevel, Class, Function, Main, Program}
use Rattle.sts_scope.specs.declared.kinds.StaticType.{StaticType}
use Rattle.sts_scope.specs.declared.known.Known.{Known}
use Rattle.sts_scope.specs.declared.known.This.{This as Self}
use Rattle.sts_scope.specs.declared.known.This.TheVariants as this
use Rattle.sts_scope.specs.Kinds.{nothing, is_array, item}
use Rattle.sts_scope.specs.Entries.{Naming, classes_in}
use Rattle.sts_scope.specs.Places.{NameScope, with, inner, local, outside}
use Rattle.sts_scope.specs.Rules.{local_kind, kind_at}
use Rattle.sts_scope.specs.Scopes.{all_names}
use Rattle.type_derive.specs.declared.roles.Role.TheVariants.{Free}
use Rattle.type_derive.specs.Typing.{type_of}
use Rattle.type_derive.specs.Returns.{is_alone, parameter_locals, within, bound, all_declared, after, after_first, items_of, looped, returned, all_returned, answered}
use Rattle.type_derive.specs.Derived.{Source, Stated, Initial, Returns, declared_source, routine_source, global_sources, main_sources, member_sources, item_sources, sources_from, follows, at, known, all_sources, derivation, AreDerived}
use Rattle.type_derive.proofs.Laws.{rule_grows, least_has}
use Rattle.typed_laws.proofs.Stands.{IsProper}
use Rattle.typed_laws.proofs.Names.{some_is, either_some, proper, AreProper}
use Rattle.typed_laws.proofs.Sites.{kind_split}
use Rattle.typed_laws.proofs.TreeFacts.{kind_proper, written_proper}

-- types of initialisers and returned values
module _ (tables : Tables) (names : Naming) (k : Known) (kinds_proper : (d : ℕ) (u : StaticType) → kind_at k d ≡ Some u → IsProper u) where
  abbrev Proper : NameScope → Type 0
  Proper p = AreProper tables k kinds_proper p

  free_proper : (p : NameScope) → Proper p → (a : Tree) (u : StaticType) → type_of tables k p Free a ≡ Some u → IsProper u
  free_proper p a e u h = proper tables k kinds_proper p a e u h

  bound_proper : (p : NameScope) → Proper p → (shape : Option Annotation) (first' : OptionalTree) (u : StaticType) → bound tables names k p shape first' ≡ Some u → IsProper u
  bound_proper p a (Some c) first' u h = kind_proper names c u h
  bound_proper p a None absent u h = cc
  bound_proper p a None (present e) u h = either_some IsProper (is_alone e) None (type_of tables k p Free e) u (λ v q. cc) (λ v q. free_proper p a e v q) h

  with_proper : (p : NameScope) → Proper p → (x : ℕ) (kind : Option StaticType) (fixed : Bool) → ((u : StaticType) → kind ≡ Some u → IsProper u) → Proper (with p x kind fixed)
  with_proper p a x kind fixed new = λ i u h. elim (kind_split p.locals (local x kind fixed) i u h) [ inl q ↦ a i u q.1 | inr q ↦ new u q.1 ]

  declared_proper : (p : NameScope) → Proper p → (fixed : Bool) (each : Declarations) → Proper (all_declared tables names k p fixed each)
  declared_proper p a fixed ended = a
  declared_proper p a fixed (next (Declare i x shape first') rest) =
      declared_proper (with p x (bound tables names k p shape first') fixed) (with_proper p a x (bound tables names k p shape first') fixed (λ u h. bound_proper p a shape first' u h)) fixed rest

  after_proper : (p : NameScope) → Proper p → (s : Statement) → Proper (after tables names k p s)
  after_proper p a (Let i fixed each) = declared_proper p a fixed each
  after_proper p a (Block i all) = a
  after_proper p a (IfOnly i test b) = a
  after_proper p a (IfElse i test b c) = a
  after_proper p a (While i test b) = a
  after_proper p a (DoWhile i b test) = a
  after_proper p a (For i one test step b) = a
  after_proper p a (ForOf i fixed x list b) = a
  after_proper p a (Return i value) = a
  after_proper p a (Break i) = a
  after_proper p a (Continue i) = a
  after_proper p a (Plain i e) = a
  after_proper p a (Empty i) = a

  first_proper : (p : NameScope) → Proper p → (s : OptionalStatement) → Proper (after_first tables names k p s)
  first_proper p a omitted = a
  first_proper p a (written s) = after_proper p a s

  items_proper : (o : Option StaticType) → ((u : StaticType) → o ≡ Some u → IsProper u) → (u : StaticType) → items_of o ≡ Some u → IsProper u
  items_proper None h u q = cc
  items_proper (Some v) h u q = either_some IsProper (is_array v) (Some (item v)) None u (λ w r. let z : IsProper v = h v refl in subst IsProper (some_is (item v) w r) z) (λ w r. cc) q

  looped_proper : (p : NameScope) → Proper p → (fixed : Bool) (x : ℕ) (list : Tree) → Proper (looped tables k p fixed x list)
  looped_proper p a fixed x list =
      with_proper (inner p) a x (items_of (type_of tables k p Free list)) fixed (λ u h. items_proper (type_of tables k p Free list) (λ v q. free_proper p a list v q) u h)

  else_proper : (a b : Option (Option StaticType)) (u : StaticType) → ((v : StaticType) → a ≡ Some (Some v) → IsProper v) → ((v : StaticType) → b ≡ Some (Some v) → IsProper v) → option_or a b ≡ Some (Some u) → IsProper u
  else_proper None b u f g h = g u h
  else_proper (Some x) b u f g h = f u h

  mutual
    returned_proper : (p : NameScope) → Proper p → (s : Statement) (u : StaticType) → returned tables names k p s ≡ Some (Some u) → IsProper u
    returned_proper p a (Return i (present e)) u h = free_proper p a e u (some_is (type_of tables k p Free e) (Some u) h)
    returned_proper p a (Return i absent) u h = cc
    returned_proper p a (Block i all) u h = all_proper (inner p) a all u h
    returned_proper p a (IfOnly i test b) u h = returned_proper (inner p) a b u h
    returned_proper p a (IfElse i test b c) u h = else_proper (returned tables names k (inner p) b) (returned tables names k (inner p) c) u (λ v q. returned_proper (inner p) a b v q) (λ v q. returned_proper (inner p) a c v q) h
    returned_proper p a (While i test b) u h = returned_proper (inner p) a b u h
    returned_proper p a (DoWhile i b test) u h = returned_proper (inner p) a b u h
    returned_proper p a (For i one test step b) u h = returned_proper (inner (after_first tables names k (inner p) one)) (first_proper (inner p) a one) b u h
    returned_proper p a (ForOf i fixed x list b) u h = returned_proper (inner (looped tables k p fixed x list)) (looped_proper p a fixed x list) b u h
    returned_proper p a (Let i fixed each) u h = cc
    returned_proper p a (Break i) u h = cc
    returned_proper p a (Continue i) u h = cc
    returned_proper p a (Plain i e) u h = cc
    returned_proper p a (Empty i) u h = cc

    all_proper : (p : NameScope) → Proper p → (all : Statements) (u : StaticType) → all_returned tables names k p all ≡ Some (Some u) → IsProper u
    all_proper p a done u h = cc
    all_proper p a (also s rest) u h =
        else_proper (returned tables names k p s) (all_returned tables names k (after tables names k p s) rest) u (λ v q. returned_proper p a s v q) (λ v q. all_proper (after tables names k p s) (after_proper p a s) rest v q) h

  params_proper : (params : List Parameter) (i : ℕ) (u : StaticType) → local_kind (parameter_locals names params) i ≡ Some u → IsProper u
  params_proper [] i u h = cc
  params_proper (p ∷ rest) zero u h = written_proper names p.shape u h
  params_proper (p ∷ rest) (suc i) u h = params_proper rest i u h

  answered_proper : (o : Option (Option StaticType)) (u : StaticType) → ((v : StaticType) → o ≡ Some (Some v) → IsProper v) → answered o ≡ Some u → IsProper u
  answered_proper None u f h = subst IsProper (some_is nothing u h) refl
  answered_proper (Some o) u f h = f u (ap (λ (x : Option StaticType). Some x) h)

  follows_proper : (library : Bool) (source : Source) → ((kind : Option StaticType) (u : StaticType) → source ≡ Stated kind → kind ≡ Some u → IsProper u) → (u : StaticType) → follows names tables k library source ≡ Some u → IsProper u
  follows_proper library (Stated kind) f u h = f kind u refl h
  follows_proper library (Initial self first') f u h = bound_proper (outside self library None) (λ i v q. cc) None first' u h
  follows_proper library (Returns self params all) f u h =
      answered_proper (all_returned tables names k (within (parameter_locals names params) self None library) all) u
      (λ v q. all_proper (within (parameter_locals names params) self None library) (λ i w r. params_proper params i w r) all v q) h

-- types that are written for declarations are ones that values have
abbrev SourceOk : Source → Type 0
SourceOk (Stated kind) = (u : StaticType) → kind ≡ Some u → IsProper u
SourceOk (Initial self first') = Unit {0}
SourceOk (Returns self params all) = Unit {0}

abbrev SourcesOk : List Source → Type 0
SourcesOk [] = Unit {0}
SourcesOk (s ∷ rest) = SourceOk s × SourcesOk rest

sources_both : (xs ys : List Source) → SourcesOk xs → SourcesOk ys → SourcesOk (xs ++ ys)
sources_both [] ys g h = h
sources_both (x ∷ xs) ys g h = (g.0, sources_both xs ys g.1 h)

sources_get : (xs : List Source) (d : ℕ) (s : Source) → SourcesOk xs → slice_get xs d ≡ Some s → SourceOk s
sources_get [] d s h q = cc
sources_get (x ∷ xs) zero s h q = subst SourceOk (let z : x ≡ s = cc in z) h.0
sources_get (x ∷ xs) (suc d) s h q = sources_get xs d s h.1 q

module _ (names : Naming) where
  declared_ok : (self : Self) (a : Declaration) → SourceOk (declared_source names self a)
  declared_ok self (Declare i x (Some a) first') = λ u h. kind_proper names a u h
  declared_ok self (Declare i x None first') = tt

  routine_ok : (self : Self) (r : Routine) → SourceOk (routine_source names self r)
  routine_ok self (Does i params (Some a) all arrow) = λ u h. kind_proper names a u h
  routine_ok self (Does i params None all arrow) = tt

  globals_ok : (each : Declarations) → SourcesOk (global_sources names each)
  globals_ok ended = tt
  globals_ok (next a rest) = (declared_ok this.Nowhere a, globals_ok rest)

  main_ok : (a : Statement) → SourcesOk (main_sources names a)
  main_ok (Let i fixed each) = globals_ok each
  main_ok (Block i all) = tt
  main_ok (IfOnly i test a) = tt
  main_ok (IfElse i test a b) = tt
  main_ok (While i test a) = tt
  main_ok (DoWhile i a test) = tt
  main_ok (For i one test step a) = tt
  main_ok (ForOf i fixed x list a) = tt
  main_ok (Return i value) = tt
  main_ok (Break i) = tt
  main_ok (Continue i) = tt
  main_ok (Plain i a) = tt
  main_ok (Empty i) = tt

  members_ok : (c : ℕ) (members : List ClassMember) → SourcesOk (member_sources names c members)
  members_ok c [] = tt
  members_ok c (Field a ∷ rest) = (declared_ok (this.Object c) a, members_ok c rest)
  members_ok c (Method x r ∷ rest) = (routine_ok (this.Object c) r, members_ok c rest)
  members_ok c (Constructor r ∷ rest) = members_ok c rest

  item_ok : (c : ℕ) (i : TopLevel) → SourcesOk (item_sources names c i)
  item_ok c (Class at x base base_at members) = ((λ u h. cc), members_ok c members)
  item_ok c (Function x r) = (routine_ok this.Nowhere r, tt)
  item_ok c (Main a) = main_ok a

  sources_ok : (c : ℕ) (text : Program) → SourcesOk (sources_from names c text)
  sources_ok c [] = tt
  sources_ok c (i ∷ rest) = sources_both (item_sources names c i) (sources_from names (c + classes_in i) rest) (item_ok c i) (sources_ok (c + classes_in i) rest)

stated_is : (s : Source) (kind : Option StaticType) (u : StaticType) → SourceOk s → s ≡ Stated kind → kind ≡ Some u → IsProper u
stated_is s kind u ok q h = let z : SourceOk (Stated kind) = subst SourceOk q ok in z u h

kind_is_at : (ks : List (Option StaticType)) (d : ℕ) → at ks d ≡ elim (slice_get ks d) [ None ↦ None | Some kind ↦ kind ]
kind_is_at [] d = refl
kind_is_at (x ∷ ks) zero = refl
kind_is_at (x ∷ ks) (suc d) = kind_is_at ks d

module _ (tables : Tables) (library text : Program) where
  rules_keep : (xs : List (Option StaticType)) → ((d : ℕ) (u : StaticType) → at xs d ≡ Some u → IsProper u) → (d : ℕ) (u : StaticType) → derivation tables library text xs d ≡ Some u → IsProper u
  rules_keep xs a d u h =
      let names : Naming = all_names library text in
      let k : Known = known library text xs in
      let kinds_so : (e : ℕ) (v : StaticType) → kind_at k e ≡ Some v → IsProper v = λ e v q. a e v (kind_is_at xs e ∙ q) in
      let F : Option Source → Option StaticType = λ x. elim x [ None ↦ None | Some s ↦ follows names tables k (nat_lt d k.library) s ] in
      let go : (x : Option Source) → slice_get (all_sources library text) d ≡ x → F x ≡ Some u → IsProper u = λ x. elim x as (λ y. slice_get (all_sources library text) d ≡ y → F y ≡ Some u → IsProper u) [
        | None ↦ (λ q r. cc)
        | Some s ↦ (λ q r. follows_proper tables names k kinds_so (nat_lt d k.library) s
            (λ kind v same is. stated_is s kind v (sources_get (all_sources library text) d s (sources_ok names 0 (library ++ text)) q) same is) u r)
      ] in
      go (slice_get (all_sources library text) d) refl h

  -- no derived type is that of `[]` alone
  pub kinds_proper : (kinds : List (Option StaticType)) → AreDerived tables library text kinds → (d : ℕ) (u : StaticType) → kind_at (known library text kinds) d ≡ Some u → IsProper u
  kinds_proper kinds derived d u h =
      least_has (length kinds) (derivation tables library text) (λ xs ys w e. rule_grows tables (all_names library text) (known library text []) (all_sources library text) xs ys w e) IsProper rules_keep kinds refl derived.least d u (kind_is_at kinds d ∙ h)
