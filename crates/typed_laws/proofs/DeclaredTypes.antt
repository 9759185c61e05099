-- Which declarations of a text have a type, where nothing fails: all but its classes.
use Rattle.std.proofs.Common.{◌≡◌, ℕ, suc, ◌+◌, ◌≤◌, ◌||◌, refl, ap, ◌∙◌, Bool, true, false, Option, Some, None, List, [], ◌∷◌, ◌++◌, length, arith}
use Rattle.std.specs.Prelude.{slice_get, not}
use Rattle.std.specs.Option.{option_or}
use Rattle.sts_base.specs.declared.tables.Tables.{Tables}
use Rattle.sts_base.specs.declared.refused.Code.TheVariants.{Mismatch, TwiceNamed, NeedsType, UnknownName}
use Rattle.sts_syntax.specs.Annotations.{Annotation}
use Rattle.sts_syntax.specs.Trees.{Parameter, OptionalTree, absent, present, Statement, Block, Let, IfOnly, IfElse, While, DoWhile, For, ForOf, Return, Break, Continue, Plain, Empty, Statements, done, also, OptionalStatement, omitted, written, Declaration, Declare, Declarations, ended, next, Routine, Does}
use Rattle.sts_syntax.specs.Programs.{ClassMember, Field, Method, Constructor, TopLevel, Class, Function, Main, Program}
use Rattle.sts_scope.specs.declared.kinds.StaticType.{StaticType}
use Rattle.sts_scope.specs.declared.entries.Owner.{Owner}
use Rattle.sts_scope.specs.declared.entries.Owner.TheVariants as o
use Rattle.sts_scope.specs.declared.entries.DeclarationKind.{DeclarationKind}
use Rattle.sts_scope.specs.declared.entries.DeclarationKind.TheVariants as sort
use Rattle.sts_scope.specs.declared.known.Known.{Known}
use Rattle.sts_scope.specs.declared.known.This.{This}
use Rattle.sts_scope.specs.declared.known.This.TheVariants as this
use Rattle.sts_scope.specs.Kinds.{nothing}
use Rattle.sts_scope.specs.Failures.{◌then◌, unless, own}
use Rattle.sts_scope.specs.Entries.{Naming, kind_of, classes_in, member_entries, item_entries, main_entries, global_entries, entries_from}
use Rattle.sts_scope.specs.Globals.{is_dollar}
use Rattle.sts_scope.specs.Headings.{type_name_failure, type_failure, written_failure, parameters_failure, is_constructor, member_failure, members_failure, item_failure, headings_failure}
use Rattle.sts_scope.specs.Lookup.{is_second, inherits_field, base_of}
use Rattle.sts_scope.specs.Places.{NameScope, inner, outside}
use Rattle.sts_scope.specs.Rules.{kind_at, is_boolean}
use Rattle.type_derive.specs.declared.roles.Role.TheVariants.{Free}
use Rattle.type_derive.specs.Typing.{fits, type_of}
use Rattle.type_derive.specs.Returns.{bound, declared, all_declared, parameter_locals, within, returned, all_returned, answered, after, after_first, looped}
use Rattle.type_derive.specs.Derived.{Source, Stated, global_sources, main_sources, member_sources, item_sources, sources_from, routine_source, declared_source, follows}
use Rattle.type_derive.specs.Nodes.{statement_failure, first_failure, statements_failure, failure, kind_role, optional_failure, test_failure, is_list, initial_failure, own_bound}
use Rattle.type_derive.specs.Passes.{outside_failure, globals_failure, main_failure, body_failure, constructor_failure, members_nodes, item_nodes, nodes_failure}
use Rattle.typed_laws.proofs.Returning.{give_value, gives_value}
use Rattle.typed_laws.proofs.Typed.{last, first, unless_true, own_has}
use Rattle.typed_laws.proofs.Suffixes.{Suffix, suffix_step, suffix_one, suffix_at, suffix_head}
use Rattle.typed_laws.proofs.Items.{item_sourced}
use Rattle.typed_laws.proofs.Searching.{some_or_none}
use Rattle.typed_laws.proofs.Facts.{EachIs, each_is_both}

module _ (names : Naming) (k : Known) (tables : Tables) where
  -- types that are written are known
  pub type_known : (i : ℕ) (a : Annotation) → type_failure names i a ≡ None → (u : StaticType) × (kind_of names a ≡ Some u)
  type_known i a h = let r = own_has (kind_of names a) UnknownName i (last (type_name_failure names a) (own (kind_of names a) UnknownName i) h) in (r.it, r.is)

  -- a function whose result isn't known returns no value
  gives_declared_place : (p : NameScope) (fixed : Bool) (each : Declarations) → (all_declared tables names k p fixed each).gives ≡ p.gives
  gives_declared_place p fixed ended = refl
  gives_declared_place p fixed (next (Declare i x shape first') rest) = gives_declared_place (declared tables names k p fixed (Declare i x shape first')) fixed rest

  gives_after_place : (p : NameScope) (a : Statement) → (after tables names k p a).gives ≡ p.gives
  gives_after_place p (Let i fixed each) = gives_declared_place p fixed each
  gives_after_place p (Block i all) = refl
  gives_after_place p (IfOnly i test a) = refl
  gives_after_place p (IfElse i test a b) = refl
  gives_after_place p (While i test a) = refl
  gives_after_place p (DoWhile i a test) = refl
  gives_after_place p (For i one test step a) = refl
  gives_after_place p (ForOf i fixed x list a) = refl
  gives_after_place p (Return i value) = refl
  gives_after_place p (Break i) = refl
  gives_after_place p (Continue i) = refl
  gives_after_place p (Plain i a) = refl
  gives_after_place p (Empty i) = refl

  gives_first_place : (p : NameScope) (a : OptionalStatement) → (after_first tables names k p a).gives ≡ p.gives
  gives_first_place p omitted = refl
  gives_first_place p (written a) = gives_after_place p a

  or_false : (a b : Bool) → a ≡ false → b ≡ false → (a || b) ≡ false
  or_false a b p q = ap (λ (x : Bool). x || b) p ∙ q

  no_fit : (t : Option StaticType) (g : Option StaticType) → g ≡ None → fits k t g ≡ true → ⊥
  no_fit (Some s) None q h = cc
  no_fit (Some s) (Some u) q h = cc
  no_fit None g q h = cc

  mutual
    gives_none : (p : NameScope) (a : Statement) → p.gives ≡ None → statement_failure tables names k p a ≡ None → gives_value a ≡ false
    gives_none p (Return i (present a)) g h =
        let A = failure tables names k p (kind_role p.gives) a in
        let b = fits k (type_of tables k p (kind_role p.gives) a) p.gives in
        absurd (no_fit (type_of tables k p (kind_role p.gives) a) p.gives g (unless_true b Mismatch i (last A (unless b Mismatch i) h)))
    gives_none p (Return i absent) g h = refl
    gives_none p (Block i all) g h = give_none (inner p) all g h
    gives_none p (IfOnly i test a) g h =
        let T = failure tables names k p Free test in let A = statement_failure tables names k (inner p) a in let U = unless (is_boolean (type_of tables k p Free test)) Mismatch i in
        gives_none (inner p) a g (first A U (last T (A then U) h))
    gives_none p (IfElse i test a b) g h =
        let T = failure tables names k p Free test in let A = statement_failure tables names k (inner p) a in let B = statement_failure tables names k (inner p) b in let U = unless (is_boolean (type_of tables k p Free test)) Mismatch i in
        let r = last T (A then B then U) h in
        or_false (gives_value a) (gives_value b) (gives_none (inner p) a g (first A (B then U) r)) (gives_none (inner p) b g (first B U (last A (B then U) r)))
    gives_none p (While i test a) g h =
        let T = failure tables names k p Free test in let A = statement_failure tables names k (inner p) a in let U = unless (is_boolean (type_of tables k p Free test)) Mismatch i in
        gives_none (inner p) a g (first A U (last T (A then U) h))
    gives_none p (DoWhile i a test) g h =
        let T = failure tables names k p Free test in let A = statement_failure tables names k (inner p) a in let U = unless (is_boolean (type_of tables k p Free test)) Mismatch i in
        gives_none (inner p) a g (first A (T then U) h)
    gives_none p (For i one test step a) g h =
        let q : NameScope = after_first tables names k (inner p) one in
        let O = first_failure tables names k (inner p) one in let T = optional_failure tables names k q test in let Z = optional_failure tables names k q step in let A = statement_failure tables names k (inner q) a in let U = test_failure tables k q test i in
        gives_none (inner q) a (gives_first_place (inner p) one ∙ g) (first A U (last Z (A then U) (last T (Z then A then U) (last O (T then Z then A then U) h))))
    gives_none p (ForOf i fixed x list a) g h =
        let q : NameScope = looped tables k p fixed x list in
        let T = failure tables names k p Free list in let A = statement_failure tables names k (inner q) a in let D = unless (not (is_dollar tables.names x)) UnknownName i in let U = unless (is_list (type_of tables k p Free list)) Mismatch i in
        gives_none (inner q) a g (first A (D then U) (last T (A then D then U) h))
    gives_none p (Let i fixed each) g h = refl
    gives_none p (Break i) g h = refl
    gives_none p (Continue i) g h = refl
    gives_none p (Plain i a) g h = refl
    gives_none p (Empty i) g h = refl

    pub give_none : (p : NameScope) (all : Statements) → p.gives ≡ None → statements_failure tables names k p all ≡ None → give_value all ≡ false
    give_none p done g h = refl
    give_none p (also a rest) g h =
        let A = statement_failure tables names k p a in let B = statements_failure tables names k (after tables names k p a) rest in
        or_false (gives_value a) (give_value rest) (gives_none p a g (first A B h)) (give_none (after tables names k p a) rest (gives_after_place p a ∙ g) (last A B h))

  or_parts : (a b : Bool) → (a || b) ≡ false → (a ≡ false) × (b ≡ false)
  or_parts true b h = cc
  or_parts false b h = (refl, h)

  or_none : (a b : Option (Option StaticType)) → a ≡ None → b ≡ None → option_or a b ≡ None
  or_none a b p q = ap (λ (x : Option (Option StaticType)). option_or x b) p ∙ q

  mutual
    returns_none : (p : NameScope) (a : Statement) → gives_value a ≡ false → returned tables names k p a ≡ None
    returns_none p (Return i (present a)) h = cc
    returns_none p (Return i absent) h = refl
    returns_none p (Block i all) h = return_none (inner p) all h
    returns_none p (IfOnly i test a) h = returns_none (inner p) a h
    returns_none p (IfElse i test a b) h = let (x, y) = or_parts (gives_value a) (gives_value b) h in or_none (returned tables names k (inner p) a) (returned tables names k (inner p) b) (returns_none (inner p) a x) (returns_none (inner p) b y)
    returns_none p (While i test a) h = returns_none (inner p) a h
    returns_none p (DoWhile i a test) h = returns_none (inner p) a h
    returns_none p (For i one test step a) h = returns_none (inner (after_first tables names k (inner p) one)) a h
    returns_none p (ForOf i fixed x list a) h = returns_none (inner (looped tables k p fixed x list)) a h
    returns_none p (Let i fixed each) h = refl
    returns_none p (Break i) h = refl
    returns_none p (Continue i) h = refl
    returns_none p (Plain i a) h = refl
    returns_none p (Empty i) h = refl

    pub return_none : (p : NameScope) (all : Statements) → give_value all ≡ false → all_returned tables names k p all ≡ None
    return_none p done h = refl
    return_none p (also a rest) h = let (x, y) = or_parts (gives_value a) (give_value rest) h in or_none (returned tables names k p a) (all_returned tables names k (after tables names k p a) rest) (returns_none p a x) (return_none (after tables names k p a) rest y)

  -- the d-th declaration has a type
  abbrev pub HasKind : ℕ → Type 0
  HasKind d = (u : StaticType) × (kind_at k d ≡ Some u)

  abbrev pub TypedAs : DeclarationKind → Owner → ℕ → ℕ → Type 0
  TypedAs sort.Field w x d = HasKind d
  TypedAs sort.Method w x d = HasKind d
  TypedAs sort.Function w x d = HasKind d
  TypedAs (sort.Global fixed) w x d = HasKind d
  TypedAs (sort.Class i) w x d = Unit {0}

  module _ (sources : List Source) (solved : (d : ℕ) (source : Source) → slice_get sources d ≡ Some source → k.library ≤ d → kind_at k d ≡ follows names tables k false source) where
    result_known : (self : This) (d i : ℕ) (params : List Parameter) (gives : Option Annotation) (all : Statements) (arrow : Bool) → slice_get sources d ≡ Some (routine_source names self (Does i params gives all arrow))
        → k.library ≤ d → written_failure names i gives ≡ None → body_failure tables names k self (kind_at k d) (Does i params gives all arrow) ≡ None → HasKind d
    result_known self d i params (Some a) all arrow s near h1 h2 = let (u, q) = type_known i a h1 in (u, solved d (routine_source names self (Does i params (Some a) all arrow)) s near ∙ q)
    result_known self d i params None all arrow s near h1 h2 =
        let q = solved d (routine_source names self (Does i params None all arrow)) s near in
        some_or_none (HasKind d) (kind_at k d) (λ u r. (u, r))
        (λ r. let nothing_given = give_none (within (parameter_locals names params) self (kind_at k d) false) all r h2 in
        (nothing, q ∙ ap (λ (x : Option (Option StaticType)). answered x) (return_none (within (parameter_locals names params) self None false) all nothing_given)))

    -- a field and a global
    declared_known : (self : This) (d i x : ℕ) (shape : Option Annotation) (value : OptionalTree) → slice_get sources d ≡ Some (declared_source names self (Declare i x shape value))
        → k.library ≤ d → outside_failure tables names k self (Declare i x shape value) ≡ None → HasKind d
    declared_known self d i x (Some a) value s near h =
        let A = written_failure names i (Some a) in
        let B = initial_failure tables names k (outside self false None) (Some a) value in
        let C = own_bound tables names k (outside self false None) (Some a) value i in
        let (u, q) = type_known i a (first A (B then C) h) in
        (u, solved d (declared_source names self (Declare i x (Some a) value)) s near ∙ q)
    declared_known self d i x None value s near h =
        let A = written_failure names i None in
        let B = initial_failure tables names k (outside self false None) None value in
        let C = own_bound tables names k (outside self false None) None value i in
        let r = own_has (bound tables names k (outside self false None) None value) NeedsType i (last B C (last A (B then C) h)) in
        (r.it, solved d (declared_source names self (Declare i x None value)) s near ∙ r.is)

    typed_members : (c d d' : ℕ) (built : Bool) (members : List ClassMember) (ss : List Source) → Suffix sources d (member_sources names c members ++ ss) → k.library ≤ d
        → members_failure tables.names names k.entries k.classes c d' built members ≡ None → members_nodes tables names k c d members ≡ None → EachIs TypedAs d (member_entries names c members)
    typed_members c d d' built [] ss s near h1 h2 = tt
    typed_members c d d' built (Field (Declare i x shape value) ∷ rest) ss s near h1 h2 =
        let a : Declaration = Declare i x shape value in
        let A = member_failure tables.names names k.entries k.classes c d' built (Field a) in
        let B = members_failure tables.names names k.entries k.classes c (d' + 1) (built || is_constructor tables.names (Field a)) rest in
        let C = outside_failure tables names k (this.Object c) a in
        let D = members_nodes tables names k c (suc d) rest in
        let src : Source = declared_source names (this.Object c) a in (
          declared_known (this.Object c) d i x shape value (suffix_head sources d src (member_sources names c rest ++ ss) s) near (first C D h2),
          typed_members c (suc d) (d' + 1) (built || is_constructor tables.names (Field a)) rest ss (suffix_one sources d src (member_sources names c rest ++ ss) s) (omega (arith, near)) (last A B h1) (last C D h2),
        )
    typed_members c d d' built (Method x (Does i params gives all arrow) ∷ rest) ss s near h1 h2 =
        let r : Routine = Does i params gives all arrow in
        let A = member_failure tables.names names k.entries k.classes c d' built (Method x r) in
        let B = members_failure tables.names names k.entries k.classes c (d' + 1) (built || false) rest in
        let C = body_failure tables names k (this.Object c) (kind_at k d) r in
        let D = members_nodes tables names k c (suc d) rest in
        let u1 = unless (not (is_second k.entries d' (o.Class c) x)) TwiceNamed i in
        let u2 = unless (not (inherits_field k.entries k.classes c x)) TwiceNamed i in
        let pf = parameters_failure names params 0 params in
        let wf = written_failure names i gives in
        let hr = last u2 (pf then wf) (last u1 (u2 then pf then wf) (first A B h1)) in
        let src : Source = routine_source names (this.Object c) r in (
          result_known (this.Object c) d i params gives all arrow (suffix_head sources d src (member_sources names c rest ++ ss) s) near (last pf wf hr) (first C D h2),
          typed_members c (suc d) (d' + 1) (built || false) rest ss (suffix_one sources d src (member_sources names c rest ++ ss) s) (omega (arith, near)) (last A B h1) (last C D h2),
        )
    typed_members c d d' built (Constructor r ∷ rest) ss s near h1 h2 =
        let A = member_failure tables.names names k.entries k.classes c d' built (Constructor r) in
        let B = members_failure tables.names names k.entries k.classes c (d' + 0) (built || true) rest in
        let C = constructor_failure tables names k (this.Object c) (base_of k.classes c) r in
        typed_members c d (d' + 0) (built || true) rest ss s near (last A B h1) (last C (members_nodes tables names k c d rest) h2)

    typed_globals : (d : ℕ) (fixed : Bool) (each : Declarations) (ss : List Source) → Suffix sources d (global_sources names each ++ ss) → k.library ≤ d
        → globals_failure tables names k each ≡ None → EachIs TypedAs d (global_entries fixed each)
    typed_globals d fixed ended ss s near h = tt
    typed_globals d fixed (next (Declare i x shape value) rest) ss s near h =
        let a : Declaration = Declare i x shape value in
        let A = outside_failure tables names k this.Nowhere a in
        let B = globals_failure tables names k rest in
        let src : Source = declared_source names this.Nowhere a in (
          declared_known this.Nowhere d i x shape value (suffix_head sources d src (global_sources names rest ++ ss) s) near (first A B h),
          typed_globals (suc d) fixed rest ss (suffix_one sources d src (global_sources names rest ++ ss) s) (omega (arith, near)) (last A B h),
        )

    typed_main : (d : ℕ) (a : Statement) (ss : List Source) → Suffix sources d (main_sources names a ++ ss) → k.library ≤ d → main_failure tables names k a ≡ None → EachIs TypedAs d (main_entries a)
    typed_main d (Let i fixed each) ss s near h = typed_globals d fixed each ss s near h
    typed_main d (Block i all) ss s near h = tt
    typed_main d (IfOnly i test a) ss s near h = tt
    typed_main d (IfElse i test a b) ss s near h = tt
    typed_main d (While i test a) ss s near h = tt
    typed_main d (DoWhile i a test) ss s near h = tt
    typed_main d (For i one test step a) ss s near h = tt
    typed_main d (ForOf i fixed x list a) ss s near h = tt
    typed_main d (Return i value) ss s near h = tt
    typed_main d (Break i) ss s near h = tt
    typed_main d (Continue i) ss s near h = tt
    typed_main d (Plain i a) ss s near h = tt
    typed_main d (Empty i) ss s near h = tt

    typed_item : (c d : ℕ) (i : TopLevel) (ss : List Source) → Suffix sources d (item_sources names c i ++ ss) → k.library ≤ d
        → item_failure tables.names names k.entries k.classes c d i ≡ None → item_nodes tables names k c d i ≡ None → EachIs TypedAs d (item_entries names c i)
    typed_item c d (Class at x base base_at members) ss s near h1 h2 =
        (tt, typed_members c (suc d) (d + 1) false members ss (suffix_one sources d (Stated None) (member_sources names c members ++ ss) s) (omega (arith, near)) h1 h2)
    typed_item c d (Function x (Does i params gives all arrow)) ss s near h1 h2 =
        let pf = parameters_failure names params 0 params in
        let src : Source = routine_source names this.Nowhere (Does i params gives all arrow) in
        (result_known this.Nowhere d i params gives all arrow (suffix_head sources d src ss s) near (last pf (written_failure names i gives) h1) h2, tt)
    typed_item c d (Main a) ss s near h1 h2 = typed_main d a ss s near h2

    pub typed_text : (c d : ℕ) (text : Program) → Suffix sources d (sources_from names c text) → k.library ≤ d → headings_failure tables.names names k.entries k.classes c d text ≡ None
        → nodes_failure tables names k c d text ≡ None → EachIs TypedAs d (entries_from names c text)
    typed_text c d [] s near h1 h2 = tt
    typed_text c d (i ∷ rest) s near h1 h2 =
        let es = item_entries names c i in
        let later = sources_from names (c + classes_in i) rest in
        let A = item_failure tables.names names k.entries k.classes c d i in
        let B = headings_failure tables.names names k.entries k.classes (c + classes_in i) (d + length es) rest in
        let C = item_nodes tables names k c d i in
        let D = nodes_failure tables names k (c + classes_in i) (d + length es) rest in
        let s' : Suffix sources (d + length es) later = suffix_at sources (d + length (item_sources names c i)) (d + length es) later (ap (λ (j : ℕ). d + j) (item_sourced names c i)) (suffix_step sources d (item_sources names c i) later s) in
        each_is_both TypedAs d es (entries_from names (c + classes_in i) rest) (typed_item c d i later s near (first A B h1) (first C D h2))
        (typed_text (c + classes_in i) (d + length es) rest s' (omega (arith, near)) (last A B h1) (last C D h2))
