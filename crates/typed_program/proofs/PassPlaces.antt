-- Each failure of the passes over a text is at a place of the text's tree, or at 0.
use Rattle.std.proofs.Common.{◌≡◌, ℕ, suc, ◌+◌, Bool, false, not, ◌||◌, Some, None, List, [], ◌∷◌, ◌++◌, length, drop, take, refl, sym, ap, subst, ◌∙◌, append_assoc, length-append}
use Rattle.std.specs.Prelude.{Option, is_some, ◌&&◌, codes}
use Rattle.std.proofs.Math.Seq.{drop-append_seam}
use Rattle.sts_base.specs.declared.tables.Tables.{Tables}
use Rattle.sts_base.specs.declared.refused.Code.TheVariants.{UnknownName, TwiceNamed, NeedsType, ClassCycle, Mismatch, OverLimit}
use Rattle.sts_syntax.specs.Trees.{Parameter, SuperCall, Statement, Let, Plain, Statements, also, Declaration, Declare, Declarations, ended, next, Routine, Does}
use Rattle.sts_syntax.specs.Programs.{ClassMember, Field, Method, Constructor, TopLevel, Class, Function, Main, Program}
use Rattle.sts_syntax.specs.TypedTrees.{TypedProgram}
use Rattle.sts_scope.specs.declared.kinds.StaticType.{StaticType}
use Rattle.sts_scope.specs.declared.entries.Owner.{Owner}
use Rattle.sts_scope.specs.declared.entries.Owner.TheVariants as o
use Rattle.sts_scope.specs.declared.entries.DeclarationKind.{DeclarationKind}
use Rattle.sts_scope.specs.declared.entries.DeclarationKind.TheVariants as sort
use Rattle.sts_scope.specs.declared.entries.Entry.{Entry}
use Rattle.sts_scope.specs.declared.entries.ClassHead.{ClassHead}
use Rattle.sts_scope.specs.declared.known.Known.{Known}
use Rattle.sts_scope.specs.declared.known.This.{This}
use Rattle.sts_scope.specs.declared.known.This.TheVariants as this
use Rattle.sts_scope.specs.Kinds.{nothing}
use Rattle.sts_scope.specs.Failures.{Failure, ◌then◌, failure_at, unless, own}
use Rattle.sts_scope.specs.Lookup.{base_of, is_second, inherited, inherits_field}
use Rattle.sts_scope.specs.Entries.{Naming, class_names, item_class, classes_in, routine_entry, global_entries, main_entries, member_entry, member_entries, item_entries, entries_from, item_heads, heads_of}
use Rattle.sts_scope.specs.Globals.{is_dollar, name_failure, names_failure}
use Rattle.sts_scope.specs.Bases.{base_failure, bases_failure, is_endless, chain_failure, chains_failure}
use Rattle.sts_scope.specs.Headings.{written_failure, takes_name, parameters_failure, routine_failure, routine_at, is_typed, is_constructor, field_failure, method_failure, member_failure, members_failure, item_failure, headings_failure}
use Rattle.sts_scope.specs.Places.{NameScope, outside}
use Rattle.sts_scope.specs.Rules.{kind_at, maker_takes_of, all_go, is_spelled}
use Rattle.sts_scope.specs.Scopes.{all_names, all_entries, all_classes, library_entries, library_classes, heading_refusal}
use Rattle.type_derive.specs.Typing.{◌>>=◌, types_of}
use Rattle.type_derive.specs.Returns.{parameter_locals, within}
use Rattle.type_derive.specs.Nodes.{initial_failure, own_bound, failures, statements_failure}
use Rattle.type_derive.specs.Passes.{agrees, overrides_failure, item_overrides, all_overrides, globals_failure, main_failure, body_failure, own_super_call, made_failure, constructor_failure, members_nodes, item_nodes, nodes_failure}
use Rattle.type_derive.specs.Passes as passes
use Rattle.typed_limits.specs.Limits.{program_fits}
use Rattle.typed_laws.specs.Accepted.{limits_failure, typed, text_failure, refusal}
use Rattle.type_derive.specs.Derived.{known}
use Rattle.typed_program.proofs.NodePlaces.{ParametersAt, RoutineAt, DeclarationAt, DeclarationsAt, StatementAt, StatementsAt, MemberAt, MembersAt, ItemAt, ProgramAt}
use Rattle.typed_program.proofs.FailurePlaces.{FailsAt, none_in, at_in, then_in, unless_in, own_in, written_in, bound_in, initial_in, failures_in, statement_in, statements_in}

-- the library's declarations and classes stand first
entries-append : (f : Naming) (c : ℕ) (xs ys : Program) → (d : ℕ) × (entries_from f c (xs ++ ys) ≡ entries_from f c xs ++ entries_from f d ys)
entries-append f c [] ys = (c, refl)
entries-append f c (x ∷ xs) ys =
    let r = entries-append f (c + classes_in x) xs ys in
    (r.0, ap (λ zs. item_entries f c x ++ zs) r.1 ∙ sym (append_assoc (item_entries f c x) (entries_from f (c + classes_in x) xs) (entries_from f r.0 ys)))

heads-append : (f : Naming) (xs ys : Program) → heads_of f (xs ++ ys) ≡ heads_of f xs ++ heads_of f ys
heads-append f [] ys = refl
heads-append f (x ∷ xs) ys = ap (λ zs. item_heads f x ++ zs) (heads-append f xs ys) ∙ sym (append_assoc (item_heads f x) (heads_of f xs) (heads_of f ys))

item_head_count : (f : Naming) (x : TopLevel) → length (item_heads f x) ≡ length (item_class x)
item_head_count f (Class at name base base_at members) = refl
item_head_count f (Function name r) = refl
item_head_count f (Main a) = refl

head_count : (f : Naming) (xs : Program) → length (heads_of f xs) ≡ length (class_names xs)
head_count f [] = refl
head_count f (x ∷ xs) =
    length-append (item_heads f x) (heads_of f xs) ∙ ap (λ n. n + length (heads_of f xs)) (item_head_count f x) ∙ ap (λ n. length (item_class x) + n) (head_count f xs)
    ∙ sym (length-append (item_class x) (class_names xs))

module _ (P : ℕ → Type 0) where
  abbrev In : Option Failure → Type 0
  In o = FailsAt P o

  abbrev EntriesAt : List Entry → Type 0
  EntriesAt [] = Unit {0}
  EntriesAt (e ∷ rest) = P e.at × EntriesAt rest

  abbrev HeadsAt : List ClassHead → Type 0
  HeadsAt [] = Unit {0}
  HeadsAt (c ∷ rest) = P c.at × P c.base_at × HeadsAt rest

  entries_joined : (xs ys : List Entry) → EntriesAt xs → EntriesAt ys → EntriesAt (xs ++ ys)
  entries_joined [] ys h g = g
  entries_joined (x ∷ xs) ys h g = (h.0, entries_joined xs ys h.1 g)

  global_entries_at : (fixed : Bool) (each : Declarations) → DeclarationsAt P each → EntriesAt (global_entries fixed each)
  global_entries_at fixed ended h = tt
  global_entries_at fixed (next (Declare at x shape first) rest) h = (h.0.0, global_entries_at fixed rest h.1)

  main_entries_at : (a : Statement) → StatementAt P a → EntriesAt (main_entries a)
  main_entries_at (Let at fixed each) h = global_entries_at fixed each h.1
  main_entries_at _ h = tt

  routine_entry_at : (names : Naming) (owner : Owner) (x : ℕ) (s : DeclarationKind) (r : Routine) → RoutineAt P r → P (routine_entry names owner x s r).at
  routine_entry_at names owner x s (Does at params gives all arrow) h = h.0

  routine_at_in : (r : Routine) → RoutineAt P r → P (routine_at r)
  routine_at_in (Does at params gives all arrow) h = h.0

  member_entry_at : (names : Naming) (c : ℕ) (m : ClassMember) → MemberAt P m → EntriesAt (member_entry names c m)
  member_entry_at names c (Field (Declare at x shape first)) h = (h.0, tt)
  member_entry_at names c (Method x r) h = (routine_entry_at names (o.Class c) x sort.Method r h, tt)
  member_entry_at names c (Constructor r) h = tt

  member_entries_at : (names : Naming) (c : ℕ) (ms : List ClassMember) → MembersAt P ms → EntriesAt (member_entries names c ms)
  member_entries_at names c [] h = tt
  member_entries_at names c (m ∷ rest) h = entries_joined (member_entry names c m) (member_entries names c rest) (member_entry_at names c m h.0) (member_entries_at names c rest h.1)

  item_entries_at : (names : Naming) (c : ℕ) (i : TopLevel) → ItemAt P i → EntriesAt (item_entries names c i)
  item_entries_at names c (Class at x base base_at members) h = (h.0, member_entries_at names c members h.2)
  item_entries_at names c (Function x r) h = (routine_entry_at names o.Whole x sort.Function r h, tt)
  item_entries_at names c (Main a) h = main_entries_at a h

  entries_at : (names : Naming) (c : ℕ) (text : Program) → ProgramAt P text → EntriesAt (entries_from names c text)
  entries_at names c [] h = tt
  entries_at names c (i ∷ rest) h = entries_joined (item_entries names c i) (entries_from names (c + classes_in i) rest) (item_entries_at names c i h.0) (entries_at names (c + classes_in i) rest h.1)

  heads_at : (names : Naming) (text : Program) → ProgramAt P text → HeadsAt (heads_of names text)
  heads_at names [] h = tt
  heads_at names (Class at x base base_at members ∷ rest) h = (h.0.0, h.0.1, heads_at names rest h.1)
  heads_at names (Function x r ∷ rest) h = heads_at names rest h.1
  heads_at names (Main a ∷ rest) h = heads_at names rest h.1

  -- names
  name_in : (spellings : List (List ℕ)) (owner : Owner) (x at : ℕ) (second : Bool) → P at → In (name_failure spellings owner x at second)
  name_in spellings o.Whole x at second h =
      then_in (unless (not (is_dollar spellings x)) UnknownName at) (unless (not second) TwiceNamed at)
      (unless_in (not (is_dollar spellings x)) UnknownName at h) (unless_in (not second) TwiceNamed at h)
  name_in spellings (o.Class c) x at second h = none_in

  names_in : (spellings : List (List ℕ)) (entries : List Entry) (d : ℕ) (es : List Entry) → EntriesAt es → In (names_failure spellings entries d es)
  names_in spellings entries d [] h = none_in
  names_in spellings entries d (e ∷ rest) h =
      then_in (name_failure spellings e.owner e.name e.at (is_second entries d e.owner e.name)) (names_failure spellings entries (d + 1) rest)
      (name_in spellings e.owner e.name e.at (is_second entries d e.owner e.name) h.0) (names_in spellings entries (d + 1) rest h.1)

  -- bases
  base_of_in : (name : Option ℕ) (base : Option ℕ) (at : ℕ) → P at → In (let f : Option Failure = elim name [ None ↦ None | Some x ↦ own base UnknownName at ] in f)
  base_of_in None base at h = none_in
  base_of_in (Some x) base at h = own_in base UnknownName at h

  bases_in : (cs : List ClassHead) → HeadsAt cs → In (bases_failure cs)
  bases_in [] h = none_in
  bases_in (c ∷ rest) h = then_in (base_failure c) (bases_failure rest) (base_of_in c.base_name c.base c.base_at h.1) (bases_in rest h.2)

  chains_in : (classes : List ClassHead) (n : ℕ) (cs : List ClassHead) → HeadsAt cs → In (chains_failure classes n cs)
  chains_in classes n [] h = none_in
  chains_in classes n (c ∷ rest) h =
      then_in (chain_failure classes n c) (chains_failure classes (n + 1) rest) (unless_in (not (is_endless classes n)) ClassCycle c.at h.0) (chains_in classes (n + 1) rest h.2)

  -- headings
  parameters_in : (names : Naming) (all : List Parameter) (i : ℕ) (params : List Parameter) → ParametersAt P params → In (parameters_failure names all i params)
  parameters_in names all i [] h = none_in
  parameters_in names all i (p ∷ rest) h =
      then_in (own p.shape NeedsType p.at then unless (not (takes_name (take i all) p.name)) TwiceNamed p.at then written_failure names p.at p.shape) (parameters_failure names all (i + 1) rest)
      (then_in (own p.shape NeedsType p.at) (unless (not (takes_name (take i all) p.name)) TwiceNamed p.at then written_failure names p.at p.shape) (own_in p.shape NeedsType p.at h.0)
      (then_in (unless (not (takes_name (take i all) p.name)) TwiceNamed p.at) (written_failure names p.at p.shape) (unless_in (not (takes_name (take i all) p.name)) TwiceNamed p.at h.0) (written_in names p.at p.shape h.0 h.1)))
      (parameters_in names all (i + 1) rest h.2)

  routine_in : (names : Naming) (r : Routine) → RoutineAt P r → In (routine_failure names r)
  routine_in names (Does at params gives all arrow) h =
      then_in (parameters_failure names params 0 params) (written_failure names at gives) (parameters_in names params 0 params h.1) (written_in names at gives h.0 h.2)

  module _ (spellings : List (List ℕ)) (names : Naming) (entries : List Entry) (classes : List ClassHead) where
    field_in : (c d : ℕ) (made : Bool) (a : Declaration) → DeclarationAt P a → In (field_failure spellings names entries classes c d made a)
    field_in c d made (Declare at x shape first) h =
        then_in (unless (not (made && is_spelled spellings x (codes "constructor"))) TwiceNamed at)
        (unless (not (is_second entries d (o.Class c) x)) TwiceNamed at then unless (not (is_some (inherited entries classes c x))) TwiceNamed at
        then unless (is_typed shape first) NeedsType at then written_failure names at shape)
        (unless_in (not (made && is_spelled spellings x (codes "constructor"))) TwiceNamed at h.0)
        (then_in (unless (not (is_second entries d (o.Class c) x)) TwiceNamed at)
        (unless (not (is_some (inherited entries classes c x))) TwiceNamed at then unless (is_typed shape first) NeedsType at then written_failure names at shape)
        (unless_in (not (is_second entries d (o.Class c) x)) TwiceNamed at h.0)
        (then_in (unless (not (is_some (inherited entries classes c x))) TwiceNamed at) (unless (is_typed shape first) NeedsType at then written_failure names at shape)
        (unless_in (not (is_some (inherited entries classes c x))) TwiceNamed at h.0)
        (then_in (unless (is_typed shape first) NeedsType at) (written_failure names at shape) (unless_in (is_typed shape first) NeedsType at h.0) (written_in names at shape h.0 h.1))))

    method_in : (c d x : ℕ) (r : Routine) → RoutineAt P r → In (method_failure spellings names entries classes c d x r)
    method_in c d x r h =
        then_in (unless (not (is_second entries d (o.Class c) x)) TwiceNamed (routine_at r)) (unless (not (inherits_field entries classes c x)) TwiceNamed (routine_at r) then routine_failure names r)
        (unless_in (not (is_second entries d (o.Class c) x)) TwiceNamed (routine_at r) (routine_at_in r h))
        (then_in (unless (not (inherits_field entries classes c x)) TwiceNamed (routine_at r)) (routine_failure names r)
        (unless_in (not (inherits_field entries classes c x)) TwiceNamed (routine_at r) (routine_at_in r h)) (routine_in names r h))

    member_in : (c d : ℕ) (made : Bool) (m : ClassMember) → MemberAt P m → In (member_failure spellings names entries classes c d made m)
    member_in c d made (Field a) h = field_in c d made a h
    member_in c d made (Method x r) h = method_in c d x r h
    member_in c d made (Constructor r) h =
        then_in (unless (not made) TwiceNamed (routine_at r)) (routine_failure names r) (unless_in (not made) TwiceNamed (routine_at r) (routine_at_in r h)) (routine_in names r h)

    members_in : (c d : ℕ) (made : Bool) (ms : List ClassMember) → MembersAt P ms → In (members_failure spellings names entries classes c d made ms)
    members_in c d made [] h = none_in
    members_in c d made (m ∷ rest) h =
        then_in (member_failure spellings names entries classes c d made m) (members_failure spellings names entries classes c (d + length (member_entry names c m)) (made || is_constructor spellings m) rest)
        (member_in c d made m h.0) (members_in c (d + length (member_entry names c m)) (made || is_constructor spellings m) rest h.1)

    item_in : (c d : ℕ) (i : TopLevel) → ItemAt P i → In (item_failure spellings names entries classes c d i)
    item_in c d (Class at x base base_at members) h = members_in c (d + 1) false members h.2
    item_in c d (Function x r) h = routine_in names r h
    item_in c d (Main a) h = none_in

    headings_in : (c d : ℕ) (text : Program) → ProgramAt P text → In (headings_failure spellings names entries classes c d text)
    headings_in c d [] h = none_in
    headings_in c d (i ∷ rest) h =
        then_in (item_failure spellings names entries classes c d i) (headings_failure spellings names entries classes (c + classes_in i) (d + length (item_entries names c i)) rest)
        (item_in c d i h.0) (headings_in (c + classes_in i) (d + length (item_entries names c i)) rest h.1)

  heading_in : (spellings : List (List ℕ)) (library text : Program) → ProgramAt P text → In (heading_refusal spellings library text)
  heading_in spellings library text h =
      let f = all_names library text in
      let d = library_entries library text in
      let c = library_classes library text in
      let es = all_entries library text in
      let cs = all_classes library text in
      let r = entries-append f 0 library text in
      let behind : drop d es ≡ entries_from f r.0 text = ap (λ xs. drop d xs) r.1 ∙ drop-append_seam (entries_from f 0 library) (entries_from f r.0 text) in
      let own_entries : EntriesAt (drop d es) = subst EntriesAt (sym behind) (entries_at f r.0 text h) in
      let heads : drop c cs ≡ heads_of f text =
      ap (λ xs. drop c xs) (heads-append f library text) ∙ ap (λ n. drop n (heads_of f library ++ heads_of f text)) (sym (head_count f library)) ∙ drop-append_seam (heads_of f library) (heads_of f text) in
      let own_heads : HeadsAt (drop c cs) = subst HeadsAt (sym heads) (heads_at f text h) in
      then_in (names_failure spellings es d (drop d es)) (bases_failure (drop c cs) then chains_failure cs c (drop c cs) then headings_failure spellings f es cs c d text) (names_in spellings es d (drop d es) own_entries)
      (then_in (bases_failure (drop c cs)) (chains_failure cs c (drop c cs) then headings_failure spellings f es cs c d text) (bases_in (drop c cs) own_heads)
      (then_in (chains_failure cs c (drop c cs)) (headings_failure spellings f es cs c d text) (chains_in cs c (drop c cs) own_heads) (headings_in spellings f es cs c d text h)))

  -- overriding methods
  module _ (k : Known) where
    overrides_in : (c d : ℕ) (ms : List ClassMember) → MembersAt P ms → In (overrides_failure k c d ms)
    overrides_in c d [] h = none_in
    overrides_in c d (Field a ∷ rest) h = overrides_in c (suc d) rest h.1
    overrides_in c d (Method x r ∷ rest) h =
        then_in (unless (agrees k d (inherited k.entries k.classes c x)) Mismatch (routine_at r)) (overrides_failure k c (suc d) rest)
        (unless_in (agrees k d (inherited k.entries k.classes c x)) Mismatch (routine_at r) (routine_at_in r h.0)) (overrides_in c (suc d) rest h.1)
    overrides_in c d (Constructor r ∷ rest) h = overrides_in c d rest h.1

    item_overrides_in : (c d : ℕ) (i : TopLevel) → ItemAt P i → In (item_overrides k c d i)
    item_overrides_in c d (Class at x base base_at members) h = overrides_in c (suc d) members h.2
    item_overrides_in c d (Function x r) h = none_in
    item_overrides_in c d (Main a) h = none_in

    all_overrides_in : (names : Naming) (c d : ℕ) (text : Program) → ProgramAt P text → In (all_overrides k names c d text)
    all_overrides_in names c d [] h = none_in
    all_overrides_in names c d (i ∷ rest) h =
        then_in (item_overrides k c d i) (all_overrides k names (c + classes_in i) (d + length (item_entries names c i)) rest) (item_overrides_in c d i h.0)
        (all_overrides_in names (c + classes_in i) (d + length (item_entries names c i)) rest h.1)

  -- nodes
  module _ (tables : Tables) (names : Naming) (k : Known) where
    declared_in : (self : This) (a : Declaration) → DeclarationAt P a → In (passes.outside_failure tables names k self a)
    declared_in self (Declare at x shape first) h =
        let p = outside self false None in
        then_in (written_failure names at shape) (initial_failure tables names k p shape first then own_bound tables names k p shape first at) (written_in names at shape h.0 h.1)
        (then_in (initial_failure tables names k p shape first) (own_bound tables names k p shape first at) (initial_in P tables names k p shape first h.2) (bound_in P tables names k p shape first at h.0))

    globals_in : (each : Declarations) → DeclarationsAt P each → In (globals_failure tables names k each)
    globals_in ended h = none_in
    globals_in (next a rest) h = then_in (passes.outside_failure tables names k this.Nowhere a) (globals_failure tables names k rest) (declared_in this.Nowhere a h.0) (globals_in rest h.1)

    main_in : (a : Statement) → StatementAt P a → In (main_failure tables names k a)
    main_in (Let at fixed each) h = globals_in each h.1
    main_in a h = statement_in P tables names k (outside this.Nowhere false None) a h

    body_in : (self : This) (result : Option StaticType) (r : Routine) → RoutineAt P r → In (body_failure tables names k self result r)
    body_in self result (Does at params gives all arrow) h = statements_in P tables names k (within (parameter_locals names params) self result false) all h.3

    super_call_in : (ts : Option (List StaticType)) (takes : List StaticType) (at : ℕ) → P at → In (own_super_call k ts takes at)
    super_call_in None takes at h = at_in Mismatch at h
    super_call_in (Some ts) takes at h = unless_in (all_go k.classes ts takes) Mismatch at h

    made_in : (p : NameScope) (at b : ℕ) (all : Statements) → P at → StatementsAt P all → In (made_failure tables names k p at b all)
    made_in p at b (also (Plain j (SuperCall i None args)) rest) g h =
        then_in (failures tables names k p [] args) (own_super_call k (types_of tables k p args) (maker_takes_of k.classes b) i then statements_failure tables names k p rest)
        (failures_in P tables names k p [] args h.0.1.1)
        (then_in (own_super_call k (types_of tables k p args) (maker_takes_of k.classes b) i) (statements_failure tables names k p rest)
        (super_call_in (types_of tables k p args) (maker_takes_of k.classes b) i h.0.1.0) (statements_in P tables names k p rest h.1))
    made_in p at b all g h = then_in (statements_failure tables names k p all) (failure_at Mismatch at) (statements_in P tables names k p all h) (at_in Mismatch at g)

    constructor_in : (self : This) (b : Option ℕ) (r : Routine) → RoutineAt P r → In (constructor_failure tables names k self b r)
    constructor_in self None r h = body_in self (Some nothing) r h
    constructor_in self (Some b) (Does at params gives all arrow) h = made_in (within (parameter_locals names params) self (Some nothing) false) at b all h.0 h.3

    members_nodes_in : (c d : ℕ) (ms : List ClassMember) → MembersAt P ms → In (members_nodes tables names k c d ms)
    members_nodes_in c d [] h = none_in
    members_nodes_in c d (Field a ∷ rest) h =
        then_in (passes.outside_failure tables names k (this.Object c) a) (members_nodes tables names k c (suc d) rest) (declared_in (this.Object c) a h.0) (members_nodes_in c (suc d) rest h.1)
    members_nodes_in c d (Method x r ∷ rest) h =
        then_in (body_failure tables names k (this.Object c) (kind_at k d) r) (members_nodes tables names k c (suc d) rest) (body_in (this.Object c) (kind_at k d) r h.0) (members_nodes_in c (suc d) rest h.1)
    members_nodes_in c d (Constructor r ∷ rest) h =
        then_in (constructor_failure tables names k (this.Object c) (base_of k.classes c) r) (members_nodes tables names k c d rest) (constructor_in (this.Object c) (base_of k.classes c) r h.0)
        (members_nodes_in c d rest h.1)

    item_nodes_in : (c d : ℕ) (i : TopLevel) → ItemAt P i → In (item_nodes tables names k c d i)
    item_nodes_in c d (Class at x base base_at members) h = members_nodes_in c (suc d) members h.2
    item_nodes_in c d (Function x r) h = body_in this.Nowhere (kind_at k d) r h
    item_nodes_in c d (Main a) h = main_in a h

    nodes_in : (c d : ℕ) (text : Program) → ProgramAt P text → In (nodes_failure tables names k c d text)
    nodes_in c d [] h = none_in
    nodes_in c d (i ∷ rest) h =
        then_in (item_nodes tables names k c d i) (nodes_failure tables names k (c + classes_in i) (d + length (item_entries names c i)) rest) (item_nodes_in c d i h.0)
        (nodes_in (c + classes_in i) (d + length (item_entries names c i)) rest h.1)

  -- all passes
  limits_in : (texts : List (List ℕ)) → P 0 → (x : Option TypedProgram) → In (x >>= λ p. limits_failure texts p)
  limits_in texts start (Some p) = unless_in (program_fits texts p) OverLimit 0 start
  limits_in texts start None = none_in

  pub refusal_in : (tables : Tables) (library text : Program) (kinds : List (Option StaticType)) → P 0 → ProgramAt P text → In (refusal tables library text kinds)
  refusal_in tables library text kinds start h =
      let names = all_names library text in
      let k = known library text kinds in
      let c = library_classes library text in
      then_in (text_failure tables library text kinds) (typed tables library text kinds >>= λ p. limits_failure tables.texts p)
      (then_in (heading_refusal tables.names library text) (all_overrides k names c k.library text then nodes_failure tables names k c k.library text) (heading_in tables.names library text h)
      (then_in (all_overrides k names c k.library text) (nodes_failure tables names k c k.library text) (all_overrides_in k names c k.library text h) (nodes_in tables names k c k.library text h)))
      (limits_in tables.texts start (typed tables library text kinds))
