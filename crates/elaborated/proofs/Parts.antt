-- The parts of expressions and statements of which elaboration tells the failure, the type and what is made.
use Rattle.std.proofs.Common.{◌≡◌, ℕ, suc, refl, sym, ap, ◌∙◌, subst, Bool, true, false, ◌&&◌, ◌||◌, Option, Some, None, List, [], ◌∷◌}
use Rattle.std.specs.Prelude.{ℤ, pos, is_some, Result, if◌then◌else◌}
use Rattle.std.specs.Option.{option_map}
use Rattle.sts_base.specs.declared.tables.Tables.{Tables}
use Rattle.sts_base.specs.declared.refused.Code.{Code}
use Rattle.sts_base.specs.declared.refused.Code.TheVariants.{BadHandler, Mismatch}
use Rattle.sts_syntax.specs.Annotations.{Annotation}
use Rattle.sts_syntax.specs.declared.typed.Callee.{Callee as Target}
use Rattle.sts_syntax.specs.declared.typed.Callee.TheVariants as c
use Rattle.sts_syntax.specs.Types as t
use Rattle.sts_syntax.specs.Types.{ValueType}
use Rattle.sts_syntax.specs.TypedTrees as e
use Rattle.sts_syntax.specs.TypedTrees.{TypedTree, TypedTrees, TypedStatement, TypedStatements, OptionalTypedStatement, TypedDeclaration, TypedRoutine}
use Rattle.sts_syntax.specs.BoardTable.{BoardParameter, row_of}
use Rattle.sts_syntax.specs.declared.board_calls.BoardCall.{BoardCall}
use Rattle.sts_syntax.specs.Trees.{Tree, Text, Name, Member, Items, Handler, Trees, none, OptionalTree, absent, present, Statement, Routine, Does}
use Rattle.sts_scope.specs.declared.kinds.StaticType.{StaticType}
use Rattle.sts_scope.specs.declared.entries.ClassHead.{ClassHead}
use Rattle.sts_scope.specs.declared.known.Known.{Known}
use Rattle.sts_scope.specs.declared.known.Found.{Found}
use Rattle.sts_scope.specs.declared.known.Found.TheVariants as found
use Rattle.sts_scope.specs.declared.known.Part.{Part}
use Rattle.sts_scope.specs.declared.known.Part.TheVariants as part
use Rattle.sts_scope.specs.Kinds.{number, text, nothing, object, value_type}
use Rattle.sts_scope.specs.Failures.{Failure, ◌then◌, unless, own}
use Rattle.sts_scope.specs.Entries.{written_kind}
use Rattle.sts_scope.specs.Numbers.{routine_number, slot_names, place_among}
use Rattle.sts_scope.specs.Places.{NameScope}
use Rattle.sts_scope.specs.Codes.{why_name, why_part, why_call, why_make, why_super}
use Rattle.sts_scope.specs.Rules.{name_kind, part_of, part_kind, takes_at, kind_at, maker_takes_of, is_boolean, call_kind, goes, serves, all_go}
use Rattle.type_derive.specs.declared.roles.Role.{Role}
use Rattle.type_derive.specs.declared.roles.Role.TheVariants as role
use Rattle.type_derive.specs.Typing.{◌>>=◌, Callee, callee, board_kind, fits, finds, constant_of, board_callee, named_callee, part_callee, callee_of, called, made, super_method, settable, type_of, types_of, are_given, is_routine, is_drawing, names_function, draws, drawn, text_at, behind}
use Rattle.type_derive.specs.Typing as typing
use Rattle.type_derive.specs.Returns.{bound}
use Rattle.type_derive.specs.Nodes.{failure, failures, why_named, lacks_handler, own_bound, own_test, test_failure, serves_itself, takes_nothing, kind_role}
use Rattle.type_derive.specs.Making.{Made, Making, ◌>=>◌, looked, pure}
use Rattle.type_derive.specs.Built.{Site, board_target, frame_of, function_found, class_found, member_read, part_target, part_takes, type_in, drawing, made_tree, made_call, made_given, made_items, made_asked, made_handler, made_body, made_value, made_statement}
use Rattle.elaborated.specs.Elaborating.{Elab, yields, fails, both_made, carries_on, need, check}
use Rattle.elaborated.specs.Elaborated as s
use Rattle.elaborated.specs.Elaborated.{Whole, Seen, SeenAll, Callable, BoardArguments, Place, Free, Given, of_kind, with_one_more, one_asked, drawing_tree, kind_declared, why_declared, tree_of, is_boolean_test, may_return, given_some, given_written, given_first, given_later}
use Rattle.elaborated.specs.Laws.{role_at, given_by, IsMadeAt, tree_alone}
use Rattle.elaborated.proofs.Telling.{Tells, ok_tells, err_tells, as_failure, as_made, then_tells, last_tells, ends_tells, need_tells, need_last, need_there, node_tells, check_last, as_routine, made_then, made_end, looked_is}
use Rattle.elaborated.proofs.Nodes.{constant_untyped, board_untyped, HasPart, has_part, read_there, serving_is}

pub some_is : {A : Type 0} (a b : A) → Some a ≡ Some b → a ≡ b
some_is {A} a b h = cc

pub bind_is : {A B : Type 0} (o : Option A) (f : A → Option B) (a : A) → o ≡ Some a → (o >>= f) ≡ f a
bind_is {A} {B} o f a h = ap (λ (p : Option A). p >>= f) h

abbrev pub made_of : {A : Type 0} → A → Made A
made_of a = record { it = a; locals = []; routines = [] }

abbrev pub trees_alone : Made SeenAll → Made TypedTrees
trees_alone x = record { it = x.it.trees; locals = x.locals; routines = x.routines }

-- a node of a known type is noted
pub noted_node : (o : Option StaticType) (kind : StaticType) (make : ValueType → TypedTree) → o ≡ Some kind
    → (option_map value_type o >>= λ (u : ValueType). Some (made_of (make u))) ≡ Some (made_of (make (value_type kind)))
noted_node o kind make is = ap (λ (p : Option StaticType). option_map value_type p >>= λ (u : ValueType). Some (made_of (make u))) is

pub calls_go : (classes : List ClassHead) (takes : List StaticType) (gives : Option StaticType) (us : List StaticType) (kind : StaticType)
    → call_kind classes takes gives us ≡ Some kind → all_go classes us takes ≡ true
unfolding call_kind
calls_go classes takes gives us kind h = go (all_go classes us takes) h
  where
    go : (x : Bool) → (if x then gives else None) ≡ Some kind → x ≡ true
    go true h = refl
    go false h = cc

pub assoc : (F G H : Option Failure) → (F then (G then H)) ≡ ((F then G) then H)
assoc None G H = refl
assoc (Some f) G H = refl

pub false_is_not : false ≡ true → ⊥
false_is_not h = cc

pub no_truth : (A : Type 0) → false ≡ true → A
no_truth A h = absurd (false_is_not h)

-- arguments of the board's calls
pub some_trees : (o : Option TypedTree) (lacks : Bool) (xs : BoardArguments) → is_some (one_asked o lacks xs).trees ≡ (is_some o && is_some xs.trees)
some_trees None lacks xs = refl
some_trees (Some a) lacks xs = go xs.trees
  where
    go : (o : Option TypedTrees) → is_some (option_map (e.more a) o) ≡ is_some o
    go None = refl
    go (Some y) = refl

pub record AskedParts (o : Option TypedTree) (xs : BoardArguments) (ts : TypedTrees) : Type 0 where
  pub one : TypedTree
  pub one_is : o ≡ Some one
  pub all : TypedTrees
  pub all_is : xs.trees ≡ Some all
  pub whole : e.more one all ≡ ts

pub asked_parts : (o : Option TypedTree) (lacks : Bool) (xs : BoardArguments) (ts : TypedTrees) → (one_asked o lacks xs).trees ≡ Some ts → AskedParts o xs ts
asked_parts None lacks xs ts h = cc
asked_parts (Some a) lacks xs ts h = go xs.trees refl h
  where
    go : (o : Option TypedTrees) → xs.trees ≡ o → option_map (e.more a) o ≡ Some ts → AskedParts (Some a) xs ts
    go None q h = cc
    go (Some y) q h = record { one = a; one_is = refl; all = y; all_is = q; whole = some_is (e.more a y) ts h }

pub lacking : (o : Option TypedTree) (lacks : Bool) (xs : BoardArguments) → (one_asked o lacks xs).lacks_handler ≡ (lacks || xs.lacks_handler)
lacking None lacks xs = refl
lacking (Some a) lacks xs = refl

pub if_some : {A : Type 0} (x : Bool) (a : A) → is_some (if x then Some a else None) ≡ x
if_some {A} true a = refl
if_some {A} false a = refl

pub drawn_tree : (tables : Tables) (a : Tree) → is_drawing tables a ≡ is_some (drawing_tree tables a)
drawn_tree tables (Text at n) = sym (if_some (draws (text_at tables n)) (e.Num t.Number _))
drawn_tree tables a = refl

pub if_is : {A : Type 0} (x : Bool) (a b : A) → (if x then Some a else None) ≡ Some b → (x ≡ true) × (a ≡ b)
if_is {A} true a b h = (refl, some_is a b h)
if_is {A} false a b h = cc

pub unnamed : (k : Known) (p : NameScope) (f : Found) (u : StaticType) → name_kind k p f ≡ Some u → names_function f ≡ false
unnamed k p (found.Function d) u h = cc
unnamed k p f u h = refl

module _ (w : Whole) where
  abbrev pub elab : Site → Place → Tree → Elab Seen
  elab = s.elab w

  abbrev pub type_at : Site → Role → Tree → Option StaticType
  type_at p r a = type_of w.tables w.known p.place r a

  abbrev pub types_at : Site → Trees → Option (List StaticType)
  types_at p args = types_of w.tables w.known p.place args

  abbrev pub failure_at_node : Site → Place → Tree → Option Failure
  failure_at_node p r a = failure w.tables w.names w.known p.place (role_at r) a

  abbrev pub failures_at : Site → List BoardParameter → Trees → Option Failure
  failures_at p takes args = failures w.tables w.names w.known p.place takes args

  abbrev pub make : Site → Option StaticType → Tree → Making TypedTree
  make p g a = made_tree w.tables w.names w.known w.numbers p g a

  abbrev pub make_given : Site → List StaticType → Trees → Making TypedTrees
  make_given p takes args = made_given w.tables w.names w.known w.numbers p takes args

  -- what an expression gives: its type, and what is made of it
  pub record Sees (p : Site) (r : Place) (a : Tree) (m n : ℕ) (x : Made Seen) : Type 0 where
    pub kind : type_at p (role_at r) a ≡ Some x.it.kind
    pub tree : IsMadeAt r → make p (given_by r) a m n ≡ Some (tree_alone x)

  pub record SeesGiven (p : Site) (takes : List StaticType) (args : Trees) (m n : ℕ) (x : Made SeenAll) : Type 0 where
    pub kinds : types_at p args ≡ Some x.it.kinds
    pub trees : all_go w.known.classes x.it.kinds takes ≡ true → make_given p takes args m n ≡ Some (trees_alone x)

  pub record SeesItems (p : Site) (u : StaticType) (items : Trees) (m n : ℕ) (x : Made SeenAll) : Type 0 where
    pub kinds : types_at p items ≡ Some x.it.kinds
    pub trees : made_items w.tables w.names w.known w.numbers p u items m n ≡ Some (trees_alone x)

  pub record SeesAsked (p : Site) (takes : List BoardParameter) (args : Trees) (m n : ℕ) (x : Made BoardArguments) : Type 0 where
    pub lacks : lacks_handler w.tables w.known p.place takes args ≡ x.it.lacks_handler
    pub fit : are_given w.tables w.known p.place takes args ≡ is_some x.it.trees
    pub trees : (ts : TypedTrees) → x.it.trees ≡ Some ts
        → made_asked w.tables w.names w.known w.numbers p takes args m n ≡ Some (record { it = ts; locals = x.locals; routines = x.routines })

  pub record SeesHandler (p : Site) (a : Tree) (m n : ℕ) (x : Made (Option TypedTree)) : Type 0 where
    pub is : is_routine w.tables w.known p.place a ≡ is_some x.it
    pub tree : (y : TypedTree) → x.it ≡ Some y → made_handler w.tables w.names w.known w.numbers p a m n ≡ Some (record { it = y; locals = x.locals; routines = x.routines })

  abbrev pub SeesBody : Site → Routine → ℕ → ℕ → Made TypedStatements → Type 0
  SeesBody p (Does at params gives all arrow) m n x =
      takes_nothing params ≡ true → made_body w.tables w.names w.known w.numbers p (Does at params gives all arrow) m n ≡ Some x

  -- names
  pub name_failure : (p : Site) (r : Place) (at x : ℕ) → own (name_kind w.known p.place (finds w.tables w.known p.place x)) (why_name (finds w.tables w.known p.place x)) at
      ≡ failure_at_node p r (Name at x)
  name_failure p Free at x = refl
  name_failure p (Given kind) at x = refl

  -- the arguments of a call, and then the call
  pub call_tells : (p : Site) (takes : List StaticType) (gives : Option StaticType) (args : Trees) (why : Code) (at m n : ℕ) (node : TypedTrees → ValueType → TypedTree) (K : Made Seen → Type 0)
      → Tells (s.elab_given w p takes args m n) (failures_at p [] args) (SeesGiven p takes args m n)
      → ((xs : Made SeenAll) (kind : StaticType) → called w.known (Some (callee takes gives)) (types_at p args) ≡ Some kind → make_given p takes args m n ≡ Some (trees_alone xs)
      → K (both_made xs (made_of (record { tree = node xs.it.trees (value_type kind); kind = kind }))))
      → Tells (carries_on (s.elab_given w p takes args m n) (λ xs. s.called_with w takes gives why at (λ u. node xs.trees u) xs) m n)
      (failures_at p [] args then own (called w.known (Some (callee takes gives)) (types_at p args)) why at) K
  call_tells p takes gives args why at m n node K told so =
      then_tells (s.elab_given w p takes args m n) _ m n (failures_at p [] args) _ _ K told (λ xs h.
      let same : called w.known (Some (callee takes gives)) (types_at p args) ≡ call_kind w.known.classes takes gives xs.it.kinds =
      bind_is (types_at p args) (λ us. call_kind w.known.classes takes gives us) xs.it.kinds h.kinds in
      node_tells (call_kind w.known.classes takes gives xs.it.kinds) why at _ _ (λ u. node xs.it.trees u) _ _ (ap (λ (o : Option StaticType). own o why at) (sym same))
      (λ kind is. so xs kind (same ∙ is) (h.trees (calls_go w.known.classes takes gives xs.it.kinds kind is))))

  -- a member that is read
  abbrev pub member_elab : Site → ℕ → Tree → ℕ → Option ℤ → Option BoardCall → Elab Seen
  member_elab p at a i z b = elim z [
    | Some y ↦ of_kind number (λ u. e.Num u y)
    | None ↦ elim b [
      | Some call ↦ fails BadHandler at
      | None ↦ λ m n. carries_on (elab p Free a m n) (λ (x : Seen).
          need (part_kind w.known (part_of w.tables.names w.known x.kind i)) (why_part (part_of w.tables.names w.known x.kind i)) at (λ kind.
          need (member_read w.known (value_type kind) x.kind i (part_of w.tables.names w.known x.kind i) x.tree) (why_part (part_of w.tables.names w.known x.kind i)) at
          (λ tree. s.gives_seen tree kind))) m n
    ]
  ]

  abbrev pub member_type : Site → Tree → ℕ → Option ℤ → Option StaticType
  member_type p a i z = elim z [ Some y ↦ Some number | None ↦ type_at p role.Free a >>= λ u. part_kind w.known (part_of w.tables.names w.known u i) ]

  abbrev pub member_cause : Site → Tree → ℕ → Option BoardCall → Code
  member_cause p a i b = elim b [ Some call ↦ BadHandler | None ↦ elim (type_at p role.Free a) [ None ↦ Mismatch | Some u ↦ why_part (part_of w.tables.names w.known u i) ] ]

  abbrev pub member_made : Site → Tree → ℕ → (type : Option StaticType) → Option ℤ → Making TypedTree
  member_made p a i type z = elim z [
    | Some y ↦ pure (e.Num t.Number y)
    | None ↦ looked (option_map value_type type)
        (λ u. looked (type_in w.tables w.known p a) (λ v. make p None a >=> λ x. looked (member_read w.known u v i (part_of w.tables.names w.known v i) x) pure))
  ]

  pub member_tells : (p : Site) (r : Place) (at : ℕ) (a : Tree) (i m n : ℕ) (z : Option ℤ) (b : Option BoardCall) → constant_of w.tables w.known p.place a i ≡ z
      → board_callee w.tables w.known p.place (Member at a i) ≡ b
      → Tells (elab p Free a m n) (failure_at_node p Free a) (Sees p Free a m n)
      → Tells (member_elab p at a i z b m n)
      ((if is_some z || is_some b then None else failure_at_node p Free a) then own (member_type p a i z) (member_cause p a i b) at)
      (λ x. (member_type p a i z ≡ Some x.it.kind) × (member_made p a i (member_type p a i z) z m n ≡ Some (tree_alone x)))
  member_tells p r at a i m n (Some y) b qz qb told = ok_tells _ _ (refl, refl)
  member_tells p r at a i m n None (Some call) qz qb told =
      let untyped : type_at p role.Free a ≡ None = board_untyped w.tables w.known p.place at a i call qb in
      as_failure _ _ _ _ (sym (ap (λ (o : Option StaticType). own (o >>= λ u. part_kind w.known (part_of w.tables.names w.known u i)) BadHandler at) untyped)) (err_tells
      (record { code = BadHandler; at = at }) _)
  member_tells p r at a i m n None None qz qb told =
      then_tells (elab p Free a m n) _ m n _ _ _ _ told (λ x h.
      let part : Part = part_of w.tables.names w.known x.it.kind i in
      let same : (type_at p role.Free a >>= λ u. part_kind w.known (part_of w.tables.names w.known u i)) ≡ part_kind w.known part = bind_is (type_at p role.Free a)
      (λ u. part_kind w.known (part_of w.tables.names w.known u i)) x.it.kind h.kind in
      as_failure _ _ _ _ (sym (ap (λ (o : Option StaticType). own (o >>= λ u. part_kind w.known (part_of w.tables.names w.known u i)) (elim o [
        | None ↦ Mismatch
        | Some u ↦ why_part
            (part_of w.tables.names w.known u i)
      ]) at) h.kind))
      (need_last (part_kind w.known part) (why_part part) at _ _ _ _ (λ kind is.
      let (y, there) = read_there w.known (value_type kind) x.it.kind i part x.it.tree kind (has_part w.known w.tables.names x.it.kind i) is in
      need_there (member_read w.known (value_type kind) x.it.kind i part x.it.tree) y (why_part part) at _ _ _ None _ there
      (ok_tells _ _ (
        same ∙ is,
        looked_is (option_map value_type (type_at p role.Free a >>= λ u. part_kind w.known (part_of w.tables.names w.known u i))) _ (value_type kind) _ (ap (λ
            (o : Option StaticType). option_map value_type o) (same ∙ is))
            (looked_is (type_in w.tables w.known p a) _ x.it.kind _ h.kind
            (made_then _ _ _ _ (h.tree tt) (looked_is (member_read w.known (value_type kind) x.it.kind i part x.it.tree) _ y _ there refl))),
      )))))

  pub member_failure : (p : Site) (r : Place) (at : ℕ) (a : Tree) (i : ℕ) → failure_at_node p Free (Member at a i) ≡ failure_at_node p r (Member at a i)
  member_failure p Free at a i = refl
  member_failure p (Given kind) at a i = refl

  pub handler_failures : (p : Site) (r : Place) (at : ℕ) (body : Routine) → failure_at_node p Free (Handler at body) ≡ failure_at_node p r (Handler at body)
  handler_failures p Free at body = refl
  handler_failures p (Given kind) at body = refl

  -- what is called
  pub record Calls (p : Site) (args : Trees) (d : Callable) (m n : ℕ) (y : Made Seen) : Type 0 where
    pub kind : called w.known (Some (callee d.takes d.gives)) (types_at p args) ≡ Some y.it.kind
    pub given : Made TypedTrees
    pub given_is : make_given p d.takes args m n ≡ Some given
    pub is : y ≡ both_made given (made_of (record { tree = d.node (value_type y.it.kind) given.it; kind = y.it.kind }))

  pub record CallMade (p : Site) (f : Tree) (args : Trees) (m n : ℕ) (z : Made Seen) : Type 0 where
    pub kind : called w.known (callee_of w.tables w.known p.place f) (types_at p args) ≡ Some z.it.kind
    pub tree : made_call w.tables w.names w.known w.numbers p (value_type z.it.kind) f (λ takes. make_given p takes args) m n ≡ Some (tree_alone z)

  abbrev pub IfNone : Option Callee → (Option Callable → Elab Seen) → Option Failure → Type 0
  IfNone o rest G = (m n : ℕ) → o ≡ None → Tells (rest None m n) G (λ (y : Made Seen). ⊥)

  -- nothing is given
  pub never : (r : Result (Made Seen) Failure) (F : Option Failure) (L : Made Seen → Type 0) → Tells r F (λ (y : Made Seen). ⊥) → Tells r F L
  never r F L told = as_made r F (λ (y : Made Seen). ⊥) L (λ x h. absurd h) told

  abbrev pub IfCalled : Site → Trees → Option Callee → (Option Callable → Elab Seen) → Option Failure → Type 0
  IfCalled p args o rest G = (d : Callable) (m n : ℕ) → o ≡ Some (callee d.takes d.gives) → Tells (rest (Some d) m n) G (Calls p args d m n)

  abbrev pub NameMade : Site → Trees → Found → ℕ → ℕ → Made Seen → Type 0
  NameMade p args f m n z =
      (called w.known (named_callee w.known f) (types_at p args) ≡ Some z.it.kind)
      × (looked (function_found f) (λ d. make_given p (takes_at w.known.entries d) args >=> λ xs. pure (e.Call (value_type z.it.kind) (c.Function
      (routine_number w.numbers d)) xs)) m n ≡ Some (tree_alone z))

  pub name_tells : (p : Site) (args : Trees) (f : Found) (at m n : ℕ) (rest : Option Callable → Elab Seen) (G : Option Failure) → IfNone (named_callee w.known f) rest G
      → IfCalled p args (named_callee w.known f) rest G
      → Tells (s.called_name w p f at rest m n) ((if is_some (named_callee w.known f) then None else own (name_kind w.known p.place f) (why_name f) at) then G) (NameMade p args f m n)
  name_tells p args (found.Function d) at m n rest G is_none is_called =
      as_made _ _ _ _ (λ z h. (h.kind, made_end _ _ _ h.given_is ∙ ap (λ (y : Made Seen). Some (tree_alone y)) (sym h.is)))
      (is_called (record { takes = takes_at w.known.entries d; gives = kind_at w.known d; node = λ u xs. e.Call u (c.Function (routine_number w.numbers d)) xs }) m n refl)
  name_tells p args (found.Local i) at m n rest G is_none is_called = need_tells (name_kind w.known p.place (found.Local i)) (why_name (found.Local i)) at m n _ G _
      (λ kind is. never _ _ _ (is_none m n refl))
  name_tells p args (found.Global i) at m n rest G is_none is_called = need_tells (name_kind w.known p.place (found.Global i)) (why_name (found.Global i)) at m n _ G _
      (λ kind is. never _ _ _ (is_none m n refl))
  name_tells p args found.Captured at m n rest G is_none is_called = err_tells _ _
  name_tells p args (found.Class i) at m n rest G is_none is_called = err_tells _ _
  name_tells p args found.Unknown at m n rest G is_none is_called = err_tells _ _

  pub record PartMade (p : Site) (args : Trees) (x : Seen) (i : ℕ) (f : Part) (m n : ℕ) (y : Made Seen) : Type 0 where
    pub kind : called w.known (part_callee w.known f) (types_at p args) ≡ Some y.it.kind
    pub target : Target
    pub target_is : part_target w.known x.kind i f ≡ Some target
    pub given : Made TypedTrees
    pub given_is : make_given p (part_takes w.known f) args m n ≡ Some given
    pub is : y ≡ both_made given (made_of (record { tree = e.Call (value_type y.it.kind) target (e.more x.tree given.it); kind = y.it.kind }))

  abbrev pub part_called : Seen → List StaticType → Option StaticType → Target → Callable
  part_called x takes gives target = record { takes = takes; gives = gives; node = λ u xs. e.Call u target (e.more x.tree xs) }

  pub part_tells : (p : Site) (args : Trees) (x : Seen) (i : ℕ) (f : Part) (at m n : ℕ) (rest : Option Callable → Elab Seen) (G : Option Failure) → HasPart w.known x.kind f
      → IfNone (part_callee w.known f) rest G → IfCalled p args (part_callee w.known f) rest G
      → Tells (s.called_part w x i f at rest m n) ((if is_some (part_callee w.known f) then None else own (part_kind w.known f) (why_part f) at) then G) (PartMade p args x i f m n)
  part_tells p args x i (part.Method d) at m n rest G (a, is) is_none is_called =
      let target : Target = c.Slot (place_among (slot_names w.known a) i) in
      let there : part_target w.known x.kind i (part.Method d) ≡ Some target = ap (λ (o : Option ℕ). option_map (λ (class : ℕ). c.Slot (place_among (slot_names w.known class) i)) o) is in
      need_there (part_target w.known x.kind i (part.Method d)) target Mismatch at m n _ G _ there
      (as_made _ _ _ _ (λ y h. record { kind = h.kind; target = target; target_is = there; given = h.given; given_is = h.given_is; is = h.is })
      (is_called (part_called x (takes_at w.known.entries d) (kind_at w.known d) target) m n refl))
  part_tells p args x i (part.Push u) at m n rest G has is_none is_called =
      as_made _ _ _ _ (λ y h. record { kind = h.kind; target = c.Push; target_is = refl; given = h.given; given_is = h.given_is; is = h.is })
      (is_called (part_called x (u ∷ []) (Some nothing) c.Push) m n refl)
  part_tells p args x i (part.Pop u) at m n rest G has is_none is_called =
      as_made _ _ _ _ (λ y h. record { kind = h.kind; target = c.Pop; target_is = refl; given = h.given; given_is = h.given_is; is = h.is })
      (is_called (part_called x [] (Some u) c.Pop) m n refl)
  part_tells p args x i (part.Field d) at m n rest G has is_none is_called = need_tells (part_kind w.known (part.Field d)) (why_part (part.Field d)) at m n _ G _
      (λ kind is. never _ _ _ (is_none m n refl))
  part_tells p args x i part.Length at m n rest G has is_none is_called = never _ _ _ (is_none m n refl)
  part_tells p args x i part.Missing at m n rest G has is_none is_called = err_tells _ _

  -- a member that is called
  abbrev pub MemberCalled : Tree → ℕ → Site → Option Callee
  MemberCalled a i p = type_at p role.Free a >>= λ u. part_callee w.known (part_of w.tables.names w.known u i)

  pub record MemberMade (p : Site) (args : Trees) (a : Tree) (i m n : ℕ) (z : Made Seen) : Type 0 where
    pub kind : called w.known (MemberCalled a i p) (types_at p args) ≡ Some z.it.kind
    pub tree : looked (type_in w.tables w.known p a) (λ v. looked (part_target w.known v i (part_of w.tables.names w.known v i)) (λ target. make p None a
        >=> λ x. make_given p (part_takes w.known (part_of w.tables.names w.known v i)) args >=> λ xs. pure (e.Call (value_type z.it.kind) target (e.more x xs)))) m n ≡ Some (tree_alone z)

  abbrev pub called_elab : Site → ℕ → Tree → ℕ → (Option Callable → Elab Seen) → Option ℤ → Elab Seen
  called_elab p at a i rest z = elim z [
    | Some y ↦ rest None
    | None ↦ λ m n. carries_on (elab p Free a m n) (λ (x : Seen). s.called_part w x i (part_of w.tables.names w.known x.kind i) at rest) m n
  ]

  pub called_member_tells : (p : Site) (args : Trees) (at : ℕ) (a : Tree) (i m n : ℕ) (rest : Option Callable → Elab Seen) (G : Option Failure) (z : Option ℤ) (b : Option BoardCall)
      → constant_of w.tables w.known p.place a i ≡ z → b ≡ None
      → Tells (elab p Free a m n) (failure_at_node p Free a) (Sees p Free a m n)
      → IfNone (MemberCalled a i p) rest G → IfCalled p args (MemberCalled a i p) rest G
      → Tells (called_elab p at a i rest z m n)
      (((if is_some z || is_some b then None else failure_at_node p Free a)
      then (if (is_some z || is_some b) || is_some (MemberCalled a i p) then None else own (member_type p a i z) (member_cause p a i b) at)) then G)
      (MemberMade p args a i m n)
  called_member_tells p args at a i m n rest G z (Some call) qz qb told is_none is_called = cc
  called_member_tells p args at a i m n rest G (Some y) None qz qb told is_none is_called =
      let untyped : type_at p role.Free a ≡ None = constant_untyped w.tables w.known p.place a i y qz in
      never _ _ _ (is_none m n (ap (λ (o : Option StaticType). o >>= λ u. part_callee w.known (part_of w.tables.names w.known u i)) untyped))
  called_member_tells p args at a i m n rest G None None qz qb told is_none is_called =
      as_failure _ _ _ _ (assoc (failure_at_node p Free a) _ G)
      (then_tells (elab p Free a m n) _ m n _ _ _ _ told (λ x h.
      let f : Part = part_of w.tables.names w.known x.it.kind i in
      let same : MemberCalled a i p ≡ part_callee w.known f = bind_is (type_at p role.Free a) (λ u. part_callee w.known (part_of w.tables.names w.known u i)) x.it.kind h.kind in
      as_failure _ _ _ _ (sym (ap (λ (o : Option StaticType). (if is_some (o >>= λ u. part_callee w.known (part_of w.tables.names w.known u i)) then None
      else own (o >>= λ u. part_kind w.known (part_of w.tables.names w.known u i)) (elim o [ None ↦ Mismatch | Some u ↦ why_part (part_of w.tables.names w.known u i) ]) at) then G) h.kind))
      (as_made _ _ _ _ (λ y j. record {
        kind = ap (λ (o : Option Callee). called w.known o (types_at p args)) same ∙ j.kind;
        tree = looked_is (type_in w.tables w.known p a) _ x.it.kind _ h.kind (looked_is (part_target w.known x.it.kind i f) _ j.target _ j.target_is
            (made_then _ _ _ _ (h.tree tt) (made_end _ _ _ j.given_is)))
            ∙ ap (λ (q : Made Seen). Some (tree_alone (both_made x q))) (sym j.is);
      })
      (part_tells p args x.it i f at _ _ rest G (has_part w.known w.tables.names x.it.kind i)
      (λ o l q. is_none o l (same ∙ q)) (λ d o l q. is_called d o l (same ∙ q))))))

  -- a call
  abbrev pub call_type : Site → Tree → Trees → Option BoardCall → Option StaticType
  call_type p f args b = elim b [
    | Some call ↦ if are_given w.tables w.known p.place (row_of call).takes args then Some (board_kind (row_of call).gives) else None
    | None ↦ called w.known (callee_of w.tables w.known p.place f) (types_at p args)
  ]

  abbrev pub call_cause : Site → Tree → Trees → Option BoardCall → Code
  call_cause p f args b = elim b [
    | Some call ↦ if lacks_handler w.tables w.known p.place (row_of call).takes args then BadHandler else Mismatch
    | None ↦ elim (callee_of w.tables w.known p.place f) [ None ↦ Mismatch | Some d ↦ why_call d.gives ]
  ]

  pub own_same : (x : Bool) (kind : StaticType) (o : Option TypedTrees) (why : Code) (at : ℕ) → x ≡ is_some o → own o why at ≡ own (if x then Some kind else None) why at
  own_same true kind (Some y) why at h = refl
  own_same true kind None why at h = cc
  own_same false kind (Some y) why at h = cc
  own_same false kind None why at h = refl

  pub board_tells : (p : Site) (f : Tree) (args : Trees) (call : BoardCall) (at m n : ℕ)
      → Tells (s.elab_asked w p (row_of call).takes args m n) (failures_at p (row_of call).takes args) (SeesAsked p (row_of call).takes args m n)
      → Tells (carries_on (s.elab_asked w p (row_of call).takes args m n) (λ all. s.asked_of w call at all) m n)
      (failures_at p (row_of call).takes args then own (call_type p f args (Some call)) (call_cause p f args (Some call)) at)
      (λ x. (call_type p f args (Some call) ≡ Some x.it.kind)
      × ((made_asked w.tables w.names w.known w.numbers p (row_of call).takes args >=> λ xs. looked (option_map value_type (call_type p f args (Some call))) (λ u. pure (e.Call u
      (board_target call (row_of call).action) xs))) m n ≡ Some (tree_alone x)))
  board_tells p f args call at m n told =
      then_tells _ _ m n _ _ _ _ told (λ all h.
      as_failure _ _ _ _ (ap (λ (x : Bool). own all.it.trees (if x then BadHandler else Mismatch) at) (sym h.lacks)
      ∙ own_same (are_given w.tables w.known p.place (row_of call).takes args) (board_kind (row_of call).gives) all.it.trees (call_cause p f args (Some call)) at h.fit)
      (need_last all.it.trees (if all.it.lacks_handler then BadHandler else Mismatch) at _ _ _ _ (λ xs is.
      let fits : are_given w.tables w.known p.place (row_of call).takes args ≡ true = h.fit ∙ ap is_some is in
      let typed : call_type p f args (Some call) ≡ Some (board_kind (row_of call).gives) = ap (λ (x : Bool). if x then Some (board_kind (row_of call).gives) else None) fits in
      ok_tells _ _ (
        typed,
        made_then _ _ _ _ (h.trees xs is) (noted_node (call_type p f args (Some call)) (board_kind (row_of call).gives) (λ u. e.Call u (board_target call
            (row_of call).action) xs) typed),
      ))))

  -- a call of what isn't the board's
  abbrev pub after_callee : Site → Trees → ℕ → Option Callable → Elab Seen
  after_callee p args at target = elim target [
    | None ↦ λ m n. carries_on (s.elab_given w p [] args m n) (λ (xs : SeenAll). fails Mismatch at) m n
    | Some d ↦ λ m n. carries_on (s.elab_given w p d.takes args m n) (λ (xs : SeenAll). s.called_with w d.takes d.gives (why_call d.gives) at (λ u. d.node u xs.trees) xs) m n
  ]

  abbrev pub AllGiven : Site → Trees → Type 0
  AllGiven p args = (takes : List StaticType) (m n : ℕ) → Tells (s.elab_given w p takes args m n) (failures_at p [] args) (SeesGiven p takes args m n)

  abbrev pub after_failure : Site → Tree → Trees → ℕ → Option Failure
  after_failure p f args at = failures_at p [] args then own (call_type p f args None) (call_cause p f args None) at

  pub after_none : (p : Site) (f : Tree) (args : Trees) (at : ℕ) → AllGiven p args → IfNone (callee_of w.tables w.known p.place f) (after_callee p args at) (after_failure p f args at)
  after_none p f args at told m n is =
      as_failure _ _ _ _ (sym (ap (λ (o : Option Callee). failures_at p [] args then own (called w.known o (types_at p args)) (elim o [ None ↦ Mismatch | Some d ↦ why_call d.gives ]) at) is))
      (ends_tells _ Mismatch at m n _ _ (λ (y : Made Seen). ⊥) (told [] m n))

  pub after_called : (p : Site) (f : Tree) (args : Trees) (at : ℕ) → AllGiven p args → IfCalled p args (callee_of w.tables w.known p.place f) (after_callee p args at) (after_failure p f args at)
  after_called p f args at told d m n is =
      as_failure _ _ _ _ (sym (ap (λ (o : Option Callee). failures_at p [] args then own (called w.known o (types_at p args)) (elim o [ None ↦ Mismatch | Some d ↦ why_call d.gives ]) at) is))
      (call_tells p d.takes d.gives args (why_call d.gives) at m n (λ ts u. d.node u ts) _ (told d.takes m n)
      (λ xs kind typed given. record { kind = typed; given = trees_alone xs; given_is = given; is = refl }))

  -- `super.m(..)`
  abbrev pub super_elab : Site → ℕ → ℕ → Trees → Option ℕ → Elab Seen
  super_elab p at i args d = elim d [
    | None ↦ λ m n. carries_on (s.elab_given w p [] args m n) (λ (xs : SeenAll). fails (why_super w.known p.place.this i) at) m n
    | Some d ↦ λ m n. carries_on (s.elab_given w p (takes_at w.known.entries d) args m n) (λ (xs : SeenAll).
        s.called_with w (takes_at w.known.entries d) (kind_at w.known d) (why_call (kind_at w.known d)) at (λ u. e.SuperCall u (routine_number w.numbers d) xs.trees) xs) m n
  ]

  abbrev pub super_type : Site → Trees → Option ℕ → Option StaticType
  super_type p args d = called w.known (d >>= λ d. Some (callee (takes_at w.known.entries d) (kind_at w.known d))) (types_at p args)

  abbrev pub super_made : Site → Trees → Option ℕ → Making TypedTree
  super_made p args d = looked d (λ j. make_given p (takes_at w.known.entries j) args >=> λ xs. looked (option_map value_type (super_type p args d)) (λ u. pure (e.SuperCall u
      (routine_number w.numbers j) xs)))

  pub super_tells : (p : Site) (at i : ℕ) (args : Trees) (m n : ℕ) (d : Option ℕ) → AllGiven p args
      → Tells (super_elab p at i args d m n)
      (failures_at p [] args then own (super_type p args d) (elim d [ None ↦ why_super w.known p.place.this i | Some d ↦ why_call (kind_at w.known d) ]) at)
      (λ x. (super_type p args d ≡ Some x.it.kind) × (super_made p args d m n ≡ Some (tree_alone x)))
  super_tells p at i args m n None told = ends_tells _ (why_super w.known p.place.this i) at m n _ _ _ (told [] m n)
  super_tells p at i args m n (Some d) told =
      call_tells p (takes_at w.known.entries d) (kind_at w.known d) args (why_call (kind_at w.known d)) at m n (λ ts u. e.SuperCall u (routine_number w.numbers d) ts) _ (told
      (takes_at w.known.entries d) m n)
      (λ xs kind typed given. (typed, made_then _ _ _ _ given (noted_node _ kind (λ u. e.SuperCall u (routine_number w.numbers d) xs.it.trees) typed)))

  -- `new`
  abbrev pub new_elab : Site → ℕ → Trees → Found → Elab Seen
  new_elab p at args f = elim (class_found f) [
    | None ↦ λ m n. carries_on (s.elab_given w p [] args m n) (λ (xs : SeenAll). fails (why_make f) at) m n
    | Some class ↦ λ m n. carries_on (s.elab_given w p (maker_takes_of w.known.classes class) args m n) (λ (xs : SeenAll).
        s.called_with w (maker_takes_of w.known.classes class) (Some (object class)) (why_make f) at (λ u. e.Make (t.Object class) class xs.trees) xs) m n
  ]

  pub new_tells : (p : Site) (at : ℕ) (args : Trees) (m n : ℕ) (f : Found) → AllGiven p args
      → Tells (new_elab p at args f m n) (failures_at p [] args then own (called w.known (made w.known f) (types_at p args)) (why_make f) at)
      (λ x. (called w.known (made w.known f) (types_at p args) ≡ Some x.it.kind)
      × (looked (class_found f) (λ class. make_given p (maker_takes_of w.known.classes class) args >=> λ xs. pure (e.Make (t.Object class) class xs)) m n ≡ Some (tree_alone x)))
  new_tells p at args m n (found.Class d) told =
      call_tells p (maker_takes_of w.known.classes d) (Some (object d)) args (why_make (found.Class d)) at m n (λ ts u. e.Make (t.Object d) d ts) _ (told (maker_takes_of w.known.classes d) m n)
      (λ xs kind typed given. (typed, made_end _ _ _ given))
  new_tells p at args m n f told = ends_tells _ (why_make f) at m n _ _ _ (told [] m n)

  -- a name where a handler is wanted
  abbrev pub served_elab : Site → Found → ℕ → Bool → Elab (Option TypedTree)
  served_elab p f at b = elim b [
    | true ↦ yields (option_map (λ d. e.Handler t.Nothing (routine_number w.numbers d)) (function_found f))
    | false ↦ need (name_kind w.known p.place f) (why_named w.known role.Served f) at (λ kind. yields None)
  ]

  pub served_tells : (p : Site) (f : Found) (at m n : ℕ) (b : Bool) → serves w.known f ≡ b
      → Tells (served_elab p f at b m n) (if b then None else own (name_kind w.known p.place f) (why_named w.known role.Served f) at)
      (λ x. (names_function f ≡ is_some x.it) × ((y : TypedTree) → x.it ≡ Some y
      → looked (function_found f) (λ d. pure (e.Handler t.Nothing (routine_number w.numbers d))) m n ≡ Some (record { it = y; locals = x.locals; routines = x.routines })))
  served_tells p (found.Function d) at m n true q = ok_tells _ _ (refl, λ y is. ap (λ (z : TypedTree). Some (made_of z)) (some_is _ y is))
  served_tells p f at m n true q = absurd (serving_is w.known f q)
  served_tells p f at m n false q =
      need_last (name_kind w.known p.place f) (why_named w.known role.Served f) at m n _ _ (λ kind is. ok_tells _ _ (unnamed w.known p.place f kind is, λ y q. cc))

  -- a drawing
  pub drawing_made : (p : Site) (a : Tree) (m n : ℕ) (y : TypedTree) (x : Made Seen) → drawing_tree w.tables a ≡ Some y → make p (Some text) a m n ≡ Some (tree_alone x)
      → drawing w.tables a m n ≡ Some (record { it = y; locals = x.locals; routines = x.routines })
  drawing_made p (Text at i) m n y x drawn_is is =
      let (draws_so, tree) = if_is (draws (text_at w.tables i)) (e.Num t.Number (pos (frame_of (drawn (text_at w.tables i))))) y drawn_is in
      let same : made_of (e.Text t.Text i) ≡ tree_alone x = some_is _ _ is in
      ap (λ (b : Bool). (if b then pure (e.Num t.Number (pos (frame_of (drawn (text_at w.tables i))))) else (λ m n. None)) m n) draws_so
      ∙ ap (λ (z : TypedTree). Some (made_of z)) tree ∙ ap (λ (z : Made TypedTree). Some (record { it = y; locals = z.locals; routines = z.routines })) same
  drawing_made p a m n y x drawn_is is = cc

  -- two parts of arguments of the board
  pub fits_so : (p : Site) (a : Tree) (u : ValueType) (x : Seen) → type_at p role.Given a ≡ Some x.kind
      → fits w.known (type_at p role.Given a) (Some (board_kind u)) ≡ is_some (if goes w.known.classes x.kind (board_kind u) then Some x.tree else None)
  fits_so p a u x is = ap (λ (o : Option StaticType). fits w.known o (Some (board_kind u))) is ∙ sym (if_some (goes w.known.classes x.kind (board_kind u)) x.tree)

  -- `[]`
  pub empty_tells : (p : Site) (r : Place) (at m n : ℕ) → Tells (s.elab_empty r at m n) (failure_at_node p r (Items at none)) (Sees p r (Items at none) m n)
  empty_tells p Free at m n = err_tells _ _
  empty_tells p (Given None) at m n = ok_tells _ _ (record { kind = refl; tree = λ q. absurd q })
  empty_tells p (Given (Some u)) at m n = ok_tells _ _ (record { kind = refl; tree = λ q. refl })

  -- a function expression
  pub serving_failure : (b : Bool) (at : ℕ) → unless b BadHandler at ≡ (if b then None else own {A = StaticType} None BadHandler at)
  serving_failure true at = refl
  serving_failure false at = refl

  pub first_true : (x y : Bool) → (x && y) ≡ true → x ≡ true
  first_true true y h = refl
  first_true false y h = cc

  pub body_made : (p : Site) (body : Routine) (m n : ℕ) (x : Made TypedStatements) → serves_itself w.tables w.names w.known p.place body ≡ true → SeesBody p body m n x
      → made_body w.tables w.names w.known w.numbers p body m n ≡ Some x
  body_made p (Does at params gives all arrow) m n x serving h = h (first_true (takes_nothing params) _ serving)

  pub handler_is : (p : Site) (at : ℕ) (body : Routine) (m n : ℕ) (x : Made TypedStatements) → made_body w.tables w.names w.known w.numbers p body 0 (suc n) ≡ Some x
      → made_handler w.tables w.names w.known w.numbers p (Handler at body) m n ≡ Some (record { it = e.Handler t.Nothing n; locals = []; routines = as_routine x })
  handler_is p at body m n x h =
      ap (λ (o : Option (Made TypedStatements)). (o >>= (λ (y : Made TypedStatements). Some (as_routine y))) >>= λ (routines : List TypedRoutine). Some
      (record { it = e.Handler t.Nothing n; locals = []; routines = routines })) h

  -- values
  abbrev pub ValueIs : Site → OptionalTree → Option Seen → Type 0
  ValueIs p absent o = o ≡ None
  ValueIs p (present a) o = (y : Seen) × (o ≡ Some y) × (type_at p role.Free a ≡ Some y.kind)

  pub record SeesValue (p : Site) (a : OptionalTree) (m n : ℕ) (x : Made (Option Seen)) : Type 0 where
    pub is : ValueIs p a x.it
    pub value : made_value w.tables w.names w.known w.numbers p None a m n ≡ Some (record { it = tree_of x.it; locals = x.locals; routines = x.routines })

  pub test_is : (p : Site) (at : ℕ) (a : OptionalTree) (o : Option Seen) → ValueIs p a o → unless (is_boolean_test o) Mismatch at ≡ test_failure w.tables w.known p.place a at
  test_is p at absent o h = ap (λ (q : Option Seen). unless (is_boolean_test q) Mismatch at) h
  test_is p at (present a) o (y, is, kind) = ap (λ (q : Option Seen). unless (is_boolean_test q) Mismatch at) is ∙ ap (λ (q : Option StaticType). unless (is_boolean q) Mismatch at) (sym kind)

  pub tested : {A : Type 0} (at : ℕ) (test : Tree) (p : Site) (kind : StaticType) (a : A) (m n : ℕ) (K : Made A → Type 0) → type_at p role.Free test ≡ Some kind
      → (unless (is_boolean (Some kind)) Mismatch at ≡ None → K (made_of a))
      → Tells (check (unless (is_boolean (Some kind)) Mismatch at) (yields a) m n) (own_test w.tables w.known p.place test at) K
  tested {A} at test p kind a m n K is h =
      as_failure _ _ _ _ (ap (λ (o : Option StaticType). unless (is_boolean o) Mismatch at) (sym is)) (check_last (unless (is_boolean (Some kind)) Mismatch at) a m n K h)

  pub unless_true : (b : Bool) (why : Code) (at : ℕ) → unless b why at ≡ None → b ≡ true
  unless_true true why at h = refl
  unless_true false why at h = cc

  -- what is declared
  pub record SeesInitial (p : Site) (at : ℕ) (shape : Option Annotation) (first : OptionalTree) (m n : ℕ) (x : Made (Option Seen)) : Type 0 where
    pub kind : own (kind_declared w.known w.names shape x.it) (why_declared shape) at ≡ own_bound w.tables w.names w.known p.place shape first at
    pub bound_is : (u : StaticType) → kind_declared w.known w.names shape x.it ≡ Some u → bound w.tables w.names w.known p.place shape first ≡ Some u
    pub value : (u : StaticType) → kind_declared w.known w.names shape x.it ≡ Some u
        → made_value w.tables w.names w.known w.numbers p (written_kind w.names shape) first m n ≡ Some (record { it = tree_of x.it; locals = x.locals; routines = x.routines })

  pub fitting : (b : Bool) (o : Option StaticType) (u : StaticType) (at : ℕ) → o ≡ Some u → own (if b then o else None) Mismatch at ≡ unless b Mismatch at
  fitting true o u at h = ap (λ (x : Option StaticType). own x Mismatch at) h
  fitting false o u at h = refl

  pub if_gives : (b : Bool) (o : Option StaticType) (u : StaticType) → (if b then o else None) ≡ Some u → o ≡ Some u
  if_gives true o u h = h
  if_gives false o u h = cc

  abbrev pub alone_elab : Site → Tree → Bool → Elab (Option Seen)
  alone_elab p a b = elim b [ true ↦ yields None | false ↦ λ m n. carries_on (elab p Free a m n) (λ (x : Seen). yields (Some x)) m n ]

  pub alone_tells : (p : Site) (a : Tree) (m n : ℕ) (b : Bool) → Tells (elab p Free a m n) (failure_at_node p Free a) (Sees p Free a m n)
      → Tells (alone_elab p a b m n)
      (if b then None else failure_at_node p Free a)
      (λ x. (kind_declared w.known w.names None x.it ≡ (if b then None else type_at p role.Free a))
      × ((u : StaticType) → kind_declared w.known w.names None x.it ≡ Some u
      → made_value w.tables w.names w.known w.numbers p None (present a) m n ≡ Some (record { it = tree_of x.it; locals = x.locals; routines = x.routines })))
  alone_tells p a m n true told = ok_tells _ _ (refl, λ u h. cc)
  alone_tells p a m n false told = last_tells _ (λ x. Some x) m n _ _ _ told (λ x h. (sym h.kind, λ u q. made_end _ _ _ (h.tree tt)))

  -- what is returned
  pub role_given : (g : Option StaticType) → role_at (given_some g) ≡ kind_role g
  role_given None = refl
  role_given (Some u) = refl

  pub given_same : (g : Option StaticType) → given_by (given_some g) ≡ g
  given_same None = refl
  given_same (Some u) = refl

  pub given_made : (g : Option StaticType) → IsMadeAt (given_some g)
  given_made None = tt
  given_made (Some u) = tt

  pub record SeesReturned (p : Site) (a : Tree) (g : Option StaticType) (m n : ℕ) (x : Made (Option Seen)) : Type 0 where
    pub fits : (at : ℕ) → unless (may_return w.known g x.it) Mismatch at ≡ unless (typing.fits w.known (type_at p (kind_role g) a) g) Mismatch at
    pub value : made_value w.tables w.names w.known w.numbers p g (present a) m n ≡ Some (record { it = tree_of x.it; locals = x.locals; routines = x.routines })

  pub returned_tells : (p : Site) (a : Tree) (m n : ℕ) (g : Option StaticType) → Tells (elab p (given_some g) a m n) (failure_at_node p (given_some g) a) (Sees p (given_some g) a m n)
      → Tells (s.elab_value w p (given_some g) (present a) m n) (failure w.tables w.names w.known p.place (kind_role g) a) (SeesReturned p a g m n)
  returned_tells p a m n g told =
      as_failure _ _ _ _ (ap (λ (r : Role). failure w.tables w.names w.known p.place r a) (role_given g))
      (last_tells _ (λ x. Some x) m n _ _ _ told (λ x h. record {
        fits = λ at. ap (λ (o : Option StaticType). unless (typing.fits w.known o g) Mismatch at) (sym h.kind ∙ ap (λ (r : Role). type_at p r a) (role_given g));
        value = made_end _ _ _ (subst (λ (o : Option StaticType). make p o a m n ≡ Some (tree_alone x)) (given_same g) (h.tree (given_made g)));
      }))

  abbrev pub one_local : ℕ → ValueType → Made ℕ
  one_local i u = record { it = i; locals = u ∷ []; routines = [] }

  abbrev pub StatementMade : Site → Statement → ℕ → ℕ → Made TypedStatement → Type 0
  StatementMade p a m n x = made_statement w.tables w.names w.known w.numbers p a m n ≡ Some x

  abbrev pub call_elab : Site → ℕ → Tree → Trees → Option BoardCall → Elab Seen
  call_elab p at f args b = elim b [
    | Some call ↦ λ m n. carries_on (s.elab_asked w p (row_of call).takes args m n) (λ all. s.asked_of w call at all) m n
    | None ↦ s.elab_callee w p f (elab p Free f) (after_callee p args at)
  ]

  abbrev pub call_failure : Site → Tree → Trees → (last : Option Failure) → Option BoardCall → Option Failure
  call_failure p f args last b = elim b [
    | Some call ↦ failures_at p (row_of call).takes args then last
    | None ↦ failure w.tables w.names w.known p.place role.Called f then failures_at p [] args then last
  ]

  abbrev pub call_made : Site → Tree → Trees → (type : Option StaticType) → Option BoardCall → Making TypedTree
  call_made p f args type b = elim b [
    | Some call ↦ made_asked w.tables w.names w.known w.numbers p (row_of call).takes args >=> λ xs. looked (option_map value_type type) (λ u. pure (e.Call u (board_target call
        (row_of call).action) xs))
    | None ↦ looked (option_map value_type type) (λ u. made_call w.tables w.names w.known w.numbers p u f (λ takes. make_given p takes args))
  ]

  pub any_call_tells : (p : Site) (at : ℕ) (f : Tree) (args : Trees) (m n : ℕ) (b : Option BoardCall) → board_callee w.tables w.known p.place f ≡ b
      → ((takes : List BoardParameter) → Tells (s.elab_asked w p takes args m n) (failures_at p takes args) (SeesAsked p takes args m n))
      → (board_callee w.tables w.known p.place f ≡ None
      → Tells (s.elab_callee w p f (elab p Free f) (after_callee p args at) m n) (failure w.tables w.names w.known p.place role.Called f then after_failure p f args at) (CallMade p f args m n))
      → Tells (call_elab p at f args b m n) (call_failure p f args (own (call_type p f args b) (call_cause p f args b) at) b) (λ x. (call_type p f args b ≡ Some x.it.kind) ×
      (call_made p f args (call_type p f args b) b m n ≡ Some (tree_alone x)))
  any_call_tells p at f args m n (Some call) q asked called_so = board_tells p f args call at m n (asked (row_of call).takes)
  any_call_tells p at f args m n None q asked called_so =
      as_made _ _ _ _ (λ x h. (
        h.kind,
        looked_is (option_map value_type (call_type p f args None)) _ (value_type x.it.kind) _ (ap (λ
            (o : Option StaticType). option_map value_type o) h.kind) h.tree,
      ))
      (called_so q)

  abbrev pub return_rest : Site → ℕ → Option Seen → Elab TypedStatement
  return_rest p at x = check (unless (may_return w.known p.place.gives x) Mismatch at) (yields (e.Return (tree_of x)))
