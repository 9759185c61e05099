-- The typed tree of an expression or statement without a failure is there, and is the one that is filled in.
use Rattle.std.proofs.Common.{◌≡◌, ℕ, ℤ, zero, suc, refl, sym, ap, ◌∙◌, subst, Bool, true, false, Option, Some, None, List, [], ◌∷◌, ◌++◌, length, arith}
use Rattle.std.specs.Prelude.{slice_get, get_or, pos, not, IsSome, unwrap_or, if◌then◌else◌}
use Rattle.std.specs.Option.{option_map}
use Rattle.sts_base.specs.declared.tables.Tables.{Tables}
use Rattle.sts_base.specs.declared.refused.Code.TheVariants.{Mismatch, BadHandler, UnknownName}
use Rattle.sts_syntax.specs.Annotations.{Annotation}
use Rattle.sts_syntax.specs.declared.typed.Spot.{Spot}
use Rattle.sts_syntax.specs.declared.typed.Spot.TheVariants.{Local, Global}
use Rattle.sts_syntax.specs.declared.typed.Callee.{Callee as Target}
use Rattle.sts_syntax.specs.declared.typed.Callee.TheVariants as c
use Rattle.sts_syntax.specs.Types as t
use Rattle.sts_syntax.specs.Types.{ValueType}
use Rattle.sts_syntax.specs.TypedTrees as e
use Rattle.sts_syntax.specs.TypedTrees.{TypedTree, TypedTrees, TypedStatement, TypedStatements, OptionalTypedStatement, TypedDeclaration, TypedRoutine}
use Rattle.sts_syntax.specs.BoardTable as board
use Rattle.sts_syntax.specs.BoardTable.{BoardParameter, row_of}
use Rattle.sts_syntax.specs.declared.board_calls.BoardCall.{BoardCall}
use Rattle.sts_syntax.specs.Trees.{Tree, Num, Text, Truth, Null, This, Name, Unary, Binary, Both, Either, Choice, Set, Bump, Member, Item, Call, SuperCall, Make, Items, Handler, Trees, none, more, OptionalTree, absent, present, Statement, Block, Let, IfOnly, IfElse, While, DoWhile, For, ForOf, Return, Break, Continue, Plain, Empty, Statements, done, also, omitted, written, Declaration, Declare, Declarations, ended, next, Does}
use Rattle.sts_scope.specs.declared.kinds.StaticType.{StaticType}
use Rattle.sts_scope.specs.declared.known.Known.{Known}
use Rattle.sts_scope.specs.declared.known.Local.{Local as NamedLocal}
use Rattle.sts_scope.specs.declared.known.Found.{Found}
use Rattle.sts_scope.specs.declared.known.Found.TheVariants as found
use Rattle.sts_scope.specs.declared.known.Part.{Part}
use Rattle.sts_scope.specs.declared.known.Part.TheVariants as part
use Rattle.sts_scope.specs.Entries.{Naming, kind_of, written_kind}
use Rattle.sts_scope.specs.Failures.{Failure, ◌then◌, failure_at, unless, own}
use Rattle.sts_scope.specs.Globals.{is_dollar}
use Rattle.sts_scope.specs.Headings.{written_failure, type_name_failure}
use Rattle.sts_scope.specs.Kinds.{nothing, class_of, value_type}
use Rattle.sts_scope.specs.Numbers.{Numbering, routine_number}
use Rattle.sts_scope.specs.Places.{inner}
use Rattle.sts_scope.specs.Rules.{local_kind, part_of, takes_at, maker_takes_of, goes, all_go}
use Rattle.type_derive.specs.declared.roles.Role.{Role}
use Rattle.type_derive.specs.declared.roles.Role.TheVariants.{Free, Given, Called, Served}
use Rattle.type_derive.specs.Built as b
use Rattle.type_derive.specs.Built.{Site, in_block, behind_statement, first_site, in_handler_site, spot_of, member_read, part_target, part_takes, function_found, class_found, board_target, frame_of}
use Rattle.type_derive.specs.Making.{Making, nothing_made, pure, ◌>=>◌, looked, a_local}
use Rattle.type_derive.specs.Nodes.{kind_role, failure, failures, handler_failure, own_test, own_local, own_bound, initial_failure, optional_failure, test_failure, declaration_failure, declarations_failure, statement_failure, statements_failure, serves_itself, is_list, untyped}
use Rattle.type_derive.specs.Returns.{is_alone, bound, looped as looped_in, items_of}
use Rattle.type_derive.specs.Typing
use Rattle.type_derive.specs.Typing.{◌>>=◌, Callee, finds, constant_of, board_callee, callee_of, super_method, board_kind, type_of, types_of, are_given, is_given, is_routine, is_drawing, names_function, fits, draws, drawn, text_at}
use Rattle.type_derive.specs.inner.Filled as f
use Rattle.type_derive.specs.inner.Filling as f'
use Rattle.typed_laws.specs.Laws.{IsRead}
use Rattle.typed_laws.specs.Needs.{IsReadName, IsReadPart, IsCalledName, IsCalledPart, IsCalledTree, ArgumentsGo, HasSpots}
use Rattle.typed_laws.proofs.Agreeing.{Agree, agree_bind, agree_looked, agree1, agree2, agree_routines}
use Rattle.typed_laws.proofs.FilledParts.{onward}
use Rattle.typed_laws.proofs.Names.{bind_some, some_is}
use Rattle.typed_laws.proofs.OneNode.{both_true}
use Rattle.typed_laws.proofs.Typed.{Has, typed, last, first, own_has, of_call, member_free}
use Rattle.typed_laws.proofs.TreeFacts.{alone_is, unless_waived}
use Rattle.typed_laws.proofs.WholeNodes.{node_whole, bound_whole, loop_whole, statement_spots, one_more}

read_so : (g : Option StaticType) → IsRead (kind_role g)
read_so None = tt
read_so (Some u) = tt

-- what is looked for and there
pub there : {A : Type 0} (o : Option A) (d : A) → Has o → o ≡ Some (unwrap_or o d)
there {A} (Some x) d h = refl
there {A} None d h = let z : None ≡ Some h.it = h.is in cc

pub has_some : {A : Type 0} (o : Option A) → IsSome o → Has o
has_some {A} (Some x) h = record { it = x; is = refl }
has_some {A} None h = cc

pub mapped : (o : Option StaticType) → Has o → option_map value_type o ≡ Some (value_type (unwrap_or o nothing))
mapped (Some x) h = refl
mapped None h = let z : None ≡ Some h.it = h.is in cc

of_class : {A : Type 0} (F : ℕ → A) (o : Option ℕ) (class : ℕ) → o ≡ Some class → option_map F o ≡ Some (F (unwrap_or o 0))
of_class {A} F (Some x) class h = refl
of_class {A} F None class h = cc

spot_there : (xs : List NamedLocal) (ys : List Spot) (i : ℕ) (d : Spot) → length ys ≡ length xs → IsSome (local_kind xs i) → slice_get ys i ≡ Some (get_or ys i d)
spot_there [] ys i d h g = cc
spot_there (x ∷ xs) [] i d h g = absurd (omega (arith, h))
spot_there (x ∷ xs) (y ∷ ys) zero d h g = refl
spot_there (x ∷ xs) (y ∷ ys) (suc i) d h g = spot_there xs ys i d (omega (arith, h)) g

module _ (tables : Tables) (names : Naming) (k : Known) (numbers : Numbering) where
  abbrev mk : Site → Option StaticType → Tree → Making TypedTree
  mk s g a = b.made_tree tables names k numbers s g a

  abbrev fk : Site → Option StaticType → Tree → f'.Making TypedTree
  fk s g a = f.made_tree tables names k numbers s g a

  abbrev ty : Site → Role → Tree → Option StaticType
  ty s r a = type_of tables k s.place r a

  abbrev bad : Site → Role → Tree → Option Failure
  bad s r a = failure tables names k s.place r a

  abbrev un : Site → Option StaticType → Tree → ℕ → Option Failure
  un s g a at = untyped tables k s.place (kind_role g) a at

  abbrev mo : Site → Statement → Making TypedStatement
  mo s a = b.made_statement tables names k numbers s a

  abbrev fo : Site → Statement → f'.Making TypedStatement
  fo s a = f.made_statement tables names k numbers s a

  abbrev ms : Site → Statements → Making TypedStatements
  ms s all = b.made_statements tables names k numbers s all

  abbrev fs : Site → Statements → f'.Making TypedStatements
  fs s all = f.made_statements tables names k numbers s all

  abbrev mv : Site → OptionalTree → Making (Option TypedTree)
  mv s a = b.made_value tables names k numbers s None a

  abbrev fv : Site → OptionalTree → f'.Making (Option TypedTree)
  fv s a = f.made_optional tables names k numbers s a

  abbrev wrong : Site → Statement → Option Failure
  wrong s a = statement_failure tables names k s.place a

  abbrev note : Site → Option StaticType → Tree → ValueType
  note s g a = f.noted tables names k numbers s g a

  abbrev free : Site → Tree → StaticType
  free s a = f.type_in tables names k numbers s a

  abbrev Noted : Site → Option StaticType → Tree → Type 0
  Noted s g a = b.noted tables k s g a ≡ Some (note s g a)

  -- the type of an expression without a failure is there
  free_there : (s : Site) (a : Tree) → bad s Free a ≡ None → ty s Free a ≡ Some (free s a)
  free_there s a h = there (ty s Free a) nothing (typed tables names k s.place Free a tt h)

  has : (s : Site) (g : Option StaticType) (a : Tree) → bad s (kind_role g) a ≡ None → Has (ty s (kind_role g) a)
  has s g a h = typed tables names k s.place (kind_role g) a (read_so g) h

  given_there : (g : Option StaticType) → is_given (kind_role g) ≡ true → option_map value_type g ≡ Some (value_type (unwrap_or g nothing))
  given_there None h = cc
  given_there (Some u) h = refl

  noted_there : (s : Site) (g : Option StaticType) (a : Tree) → bad s (kind_role g) a ≡ None → Noted s g a
  noted_there s g (Items i none) h = given_there g (node_whole tables k s.place names (kind_role g) (Items i none) (read_so g) h)
  noted_there s g (Items i (more a rest)) h = mapped (ty s (kind_role g) (Items i (more a rest))) (has s g (Items i (more a rest)) h)
  noted_there s g (Num i n) h = mapped (ty s (kind_role g) (Num i n)) (has s g (Num i n) h)
  noted_there s g (Text i n) h = mapped (ty s (kind_role g) (Text i n)) (has s g (Text i n) h)
  noted_there s g (Truth i x) h = mapped (ty s (kind_role g) (Truth i x)) (has s g (Truth i x) h)
  noted_there s g (Null i) h = mapped (ty s (kind_role g) (Null i)) (has s g (Null i) h)
  noted_there s g (This i) h = mapped (ty s (kind_role g) (This i)) (has s g (This i) h)
  noted_there s g (Name i x) h = mapped (ty s (kind_role g) (Name i x)) (has s g (Name i x) h)
  noted_there s g (Unary i op a) h = mapped (ty s (kind_role g) (Unary i op a)) (has s g (Unary i op a) h)
  noted_there s g (Binary i op a a') h = mapped (ty s (kind_role g) (Binary i op a a')) (has s g (Binary i op a a') h)
  noted_there s g (Both i a a') h = mapped (ty s (kind_role g) (Both i a a')) (has s g (Both i a a') h)
  noted_there s g (Either i a a') h = mapped (ty s (kind_role g) (Either i a a')) (has s g (Either i a a') h)
  noted_there s g (Choice i q a a') h = mapped (ty s (kind_role g) (Choice i q a a')) (has s g (Choice i q a a') h)
  noted_there s g (Set i op x a) h = mapped (ty s (kind_role g) (Set i op x a)) (has s g (Set i op x a) h)
  noted_there s g (Bump i x by late) h = mapped (ty s (kind_role g) (Bump i x by late)) (has s g (Bump i x by late) h)
  noted_there s g (Member i a m) h = mapped (ty s (kind_role g) (Member i a m)) (has s g (Member i a m) h)
  noted_there s g (Item i a j) h = mapped (ty s (kind_role g) (Item i a j)) (has s g (Item i a j) h)
  noted_there s g (Call i l args) h = mapped (ty s (kind_role g) (Call i l args)) (has s g (Call i l args) h)
  noted_there s g (SuperCall i m args) h = mapped (ty s (kind_role g) (SuperCall i m args)) (has s g (SuperCall i m args) h)
  noted_there s g (Make i x args) h = mapped (ty s (kind_role g) (Make i x args)) (has s g (Make i x args) h)
  noted_there s g (Handler i body) h = mapped (ty s (kind_role g) (Handler i body)) (has s g (Handler i body) h)

  as_noted_is : (s : Site) (g : Option StaticType) (a : Tree) (make : ValueType → TypedTree) → bad s (kind_role g) a ≡ None
      → Agree (b.as_noted tables k s g a make) (f'.pure (make (note s g a)))
  as_noted_is s g a make h = agree_looked (b.noted tables k s g a) (note s g a) (λ u. pure (make u)) (f'.pure (make (note s g a))) (noted_there s g a h) (λ m n. refl)

  -- names
  name_so : (s : Site) (l : Found) → HasSpots s → IsReadName k s.place l → spot_of k s.spots l ≡ Some (f.spot_of tables names k numbers s l)
  name_so s (found.Local i) hs h = spot_there s.place.locals s.spots i (Global 0) hs h
  name_so s (found.Global d) hs h = refl
  name_so s found.Captured hs h = absurd h
  name_so s (found.Function d) hs h = absurd h
  name_so s (found.Class j) hs h = absurd h
  name_so s found.Unknown hs h = absurd h

  -- members
  read_so' : (u : ValueType) (v : StaticType) (m : ℕ) (l : Part) (x : TypedTree) → IsReadPart v l → member_read k u v m l x ≡ Some (f.member_read tables names k numbers u l (unwrap_or (class_of v) 0) m x)
  read_so' u v m (part.Field d) x (class, is) = of_class (λ j. f.member_read tables names k numbers u (part.Field d) j m x) (class_of v) class is
  read_so' u v m part.Length x h = refl
  read_so' u v m (part.Method d) x h = absurd h
  read_so' u v m (part.Push y) x h = absurd h
  read_so' u v m (part.Pop y) x h = absurd h
  read_so' u v m part.Missing x h = absurd h

  target_so : (v : StaticType) (m : ℕ) (l : Part) → IsCalledPart v l → part_target k v m l ≡ Some (f.part_target tables names k numbers l (unwrap_or (class_of v) 0) m)
  target_so v m (part.Method d) (class, is) = of_class (λ j. f.part_target tables names k numbers (part.Method d) j m) (class_of v) class is
  target_so v m (part.Push y) h = refl
  target_so v m (part.Pop y) h = refl
  target_so v m (part.Field d) h = absurd h
  target_so v m part.Length h = absurd h
  target_so v m part.Missing h = absurd h

  abbrev member_made : Site → Option StaticType → ℕ → Tree → ℕ → Option ℤ → Making TypedTree
  member_made s g i a m z = elim z [
    | Some y ↦ pure (e.Num t.Number y)
    | None ↦ looked (b.noted tables k s g (Member i a m)) (λ u. looked (b.type_in tables k s a) (λ v. mk s None a
        >=> λ x. looked (member_read k u v m (part_of tables.names k v m) x) pure))
  ]

  abbrev member_filled : Site → Option StaticType → ℕ → Tree → ℕ → Option ℤ → f'.Making TypedTree
  member_filled s g i a m z = elim z [
    | Some y ↦ f'.pure (e.Num t.Number y)
    | None ↦ onward (fk s None a) (λ x. f'.pure (f.member_read tables names k numbers (note s g (Member i a m)) (f.part_in tables names k numbers s a m) (f.class_in tables names k numbers s a) m x))
  ]

  abbrev MemberWhole : Site → Tree → ℕ → Option ℤ → Type 0
  MemberWhole s a m z = elim z [ Some y ↦ Unit {0} | None ↦ (u : StaticType) × (ty s Free a ≡ Some u) × IsReadPart u (part_of tables.names k u m) ]

  member_so : (s : Site) (g : Option StaticType) (i : ℕ) (a : Tree) (m : ℕ) (z : Option ℤ) → Noted s g (Member i a m) → (bad s Free a ≡ None → Agree (mk s None a) (fk s None a))
      → MemberWhole s a m z → bad s (kind_role g) (Member i a m) ≡ None → Agree (member_made s g i a m z) (member_filled s g i a m z)
  member_so s g i a m (Some y) q inside w h = λ j n. refl
  member_so s g i a m None q inside (v, is, w) h =
      let none : bad s Free a ≡ None = member_free tables names k s.place (kind_role g) i a m v h is in
      let here : v ≡ free s a = some_is v (free s a) (sym is ∙ free_there s a none) in
      let w' : IsReadPart (free s a) (part_of tables.names k (free s a) m) = subst (λ (y : StaticType). IsReadPart y (part_of tables.names k y m)) here w in
      let u : ValueType = note s g (Member i a m) in
      let T : TypedTree → f'.Making TypedTree = λ x. f'.pure (f.member_read tables names k numbers u (f.part_in tables names k numbers s a m) (f.class_in tables names k numbers s a) m x) in
      let R : StaticType → ValueType → Making TypedTree = λ y o. mk s None a >=> λ x. looked (member_read k o y m (part_of tables.names k y m) x) pure in
      agree_looked (b.noted tables k s g (Member i a m)) u (λ o. looked (b.type_in tables k s a) (λ y. R y o)) (onward (fk s None a) T) q
      (agree_looked (ty s Free a) (free s a) (λ y. R y u) (onward (fk s None a) T) (free_there s a none)
      (agree_bind (mk s None a) (λ x. looked (member_read k u (free s a) m (part_of tables.names k (free s a) m) x) pure) (fk s None a) T (inside none)
      (λ x. agree_looked (member_read k u (free s a) m (part_of tables.names k (free s a) m) x) _ pure (T x) (read_so' u (free s a) m (part_of tables.names k (free s a) m) x w') (λ j n. refl))))

  -- calls
  abbrev call_made : Site → Option StaticType → ℕ → Tree → Trees → Option BoardCall → Making TypedTree
  call_made s g i l args o = elim o [
    | Some call ↦ b.made_asked tables names k numbers s (row_of call).takes args
        >=> λ xs. b.as_noted tables k s g (Call i l args) (λ u. e.Call u (board_target call (row_of call).action) xs)
    | None ↦ looked (b.noted tables k s g (Call i l args)) (λ u. b.made_call tables names k numbers s u l (λ takes. b.made_given tables names k numbers s takes args))
  ]

  abbrev call_filled : Site → Option StaticType → ℕ → Tree → Trees → Option BoardCall → f'.Making TypedTree
  call_filled s g i l args o = elim o [
    | Some call ↦ onward (f.made_asked tables names k numbers s (row_of call).takes args)
        (λ xs. f'.pure (e.Call (note s g (Call i l args)) (board_target call (row_of call).action) xs))
    | None ↦ f.made_call tables names k numbers s (note s g (Call i l args)) l (f.made_given tables names k numbers s (f.call_takes tables names k numbers s l) args)
  ]

  abbrev CallWhole : Site → Tree → Trees → Option BoardCall → Type 0
  CallWhole s l args o = elim o [
    | Some call ↦ are_given tables k s.place (row_of call).takes args ≡ true
    | None ↦ IsCalledTree tables k s.place l × (d : Callee) × (callee_of tables k s.place l ≡ Some d) × ArgumentsGo tables k s.place d.takes args
  ]

  -- arguments of what takes these
  abbrev GivenSo : Site → Trees → Type 0
  GivenSo s args = (takes us : List StaticType) → failures tables names k s.place [] args ≡ None → types_of tables k s.place args ≡ Some us → all_go k.classes us takes ≡ true
      → Agree (b.made_given tables names k numbers s takes args) (f.made_given tables names k numbers s takes args)

  abbrev AskedSo : Site → Trees → Type 0
  AskedSo s args = (ps : List BoardParameter) → failures tables names k s.place ps args ≡ None → are_given tables k s.place ps args ≡ true
      → Agree (b.made_asked tables names k numbers s ps args) (f.made_asked tables names k numbers s ps args)

  function_so : (s : Site) (u : ValueType) (args : Trees) (l : Found) (d : Callee) → IsCalledName l → Typing.named_callee k l ≡ Some d → ArgumentsGo tables k s.place d.takes args → failures tables names k s.place [] args ≡ None → GivenSo s args
      → Agree (looked (function_found l) (λ j. b.made_given tables names k numbers s (takes_at k.entries j) args >=> λ xs. pure (e.Call u (c.Function (routine_number numbers j)) xs)))
      (onward (f.made_given tables names k numbers s (f.routine_takes tables names k numbers l) args) (λ xs. f'.pure (e.Call u (c.Function (f.routine_of tables names k numbers l)) xs)))
  function_so s u args (found.Function j) d called is (us, ts, go) ha given_so =
      let same : takes_at k.entries j ≡ d.takes = ap (λ (x : Callee). x.takes) (some_is _ d is) in
      let go' : all_go k.classes us (takes_at k.entries j) ≡ true = subst (λ (vs : List StaticType). all_go k.classes us vs ≡ true) (sym same) go in
      agree1 (λ xs. e.Call u (c.Function (routine_number numbers j)) xs) _ _ (given_so (takes_at k.entries j) us ha ts go')
  function_so s u args (found.Local j) d called is go ha given_so = absurd called
  function_so s u args (found.Global j) d called is go ha given_so = absurd called
  function_so s u args found.Captured d called is go ha given_so = absurd called
  function_so s u args (found.Class j) d called is go ha given_so = absurd called
  function_so s u args found.Unknown d called is go ha given_so = absurd called

  part_takes_so : (l : Part) (d : Callee) → Typing.part_callee k l ≡ Some d → (part_takes k l ≡ d.takes) × (part_takes k l ≡ f.part_takes tables names k numbers l)
  part_takes_so (part.Method j) d is = (ap (λ (x : Callee). x.takes) (some_is _ d is), refl)
  part_takes_so (part.Push y) d is = (ap (λ (x : Callee). x.takes) (some_is _ d is), refl)
  part_takes_so (part.Pop y) d is = (ap (λ (x : Callee). x.takes) (some_is _ d is), refl)
  part_takes_so (part.Field j) d is = cc
  part_takes_so part.Length d is = cc
  part_takes_so part.Missing d is = cc

  -- a member that is called
  called_so : (s : Site) (u : ValueType) (j : ℕ) (a : Tree) (m : ℕ) (args : Trees) (d : Callee) → bad s Called (Member j a m) ≡ None
      → IsCalledTree tables k s.place (Member j a m) → callee_of tables k s.place (Member j a m) ≡ Some d → ArgumentsGo tables k s.place d.takes args
      → failures tables names k s.place [] args ≡ None → (bad s Free a ≡ None → Agree (mk s None a) (fk s None a)) → GivenSo s args
      → Agree (b.made_call tables names k numbers s u (Member j a m) (λ takes. b.made_given tables names k numbers s takes args))
      (f.made_call tables names k numbers s u (Member j a m) (f.made_given tables names k numbers s (f.part_takes tables names k numbers (f.part_in tables names k numbers s a m)) args))
  called_so s u j a m args d hf (v, is, called) callee_is (us, ts, go) ha inside given_so =
      let none : bad s Free a ≡ None = member_free tables names k s.place Called j a m v hf is in
      let w : StaticType = free s a in
      let w_is : ty s Free a ≡ Some w = free_there s a none in
      let here : v ≡ w = some_is v w (sym is ∙ w_is) in
      let l : Part = part_of tables.names k w m in
      let called' : IsCalledPart w l = subst (λ (y : StaticType). IsCalledPart y (part_of tables.names k y m)) here called in
      let callee_is' : Typing.part_callee k l ≡ Some d = sym (ap (λ (o : Option StaticType). o >>= λ y. Typing.part_callee k (part_of tables.names k y m)) w_is) ∙ callee_is in
      let (takes_is, same) = part_takes_so l d callee_is' in
      let go' : all_go k.classes us (part_takes k l) ≡ true = subst (λ (vs : List StaticType). all_go k.classes us vs ≡ true) (sym takes_is) go in
      let target : Target = f.part_target tables names k numbers l (unwrap_or (class_of w) 0) m in
      let G : f'.Making TypedTrees = f.made_given tables names k numbers s (part_takes k l) args in
      let G' : f'.Making TypedTrees = f.made_given tables names k numbers s (f.part_takes tables names k numbers l) args in
      let Q : f'.Making TypedTrees → f'.Making TypedTree = λ z. onward (fk s None a) (λ x. onward z (λ xs. f'.pure (e.Call u target (e.more x xs)))) in
      let done_so : Agree (b.made_call tables names k numbers s u (Member j a m) (λ takes. b.made_given tables names k numbers s takes args)) (Q G) =
      agree_looked (ty s Free a) w (λ y. looked (part_target k y m (part_of tables.names k y m)) (λ o. mk s None a
      >=> λ x. b.made_given tables names k numbers s (part_takes k (part_of tables.names k y m)) args >=> λ xs. pure (e.Call u o (e.more x xs)))) (Q G) w_is
      (agree_looked (part_target k w m l) target (λ o. mk s None a >=> λ x. b.made_given tables names k numbers s (part_takes k l) args >=> λ xs. pure (e.Call u o (e.more x xs))) (Q G) (target_so w m l called')
      (agree2 (λ x xs. e.Call u target (e.more x xs)) (mk s None a) (fk s None a) (b.made_given tables names k numbers s (part_takes k l) args) G (inside none) (given_so (part_takes k l) us ha ts go'))) in
      let G_same : G ≡ G' = ap (λ (vs : List StaticType). f.made_given tables names k numbers s vs args) same in
      subst (λ (z : f'.Making TypedTrees). Agree (b.made_call tables names k numbers s u (Member j a m) (λ takes. b.made_given tables names k numbers s takes args)) (Q z)) G_same done_so

  -- `super.m(..)`
  super_so : (s : Site) (g : Option StaticType) (i m : ℕ) (args : Trees) (o : Option ℕ) → Noted s g (SuperCall i (Some m) args) → (bad s (kind_role g) (SuperCall i (Some m) args) ≡ None) → (d : ℕ) → o ≡ Some d → ArgumentsGo tables k s.place (takes_at k.entries d) args
      → failures tables names k s.place [] args ≡ None → GivenSo s args
      → Agree (looked o (λ j. b.made_given tables names k numbers s (takes_at k.entries j) args >=> λ xs. b.as_noted tables k s g (SuperCall i (Some m) args) (λ u. e.SuperCall u (routine_number numbers j) xs)))
      (elim o [
        | None ↦ f'.pure (f.amiss)
        | Some j ↦ onward (f.made_given tables names k numbers s (takes_at k.entries j) args) (λ xs. f'.pure (e.SuperCall (note s g (SuperCall i (Some m) args)) (routine_number numbers j) xs))
      ])
  super_so s g i m args (Some j) q h d is (us, ts, go) ha given_so =
      let same : d ≡ j = some_is d j (sym is) in
      let go' : all_go k.classes us (takes_at k.entries j) ≡ true = subst (λ (x : ℕ). all_go k.classes us (takes_at k.entries x) ≡ true) same go in
      agree_bind (b.made_given tables names k numbers s (takes_at k.entries j) args) (λ xs. b.as_noted tables k s g (SuperCall i (Some m) args) (λ u. e.SuperCall u (routine_number numbers j) xs))
      (f.made_given tables names k numbers s (takes_at k.entries j) args) (λ xs. f'.pure (e.SuperCall (note s g (SuperCall i (Some m) args)) (routine_number numbers j) xs))
      (given_so (takes_at k.entries j) us ha ts go') (λ xs. as_noted_is s g (SuperCall i (Some m) args) (λ u. e.SuperCall u (routine_number numbers j) xs) h)
  super_so s g i m args None q h d is go ha given_so = cc

  -- `new`
  make_so : (s : Site) (args : Trees) (l : Found) (class : ℕ) → l ≡ found.Class class → ArgumentsGo tables k s.place (maker_takes_of k.classes class) args → failures tables names k s.place [] args ≡ None → GivenSo s args
      → Agree (looked (class_found l) (λ j. b.made_given tables names k numbers s (maker_takes_of k.classes j) args >=> λ xs. pure (e.Make (t.Object j) j xs)))
      (onward (f.made_given tables names k numbers s (maker_takes_of k.classes (f.class_found tables names k numbers l)) args) (λ xs. f'.pure (e.Make (t.Object (f.class_found tables names k numbers l)) (f.class_found tables names k numbers l) xs)))
  make_so s args (found.Class j) class is (us, ts, go) ha given_so =
      let same : class ≡ j = sym (let z : found.Class j ≡ found.Class class = is in cc) in
      let go' : all_go k.classes us (maker_takes_of k.classes j) ≡ true = subst (λ (x : ℕ). all_go k.classes us (maker_takes_of k.classes x) ≡ true) same go in
      agree1 (λ xs. e.Make (t.Object j) j xs) _ _ (given_so (maker_takes_of k.classes j) us ha ts go')
  make_so s args (found.Local j) class is go ha given_so = cc
  make_so s args (found.Global j) class is go ha given_so = cc
  make_so s args found.Captured class is go ha given_so = cc
  make_so s args (found.Function j) class is go ha given_so = cc
  make_so s args found.Unknown class is go ha given_so = cc

  -- a function's name where a handler is wanted
  plain_so : (l : Found) → names_function l ≡ true → Agree (looked (function_found l) (λ d. pure (e.Handler t.Nothing (routine_number numbers d)))) (f'.pure (e.Handler t.Nothing (f.routine_of tables names k numbers l)))
  plain_so (found.Function d) h = λ m n. refl
  plain_so (found.Local i) h = cc
  plain_so (found.Global i) h = cc
  plain_so (found.Class i) h = cc
  plain_so found.Captured h = cc
  plain_so found.Unknown h = cc

  drawn_so : (n : ℕ) (d : Bool) → d ≡ true → Agree (if d then pure (e.Num t.Number (pos (frame_of (drawn (text_at tables n))))) else nothing_made) (f'.pure (if d then e.Num t.Number (pos (frame_of (drawn (text_at tables n)))) else f.amiss))
  drawn_so n true h = λ m o. refl
  drawn_so n false h = cc

  drawing : (s : Site) (a : Tree) → is_drawing tables a ≡ true → Agree (b.drawing tables a) (f'.pure (f.drawing tables names k numbers a))
  drawing s (Text i n) h = drawn_so n (draws (text_at tables n)) h
  drawing s a h = cc

  go_none : (v : StaticType) (vs : List StaticType) → all_go k.classes [] (v ∷ vs) ≡ true → ⊥
  unfolding all_go
  go_none v vs h = cc

  go_more : (s : StaticType) (ss : List StaticType) → all_go k.classes (s ∷ ss) [] ≡ true → ⊥
  unfolding all_go
  go_more s ss h = cc

  go_rest : (s v : StaticType) (ss vs : List StaticType) → all_go k.classes (s ∷ ss) (v ∷ vs) ≡ true → all_go k.classes ss vs ≡ true
  unfolding all_go
  go_rest s v ss vs h = (both_true (goes k.classes s v) (all_go k.classes ss vs) h).1

  mutual
    pub tree : (s : Site) (g : Option StaticType) (a : Tree) → HasSpots s → bad s (kind_role g) a ≡ None → Agree (mk s g a) (fk s g a)
    tree s g (Num i n) hs h = λ m o. refl
    tree s g (Text i n) hs h = λ m o. refl
    tree s g (Truth i x) hs h = λ m o. refl
    tree s g (Null i) hs h = λ m o. refl
    tree s g (This i) hs h = as_noted_is s g (This i) (λ u. e.This u) h
    tree s g (Name i x) hs h =
        let l : Found = finds tables k s.place x in
        let spot : Spot = f.spot_of tables names k numbers s l in
        agree_looked (spot_of k s.spots l) spot (λ o. b.as_noted tables k s g (Name i x) (λ u. e.Name u o)) (f'.pure (e.Name (note s g (Name i x)) spot))
        (name_so s l hs (node_whole tables k s.place names (kind_role g) (Name i x) (read_so g) h)) (as_noted_is s g (Name i x) (λ u. e.Name u spot) h)
    tree s g (Unary i op a) hs h =
        agree_bind (mk s None a) (λ x. b.as_noted tables k s g (Unary i op a) (λ u. e.Unary u op x)) (fk s None a) (λ x. f'.pure (e.Unary (note s g (Unary i op a)) op x))
        (tree s None a hs (first (bad s Free a) (un s g (Unary i op a) i) h)) (λ x. as_noted_is s g (Unary i op a) (λ u. e.Unary u op x) h)
    tree s g (Binary i op a a') hs h =
        let O : Option Failure = un s g (Binary i op a a') i in
        let T : TypedTree → TypedTree → f'.Making TypedTree = λ x y. f'.pure (e.Binary (note s g (Binary i op a a')) op x y) in
        agree_bind (mk s None a) (λ x. mk s None a' >=> λ y. b.as_noted tables k s g (Binary i op a a') (λ u. e.Binary u op x y)) (fk s None a) (λ x. onward (fk s None a') (T x))
        (tree s None a hs (first (bad s Free a) (bad s Free a' then O) h))
        (λ x. agree_bind (mk s None a') (λ y. b.as_noted tables k s g (Binary i op a a') (λ u. e.Binary u op x y)) (fk s None a') (T x)
        (tree s None a' hs (first (bad s Free a') O (last (bad s Free a) (bad s Free a' then O) h))) (λ y. as_noted_is s g (Binary i op a a') (λ u. e.Binary u op x y) h))
    tree s g (Both i a a') hs h =
        let O : Option Failure = un s g (Both i a a') i in
        agree2 (λ x y. e.Both t.Boolean x y) (mk s None a) (fk s None a) (mk s None a') (fk s None a') (tree s None a hs (first (bad s Free a) (bad s Free a' then O) h)) (tree s None a' hs (first (bad s Free a') O (last (bad s Free a) (bad s Free a' then O) h)))
    tree s g (Either i a a') hs h =
        let O : Option Failure = un s g (Either i a a') i in
        agree2 (λ x y. e.Either t.Boolean x y) (mk s None a) (fk s None a) (mk s None a') (fk s None a') (tree s None a hs (first (bad s Free a) (bad s Free a' then O) h)) (tree s None a' hs (first (bad s Free a') O (last (bad s Free a) (bad s Free a' then O) h)))
    tree s g (Choice i q a a') hs h =
        let O : Option Failure = un s g (Choice i q a a') i in
        let B : Option Failure = bad s Free a' then O in
        let C : Option Failure = bad s Free a then B in
        let T : TypedTree → TypedTree → TypedTree → f'.Making TypedTree = λ z x y. f'.pure (e.Choice (note s g (Choice i q a a')) z x y) in
        let R : TypedTree → TypedTree → TypedTree → Making TypedTree = λ z x y. b.as_noted tables k s g (Choice i q a a') (λ u. e.Choice u z x y) in
        agree_bind (mk s None q) (λ z. mk s None a >=> λ x. mk s None a' >=> R z x) (fk s None q) (λ z. onward (fk s None a) (λ x. onward (fk s None a') (T z x))) (tree s None q hs (first (bad s Free q) C h))
        (λ z. agree_bind (mk s None a) (λ x. mk s None a' >=> R z x) (fk s None a) (λ x. onward (fk s None a') (T z x)) (tree s None a hs (first (bad s Free a) B (last (bad s Free q) C h)))
        (λ x. agree_bind (mk s None a') (R z x) (fk s None a') (T z x) (tree s None a' hs (first (bad s Free a') O (last (bad s Free a) B (last (bad s Free q) C h))))
        (λ y. as_noted_is s g (Choice i q a a') (λ u. e.Choice u z x y) h)))
    tree s g (Set i op x r) hs h =
        let O : Option Failure = un s g (Set i op x r) i in
        let hx : bad s Free x ≡ None = first (bad s Free x) (bad s Given r then O) h in
        let v : StaticType = free s x in
        let T : TypedTree → TypedTree → f'.Making TypedTree = λ y z. f'.pure (e.Set (note s g (Set i op x r)) op y z) in
        let R : TypedTree → TypedTree → Making TypedTree = λ y z. b.as_noted tables k s g (Set i op x r) (λ u. e.Set u op y z) in
        agree_looked (ty s Free x) v (λ w. mk s None x >=> λ y. mk s (Some w) r >=> R y) (onward (fk s None x) (λ y. onward (fk s (Some v) r) (T y))) (free_there s x hx)
        (agree_bind (mk s None x) (λ y. mk s (Some v) r >=> R y) (fk s None x) (λ y. onward (fk s (Some v) r) (T y)) (tree s None x hs hx)
        (λ y. agree_bind (mk s (Some v) r) (R y) (fk s (Some v) r) (T y) (tree s (Some v) r hs (first (bad s Given r) O (last (bad s Free x) (bad s Given r then O) h)))
        (λ z. as_noted_is s g (Set i op x r) (λ u. e.Set u op y z) h)))
    tree s g (Bump i x by late) hs h =
        agree1 (λ a. e.Bump t.Number a by late) (mk s None x) (fk s None x) (tree s None x hs (first (bad s Free x) (un s g (Bump i x by late) i) h))
    tree s g (Member i a m) hs h =
        member_so s g i a m (constant_of tables k s.place a m) (noted_there s g (Member i a m) h) (λ o. tree s None a hs o)
        (node_whole tables k s.place names (kind_role g) (Member i a m) (read_so g) h) h
    tree s g (Item i a j) hs h =
        let O : Option Failure = un s g (Item i a j) i in
        let T : TypedTree → TypedTree → f'.Making TypedTree = λ x y. f'.pure (e.Item (note s g (Item i a j)) x y) in
        agree_bind (mk s None a) (λ x. mk s None j >=> λ y. b.as_noted tables k s g (Item i a j) (λ u. e.Item u x y)) (fk s None a) (λ x. onward (fk s None j) (T x))
        (tree s None a hs (first (bad s Free a) (bad s Free j then O) h))
        (λ x. agree_bind (mk s None j) (λ y. b.as_noted tables k s g (Item i a j) (λ u. e.Item u x y)) (fk s None j) (T x)
        (tree s None j hs (first (bad s Free j) O (last (bad s Free a) (bad s Free j then O) h))) (λ y. as_noted_is s g (Item i a j) (λ u. e.Item u x y) h))
    tree s g (Items i none) hs h = as_noted_is s g (Items i none) (λ u. e.Items u e.none) h
    tree s g (Items i (more a rest)) hs h =
        let O : Option Failure = un s g (Items i (more a rest)) i in
        let R0 : Option Failure = failures tables names k s.place [] rest in
        let ha : bad s Free a ≡ None = first (bad s Free a) (R0 then O) h in
        let v : StaticType = free s a in
        let T : TypedTree → TypedTrees → f'.Making TypedTree = λ x xs. f'.pure (e.Items (note s g (Items i (more a rest))) (e.more x xs)) in
        let R : TypedTree → TypedTrees → Making TypedTree = λ x xs. b.as_noted tables k s g (Items i (more a rest)) (λ u. e.Items u (e.more x xs)) in
        agree_looked (ty s Free a) v (λ w. mk s None a >=> λ x. b.made_items tables names k numbers s w rest >=> R x) (onward (fk s None a) (λ x. onward (f.made_items tables names k numbers s v rest) (T x))) (free_there s a ha)
        (agree_bind (mk s None a) (λ x. b.made_items tables names k numbers s v rest >=> R x) (fk s None a) (λ x. onward (f.made_items tables names k numbers s v rest) (T x)) (tree s None a hs ha)
        (λ x. agree_bind (b.made_items tables names k numbers s v rest) (R x) (f.made_items tables names k numbers s v rest) (T x) (items s v rest hs (first R0 O (last (bad s Free a) (R0 then O) h)))
        (λ xs. as_noted_is s g (Items i (more a rest)) (λ u. e.Items u (e.more x xs)) h)))
    tree s g (Call i l args) hs h =
        call s g i l args (board_callee tables k s.place l) hs h h (node_whole tables k s.place names (kind_role g) (Call i l args) (read_so g) h)
        (λ takes us ha ts go. given s takes us args hs ha ts go) (λ ps ha go. asked s ps args hs ha go)
    tree s g (SuperCall i None args) hs h = absurd (node_whole tables k s.place names (kind_role g) (SuperCall i None args) (read_so g) h)
    tree s g (SuperCall i (Some m) args) hs h =
        let o : Option ℕ = super_method k s.place.this m in
        let (d, is, go) = node_whole tables k s.place names (kind_role g) (SuperCall i (Some m) args) (read_so g) h in
        super_so s g i m args o (noted_there s g (SuperCall i (Some m) args) h) h d is go
        (first (failures tables names k s.place [] args) (un s g (SuperCall i (Some m) args) i) h) (λ takes us ha ts go'. given s takes us args hs ha ts go')
    tree s g (Make i x args) hs h =
        let l : Found = finds tables k s.place x in
        let (class, is, go) = node_whole tables k s.place names (kind_role g) (Make i x args) (read_so g) h in
        make_so s args l class is go (first (failures tables names k s.place [] args) (un s g (Make i x args) i) h) (λ takes us ha ts go'. given s takes us args hs ha ts go')
    tree s g (Handler i body) hs h = absurd (node_whole tables k s.place names (kind_role g) (Handler i body) (read_so g) h)

    call : (s : Site) (g : Option StaticType) (i : ℕ) (l : Tree) (args : Trees) (o : Option BoardCall) → HasSpots s → bad s (kind_role g) (Call i l args) ≡ None → of_call tables names k s.place i l args o ≡ None → CallWhole s l args o → GivenSo s args → AskedSo s args
        → Agree (call_made s g i l args o) (call_filled s g i l args o)
    call s g i l args (Some o) hs h h' w given_so asked_so =
        agree_bind (b.made_asked tables names k numbers s (row_of o).takes args) (λ xs. b.as_noted tables k s g (Call i l args) (λ u. e.Call u (board_target o (row_of o).action) xs))
        (f.made_asked tables names k numbers s (row_of o).takes args) (λ xs. f'.pure (e.Call (note s g (Call i l args)) (board_target o (row_of o).action) xs))
        (asked_so (row_of o).takes (first (failures tables names k s.place (row_of o).takes args) _ h') w)
        (λ xs. as_noted_is s g (Call i l args) (λ u. e.Call u (board_target o (row_of o).action) xs) h)
    call s g i (Name j x) args None hs h h' (called, d, callee_is, go) given_so asked_so =
        let l : Found = finds tables k s.place x in
        let u : ValueType = note s g (Call i (Name j x) args) in
        let ha = first (failures tables names k s.place [] args) _ (last (bad s Called (Name j x)) _ h') in
        agree_looked (b.noted tables k s g (Call i (Name j x) args)) u (λ y. b.made_call tables names k numbers s y (Name j x) (λ takes. b.made_given tables names k numbers s takes args)) (call_filled s g i (Name j x) args None) (noted_there s g (Call i (Name j x) args) h)
        (function_so s u args l d called callee_is go ha given_so)
    call s g i (Member j a m) args None hs h h' (called, d, callee_is, go) given_so asked_so =
        let u : ValueType = note s g (Call i (Member j a m) args) in
        agree_looked (b.noted tables k s g (Call i (Member j a m) args)) u (λ y. b.made_call tables names k numbers s y (Member j a m) (λ takes. b.made_given tables names k numbers s takes args)) (call_filled s g i (Member j a m) args None) (noted_there s g (Call i (Member j a m) args) h)
        (called_so s u j a m args d (first (bad s Called (Member j a m)) _ h') called callee_is go (first (failures tables names k s.place [] args) _ (last (bad s Called (Member j a m)) _ h')) (λ o. tree s None a hs o) given_so)
    call s g i (Num j n) args None hs h h' w given_so asked_so = absurd w.0
    call s g i (Text j n) args None hs h h' w given_so asked_so = absurd w.0
    call s g i (Truth j n) args None hs h h' w given_so asked_so = absurd w.0
    call s g i (Null j) args None hs h h' w given_so asked_so = absurd w.0
    call s g i (This j) args None hs h h' w given_so asked_so = absurd w.0
    call s g i (Unary j op a) args None hs h h' w given_so asked_so = absurd w.0
    call s g i (Binary j op a a') args None hs h h' w given_so asked_so = absurd w.0
    call s g i (Both j a a') args None hs h h' w given_so asked_so = absurd w.0
    call s g i (Either j a a') args None hs h h' w given_so asked_so = absurd w.0
    call s g i (Choice j q a a') args None hs h h' w given_so asked_so = absurd w.0
    call s g i (Set j op x r) args None hs h h' w given_so asked_so = absurd w.0
    call s g i (Bump j x by late) args None hs h h' w given_so asked_so = absurd w.0
    call s g i (Item j a l) args None hs h h' w given_so asked_so = absurd w.0
    call s g i (Items j l) args None hs h h' w given_so asked_so = absurd w.0
    call s g i (Call j l xs) args None hs h h' w given_so asked_so = absurd w.0
    call s g i (SuperCall j m xs) args None hs h h' w given_so asked_so = absurd w.0
    call s g i (Make j x xs) args None hs h h' w given_so asked_so = absurd w.0
    call s g i (Handler j body) args None hs h h' w given_so asked_so = absurd w.0

    -- arguments to which types are given, as many as are taken
    pub given : (s : Site) (takes us : List StaticType) (args : Trees) → HasSpots s → failures tables names k s.place [] args ≡ None → types_of tables k s.place args ≡ Some us → all_go k.classes us takes ≡ true
        → Agree (b.made_given tables names k numbers s takes args) (f.made_given tables names k numbers s takes args)
    given s [] us none hs h q go = λ m n. refl
    given s (v ∷ vs) us none hs h q go = absurd (go_none v vs (subst (λ (l : List StaticType). all_go k.classes l (v ∷ vs) ≡ true) (sym (some_is [] us q)) go))
    given s [] us (more a rest) hs h q go =
        let (y, r, q1) = bind_some (ty s Given a) (λ y. types_of tables k s.place rest >>= λ ys. Some (y ∷ ys)) us q in
        let (ys, r1, q2) = bind_some (types_of tables k s.place rest) (λ ys. Some (y ∷ ys)) us q1 in
        absurd (go_more y ys (subst (λ (l : List StaticType). all_go k.classes l [] ≡ true) (sym (some_is (y ∷ ys) us q2)) go))
    given s (v ∷ vs) us (more a rest) hs h q go =
        let (y, r, q1) = bind_some (ty s Given a) (λ y. types_of tables k s.place rest >>= λ ys. Some (y ∷ ys)) us q in
        let (ys, r1, q2) = bind_some (types_of tables k s.place rest) (λ ys. Some (y ∷ ys)) us q1 in
        let go' = go_rest y v ys vs (subst (λ (l : List StaticType). all_go k.classes l (v ∷ vs) ≡ true) (sym (some_is (y ∷ ys) us q2)) go) in
        agree2 (λ x xs. e.more x xs) (mk s (Some v) a) (fk s (Some v) a) (b.made_given tables names k numbers s vs rest) (f.made_given tables names k numbers s vs rest)
        (tree s (Some v) a hs (first (bad s Given a) (failures tables names k s.place [] rest) h)) (given s vs ys rest hs (last (bad s Given a) (failures tables names k s.place [] rest) h) r1 go')

    items : (s : Site) (v : StaticType) (args : Trees) → HasSpots s → failures tables names k s.place [] args ≡ None → Agree (b.made_items tables names k numbers s v args) (f.made_items tables names k numbers s v args)
    items s v none hs h = λ m n. refl
    items s v (more a rest) hs h =
        agree2 (λ x xs. e.more x xs) (mk s (Some v) a) (fk s (Some v) a) (b.made_items tables names k numbers s v rest) (f.made_items tables names k numbers s v rest)
        (tree s (Some v) a hs (first (bad s Given a) (failures tables names k s.place [] rest) h)) (items s v rest hs (last (bad s Given a) (failures tables names k s.place [] rest) h))

    -- arguments of a call of the board
    asked : (s : Site) (ps : List BoardParameter) (args : Trees) → HasSpots s → failures tables names k s.place ps args ≡ None → are_given tables k s.place ps args ≡ true
        → Agree (b.made_asked tables names k numbers s ps args) (f.made_asked tables names k numbers s ps args)
    asked s [] none hs h q = λ m n. refl
    asked s [] (more a rest) hs h q = cc
    asked s (board.Of v ∷ ps) none hs h q = cc
    asked s (board.Handler ∷ ps) none hs h q = cc
    asked s (board.Drawing ∷ ps) none hs h q = cc
    asked s (board.Of v ∷ ps) (more a rest) hs h q =
        let (given_so, rest_so) = both_true (fits k (ty s Given a) (Some (board_kind v))) (are_given tables k s.place ps rest) q in
        agree2 (λ x xs. e.more x xs) (mk s (Some (board_kind v)) a) (fk s (Some (board_kind v)) a) (b.made_asked tables names k numbers s ps rest) (f.made_asked tables names k numbers s ps rest)
        (tree s (Some (board_kind v)) a hs (first (bad s Given a) (failures tables names k s.place ps rest) h)) (asked s ps rest hs (last (bad s Given a) (failures tables names k s.place ps rest) h) rest_so)
    asked s (board.Drawing ∷ ps) (more a rest) hs h q =
        let (draws_so, rest_so) = both_true (is_drawing tables a) (are_given tables k s.place ps rest) q in
        agree2 (λ x xs. e.more x xs) (b.drawing tables a) (f'.pure (f.drawing tables names k numbers a)) (b.made_asked tables names k numbers s ps rest) (f.made_asked tables names k numbers s ps rest)
        (drawing s a draws_so) (asked s ps rest hs (last (bad s Given a) (failures tables names k s.place ps rest) h) rest_so)
    asked s (board.Handler ∷ ps) (more a rest) hs h q =
        let (serves_so, rest_so) = both_true (is_routine tables k s.place a) (are_given tables k s.place ps rest) q in
        agree2 (λ x xs. e.more x xs) (b.made_handler tables names k numbers s a) (f.argument_made tables names k numbers s (board.Handler ∷ ps) a (fk s None a)) (b.made_asked tables names k numbers s ps rest) (f.made_asked tables names k numbers s ps rest)
        (handler s ps a hs (first (bad s Served a) (failures tables names k s.place ps rest) h) serves_so) (asked s ps rest hs (last (bad s Served a) (failures tables names k s.place ps rest) h) rest_so)

    handler : (s : Site) (ps : List BoardParameter) (a : Tree) → HasSpots s → bad s Served a ≡ None → is_routine tables k s.place a ≡ true
        → Agree (b.made_handler tables names k numbers s a) (f.argument_made tables names k numbers s (board.Handler ∷ ps) a (fk s None a))
    handler s ps (Name i x) hs h q = plain_so (finds tables k s.place x) q
    handler s ps (Handler i (Does j [] gives all arrow)) hs h q =
        let s' : Site = in_handler_site tables names k s [] gives all in
        let inside : Option Failure = written_failure names j gives then statements_failure tables names k s'.place all in
        let h1 : inside ≡ None = first inside (if serves_itself tables names k s.place (Does j [] gives all arrow) then None else failure_at BadHandler i) h in
        let all_so = statements s' all refl (last (written_failure names j gives) (statements_failure tables names k s'.place all) h1) in
        λ m n. ap (λ (o : Option (List TypedRoutine)). o >>= λ routines. Some (record { it = e.Handler t.Nothing n; locals = []; routines = routines }))
        (agree_routines [] t.Nothing (b.made_statements tables names k numbers s' all) (f.made_statements tables names k numbers s' all) n all_so)
    handler s ps (Handler i (Does j (l ∷ ls) gives all arrow)) hs h q =
        let z : failure_at BadHandler i ≡ None = last (handler_failure tables names k s.place (Does j (l ∷ ls) gives all arrow)) (failure_at BadHandler i) h in
        cc
    handler s ps a hs h q = cc

    pub optional : (s : Site) (a : OptionalTree) → HasSpots s → optional_failure tables names k s.place a ≡ None → Agree (b.made_value tables names k numbers s None a) (f.made_optional tables names k numbers s a)
    optional s absent hs h = λ m n. refl
    optional s (present a) hs h = agree1 (λ x. Some x) (mk s None a) (fk s None a) (tree s None a hs h)

    -- an initialiser
    pub initial : (s : Site) (shape : Option Annotation) (a : OptionalTree) (i : ℕ) → HasSpots s → written_failure names i shape ≡ None → initial_failure tables names k s.place shape a ≡ None → IsSome (bound tables names k s.place shape a)
        → Agree (b.made_value tables names k numbers s (written_kind names shape) a) (f.made_first tables names k numbers s shape a)
    initial s shape absent i hs h h' q = λ m n. refl
    initial s None (present a) i hs h h' q =
        let bound_so = has_some (bound tables names k s.place None (present a)) q in
        let (alone, is) = alone_is (is_alone a) (ty s Free a) bound_so.it bound_so.is in
        agree1 (λ x. Some x) (mk s None a) (fk s None a) (tree s None a hs (unless_waived (is_alone a) (bad s Free a) alone h'))
    initial s (Some shape) (present a) i hs h h' q =
        let kind_so = own_has (kind_of names shape) UnknownName i (last (type_name_failure names shape) (own (kind_of names shape) UnknownName i) h) in
        subst (λ (o : Option StaticType). Agree (b.made_value tables names k numbers s o (present a)) (f.made_value tables names k numbers s o (present a))) (sym kind_so.is)
        (agree1 (λ x. Some x) (mk s (Some kind_so.it) a) (fk s (Some kind_so.it) a) (tree s (Some kind_so.it) a hs h'))

    -- declared names of a block
    local : (s : Site) (a : Declaration) → HasSpots s → declaration_failure tables names k s.place a ≡ None → Agree (b.made_local tables names k numbers s a) (f.made_local tables names k numbers s a)
    local s (Declare i x shape a) hs h =
        let A : Option Failure = written_failure names i shape in
        let B : Option Failure = initial_failure tables names k s.place shape a in
        let C : Option Failure = own_local tables s.place x i then own_bound tables names k s.place shape a i in
        let o : Option StaticType = bound tables names k s.place shape a in
        let bound_so : IsSome o = bound_whole tables k s.place names i x shape a h in
        let v : StaticType = unwrap_or o nothing in
        let M : Option TypedTree → ℕ → TypedDeclaration = λ y j. record { name = Local j; first = y } in
        agree_looked o v (λ u. b.made_value tables names k numbers s (written_kind names shape) a >=> λ y. a_local (value_type u) (M y)) (f.made_local tables names k numbers s (Declare i x shape a)) (there o nothing (has_some o bound_so))
        (agree_bind (b.made_value tables names k numbers s (written_kind names shape) a) (λ y. a_local (value_type v) (M y)) (f.made_first tables names k numbers s shape a) (λ y. f'.a_local (value_type v) (M y))
        (initial s shape a i hs (first A (B then C) h) (first B C (last A (B then C) h)) bound_so) (λ y m n. refl))

    locals : (s : Site) (fixed : Bool) (each : Declarations) → HasSpots s → declarations_failure tables names k s.place fixed each ≡ None → Agree (b.made_locals tables names k numbers s fixed each) (f.made_locals tables names k numbers s fixed each)
    locals s fixed ended hs h = λ m n. refl
    locals s fixed (next a rest) hs h = λ m n.
        let s' : Site = behind_statement tables names k m s (Let 0 fixed (next a ended)) in
        let A : Option Failure = declaration_failure tables names k s.place a in
        let B : Option Failure = declarations_failure tables names k s'.place fixed rest in
        agree2 (λ d ds. d ∷ ds) (b.made_local tables names k numbers s a) (f.made_local tables names k numbers s a) (b.made_locals tables names k numbers s' fixed rest) (f.made_locals tables names k numbers s' fixed rest)
        (local s a hs (first A B h)) (locals s' fixed rest (statement_spots tables names k m s (Let 0 fixed (next a ended)) hs) (last A B h)) m n

    pub statement : (s : Site) (a : Statement) → HasSpots s → statement_failure tables names k s.place a ≡ None → Agree (b.made_statement tables names k numbers s a) (f.made_statement tables names k numbers s a)
    statement s (Block i all) hs h = agree1 (λ xs. e.Block xs) (ms (in_block s) all) (fs (in_block s) all) (statements (in_block s) all hs h)
    statement s (Let i fixed each) hs h = agree1 (λ ds. e.Let fixed ds) (b.made_locals tables names k numbers s fixed each) (f.made_locals tables names k numbers s fixed each) (locals s fixed each hs h)
    statement s (IfOnly i test a) hs h =
        let A : Option Failure = bad s Free test in
        let B : Option Failure = wrong (in_block s) a in
        let C : Option Failure = own_test tables k s.place test i in
        agree2 (λ q x. e.IfOnly q x) (mk s None test) (fk s None test) (mo (in_block s) a) (fo (in_block s) a) (tree s None test hs (first A (B then C) h)) (statement (in_block s) a hs (first B C (last A (B then C) h)))
    statement s (IfElse i test a a') hs h =
        let A : Option Failure = bad s Free test in
        let B : Option Failure = wrong (in_block s) a in
        let C : Option Failure = wrong (in_block s) a' in
        let D : Option Failure = own_test tables k s.place test i in
        agree_bind (mk s None test) (λ q. mo (in_block s) a >=> λ x. mo (in_block s) a' >=> λ y. pure (e.IfElse q x y)) (fk s None test) (λ q. onward (fo (in_block s) a) (λ x. onward (fo (in_block s) a') (λ y. f'.pure (e.IfElse q x y))))
        (tree s None test hs (first A (B then C then D) h))
        (λ q. agree2 (λ x y. e.IfElse q x y) (mo (in_block s) a) (fo (in_block s) a) (mo (in_block s) a') (fo (in_block s) a')
        (statement (in_block s) a hs (first B (C then D) (last A (B then C then D) h))) (statement (in_block s) a' hs (first C D (last B (C then D) (last A (B then C then D) h)))))
    statement s (While i test a) hs h =
        let A : Option Failure = bad s Free test in
        let B : Option Failure = wrong (in_block s) a in
        let C : Option Failure = own_test tables k s.place test i in
        agree2 (λ q x. e.While q x) (mk s None test) (fk s None test) (mo (in_block s) a) (fo (in_block s) a) (tree s None test hs (first A (B then C) h)) (statement (in_block s) a hs (first B C (last A (B then C) h)))
    statement s (DoWhile i a test) hs h =
        let A : Option Failure = wrong (in_block s) a in
        let B : Option Failure = bad s Free test in
        let C : Option Failure = own_test tables k s.place test i in
        agree2 (λ x q. e.DoWhile x q) (mo (in_block s) a) (fo (in_block s) a) (mk s None test) (fk s None test) (statement (in_block s) a hs (first A (B then C) h)) (tree s None test hs (first B C (last A (B then C) h)))
    statement s (For i omitted test step a) hs h = λ m n.
        let s1 : Site = in_block s in
        let A : Option Failure = optional_failure tables names k s1.place test in
        let B : Option Failure = optional_failure tables names k s1.place step in
        let C : Option Failure = wrong (in_block s1) a in
        let D : Option Failure = test_failure tables k s1.place test i in
        agree_bind (pure e.omitted) (λ l. mv s1 test >=> λ q. mv s1 step >=> λ y. mo (in_block s1) a >=> λ x. pure (e.For l q y x)) (f'.pure e.omitted) (λ l. onward (fv s1 test) (λ q. onward (fv s1 step) (λ y. onward (fo (in_block s1) a) (λ x. f'.pure (e.For l q y x)))))
        (λ m' n'. refl)
        (λ l. agree_bind (mv s1 test) (λ q. mv s1 step >=> λ y. mo (in_block s1) a >=> λ x. pure (e.For l q y x)) (fv s1 test) (λ q. onward (fv s1 step) (λ y. onward (fo (in_block s1) a) (λ x. f'.pure (e.For l q y x))))
        (optional s1 test hs (first A (B then C then D) h))
        (λ q. agree2 (λ y x. e.For l q y x) (mv s1 step) (fv s1 step) (mo (in_block s1) a) (fo (in_block s1) a) (optional s1 step hs (first B (C then D) (last A (B then C then D) h))) (statement (in_block s1) a hs (first C D (last B (C then D) (last A (B then C then D) h)))))) m n
    statement s (For i (written d) test step a) hs h = λ m n.
        let s0 : Site = in_block s in
        let s1 : Site = behind_statement tables names k m s0 d in
        let hs1 : HasSpots s1 = statement_spots tables names k m s0 d hs in
        let Z : Option Failure = wrong s0 d in
        let A : Option Failure = optional_failure tables names k s1.place test in
        let B : Option Failure = optional_failure tables names k s1.place step in
        let C : Option Failure = wrong (in_block s1) a in
        let D : Option Failure = test_failure tables k s1.place test i in
        let h' : (A then B then C then D) ≡ None = last Z (A then B then C then D) h in
        agree_bind (mo s0 d >=> λ x. pure (e.written x)) (λ l. mv s1 test >=> λ q. mv s1 step >=> λ y. mo (in_block s1) a >=> λ x. pure (e.For l q y x)) (onward (fo s0 d) (λ x. f'.pure (e.written x))) (λ l. onward (fv s1 test) (λ q. onward (fv s1 step) (λ y. onward (fo (in_block s1) a) (λ x. f'.pure (e.For l q y x)))))
        (agree1 (λ x. e.written x) (mo s0 d) (fo s0 d) (statement s0 d hs (first Z (A then B then C then D) h)))
        (λ l. agree_bind (mv s1 test) (λ q. mv s1 step >=> λ y. mo (in_block s1) a >=> λ x. pure (e.For l q y x)) (fv s1 test) (λ q. onward (fv s1 step) (λ y. onward (fo (in_block s1) a) (λ x. f'.pure (e.For l q y x))))
        (optional s1 test hs1 (first A (B then C then D) h'))
        (λ q. agree2 (λ y x. e.For l q y x) (mv s1 step) (fv s1 step) (mo (in_block s1) a) (fo (in_block s1) a) (optional s1 step hs1 (first B (C then D) (last A (B then C then D) h'))) (statement (in_block s1) a hs1 (first C D (last B (C then D) (last A (B then C then D) h')))))) m n
    statement s (ForOf i fixed x list a) hs h = λ m n.
        let o : Option StaticType = items_of (ty s Free list) in
        let some_so : IsSome o = loop_whole tables k s.place names i x fixed list a h in
        let u : ValueType = value_type (unwrap_or o nothing) in
        let s1 : Site = record { place = inner (looped_in tables k s.place fixed x list); spots = s.spots ++ Local m ∷ [] } in
        let hs1 : HasSpots s1 = one_more s.spots s.place.locals _ _ hs in
        let A : Option Failure = bad s Free list in
        let B : Option Failure = wrong s1 a in
        let C : Option Failure = unless (not (is_dollar tables.names x)) UnknownName i in
        let D : Option Failure = unless (is_list (ty s Free list)) Mismatch i in
        ap (λ (z : Option StaticType). looked z (λ v m n. (mk s None list >=> λ l. a_local (value_type v) (λ j. j) >=> λ j. a_local (t.ListOf (value_type v)) (λ y. y) >=> λ y. a_local t.Number (λ y. y) >=> λ y. mo s1 a >=> λ y. pure (e.ForOf fixed (Local j) l y)) m n) m n) (there o nothing (has_some o some_so))
        ∙ agree_bind (mk s None list) (λ l. a_local u (λ j. j) >=> λ j. a_local (t.ListOf u) (λ y. y) >=> λ y. a_local t.Number (λ y. y) >=> λ y. mo s1 a >=> λ y. pure (e.ForOf fixed (Local j) l y))
        (fk s None list) (λ l. onward (f'.a_local u (λ j. j)) (λ j. onward (f'.a_local (t.ListOf u) (λ y. y)) (λ y. onward (f'.a_local t.Number (λ y. y)) (λ y. onward (fo s1 a) (λ y. f'.pure (e.ForOf fixed (Local j) l y))))))
        (tree s None list hs (first A (B then C then D) h))
        (λ l. agree_bind (a_local u (λ j. j)) (λ j. a_local (t.ListOf u) (λ y. y) >=> λ y. a_local t.Number (λ y. y) >=> λ y. mo s1 a >=> λ y. pure (e.ForOf fixed (Local j) l y)) (f'.a_local u (λ j. j)) (λ j. onward (f'.a_local (t.ListOf u) (λ y. y)) (λ y. onward (f'.a_local t.Number (λ y. y)) (λ y. onward (fo s1 a) (λ y. f'.pure (e.ForOf fixed (Local j) l y)))))
        (λ m' n'. refl)
        (λ j. agree_bind (a_local (t.ListOf u) (λ y. y)) (λ y. a_local t.Number (λ y. y) >=> λ y. mo s1 a >=> λ y. pure (e.ForOf fixed (Local j) l y)) (f'.a_local (t.ListOf u) (λ y. y)) (λ y. onward (f'.a_local t.Number (λ y. y)) (λ y. onward (fo s1 a) (λ y. f'.pure (e.ForOf fixed (Local j) l y))))
        (λ m' n'. refl)
        (λ y. agree2 (λ y x'. e.ForOf fixed (Local j) l x') (a_local t.Number (λ y. y)) (f'.a_local t.Number (λ y. y)) (mo s1 a) (fo s1 a) (λ m' n'. refl) (statement s1 a hs1 (first B (C then D) (last A (B then C then D) h)))))) m n
    statement s (Return i absent) hs h = λ m n. refl
    statement s (Return i (present a)) hs h =
        let g : Option StaticType = s.place.gives in
        agree1 (λ x. e.Return x) (b.made_value tables names k numbers s g (present a)) (f.made_value tables names k numbers s g (present a))
        (agree1 (λ x. Some x) (mk s g a) (fk s g a) (tree s g a hs (first (bad s (kind_role g) a) (unless (fits k (ty s (kind_role g) a) g) Mismatch i) h)))
    statement s (Break i) hs h = λ m n. refl
    statement s (Continue i) hs h = λ m n. refl
    statement s (Plain i a) hs h = agree1 (λ x. e.Plain x) (mk s None a) (fk s None a) (tree s None a hs h)
    statement s (Empty i) hs h = λ m n. refl

    pub statements : (s : Site) (all : Statements) → HasSpots s → statements_failure tables names k s.place all ≡ None → Agree (ms s all) (fs s all)
    statements s done hs h = λ m n. refl
    statements s (also a rest) hs h = λ m n.
        let s1 : Site = behind_statement tables names k m s a in
        let A : Option Failure = wrong s a in
        let B : Option Failure = statements_failure tables names k s1.place rest in
        agree2 (λ x xs. e.also x xs) (mo s a) (fo s a) (ms s1 rest) (fs s1 rest) (statement s a hs (first A B h)) (statements s1 rest (statement_spots tables names k m s a hs) (last A B h)) m n
