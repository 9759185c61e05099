-- How many functions stand in what is made of trees without a failure: as many as the trees have.
use Rattle.std.proofs.Common.{◌≡◌, ℕ, ℤ, suc, ◌+◌, refl, sym, ap, ◌∙◌, subst, Bool, true, false, Option, Some, None, List, [], ◌∷◌, ◌++◌, length, arith, length-append}
use Rattle.std.specs.Prelude.{not, is_some, if◌then◌else◌, ◌||◌}
use Rattle.sts_base.specs.declared.tables.Tables.{Tables}
use Rattle.sts_base.specs.declared.refused.Code.{Code}
use Rattle.sts_base.specs.declared.refused.Code.TheVariants.{Mismatch, UnknownName, NeedsType}
use Rattle.sts_syntax.specs.Annotations.{Annotation}
use Rattle.sts_syntax.specs.declared.typed.Spot.TheVariants.{Local}
use Rattle.sts_syntax.specs.declared.typed.Callee.TheVariants as c
use Rattle.sts_scope.specs.Kinds.{value_type}
use Rattle.sts_syntax.specs.Types as t
use Rattle.sts_syntax.specs.Types.{ValueType}
use Rattle.sts_syntax.specs.TypedTrees as e
use Rattle.sts_syntax.specs.TypedTrees.{TypedTree, TypedStatement, TypedDeclaration}
use Rattle.sts_syntax.specs.BoardTable as board
use Rattle.sts_syntax.specs.BoardTable.{BoardParameter, row_of, call_named, constant_named}
use Rattle.sts_syntax.specs.declared.board_calls.BoardCall.{BoardCall}
use Rattle.sts_syntax.specs.Trees.{Tree, Num, Text, Truth, Null, This, Name, Unary, Binary, Both, Either, Choice, Set, Bump, Member, Item, Call, SuperCall, Make, Items, Handler, Trees, none, more, OptionalTree, absent, present, Statement, Block, Let, IfOnly, IfElse, While, DoWhile, For, ForOf, Return, Break, Continue, Plain, Empty, Statements, done, also, OptionalStatement, omitted, written, Declaration, Declare, Declarations, ended, next, Does}
use Rattle.sts_scope.specs.declared.kinds.StaticType.{StaticType}
use Rattle.sts_scope.specs.declared.known.Known.{Known}
use Rattle.sts_scope.specs.Failures.{Failure, ◌then◌, failure_at, unless, own}
use Rattle.sts_scope.specs.Entries.{Naming, written_kind}
use Rattle.sts_scope.specs.Globals.{is_dollar}
use Rattle.sts_scope.specs.Headings.{written_failure}
use Rattle.sts_scope.specs.Places.{NameScope, inner}
use Rattle.sts_scope.specs.Rules.{takes_at, kind_at, maker_takes_of}
use Rattle.type_derive.specs.declared.roles.Role.{Role}
use Rattle.type_derive.specs.declared.roles.Role.TheVariants.{Free, Given, Called, Served}
use Rattle.type_derive.specs.Typing.{◌>>=◌, Callee, callee, fits, board_kind, called, space, constant_of, board_callee, callee_of, super_method, type_of, types_of, are_given, is_routine, is_drawing, spelling, finds}
use Rattle.type_derive.specs.Returns.{is_alone, bound, after, after_first, looped, items_of}
use Rattle.type_derive.specs.Nodes.{failure, failures, handler_failure, unsuited, cause_of, is_of_board, kind_role, initial_failure, optional_failure, test_failure, declaration_failure, declarations_failure, statement_failure, first_failure, statements_failure, own_local, own_bound, is_list}
use Rattle.sts_scope.specs.Handlers.{handlers, handlers_of, optional_handlers, declarations_handlers, statement_handlers, first_handlers, statements_handlers}
use Rattle.type_derive.specs.Making.{Made}
use Rattle.type_derive.specs.inner.Filling.{Making, pure, ◌>=>◌, a_local}
use Rattle.sts_scope.specs.Numbers.{Numbering, routine_number}
use Rattle.type_derive.specs.Built.{Site, in_block, board_target}
use Rattle.type_derive.specs.inner.Filled.{amiss, made_tree, made_given, made_items, made_asked, made_call, made_first, made_optional, made_value, made_locals, made_local, made_statement, made_opening, made_statements, noted, type_in, part_in, class_in, member_read, part_target, routine_of, class_found, call_takes, asked_given, drawing, argument_made, next_given, later_given, behind_statement, first_site, in_handler_site, kind_or_nothing}
use Rattle.typed_laws.specs.Laws.{IsRead}
use Rattle.typed_laws.proofs.OneNode.{both_true}
use Rattle.typed_laws.proofs.Typed.{Has, last, first, if_true, of_call, call_has, unsuited_has}
use Rattle.typed_laws.proofs.Names.{bind_some}

abbrev pub Counts : {A : Type 0} → ℕ → Making A → Type 0
Counts h f = (m n : ℕ) → length (f m n).routines ≡ h

pub counts_bind : {A B : Type 0} (h j : ℕ) (f : Making A) (g : A → Making B) → Counts h f → ((a : A) → Counts j (g a)) → Counts (h + j) (f >=> g)
counts_bind {A} {B} h j f g first rest m n =
    let x : Made A = f m n in
    let y : Made B = g x.it (m + length x.locals) (n + length x.routines) in
    length-append x.routines y.routines ∙ ap (λ (i : ℕ). i + length y.routines) (first m n) ∙ ap (λ (i : ℕ). h + i) (rest x.it (m + length x.locals) (n + length x.routines))

pub counts_as : {A : Type 0} (h j : ℕ) (f : Making A) → Counts h f → h ≡ j → Counts j f
counts_as {A} h j f first same m n = first m n ∙ same

-- one, and then what is made of it
pub counts_one : {A B : Type 0} (h : ℕ) (f : Making A) (make : A → B) → Counts h f → Counts h (f >=> λ x. pure (make x))
counts_one {A} {B} h f make first = counts_as (h + 0) h (f >=> λ x. pure (make x)) (counts_bind h 0 f (λ x. pure (make x)) first (λ x m n. refl)) (omega arith)

pub counts_two : {A B C : Type 0} (h j : ℕ) (f : Making A) (g : Making B) (make : A → B → C) → Counts h f → Counts j g → Counts (h + j) (f >=> λ x. g >=> λ y. pure (make x y))
counts_two {A} {B} {C} h j f g make first second = counts_bind h j f (λ x. g >=> λ y. pure (make x y)) first (λ x. counts_one j g (make x) second)

-- the same where the second hangs on the first
pub counts_then : {A B C : Type 0} (h j : ℕ) (f : Making A) (g : A → Making B) (make : A → B → C) → Counts h f → ((a : A) → Counts j (g a)) → Counts (h + j) (f >=> λ x. g x >=> λ y. pure (make x y))
counts_then {A} {B} {C} h j f g make first second = counts_bind h j f (λ x. g x >=> λ y. pure (make x y)) first (λ x. counts_one j (g x) (make x) (second x))

module _ (tables : Tables) (names : Naming) (k : Known) (numbers : Numbering) where
  abbrev mk : Site → Option StaticType → Tree → Making TypedTree
  mk s g a = made_tree tables names k numbers s g a

  abbrev bad : Site → Role → Tree → Option Failure
  bad s r a = failure tables names k s.place r a

  -- A name of a space is made of no functions.
  abbrev IsPlain : Site → Tree → Type 0
  IsPlain s a = (handlers a ≡ 0) × ((g : Option StaticType) → Counts 0 (mk s g a))

  space_plain : (s : Site) (a : Tree) (sp : List ℕ) → space tables k s.place a ≡ Some sp → IsPlain s a
  space_plain s (Name i x) sp h = (refl, λ g m n. refl)
  space_plain s (Num i n) sp h = cc
  space_plain s (Text i n) sp h = cc
  space_plain s (Truth i x) sp h = cc
  space_plain s (Null i) sp h = cc
  space_plain s (This i) sp h = cc
  space_plain s (Unary i op a) sp h = cc
  space_plain s (Binary i op a b) sp h = cc
  space_plain s (Both i a b) sp h = cc
  space_plain s (Either i a b) sp h = cc
  space_plain s (Choice i q a b) sp h = cc
  space_plain s (Set i op x a) sp h = cc
  space_plain s (Bump i x by late) sp h = cc
  space_plain s (Member i a m) sp h = cc
  space_plain s (Item i a j) sp h = cc
  space_plain s (Items i items) sp h = cc
  space_plain s (Call i f args) sp h = cc
  space_plain s (SuperCall i m args) sp h = cc
  space_plain s (Make i x args) sp h = cc
  space_plain s (Handler i body) sp h = cc

  board_plain : (s : Site) (f : Tree) (call : BoardCall) → board_callee tables k s.place f ≡ Some call → handlers f ≡ 0
  board_plain s (Member i a m) call h = let (sp, q, r) = bind_some (space tables k s.place a) (λ (x : List ℕ). call_named x (spelling tables m)) call h in (space_plain s a sp q).0
  board_plain s (Name i x) call h = refl
  board_plain s (Num i n) call h = cc
  board_plain s (Text i n) call h = cc
  board_plain s (Truth i x) call h = cc
  board_plain s (Null i) call h = cc
  board_plain s (This i) call h = cc
  board_plain s (Unary i op a) call h = cc
  board_plain s (Binary i op a b) call h = cc
  board_plain s (Both i a b) call h = cc
  board_plain s (Either i a b) call h = cc
  board_plain s (Choice i q a b) call h = cc
  board_plain s (Set i op x a) call h = cc
  board_plain s (Bump i x by late) call h = cc
  board_plain s (Item i a j) call h = cc
  board_plain s (Items i items) call h = cc
  board_plain s (Call i f args) call h = cc
  board_plain s (SuperCall i m args) call h = cc
  board_plain s (Make i x args) call h = cc
  board_plain s (Handler i body) call h = cc

  drawing_plain : (a : Tree) → is_drawing tables a ≡ true → handlers a ≡ 0
  drawing_plain (Text i n) h = refl
  drawing_plain (Num i n) h = cc
  drawing_plain (Truth i x) h = cc
  drawing_plain (Null i) h = cc
  drawing_plain (This i) h = cc
  drawing_plain (Name i x) h = cc
  drawing_plain (Unary i op a) h = cc
  drawing_plain (Binary i op a b) h = cc
  drawing_plain (Both i a b) h = cc
  drawing_plain (Either i a b) h = cc
  drawing_plain (Choice i q a b) h = cc
  drawing_plain (Set i op x a) h = cc
  drawing_plain (Bump i x by late) h = cc
  drawing_plain (Member i a m) h = cc
  drawing_plain (Item i a j) h = cc
  drawing_plain (Items i items) h = cc
  drawing_plain (Call i f args) h = cc
  drawing_plain (SuperCall i m args) h = cc
  drawing_plain (Make i x args) h = cc
  drawing_plain (Handler i body) h = cc

  parts2 : (A B C : Option Failure) → (A then B then C) ≡ None → (A ≡ None) × (B ≡ None) × (C ≡ None)
  parts2 A B C h = let r = last A (B then C) h in (first A (B then C) h, first B C r, last B C r)

  parts3 : (A B C D : Option Failure) → (A then B then C then D) ≡ None → (A ≡ None) × (B ≡ None) × (C ≡ None) × (D ≡ None)
  parts3 A B C D h = let r = last A (B then C then D) h in let (x, y, z) = parts2 B C D r in (first A (B then C then D) h, x, y, z)

  parts4 : (A B C D E : Option Failure) → (A then B then C then D then E) ≡ None → (A ≡ None) × (B ≡ None) × (C ≡ None) × (D ≡ None) × (E ≡ None)
  parts4 A B C D E h = let r = last A (B then C then D then E) h in let (x, y, z, o) = parts3 B C D E r in (first A (B then C then D then E) h, x, y, z, o)

  constant_plain : (s : Site) (a : Tree) (m : ℕ) (z : ℤ) → constant_of tables k s.place a m ≡ Some z → IsPlain s a
  constant_plain s a m z h = let (sp, q, h1) = bind_some (space tables k s.place a) (λ (x : List ℕ). constant_named x (spelling tables m)) z h in space_plain s a sp q

  member_counts : (s : Site) (a : Tree) (m : ℕ) (n : ValueType) (z : Option ℤ) → constant_of tables k s.place a m ≡ z → Counts (handlers a) (mk s None a)
      → Counts (handlers a) (elim z [ Some y ↦ pure (e.Num t.Number y) | None ↦ mk s None a >=> λ x. pure (member_read tables names k numbers n (part_in tables names k numbers s a m) (class_in tables names k numbers s a) m x) ])
  member_counts s a m n (Some y) q object = counts_as 0 (handlers a) (pure (e.Num t.Number y)) (λ m' n'. refl) (sym (constant_plain s a m y q).0)
  member_counts s a m n None q object =
      counts_one (handlers a) (mk s None a) (λ x. member_read tables names k numbers n (part_in tables names k numbers s a m) (class_in tables names k numbers s a) m x) object

  -- what stands before a dot
  object_counts : (s : Site) (i : ℕ) (a : Tree) (m : ℕ) (z : Option ℤ) (b : Option BoardCall) → constant_of tables k s.place a m ≡ z → board_callee tables k s.place (Member i a m) ≡ b
      → (if is_some z || is_some b then None else bad s Free a) ≡ None → (bad s Free a ≡ None → Counts (handlers a) (mk s None a)) → Counts (handlers a) (mk s None a)
  object_counts s i a m (Some y) b q o h f = let (zero_so, plain) = constant_plain s a m y q in counts_as 0 (handlers a) (mk s None a) (plain None) (sym zero_so)
  object_counts s i a m None (Some call) q o h f =
      let (sp, x, h1) = bind_some (space tables k s.place a) (λ (x : List ℕ). call_named x (spelling tables m)) call o in
      let (zero_so, plain) = space_plain s a sp x in
      counts_as 0 (handlers a) (mk s None a) (plain None) (sym zero_so)
  object_counts s i a m None None q o h f = f h

  member_object : (s : Site) (r : Role) (i : ℕ) (a : Tree) (m : ℕ) → bad s r (Member i a m) ≡ None → (bad s Free a ≡ None → Counts (handlers a) (mk s None a)) → Counts (handlers a) (mk s None a)
  member_object s r i a m h f =
      object_counts s i a m (constant_of tables k s.place a m) (board_callee tables k s.place (Member i a m)) refl refl
      (first (if is_of_board tables k s.place (Member i a m) then None else bad s Free a) _ h) f

  abbrev call_failure : Site → ℕ → Tree → Trees → Option BoardCall → Option Failure
  call_failure s i f args b = of_call tables names k s.place i f args b

  abbrev call_made : Site → ValueType → Tree → Trees → Option BoardCall → Making TypedTree
  call_made s n f args (Some call) = made_asked tables names k numbers s (row_of call).takes args >=> λ xs. pure (e.Call n (board_target call (row_of call).action) xs)
  call_made s n f args None = made_call tables names k numbers s n f (made_given tables names k numbers s (call_takes tables names k numbers s f) args)

  no_callee_of : (d : Option Callee) (ts : Option (List StaticType)) → d ≡ None → Has (called k d ts) → ⊥
  no_callee_of None ts q h = let z = h.is in cc
  no_callee_of (Some d) ts q h = cc

  no_callee : (s : Site) (f : Tree) (args : Trees) (i : ℕ) → callee_of tables k s.place f ≡ None → call_failure s i f args None ≡ None → ⊥
  no_callee s f args i q h = no_callee_of (callee_of tables k s.place f) (types_of tables k s.place args) q (call_has tables names k s.place i f args None h)

  no_type : Has {A = StaticType} None → ⊥
  no_type h = let z = h.is in cc

  role_read : (g : Option StaticType) → IsRead (kind_role g)
  role_read None = tt
  role_read (Some v) = tt

  unalone : (x : Bool) (o : Option Failure) (u : Option StaticType) (i : ℕ) → (if x then None else o) ≡ None → own (let w : Option StaticType = if x then None else u in w) NeedsType i ≡ None → o ≡ None
  unalone true o u i h h1 = cc
  unalone false o u i h h1 = h

  first_place : (m : ℕ) (s : Site) (a : OptionalStatement) → after_first tables names k s.place a ≡ (first_site tables names k numbers m s a).place
  first_place m s omitted = refl
  first_place m s (written a) = refl

  abbrev t_of : Site → Option Annotation → OptionalTree → ValueType
  t_of s shape first' = value_type (kind_or_nothing tables names k numbers (bound tables names k s.place shape first'))

  abbrev u_of : Site → Tree → ValueType
  u_of s list = value_type (kind_or_nothing tables names k numbers (items_of (type_of tables k s.place Free list)))

  super_counts : (s : Site) (i : ℕ) (args : Trees) (n : ValueType) (code : Code) (d : Option ℕ)
      → (failures tables names k s.place [] args then own (called k (d >>= λ j. Some (callee (takes_at k.entries j) (kind_at k j))) (types_of tables k s.place args)) code i) ≡ None
      → ((takes : List StaticType) → failures tables names k s.place [] args ≡ None → Counts (handlers_of args) (made_given tables names k numbers s takes args))
      → Counts (handlers_of args) (elim d [ None ↦ pure amiss | Some j ↦ made_given tables names k numbers s (takes_at k.entries j) args >=> λ xs. pure (e.SuperCall n (routine_number numbers j) xs) ])
  super_counts s i args n code None h given = let z : failure_at code i ≡ None = last (failures tables names k s.place [] args) (failure_at code i) h in cc
  super_counts s i args n code (Some j) h given =
      counts_one (handlers_of args) (made_given tables names k numbers s (takes_at k.entries j) args) (λ xs. e.SuperCall n (routine_number numbers j) xs)
      (given (takes_at k.entries j) (first (failures tables names k s.place [] args) _ h))

  mutual
    pub tree_counts : (s : Site) (r : Role) (g : Option StaticType) (a : Tree) → IsRead r → bad s r a ≡ None → Counts (handlers a) (mk s g a)
    tree_counts s r g (Num i n) read h = λ m n. refl
    tree_counts s r g (Text i n) read h = λ m n. refl
    tree_counts s r g (Truth i x) read h = λ m n. refl
    tree_counts s r g (Null i) read h = λ m n. refl
    tree_counts s r g (This i) read h = λ m n. refl
    tree_counts s r g (Name i x) read h = λ m n. refl
    tree_counts s r g (Unary i op a) read h = counts_one (handlers a) (mk s None a) (λ x. e.Unary (noted tables names k numbers s g (Unary i op a)) op x) (tree_counts s Free None a tt (first (bad s Free a) _ h))
    tree_counts s r g (Binary i op a b) read h =
        let (ha, hb, ho) = parts2 (bad s Free a) (bad s Free b) _ h in
        counts_two (handlers a) (handlers b) (mk s None a) (mk s None b) (λ x y. e.Binary (noted tables names k numbers s g (Binary i op a b)) op x y) (tree_counts s Free None a tt ha) (tree_counts s Free None b tt hb)
    tree_counts s r g (Both i a b) read h =
        let (ha, hb, ho) = parts2 (bad s Free a) (bad s Free b) _ h in
        counts_two (handlers a) (handlers b) (mk s None a) (mk s None b) (λ x y. e.Both t.Boolean x y) (tree_counts s Free None a tt ha) (tree_counts s Free None b tt hb)
    tree_counts s r g (Either i a b) read h =
        let (ha, hb, ho) = parts2 (bad s Free a) (bad s Free b) _ h in
        counts_two (handlers a) (handlers b) (mk s None a) (mk s None b) (λ x y. e.Either t.Boolean x y) (tree_counts s Free None a tt ha) (tree_counts s Free None b tt hb)
    tree_counts s r g (Choice i q a b) read h =
        let (hq, ha, hb, ho) = parts3 (bad s Free q) (bad s Free a) (bad s Free b) _ h in
        let n : ValueType = noted tables names k numbers s g (Choice i q a b) in
        counts_as (handlers q + (handlers a + handlers b)) (handlers q + handlers a + handlers b) (mk s g (Choice i q a b))
        (counts_bind (handlers q) (handlers a + handlers b) (mk s None q) (λ z. mk s None a >=> λ x. mk s None b >=> λ y. pure (e.Choice n z x y)) (tree_counts s Free None q tt hq)
        (λ z. counts_two (handlers a) (handlers b) (mk s None a) (mk s None b) (λ x y. e.Choice n z x y) (tree_counts s Free None a tt ha) (tree_counts s Free None b tt hb))) (omega arith)
    tree_counts s r g (Set i op x a) read h =
        let (hx, ha, ho) = parts2 (bad s Free x) (bad s Given a) _ h in
        counts_two (handlers x) (handlers a) (mk s None x) (mk s (Some (type_in tables names k numbers s x)) a) (λ y z. e.Set (noted tables names k numbers s g (Set i op x a)) op y z) (tree_counts s Free None x tt hx)
        (tree_counts s Given (Some (type_in tables names k numbers s x)) a tt ha)
    tree_counts s r g (Bump i x by late) read h = counts_one (handlers x) (mk s None x) (λ y. e.Bump t.Number y by late) (tree_counts s Free None x tt (first (bad s Free x) _ h))
    tree_counts s r g (Member i a m) read h =
        member_counts s a m (noted tables names k numbers s g (Member i a m)) (constant_of tables k s.place a m) refl (member_object s r i a m h (λ h'. tree_counts s Free None a tt h'))
    tree_counts s r g (Item i a j) read h =
        let (ha, hj, ho) = parts2 (bad s Free a) (bad s Free j) _ h in
        counts_two (handlers a) (handlers j) (mk s None a) (mk s None j) (λ x y. e.Item (noted tables names k numbers s g (Item i a j)) x y) (tree_counts s Free None a tt ha) (tree_counts s Free None j tt hj)
    tree_counts s r g (Items i none) read h = λ m n. refl
    tree_counts s r g (Items i (more a rest)) read h =
        let (ha, hr, ho) = parts2 (bad s Free a) (failures tables names k s.place [] rest) _ h in
        counts_two (handlers a) (handlers_of rest) (mk s None a) (made_items tables names k numbers s (type_in tables names k numbers s a) rest) (λ x xs. e.Items (noted tables names k numbers s g (Items i (more a rest))) (e.more x xs))
        (tree_counts s Free None a tt ha) (items_counts s (type_in tables names k numbers s a) rest hr)
    tree_counts s r g (Call i f args) read h =
        call_counts s i f args (noted tables names k numbers s g (Call i f args)) (board_callee tables k s.place f) refl h
        (λ takes h'. given_counts s takes args h') (λ ps h' q. asked_counts s ps args h' q)
    tree_counts s r g (SuperCall i None args) read h = let z : failure_at Mismatch i ≡ None = last (failures tables names k s.place [] args) (failure_at Mismatch i) h in cc
    tree_counts s r g (SuperCall i (Some m) args) read h =
        super_counts s i args (noted tables names k numbers s g (SuperCall i (Some m) args)) (cause_of tables k s.place r (SuperCall i (Some m) args)) (super_method k s.place.this m) h (λ takes h'. given_counts s takes args h')
    tree_counts s r g (Make i x args) read h =
        let class = class_found tables names k numbers (finds tables k s.place x) in
        counts_one (handlers_of args) (made_given tables names k numbers s (maker_takes_of k.classes class) args) (λ xs. e.Make (t.Object class) class xs) (given_counts s (maker_takes_of k.classes class) args (first (failures tables names k s.place [] args) _ h))
    tree_counts s r g (Handler i body) read h =
        absurd (no_type (unsuited_has tables names k s.place r (Handler i body) i read (last (handler_failure tables names k s.place body) _ h)))

    pub given_counts : (s : Site) (takes : List StaticType) (args : Trees) → failures tables names k s.place [] args ≡ None → Counts (handlers_of args) (made_given tables names k numbers s takes args)
    given_counts s takes none h = λ m n. refl
    given_counts s takes (more a rest) h =
        counts_two (handlers a) (handlers_of rest) (mk s (next_given takes) a) (made_given tables names k numbers s (later_given takes) rest) (λ x xs. e.more x xs)
        (tree_counts s Given (next_given takes) a tt (first (bad s Given a) (failures tables names k s.place [] rest) h)) (given_counts s (later_given takes) rest (last (bad s Given a) (failures tables names k s.place [] rest) h))

    items_counts : (s : Site) (u : StaticType) (args : Trees) → failures tables names k s.place [] args ≡ None → Counts (handlers_of args) (made_items tables names k numbers s u args)
    items_counts s u none h = λ m n. refl
    items_counts s u (more a rest) h =
        counts_two (handlers a) (handlers_of rest) (mk s (Some u) a) (made_items tables names k numbers s u rest) (λ x xs. e.more x xs)
        (tree_counts s Given (Some u) a tt (first (bad s Given a) (failures tables names k s.place [] rest) h)) (items_counts s u rest (last (bad s Given a) (failures tables names k s.place [] rest) h))

    call_counts : (s : Site) (i : ℕ) (f : Tree) (args : Trees) (n : ValueType) (b : Option BoardCall) → board_callee tables k s.place f ≡ b → call_failure s i f args b ≡ None
        → ((takes : List StaticType) → failures tables names k s.place [] args ≡ None → Counts (handlers_of args) (made_given tables names k numbers s takes args))
        → ((ps : List BoardParameter) → failures tables names k s.place ps args ≡ None → are_given tables k s.place ps args ≡ true → Counts (handlers_of args) (made_asked tables names k numbers s ps args))
        → Counts (handlers f + handlers_of args) (call_made s n f args b)
    call_counts s i f args n (Some call) q h given asked =
        let ps : List BoardParameter = (row_of call).takes in
        let none_so : handlers f ≡ 0 = board_plain s f call q in
        counts_as (handlers_of args) (handlers f + handlers_of args) (call_made s n f args (Some call))
        (counts_one (handlers_of args) (made_asked tables names k numbers s ps args) (λ xs. e.Call n (board_target call (row_of call).action) xs)
        (asked ps (first (failures tables names k s.place ps args) _ h)
        (if_true (are_given tables k s.place ps args) (board_kind (row_of call).gives) _ i (last (failures tables names k s.place ps args) _ h)))) (omega (arith, none_so))
    call_counts s i (Name j x) args n None q h given asked =
        let (hf, ha, ho) = parts2 (bad s Called (Name j x)) (failures tables names k s.place [] args) _ h in
        counts_as (handlers_of args) (0 + handlers_of args) (call_made s n (Name j x) args None)
        (counts_one (handlers_of args) (made_given tables names k numbers s (call_takes tables names k numbers s (Name j x)) args) (λ xs. e.Call n (c.Function (routine_of tables names k numbers (finds tables k s.place x))) xs) (given (call_takes tables names k numbers s (Name j x)) ha)) (omega arith)
    call_counts s i (Member j a m) args n None q h given asked =
        let (hf, ha, ho) = parts2 (bad s Called (Member j a m)) (failures tables names k s.place [] args) _ h in
        counts_two (handlers a) (handlers_of args) (mk s None a) (made_given tables names k numbers s (call_takes tables names k numbers s (Member j a m)) args)
        (λ x xs. e.Call n (part_target tables names k numbers (part_in tables names k numbers s a m) (class_in tables names k numbers s a) m) (e.more x xs))
        (member_object s Called j a m hf (λ h'. tree_counts s Free None a tt h')) (given (call_takes tables names k numbers s (Member j a m)) ha)
    call_counts s i (Num j n') args n None q h given asked = absurd (no_callee s (Num j n') args i refl h)
    call_counts s i (Text j n') args n None q h given asked = absurd (no_callee s (Text j n') args i refl h)
    call_counts s i (Truth j x) args n None q h given asked = absurd (no_callee s (Truth j x) args i refl h)
    call_counts s i (Null j) args n None q h given asked = absurd (no_callee s (Null j) args i refl h)
    call_counts s i (This j) args n None q h given asked = absurd (no_callee s (This j) args i refl h)
    call_counts s i (Unary j op a) args n None q h given asked = absurd (no_callee s (Unary j op a) args i refl h)
    call_counts s i (Binary j op a b) args n None q h given asked = absurd (no_callee s (Binary j op a b) args i refl h)
    call_counts s i (Both j a b) args n None q h given asked = absurd (no_callee s (Both j a b) args i refl h)
    call_counts s i (Either j a b) args n None q h given asked = absurd (no_callee s (Either j a b) args i refl h)
    call_counts s i (Choice j l a b) args n None q h given asked = absurd (no_callee s (Choice j l a b) args i refl h)
    call_counts s i (Set j op x a) args n None q h given asked = absurd (no_callee s (Set j op x a) args i refl h)
    call_counts s i (Bump j x by late) args n None q h given asked = absurd (no_callee s (Bump j x by late) args i refl h)
    call_counts s i (Item j a l) args n None q h given asked = absurd (no_callee s (Item j a l) args i refl h)
    call_counts s i (Items j l) args n None q h given asked = absurd (no_callee s (Items j l) args i refl h)
    call_counts s i (Call j l xs) args n None q h given asked = absurd (no_callee s (Call j l xs) args i refl h)
    call_counts s i (SuperCall j l xs) args n None q h given asked = absurd (no_callee s (SuperCall j l xs) args i refl h)
    call_counts s i (Make j x xs) args n None q h given asked = absurd (no_callee s (Make j x xs) args i refl h)
    call_counts s i (Handler j body) args n None q h given asked = absurd (no_callee s (Handler j body) args i refl h)

    asked_counts : (s : Site) (ps : List BoardParameter) (args : Trees) → failures tables names k s.place ps args ≡ None → are_given tables k s.place ps args ≡ true → Counts (handlers_of args) (made_asked tables names k numbers s ps args)
    asked_counts s ps none h q = λ m n. refl
    asked_counts s [] (more a rest) h q = cc
    asked_counts s (board.Of u ∷ ps) (more a rest) h q =
        let (given_so, rest_so) = both_true (fits k (type_of tables k s.place Given a) (Some (board_kind u))) (are_given tables k s.place ps rest) q in
        counts_two (handlers a) (handlers_of rest) (mk s (asked_given (board.Of u ∷ ps)) a) (made_asked tables names k numbers s ps rest) (λ x xs. e.more x xs)
        (tree_counts s Given (asked_given (board.Of u ∷ ps)) a tt (first (bad s Given a) (failures tables names k s.place ps rest) h)) (asked_counts s ps rest (last (bad s Given a) (failures tables names k s.place ps rest) h) rest_so)
    asked_counts s (board.Drawing ∷ ps) (more a rest) h q =
        let (draws_so, rest_so) = both_true (is_drawing tables a) (are_given tables k s.place ps rest) q in
        counts_two (handlers a) (handlers_of rest) (pure (drawing tables names k numbers a)) (made_asked tables names k numbers s ps rest) (λ x xs. e.more x xs)
        (counts_as 0 (handlers a) (pure (drawing tables names k numbers a)) (λ m n. refl) (sym (drawing_plain a draws_so))) (asked_counts s ps rest (last (bad s Given a) (failures tables names k s.place ps rest) h) rest_so)
    asked_counts s (board.Handler ∷ ps) (more a rest) h q =
        let (serves_so, rest_so) = both_true (is_routine tables k s.place a) (are_given tables k s.place ps rest) q in
        counts_two (handlers a) (handlers_of rest) (argument_made tables names k numbers s (board.Handler ∷ ps) a (mk s None a)) (made_asked tables names k numbers s ps rest) (λ x xs. e.more x xs)
        (handler_counts s ps a (first (bad s Served a) (failures tables names k s.place ps rest) h) serves_so) (asked_counts s ps rest (last (bad s Served a) (failures tables names k s.place ps rest) h) rest_so)

    handler_counts : (s : Site) (ps : List BoardParameter) (a : Tree) → bad s Served a ≡ None → is_routine tables k s.place a ≡ true → Counts (handlers a) (argument_made tables names k numbers s (board.Handler ∷ ps) a (mk s None a))
    handler_counts s ps (Name i x) h q = λ m n. refl
    handler_counts s ps (Handler i (Does j params gives all arrow)) h q =
        let site' : Site = in_handler_site tables names k numbers s params gives all in
        let h0 : handler_failure tables names k s.place (Does j params gives all arrow) ≡ None = first (handler_failure tables names k s.place (Does j params gives all arrow)) (unsuited tables names k s.place Served (Handler i (Does j params gives all arrow)) i) h in
        let (h1, h2, h3) = parts2 _ (written_failure names j gives) (statements_failure tables names k site'.place all) h0 in
        λ m n. ap suc (statements_counts site' all h3 0 (suc n))
    handler_counts s ps (Num i n) h q = cc
    handler_counts s ps (Text i n) h q = cc
    handler_counts s ps (Truth i x) h q = cc
    handler_counts s ps (Null i) h q = cc
    handler_counts s ps (This i) h q = cc
    handler_counts s ps (Unary i op a) h q = cc
    handler_counts s ps (Binary i op a b) h q = cc
    handler_counts s ps (Both i a b) h q = cc
    handler_counts s ps (Either i a b) h q = cc
    handler_counts s ps (Choice i l a b) h q = cc
    handler_counts s ps (Set i op x a) h q = cc
    handler_counts s ps (Bump i x by late) h q = cc
    handler_counts s ps (Member i a m) h q = cc
    handler_counts s ps (Item i a j) h q = cc
    handler_counts s ps (Items i l) h q = cc
    handler_counts s ps (Call i f args) h q = cc
    handler_counts s ps (SuperCall i m args) h q = cc
    handler_counts s ps (Make i x args) h q = cc

    pub initial_counts : (s : Site) (shape : Option Annotation) (first' : OptionalTree) (i : ℕ) → initial_failure tables names k s.place shape first' ≡ None → own_bound tables names k s.place shape first' i ≡ None
        → Counts (optional_handlers first') (made_first tables names k numbers s shape first')
    initial_counts s shape absent i h h1 = λ m n. refl
    initial_counts s None (present a) i h h1 =
        counts_one (handlers a) (mk s None a) (λ x. Some x) (tree_counts s Free None a tt (unalone (is_alone a) (bad s Free a) (type_of tables k s.place Free a) i h h1))
    initial_counts s (Some c') (present a) i h h1 = counts_one (handlers a) (mk s (written_kind names (Some c')) a) (λ x. Some x) (tree_counts s Given (written_kind names (Some c')) a tt h)

    optional_counts : (s : Site) (a : OptionalTree) → optional_failure tables names k s.place a ≡ None → Counts (optional_handlers a) (made_optional tables names k numbers s a)
    optional_counts s absent h = λ m n. refl
    optional_counts s (present a) h = counts_one (handlers a) (mk s None a) (λ x. Some x) (tree_counts s Free None a tt h)

    value_counts : (s : Site) (g : Option StaticType) (a : OptionalTree) (i : ℕ) → statement_failure tables names k s.place (Return i a) ≡ None → Counts (optional_handlers a) (made_value tables names k numbers s g a)
    value_counts s g absent i h = λ m n. refl
    value_counts s g (present a) i h = counts_one (handlers a) (mk s g a) (λ x. Some x) (tree_counts s (kind_role s.place.gives) g a (role_read s.place.gives) (first (bad s (kind_role s.place.gives) a) _ h))

    locals_counts : (s : Site) (fixed : Bool) (each : Declarations) → declarations_failure tables names k s.place fixed each ≡ None → Counts (declarations_handlers each) (made_locals tables names k numbers s fixed each)
    locals_counts s fixed ended h = λ m n. refl
    locals_counts s fixed (next (Declare i x shape first') rest) h = λ m n.
        let a : Declaration = Declare i x shape first' in
        let here : Option Failure = declaration_failure tables names k s.place a in
        let later : Option Failure = declarations_failure tables names k (after tables names k s.place (Let 0 fixed (next a ended))) fixed rest in
        let (hw, hi, hl, hb) = parts3 (written_failure names i shape) (initial_failure tables names k s.place shape first') (own_local tables s.place x i) (own_bound tables names k s.place shape first' i) (first here later h) in
        let s1 : Site = behind_statement tables names k numbers m s (Let 0 fixed (next a ended)) in
        counts_two (optional_handlers first') (declarations_handlers rest) (made_local tables names k numbers s a) (made_locals tables names k numbers s1 fixed rest) (λ d ds. d ∷ ds)
        (counts_as (optional_handlers first' + 0) (optional_handlers first') (made_local tables names k numbers s a)
        (counts_bind {B = TypedDeclaration} (optional_handlers first') 0 (made_first tables names k numbers s shape first')
        (λ l. a_local (t_of s shape first') (λ (j : ℕ). let d : TypedDeclaration = record { name = Local j; first = l } in d)) (initial_counts s shape first' i hi hb) (λ l m' n'. refl)) (omega arith))
        (locals_counts s1 fixed rest (last here later h)) m n

    pub statement_counts : (s : Site) (a : Statement) → statement_failure tables names k s.place a ≡ None → Counts (statement_handlers a) (made_statement tables names k numbers s a)
    statement_counts s (Block i all) h = counts_one (statements_handlers all) (made_statements tables names k numbers (in_block s) all) (λ xs. e.Block xs) (statements_counts (in_block s) all h)
    statement_counts s (Let i fixed each) h = counts_one (declarations_handlers each) (made_locals tables names k numbers s fixed each) (λ ds. e.Let fixed ds) (locals_counts s fixed each h)
    statement_counts s (IfOnly i test a) h =
        let (ht, ha, ho) = parts2 (bad s Free test) (statement_failure tables names k (inner s.place) a) _ h in
        counts_two (handlers test) (statement_handlers a) (mk s None test) (made_statement tables names k numbers (in_block s) a) (λ q x. e.IfOnly q x) (tree_counts s Free None test tt ht) (statement_counts (in_block s) a ha)
    statement_counts s (IfElse i test a b) h =
        let (ht, ha, hb, ho) = parts3 (bad s Free test) (statement_failure tables names k (inner s.place) a) (statement_failure tables names k (inner s.place) b) _ h in
        counts_as (handlers test + (statement_handlers a + statement_handlers b)) (handlers test + statement_handlers a + statement_handlers b) (made_statement tables names k numbers s (IfElse i test a b))
        (counts_bind (handlers test) (statement_handlers a + statement_handlers b) (mk s None test) (λ q. made_statement tables names k numbers (in_block s) a >=> λ x. made_statement tables names k numbers (in_block s) b >=> λ y. pure (e.IfElse q x y))
        (tree_counts s Free None test tt ht)
        (λ q. counts_two (statement_handlers a) (statement_handlers b) (made_statement tables names k numbers (in_block s) a) (made_statement tables names k numbers (in_block s) b) (λ x y. e.IfElse q x y) (statement_counts (in_block s) a ha) (statement_counts (in_block s) b hb))) (omega arith)
    statement_counts s (While i test a) h =
        let (ht, ha, ho) = parts2 (bad s Free test) (statement_failure tables names k (inner s.place) a) _ h in
        counts_two (handlers test) (statement_handlers a) (mk s None test) (made_statement tables names k numbers (in_block s) a) (λ q x. e.While q x) (tree_counts s Free None test tt ht) (statement_counts (in_block s) a ha)
    statement_counts s (DoWhile i a test) h =
        let (ha, ht, ho) = parts2 (statement_failure tables names k (inner s.place) a) (bad s Free test) _ h in
        counts_two (statement_handlers a) (handlers test) (made_statement tables names k numbers (in_block s) a) (mk s None test) (λ x q. e.DoWhile x q) (statement_counts (in_block s) a ha) (tree_counts s Free None test tt ht)
    statement_counts s (For i one test step a) h = λ m n.
        let s0 : Site = in_block s in
        let s1 : Site = first_site tables names k numbers m s0 one in
        let A : Option Failure = first_failure tables names k (inner s.place) one in
        let B : Option Failure = optional_failure tables names k s1.place test in
        let C : Option Failure = optional_failure tables names k s1.place step in
        let D : Option Failure = statement_failure tables names k (inner s1.place) a in
        let E : Option Failure = test_failure tables k s1.place test i in
        let h' : (A then B then C then D then E) ≡ None = subst (λ (p : NameScope). (A then optional_failure tables names k p test then optional_failure tables names k p step then statement_failure tables names k (inner p) a then test_failure tables k p test i) ≡ None) (first_place m s0 one) h in
        let (hA, hB, hC, hD, hE) = parts4 A B C D E h' in
        let F0 : ℕ = first_handlers one in
        let T0 : ℕ = optional_handlers test in
        let U0 : ℕ = optional_handlers step in
        let J : ℕ = statement_handlers a in
        let inside : Making TypedStatement = made_opening tables names k numbers s0 one >=> λ l. made_optional tables names k numbers s1 test >=> λ q. made_optional tables names k numbers s1 step >=> λ y. made_statement tables names k numbers (in_block s1) a >=> λ x. pure (e.For l q y x) in
        counts_as (F0 + (T0 + (U0 + J))) (F0 + T0 + U0 + J) inside
        (counts_bind F0 (T0 + (U0 + J)) (made_opening tables names k numbers s0 one)
        (λ l. made_optional tables names k numbers s1 test >=> λ q. made_optional tables names k numbers s1 step >=> λ y. made_statement tables names k numbers (in_block s1) a >=> λ x. pure (e.For l q y x)) (opening_counts s0 one hA)
        (λ l. counts_bind T0 (U0 + J) (made_optional tables names k numbers s1 test) (λ q. made_optional tables names k numbers s1 step >=> λ y. made_statement tables names k numbers (in_block s1) a >=> λ x. pure (e.For l q y x)) (optional_counts s1 test hB)
        (λ q. counts_two U0 J (made_optional tables names k numbers s1 step) (made_statement tables names k numbers (in_block s1) a) (λ y x. e.For l q y x) (optional_counts s1 step hC) (statement_counts (in_block s1) a hD)))) (omega arith) m n
    statement_counts s (ForOf i fixed x list a) h = λ m n.
        let p1 : NameScope = looped tables k s.place fixed x list in
        let (hl, ha, hd, ho) = parts3 (bad s Free list) (statement_failure tables names k (inner p1) a) (unless (not (is_dollar tables.names x)) UnknownName i) (unless (is_list (type_of tables k s.place Free list)) Mismatch i) h in
        let u : ValueType = u_of s list in
        let s1 : Site = record { place = inner p1; spots = s.spots ++ Local m ∷ [] } in
        let J : ℕ = statement_handlers a in
        let body : Making TypedStatement = made_statement tables names k numbers s1 a in
        counts_as (handlers list + (0 + (0 + (0 + J)))) (handlers list + J) (mk s None list >=> λ l. a_local u (λ i. i) >=> λ i. a_local (t.ListOf u) (λ j. j) >=> λ j. a_local t.Number (λ j. j) >=> λ j. body >=> λ y. pure (e.ForOf fixed (Local i) l y))
        (counts_bind (handlers list) (0 + (0 + (0 + J))) (mk s None list) (λ l. a_local u (λ i. i) >=> λ i. a_local (t.ListOf u) (λ j. j) >=> λ j. a_local t.Number (λ j. j) >=> λ j. body >=> λ y. pure (e.ForOf fixed (Local i) l y)) (tree_counts s Free None list tt hl)
        (λ l. counts_bind 0 (0 + (0 + J)) (a_local u (λ i. i)) (λ i. a_local (t.ListOf u) (λ j. j) >=> λ j. a_local t.Number (λ j. j) >=> λ j. body >=> λ y. pure (e.ForOf fixed (Local i) l y)) (λ m' n'. refl)
        (λ i. counts_bind 0 (0 + J) (a_local (t.ListOf u) (λ j. j)) (λ j. a_local t.Number (λ j. j) >=> λ j. body >=> λ y. pure (e.ForOf fixed (Local i) l y)) (λ m' n'. refl)
        (λ j. counts_bind 0 J (a_local t.Number (λ j. j)) (λ j. body >=> λ y. pure (e.ForOf fixed (Local i) l y)) (λ m' n'. refl)
        (λ j. counts_one J body (λ y. e.ForOf fixed (Local i) l y) (statement_counts s1 a ha)))))) (omega arith) m n
    statement_counts s (Return i value) h = counts_one (optional_handlers value) (made_value tables names k numbers s s.place.gives value) (λ x. e.Return x) (value_counts s s.place.gives value i h)
    statement_counts s (Break i) h = λ m n. refl
    statement_counts s (Continue i) h = λ m n. refl
    statement_counts s (Plain i a) h = counts_one (handlers a) (mk s None a) (λ x. e.Plain x) (tree_counts s Free None a tt h)
    statement_counts s (Empty i) h = λ m n. refl

    opening_counts : (s : Site) (a : OptionalStatement) → first_failure tables names k s.place a ≡ None → Counts (first_handlers a) (made_opening tables names k numbers s a)
    opening_counts s omitted h = λ m n. refl
    opening_counts s (written a) h = counts_one (statement_handlers a) (made_statement tables names k numbers s a) (λ x. e.written x) (statement_counts s a h)

    pub statements_counts : (s : Site) (all : Statements) → statements_failure tables names k s.place all ≡ None → Counts (statements_handlers all) (made_statements tables names k numbers s all)
    statements_counts s done h = λ m n. refl
    statements_counts s (also a rest) h = λ m n.
        let s1 : Site = behind_statement tables names k numbers m s a in
        let ha = first (statement_failure tables names k s.place a) (statements_failure tables names k (after tables names k s.place a) rest) h in
        let hr = last (statement_failure tables names k s.place a) (statements_failure tables names k (after tables names k s.place a) rest) h in
        counts_two (statement_handlers a) (statements_handlers rest) (made_statement tables names k numbers s a) (made_statements tables names k numbers s1 rest) (λ x xs. e.also x xs) (statement_counts s a ha) (statements_counts s1 rest hr) m n
