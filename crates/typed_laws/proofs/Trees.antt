-- Expressions and statements without a failure are well typed.
use Rattle.std.proofs.Common.{◌≡◌, ℕ, suc, ◌+◌, refl, sym, ap, ◌∙◌, subst, Bool, true, false, ◌||◌, Option, Some, None, List, [], ◌∷◌, ◌++◌, length, inl, arith, append-nil}
use Rattle.std.specs.Prelude.{not, if◌then◌else◌, unwrap_or}
use Rattle.sts_base.specs.declared.tables.Tables.{Tables}
use Rattle.sts_base.specs.declared.refused.Code.TheVariants.{Mismatch, BadHandler, UnknownName, NeedsType}
use Rattle.sts_syntax.specs.Annotations.{Annotation}
use Rattle.sts_syntax.specs.declared.typed.Spot.{Spot}
use Rattle.sts_syntax.specs.declared.typed.Spot.TheVariants.{Local}
use Rattle.sts_syntax.specs.declared.typed.Callee.TheVariants as c
use Rattle.sts_syntax.specs.Types as t
use Rattle.sts_syntax.specs.Types.{ValueType}
use Rattle.sts_syntax.specs.TypedTrees as e
use Rattle.sts_syntax.specs.TypedTrees.{TypedTree, TypedTrees, TypedStatement, TypedStatements, OptionalTypedStatement, TypedDeclaration, TypedRoutine, TypedProgram}
use Rattle.sts_syntax.specs.BoardTable as board
use Rattle.sts_syntax.specs.BoardTable.{BoardParameter}
use Rattle.sts_syntax.specs.declared.board_calls.BoardCall.{BoardCall}
use Rattle.sts_syntax.specs.TypeRules.{entry, Prefixes, Works, Join, GoesTo}
use Rattle.sts_syntax.specs.WellTyped.{Setting, Has, HasThis, IsTyped, IsTarget, IsHandler, AreGiven, AreItems, parameters_of}
use Rattle.sts_syntax.specs.WellTyped as w
use Rattle.sts_syntax.specs.WellTypedPrograms as w'
use Rattle.sts_syntax.specs.WellTypedPrograms.{declared_local, declared_names, first_declared}
use Rattle.sts_syntax.specs.Trees.{Tree, Num, Text, Truth, Null, This, Name, Unary, Binary, Both, Either, Choice, Set, Bump, Member, Item, Call, SuperCall, Make, Items, Handler, Trees, none, more, OptionalTree, absent, present, Statement, Block, Let, IfOnly, IfElse, While, DoWhile, For, ForOf, Return, Break, Continue, Plain, Empty, Statements, done, also, OptionalStatement, omitted, written, Declaration, Declare, Declarations, ended, next, Does}
use Rattle.sts_scope.specs.declared.kinds.StaticType.{StaticType}
use Rattle.sts_scope.specs.declared.known.Known.{Known}
use Rattle.sts_scope.specs.declared.known.Found.{Found}
use Rattle.sts_scope.specs.Kinds.{number, boolean, text, nothing, null, empty, item, same, is_array, value_type, value_types}
use Rattle.sts_scope.specs.Failures.{Failure, ◌then◌, failure_at, unless, own}
use Rattle.sts_scope.specs.Entries.{Naming, kind_of}
use Rattle.sts_scope.specs.Places.{NameScope, inner}
use Rattle.sts_scope.specs.Headings.{type_name_failure, type_failure, written_failure}
use Rattle.sts_scope.specs.Globals.{is_dollar}
use Rattle.sts_scope.specs.Rules.{maker_takes_of, part_of, operate, prefix, joined, choose, assign, counted, element, items_type, all_go, all_go_to, goes, is_nothing, is_boolean}
use Rattle.type_derive.specs.declared.roles.Role.{Role}
use Rattle.type_derive.specs.declared.roles.Role.TheVariants.{Free, Given, Called, Served}
use Rattle.type_derive.specs.Typing.{◌>>=◌, board_kind, finds, constant_of, board_callee, named_callee, part_callee, callee_of, super_method, made, fits, type_of, types_of, are_given, settable, is_routine, is_drawing}
use Rattle.typed_laws.proofs.Returning.{give_value, gives_value}
use Rattle.type_derive.specs.Returns.{is_alone, bound, all_declared, after, items_of, looped}
use Rattle.type_derive.specs.Nodes.{kind_role, failure, failures, handler_failure, is_list, initial_failure, optional_failure, test_failure, declaration_failure, declarations_failure, statement_failure, first_failure, statements_failure, own_local, own_bound}
use Rattle.sts_scope.specs.Handlers.{handlers, handlers_of, optional_handlers, declarations_handlers, statement_handlers, first_handlers, statements_handlers}
use Rattle.type_derive.specs.inner.Filling.{Making, pure, ◌>=>◌, a_local}
use Rattle.sts_scope.specs.Numbers.{Numbering}
use Rattle.type_derive.specs.Built.{Site, in_block, spots_from}
use Rattle.type_derive.specs.inner.Filled.{in_handler_site, behind_statement, first_site, made_first, made_optional, made_value, made_locals, made_local, made_statement, made_opening, made_statements, made_tree, made_given, made_items, made_asked, noted, type_in, part_in, class_in, part_target, part_takes, routine_of, routine_takes, class_found, spot_of, plain_handler, drawing, argument_made}
use Rattle.typed_laws.proofs.FormedParts.{IsFormed, AreFormed, MayBeFormed, AreFormedDeclarations, IsFormedIn, IsFormedFirst, AreFormedIn}
use Rattle.typed_laws.proofs.Stands.{is_proper_base, IsProper, EachProper, Stands}
use Rattle.typed_laws.proofs.OneNode.{both_true, same_is, works, prefixes, joins, chooses, counts, elements, array_type, arrayed}
use Rattle.typed_laws.proofs.Typed.{typed, last, first, unless_true, own_has, member_free}
use Rattle.typed_laws.proofs.Makings.{IsInner, Inners, Gives, gives_pure, gives_bind, gives_as, kept_all, good_pure, good_bind, good_bind_at, good_free, good_local, good_as}
use Rattle.typed_laws.proofs.Makings.{Good as Built}
use Rattle.typed_laws.proofs.Names.{called_parts, bind_some, some_is, either_some, real, has_part, board_proper}
use Rattle.typed_laws.proofs.Sites.{seen, Suits, Wanted, suits_given, given_goes, at_block, at_local, IsGood, At, name_good, this_good}
use Rattle.typed_laws.proofs.Boards.{are_plain, plain_first, plain_rest}
use Rattle.typed_laws.proofs.TreeFacts.{nothing_either, noted_is, kind_is, parts2, parts3, settable_is, test_is, alone_is, unless_waived, parts4, kind_proper}
use Rattle.typed_laws.proofs.TreeParts.{free_proper, given_proper, seen_as, one, two, function_call, set_good, assign_suits, make_good, make_takes, takes_of_found, takes_of_part, takes_of_made, go_parts, go_none, go_more, go_to_parts, items_parts, Asked, call_failure, call_type, call_made, plain_serves, serves_true, served_so, given_to_is, drawing_good, ArgumentsTyped, AskedTyped, member, member_target, super, board_call, member_call, list_is, fits_is, handler_stand, gives_after, Declared, declared_one, declare, first_place, first_gives, declared_more}

module _ (tables : Tables) (names : Naming) (k : Known) (numbers : Numbering) (P : TypedProgram) (st : Stands tables k numbers P) where
  abbrev Good : Setting → List ℕ → ValueType → TypedTree → Type 0
  Good S known u x = IsGood tables names k numbers P st S known u x

  abbrev Stand : Setting → List ℕ → Site → Type 0
  Stand S known s = At tables names k numbers P st S known s

  abbrev mk : Site → Option StaticType → Tree → Making TypedTree
  mk s g a = made_tree tables names k numbers s g a

  abbrev ty : Site → Role → Tree → Option StaticType
  ty s r a = type_of tables k s.place r a

  abbrev bad : Site → Role → Tree → Option Failure
  bad s r a = failure tables names k s.place r a

  -- types that are written
  type_known : (i : ℕ) (a : Annotation) → type_failure names i a ≡ None → (u : StaticType) × (kind_of names a ≡ Some u) × IsProper u
  type_known i a h =
      let r = own_has (kind_of names a) UnknownName i (last (type_name_failure names a) (own (kind_of names a) UnknownName i) h) in
      (r.it, r.is, kind_proper names a r.it r.is)

  stand_same : (S : Setting) (known : List ℕ) (s : Site) → Stand S known s → Stand S known (record { place = s.place; spots = s.spots ++ [] })
  stand_same S known s at = subst (λ (xs : List Spot). Stand S known (record { place = s.place; spots = xs })) (sym (append-nil s.spots)) (record { even = at.even; here = at.here; proper = at.proper; this = at.this })

  -- What a `return` of the function gives. Where no value is returned, its type doesn't matter.
  abbrev pub Answered : Setting → Option StaticType → Bool → Type 0
  Answered S g b = (is_nothing g ≡ true → (v : ValueType) × (w.answer S ≡ Some v)) × (b ≡ true → (v : StaticType) → g ≡ Some v → (w.answer S ≡ Some (value_type v)) × IsProper v)

  answered_left : (S : Setting) (g : Option StaticType) (a b : Bool) → Answered S g (a || b) → Answered S g a
  answered_left S g a b h = (h.0, λ q v r. h.1 (ap (λ (x : Bool). x || b) q) v r)

  or_true : (a b : Bool) → b ≡ true → (a || b) ≡ true
  or_true true b h = refl
  or_true false b h = h

  answered_right : (S : Setting) (g : Option StaticType) (a b : Bool) → Answered S g (a || b) → Answered S g b
  answered_right S g a b h = (h.0, λ q v r. h.1 (or_true a b q) v r)

  -- a statement that is sound, and what is known behind it
  abbrev pub Sound : Setting → List ℕ → Site → Bool → ℕ → Statement → TypedStatement → Type 0
  Sound S known s looped m a x = w.IsSound P S x looped known × Stand S (w.known_after x known) (behind_statement tables names k numbers m s a)

  abbrev SoundFirst : Setting → List ℕ → Site → ℕ → OptionalStatement → OptionalTypedStatement → Type 0
  SoundFirst S known s m a x = w.IsSoundFirst P S x known × Stand S (w.known_after_first x known) (first_site tables names k numbers m s a)

  -- the type of a declared name
  pub bound_known : (S : Setting) (known : List ℕ) (s : Site) (shape : Option Annotation) (first : OptionalTree) (i : ℕ) → Stand S known s → written_failure names i shape ≡ None → own_bound tables names k s.place shape first i ≡ None
      → (u : StaticType) × (bound tables names k s.place shape first ≡ Some u) × IsProper u
  bound_known S known s (Some a) first i at h h' = type_known i a h
  bound_known S known s None absent i at h h' = let r = own_has (bound tables names k s.place None absent) NeedsType i h' in (r.it, r.is, (let z : None ≡ Some r.it = r.is in cc))
  bound_known S known s None (present a) i at h h' =
      let r = own_has (bound tables names k s.place None (present a)) NeedsType i h' in
      (r.it, r.is, either_some IsProper (is_alone a) None (ty s Free a) r.it (λ v q. cc) (λ v q. free_proper tables names k numbers P st S known s at a v q) r.is)

  -- `return` with a value
  return_value : (S : Setting) (known : List ℕ) (x : TypedTree) (u v : StaticType) → Good S known (value_type (seen (Some v) u)) x → goes k.classes u v ≡ true → w.answer S ≡ Some (value_type v) → w.IsReturned P S known (Some x) (w.answer S)
  return_value S known x u v g go answer =
      subst (λ (o : Option ValueType). w.IsReturned P S known (Some x) o) (sym answer) (g.0, subst (λ (y : ValueType). GoesTo P y (value_type v)) (sym g.1) (given_goes tables names k numbers P st u v go))

  as_test : (S : Setting) (known : List ℕ) (s : Site) (a : Tree) (i : ℕ) → ((u : StaticType) → ty s Free a ≡ Some u → Gives P (Good S known (value_type u)) (handlers a) (mk s None a)) → unless (is_boolean (ty s Free a)) Mismatch i ≡ None
      → Gives P (w.IsTest P S known) (handlers a) (mk s None a)
  as_test S known s a i typed_so h =
      let (u, q, b) = test_is (ty s Free a) (unless_true (is_boolean (ty s Free a)) Mismatch i h) in
      gives_as P (Good S known (value_type u)) (w.IsTest P S known) (handlers a) (handlers a) (mk s None a) (typed_so u q) (λ x g. (g.0, g.1 ∙ b)) refl

  as_plain : (S : Setting) (known : List ℕ) (s : Site) (a : Tree) → ((u : StaticType) → ty s Free a ≡ Some u → Gives P (Good S known (value_type u)) (handlers a) (mk s None a)) → bad s Free a ≡ None → Gives P (IsTyped P S known) (handlers a) (mk s None a)
  as_plain S known s a typed_so h =
      let has = typed tables names k s.place Free a tt h in
      gives_as P (Good S known (value_type has.it)) (IsTyped P S known) (handlers a) (handlers a) (mk s None a) (typed_so has.it has.is) (λ x g. g.0) refl

  -- in the body of a `for of`
  abbrev looped_place : Site → Bool → ℕ → Tree → NameScope
  looped_place s fixed x list = looped tables k s.place fixed x list

  for_stand : (S : Setting) (known : List ℕ) (s : Site) (fixed : Bool) (x : ℕ) (list : Tree) (v : StaticType) (m : ℕ) → Stand S known s → items_of (ty s Free list) ≡ Some (item v) → entry S.routine.locals m ≡ Some (value_type (item v)) → IsProper v
      → Stand S (m ∷ known) (record { place = inner (looped_place s fixed x list); spots = s.spots ++ Local m ∷ [] })
  for_stand S known s fixed x list v m at q has p =
      let at1 = at_local tables names k numbers P st S known (in_block s) x (items_of (ty s Free list)) fixed m (at_block tables names k numbers P st S known s at)
      (λ l lq. let il : item v ≡ l = some_is (item v) l (sym q ∙ lq) in (has ∙ ap (λ (y : StaticType). Some (value_type y)) il, subst IsProper il p)) in
      record { even = at1.even; here = at1.here; proper = at1.proper; this = at1.this }

  mutual
    -- an expression, where its place gives it a type or none
    pub tree : (S : Setting) (known : List ℕ) (s : Site) (g : Option StaticType) (a : Tree) (u : StaticType) → Stand S known s → IsFormed a → Wanted g → bad s (kind_role g) a ≡ None → ty s (kind_role g) a ≡ Some u → Suits g u
        → Gives P (Good S known (value_type (seen g u))) (handlers a) (mk s g a)
    tree S known s g (Num i n) u at f g' h q z =
        seen_as tables names k numbers P st S known g u 0 0 (pure (e.Num t.Number n)) (free_proper tables names k numbers P st S known s at (Num i n) u q) (gives_pure P (Good S known (value_type u)) (e.Num t.Number n) ((refl, f), ap (λ (y : StaticType). value_type y) (some_is number u q))) refl
    tree S known s g (Text i n) u at f g' h q z =
        seen_as tables names k numbers P st S known g u 0 0 (pure (e.Text t.Text n)) (free_proper tables names k numbers P st S known s at (Text i n) u q) (gives_pure P (Good S known (value_type u)) (e.Text t.Text n) (refl, ap (λ (y : StaticType). value_type y) (some_is text u q))) refl
    tree S known s g (Truth i x) u at f g' h q z =
        seen_as tables names k numbers P st S known g u 0 0 (pure (e.Truth t.Boolean x)) (free_proper tables names k numbers P st S known s at (Truth i x) u q) (gives_pure P (Good S known (value_type u)) (e.Truth t.Boolean x) (refl, ap (λ (y : StaticType). value_type y) (some_is boolean u q))) refl
    tree S known s g (Null i) u at f g' h q z =
        seen_as tables names k numbers P st S known g u 0 0 (pure (e.Null t.NullType)) (free_proper tables names k numbers P st S known s at (Null i) u q) (gives_pure P (Good S known (value_type u)) (e.Null t.NullType) (refl, ap (λ (y : StaticType). value_type y) (some_is null u q))) refl
    tree S known s g (This i) u at f g' h q z =
        let n : ValueType = noted tables names k numbers s g (This i) in
        let same_n : n ≡ value_type u = noted_is (ty s (kind_role g) (This i)) u q in
        let has : HasThis P S n = subst (λ (y : ValueType). HasThis P S y) (sym same_n) (this_good tables names k numbers P st S known s s.place.this u at refl q) in
        seen_as tables names k numbers P st S known g u 0 0 (pure (e.This n)) (free_proper tables names k numbers P st S known s at (This i) u q) (gives_pure P (Good S known (value_type u)) (e.This n) (has, same_n)) refl
    tree S known s g (Name i x) u at f g' h q z =
        let n : ValueType = noted tables names k numbers s g (Name i x) in
        let same_n : n ≡ value_type u = noted_is (ty s (kind_role g) (Name i x)) u q in
        let sp : Spot = spot_of tables names k numbers s (finds tables k s.place x) in
        let has : Has P S known sp n = subst (λ (y : ValueType). Has P S known sp y) (sym same_n) (name_good tables names k numbers P st S known s (finds tables k s.place x) u at (real k tables s.place x) q) in
        seen_as tables names k numbers P st S known g u 0 0 (pure (e.Name n sp)) (free_proper tables names k numbers P st S known s at (Name i x) u q) (gives_pure P (Good S known (value_type u)) (e.Name n sp) (has, same_n)) refl
    tree S known s g (Unary i op a) u at f g' h q z =
        let (v, r, q1) = bind_some (ty s Free a) (λ v. prefix op v) u q in
        let n : ValueType = noted tables names k numbers s g (Unary i op a) in
        let same_n : n ≡ value_type u = noted_is (ty s (kind_role g) (Unary i op a)) u q in
        let works_so : Prefixes op (value_type v) n = subst (λ (y : ValueType). Prefixes op (value_type v) y) (sym same_n) (prefixes k.classes P st.bases op v u q1) in
        let gives = tree S known s None a v at f tt (first (bad s Free a) (own (ty s (kind_role g) (Unary i op a)) Mismatch i) h) r tt in
        seen_as tables names k numbers P st S known g u (handlers a) (handlers a) (mk s None a >=> λ x. pure (e.Unary n op x)) (free_proper tables names k numbers P st S known s at (Unary i op a) u q)
        (one tables names k numbers P st S known (Good S known (value_type u)) (value_type v) (handlers a) (mk s None a) (λ x. e.Unary n op x) gives (λ x p. ((p.0, subst (λ (y : ValueType). Prefixes op y n) (sym p.1) works_so), same_n))) refl
    tree S known s g (Binary i op a b) u at f g' h q z =
        let (v, r, q1) = bind_some (ty s Free a) (λ v. ty s Free b >>= λ y. operate k.classes op v y) u q in
        let (y, r1, q2) = bind_some (ty s Free b) (λ y. operate k.classes op v y) u q1 in
        let (ha, hb, ho) = parts2 (bad s Free a) (bad s Free b) (own (ty s (kind_role g) (Binary i op a b)) Mismatch i) h in
        let n : ValueType = noted tables names k numbers s g (Binary i op a b) in
        let same_n : n ≡ value_type u = noted_is (ty s (kind_role g) (Binary i op a b)) u q in
        let works_so : Works P op (value_type v) (value_type y) n = subst (λ (l : ValueType). Works P op (value_type v) (value_type y) l) (sym same_n) (works k.classes P st.bases op v y u (free_proper tables names k numbers P st S known s at a v r) q2) in
        seen_as tables names k numbers P st S known g u (handlers a + handlers b) (handlers a + handlers b) (mk s None a >=> λ x. mk s None b >=> λ l. pure (e.Binary n op x l)) (free_proper tables names k numbers P st S known s at (Binary i op a b) u q)
        (two tables names k numbers P st S known (Good S known (value_type u)) (Good S known (value_type v)) (Good S known (value_type y)) (handlers a) (handlers b) (mk s None a) (mk s None b) (λ x l. e.Binary n op x l)
        (tree S known s None a v at f.0 tt ha r tt) (tree S known s None b y at f.1 tt hb r1 tt)
        (λ x l p o. ((p.0, o.0, subst (λ (c : ValueType). Works P op c (w.type_of l) n) (sym p.1) (subst (λ (c : ValueType). Works P op (value_type v) c n) (sym o.1) works_so)), same_n))) refl
    tree S known s g (Both i a b) u at f g' h q z =
        let (v, r, q1) = bind_some (ty s Free a) (λ v. ty s Free b >>= λ y. joined v y) u q in
        let (y, r1, q2) = bind_some (ty s Free b) (λ y. joined v y) u q1 in
        let (ha, hb, ho) = parts2 (bad s Free a) (bad s Free b) (own (ty s (kind_role g) (Both i a b)) Mismatch i) h in
        let (bv, by, bu) = joins k.classes P st.bases v y u q2 in
        seen_as tables names k numbers P st S known g u (handlers a + handlers b) (handlers a + handlers b) (mk s None a >=> λ x. mk s None b >=> λ l. pure (e.Both t.Boolean x l)) (free_proper tables names k numbers P st S known s at (Both i a b) u q)
        (two tables names k numbers P st S known (Good S known (value_type u)) (Good S known (value_type v)) (Good S known (value_type y)) (handlers a) (handlers b) (mk s None a) (mk s None b) (λ x l. e.Both t.Boolean x l)
        (tree S known s None a v at f.0 tt ha r tt) (tree S known s None b y at f.1 tt hb r1 tt)
        (λ x l p o. ((p.0, o.0, p.1 ∙ bv, o.1 ∙ by, refl), ap (λ (c : StaticType). value_type c) (sym bu)))) refl
    tree S known s g (Either i a b) u at f g' h q z =
        let (v, r, q1) = bind_some (ty s Free a) (λ v. ty s Free b >>= λ y. joined v y) u q in
        let (y, r1, q2) = bind_some (ty s Free b) (λ y. joined v y) u q1 in
        let (ha, hb, ho) = parts2 (bad s Free a) (bad s Free b) (own (ty s (kind_role g) (Either i a b)) Mismatch i) h in
        let (bv, by, bu) = joins k.classes P st.bases v y u q2 in
        seen_as tables names k numbers P st S known g u (handlers a + handlers b) (handlers a + handlers b) (mk s None a >=> λ x. mk s None b >=> λ l. pure (e.Either t.Boolean x l)) (free_proper tables names k numbers P st S known s at (Either i a b) u q)
        (two tables names k numbers P st S known (Good S known (value_type u)) (Good S known (value_type v)) (Good S known (value_type y)) (handlers a) (handlers b) (mk s None a) (mk s None b) (λ x l. e.Either t.Boolean x l)
        (tree S known s None a v at f.0 tt ha r tt) (tree S known s None b y at f.1 tt hb r1 tt)
        (λ x l p o. ((p.0, o.0, p.1 ∙ bv, o.1 ∙ by, refl), ap (λ (c : StaticType). value_type c) (sym bu)))) refl
    tree S known s g (Choice i c a b) u at f g' h q z =
        let (l, r0, q0) = bind_some (ty s Free c) (λ l. ty s Free a >>= λ v. ty s Free b >>= λ y. choose k.classes l v y) u q in
        let (v, r, q1) = bind_some (ty s Free a) (λ v. ty s Free b >>= λ y. choose k.classes l v y) u q0 in
        let (y, r1, q2) = bind_some (ty s Free b) (λ y. choose k.classes l v y) u q1 in
        let (hc, ha, hb, ho) = parts3 (bad s Free c) (bad s Free a) (bad s Free b) (own (ty s (kind_role g) (Choice i c a b)) Mismatch i) h in
        let n : ValueType = noted tables names k numbers s g (Choice i c a b) in
        let same_n : n ≡ value_type u = noted_is (ty s (kind_role g) (Choice i c a b)) u q in
        let (bl, j) = chooses k.classes P st.bases l v y u q2 in
        let join : Join P (value_type v) (value_type y) n = subst (λ (d : ValueType). Join P (value_type v) (value_type y) d) (sym same_n) j in
        let Q : TypedTree → Type 0 = Good S known (value_type u) in
        seen_as tables names k numbers P st S known g u (handlers c + (handlers a + handlers b)) (handlers c + handlers a + handlers b) (mk s None c >=> λ o. mk s None a >=> λ x. mk s None b >=> λ d. pure (e.Choice n o x d)) (free_proper tables names k numbers P st S known s at (Choice i c a b) u q)
        (gives_bind P (Good S known (value_type l)) Q (handlers c) (handlers a + handlers b) (mk s None c) (λ o. mk s None a >=> λ x. mk s None b >=> λ d. pure (e.Choice n o x d)) (tree S known s None c l at f.0 tt hc r0 tt)
        (λ o po. two tables names k numbers P st S known Q (Good S known (value_type v)) (Good S known (value_type y)) (handlers a) (handlers b) (mk s None a) (mk s None b) (λ x d. e.Choice n o x d)
        (tree S known s None a v at f.1 tt ha r tt) (tree S known s None b y at f.2 tt hb r1 tt)
        (λ x d p o'. ((po.0, p.0, o'.0, po.1 ∙ bl, subst (λ (c' : ValueType). Join P c' (w.type_of d) n) (sym p.1) (subst (λ (c' : ValueType). Join P (value_type v) c' n) (sym o'.1) join)), same_n)))) (omega arith)
    tree S known s g (Set i op x a) u at f g' h q z =
        let (v, r, q1) = bind_some (ty s Free x) (λ v. ty s Given a >>= λ y. if settable tables k s.place x then assign k.classes op v y else None) u q in
        let (y, r1, q2) = bind_some (ty s Given a) (λ y. if settable tables k s.place x then assign k.classes op v y else None) u q1 in
        let (may, assigned) = settable_is (settable tables k s.place x) (assign k.classes op v y) u q2 in
        let (hx, ha, ho) = parts2 (bad s Free x) (bad s Given a) (own (ty s (kind_role g) (Set i op x a)) Mismatch i) h in
        let n : ValueType = noted tables names k numbers s g (Set i op x a) in
        let same_n : n ≡ value_type u = noted_is (ty s (kind_role g) (Set i op x a)) u q in
        let pv : IsProper v = free_proper tables names k numbers P st S known s at x v r in
        let py = given_proper tables names k numbers P st S known s at a y r1 in
        let kind : type_in tables names k numbers s x ≡ v = kind_is (ty s Free x) v r in
        let Q : TypedTree → Type 0 = Good S known (value_type u) in
        let G : StaticType → Type 0 = λ o. Gives P Q (handlers x + handlers a) (mk s None x >=> λ l. mk s (Some o) a >=> λ d. pure (e.Set n op l d)) in
        let base : G v =
        two tables names k numbers P st S known Q (λ l. IsTarget P S known l × (w.type_of l ≡ value_type v)) (Good S known (value_type (seen (Some v) y))) (handlers x) (handlers a) (mk s None x) (mk s (Some v) a) (λ l d. e.Set n op l d)
        (target S known s x v at f.0 hx r may) (tree S known s (Some v) a y at f.1 pv ha r1 (assign_suits tables names k numbers P st op v y u py pv assigned))
        (λ l d p o. set_good tables names k numbers P st S known op v y u n l d p.0 p.1 py pv o assigned same_n) in
        seen_as tables names k numbers P st S known g u (handlers x + handlers a) (handlers x + handlers a) (mk s None x >=> λ l. mk s (Some (type_in tables names k numbers s x)) a >=> λ d. pure (e.Set n op l d)) (free_proper tables names k numbers P st S known s at (Set i op x a) u q)
        (subst G (sym kind) base) refl
    tree S known s g (Bump i x by late) u at f g' h q z =
        let (v, r, q1) = bind_some (ty s Free x) (λ v. if settable tables k s.place x then counted v else None) u q in
        let (may, counts_so) = settable_is (settable tables k s.place x) (counted v) u q1 in
        let (nv, nu) = counts k.classes P st.bases v u counts_so in
        let hx = first (bad s Free x) (own (ty s (kind_role g) (Bump i x by late)) Mismatch i) h in
        let Q : TypedTree → Type 0 = Good S known (value_type u) in
        seen_as tables names k numbers P st S known g u (handlers x) (handlers x) (mk s None x >=> λ l. pure (e.Bump t.Number l by late)) (free_proper tables names k numbers P st S known s at (Bump i x by late) u q)
        (gives_as P Q Q (handlers x + 0) (handlers x) (mk s None x >=> λ l. pure (e.Bump t.Number l by late))
        (gives_bind P (λ l. IsTarget P S known l × (w.type_of l ≡ value_type v)) Q (handlers x) 0 (mk s None x) (λ l. pure (e.Bump t.Number l by late)) (target S known s x v at f.0 hx r may)
        (λ l p. gives_pure P Q (e.Bump t.Number l by late) ((p.0, p.1 ∙ nv, refl, f.1), ap (λ (y : StaticType). value_type y) (sym nu)))) (λ l p. p) (omega arith)) refl
    tree S known s g (Member i a m) u at f g' h q z =
        member tables names k numbers P st S known s g a m u (noted tables names k numbers s g (Member i a m)) (constant_of tables k s.place a m) at f refl q
        (noted_is (ty s (kind_role g) (Member i a m)) u q) (free_proper tables names k numbers P st S known s at (Member i a m) u q) (λ v q'. tree S known s None a v at f tt (member_free tables names k s.place (kind_role g) i a m v h q') q' tt)
    tree S known s g (Item i a j) u at f g' h q z =
        let (v, r, q1) = bind_some (ty s Free a) (λ v. ty s Free j >>= λ y. element v y) u q in
        let (y, r1, q2) = bind_some (ty s Free j) (λ y. element v y) u q1 in
        let (ha, hj, ho) = parts2 (bad s Free a) (bad s Free j) (own (ty s (kind_role g) (Item i a j)) Mismatch i) h in
        let n : ValueType = noted tables names k numbers s g (Item i a j) in
        let same_n : n ≡ value_type u = noted_is (ty s (kind_role g) (Item i a j)) u q in
        let (av, ny) = elements k.classes P st.bases v y u q2 in
        seen_as tables names k numbers P st S known g u (handlers a + handlers j) (handlers a + handlers j) (mk s None a >=> λ x. mk s None j >=> λ l. pure (e.Item n x l)) (free_proper tables names k numbers P st S known s at (Item i a j) u q)
        (two tables names k numbers P st S known (Good S known (value_type u)) (Good S known (value_type v)) (Good S known (value_type y)) (handlers a) (handlers j) (mk s None a) (mk s None j) (λ x l. e.Item n x l)
        (tree S known s None a v at f.0 tt ha r tt) (tree S known s None j y at f.1 tt hj r1 tt)
        (λ x l p o. ((p.0, o.0, p.1 ∙ av ∙ ap (λ (c : ValueType). t.ListOf c) (sym same_n), o.1 ∙ ny), same_n))) refl
    tree S known s None (Items i none) u at f g' h q z = cc
    tree S known s (Some v) (Items i none) u at f g' h q z =
        let is : empty ≡ u = some_is empty u q in
        let array_v : is_array v ≡ true = z (ap (λ (y : StaticType). is_proper_base y.base) (sym is)) in
        let kind : value_type v ≡ value_type (seen (Some v) u) = ap (λ (y : StaticType). value_type (seen (Some v) y)) is in
        gives_pure P (Good S known (value_type (seen (Some v) u))) (e.Items (value_type v) e.none) ((value_type (item v), array_type v array_v, tt), kind)
    tree S known s g (Items i (more a rest)) u at f g' h q z =
        let (v, r, q1) = bind_some (ty s Free a) (λ v. types_of tables k s.place rest >>= λ us. items_type k.classes v us) u q in
        let (us, r1, q2) = bind_some (types_of tables k s.place rest) (λ us. items_type k.classes v us) u q1 in
        let (go, array_u) = items_parts tables names k numbers P st v u us q2 in
        let (ha, hr, ho) = parts2 (bad s Free a) (failures tables names k s.place [] rest) (own (ty s (kind_role g) (Items i (more a rest))) Mismatch i) h in
        let n : ValueType = noted tables names k numbers s g (Items i (more a rest)) in
        let same_n : n ≡ value_type u = noted_is (ty s (kind_role g) (Items i (more a rest))) u q in
        let list_n : n ≡ t.ListOf (value_type v) = same_n ∙ ap (λ (y : StaticType). value_type y) (sym array_u) ∙ arrayed v in
        let kind : type_in tables names k numbers s a ≡ v = kind_is (ty s Free a) v r in
        let Q : TypedTree → Type 0 = Good S known (value_type u) in
        let G : StaticType → Type 0 = λ o. Gives P Q (handlers a + (handlers_of rest + 0)) (mk s None a >=> λ x. made_items tables names k numbers s o rest >=> λ xs. pure (e.Items n (e.more x xs))) in
        let base : G v =
        gives_bind P (Good S known (value_type v)) Q (handlers a) (handlers_of rest + 0) (mk s None a) (λ x. made_items tables names k numbers s v rest >=> λ xs. pure (e.Items n (e.more x xs)))
        (tree S known s None a v at f.0 tt ha r tt)
        (λ x p. gives_bind P (AreItems P S known (value_type v)) Q (handlers_of rest) 0 (made_items tables names k numbers s v rest) (λ xs. pure (e.Items n (e.more x xs)))
        (items S known s v us rest at f.1 (free_proper tables names k numbers P st S known s at a v r) hr r1 go)
        (λ xs ps. gives_pure P Q (e.Items n (e.more x xs)) ((value_type v, list_n, (p.0, inl p.1, ps)), same_n))) in
        seen_as tables names k numbers P st S known g u (handlers a + (handlers_of rest + 0)) (handlers a + handlers_of rest) (mk s None a >=> λ x. made_items tables names k numbers s (type_in tables names k numbers s a) rest >=> λ xs. pure (e.Items n (e.more x xs)))
        (free_proper tables names k numbers P st S known s at (Items i (more a rest)) u q) (subst G (sym kind) base) (omega arith)
    tree S known s g (Call i c' args) u at f g' h q z =
        call S known s g i c' args u (noted tables names k numbers s g (Call i c' args)) (board_callee tables k s.place c') at f.0 refl h q (noted_is (ty s (kind_role g) (Call i c' args)) u q) (free_proper tables names k numbers P st S known s at (Call i c' args) u q)
        (λ takes us p' h' q' go. given S known s takes us args at f.1 p' h' q' go) (λ ps h' q' y. asked S known s ps args at f.1 h' q' y)
    tree S known s g (SuperCall i None args) u at f g' h q z = cc
    tree S known s g (SuperCall i (Some m) args) u at f g' h q z =
        super tables names k numbers P st S known s g m args u (noted tables names k numbers s g (SuperCall i (Some m) args)) (super_method k s.place.this m) at f refl (first (failures tables names k s.place [] args) _ h) q
        (noted_is (ty s (kind_role g) (SuperCall i (Some m) args)) u q) (free_proper tables names k numbers P st S known s at (SuperCall i (Some m) args) u q)
        (λ takes us p' h' q' go. given S known s takes us args at f p' h' q' go)
    tree S known s g (Make i x args) u at f g' h q z =
        let l : Found = finds tables k s.place x in
        let (d, us, is, ts, go, result) = called_parts tables k (made k l) (types_of tables k s.place args) u q in
        let ha : failures tables names k s.place [] args ≡ None = first (failures tables names k s.place [] args) _ h in
        let class : ℕ = class_found tables names k numbers l in
        let Q : TypedTree → Type 0 = Good S known (value_type u) in
        let G : List StaticType → Type 0 = λ o. Gives P Q (handlers_of args + 0) (made_given tables names k numbers s o args >=> λ xs. pure (e.Make (t.Object class) class xs)) in
        let base : G d.takes =
        gives_bind P (AreGiven P S known (parameters_of (value_types d.takes))) Q (handlers_of args) 0 (made_given tables names k numbers s d.takes args) (λ xs. pure (e.Make (t.Object class) class xs))
        (given S known s d.takes us args at f (takes_of_made tables names k numbers P st l d is) ha ts go)
        (λ xs ps. gives_pure P Q (e.Make (t.Object class) class xs) (make_good tables names k numbers P st S known s l d u xs (real k tables s.place x) is result ps)) in
        seen_as tables names k numbers P st S known g u (handlers_of args + 0) (handlers_of args) (made_given tables names k numbers s (maker_takes_of k.classes class) args >=> λ xs. pure (e.Make (t.Object class) class xs))
        (free_proper tables names k numbers P st S known s at (Make i x args) u q) (subst G (sym (make_takes tables names k numbers P st s l d is)) base) (omega arith)
    tree S known s g (Handler i body) u at f g' h q z = cc

    -- what may be set
    target : (S : Setting) (known : List ℕ) (s : Site) (x : Tree) (v : StaticType) → Stand S known s → IsFormed x → bad s Free x ≡ None → ty s Free x ≡ Some v → settable tables k s.place x ≡ true
        → Gives P (λ l. IsTarget P S known l × (w.type_of l ≡ value_type v)) (handlers x) (mk s None x)
    target S known s (Name i x) v at f h q may =
        let n : ValueType = noted tables names k numbers s None (Name i x) in
        let same_n : n ≡ value_type v = noted_is (ty s Free (Name i x)) v q in
        let sp : Spot = spot_of tables names k numbers s (finds tables k s.place x) in
        let has : Has P S known sp n = subst (λ (y : ValueType). Has P S known sp y) (sym same_n) (name_good tables names k numbers P st S known s (finds tables k s.place x) v at (real k tables s.place x) q) in
        gives_pure P (λ l. IsTarget P S known l × (w.type_of l ≡ value_type v)) (e.Name n sp) (has, same_n)
    target S known s (Member i a m) v at f h q may =
        member_target tables names k numbers P st S known s a m v (noted tables names k numbers s None (Member i a m)) (constant_of tables k s.place a m) refl q (noted_is (ty s Free (Member i a m)) v q) may
        (λ v q'. tree S known s None a v at f tt (member_free tables names k s.place Free i a m v h q') q' tt)
    target S known s (Item i a j) u at f h q may =
        let (v, r, q1) = bind_some (ty s Free a) (λ v. ty s Free j >>= λ y. element v y) u q in
        let (y, r1, q2) = bind_some (ty s Free j) (λ y. element v y) u q1 in
        let (ha, hj, ho) = parts2 (bad s Free a) (bad s Free j) (own (ty s Free (Item i a j)) Mismatch i) h in
        let n : ValueType = noted tables names k numbers s None (Item i a j) in
        let same_n : n ≡ value_type u = noted_is (ty s Free (Item i a j)) u q in
        let (av, ny) = elements k.classes P st.bases v y u q2 in
        two tables names k numbers P st S known (λ l. IsTarget P S known l × (w.type_of l ≡ value_type u)) (Good S known (value_type v)) (Good S known (value_type y)) (handlers a) (handlers j) (mk s None a) (mk s None j) (λ x l. e.Item n x l)
        (tree S known s None a v at f.0 tt ha r tt) (tree S known s None j y at f.1 tt hj r1 tt)
        (λ x l p o. ((p.0, o.0, p.1 ∙ av ∙ ap (λ (c : ValueType). t.ListOf c) (sym same_n), o.1 ∙ ny), same_n))
    target S known s (Num i n) v at f h q may = cc
    target S known s (Text i n) v at f h q may = cc
    target S known s (Truth i x) v at f h q may = cc
    target S known s (Null i) v at f h q may = cc
    target S known s (This i) v at f h q may = cc
    target S known s (Unary i op a) v at f h q may = cc
    target S known s (Binary i op a b) v at f h q may = cc
    target S known s (Both i a b) v at f h q may = cc
    target S known s (Either i a b) v at f h q may = cc
    target S known s (Choice i c a b) v at f h q may = cc
    target S known s (Set i op x a) v at f h q may = cc
    target S known s (Bump i x by late) v at f h q may = cc
    target S known s (Items i l) v at f h q may = cc
    target S known s (Call i c' args) v at f h q may = cc
    target S known s (SuperCall i m args) v at f h q may = cc
    target S known s (Make i x args) v at f h q may = cc
    target S known s (Handler i body) v at f h q may = cc

    items : (S : Setting) (known : List ℕ) (s : Site) (v : StaticType) (us : List StaticType) (args : Trees) → Stand S known s → AreFormed args → IsProper v → failures tables names k s.place [] args ≡ None → types_of tables k s.place args ≡ Some us
        → all_go_to k.classes v us ≡ true → Gives P (AreItems P S known (value_type v)) (handlers_of args) (made_items tables names k numbers s v args)
    items S known s v us none at f p h q go = gives_pure P (AreItems P S known (value_type v)) e.none tt
    items S known s v us (more a rest) at f p h q go =
        let (y, r, q1) = bind_some (ty s Given a) (λ y. types_of tables k s.place rest >>= λ ys. Some (y ∷ ys)) us q in
        let (ys, r1, q2) = bind_some (types_of tables k s.place rest) (λ ys. Some (y ∷ ys)) us q1 in
        let (go_y, go_ys) = go_to_parts tables names k numbers P st v y ys (subst (λ (l : List StaticType). all_go_to k.classes v l ≡ true) (sym (some_is (y ∷ ys) us q2)) go) in
        let R : TypedTrees → Type 0 = AreItems P S known (value_type v) in
        let py = given_proper tables names k numbers P st S known s at a y r in
        gives_as P R R (handlers a + (handlers_of rest + 0)) (handlers a + handlers_of rest) (mk s (Some v) a >=> λ x. made_items tables names k numbers s v rest >=> λ xs. pure (e.more x xs))
        (gives_bind P (Good S known (value_type (seen (Some v) y))) R (handlers a) (handlers_of rest + 0) (mk s (Some v) a) (λ x. made_items tables names k numbers s v rest >=> λ xs. pure (e.more x xs))
        (tree S known s (Some v) a y at f.0 p (first (bad s Given a) (failures tables names k s.place [] rest) h) r (suits_given tables names k numbers P st y v py p go_y))
        (λ x o. gives_bind P R R (handlers_of rest) 0 (made_items tables names k numbers s v rest) (λ xs. pure (e.more x xs))
        (items S known s v ys rest at f.1 p (last (bad s Given a) (failures tables names k s.place [] rest) h) r1 go_ys)
        (λ xs os. gives_pure P R (e.more x xs) (o.0, subst (λ (c : ValueType). GoesTo P c (value_type v)) (sym o.1) (given_goes tables names k numbers P st y v go_y), os))))
        (λ x o. o) (omega arith)

    pub given : (S : Setting) (known : List ℕ) (s : Site) (takes us : List StaticType) (args : Trees) → Stand S known s → AreFormed args → EachProper takes → failures tables names k s.place [] args ≡ None → types_of tables k s.place args ≡ Some us
        → all_go k.classes us takes ≡ true → Gives P (AreGiven P S known (parameters_of (value_types takes))) (handlers_of args) (made_given tables names k numbers s takes args)
    given S known s [] us none at f p h q go = gives_pure P (AreGiven P S known []) e.none tt
    given S known s (v ∷ vs) us none at f p h q go = absurd (go_none tables names k numbers P st v vs (subst (λ (l : List StaticType). all_go k.classes l (v ∷ vs) ≡ true) (sym (some_is [] us q)) go))
    given S known s [] us (more a rest) at f p h q go =
        let (y, r, q1) = bind_some (ty s Given a) (λ y. types_of tables k s.place rest >>= λ ys. Some (y ∷ ys)) us q in
        let (ys, r1, q2) = bind_some (types_of tables k s.place rest) (λ ys. Some (y ∷ ys)) us q1 in
        absurd (go_more tables names k numbers P st y ys (subst (λ (l : List StaticType). all_go k.classes l [] ≡ true) (sym (some_is (y ∷ ys) us q2)) go))
    given S known s (v ∷ vs) us (more a rest) at f p h q go =
        let (y, r, q1) = bind_some (ty s Given a) (λ y. types_of tables k s.place rest >>= λ ys. Some (y ∷ ys)) us q in
        let (ys, r1, q2) = bind_some (types_of tables k s.place rest) (λ ys. Some (y ∷ ys)) us q1 in
        let (go_y, go_ys) = go_parts tables names k numbers P st y v ys vs (subst (λ (l : List StaticType). all_go k.classes l (v ∷ vs) ≡ true) (sym (some_is (y ∷ ys) us q2)) go) in
        let R : TypedTrees → Type 0 = AreGiven P S known (parameters_of (value_types (v ∷ vs))) in
        let R' : TypedTrees → Type 0 = AreGiven P S known (parameters_of (value_types vs)) in
        let py = given_proper tables names k numbers P st S known s at a y r in
        gives_as P R R (handlers a + (handlers_of rest + 0)) (handlers a + handlers_of rest) (mk s (Some v) a >=> λ x. made_given tables names k numbers s vs rest >=> λ xs. pure (e.more x xs))
        (gives_bind P (Good S known (value_type (seen (Some v) y))) R (handlers a) (handlers_of rest + 0) (mk s (Some v) a) (λ x. made_given tables names k numbers s vs rest >=> λ xs. pure (e.more x xs))
        (tree S known s (Some v) a y at f.0 p.0 (first (bad s Given a) (failures tables names k s.place [] rest) h) r (suits_given tables names k numbers P st y v py p.0 go_y))
        (λ x o. gives_bind P R' R (handlers_of rest) 0 (made_given tables names k numbers s vs rest) (λ xs. pure (e.more x xs))
        (given S known s vs ys rest at f.1 p.1 (last (bad s Given a) (failures tables names k s.place [] rest) h) r1 go_ys)
        (λ xs os. gives_pure P R (e.more x xs) (o.0, subst (λ (c : ValueType). GoesTo P c (value_type v)) (sym o.1) (given_goes tables names k numbers P st y v go_y), os))))
        (λ x o. o) (omega arith)

    call : (S : Setting) (known : List ℕ) (s : Site) (g : Option StaticType) (i : ℕ) (c' : Tree) (args : Trees) (u : StaticType) (n : ValueType) (b : Option BoardCall) → Stand S known s → IsFormed c' → board_callee tables k s.place c' ≡ b
        → call_failure tables names k numbers P st s i c' args b ≡ None → call_type tables names k numbers P st s c' args b ≡ Some u → n ≡ value_type u → IsProper u → ArgumentsTyped tables names k numbers P st S known s args → AskedTyped tables names k numbers P st S known s args
        → Gives P (Good S known (value_type (seen g u))) (handlers c' + handlers_of args) (call_made tables names k numbers P st s n c' args b)
    call S known s g i c' args u n (Some b) at f is h q same_n p typed asked' = board_call tables names k numbers P st S known s g i c' args u n b is h q same_n p asked'
    call S known s g i (Name j x) args u n None at f is h q same_n p typed asked' =
        let l : Found = finds tables k s.place x in
        let (d, us, q1, ts, go, result) = called_parts tables k (named_callee k l) (types_of tables k s.place args) u q in
        let (hf, ha, ho) = parts2 (bad s Called (Name j x)) (failures tables names k s.place [] args) _ h in
        seen_as tables names k numbers P st S known g u (handlers_of args) (0 + handlers_of args) (made_given tables names k numbers s (routine_takes tables names k numbers l) args >=> λ xs. pure (e.Call n (c.Function (routine_of tables names k numbers l)) xs)) p
        (function_call tables names k numbers P st S known s args l d u n (real k tables s.place x) q1 result same_n (typed d.takes us (takes_of_found tables names k numbers P st l d q1) ha ts go)) (omega arith)
    call S known s g i (Member j a m) args u n None at f is h q same_n p typed asked' =
        let (d, us, q1, ts, go, result) = called_parts tables k (callee_of tables k s.place (Member j a m)) (types_of tables k s.place args) u q in
        let (v, r, q2) = bind_some (ty s Free a) (λ v. part_callee k (part_of tables.names k v m)) d q1 in
        let (hf, ha, ho) = parts2 (bad s Called (Member j a m)) (failures tables names k s.place [] args) _ h in
        let free_a : bad s Free a ≡ None = member_free tables names k s.place Called j a m v hf r in
        let takes_so : EachProper d.takes = takes_of_part tables names k numbers P st v m (part_of tables.names k v m) d (free_proper tables names k numbers P st S known s at a v r) (has_part k tables.names v m) q2 in
        seen_as tables names k numbers P st S known g u (handlers a + (handlers_of args + 0)) (handlers a + handlers_of args)
        (mk s None a >=> λ x. made_given tables names k numbers s (part_takes tables names k numbers (part_in tables names k numbers s a m)) args
        >=> λ xs. pure (e.Call n (part_target tables names k numbers (part_in tables names k numbers s a m) (class_in tables names k numbers s a) m) (e.more x xs))) p
        (member_call tables names k numbers P st S known s a m args us v u d n at r q2 result same_n (tree S known s None a v at f tt free_a r tt) (typed d.takes us takes_so ha ts go)) (omega arith)
    call S known s g i (Num j n') args u n None at f is h q same_n p typed asked' = cc
    call S known s g i (Text j n') args u n None at f is h q same_n p typed asked' = cc
    call S known s g i (Truth j x) args u n None at f is h q same_n p typed asked' = cc
    call S known s g i (Null j) args u n None at f is h q same_n p typed asked' = cc
    call S known s g i (This j) args u n None at f is h q same_n p typed asked' = cc
    call S known s g i (Unary j op a) args u n None at f is h q same_n p typed asked' = cc
    call S known s g i (Binary j op a b) args u n None at f is h q same_n p typed asked' = cc
    call S known s g i (Both j a b) args u n None at f is h q same_n p typed asked' = cc
    call S known s g i (Either j a b) args u n None at f is h q same_n p typed asked' = cc
    call S known s g i (Choice j l a b) args u n None at f is h q same_n p typed asked' = cc
    call S known s g i (Set j op x a) args u n None at f is h q same_n p typed asked' = cc
    call S known s g i (Bump j x by late) args u n None at f is h q same_n p typed asked' = cc
    call S known s g i (Item j a l) args u n None at f is h q same_n p typed asked' = cc
    call S known s g i (Items j l) args u n None at f is h q same_n p typed asked' = cc
    call S known s g i (Call j l xs) args u n None at f is h q same_n p typed asked' = cc
    call S known s g i (SuperCall j l xs) args u n None at f is h q same_n p typed asked' = cc
    call S known s g i (Make j x xs) args u n None at f is h q same_n p typed asked' = cc
    call S known s g i (Handler j body) args u n None at f is h q same_n p typed asked' = cc

    asked : (S : Setting) (known : List ℕ) (s : Site) (ps : List BoardParameter) (args : Trees) → Stand S known s → AreFormed args → failures tables names k s.place ps args ≡ None → are_given tables k s.place ps args ≡ true → are_plain ps ≡ true
        → Gives P (Asked tables names k numbers P st S known ps) (handlers_of args) (made_asked tables names k numbers s ps args)
    asked S known s [] none at f h q y = gives_pure P (Asked tables names k numbers P st S known []) e.none tt
    asked S known s [] (more a rest) at f h q y = cc
    asked S known s (board.Of v ∷ ps) none at f h q y = cc
    asked S known s (board.Handler ∷ ps) none at f h q y = cc
    asked S known s (board.Drawing ∷ ps) none at f h q y = cc
    asked S known s (board.Of v ∷ ps) (more a rest) at f h q y =
        let (given_so, rest_so) = both_true (fits k (ty s Given a) (Some (board_kind v))) (are_given tables k s.place ps rest) q in
        let (l, r, go) = given_to_is tables names k numbers P st (ty s Given a) v given_so in
        let z : StaticType = board_kind v in
        let pz : IsProper z = board_proper v in
        let pl = given_proper tables names k numbers P st S known s at a l r in
        let R : TypedTrees → Type 0 = Asked tables names k numbers P st S known (board.Of v ∷ ps) in
        gives_as P R R (handlers a + (handlers_of rest + 0)) (handlers a + handlers_of rest) (mk s (Some z) a >=> λ x. made_asked tables names k numbers s ps rest >=> λ xs. pure (e.more x xs))
        (gives_bind P (Good S known (value_type (seen (Some z) l))) R (handlers a) (handlers_of rest + 0) (mk s (Some z) a) (λ x. made_asked tables names k numbers s ps rest >=> λ xs. pure (e.more x xs))
        (tree S known s (Some z) a l at f.0 pz (first (bad s Given a) (failures tables names k s.place ps rest) h) r (suits_given tables names k numbers P st l z pl pz go))
        (λ x o. gives_bind P (Asked tables names k numbers P st S known ps) R (handlers_of rest) 0 (made_asked tables names k numbers s ps rest) (λ xs. pure (e.more x xs))
        (asked S known s ps rest at f.1 (last (bad s Given a) (failures tables names k s.place ps rest) h) rest_so (plain_rest v ps y))
        (λ xs os. gives_pure P R (e.more x xs) (o.0, subst (λ (c : ValueType). GoesTo P c v) (sym o.1) (subst (λ (c : ValueType). GoesTo P (value_type (seen (Some z) l)) c) (plain_first v ps y) (given_goes tables names k numbers P st l z go)), os))))
        (λ x o. o) (omega arith)
    asked S known s (board.Drawing ∷ ps) (more a rest) at f h q y =
        let (draws_so, rest_so) = both_true (is_drawing tables a) (are_given tables k s.place ps rest) q in
        let (good, none_in) = drawing_good tables names k numbers P st S known a draws_so in
        let R : TypedTrees → Type 0 = Asked tables names k numbers P st S known (board.Drawing ∷ ps) in
        gives_as P R R (0 + (handlers_of rest + 0)) (handlers a + handlers_of rest) (pure (drawing tables names k numbers a) >=> λ x. made_asked tables names k numbers s ps rest >=> λ xs. pure (e.more x xs))
        (gives_bind P (Good S known t.Number) R 0 (handlers_of rest + 0) (pure (drawing tables names k numbers a)) (λ x. made_asked tables names k numbers s ps rest >=> λ xs. pure (e.more x xs))
        (gives_pure P (Good S known t.Number) (drawing tables names k numbers a) good)
        (λ x o. gives_bind P (Asked tables names k numbers P st S known ps) R (handlers_of rest) 0 (made_asked tables names k numbers s ps rest) (λ xs. pure (e.more x xs))
        (asked S known s ps rest at f.1 (last (bad s Given a) (failures tables names k s.place ps rest) h) rest_so y)
        (λ xs os. gives_pure P R (e.more x xs) (o, os))))
        (λ x o. o) (omega (arith, none_in))
    asked S known s (board.Handler ∷ ps) (more a rest) at f h q y =
        let (serves_so, rest_so) = both_true (is_routine tables k s.place a) (are_given tables k s.place ps rest) q in
        let R : TypedTrees → Type 0 = Asked tables names k numbers P st S known (board.Handler ∷ ps) in
        let made : Making TypedTree = argument_made tables names k numbers s (board.Handler ∷ ps) a (mk s None a) in
        gives_as P R R (handlers a + (handlers_of rest + 0)) (handlers a + handlers_of rest) (made >=> λ x. made_asked tables names k numbers s ps rest >=> λ xs. pure (e.more x xs))
        (gives_bind P (IsHandler P) R (handlers a) (handlers_of rest + 0) made (λ x. made_asked tables names k numbers s ps rest >=> λ xs. pure (e.more x xs))
        (handler S known s ps a at f.0 (first (bad s Served a) (failures tables names k s.place ps rest) h) serves_so)
        (λ x o. gives_bind P (Asked tables names k numbers P st S known ps) R (handlers_of rest) 0 (made_asked tables names k numbers s ps rest) (λ xs. pure (e.more x xs))
        (asked S known s ps rest at f.1 (last (bad s Served a) (failures tables names k s.place ps rest) h) rest_so y)
        (λ xs os. gives_pure P R (e.more x xs) (o, os))))
        (λ x o. o) (omega arith)

    -- an argument that serves
    handler : (S : Setting) (known : List ℕ) (s : Site) (ps : List BoardParameter) (a : Tree) → Stand S known s → IsFormed a → bad s Served a ≡ None → is_routine tables k s.place a ≡ true
        → Gives P (IsHandler P) (handlers a) (argument_made tables names k numbers s (board.Handler ∷ ps) a (mk s None a))
    handler S known s ps (Name i x) at f h q = gives_pure P (IsHandler P) (plain_handler tables names k numbers s (Name i x))
        (plain_serves tables names k numbers P st (finds tables k s.place x) s (real k tables s.place x) (served_so tables names k numbers P st s.place (finds tables k s.place x) i q h))
    handler S known s ps (Handler i (Does j [] gives all arrow)) at f h q =
        let site' : Site = in_handler_site tables names k numbers s [] gives all in
        let bad_inside : Option Failure = written_failure names j gives then statements_failure tables names k site'.place all in
        let serves : Bool = is_nothing site'.place.gives in
        let own_so : Option Failure = if serves then None else failure_at BadHandler i in
        let h1 : bad_inside ≡ None = first bad_inside own_so h in
        let served : serves ≡ true = serves_true tables names k numbers P st serves BadHandler i (last bad_inside own_so h) in
        let h2 : statements_failure tables names k site'.place all ≡ None = last (written_failure names j gives) (statements_failure tables names k site'.place all) h1 in
        let answer_is : (S' : Setting) → S'.routine.gives ≡ t.Nothing → S'.main ≡ false → w.answer S' ≡ Some t.Nothing = λ S' n o.
        ap (λ (x : Bool). let y : Option ValueType = if x then None else Some (if S'.maker then t.Nothing else S'.routine.gives) in y) o
        ∙ ap (λ (u : ValueType). Some (if S'.maker then t.Nothing else u)) n ∙ ap (λ (u : ValueType). Some u) (nothing_either S'.maker) in
        let answers : (S' : Setting) → S'.routine.gives ≡ t.Nothing → S'.main ≡ false → Answered S' site'.place.gives (give_value all) = λ S' n o. (
          (λ b. (t.Nothing, answer_is S' n o)),
          (λ b v same. let z : v ≡ nothing = same_is v nothing (sym (ap is_nothing same) ∙ served) in (answer_is S' n o ∙ ap (λ (y : StaticType). Some (value_type y)) (sym z), subst IsProper (sym z) refl)),
        ) in
        λ m n placed.
        let made = made_statements tables names k numbers site' all 0 (suc n) in
        let r : TypedRoutine = record { params = []; locals = made.locals; gives = t.Nothing; all = made.it } in
        let build : (S' : Setting) → S'.routine ≡ r → S'.main ≡ false
        → w.AreSound P S' made.it false [] × (w'.all_declared made.it ≡ [] ++ w'.numbers 0 (length made.locals)) × Inners P made.routines × (length made.routines ≡ statements_handlers all) =
        λ S' same o. statements S' [] site' false site'.place.gives all 0 (suc n) (handler_stand tables names k numbers P st S' s gives all) f refl h2 (answers S' (ap (λ (x : TypedRoutine). x.gives) same) o) placed.1 (kept_all P S' made.locals (ap (λ (x : TypedRoutine). x.locals) same)) in
        let S0 : Setting = record { routine = r; this = false; maker = false; main = false } in
        let (sound, locals_so, inners, count) = build S0 refl refl in
        let inner_so : IsInner P r = record { nothing = refl; body = λ S' same o. subst (λ (x : TypedRoutine). w.AreSound P S' made.it false []) same (build S' same o).0; locals = locals_so } in
        ((r, placed.0, refl, refl), refl, (inner_so, inners), ap suc count)
    handler S known s ps (Handler i (Does j (l ∷ ls) gives all arrow)) at f h q =
        let z : failure_at BadHandler i ≡ None = last (handler_failure tables names k s.place (Does j (l ∷ ls) gives all arrow)) (failure_at BadHandler i) h in cc
    handler S known s ps (Num i n) at f h q = cc
    handler S known s ps (Text i n) at f h q = cc
    handler S known s ps (Truth i x) at f h q = cc
    handler S known s ps (Null i) at f h q = cc
    handler S known s ps (This i) at f h q = cc
    handler S known s ps (Unary i op a) at f h q = cc
    handler S known s ps (Binary i op a b) at f h q = cc
    handler S known s ps (Both i a b) at f h q = cc
    handler S known s ps (Either i a b) at f h q = cc
    handler S known s ps (Choice i c' a b) at f h q = cc
    handler S known s ps (Set i op x a) at f h q = cc
    handler S known s ps (Bump i x by late) at f h q = cc
    handler S known s ps (Member i a m) at f h q = cc
    handler S known s ps (Item i a j) at f h q = cc
    handler S known s ps (Items i l) at f h q = cc
    handler S known s ps (Call i c' args) at f h q = cc
    handler S known s ps (SuperCall i m args) at f h q = cc
    handler S known s ps (Make i x args) at f h q = cc

    -- an initialiser
    pub initial : (S : Setting) (known : List ℕ) (s : Site) (shape : Option Annotation) (first : OptionalTree) (i : ℕ) (u : StaticType) → Stand S known s → MayBeFormed first → written_failure names i shape ≡ None
        → initial_failure tables names k s.place shape first ≡ None → own_bound tables names k s.place shape first i ≡ None → bound tables names k s.place shape first ≡ Some u
        → Gives P (λ l. w.IsInitial P S known l (value_type u)) (optional_handlers first) (made_first tables names k numbers s shape first)
    initial S known s shape absent i u at f h h1 h2 q = gives_pure P (λ l. w.IsInitial P S known l (value_type u)) None tt
    initial S known s None (present a) i u at f h h1 h2 q =
        let (plain, q1) = alone_is (is_alone a) (ty s Free a) u q in
        let bad_a : bad s Free a ≡ None = unless_waived (is_alone a) (bad s Free a) plain h1 in
        let R : Option TypedTree → Type 0 = λ l. w.IsInitial P S known l (value_type u) in
        gives_as P R R (handlers a + 0) (handlers a) (mk s None a >=> λ x. pure (Some x))
        (gives_bind P (Good S known (value_type u)) R (handlers a) 0 (mk s None a) (λ x. pure (Some x)) (tree S known s None a u at f tt bad_a q1 tt) (λ x o. gives_pure P R (Some x) (o.0, inl o.1))) (λ l o. o) (omega arith)
    initial S known s (Some c') (present a) i u at f h h1 h2 q =
        let (l, v, r, r1, go) = fits_is tables names k numbers P st (ty s Given a) (kind_of names c') (unless_true (fits k (ty s Given a) (kind_of names c')) Mismatch i h2) in
        let (v', r2, pv') = type_known i c' h in
        let uv : u ≡ v = some_is u v (sym q ∙ r1) in
        let pv : IsProper v = subst IsProper (some_is v' v (sym r2 ∙ r1)) pv' in
        let pl = given_proper tables names k numbers P st S known s at a l r in
        let R : Option TypedTree → Type 0 = λ o. w.IsInitial P S known o (value_type v) in
        let G : Option StaticType → Type 0 = λ o. Gives P R (handlers a + 0) (mk s o a >=> λ x. pure (Some x)) in
        let base : G (Some v) =
        gives_bind P (Good S known (value_type (seen (Some v) l))) R (handlers a) 0 (mk s (Some v) a) (λ x. pure (Some x)) (tree S known s (Some v) a l at f pv h1 r (suits_given tables names k numbers P st l v pl pv go))
        (λ x o. gives_pure P R (Some x) (o.0, subst (λ (y : ValueType). GoesTo P y (value_type v)) (sym o.1) (given_goes tables names k numbers P st l v go))) in
        gives_as P R (λ o. w.IsInitial P S known o (value_type u)) (handlers a + 0) (handlers a) (mk s (kind_of names c') a >=> λ x. pure (Some x)) (subst G (sym r1) base)
        (λ o p. subst (λ (y : StaticType). w.IsInitial P S known o (value_type y)) (sym uv) p) (omega arith)

    -- the tests and steps of a `for`
    test_typed : (S : Setting) (known : List ℕ) (s : Site) (a : OptionalTree) (i : ℕ) → Stand S known s → MayBeFormed a → optional_failure tables names k s.place a ≡ None → test_failure tables k s.place a i ≡ None
        → Gives P (w.MayTest P S known) (optional_handlers a) (made_optional tables names k numbers s a)
    test_typed S known s absent i at f h h1 = gives_pure P (w.MayTest P S known) None tt
    test_typed S known s (present a) i at f h h1 =
        let R : Option TypedTree → Type 0 = w.MayTest P S known in
        gives_as P R R (handlers a + 0) (handlers a) (mk s None a >=> λ x. pure (Some x))
        (gives_bind P (w.IsTest P S known) R (handlers a) 0 (mk s None a) (λ x. pure (Some x)) (as_test S known s a i (λ u q. tree S known s None a u at f tt h q tt) h1) (λ x o. gives_pure P R (Some x) o)) (λ x o. o) (omega arith)

    step_typed : (S : Setting) (known : List ℕ) (s : Site) (a : OptionalTree) → Stand S known s → MayBeFormed a → optional_failure tables names k s.place a ≡ None → Gives P (w.MayStep P S known) (optional_handlers a) (made_optional tables names k numbers s a)
    step_typed S known s absent at f h = gives_pure P (w.MayStep P S known) None tt
    step_typed S known s (present a) at f h =
        let R : Option TypedTree → Type 0 = w.MayStep P S known in
        gives_as P R R (handlers a + 0) (handlers a) (mk s None a >=> λ x. pure (Some x))
        (gives_bind P (IsTyped P S known) R (handlers a) 0 (mk s None a) (λ x. pure (Some x)) (as_plain S known s a (λ u q. tree S known s None a u at f tt h q tt) h) (λ x o. gives_pure P R (Some x) o)) (λ x o. o) (omega arith)

    -- what is returned
    value_typed : (S : Setting) (known : List ℕ) (s : Site) (g : Option StaticType) (a : OptionalTree) (i : ℕ) → Stand S known s → MayBeFormed a → s.place.gives ≡ g → statement_failure tables names k s.place (Return i a) ≡ None → Answered S g (gives_value (Return i a))
        → Gives P (λ x. w.IsReturned P S known x (w.answer S)) (optional_handlers a) (made_value tables names k numbers s s.place.gives a)
    value_typed S known s g absent i at f same h answers =
        let bare : is_nothing g ≡ true = subst (λ (o : Option StaticType). is_nothing o ≡ true) same (unless_true (is_nothing s.place.gives) Mismatch i h) in
        let (v, q) = answers.0 bare in
        gives_pure P (λ x. w.IsReturned P S known x (w.answer S)) None (subst (λ (o : Option ValueType). w.IsReturned P S known None o) (sym q) tt)
    value_typed S known s g (present a) i at f same h answers =
        let o : Option StaticType = s.place.gives in
        let h1 : bad s (kind_role o) a ≡ None = first (bad s (kind_role o) a) (unless (fits k (ty s (kind_role o) a) o) Mismatch i) h in
        let h2 : fits k (ty s (kind_role o) a) o ≡ true = unless_true (fits k (ty s (kind_role o) a) o) Mismatch i (last (bad s (kind_role o) a) (unless (fits k (ty s (kind_role o) a) o) Mismatch i) h) in
        let R : Option TypedTree → Type 0 = λ x. w.IsReturned P S known x (w.answer S) in
        let (u, v, r, r1, go) = fits_is tables names k numbers P st (ty s (kind_role o) a) o h2 in
        let (answer, pv) = answers.1 refl v (sym same ∙ r1) in
        let G : Option StaticType → Type 0 = λ y. bad s (kind_role y) a ≡ None → ty s (kind_role y) a ≡ Some u → Gives P R (handlers a) (mk s y a >=> λ x. pure (Some x)) in
        let base : G (Some v) = λ h1 r.
        gives_as P R R (handlers a + 0) (handlers a) (mk s (Some v) a >=> λ x. pure (Some x))
        (gives_bind P (Good S known (value_type (seen (Some v) u))) R (handlers a) 0 (mk s (Some v) a) (λ x. pure (Some x))
        (tree S known s (Some v) a u at f pv h1 r (suits_given tables names k numbers P st u v (given_proper tables names k numbers P st S known s at a u r) pv go))
        (λ x l. gives_pure P R (Some x) (return_value S known x u v l go answer))) (λ x l. l) (omega arith) in
        subst G (sym r1) base h1 r

    -- names that are declared in a block
    locals : (S : Setting) (known : List ℕ) (s : Site) (fixed : Bool) (each : Declarations) (m n : ℕ) → Stand S known s → AreFormedDeclarations each → declarations_failure tables names k s.place fixed each ≡ None
        → Built P S (λ ds. w.AreDeclared P S known ds × Stand S (w.known_behind ds known) (record { place = all_declared tables names k s.place fixed each; spots = s.spots ++ spots_from m each })) declared_names [] (declarations_handlers each) m n
        (made_locals tables names k numbers s fixed each m n)
    locals S known s fixed ended m n at f h = good_pure P S (λ ds. w.AreDeclared P S known ds × Stand S (w.known_behind ds known) (record { place = s.place; spots = s.spots ++ [] })) declared_names [] m n [] (tt, stand_same S known s at) refl
    locals S known s fixed (next (Declare i x shape one') rest) m n at f h =
        let p : NameScope = s.place in
        let a : Declaration = Declare i x shape one' in
        let later : Option Failure = declarations_failure tables names k (after tables names k p (Let 0 fixed (next a ended))) fixed rest in
        let here : Option Failure = declaration_failure tables names k p a in
        let (hw, hi, hl, hb) = parts3 (written_failure names i shape) (initial_failure tables names k p shape one') (own_local tables p x i) (own_bound tables names k p shape one' i) (first here later h) in
        let hr : later ≡ None = last here later h in
        let (u, q, pu) = bound_known S known s shape one' i at hw hb in
        let v : ValueType = value_type u in
        let s1 : Site = behind_statement tables names k numbers m s (Let 0 fixed (next a ended)) in
        let R : List TypedDeclaration → Type 0 = λ ds. w.AreDeclared P S known ds × Stand S (w.known_behind ds known) (record { place = all_declared tables names k p fixed (next a rest); spots = s.spots ++ spots_from m (next a rest) }) in
        let first_good = declare tables names k numbers P st S known m n (optional_handlers one') (value_type (unwrap_or (bound tables names k p shape one') nothing)) v (made_first tables names k numbers s shape one') (noted_is (bound tables names k p shape one') u q)
        (initial S known s shape one' i u at f.0 hw hi hb q) in
        let E : List TypedDeclaration → ℕ → Type 0 = λ ds o. w.AreDeclared P S (m ∷ known) ds × Stand S (w.known_behind ds (m ∷ known)) (record { place = all_declared tables names k s1.place fixed rest; spots = s1.spots ++ spots_from o rest }) in
        good_as P S R R declared_names [] (optional_handlers one' + (declarations_handlers rest + 0)) (optional_handlers one' + declarations_handlers rest) m n (made_locals tables names k numbers s fixed (next a rest) m n)
        (good_bind_at P S (Declared tables names k numbers P st S known m v) (λ d. declared_local d.name) R declared_names [] (optional_handlers one') (declarations_handlers rest + 0) m n (made_local tables names k numbers s a)
        (λ d. made_locals tables names k numbers s1 fixed rest >=> λ ds. pure (d ∷ ds)) first_good
        (λ d dq i' o' at_i.
        let step : i' ≡ suc m = at_i ∙ ap (λ (ns : List ℕ). m + length ns) (declared_one tables names k numbers P st S known m v d dq) ∙ (let z : m + 1 ≡ suc m = omega arith in z) in
        let stand1 : (e : entry S.routine.locals m ≡ Some v) → Stand S (m ∷ known) s1 = λ e. at_local tables names k numbers P st S known s x (bound tables names k p shape one') fixed m at
        (λ l lq. let ul : u ≡ l = some_is u l (sym q ∙ lq) in (e ∙ ap (λ (y : StaticType). Some (value_type y)) ul, subst IsProper ul pu)) in
        good_bind P S (λ ds. E ds i') declared_names R declared_names (declared_local d.name) (declarations_handlers rest) 0 i' o' (made_locals tables names k numbers s1 fixed rest) (λ ds. pure (d ∷ ds))
        (locals S (m ∷ known) s1 fixed rest i' o' (stand1 dq.3) f.1 hr)
        (λ ds es i2 o2. good_pure P S R declared_names (declared_local d.name ++ declared_names ds) i2 o2 (d ∷ ds) (declared_more tables names k numbers P st S known s fixed a rest m i' v d ds s1.spots step dq es.0 es.1) refl)))
        (λ l. l) (omega arith)

    -- what stands first in the head of a `for`
    opening : (S : Setting) (known : List ℕ) (s : Site) (a : OptionalStatement) (m n : ℕ) → Stand S known s → IsFormedFirst a → first_failure tables names k s.place a ≡ None
        → Built P S (SoundFirst S known s m a) first_declared [] (first_handlers a) m n (made_opening tables names k numbers s a m n)
    opening S known s omitted m n at f h = good_pure P S (SoundFirst S known s m omitted) first_declared [] m n e.omitted (tt, record { even = at.even; here = at.here; proper = at.proper; this = at.this }) refl
    opening S known s (written (Let i fixed each)) m n at f h =
        let R = SoundFirst S known s m (written (Let i fixed each)) in
        let D : TypedStatement → Type 0 = λ x. w.IsSoundFirst P S (e.written x) known × Stand S (w.known_after x known) (behind_statement tables names k numbers m s (Let i fixed each)) in
        let H : ℕ = declarations_handlers each in
        good_as P S R R first_declared [] (H + 0) H m n (made_opening tables names k numbers s (written (Let i fixed each)) m n)
        (good_bind P S D w'.declared R first_declared [] H 0 m n (made_statement tables names k numbers s (Let i fixed each)) (λ x. pure (e.written x))
        (good_as P S D D w'.declared [] (H + 0) H m n (made_statement tables names k numbers s (Let i fixed each) m n)
        (good_bind P S (λ ds. w.AreDeclared P S known ds × Stand S (w.known_behind ds known) (record { place = all_declared tables names k s.place fixed each; spots = s.spots ++ spots_from m each })) declared_names D w'.declared [] H 0 m n
        (made_locals tables names k numbers s fixed each) (λ ds. pure (e.Let fixed ds)) (locals S known s fixed each m n at f.1 h)
        (λ ds q i1 o1. good_pure P S D w'.declared (declared_names ds) i1 o1 (e.Let fixed ds) (q.0, q.1) refl)) (λ l. l) (omega arith))
        (λ x q i1 o1. good_pure P S R first_declared (w'.declared x) i1 o1 (e.written x) (q.0, q.1) refl)) (λ l. l) (omega arith)
    opening S known s (written (Plain i a)) m n at f h =
        let R = SoundFirst S known s m (written (Plain i a)) in
        let D : TypedStatement → Type 0 = λ x. w.IsSoundFirst P S (e.written x) known × Stand S (w.known_after x known) (behind_statement tables names k numbers m s (Plain i a)) in
        let H : ℕ = handlers a in
        good_as P S R R first_declared [] (H + 0) H m n (made_opening tables names k numbers s (written (Plain i a)) m n)
        (good_bind P S D w'.declared R first_declared [] H 0 m n (made_statement tables names k numbers s (Plain i a)) (λ x. pure (e.written x))
        (good_as P S D D w'.declared [] (H + 0) H m n (made_statement tables names k numbers s (Plain i a) m n)
        (good_free P S (IsTyped P S known) D w'.declared [] H 0 m n (mk s None a) (λ x. pure (e.Plain x)) (as_plain S known s a (λ u q. tree S known s None a u at f.1 tt h q tt) h)
        (λ x q o1. good_pure P S D w'.declared [] m o1 (e.Plain x) (q, stand_same S known s at) refl)) (λ l. l) (omega arith))
        (λ x q i1 o1. good_pure P S R first_declared (w'.declared x) i1 o1 (e.written x) (q.0, q.1) refl)) (λ l. l) (omega arith)
    opening S known s (written (Block i all)) m n at f h = absurd f.0
    opening S known s (written (IfOnly i test a)) m n at f h = absurd f.0
    opening S known s (written (IfElse i test a b)) m n at f h = absurd f.0
    opening S known s (written (While i test a)) m n at f h = absurd f.0
    opening S known s (written (DoWhile i a test)) m n at f h = absurd f.0
    opening S known s (written (For i one' test step a)) m n at f h = absurd f.0
    opening S known s (written (ForOf i fixed x list a)) m n at f h = absurd f.0
    opening S known s (written (Return i value)) m n at f h = absurd f.0
    opening S known s (written (Break i)) m n at f h = absurd f.0
    opening S known s (written (Continue i)) m n at f h = absurd f.0
    opening S known s (written (Empty i)) m n at f h = absurd f.0

    -- a statement: g is what a `return` gives
    pub statement : (S : Setting) (known : List ℕ) (s : Site) (looped : Bool) (g : Option StaticType) (a : Statement) (m n : ℕ) → Stand S known s → IsFormedIn looped a → s.place.gives ≡ g → statement_failure tables names k s.place a ≡ None
        → Answered S g (gives_value a) → Built P S (Sound S known s looped m a) w'.declared [] (statement_handlers a) m n (made_statement tables names k numbers s a m n)
    statement S known s looped g (Block i all) m n at f same h answers =
        let R = Sound S known s looped m (Block i all) in
        let H : ℕ = statements_handlers all in
        good_as P S R R w'.declared [] (H + 0) H m n (made_statement tables names k numbers s (Block i all) m n)
        (good_bind P S (λ xs. w.AreSound P S xs looped known) w'.all_declared R w'.declared [] H 0 m n (made_statements tables names k numbers (in_block s) all) (λ xs. pure (e.Block xs))
        (statements S known (in_block s) looped g all m n (at_block tables names k numbers P st S known s at) f same h answers)
        (λ xs q i1 o1. good_pure P S R w'.declared (w'.all_declared xs) i1 o1 (e.Block xs) (q, stand_same S known s at) refl)) (λ l. l) (omega arith)
    statement S known s looped g (Let i fixed each) m n at f same h answers =
        let R = Sound S known s looped m (Let i fixed each) in
        let H : ℕ = declarations_handlers each in
        good_as P S R R w'.declared [] (H + 0) H m n (made_statement tables names k numbers s (Let i fixed each) m n)
        (good_bind P S (λ ds. w.AreDeclared P S known ds × Stand S (w.known_behind ds known) (record { place = all_declared tables names k s.place fixed each; spots = s.spots ++ spots_from m each })) declared_names R w'.declared [] H 0 m n
        (made_locals tables names k numbers s fixed each) (λ ds. pure (e.Let fixed ds)) (locals S known s fixed each m n at f h)
        (λ ds q i1 o1. good_pure P S R w'.declared (declared_names ds) i1 o1 (e.Let fixed ds) (q.0, q.1) refl)) (λ l. l) (omega arith)
    statement S known s looped g (IfOnly i test a) m n at f same h answers =
        let R = Sound S known s looped m (IfOnly i test a) in
        let (ht, ha, hb) = parts2 (bad s Free test) (statement_failure tables names k (inner s.place) a) (unless (is_boolean (ty s Free test)) Mismatch i) h in
        let J : ℕ = statement_handlers a in
        good_as P S R R w'.declared [] (handlers test + (J + 0)) (handlers test + J) m n (made_statement tables names k numbers s (IfOnly i test a) m n)
        (good_free P S (w.IsTest P S known) R w'.declared [] (handlers test) (J + 0) m n (mk s None test) (λ q. made_statement tables names k numbers (in_block s) a >=> λ x. pure (e.IfOnly q x))
        (as_test S known s test i (λ u q. tree S known s None test u at f.0 tt ht q tt) hb)
        (λ q tq o1. good_bind P S (Sound S known (in_block s) looped m a) w'.declared R w'.declared [] J 0 m o1 (made_statement tables names k numbers (in_block s) a) (λ x. pure (e.IfOnly q x))
        (statement S known (in_block s) looped g a m o1 (at_block tables names k numbers P st S known s at) f.1 same ha answers)
        (λ x xq i2 o2. good_pure P S R w'.declared (w'.declared x) i2 o2 (e.IfOnly q x) ((tq, xq.0), stand_same S known s at) refl))) (λ l. l) (omega arith)
    statement S known s looped g (IfElse i test a b) m n at f same h answers =
        let R = Sound S known s looped m (IfElse i test a b) in
        let (ht, ha, hb, ho) = parts3 (bad s Free test) (statement_failure tables names k (inner s.place) a) (statement_failure tables names k (inner s.place) b) (unless (is_boolean (ty s Free test)) Mismatch i) h in
        let J : ℕ = statement_handlers a in
        let L : ℕ = statement_handlers b in
        good_as P S R R w'.declared [] (handlers test + (J + (L + 0))) (handlers test + J + L) m n (made_statement tables names k numbers s (IfElse i test a b) m n)
        (good_free P S (w.IsTest P S known) R w'.declared [] (handlers test) (J + (L + 0)) m n (mk s None test) (λ q. made_statement tables names k numbers (in_block s) a >=> λ x. made_statement tables names k numbers (in_block s) b >=> λ y. pure (e.IfElse q x y))
        (as_test S known s test i (λ u q. tree S known s None test u at f.0 tt ht q tt) ho)
        (λ q tq o1. good_bind P S (Sound S known (in_block s) looped m a) w'.declared R w'.declared [] J (L + 0) m o1 (made_statement tables names k numbers (in_block s) a) (λ x. made_statement tables names k numbers (in_block s) b >=> λ y. pure (e.IfElse q x y))
        (statement S known (in_block s) looped g a m o1 (at_block tables names k numbers P st S known s at) f.1 same ha (answered_left S g (gives_value a) (gives_value b) answers))
        (λ x xq i2 o2. good_bind P S (Sound S known (in_block s) looped i2 b) w'.declared R w'.declared (w'.declared x) L 0 i2 o2 (made_statement tables names k numbers (in_block s) b) (λ y. pure (e.IfElse q x y))
        (statement S known (in_block s) looped g b i2 o2 (at_block tables names k numbers P st S known s at) f.2 same hb (answered_right S g (gives_value a) (gives_value b) answers))
        (λ y yq i3 o3. good_pure P S R w'.declared (w'.declared x ++ w'.declared y) i3 o3 (e.IfElse q x y) ((tq, xq.0, yq.0), stand_same S known s at) refl)))) (λ l. l) (omega arith)
    statement S known s looped g (While i test a) m n at f same h answers =
        let R = Sound S known s looped m (While i test a) in
        let (ht, ha, hb) = parts2 (bad s Free test) (statement_failure tables names k (inner s.place) a) (unless (is_boolean (ty s Free test)) Mismatch i) h in
        let J : ℕ = statement_handlers a in
        good_as P S R R w'.declared [] (handlers test + (J + 0)) (handlers test + J) m n (made_statement tables names k numbers s (While i test a) m n)
        (good_free P S (w.IsTest P S known) R w'.declared [] (handlers test) (J + 0) m n (mk s None test) (λ q. made_statement tables names k numbers (in_block s) a >=> λ x. pure (e.While q x))
        (as_test S known s test i (λ u q. tree S known s None test u at f.0 tt ht q tt) hb)
        (λ q tq o1. good_bind P S (Sound S known (in_block s) true m a) w'.declared R w'.declared [] J 0 m o1 (made_statement tables names k numbers (in_block s) a) (λ x. pure (e.While q x))
        (statement S known (in_block s) true g a m o1 (at_block tables names k numbers P st S known s at) f.1 same ha answers)
        (λ x xq i2 o2. good_pure P S R w'.declared (w'.declared x) i2 o2 (e.While q x) ((tq, xq.0), stand_same S known s at) refl))) (λ l. l) (omega arith)
    statement S known s looped g (DoWhile i a test) m n at f same h answers =
        let R = Sound S known s looped m (DoWhile i a test) in
        let (ha, ht, hb) = parts2 (statement_failure tables names k (inner s.place) a) (bad s Free test) (unless (is_boolean (ty s Free test)) Mismatch i) h in
        let J : ℕ = statement_handlers a in
        good_as P S R R w'.declared [] (J + (handlers test + 0)) (J + handlers test) m n (made_statement tables names k numbers s (DoWhile i a test) m n)
        (good_bind P S (Sound S known (in_block s) true m a) w'.declared R w'.declared [] J (handlers test + 0) m n (made_statement tables names k numbers (in_block s) a) (λ x. mk s None test >=> λ q. pure (e.DoWhile x q))
        (statement S known (in_block s) true g a m n (at_block tables names k numbers P st S known s at) f.0 same ha answers)
        (λ x xq i1 o1. good_free P S (w.IsTest P S known) R w'.declared (w'.declared x) (handlers test) 0 i1 o1 (mk s None test) (λ q. pure (e.DoWhile x q))
        (as_test S known s test i (λ u q. tree S known s None test u at f.1 tt ht q tt) hb)
        (λ q tq o2. good_pure P S R w'.declared (w'.declared x) i1 o2 (e.DoWhile x q) ((xq.0, tq), stand_same S known s at) refl))) (λ l. l) (omega arith)
    statement S known s looped g (For i one' test step a) m n at f same h answers =
        let R = Sound S known s looped m (For i one' test step a) in
        let s0 : Site = in_block s in
        let s1 : Site = first_site tables names k numbers m s0 one' in
        let A : Option Failure = first_failure tables names k (inner s.place) one' in
        let B : Option Failure = optional_failure tables names k s1.place test in
        let C : Option Failure = optional_failure tables names k s1.place step in
        let D : Option Failure = statement_failure tables names k (inner s1.place) a in
        let E : Option Failure = test_failure tables k s1.place test i in
        let h' : (A then B then C then D then E) ≡ None = subst (λ (p : NameScope). (A then optional_failure tables names k p test then optional_failure tables names k p step then statement_failure tables names k (inner p) a then test_failure tables k p test i) ≡ None) (first_place tables names k numbers P st m s0 one') h in
        let (hA, hB, hC, hD, hE) = parts4 A B C D E h' in
        let at0 : Stand S known s0 = at_block tables names k numbers P st S known s at in
        let F0 : ℕ = first_handlers one' in
        let T0 : ℕ = optional_handlers test in
        let U0 : ℕ = optional_handlers step in
        let J : ℕ = statement_handlers a in
        let same1 : s1.place.gives ≡ g = first_gives tables names k numbers P st m s0 one' ∙ same in
        good_as P S R R w'.declared [] (F0 + (T0 + (U0 + (J + 0)))) (F0 + T0 + U0 + J) m n (made_statement tables names k numbers s (For i one' test step a) m n)
        (good_bind P S (SoundFirst S known s0 m one') first_declared R w'.declared [] F0 (T0 + (U0 + (J + 0))) m n (made_opening tables names k numbers s0 one')
        (λ l. made_optional tables names k numbers s1 test >=> λ q. made_optional tables names k numbers s1 step >=> λ y. made_statement tables names k numbers (in_block s1) a >=> λ x. pure (e.For l q y x))
        (opening S known s0 one' m n at0 f.0 hA)
        (λ l lq i1 o1. let K : List ℕ = w.known_after_first l known in
        good_free P S (w.MayTest P S K) R w'.declared (first_declared l) T0 (U0 + (J + 0)) i1 o1 (made_optional tables names k numbers s1 test) (λ q. made_optional tables names k numbers s1 step >=> λ y. made_statement tables names k numbers (in_block s1) a >=> λ x. pure (e.For l q y x))
        (test_typed S K s1 test i lq.1 f.1 hB hE)
        (λ q tq o2. good_free P S (w.MayStep P S K) R w'.declared (first_declared l) U0 (J + 0) i1 o2 (made_optional tables names k numbers s1 step) (λ y. made_statement tables names k numbers (in_block s1) a >=> λ x. pure (e.For l q y x))
        (step_typed S K s1 step lq.1 f.2 hC)
        (λ y yq o3. good_bind P S (Sound S K (in_block s1) true i1 a) w'.declared R w'.declared (first_declared l) J 0 i1 o3 (made_statement tables names k numbers (in_block s1) a) (λ x. pure (e.For l q y x))
        (statement S K (in_block s1) true g a i1 o3 (at_block tables names k numbers P st S K s1 lq.1) f.3 same1 hD answers)
        (λ x xq i4 o4. good_pure P S R w'.declared (first_declared l ++ w'.declared x) i4 o4 (e.For l q y x) ((lq.0, tq, yq, xq.0), stand_same S known s at) refl))))) (λ l. l) (omega arith)
    statement S known s looped g (ForOf i fixed x list a) m n at f same h answers =
        let R = Sound S known s looped m (ForOf i fixed x list a) in
        let p1 : NameScope = looped_place s fixed x list in
        let (hl, ha, hd, ho) = parts3 (bad s Free list) (statement_failure tables names k (inner p1) a) (unless (not (is_dollar tables.names x)) UnknownName i) (unless (is_list (ty s Free list)) Mismatch i) h in
        let (v, q, av) = list_is tables names k numbers P st (ty s Free list) (unless_true (is_list (ty s Free list)) Mismatch i ho) in
        let pv : IsProper v = free_proper tables names k numbers P st S known s at list v q in
        let items_so : items_of (ty s Free list) ≡ Some (item v) = ap (λ (o : Option StaticType). items_of o) q ∙ ap (λ (y : Bool). let o : Option StaticType = if y then Some (item v) else None in o) av in
        let u : ValueType = value_type (unwrap_or (items_of (ty s Free list)) nothing) in
        let same_u : u ≡ value_type (item v) = noted_is (items_of (ty s Free list)) (item v) items_so in
        let s1 : Site = record { place = inner p1; spots = s.spots ++ Local m ∷ [] } in
        let J : ℕ = statement_handlers a in
        let G : ValueType → Type 0 = λ y. Built P S R w'.declared [] (handlers list + (J + 0)) m n
        ((mk s None list >=> λ l. a_local y (λ i. i) >=> λ i. a_local (t.ListOf y) (λ j. j) >=> λ j. a_local t.Number (λ j. j) >=> λ j. made_statement tables names k numbers s1 a >=> λ x. pure (e.ForOf fixed (Local i) l x)) m n) in
        let base : G (value_type (item v)) =
        good_free P S (Good S known (value_type v)) R w'.declared [] (handlers list) (J + 0) m n (mk s None list)
        (λ l. a_local (value_type (item v)) (λ i. i) >=> λ i. a_local (t.ListOf (value_type (item v))) (λ j. j) >=> λ j. a_local t.Number (λ j. j) >=> λ j. made_statement tables names k numbers s1 a >=> λ x. pure (e.ForOf fixed (Local i) l x))
        (tree S known s None list v at f.0 tt hl q tt)
        (λ l lq o1. good_local P S (value_type (item v)) (λ i. i) R w'.declared [] (J + 0) m o1
        (λ i. a_local (t.ListOf (value_type (item v))) (λ j. j) >=> λ j. a_local t.Number (λ j. j) >=> λ j. made_statement tables names k numbers s1 a >=> λ x. pure (e.ForOf fixed (Local i) l x))
        (λ e0 o2. good_local P S (t.ListOf (value_type (item v))) (λ j. j) R w'.declared (m ∷ []) (J + 0) (suc m) o2 (λ j. a_local t.Number (λ j. j) >=> λ j. made_statement tables names k numbers s1 a >=> λ x. pure (e.ForOf fixed (Local m) l x))
        (λ e1 o3. good_local P S t.Number (λ j. j) R w'.declared (m ∷ suc m ∷ []) (J + 0) (suc (suc m)) o3 (λ j. made_statement tables names k numbers s1 a >=> λ x. pure (e.ForOf fixed (Local m) l x))
        (λ e2 o4.
        let at1 : Stand S (m ∷ known) s1 = for_stand S known s fixed x list v m at items_so e0 pv in
        good_bind P S (Sound S (m ∷ known) s1 true (suc (suc (suc m))) a) w'.declared R w'.declared (m ∷ suc m ∷ suc (suc m) ∷ []) J 0 (suc (suc (suc m))) o4 (made_statement tables names k numbers s1 a) (λ x. pure (e.ForOf fixed (Local m) l x))
        (statement S (m ∷ known) s1 true g a (suc (suc (suc m))) o4 at1 f.1 same ha answers)
        (λ y yq i5 o5. good_pure P S R w'.declared (m ∷ suc m ∷ suc (suc m) ∷ w'.declared y) i5 o5 (e.ForOf fixed (Local m) l y)
        ((value_type (item v), lq.0, lq.1 ∙ array_type v av, e0, e1, e2, yq.0), stand_same S known s at) refl))))) in
        good_as P S R R w'.declared [] (handlers list + (J + 0)) (handlers list + J) m n (made_statement tables names k numbers s (ForOf i fixed x list a) m n) (subst G (sym same_u) base) (λ l. l) (omega arith)
    statement S known s looped g (Return i value) m n at f same h answers =
        let R = Sound S known s looped m (Return i value) in
        let H : ℕ = optional_handlers value in
        good_as P S R R w'.declared [] (H + 0) H m n (made_statement tables names k numbers s (Return i value) m n)
        (good_free P S (λ x. w.IsReturned P S known x (w.answer S)) R w'.declared [] H 0 m n (made_value tables names k numbers s s.place.gives value) (λ x. pure (e.Return x)) (value_typed S known s g value i at f same h answers)
        (λ x q o1. good_pure P S R w'.declared [] m o1 (e.Return x) (q, stand_same S known s at) refl)) (λ l. l) (omega arith)
    statement S known s looped g (Break i) m n at f same h answers = good_pure P S (Sound S known s looped m (Break i)) w'.declared [] m n e.Break (f, stand_same S known s at) refl
    statement S known s looped g (Continue i) m n at f same h answers = good_pure P S (Sound S known s looped m (Continue i)) w'.declared [] m n e.Continue (f, stand_same S known s at) refl
    statement S known s looped g (Plain i a) m n at f same h answers =
        let R = Sound S known s looped m (Plain i a) in
        good_as P S R R w'.declared [] (handlers a + 0) (handlers a) m n (made_statement tables names k numbers s (Plain i a) m n)
        (good_free P S (IsTyped P S known) R w'.declared [] (handlers a) 0 m n (mk s None a) (λ x. pure (e.Plain x)) (as_plain S known s a (λ u q. tree S known s None a u at f tt h q tt) h)
        (λ x q o1. good_pure P S R w'.declared [] m o1 (e.Plain x) (q, stand_same S known s at) refl)) (λ l. l) (omega arith)
    statement S known s looped g (Empty i) m n at f same h answers = good_pure P S (Sound S known s looped m (Empty i)) w'.declared [] m n e.Empty (tt, stand_same S known s at) refl

    pub statements : (S : Setting) (known : List ℕ) (s : Site) (looped : Bool) (g : Option StaticType) (all : Statements) (m n : ℕ) → Stand S known s → AreFormedIn looped all → s.place.gives ≡ g → statements_failure tables names k s.place all ≡ None
        → Answered S g (give_value all) → Built P S (λ xs. w.AreSound P S xs looped known) w'.all_declared [] (statements_handlers all) m n (made_statements tables names k numbers s all m n)
    statements S known s looped g done m n at f same h answers = good_pure P S (λ xs. w.AreSound P S xs looped known) w'.all_declared [] m n e.done tt refl
    statements S known s looped g (also a rest) m n at f same h answers =
        let R : TypedStatements → Type 0 = λ xs. w.AreSound P S xs looped known in
        let s1 : Site = behind_statement tables names k numbers m s a in
        let H : ℕ = statement_handlers a in
        let J : ℕ = statements_handlers rest in
        let ha = first (statement_failure tables names k s.place a) (statements_failure tables names k (after tables names k s.place a) rest) h in
        let hr = last (statement_failure tables names k s.place a) (statements_failure tables names k (after tables names k s.place a) rest) h in
        good_as P S R R w'.all_declared [] (H + (J + 0)) (H + J) m n (made_statements tables names k numbers s (also a rest) m n)
        (good_bind P S (Sound S known s looped m a) w'.declared R w'.all_declared [] H (J + 0) m n (made_statement tables names k numbers s a) (λ x. made_statements tables names k numbers s1 rest >=> λ xs. pure (e.also x xs))
        (statement S known s looped g a m n at f.0 same ha (answered_left S g (gives_value a) (give_value rest) answers))
        (λ x xq i1 o1. good_bind P S (λ xs. w.AreSound P S xs looped (w.known_after x known)) w'.all_declared R w'.all_declared (w'.declared x) J 0 i1 o1 (made_statements tables names k numbers s1 rest) (λ xs. pure (e.also x xs))
        (statements S (w.known_after x known) s1 looped g rest i1 o1 xq.1 f.1 (gives_after tables names k numbers P st s.place a ∙ same) hr (answered_right S g (gives_value a) (give_value rest) answers))
        (λ xs q i2 o2. good_pure P S R w'.all_declared (w'.declared x ++ w'.all_declared xs) i2 o2 (e.also x xs) (xq.0, q) refl))) (λ l. l) (omega arith)
