-- Parts of trees without a failure are well typed.
use Rattle.std.proofs.Common.{◌≡◌, ℕ, ℤ, suc, ◌+◌, refl, sym, ap, ◌∙◌, subst, Bool, true, false, ◌&&◌, ◌||◌, Option, Some, None, List, [], ◌∷◌, ◌++◌, inl, inr, arith, append_assoc}
use Rattle.std.specs.Prelude.{nat_lt, not, pos, if◌then◌else◌, unwrap_or}
use Rattle.sts_base.specs.declared.tables.Tables.{Tables}
use Rattle.sts_base.specs.declared.refused.Code.{Code}
use Rattle.sts_syntax.specs.Annotations.{Annotation}
use Rattle.sts_syntax.specs.declared.typed.Spot.{Spot}
use Rattle.sts_syntax.specs.declared.typed.Spot.TheVariants.{Local}
use Rattle.sts_syntax.specs.declared.typed.Callee.TheVariants as c
use Rattle.sts_syntax.specs.Types as t
use Rattle.sts_syntax.specs.Types.{ValueType}
use Rattle.sts_syntax.specs.TypedTrees as e
use Rattle.sts_syntax.specs.TypedTrees.{TypedTree, TypedTrees, TypedDeclaration, TypedProgram}
use Rattle.sts_syntax.specs.BoardTable as board
use Rattle.sts_syntax.specs.BoardTable.{BoardParameter, BoardAction, row_of, constant_named, call_named}
use Rattle.sts_syntax.specs.declared.board_calls.BoardCall.{BoardCall}
use Rattle.sts_syntax.specs.TypeRules.{entry, is_int32, Works, HasField, HasMethod, IsMember, GoesTo}
use Rattle.sts_syntax.specs.WellTyped.{Setting, IsTyped, IsTarget, IsHandler, AreGiven, parameters_of}
use Rattle.sts_syntax.specs.WellTyped as w
use Rattle.sts_syntax.specs.WellTypedPrograms.{declared_local}
use Rattle.sts_syntax.specs.Trees.{Tree, Num, Text, Truth, Null, This, Name, Unary, Binary, Both, Either, Choice, Set, Bump, Member, Item, Call, SuperCall, Make, Items, Handler, Trees, none, more, Statement, Block, Let, IfOnly, IfElse, While, DoWhile, For, ForOf, Return, Break, Continue, Plain, Empty, Statements, OptionalStatement, omitted, written, Declaration, Declare, Declarations, ended, next}
use Rattle.sts_scope.specs.declared.kinds.StaticType.{StaticType}
use Rattle.sts_scope.specs.declared.known.Known.{Known}
use Rattle.sts_scope.specs.declared.known.Found.{Found}
use Rattle.sts_scope.specs.declared.known.Found.TheVariants as found
use Rattle.sts_scope.specs.declared.known.Part.{Part}
use Rattle.sts_scope.specs.declared.known.Part.TheVariants as part
use Rattle.sts_scope.specs.declared.known.This.{This as Self}
use Rattle.sts_scope.specs.declared.known.This.TheVariants as this
use Rattle.sts_scope.specs.Kinds.{number, boolean, nothing, null, empty, object, array, array_of, most_brackets, item, same, is_array, class_of, takes_null, value_type, value_types}
use Rattle.sts_scope.specs.Failures.{Failure, ◌then◌, failure_at, own}
use Rattle.sts_scope.specs.Entries.{Naming}
use Rattle.sts_scope.specs.Places.{NameScope}
use Rattle.sts_scope.specs.Rules.{name_kind, kind_at, takes_at, maker_takes_of, part_of, part_kind, part_settable, operate, assign, comparable, below, is_equality, is_arithmetic, is_order, items_type, all_go, all_go_to, goes, serves, none_taken, is_nothing}
use Rattle.type_derive.specs.declared.roles.Role.{Role}
use Rattle.type_derive.specs.declared.roles.Role.TheVariants.{Free, Given, Served}
use Rattle.type_derive.specs.Typing.{◌>>=◌, Callee, callee, names_function, board_kind, space, constant_of, board_callee, named_callee, part_callee, super_method, made, called, fits, type_of, types_of, are_given, is_drawing, drawn, spelling, text_at}
use Rattle.type_derive.specs.Returns.{declared, all_declared, after, after_first}
use Rattle.type_derive.specs.Nodes.{why_named, failure, failures, is_list}
use Rattle.sts_scope.specs.Handlers.{handlers, handlers_of}
use Rattle.type_derive.specs.inner.Filling.{Making, pure, ◌>=>◌, a_local}
use Rattle.sts_scope.specs.Numbers.{Numbering, field_names, slot_names, place_among, routine_number}
use Rattle.type_derive.specs.Built.{Site, spots_from, board_target, frame_of}
use Rattle.type_derive.specs.inner.Filled.{amiss, in_handler_site, first_site, made_tree, made_given, made_asked, made_call, type_in, part_in, class_in, member_read, part_target, part_takes, routine_of, routine_takes, class_found, call_takes, drawing}
use Rattle.typed_laws.proofs.FormedParts.{IsFormed, AreFormed}
use Rattle.typed_laws.proofs.Stands.{IsProper, EachProper, Stands}
use Rattle.typed_laws.specs.Libraries.{taken}
use Rattle.typed_laws.proofs.OneNode.{both_true, either_true, if_gives, if_some, if_cases, same_types, works, array_type, class_type}
use Rattle.typed_laws.proofs.Typed.{typed, first, of_call, call_type as type_of_call}
use Rattle.typed_laws.proofs.Makings.{Gives, gives_pure, gives_bind, gives_as, good_free, good_as}
use Rattle.typed_laws.proofs.Makings.{Good as Built}
use Rattle.typed_laws.proofs.Names.{called_parts, bind_some, some_is, Real, HasPart, has_part, proper}
use Rattle.typed_laws.proofs.Sites.{seen, seen_proper, Suits, improper, IsEmptyOr, suits_given, given_goes, empty_is_not_below, nothing_below_empty, IsGood, At}
use Rattle.typed_laws.proofs.Boards.{are_plain, draw_nothing, serve_nothing, fit_action, gives_plain, takes_plain, action_fits, constant_int32, drawing_int32}
use Rattle.typed_laws.proofs.TreeFacts.{kind_is, and_first, empty_same, empty_takes_null, empty_null, empty_number, nothing_is, none_is, hidden_is}

module _ (tables : Tables) (names : Naming) (k : Known) (numbers : Numbering) (P : TypedProgram) (st : Stands tables k numbers P) where
  abbrev Good : Setting → List ℕ → ValueType → TypedTree → Type 0
  Good S known u x = IsGood tables names k numbers P st S known u x

  abbrev Stand : Setting → List ℕ → Site → Type 0
  Stand S known s = At tables names k numbers P st S known s

  abbrev mk : Site → Option StaticType → Tree → Making TypedTree
  mk s g a = made_tree tables names k numbers s g a

  abbrev ty : Site → Role → Tree → Option StaticType
  ty s r a = type_of tables k s.place r a

  abbrev bad : Site → Role → Tree → Option Failure
  bad s r a = failure tables names k s.place r a

  pub free_proper : (S : Setting) (known : List ℕ) (s : Site) → Stand S known s → (a : Tree) (u : StaticType) → ty s Free a ≡ Some u → IsProper u
  free_proper S known s at a u h = proper tables k st.kinds_proper s.place at.proper a u h

  -- A type that its place gives: of `[]`, or one that values have.
  pub given_proper : (S : Setting) (known : List ℕ) (s : Site) → Stand S known s → (a : Tree) (u : StaticType) → ty s Given a ≡ Some u → IsEmptyOr tables names k numbers P st u
  given_proper S known s at (Items i none) u h = inr (sym (some_is empty u h))
  given_proper S known s at (Items i (more a rest)) u h = inl (free_proper S known s at (Items i (more a rest)) u h)
  given_proper S known s at (Num i n) u h = inl (free_proper S known s at (Num i n) u h)
  given_proper S known s at (Text i n) u h = inl (free_proper S known s at (Text i n) u h)
  given_proper S known s at (Truth i x) u h = inl (free_proper S known s at (Truth i x) u h)
  given_proper S known s at (Null i) u h = inl (free_proper S known s at (Null i) u h)
  given_proper S known s at (This i) u h = inl (free_proper S known s at (This i) u h)
  given_proper S known s at (Name i x) u h = inl (free_proper S known s at (Name i x) u h)
  given_proper S known s at (Unary i op a) u h = inl (free_proper S known s at (Unary i op a) u h)
  given_proper S known s at (Binary i op a b) u h = inl (free_proper S known s at (Binary i op a b) u h)
  given_proper S known s at (Both i a b) u h = inl (free_proper S known s at (Both i a b) u h)
  given_proper S known s at (Either i a b) u h = inl (free_proper S known s at (Either i a b) u h)
  given_proper S known s at (Choice i q a b) u h = inl (free_proper S known s at (Choice i q a b) u h)
  given_proper S known s at (Set i op x a) u h = inl (free_proper S known s at (Set i op x a) u h)
  given_proper S known s at (Bump i x by late) u h = inl (free_proper S known s at (Bump i x by late) u h)
  given_proper S known s at (Member i a m) u h = inl (free_proper S known s at (Member i a m) u h)
  given_proper S known s at (Item i a j) u h = inl (free_proper S known s at (Item i a j) u h)
  given_proper S known s at (Call i f args) u h = inl (free_proper S known s at (Call i f args) u h)
  given_proper S known s at (SuperCall i None args) u h = cc
  given_proper S known s at (SuperCall i (Some m) args) u h = inl (free_proper S known s at (SuperCall i (Some m) args) u h)
  given_proper S known s at (Make i x args) u h = inl (free_proper S known s at (Make i x args) u h)
  given_proper S known s at (Handler i body) u h = cc

  -- what gives a good tree of a type gives it where its place may give one too
  pub seen_as : (S : Setting) (known : List ℕ) (g : Option StaticType) (u : StaticType) (h j : ℕ) (f : Making TypedTree) → IsProper u → Gives P (Good S known (value_type u)) h f → h ≡ j → Gives P (Good S known (value_type (seen g u))) j f
  seen_as S known g u h j f p gives same =
      gives_as P (Good S known (value_type u)) (Good S known (value_type (seen g u))) h j f gives (λ x q. (q.0, q.1 ∙ ap (λ (v : StaticType). value_type v) (sym (seen_proper g u p)))) same

  -- what one, two or three children give
  pub one : (S : Setting) (known : List ℕ) (Q : TypedTree → Type 0) (u : ValueType) (h : ℕ) (f : Making TypedTree) (make : TypedTree → TypedTree)
      → Gives P (Good S known u) h f → ((x : TypedTree) → Good S known u x → Q (make x)) → Gives P Q h (f >=> λ x. pure (make x))
  one S known Q u h f make gives q =
      gives_as P Q Q (h + 0) h (f >=> λ x. pure (make x)) (gives_bind P (Good S known u) Q h 0 f (λ x. pure (make x)) gives (λ x g. gives_pure P Q (make x) (q x g))) (λ x g. g) (omega arith)

  pub two : (S : Setting) (known : List ℕ) (Q : TypedTree → Type 0) (D E : TypedTree → Type 0) (h j : ℕ) (f g : Making TypedTree) (make : TypedTree → TypedTree → TypedTree)
      → Gives P D h f → Gives P E j g → ((x y : TypedTree) → D x → E y → Q (make x y)) → Gives P Q (h + j) (f >=> λ x. g >=> λ y. pure (make x y))
  two S known Q D E h j f g make gf gg q =
      gives_bind P D Q h j f (λ x. g >=> λ y. pure (make x y)) gf
      (λ x dx. gives_as P Q Q (j + 0) j (g >=> λ y. pure (make x y)) (gives_bind P E Q j 0 g (λ y. pure (make x y)) gg (λ y ey. gives_pure P Q (make x y) (q x y dx ey))) (λ y r. r) (omega arith))

  -- a space is a name, and stands for no value
  space_alone : (s : Site) (a : Tree) (sp : List ℕ) → space tables k s.place a ≡ Some sp → handlers a ≡ 0
  space_alone s (Name i x) sp h = refl
  space_alone s (Num i n) sp h = cc
  space_alone s (Text i n) sp h = cc
  space_alone s (Truth i x) sp h = cc
  space_alone s (Null i) sp h = cc
  space_alone s (This i) sp h = cc
  space_alone s (Unary i op a) sp h = cc
  space_alone s (Binary i op a b) sp h = cc
  space_alone s (Both i a b) sp h = cc
  space_alone s (Either i a b) sp h = cc
  space_alone s (Choice i q a b) sp h = cc
  space_alone s (Set i op x a) sp h = cc
  space_alone s (Bump i x by late) sp h = cc
  space_alone s (Member i a m) sp h = cc
  space_alone s (Item i a j) sp h = cc
  space_alone s (Items i items) sp h = cc
  space_alone s (Call i f args) sp h = cc
  space_alone s (SuperCall i m args) sp h = cc
  space_alone s (Make i x args) sp h = cc
  space_alone s (Handler i body) sp h = cc

  constant_is : (s : Site) (a : Tree) (m : ℕ) (z : ℤ) → constant_of tables k s.place a m ≡ Some z → (sp : List ℕ) × (space tables k s.place a ≡ Some sp) × (is_int32 z ≡ true)
  constant_is s a m z h =
      let (sp, q, h1) = bind_some (space tables k s.place a) (λ (x : List ℕ). constant_named x (spelling tables m)) z h in
      (sp, q, constant_int32 sp (spelling tables m) z h1)

  -- a member that is read
  read_good : (S : Setting) (known : List ℕ) (v u : StaticType) (m : ℕ) (x : TypedTree) (f : Part) → Good S known (value_type v) x → HasPart k v m f → part_kind k f ≡ Some u
      → Good S known (value_type u) (member_read tables names k numbers (value_type u) f (unwrap_or (class_of v) 0) m x)
  read_good S known v u m x (part.Field d) g has h =
      let (i, q, r) = has in
      let class : unwrap_or (class_of v) 0 ≡ i = ap (λ (o : Option ℕ). unwrap_or o 0) q in
      let field : HasField P i (place_among (field_names k i) m) (value_type u) = st.fields i m d u r h in
      let field' : HasField P i (place_among (field_names k (unwrap_or (class_of v) 0)) m) (value_type u) =
      subst (λ (j : ℕ). HasField P i (place_among (field_names k j) m) (value_type u)) (sym class) field in
      ((g.0, i, g.1 ∙ class_type v i q, field'), refl)
  read_good S known v u m x part.Length g has h =
      let q : number ≡ u = some_is number u h in
      ((g.0, value_type (item v), g.1 ∙ array_type v has, ap (λ (y : StaticType). value_type y) (sym q)), refl)
  read_good S known v u m x (part.Method d) g has h = cc
  read_good S known v u m x (part.Push y) g has h = cc
  read_good S known v u m x (part.Pop y) g has h = cc
  read_good S known v u m x part.Missing g has h = cc

  -- a member of what is of the type v, where its tree has the type that is noted
  read_made : (S : Setting) (known : List ℕ) (s : Site) (a : Tree) (m h : ℕ) (v u : StaticType) (n : ValueType) (Q : TypedTree → Type 0) → Gives P (Good S known (value_type v)) h (mk s None a) → ty s Free a ≡ Some v → n ≡ value_type u
      → ((x : TypedTree) → Good S known (value_type v) x → Q (member_read tables names k numbers (value_type u) (part_of tables.names k v m) (unwrap_or (class_of v) 0) m x))
      → Gives P Q h (mk s None a >=> λ x. pure (member_read tables names k numbers n (part_in tables names k numbers s a m) (class_in tables names k numbers s a) m x))
  read_made S known s a m h v u n Q gives q same good =
      let kind : type_in tables names k numbers s a ≡ v = kind_is (ty s Free a) v q in
      let G : StaticType → ValueType → Type 0 = λ y l. Gives P Q h (mk s None a >=> λ x. pure (member_read tables names k numbers l (part_of tables.names k y m) (unwrap_or (class_of y) 0) m x)) in
      let base : G v (value_type u) = one S known Q (value_type v) h (mk s None a) (λ x. member_read tables names k numbers (value_type u) (part_of tables.names k v m) (unwrap_or (class_of v) 0) m x) gives good in
      subst (λ (y : StaticType). G y n) (sym kind) (subst (λ (l : ValueType). G v l) (sym same) base)

  -- calls
  pub function_call : (S : Setting) (known : List ℕ) (s : Site) (args : Trees) (f : Found) (d : Callee) (u : StaticType) (n : ValueType) → Real k s.place f → named_callee k f ≡ Some d → d.gives ≡ Some u → n ≡ value_type u
      → Gives P (AreGiven P S known (parameters_of (value_types d.takes))) (handlers_of args) (made_given tables names k numbers s d.takes args)
      → Gives P (Good S known (value_type u)) (handlers_of args) (made_given tables names k numbers s (routine_takes tables names k numbers f) args >=> λ xs. pure (e.Call n (c.Function (routine_of tables names k numbers f)) xs))
  function_call S known s args (found.Function i) d u n r q g same gives =
      let is : callee (takes_at k.entries i) (kind_at k i) ≡ d = some_is _ d q in
      let known_kind : kind_at k i ≡ Some u = ap (λ (x : Callee). x.gives) is ∙ g in
      let (body, has, params, result) = st.functions i u r known_kind in
      let G : Callee → Type 0 = λ x. Gives P (AreGiven P S known (parameters_of (value_types x.takes))) (handlers_of args) (made_given tables names k numbers s x.takes args) in
      let gives' : G (callee (takes_at k.entries i) (kind_at k i)) = subst G (sym is) gives in
      let Q : TypedTree → Type 0 = Good S known (value_type u) in
      gives_as P Q Q (handlers_of args + 0) (handlers_of args) (made_given tables names k numbers s (takes_at k.entries i) args >=> λ xs. pure (e.Call n (c.Function (routine_number numbers i)) xs))
      (gives_bind P (AreGiven P S known (parameters_of (value_types (takes_at k.entries i)))) Q (handlers_of args) 0 (made_given tables names k numbers s (takes_at k.entries i) args) (λ xs. pure (e.Call n (c.Function (routine_number numbers i)) xs)) gives'
      (λ xs q. gives_pure P Q (e.Call n (c.Function (routine_number numbers i)) xs)
      ((body, has, subst (λ (us : List ValueType). AreGiven P S known (parameters_of us) xs) (sym params) q, same ∙ sym result), same)))
      (λ x q. q) (omega arith)
  function_call S known s args (found.Local i) d u n r q g same gives = cc
  function_call S known s args (found.Global i) d u n r q g same gives = cc
  function_call S known s args (found.Class i) d u n r q g same gives = cc
  function_call S known s args found.Captured d u n r q g same gives = cc
  function_call S known s args found.Unknown d u n r q g same gives = cc

  pushed : (S : Setting) (known : List ℕ) (n : ValueType) (x : TypedTree) (xs : TypedTrees) (y : ValueType) → IsTyped P S known x → w.type_of x ≡ t.ListOf y → AreGiven P S known (board.Of y ∷ []) xs → n ≡ t.Nothing
      → IsTyped P S known (e.Call n c.Push (e.more x xs))
  pushed S known n x e.none y p q g same = absurd g
  pushed S known n x (e.more z e.none) y p q g same = (p, g.0, y, q, g.1, same)
  pushed S known n x (e.more z (e.more z' zs)) y p q g same = absurd g.2

  popped : (S : Setting) (known : List ℕ) (n : ValueType) (x : TypedTree) (xs : TypedTrees) → IsTyped P S known x → w.type_of x ≡ t.ListOf n → AreGiven P S known [] xs → IsTyped P S known (e.Call n c.Pop (e.more x xs))
  popped S known n x e.none p q g = (p, q)
  popped S known n x (e.more z zs) p q g = absurd g

  -- what a method call is, with its arguments
  sent_good : (S : Setting) (known : List ℕ) (v u : StaticType) (m : ℕ) (n : ValueType) (x : TypedTree) (xs : TypedTrees) (f : Part) (d : Callee) → Good S known (value_type v) x → HasPart k v m f → part_callee k f ≡ Some d
      → d.gives ≡ Some u → n ≡ value_type u → AreGiven P S known (parameters_of (value_types d.takes)) xs
      → Good S known (value_type u) (e.Call n (part_target tables names k numbers f (unwrap_or (class_of v) 0) m) (e.more x xs))
  sent_good S known v u m n x xs (part.Method i) d g has q r same given =
      let is : callee (takes_at k.entries i) (kind_at k i) ≡ d = some_is _ d q in
      let result : kind_at k i ≡ Some u = ap (λ (y : Callee). y.gives) is ∙ r in
      let (o, at, found) = has in
      let class : unwrap_or (class_of v) 0 ≡ o = ap (λ (y : Option ℕ). unwrap_or y 0) at in
      let method : HasMethod P o (place_among (slot_names k o) m) (value_types (takes_at k.entries i)) (value_type u) = st.methods o m i u found result in
      let method' : HasMethod P o (place_among (slot_names k (unwrap_or (class_of v) 0)) m) (value_types (takes_at k.entries i)) n =
      subst (λ (y : ValueType). HasMethod P o (place_among (slot_names k (unwrap_or (class_of v) 0)) m) (value_types (takes_at k.entries i)) y) (sym same)
      (subst (λ (j : ℕ). HasMethod P o (place_among (slot_names k j) m) (value_types (takes_at k.entries i)) (value_type u)) (sym class) method) in
      let given' : AreGiven P S known (parameters_of (value_types (takes_at k.entries i))) xs = subst (λ (y : Callee). AreGiven P S known (parameters_of (value_types y.takes)) xs) (sym is) given in
      ((o, value_types (takes_at k.entries i), g.0, g.1 ∙ class_type v o at, method', given'), same)
  sent_good S known v u m n x xs (part.Push y) d g has q r same given =
      let is : callee (y ∷ []) (Some nothing) ≡ d = some_is _ d q in
      let result : nothing ≡ u = some_is nothing u (ap (λ (z : Callee). z.gives) is ∙ r) in
      let given' : AreGiven P S known (board.Of (value_type y) ∷ []) xs = subst (λ (z : Callee). AreGiven P S known (parameters_of (value_types z.takes)) xs) (sym is) given in
      let kind : w.type_of x ≡ t.ListOf (value_type y) = g.1 ∙ array_type v has.0 ∙ ap (λ (z : StaticType). t.ListOf (value_type z)) (sym has.1) in
      (pushed S known n x xs (value_type y) g.0 kind given' (same ∙ ap (λ (z : StaticType). value_type z) (sym result)), same)
  sent_good S known v u m n x xs (part.Pop y) d g has q r same given =
      let is : callee [] (Some y) ≡ d = some_is _ d q in
      let result : y ≡ u = some_is y u (ap (λ (z : Callee). z.gives) is ∙ r) in
      let given' : AreGiven P S known [] xs = subst (λ (z : Callee). AreGiven P S known (parameters_of (value_types z.takes)) xs) (sym is) given in
      let kind : w.type_of x ≡ t.ListOf n = g.1 ∙ array_type v has.0 ∙ ap (λ (z : StaticType). t.ListOf (value_type z)) (sym has.1 ∙ result) ∙ ap t.ListOf (sym same) in
      (popped S known n x xs g.0 kind given', same)
  sent_good S known v u m n x xs (part.Field i) d g has q r same given = cc
  sent_good S known v u m n x xs part.Length d g has q r same given = cc
  sent_good S known v u m n x xs part.Missing d g has q r same given = cc

  not_comparable : (v : StaticType) → IsProper v → comparable k.classes v empty ≡ true → ⊥
  unfolding comparable
  not_comparable v p h =
      let A : Bool = same v empty && not (same v nothing) in
      let B : Bool = same v null && takes_null empty in
      let C : Bool = same empty null && takes_null v in
      elim (either_true (A || below k.classes v empty || below k.classes empty v || B) C h) [
        | inl h ↦ elim (either_true (A || below k.classes v empty || below k.classes empty v) B h) [
          | inl h ↦ elim (either_true (A || below k.classes v empty) (below k.classes empty v) h) [
            | inl h ↦ elim (either_true A (below k.classes v empty) h) [ inl q ↦ and_first (same v empty) (not (same v nothing)) q (empty_same v p) | inr q ↦ nothing_below_empty k.classes P v q ]
            | inr q ↦ empty_is_not_below k.classes P v q
          ]
          | inr q ↦ empty_takes_null (both_true (same v null) (takes_null empty) q).1
        ]
        | inr q ↦ empty_null (both_true (same empty null) (takes_null v) q).0
      ]

  not_operated : (op : ℕ) (v u : StaticType) → IsProper v → operate k.classes op v empty ≡ Some u → ⊥
  unfolding operate
  not_operated op v u p h = elim (if_cases (is_equality op) (if comparable k.classes v empty then Some boolean else None) (if same v number && same empty number then (if is_arithmetic op then Some number else if is_order op then Some boolean else None) else None) u h) [
    | inl (holds, q) ↦ not_comparable v p (if_some (comparable k.classes v empty) boolean u q).0
    | inr (fails, q) ↦ elim (if_cases (same v number && same empty number) (if is_arithmetic op then Some number else if is_order op then Some boolean else None) None u q) [
      | inl (holds, r) ↦ empty_number (both_true (same v number) (same empty number) holds).1
      | inr (fails, r) ↦ (let z : None ≡ Some u = r in cc)
    ]
  ]

  -- an assignment
  set_operated : (S : Setting) (known : List ℕ) (op : ℕ) (v r u : StaticType) (n : ValueType) (x y : TypedTree) (o : Option StaticType) → IsTarget P S known x → w.type_of x ≡ value_type v → IsEmptyOr tables names k numbers P st r → IsProper v
      → Good S known (value_type (seen (Some v) r)) y → operate k.classes op v r ≡ o → elim o [ None ↦ None | Some z ↦ if same z v then Some v else None ] ≡ Some u → n ≡ value_type u → Good S known (value_type u) (e.Set n (Some op) x y)
  set_operated S known op v r u n x y None a q i p g m h same_n = cc
  set_operated S known op v r u n x y (Some z) a q (inr i) p g m h same_n = absurd (not_operated op v z p (subst (λ (s : StaticType). operate k.classes op v s ≡ Some z) i m))
  set_operated S known op v r u n x y (Some z) a q (inl i) p g m h same_n =
      let (zv, vu) = if_some (same z v) v u h in
      let works_so : Works P op (value_type v) (value_type r) (value_type z) = works k.classes P st.bases op v r z p m in
      let kind_y : w.type_of y ≡ value_type r = g.1 ∙ ap (λ (s : StaticType). value_type s) (seen_proper (Some v) r i) in
      let kind_n : n ≡ value_type v = same_n ∙ ap (λ (s : StaticType). value_type s) (sym vu) in
      let works_y : Works P op (value_type v) (w.type_of y) (value_type z) = subst (λ (s : ValueType). Works P op (value_type v) s (value_type z)) (sym kind_y) works_so in
      let works_z : Works P op (value_type v) (w.type_of y) n = subst (λ (s : ValueType). Works P op (value_type v) (w.type_of y) s) (same_types z v zv ∙ sym kind_n) works_y in
      let works_n : Works P op n (w.type_of y) n = subst (λ (s : ValueType). Works P op s (w.type_of y) n) (sym kind_n) works_z in
      ((a, g.0, kind_n ∙ sym q, works_n), same_n)

  pub set_good : (S : Setting) (known : List ℕ) (op : Option ℕ) (v r u : StaticType) (n : ValueType) (x y : TypedTree) → IsTarget P S known x → w.type_of x ≡ value_type v → IsEmptyOr tables names k numbers P st r → IsProper v
      → Good S known (value_type (seen (Some v) r)) y → assign k.classes op v r ≡ Some u → n ≡ value_type u → Good S known (value_type u) (e.Set n op x y)
  unfolding assign
  set_good S known None v r u n x y a q i p g h same_n =
      let (goes_so, vu) = if_some (goes k.classes r v) v u h in
      let kind_n : n ≡ value_type v = same_n ∙ ap (λ (s : StaticType). value_type s) (sym vu) in
      let go : GoesTo P (value_type (seen (Some v) r)) (value_type v) = given_goes tables names k numbers P st r v goes_so in
      let go_y : GoesTo P (w.type_of y) (value_type v) = subst (λ (s : ValueType). GoesTo P s (value_type v)) (sym g.1) go in
      let go_n : GoesTo P (w.type_of y) n = subst (λ (s : ValueType). GoesTo P (w.type_of y) s) (sym kind_n) go_y in
      ((a, g.0, kind_n ∙ sym q, go_n), same_n)
  set_good S known (Some op) v r u n x y a q i p g h same_n = set_operated S known op v r u n x y (operate k.classes op v r) a q i p g refl h same_n

  assign_operated : (op : ℕ) (v r u : StaticType) (o : Option StaticType) → r ≡ empty → IsProper v → operate k.classes op v r ≡ o → elim o [ None ↦ None | Some z ↦ if same z v then Some v else None ] ≡ Some u → Suits (Some v) r
  assign_operated op v r u None i p q h = cc
  assign_operated op v r u (Some z) i p q h = absurd (not_operated op v z p (subst (λ (s : StaticType). operate k.classes op v s ≡ Some z) i q))

  pub assign_suits : (op : Option ℕ) (v r u : StaticType) → IsEmptyOr tables names k numbers P st r → IsProper v → assign k.classes op v r ≡ Some u → Suits (Some v) r
  unfolding assign
  assign_suits None v r u i p h = suits_given tables names k numbers P st r v i p (if_some (goes k.classes r v) v u h).0
  assign_suits (Some op) v r u (inl i) p h = λ q. absurd (improper r q i)
  assign_suits (Some op) v r u (inr i) p h = assign_operated op v r u (operate k.classes op v r) i p refl h

  -- `super.m(..)`, `new`
  super_this : (self : Self) (m d : ℕ) → super_method k self m ≡ Some d → (i : ℕ) × (self ≡ this.Object i) × (super_method k (this.Object i) m ≡ Some d)
  super_this (this.Object i) m d h = (i, refl, h)
  super_this (this.Hidden i) m d h = cc
  super_this this.Nowhere m d h = cc

  super_good : (S : Setting) (known : List ℕ) (s : Site) (m d : ℕ) (u : StaticType) (n : ValueType) (xs : TypedTrees) → Stand S known s → super_method k s.place.this m ≡ Some d → kind_at k d ≡ Some u → n ≡ value_type u
      → AreGiven P S known (parameters_of (value_types (takes_at k.entries d))) xs → Good S known (value_type u) (e.SuperCall n (routine_number numbers d) xs)
  super_good S known s m d u n xs at q h same_n given =
      let (i, self, r) = super_this s.place.this m d q in
      let (class, base, slot, above, has, based, has_above, stands, member) = st.supers i m d u r h in
      let member_n : IsMember P base (routine_number numbers d) (value_types (takes_at k.entries d)) n =
      subst (λ (y : ValueType). IsMember P base (routine_number numbers d) (value_types (takes_at k.entries d)) y) (sym same_n) member in
      ((value_types (takes_at k.entries d), (i, class, base, slot, above, at.this i self, has, based, has_above, stands, member_n), given), same_n)

  pub make_good : (S : Setting) (known : List ℕ) (s : Site) (f : Found) (d : Callee) (u : StaticType) (xs : TypedTrees) → Real k s.place f → made k f ≡ Some d → d.gives ≡ Some u
      → AreGiven P S known (parameters_of (value_types d.takes)) xs → Good S known (value_type u) (e.Make (t.Object (class_found tables names k numbers f)) (class_found tables names k numbers f) xs)
  make_good S known s (found.Class i) d u xs r q h given =
      let is : callee (maker_takes_of k.classes i) (Some (object i)) ≡ d = some_is _ d q in
      let kind : object i ≡ u = some_is (object i) u (ap (λ (y : Callee). y.gives) is ∙ h) in
      let (class, has, member) = st.makers r.0 i r.1 in
      let given_i : AreGiven P S known (parameters_of (value_types (maker_takes_of k.classes i))) xs = subst (λ (y : Callee). AreGiven P S known (parameters_of (value_types y.takes)) xs) (sym is) given in
      ((class, value_types (maker_takes_of k.classes i), has, member, given_i, refl), ap (λ (y : StaticType). value_type y) kind)
  make_good S known s (found.Local i) d u xs r q h given = cc
  make_good S known s (found.Global i) d u xs r q h given = cc
  make_good S known s (found.Function i) d u xs r q h given = cc
  make_good S known s found.Captured d u xs r q h given = cc
  make_good S known s found.Unknown d u xs r q h given = cc

  pub make_takes : (s : Site) (f : Found) (d : Callee) → made k f ≡ Some d → maker_takes_of k.classes (class_found tables names k numbers f) ≡ d.takes
  make_takes s (found.Class i) d q = ap (λ (y : Callee). y.takes) (some_is _ d q)
  make_takes s (found.Local i) d q = cc
  make_takes s (found.Global i) d q = cc
  make_takes s (found.Function i) d q = cc
  make_takes s found.Captured d q = cc
  make_takes s found.Unknown d q = cc

  -- what callees take is of types that values have
  pub takes_of_found : (f : Found) (d : Callee) → named_callee k f ≡ Some d → EachProper d.takes
  takes_of_found (found.Function i) d q = subst (λ (y : Callee). EachProper y.takes) (some_is _ d q) (st.takes_proper i)
  takes_of_found (found.Local i) d q = cc
  takes_of_found (found.Global i) d q = cc
  takes_of_found (found.Class i) d q = cc
  takes_of_found found.Captured d q = cc
  takes_of_found found.Unknown d q = cc

  pub takes_of_part : (v : StaticType) (m : ℕ) (f : Part) (d : Callee) → IsProper v → HasPart k v m f → part_callee k f ≡ Some d → EachProper d.takes
  takes_of_part v m (part.Method i) d p has q = subst (λ (y : Callee). EachProper y.takes) (some_is _ d q) (st.takes_proper i)
  takes_of_part v m (part.Push y) d p has q = subst (λ (z : Callee). EachProper z.takes) (some_is _ d q) (subst IsProper (sym has.1) p, tt)
  takes_of_part v m (part.Pop y) d p has q = subst (λ (z : Callee). EachProper z.takes) (some_is _ d q) tt
  takes_of_part v m (part.Field i) d p has q = cc
  takes_of_part v m part.Length d p has q = cc
  takes_of_part v m part.Missing d p has q = cc

  pub takes_of_made : (f : Found) (d : Callee) → made k f ≡ Some d → EachProper d.takes
  takes_of_made (found.Class i) d q = subst (λ (y : Callee). EachProper y.takes) (some_is _ d q) (st.makers_proper i)
  takes_of_made (found.Local i) d q = cc
  takes_of_made (found.Global i) d q = cc
  takes_of_made (found.Function i) d q = cc
  takes_of_made found.Captured d q = cc
  takes_of_made found.Unknown d q = cc

  part_takes_are : (f : Part) (d : Callee) → part_callee k f ≡ Some d → part_takes tables names k numbers f ≡ d.takes
  part_takes_are (part.Method i) d q = ap (λ (y : Callee). y.takes) (some_is _ d q)
  part_takes_are (part.Push y) d q = ap (λ (z : Callee). z.takes) (some_is _ d q)
  part_takes_are (part.Pop y) d q = ap (λ (z : Callee). z.takes) (some_is _ d q)
  part_takes_are (part.Field i) d q = cc
  part_takes_are part.Length d q = cc
  part_takes_are part.Missing d q = cc

  pub go_parts : (s v : StaticType) (ss vs : List StaticType) → all_go k.classes (s ∷ ss) (v ∷ vs) ≡ true → (goes k.classes s v ≡ true) × (all_go k.classes ss vs ≡ true)
  unfolding all_go
  go_parts s v ss vs h = both_true (goes k.classes s v) (all_go k.classes ss vs) h

  pub go_none : (v : StaticType) (vs : List StaticType) → all_go k.classes [] (v ∷ vs) ≡ true → ⊥
  unfolding all_go
  go_none v vs h = cc

  pub go_more : (s : StaticType) (ss : List StaticType) → all_go k.classes (s ∷ ss) [] ≡ true → ⊥
  unfolding all_go
  go_more s ss h = cc

  pub go_to_parts : (v s : StaticType) (ss : List StaticType) → all_go_to k.classes v (s ∷ ss) ≡ true → (goes k.classes s v ≡ true) × (all_go_to k.classes v ss ≡ true)
  unfolding all_go_to
  go_to_parts v s ss h = both_true (goes k.classes s v) (all_go_to k.classes v ss) h

  pub items_parts : (v u : StaticType) (us : List StaticType) → items_type k.classes v us ≡ Some u → (all_go_to k.classes v us ≡ true) × (array v ≡ u)
  unfolding items_type
  items_parts v u us h = let (e, f) = if_gives (all_go_to k.classes v us) (array_of v) u h in (e, (if_some (nat_lt v.depth most_brackets) (array v) u f).1)

  -- arguments of calls of the board: a drawing is a number
  abbrev pub Asked : Setting → List ℕ → List BoardParameter → TypedTrees → Type 0
  Asked S known [] e.none = Unit {0}
  Asked S known (board.Of u ∷ ps) (e.more a rest) = IsTyped P S known a × GoesTo P (w.type_of a) u × Asked S known ps rest
  Asked S known (board.Handler ∷ ps) (e.more a rest) = IsHandler P a × Asked S known ps rest
  Asked S known (board.Drawing ∷ ps) (e.more a rest) = Good S known t.Number a × Asked S known ps rest
  Asked S known ps args = ⊥

  asked_service : (S : Setting) (known : List ℕ) (ps : List BoardParameter) (xs : TypedTrees) → draw_nothing ps ≡ true → Asked S known ps xs → AreGiven P S known ps xs
  asked_service S known [] e.none d h = tt
  asked_service S known [] (e.more a rest) d h = absurd h
  asked_service S known (board.Of u ∷ ps) (e.more a rest) d h = (h.0, h.1, asked_service S known ps rest d h.2)
  asked_service S known (board.Handler ∷ ps) (e.more a rest) d h = (h.0, asked_service S known ps rest d h.1)
  asked_service S known (board.Drawing ∷ ps) (e.more a rest) d h = cc
  asked_service S known (board.Of u ∷ ps) e.none d h = absurd h
  asked_service S known (board.Handler ∷ ps) e.none d h = absurd h
  asked_service S known (board.Drawing ∷ ps) e.none d h = absurd h

  asked_library : (S : Setting) (known : List ℕ) (ps : List BoardParameter) (xs : TypedTrees) → serve_nothing ps ≡ true → Asked S known ps xs → AreGiven P S known (parameters_of (taken ps)) xs
  asked_library S known [] e.none d h = tt
  asked_library S known [] (e.more a rest) d h = absurd h
  asked_library S known (board.Of u ∷ ps) (e.more a rest) d h = (h.0, h.1, asked_library S known ps rest d h.2)
  asked_library S known (board.Drawing ∷ ps) (e.more a rest) d h = (h.0.0, inl h.0.1, asked_library S known ps rest d h.1)
  asked_library S known (board.Handler ∷ ps) (e.more a rest) d h = cc
  asked_library S known (board.Of u ∷ ps) e.none d h = absurd h
  asked_library S known (board.Handler ∷ ps) e.none d h = absurd h
  asked_library S known (board.Drawing ∷ ps) e.none d h = absurd h

  board_good : (S : Setting) (known : List ℕ) (call : BoardCall) (action : BoardAction) (n : ValueType) (xs : TypedTrees) → (row_of call).action ≡ action → fit_action action (row_of call).takes ≡ true → n ≡ (row_of call).gives
      → Asked S known (row_of call).takes xs → IsTyped P S known (e.Call n (board_target call action) xs)
  board_good S known call (board.Service service places) n xs q f same_n asked = (asked_service S known (row_of call).takes xs f asked, same_n, subst (λ (a : BoardAction). w.IsAsked a) (sym q) tt)
  board_good S known call board.Repeats n xs q f same_n asked = (asked_service S known (row_of call).takes xs f asked, same_n, subst (λ (a : BoardAction). w.IsAsked a) (sym q) tt)
  board_good S known call (board.Library function) n xs q f same_n asked =
      let (r, has, params, gives) = st.library call function q in
      (r, has, subst (λ (us : List ValueType). AreGiven P S known (parameters_of us) xs) (sym params) (asked_library S known (row_of call).takes xs f asked), same_n ∙ sym gives)

  -- the constant of a name behind a space
  constant_handlers : (s : Site) (a : Tree) (m : ℕ) (z : ℤ) → constant_of tables k s.place a m ≡ Some z → 0 ≡ handlers a
  constant_handlers s a m z h = let (sp, q, r) = constant_is s a m z h in sym (space_alone s a sp q)

  abbrev pub call_failure : Site → ℕ → Tree → Trees → Option BoardCall → Option Failure
  call_failure s i f args b = of_call tables names k s.place i f args b

  abbrev pub call_type : Site → Tree → Trees → Option BoardCall → Option StaticType
  call_type s f args b = type_of_call tables names k s.place f args b

  abbrev pub call_made : Site → ValueType → Tree → Trees → Option BoardCall → Making TypedTree
  call_made s n f args (Some call) = made_asked tables names k numbers s (row_of call).takes args >=> λ xs. pure (e.Call n (board_target call (row_of call).action) xs)
  call_made s n f args None = made_call tables names k numbers s n f (made_given tables names k numbers s (call_takes tables names k numbers s f) args)

  -- a space before a called member is a name
  board_handlers : (s : Site) (f : Tree) (call : BoardCall) → board_callee tables k s.place f ≡ Some call → 0 ≡ handlers f
  board_handlers s (Member i a m) call h = let (sp, q, r) = bind_some (space tables k s.place a) (λ (x : List ℕ). call_named x (spelling tables m)) call h in sym (space_alone s a sp q)
  board_handlers s (Name i x) call h = refl
  board_handlers s (Num i n) call h = cc
  board_handlers s (Text i n) call h = cc
  board_handlers s (Truth i x) call h = cc
  board_handlers s (Null i) call h = cc
  board_handlers s (This i) call h = cc
  board_handlers s (Unary i op a) call h = cc
  board_handlers s (Binary i op a b) call h = cc
  board_handlers s (Both i a b) call h = cc
  board_handlers s (Either i a b) call h = cc
  board_handlers s (Choice i q a b) call h = cc
  board_handlers s (Set i op x a) call h = cc
  board_handlers s (Bump i x by late) call h = cc
  board_handlers s (Item i a j) call h = cc
  board_handlers s (Items i items) call h = cc
  board_handlers s (Call i f args) call h = cc
  board_handlers s (SuperCall i m args) call h = cc
  board_handlers s (Make i x args) call h = cc
  board_handlers s (Handler i body) call h = cc

  -- a function's name that serves
  pub plain_serves : (f : Found) (s : Site) → Real k s.place f → serves k f ≡ true → IsHandler P (e.Handler t.Nothing (routine_of tables names k numbers f))
  unfolding serves
  plain_serves (found.Function d) s r h =
      let (taken_none, gives_nothing) = both_true (none_taken (takes_at k.entries d)) (is_nothing (kind_at k d)) h in
      let (u, q, z) = nothing_is (kind_at k d) gives_nothing in
      let (body, has, params, gives) = st.functions d u r q in
      (body, has, params ∙ ap (λ (us : List StaticType). value_types us) (none_is (takes_at k.entries d) taken_none), gives ∙ z)
  plain_serves (found.Local i) s r h = cc
  plain_serves (found.Global i) s r h = cc
  plain_serves (found.Class i) s r h = cc
  plain_serves found.Captured s r h = cc
  plain_serves found.Unknown s r h = cc

  -- where a handler is wanted and it has no failure
  pub serves_true : (b : Bool) (code : Code) (at : ℕ) → (if b then None else failure_at code at) ≡ None → b ≡ true
  serves_true true code at h = refl
  serves_true false code at h = cc

  pub served_so : (p : NameScope) (f : Found) (at : ℕ) → names_function f ≡ true → (if serves k f then None else own (name_kind k p f) (why_named k Served f) at) ≡ None → serves k f ≡ true
  served_so p (found.Function d) at h bad = serves_true (serves k (found.Function d)) (why_named k Served (found.Function d)) at bad
  served_so p (found.Local i) at h bad = cc
  served_so p (found.Global i) at h bad = cc
  served_so p (found.Class i) at h bad = cc
  served_so p found.Captured at h bad = cc
  served_so p found.Unknown at h bad = cc

  pub given_to_is : (o : Option StaticType) (u : ValueType) → fits k o (Some (board_kind u)) ≡ true → (v : StaticType) × (o ≡ Some v) × (goes k.classes v (board_kind u) ≡ true)
  given_to_is None u h = cc
  given_to_is (Some v) u h = (v, refl, h)

  pub drawing_good : (S : Setting) (known : List ℕ) (a : Tree) → is_drawing tables a ≡ true → Good S known t.Number (drawing tables names k numbers a) × (0 ≡ handlers a)
  drawing_good S known (Text i n) h =
      let frame = pos (frame_of (drawn (text_at tables n))) in
      (subst (λ (drawing : Bool). Good S known t.Number (if drawing then e.Num t.Number frame else amiss)) (sym h) ((refl, drawing_int32 (text_at tables n) h), refl), refl)
  drawing_good S known (Num i n) h = cc
  drawing_good S known (Truth i x) h = cc
  drawing_good S known (Null i) h = cc
  drawing_good S known (This i) h = cc
  drawing_good S known (Name i x) h = cc
  drawing_good S known (Unary i op a) h = cc
  drawing_good S known (Binary i op a b) h = cc
  drawing_good S known (Both i a b) h = cc
  drawing_good S known (Either i a b) h = cc
  drawing_good S known (Choice i q a b) h = cc
  drawing_good S known (Set i op x a) h = cc
  drawing_good S known (Bump i x by late) h = cc
  drawing_good S known (Member i a m) h = cc
  drawing_good S known (Item i a j) h = cc
  drawing_good S known (Items i items) h = cc
  drawing_good S known (Call i f args) h = cc
  drawing_good S known (SuperCall i m args) h = cc
  drawing_good S known (Make i x args) h = cc
  drawing_good S known (Handler i body) h = cc

  -- what a member gives, where its object is well typed
  abbrev FreeTyped : Setting → List ℕ → Site → Tree → Type 0
  FreeTyped S known s a = (v : StaticType) → ty s Free a ≡ Some v → Gives P (Good S known (value_type v)) (handlers a) (mk s None a)

  abbrev pub ArgumentsTyped : Setting → List ℕ → Site → Trees → Type 0
  ArgumentsTyped S known s args = (takes us : List StaticType) → EachProper takes → failures tables names k s.place [] args ≡ None → types_of tables k s.place args ≡ Some us → all_go k.classes us takes ≡ true
      → Gives P (AreGiven P S known (parameters_of (value_types takes))) (handlers_of args) (made_given tables names k numbers s takes args)

  abbrev pub AskedTyped : Setting → List ℕ → Site → Trees → Type 0
  AskedTyped S known s args = (ps : List BoardParameter) → failures tables names k s.place ps args ≡ None → are_given tables k s.place ps args ≡ true → are_plain ps ≡ true
      → Gives P (Asked S known ps) (handlers_of args) (made_asked tables names k numbers s ps args)

  -- a member, which may be a constant of the board
  pub member : (S : Setting) (known : List ℕ) (s : Site) (g : Option StaticType) (a : Tree) (m : ℕ) (u : StaticType) (n : ValueType) (z : Option ℤ) → Stand S known s → IsFormed a → constant_of tables k s.place a m ≡ z
      → elim z [ Some y ↦ Some number | None ↦ ty s Free a >>= λ v. part_kind k (part_of tables.names k v m) ] ≡ Some u → n ≡ value_type u → IsProper u → FreeTyped S known s a
      → Gives P (Good S known (value_type (seen g u))) (handlers a)
      (elim z [ Some y ↦ pure (e.Num t.Number y) | None ↦ mk s None a >=> λ x. pure (member_read tables names k numbers n (part_in tables names k numbers s a m) (class_in tables names k numbers s a) m x) ])
  member S known s g a m u n (Some y) at f c' q same_n p free =
      let (sp, r, int) = constant_is s a m y c' in
      seen_as S known g u 0 (handlers a) (pure (e.Num t.Number y)) p (gives_pure P (Good S known (value_type u)) (e.Num t.Number y) ((refl, int), ap (λ (x : StaticType). value_type x) (some_is number u q))) (constant_handlers s a m y c')
  member S known s g a m u n None at f c' q same_n p free =
      let (v, r, q1) = bind_some (ty s Free a) (λ v. part_kind k (part_of tables.names k v m)) u q in
      seen_as S known g u (handlers a) (handlers a) (mk s None a >=> λ x. pure (member_read tables names k numbers n (part_in tables names k numbers s a m) (class_in tables names k numbers s a) m x)) p
      (read_made S known s a m (handlers a) v u n (Good S known (value_type u)) (free v r) r same_n (λ x l. read_good S known v u m x (part_of tables.names k v m) l (has_part k tables.names v m) q1)) refl

  -- a member that may be set is a field
  field_target : (S : Setting) (known : List ℕ) (v u : StaticType) (m : ℕ) (x : TypedTree) (f : Part) → part_settable f ≡ true → Good S known (value_type v) x → HasPart k v m f → part_kind k f ≡ Some u
      → IsTarget P S known (member_read tables names k numbers (value_type u) f (unwrap_or (class_of v) 0) m x) × (w.type_of (member_read tables names k numbers (value_type u) f (unwrap_or (class_of v) 0) m x) ≡ value_type u)
  field_target S known v u m x (part.Field d) may g has h = read_good S known v u m x (part.Field d) g has h
  field_target S known v u m x part.Length may g has h = cc
  field_target S known v u m x (part.Method d) may g has h = cc
  field_target S known v u m x (part.Push y) may g has h = cc
  field_target S known v u m x (part.Pop y) may g has h = cc
  field_target S known v u m x part.Missing may g has h = cc

  part_may : (o : Option StaticType) (v : StaticType) (m : ℕ) → o ≡ Some v → elim o [ None ↦ false | Some y ↦ part_settable (part_of tables.names k y m) ] ≡ true → part_settable (part_of tables.names k v m) ≡ true
  part_may None v m q h = cc
  part_may (Some y) v m q h = subst (λ (l : StaticType). part_settable (part_of tables.names k l m) ≡ true) (some_is y v q) h

  pub member_target : (S : Setting) (known : List ℕ) (s : Site) (a : Tree) (m : ℕ) (u : StaticType) (n : ValueType) (z : Option ℤ) → constant_of tables k s.place a m ≡ z
      → elim z [ Some y ↦ Some number | None ↦ ty s Free a >>= λ v. part_kind k (part_of tables.names k v m) ] ≡ Some u → n ≡ value_type u
      → elim z [ Some y ↦ false | None ↦ elim (ty s Free a) [ None ↦ false | Some y ↦ part_settable (part_of tables.names k y m) ] ] ≡ true → FreeTyped S known s a
      → Gives P (λ l. IsTarget P S known l × (w.type_of l ≡ value_type u)) (handlers a)
      (elim z [ Some y ↦ pure (e.Num t.Number y) | None ↦ mk s None a >=> λ x. pure (member_read tables names k numbers n (part_in tables names k numbers s a m) (class_in tables names k numbers s a) m x) ])
  member_target S known s a m u n (Some y) c' q same_n may free = cc
  member_target S known s a m u n None c' q same_n may free =
      let (v, r, q1) = bind_some (ty s Free a) (λ v. part_kind k (part_of tables.names k v m)) u q in
      read_made S known s a m (handlers a) v u n (λ l. IsTarget P S known l × (w.type_of l ≡ value_type u)) (free v r) r same_n
      (λ x l. field_target S known v u m x (part_of tables.names k v m) (part_may (ty s Free a) v m r may) l (has_part k tables.names v m) q1)

  pub super : (S : Setting) (known : List ℕ) (s : Site) (g : Option StaticType) (m : ℕ) (args : Trees) (u : StaticType) (n : ValueType) (d : Option ℕ) → Stand S known s → AreFormed args → super_method k s.place.this m ≡ d
      → failures tables names k s.place [] args ≡ None → called k (d >>= λ j. Some (callee (takes_at k.entries j) (kind_at k j))) (types_of tables k s.place args) ≡ Some u → n ≡ value_type u → IsProper u → ArgumentsTyped S known s args
      → Gives P (Good S known (value_type (seen g u))) (handlers_of args)
      (elim d [ None ↦ pure amiss | Some j ↦ made_given tables names k numbers s (takes_at k.entries j) args >=> λ xs. pure (e.SuperCall n (routine_number numbers j) xs) ])
  super S known s g m args u n None at f is h q same_n p typed = cc
  super S known s g m args u n (Some j) at f is h q same_n p typed =
      let (d, us, q1, ts, go, result) = called_parts tables k (Some (callee (takes_at k.entries j) (kind_at k j))) (types_of tables k s.place args) u q in
      let same_d : callee (takes_at k.entries j) (kind_at k j) ≡ d = some_is _ d q1 in
      let go_j : all_go k.classes us (takes_at k.entries j) ≡ true = subst (λ (x : Callee). all_go k.classes us x.takes ≡ true) (sym same_d) go in
      let result_j : kind_at k j ≡ Some u = ap (λ (x : Callee). x.gives) same_d ∙ result in
      let Q : TypedTree → Type 0 = Good S known (value_type u) in
      seen_as S known g u (handlers_of args + 0) (handlers_of args) (made_given tables names k numbers s (takes_at k.entries j) args >=> λ xs. pure (e.SuperCall n (routine_number numbers j) xs)) p
      (gives_bind P (AreGiven P S known (parameters_of (value_types (takes_at k.entries j)))) Q (handlers_of args) 0 (made_given tables names k numbers s (takes_at k.entries j) args) (λ xs. pure (e.SuperCall n (routine_number numbers j) xs))
      (typed (takes_at k.entries j) us (st.takes_proper j) h ts go_j)
      (λ xs ps. gives_pure P Q (e.SuperCall n (routine_number numbers j) xs) (super_good S known s m j u n xs at is result_j same_n ps))) (omega arith)

  -- a call of the board
  pub board_call : (S : Setting) (known : List ℕ) (s : Site) (g : Option StaticType) (i : ℕ) (c' : Tree) (args : Trees) (u : StaticType) (n : ValueType) (b : BoardCall) → board_callee tables k s.place c' ≡ Some b
      → call_failure s i c' args (Some b) ≡ None → call_type s c' args (Some b) ≡ Some u → n ≡ value_type u → IsProper u → AskedTyped S known s args
      → Gives P (Good S known (value_type (seen g u))) (handlers c' + handlers_of args) (call_made s n c' args (Some b))
  board_call S known s g i c' args u n b is h q same_n p asked =
      let ps : List BoardParameter = (row_of b).takes in
      let (are, kind) = if_some (are_given tables k s.place ps args) (board_kind (row_of b).gives) u q in
      let result : n ≡ (row_of b).gives = same_n ∙ ap (λ (x : StaticType). value_type x) (sym kind) ∙ gives_plain b in
      let Q : TypedTree → Type 0 = Good S known (value_type u) in
      let none_before : 0 ≡ handlers c' = board_handlers s c' b is in
      seen_as S known g u (handlers_of args + 0) (handlers c' + handlers_of args) (call_made s n c' args (Some b)) p
      (gives_bind P (Asked S known ps) Q (handlers_of args) 0 (made_asked tables names k numbers s ps args) (λ xs. pure (e.Call n (board_target b (row_of b).action) xs))
      (asked ps (first (failures tables names k s.place ps args) _ h) are (takes_plain b))
      (λ xs qs. gives_pure P Q (e.Call n (board_target b (row_of b).action) xs) (board_good S known b (row_of b).action n xs refl (action_fits b) result qs, same_n)))
      (omega (arith, none_before))

  -- a method's call, where its object is well typed
  pub member_call : (S : Setting) (known : List ℕ) (s : Site) (a : Tree) (m : ℕ) (args : Trees) (us : List StaticType) (v u : StaticType) (d : Callee) (n : ValueType) → Stand S known s → ty s Free a ≡ Some v → part_callee k (part_of tables.names k v m) ≡ Some d
      → d.gives ≡ Some u → n ≡ value_type u → Gives P (Good S known (value_type v)) (handlers a) (mk s None a)
      → Gives P (AreGiven P S known (parameters_of (value_types d.takes))) (handlers_of args) (made_given tables names k numbers s d.takes args)
      → Gives P (Good S known (value_type u)) (handlers a + (handlers_of args + 0))
      (mk s None a >=> λ x. made_given tables names k numbers s (part_takes tables names k numbers (part_in tables names k numbers s a m)) args
      >=> λ xs. pure (e.Call n (part_target tables names k numbers (part_in tables names k numbers s a m) (class_in tables names k numbers s a) m) (e.more x xs)))
  member_call S known s a m args us v u d n at r q result same_n object typed =
      let kind : type_in tables names k numbers s a ≡ v = kind_is (ty s Free a) v r in
      let Q : TypedTree → Type 0 = Good S known (value_type u) in
      let G : StaticType → List StaticType → Type 0 = λ y takes. Gives P Q (handlers a + (handlers_of args + 0)) (mk s None a >=> λ x. made_given tables names k numbers s takes args
      >=> λ xs. pure (e.Call n (part_target tables names k numbers (part_of tables.names k y m) (unwrap_or (class_of y) 0) m) (e.more x xs))) in
      let base : G v d.takes =
      gives_bind P (Good S known (value_type v)) Q (handlers a) (handlers_of args + 0) (mk s None a)
      (λ x. made_given tables names k numbers s d.takes args >=> λ xs. pure (e.Call n (part_target tables names k numbers (part_of tables.names k v m) (unwrap_or (class_of v) 0) m) (e.more x xs))) object
      (λ x p. gives_bind P (AreGiven P S known (parameters_of (value_types d.takes))) Q (handlers_of args) 0 (made_given tables names k numbers s d.takes args)
      (λ xs. pure (e.Call n (part_target tables names k numbers (part_of tables.names k v m) (unwrap_or (class_of v) 0) m) (e.more x xs))) typed
      (λ xs ps. gives_pure P Q (e.Call n (part_target tables names k numbers (part_of tables.names k v m) (unwrap_or (class_of v) 0) m) (e.more x xs))
      (sent_good S known v u m n x xs (part_of tables.names k v m) d p (has_part k tables.names v m) q result same_n ps))) in
      let takes_so : part_takes tables names k numbers (part_of tables.names k v m) ≡ d.takes = part_takes_are (part_of tables.names k v m) d q in
      let at_v : G v (part_takes tables names k numbers (part_of tables.names k v m)) = subst (λ (l : List StaticType). G v l) (sym takes_so) base in
      subst (λ (y : StaticType). G y (part_takes tables names k numbers (part_of tables.names k y m))) (sym kind) at_v

  pub list_is : (o : Option StaticType) → is_list o ≡ true → (u : StaticType) × (o ≡ Some u) × (is_array u ≡ true)
  list_is None h = cc
  list_is (Some u) h = (u, refl, h)

  pub fits_is : (o l : Option StaticType) → fits k o l ≡ true → (u : StaticType) × (v : StaticType) × (o ≡ Some u) × (l ≡ Some v) × (goes k.classes u v ≡ true)
  fits_is (Some u) (Some v) h = (u, v, refl, refl, h)
  fits_is (Some u) None h = cc
  fits_is None (Some v) h = cc
  fits_is None None h = cc

  -- in a handler no local is in scope where it begins
  pub handler_stand : (S : Setting) (s : Site) (gives : Option Annotation) (all : Statements) → Stand S [] (in_handler_site tables names k numbers s [] gives all)
  handler_stand S s gives all =
      record {
        even = refl;
        here = λ i u h. cc;
        proper = λ i u h. cc;
        this = λ i h. absurd (hidden_is s.place.this i h);
      }

  gives_declared : (p : NameScope) (fixed : Bool) (each : Declarations) → (all_declared tables names k p fixed each).gives ≡ p.gives
  gives_declared p fixed ended = refl
  gives_declared p fixed (next (Declare i x shape first) rest) = gives_declared (declared tables names k p fixed (Declare i x shape first)) fixed rest

  pub gives_after : (p : NameScope) (a : Statement) → (after tables names k p a).gives ≡ p.gives
  gives_after p (Let i fixed each) = gives_declared p fixed each
  gives_after p (Block i all) = refl
  gives_after p (IfOnly i test a) = refl
  gives_after p (IfElse i test a b) = refl
  gives_after p (While i test a) = refl
  gives_after p (DoWhile i a test) = refl
  gives_after p (For i one test step a) = refl
  gives_after p (ForOf i fixed x list a) = refl
  gives_after p (Return i value) = refl
  gives_after p (Break i) = refl
  gives_after p (Continue i) = refl
  gives_after p (Plain i a) = refl
  gives_after p (Empty i) = refl

  gives_first : (p : NameScope) (a : OptionalStatement) → (after_first tables names k p a).gives ≡ p.gives
  gives_first p omitted = refl
  gives_first p (written a) = gives_after p a

  -- a name that is declared in a block
  abbrev pub Declared : Setting → List ℕ → ℕ → ValueType → TypedDeclaration → Type 0
  Declared S known m u d = (first : Option TypedTree) × (d ≡ record { name = Local m; first = first }) × w.IsInitial P S known first u × (entry S.routine.locals m ≡ Some u)

  declared_all : (S : Setting) (known : List ℕ) (m : ℕ) (u : ValueType) (d : TypedDeclaration) (ds : List TypedDeclaration) → Declared S known m u d → w.AreDeclared P S (m ∷ known) ds → w.AreDeclared P S known (d ∷ ds)
  declared_all S known m u d ds (first, is, initial, has) rest = subst (λ (x : TypedDeclaration). w.AreDeclared P S known (x ∷ ds)) (sym is) (u, has, initial, rest)

  declared_known : (S : Setting) (known : List ℕ) (m : ℕ) (u : ValueType) (d : TypedDeclaration) → Declared S known m u d → w.known_with d.name known ≡ m ∷ known
  declared_known S known m u d (first, is, initial, has) = ap (λ (x : TypedDeclaration). w.known_with x.name known) is

  pub declared_one : (S : Setting) (known : List ℕ) (m : ℕ) (u : ValueType) (d : TypedDeclaration) → Declared S known m u d → declared_local d.name ≡ m ∷ []
  declared_one S known m u d (first, is, initial, has) = ap (λ (x : TypedDeclaration). declared_local x.name) is

  pub declare : (S : Setting) (known : List ℕ) (m n h : ℕ) (u v : ValueType) (f : Making (Option TypedTree)) → u ≡ v → Gives P (λ l. w.IsInitial P S known l v) h f
      → Built P S (Declared S known m v) (λ d. declared_local d.name) [] h m n ((f >=> λ l. a_local u (λ i. record { name = Local i; first = l })) m n)
  declare S known m n h u v f same gives =
      let D : TypedDeclaration → List ℕ = λ d. declared_local d.name in
      let base : Built P S (Declared S known m v) D [] (h + 0) m n ((f >=> λ l. a_local v (λ i. record { name = Local i; first = l })) m n) =
      good_free P S (λ l. w.IsInitial P S known l v) (Declared S known m v) D [] h 0 m n f (λ l. a_local v (λ i. record { name = Local i; first = l })) gives
      (λ l q o placed kept. ((l, refl, q, kept.0), refl, tt, refl)) in
      let all : Built P S (Declared S known m v) D [] h m n ((f >=> λ l. a_local v (λ i. record { name = Local i; first = l })) m n) =
      good_as P S (Declared S known m v) (Declared S known m v) D [] (h + 0) h m n ((f >=> λ l. a_local v (λ i. record { name = Local i; first = l })) m n) base (λ q. q) (omega arith) in
      subst (λ (x : ValueType). Built P S (Declared S known m v) D [] h m n ((f >=> λ l. a_local x (λ i. record { name = Local i; first = l })) m n)) (sym same) all

  pub first_place : (m : ℕ) (s : Site) (a : OptionalStatement) → after_first tables names k s.place a ≡ (first_site tables names k numbers m s a).place
  first_place m s omitted = refl
  first_place m s (written a) = refl

  pub first_gives : (m : ℕ) (s : Site) (a : OptionalStatement) → (first_site tables names k numbers m s a).place.gives ≡ s.place.gives
  first_gives m s omitted = refl
  first_gives m s (written a) = gives_after s.place a

  -- the names behind a declared one
  pub declared_more : (S : Setting) (known : List ℕ) (s : Site) (fixed : Bool) (a : Declaration) (rest : Declarations) (m i : ℕ) (v : ValueType) (d : TypedDeclaration) (ds : List TypedDeclaration) (xs : List Spot) → i ≡ suc m → Declared S known m v d
      → w.AreDeclared P S (m ∷ known) ds → Stand S (w.known_behind ds (m ∷ known)) (record { place = all_declared tables names k (declared tables names k s.place fixed a) fixed rest; spots = (s.spots ++ Local m ∷ []) ++ spots_from i rest })
      → w.AreDeclared P S known (d ∷ ds) × Stand S (w.known_behind (d ∷ ds) known) (record { place = all_declared tables names k s.place fixed (next a rest); spots = s.spots ++ spots_from m (next a rest) })
  declared_more S known s fixed a rest m i v d ds xs step dq all at =
      let p : NameScope = all_declared tables names k (declared tables names k s.place fixed a) fixed rest in
      let spots_so : (s.spots ++ Local m ∷ []) ++ spots_from i rest ≡ s.spots ++ spots_from m (next a rest) =
      ap (λ (j : ℕ). (s.spots ++ Local m ∷ []) ++ spots_from j rest) step ∙ append_assoc s.spots (Local m ∷ []) (spots_from (suc m) rest) in
      let known_so : w.known_behind ds (m ∷ known) ≡ w.known_behind (d ∷ ds) known = ap (λ (ks : List ℕ). w.known_behind ds ks) (sym (declared_known S known m v d dq)) in (
        declared_all S known m v d ds dq all,
        subst (λ (ks : List ℕ). Stand S ks (record { place = p; spots = s.spots ++ spots_from m (next a rest) })) known_so
            (subst (λ (ys : List Spot). Stand S (w.known_behind ds (m ∷ known)) (record { place = p; spots = ys })) spots_so at),
      )
