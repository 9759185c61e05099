-- Nodes that hold a list, made by what they are.
use Rattle.std.proofs.Common.{◌≡◌, ◌+◌, ◌++◌, ◌<◌, ◌≤◌, ℕ, zero, suc, Bool, true, false, List, [], ◌∷◌, length, drop, slice_get, Option, Some, None, refl, sym, ap, ◌∙◌, arith, append-nil, add-zero}
use Rattle.std.specs.Prelude.{unwrap_or}
use Rattle.sts_syntax.specs.BoardTable as board
use Rattle.sts_syntax.specs.BoardTable.{BoardParameter, row_of}
use Rattle.sts_syntax.specs.declared.board_calls.BoardCall.{BoardCall}
use Rattle.sts_syntax.specs.declared.trees.Expr.{Expr}
use Rattle.sts_syntax.specs.declared.trees.Node.TheVariants as n
use Rattle.sts_syntax.specs.Types.{ValueType}
use Rattle.sts_syntax.specs.TypedTrees as e
use Rattle.sts_syntax.specs.TypedTrees.{TypedTree, TypedTrees, TypedRoutine}
use Rattle.sts_syntax.specs.Trees.{Tree, Num, Text, Truth, Null, This, Name, Unary, Binary, Both, Either, Choice, Set, Bump, Member, Item, Call, SuperCall, Make, Items, Handler, Trees, none, more}
use Rattle.sts_syntax.specs.Views.{tree, trees}
use Rattle.sts_scope.specs.declared.kinds.StaticType.{StaticType}
use Rattle.sts_scope.specs.Kinds.{nothing}
use Rattle.sts_scope.specs.Rules as rule
use Rattle.type_derive.specs.inner.Filled as b
use Rattle.type_derive.specs.Making.{Made}
use Rattle.type_derive.specs.inner.Filling.{Making, pure, ◌>=>◌}
use Rattle.sts_scope.specs.Numbers.{routine_number}
use Rattle.type_derive.specs.Typing as typing
use Rattle.typed_trees.specs.declared.build_places.Plan.{Plan}
use Rattle.typed_trees.specs.declared.build_heads.Head.{Head}
use Rattle.typed_trees.specs.declared.build_heads.Head.TheVariants as head
use Rattle.typed_numbers.specs.Building.{numbering_of}
use Rattle.typed_trees.specs.Sites as s
use Rattle.typed_trees.specs.Sites.{tree_made, tree_kind, given_made, naming}
use Rattle.typed_trees.proofs.Nodes.{items_made, asked_made, made_of, head_made}
use Rattle.typed_trees.specs.Calls as call
use Rattle.typed_trees.specs.Calls.{Places, Kinds, Alike, Asks, arguments_made, asked_one, served, head_of, passed_made, object_made, behind_made, head_places, head_node, type_noted, has_list}
use Rattle.typed_trees.proofs.GivenTrees.{next_at, later_at}
use Rattle.typed_numbers.proofs.Laws.{items_is}
use Rattle.typed_trees.proofs.Made.{alone}

none_noted : (given kind : Option StaticType) (at : ℕ) (xs : List Expr) → length xs < 1 → s.noted given ≡ type_noted given kind (Items at (trees xs))
none_noted given kind at [] h = refl
none_noted given kind at (x ∷ xs) h = absurd (omega (arith, h))

some_noted : (given kind : Option StaticType) (at : ℕ) (xs : List Expr) → 1 ≤ length xs → s.noted kind ≡ type_noted given kind (Items at (trees xs))
some_noted given kind at [] h = absurd (omega (arith, h))
some_noted given kind at (x ∷ xs) h = refl

pub empty_noted : (given kind : Option StaticType) (a : Expr) (items xs : List Expr) → a.node ≡ n.Items items → xs ≡ items → length xs < 1 → s.noted given ≡ type_noted given kind (tree a)
empty_noted given kind a items xs is same h =
    none_noted given kind a.at xs h ∙ ap (λ (q : List Expr). type_noted given kind (Items a.at (trees q))) same ∙ sym (ap (type_noted given kind) (items_is a items is))

pub items_noted : (given kind : Option StaticType) (a : Expr) (items xs : List Expr) → a.node ≡ n.Items items → xs ≡ items → 1 ≤ length xs → s.noted kind ≡ type_noted given kind (tree a)
items_noted given kind a items xs is same h =
    some_noted given kind a.at xs h ∙ ap (λ (q : List Expr). type_noted given kind (Items a.at (trees q))) same ∙ sym (ap (type_noted given kind) (items_is a items is))

-- a list whose places are given types
pub kinds_made : (p : Plan) (st : b.Site) (us : List StaticType) (i : ℕ) (args : Trees) (m k : ℕ) → arguments_made p st (Kinds us) i args m k ≡ given_made p st (drop i us) args m k
unfolding tree_made given_made arguments_made
kinds_made p st us i none m k = refl
kinds_made p st us i (more a rest) m k =
    let x = tree_made p st (slice_get us i) a m k in
    let all : Option StaticType → List StaticType → Made TypedTrees = λ g vs. (tree_made p st g a >=> λ y. given_made p st vs rest >=> λ ys. pure (e.more y ys)) m k in
    ap (λ (y : Made TypedTrees). made_of (e.more x.it y.it) (x.locals ++ (y.locals ++ [])) (x.routines ++ (y.routines ++ []))) (kinds_made p st us (suc i) rest (m + length x.locals) (k + length x.routines))
    ∙ ap (λ (vs : List StaticType). all (slice_get us i) vs) (sym (later_at us i)) ∙ ap (λ (g : Option StaticType). all g (b.later_given (drop i us))) (sym (next_at us i))

-- items behind the first
alike_made : (p : Plan) (st : b.Site) (u : StaticType) (i : ℕ) (args : Trees) (m k : ℕ) → arguments_made p st (Alike u) (suc i) args m k ≡ items_made p st u args m k
unfolding tree_made items_made arguments_made
alike_made p st u i none m k = refl
alike_made p st u i (more a rest) m k =
    let x = tree_made p st (Some u) a m k in
    ap (λ (y : Made TypedTrees). made_of (e.more x.it y.it) (x.locals ++ (y.locals ++ [])) (x.routines ++ (y.routines ++ []))) (alike_made p st u (suc i) rest (m + length x.locals) (k + length x.routines))

-- arguments of a call of the board
abbrev asked : Plan → b.Site → List BoardParameter → Tree → Making TypedTree
asked p st ps a = b.argument_made p.tables.now (naming p) p.known.now (numbering_of p.numbers.now) st ps a (tree_made p st (b.asked_given ps) a)

served_is : (p : Plan) (st : b.Site) (ps : List BoardParameter) (a : Tree) → served p st a ≡ asked p st (board.Handler ∷ ps) a
served_is p st ps (Num at v) = refl
served_is p st ps (Text at v) = refl
served_is p st ps (Truth at v) = refl
served_is p st ps (Null at) = refl
served_is p st ps (This at) = refl
served_is p st ps (Name at x) = refl
served_is p st ps (Unary at op a) = refl
served_is p st ps (Binary at op a c) = refl
served_is p st ps (Both at a c) = refl
served_is p st ps (Either at a c) = refl
served_is p st ps (Choice at q a c) = refl
served_is p st ps (Set at op a c) = refl
served_is p st ps (Bump at a by late) = refl
served_is p st ps (Member at a m) = refl
served_is p st ps (Item at a c) = refl
served_is p st ps (Call at f args) = refl
served_is p st ps (SuperCall at m args) = refl
served_is p st ps (Make at x args) = refl
served_is p st ps (Items at items) = refl
served_is p st ps (Handler at body) = refl

asked_at : (p : Plan) (st : b.Site) (ps : List BoardParameter) (i : ℕ) (a : Tree) → asked_one p st (slice_get ps i) a ≡ asked p st (drop i ps) a
asked_at p st [] zero a = refl
asked_at p st [] (suc i) a = refl
asked_at p st (board.Of u ∷ ps) zero a = refl
asked_at p st (board.Handler ∷ ps) zero a = served_is p st ps a
asked_at p st (board.Drawing ∷ ps) zero a = refl
asked_at p st (q ∷ ps) (suc i) a = asked_at p st ps i a

behind_at : (ps : List BoardParameter) (i : ℕ) → typing.behind (drop i ps) ≡ drop (suc i) ps
behind_at [] zero = refl
behind_at [] (suc i) = refl
behind_at (q ∷ ps) zero = refl
behind_at (q ∷ ps) (suc i) = behind_at ps i

asks_made : (p : Plan) (st : b.Site) (ps : List BoardParameter) (i : ℕ) (args : Trees) (m k : ℕ) → arguments_made p st (Asks ps) i args m k ≡ asked_made p st (drop i ps) args m k
unfolding tree_made asked_made arguments_made
asks_made p st ps i none m k = refl
asks_made p st ps i (more a rest) m k =
    let x = asked_one p st (slice_get ps i) a m k in
    let all : Making TypedTree → List BoardParameter → Made TypedTrees = λ f qs. (f >=> λ y. asked_made p st qs rest >=> λ ys. pure (e.more y ys)) m k in
    ap (λ (y : Made TypedTrees). made_of (e.more x.it y.it) (x.locals ++ (y.locals ++ [])) (x.routines ++ (y.routines ++ []))) (asks_made p st ps (suc i) rest (m + length x.locals) (k + length x.routines))
    ∙ ap (λ (qs : List BoardParameter). all (asked_one p st (slice_get ps i) a) qs) (sym (behind_at ps i)) ∙ ap (λ (f : Making TypedTree). all f (typing.behind (drop i ps))) (asked_at p st ps i a)

-- nothing stands before them
nothing_before : {A B : Type 0} (x : A) (g : A → Making B) (m k : ℕ) → (pure x >=> g) m k ≡ g x m k
nothing_before {A} {B} x g m k =
    ap {B = Made B} (λ (i : ℕ). let y = g x i (k + 0) in made_of y.it y.locals y.routines) (add-zero m) ∙ ap {B = Made B} (λ (j : ℕ). let y = g x m j in made_of y.it y.locals y.routines) (add-zero k)

-- one is made of the first, and the others stand behind it
one_before : {A B C : Type 0} (f : Making A) (h : A → B) (g : B → Making C) (m k : ℕ) → ((f >=> λ x. pure (h x)) >=> g) m k ≡ (f >=> λ x. g (h x)) m k
one_before {A} {B} {C} f h g m k =
    let x = f m k in
    let all : List ValueType → List TypedRoutine → Made C = λ us rs. let y = g (h x.it) (m + length us) (k + length rs) in made_of y.it (us ++ y.locals) (rs ++ y.routines) in
    ap (λ (us : List ValueType). all us (x.routines ++ [])) (append-nil x.locals) ∙ ap (λ (rs : List TypedRoutine). all x.locals rs) (append-nil x.routines)

-- a node of its list
abbrev node_of : Plan → ValueType → Head → Made TypedTrees → Made TypedTree
node_of p u h y = made_of (head_node p u h y.it) (y.locals ++ []) (y.routines ++ [])

-- nothing is put before the list
args_alone : (p : Plan) (st : b.Site) (q : Places) (args : Trees) (m k : ℕ) → behind_made p st q e.none args m k ≡ arguments_made p st q 0 args m k
unfolding behind_made
args_alone p st q args m k = let y = arguments_made p st q 0 args m k in alone y y.it

drop_none : {A : Type 0} (xs : List A) → drop 0 xs ≡ xs
drop_none [] = refl
drop_none (x ∷ xs) = refl

pub kinds_alone : (p : Plan) (st : b.Site) (us : List StaticType) (args : Trees) (m k : ℕ) → behind_made p st (Kinds us) e.none args m k ≡ given_made p st us args m k
kinds_alone p st us args m k = args_alone p st (Kinds us) args m k ∙ kinds_made p st us 0 args m k ∙ ap (λ (vs : List StaticType). given_made p st vs args m k) (drop_none us)

-- a call without an object
call_alone : (p : Plan) (st : b.Site) (h : Head) (at : ℕ) (f : Tree) (args : Trees) (m k : ℕ) → call.has_object h ≡ false
    → behind_made p st (head_places p h) e.none args m k ≡ passed_made p st h (Call at f args) m k
unfolding passed_made object_made
call_alone p st h at f args m k is =
    sym (nothing_before e.none (λ ys. behind_made p st (head_places p h) ys args) m k)
    ∙ ap (λ (q : Bool). (object_made p st q f >=> λ ys. behind_made p st (head_places p h) ys args) m k) (sym is)

-- `super.m`
super_is : (p : Plan) (st : b.Site) (u : ValueType) (at x : ℕ) (args : Trees) (m k : ℕ) (o : Option ℕ)
    → (let made : Making TypedTree = elim o [
      | None ↦ pure b.amiss
      | Some d ↦ given_made p st (rule.takes_at p.known.now.entries d) args >=> λ xs. pure (e.SuperCall u (routine_number (numbering_of p.numbers.now) d) xs)
    ] in made m k) ≡ head_made p st u (elim o [ None ↦ None | Some d ↦ Some (head.Super d) ]) (SuperCall at (Some x) args) m k
unfolding head_made passed_made
super_is p st u at x args m k None = refl
super_is p st u at x args m k (Some d) = ap (node_of p u (head.Super d)) (sym (kinds_alone p st (rule.takes_at p.known.now.entries d) args m k))

-- a call of a function or a method
abbrev made_call : Plan → b.Site → ValueType → Tree → Making TypedTrees → Making TypedTree
made_call p = b.made_call p.tables.now (naming p) p.known.now (numbering_of p.numbers.now)

abbrev call_takes : Plan → b.Site → Tree → List StaticType
call_takes p = b.call_takes p.tables.now (naming p) p.known.now (numbering_of p.numbers.now)

called_is : (p : Plan) (st : b.Site) (u : ValueType) (at : ℕ) (f : Tree) (args : Trees) (m k : ℕ)
    → made_call p st u f (given_made p st (call_takes p st f) args) m k ≡ head_made p st u (call.called_head p st f) (Call at f args) m k
unfolding tree_made tree_kind head_made passed_made object_made behind_made
called_is p st u at (Name i x) args m k =
    let found = typing.finds p.tables.now p.known.now st.place x in
    let h = head.Named found in
    ap (node_of p u h) (sym (kinds_alone p st (call.routine_takes p found) args m k) ∙ call_alone p st h at (Name i x) args m k refl)
called_is p st u at (Member i a x) args m k =
    let part = s.part_behind p (tree_kind p st None a) x in
    let class = s.class_behind (tree_kind p st None a) in
    let h = head.Behind part class x in
    let z = tree_made p st None a m k in
    let i = m + length z.locals in
    let j = k + length z.routines in
    let us = call.part_takes p part in
    let all : Made TypedTrees → Made TypedTrees = λ y. made_of (e.more z.it y.it) (z.locals ++ (y.locals ++ [])) (z.routines ++ (y.routines ++ [])) in
    let one : Made TypedTrees → Made TypedTree = λ y. made_of (head_node p u h y.it) y.locals y.routines in
    ap (λ y. one (all y)) (ap (λ (vs : List StaticType). given_made p st vs args i j) (sym (drop_none us)) ∙ sym (kinds_made p st us 0 args i j))
    ∙ sym (alone (all (arguments_made p st (Kinds us) 0 args i j)) (head_node p u h (all (arguments_made p st (Kinds us) 0 args i j)).it))
    ∙ ap (node_of p u h) (sym (one_before (tree_made p st None a) (λ y. e.more y e.none) (λ ys. behind_made p st (Kinds us) ys args) m k))
called_is p st u at (Num i v) args m k = refl
called_is p st u at (Text i v) args m k = refl
called_is p st u at (Truth i v) args m k = refl
called_is p st u at (Null i) args m k = refl
called_is p st u at (This i) args m k = refl
called_is p st u at (Unary i op a) args m k = refl
called_is p st u at (Binary i op a c) args m k = refl
called_is p st u at (Both i a c) args m k = refl
called_is p st u at (Either i a c) args m k = refl
called_is p st u at (Choice i q a c) args m k = refl
called_is p st u at (Set i op a c) args m k = refl
called_is p st u at (Bump i a by late) args m k = refl
called_is p st u at (Item i a c) args m k = refl
called_is p st u at (Call i f others) args m k = refl
called_is p st u at (SuperCall i x others) args m k = refl
called_is p st u at (Make i x others) args m k = refl
called_is p st u at (Items i items) args m k = refl
called_is p st u at (Handler i body) args m k = refl

-- a call
call_made : (p : Plan) (st : b.Site) (u : ValueType) (at : ℕ) (f : Tree) (args : Trees) (m k : ℕ) (o : Option BoardCall)
    → (let made : Making TypedTree = elim o [
      | Some board ↦ asked_made p st (row_of board).takes args >=> λ xs. pure (e.Call u (b.board_target board (row_of board).action) xs)
      | None ↦ made_call p st u f (given_made p st (call_takes p st f) args)
    ] in made m k) ≡ head_made p st u (elim o [ Some board ↦ Some (head.Board board) | None ↦ call.called_head p st f ]) (Call at f args) m k
unfolding head_made
call_made p st u at f args m k None = called_is p st u at f args m k
call_made p st u at f args m k (Some board) =
    let h = head.Board board in
    let ps = (row_of board).takes in
    ap (node_of p u h)
    (ap (λ (qs : List BoardParameter). asked_made p st qs args m k) (sym (drop_none ps)) ∙ sym (asks_made p st ps 0 args m k) ∙ sym (args_alone p st (Asks ps) args m k) ∙ call_alone p st h at f args m k refl)

-- an array: its first item, and the others behind it
items_behind : (p : Plan) (st : b.Site) (u : ValueType) (v : StaticType) (a : Tree) (rest : Trees) (m k : ℕ)
    → (let y = arguments_made p st (Alike v) 0 (more a rest) m k in made_of (e.Items u y.it) y.locals y.routines)
    ≡ (tree_made p st None a >=> λ x. items_made p st v rest >=> λ xs. pure (e.Items u (e.more x xs))) m k
unfolding arguments_made
items_behind p st u v a rest m k =
    let x = tree_made p st None a m k in
    ap (λ (y : Made TypedTrees). made_of (e.Items u (e.more x.it y.it)) (x.locals ++ (y.locals ++ [])) (x.routines ++ (y.routines ++ [])))
    (alike_made p st v 0 rest (m + length x.locals) (k + length x.routines))

-- A node with a list is made by what it is.
pub head_is : (p : Plan) (st : b.Site) (g : Option StaticType) (x : Tree) (m k : ℕ) → has_list x ≡ true
    → head_made p st (type_noted g (tree_kind p st g x) x) (head_of p st x) x m k ≡ tree_made p st g x m k
unfolding tree_made tree_kind given_made asked_made items_made head_made head_of passed_made behind_made arguments_made
head_is p st g (Items at none) m k is = refl
head_is p st g (Items at (more a rest)) m k is =
    let u = s.noted (tree_kind p st g (Items at (more a rest))) in
    let v = unwrap_or (tree_kind p st None a) nothing in
    let h = head.Items v in
    let list = arguments_made p st (Alike v) 0 (more a rest) m k in
    ap (node_of p u h) (args_alone p st (Alike v) (more a rest) m k) ∙ alone list (head_node p u h list.it) ∙ items_behind p st u v a rest m k
head_is p st g (Make at x args) m k is =
    let class = s.class_found p (typing.finds p.tables.now p.known.now st.place x) in
    let u = s.noted (tree_kind p st g (Make at x args)) in
    let h = head.Make class in
    ap (node_of p u h) (kinds_alone p st (rule.maker_takes_of p.known.now.classes class) args m k)
head_is p st g (SuperCall at None args) m k is = refl
head_is p st g (SuperCall at (Some x) args) m k is =
    sym (super_is p st (s.noted (tree_kind p st g (SuperCall at (Some x) args))) at x args m k (typing.super_method p.known.now st.place.this x))
head_is p st g (Call at f args) m k is =
    sym (call_made p st (s.noted (tree_kind p st g (Call at f args))) at f args m k (typing.board_callee p.tables.now p.known.now st.place f))
head_is p st g (Num i v) m k is = absurd (let c : false ≡ true = is in cc)
head_is p st g (Text i v) m k is = absurd (let c : false ≡ true = is in cc)
head_is p st g (Truth i v) m k is = absurd (let c : false ≡ true = is in cc)
head_is p st g (Null i) m k is = absurd (let c : false ≡ true = is in cc)
head_is p st g (This i) m k is = absurd (let c : false ≡ true = is in cc)
head_is p st g (Name i x) m k is = absurd (let c : false ≡ true = is in cc)
head_is p st g (Unary i op a) m k is = absurd (let c : false ≡ true = is in cc)
head_is p st g (Binary i op a c) m k is = absurd (let c : false ≡ true = is in cc)
head_is p st g (Both i a c) m k is = absurd (let c : false ≡ true = is in cc)
head_is p st g (Either i a c) m k is = absurd (let c : false ≡ true = is in cc)
head_is p st g (Choice i q a c) m k is = absurd (let c : false ≡ true = is in cc)
head_is p st g (Set i op a c) m k is = absurd (let c : false ≡ true = is in cc)
head_is p st g (Bump i a by late) m k is = absurd (let c : false ≡ true = is in cc)
head_is p st g (Member i a x) m k is = absurd (let c : false ≡ true = is in cc)
head_is p st g (Item i a c) m k is = absurd (let c : false ≡ true = is in cc)
head_is p st g (Handler i body) m k is = absurd (let c : false ≡ true = is in cc)
