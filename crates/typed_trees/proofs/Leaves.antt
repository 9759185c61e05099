-- Typed trees of leaves, handlers and members.
use Rattle.std.proofs.Common.{◌≡◌, ◌∷◌, ◌+◌, ℕ, ℤ, Bool, List, [], ◌++◌, length, Option, Some, None, refl, sym, ap, ◌∙◌, subst, arith, append-nil, add-zero}
use Rattle.std.specs.declared.alloc.Global.{Global}
use Rattle.std.specs.declared.boxed.Box.{Box}
use Rattle.sts_syntax.specs.declared.trees.Body.{Body}
use Rattle.sts_syntax.specs.declared.trees.Expr.{Expr}
use Rattle.sts_syntax.specs.declared.trees.Node.TheVariants as n
use Rattle.sts_syntax.specs.Types as t
use Rattle.sts_syntax.specs.Types.{value_types}
use Rattle.sts_syntax.specs.TypedTrees as e
use Rattle.sts_syntax.specs.TypedTrees.{TypedTree, TypedRoutine}
use Rattle.sts_syntax.specs.TypedViews.{typed_routines}
use Rattle.sts_syntax.specs.Trees.{Tree, Num, Text, Truth, Null, This, Name, Member, Handler, Routine}
use Rattle.sts_syntax.specs.Views.{tree, node_tree, routine}
use Rattle.sts_scope.specs.declared.kinds.StaticType.{StaticType}
use Rattle.sts_scope.specs.Kinds.{number, boolean, text, null}
use Rattle.sts_scope.specs.Rules as rule
use Rattle.type_derive.specs.inner.Filled as b
use Rattle.type_derive.specs.Making.{Made}
use Rattle.type_derive.specs.inner.Filling.{Making, pure, ◌>=>◌}
use Rattle.type_derive.specs.Typing as typing
use Rattle.type_derive.specs.Typing.{◌>>=◌}
use Rattle.typed_trees.specs.declared.build_places.Builder.{Builder}
use Rattle.typed_trees.specs.declared.build_places.Plan.{Plan}
use Rattle.typed_trees.specs.Fits.{RoutineFits}
use Rattle.typed_trees.specs.Steps.{IsBuilt, handler_step}
use Rattle.typed_trees.specs.Functions as functions
use Rattle.typed_trees.specs.Sites.{tree_made, body_made, tree_kind, noted, spot_of, member_read, part_behind, class_behind}
use Rattle.typed_trees.proofs.Nodes.{made_of}
use Rattle.typed_trees.proofs.Made.{alone}
use Rattle.typed_trees.proofs.Pieces.{stays, via, via_at}

leaf_built : (p : Plan) (st : b.Site) (g : Option StaticType) (x y : Tree) (r it : TypedTree) (c : Builder) → x ≡ y → pure r ≡ tree_made p st g y → it ≡ r → IsBuilt c c (tree_made p st g x) it
leaf_built p st g x y r it c is made node = via c c (pure r) (tree_made p st g x) r it (made ∙ sym (ap (tree_made p st g) is)) (sym node) (stays c r)

pub num_built : (p : Plan) (st : b.Site) (g : Option StaticType) (x : Expr) (v : ℤ) (c : Builder) (it : TypedTree) → x.node ≡ n.Num v → it ≡ e.Num t.Number v → IsBuilt c c (tree_made p st g (tree x)) it
unfolding tree_made tree_kind
num_built p st g x v c it is node = leaf_built p st g (tree x) (Num x.at v) (e.Num t.Number v) it c (ap (node_tree x.at) is) refl node

pub num_kind : (p : Plan) (st : b.Site) (g : Option StaticType) (x : Expr) (v : ℤ) (k : Option StaticType) → x.node ≡ n.Num v → k ≡ Some number → k ≡ tree_kind p st g (tree x)
unfolding tree_kind
num_kind p st g x v k is kind = kind ∙ sym (ap (λ q. tree_kind p st g (node_tree x.at q)) is)

pub text_built : (p : Plan) (st : b.Site) (g : Option StaticType) (x : Expr) (v : ℕ) (c : Builder) (it : TypedTree) → x.node ≡ n.Text v → it ≡ e.Text t.Text v → IsBuilt c c (tree_made p st g (tree x)) it
unfolding tree_made tree_kind
text_built p st g x v c it is node = leaf_built p st g (tree x) (Text x.at v) (e.Text t.Text v) it c (ap (node_tree x.at) is) refl node

pub text_kind : (p : Plan) (st : b.Site) (g : Option StaticType) (x : Expr) (v : ℕ) (k : Option StaticType) → x.node ≡ n.Text v → k ≡ Some text → k ≡ tree_kind p st g (tree x)
unfolding tree_kind
text_kind p st g x v k is kind = kind ∙ sym (ap (λ q. tree_kind p st g (node_tree x.at q)) is)

pub truth_built : (p : Plan) (st : b.Site) (g : Option StaticType) (x : Expr) (v : Bool) (c : Builder) (it : TypedTree) → x.node ≡ n.Truth v → it ≡ e.Truth t.Boolean v → IsBuilt c c (tree_made p st g (tree x)) it
unfolding tree_made tree_kind
truth_built p st g x v c it is node = leaf_built p st g (tree x) (Truth x.at v) (e.Truth t.Boolean v) it c (ap (node_tree x.at) is) refl node

pub truth_kind : (p : Plan) (st : b.Site) (g : Option StaticType) (x : Expr) (v : Bool) (k : Option StaticType) → x.node ≡ n.Truth v → k ≡ Some boolean → k ≡ tree_kind p st g (tree x)
unfolding tree_kind
truth_kind p st g x v k is kind = kind ∙ sym (ap (λ q. tree_kind p st g (node_tree x.at q)) is)

pub null_built : (p : Plan) (st : b.Site) (g : Option StaticType) (x : Expr) (c : Builder) (it : TypedTree) → x.node ≡ n.Null → it ≡ e.Null t.NullType → IsBuilt c c (tree_made p st g (tree x)) it
unfolding tree_made tree_kind
null_built p st g x c it is node = leaf_built p st g (tree x) (Null x.at) (e.Null t.NullType) it c (ap (node_tree x.at) is) refl node

pub null_kind : (p : Plan) (st : b.Site) (g : Option StaticType) (x : Expr) (k : Option StaticType) → x.node ≡ n.Null → k ≡ Some null → k ≡ tree_kind p st g (tree x)
unfolding tree_kind
null_kind p st g x k is kind = kind ∙ sym (ap (λ q. tree_kind p st g (node_tree x.at q)) is)

pub this_built : (p : Plan) (st : b.Site) (g : Option StaticType) (x : Expr) (c : Builder) (it : TypedTree) → x.node ≡ n.This → it ≡ e.This (noted (rule.this_kind st.place.this)) → IsBuilt c c (tree_made p st g (tree x)) it
unfolding tree_made tree_kind
this_built p st g x c it is node = leaf_built p st g (tree x) (This x.at) (e.This (noted (rule.this_kind st.place.this))) it c (ap (node_tree x.at) is) refl node

pub this_kind : (p : Plan) (st : b.Site) (g : Option StaticType) (x : Expr) (k : Option StaticType) → x.node ≡ n.This → k ≡ rule.this_kind st.place.this → k ≡ tree_kind p st g (tree x)
unfolding tree_kind
this_kind p st g x k is kind = kind ∙ sym (ap (λ q. tree_kind p st g (node_tree x.at q)) is)

pub name_built : (p : Plan) (st : b.Site) (g : Option StaticType) (x : Expr) (v : ℕ) (c : Builder) (it : TypedTree) → x.node ≡ n.Name v → it ≡ e.Name (noted (rule.name_kind p.known.now st.place (typing.finds p.tables.now p.known.now st.place v))) (spot_of p st (typing.finds p.tables.now p.known.now st.place v)) → IsBuilt c c (tree_made p st g (tree x)) it
unfolding tree_made tree_kind
name_built p st g x v c it is node = leaf_built p st g (tree x) (Name x.at v) (e.Name (noted (rule.name_kind p.known.now st.place (typing.finds p.tables.now p.known.now st.place v))) (spot_of p st (typing.finds p.tables.now p.known.now st.place v))) it c (ap (node_tree x.at) is) refl node

pub name_kind : (p : Plan) (st : b.Site) (g : Option StaticType) (x : Expr) (v : ℕ) (k : Option StaticType) → x.node ≡ n.Name v → k ≡ rule.name_kind p.known.now st.place (typing.finds p.tables.now p.known.now st.place v) → k ≡ tree_kind p st g (tree x)
unfolding tree_kind
name_kind p st g x v k is kind = kind ∙ sym (ap (λ q. tree_kind p st g (node_tree x.at q)) is)

pub constant_made : (p : Plan) (s : b.Site) (g : Option StaticType) (at : ℕ) (a : Tree) (x m n : ℕ) (z : ℤ) → typing.constant_of p.tables.now p.known.now s.place a x ≡ Some z → tree_made p s g (Member at a x) m n ≡ made_of (e.Num t.Number z) [] []
unfolding tree_made tree_kind
constant_made p s g at a x m n z h =
    let made : Option ℤ → Making TypedTree = λ o. elim o [
      | Some z ↦ pure (e.Num t.Number z)
      | None ↦ tree_made p s None a >=> λ y. pure (member_read p (noted (tree_kind p s g (Member at a x))) (part_behind p (tree_kind p s None a) x) (class_behind (tree_kind p s None a)) x y)
    ] in
    ap (λ (o : Option ℤ). made o m n) h

pub constant_kind : (p : Plan) (s : b.Site) (g : Option StaticType) (at : ℕ) (a : Tree) (x : ℕ) (z : ℤ) → typing.constant_of p.tables.now p.known.now s.place a x ≡ Some z → tree_kind p s g (Member at a x) ≡ Some number
unfolding tree_kind
constant_kind p s g at a x z h = ap (λ (o : Option ℤ). elim o [ Some z ↦ Some number | None ↦ tree_kind p s None a >>= λ u. rule.part_kind p.known.now (rule.part_of p.tables.now.names p.known.now u x) ]) h

pub member_made : (p : Plan) (s : b.Site) (g : Option StaticType) (at : ℕ) (a : Tree) (x m n : ℕ) → typing.constant_of p.tables.now p.known.now s.place a x ≡ None → tree_made p s g (Member at a x) m n
    ≡ made_of (member_read p (noted (tree_kind p s g (Member at a x))) (part_behind p (tree_kind p s None a) x) (class_behind (tree_kind p s None a)) x (tree_made p s None a m n).it) (tree_made p s None a m n).locals (tree_made p s None a m n).routines
unfolding tree_made tree_kind
member_made p s g at a x m n h =
    let made : Option ℤ → Making TypedTree = λ o. elim o [
      | Some z ↦ pure (e.Num t.Number z)
      | None ↦ tree_made p s None a >=> λ y. pure (member_read p (noted (tree_kind p s g (Member at a x))) (part_behind p (tree_kind p s None a) x) (class_behind (tree_kind p s None a)) x y)
    ] in
    ap (λ (o : Option ℤ). made o m n) h ∙ alone (tree_made p s None a m n) (member_read p (noted (tree_kind p s g (Member at a x))) (part_behind p (tree_kind p s None a) x) (class_behind (tree_kind p s None a)) x (tree_made p s None a m n).it)

pub member_kind : (p : Plan) (s : b.Site) (g : Option StaticType) (at : ℕ) (a : Tree) (x : ℕ) → typing.constant_of p.tables.now p.known.now s.place a x ≡ None
    → tree_kind p s g (Member at a x) ≡ (tree_kind p s None a >>= λ u. rule.part_kind p.known.now (rule.part_of p.tables.now.names p.known.now u x))
unfolding tree_kind
member_kind p s g at a x h = ap (λ (o : Option ℤ). elim o [ Some z ↦ Some number | None ↦ tree_kind p s None a >>= λ u. rule.part_kind p.known.now (rule.part_of p.tables.now.names p.known.now u x) ]) h

-- a constant of the board
pub constant_built : (p : Plan) (st : b.Site) (g : Option StaticType) (x : Expr) (a : Box Expr Global) (m : ℕ) (a' : Expr) (z : ℤ) (c : Builder) (it : TypedTree)
    → x.node ≡ n.Member a m → a' ≡ a.value → typing.constant_of p.tables.now p.known.now st.place (tree a') m ≡ Some z → it ≡ e.Num t.Number z → IsBuilt c c (tree_made p st g (tree x)) it
constant_built p st g x a m a' z c it is same h node =
    let made : tree_made p st g (Member x.at (tree a') m) c.local c.function ≡ made_of (e.Num t.Number z) [] [] = constant_made p st g x.at (tree a') m c.local c.function z h in
    let whole : tree x ≡ Member x.at (tree a') m = ap (node_tree x.at) is ∙ ap (λ (y : Expr). Member x.at (tree y) m) (sym same) in
    via_at c c (pure (e.Num t.Number z)) (tree_made p st g (tree x)) (e.Num t.Number z) it (sym (ap (λ (q : Tree). tree_made p st g q c.local c.function) whole ∙ made)) (sym node) (stays c (e.Num t.Number z))

pub constant_noted : (p : Plan) (st : b.Site) (g : Option StaticType) (x : Expr) (a : Box Expr Global) (m : ℕ) (a' : Expr) (z : ℤ) (k : Option StaticType)
    → x.node ≡ n.Member a m → a' ≡ a.value → typing.constant_of p.tables.now p.known.now st.place (tree a') m ≡ Some z → k ≡ Some number → k ≡ tree_kind p st g (tree x)
constant_noted p st g x a m a' z k is same h kind =
    kind ∙ sym (constant_kind p st g x.at (tree a') m z h) ∙ sym (ap (tree_kind p st g) (ap (node_tree x.at) is ∙ ap (λ (y : Expr). Member x.at (tree y) m) (sym same)))

-- a handler
handler_is : (p : Plan) (st : b.Site) (g : Option StaticType) (at : ℕ) (r : Routine) → handler_step p st r ≡ tree_made p st g (Handler at r)
unfolding tree_made body_made handler_step
handler_is p st g at r = refl

handler_tree : (x : Expr) (a : Box Body Global) (a' : Body) → x.node ≡ n.Handler a → a' ≡ a.value → tree x ≡ Handler x.at (routine a')
handler_tree x a a' is same = ap (node_tree x.at) is ∙ ap (λ (y : Body). Handler x.at (routine y)) (sym same)

pub handler_built : (p : Plan) (st : b.Site) (g : Option StaticType) (x : Expr) (a : Box Body Global) (a' : Body) (c d : Builder) (it : TypedTree)
    → x.node ≡ n.Handler a → a' ≡ a.value → IsBuilt c d (handler_step p st (routine a')) it → IsBuilt c d (tree_made p st g (tree x)) it
handler_built p st g x a a' c d it is same built =
    subst (λ (f : Making TypedTree). IsBuilt c d f it) (handler_is p st g x.at (routine a') ∙ sym (ap (tree_made p st g) (handler_tree x a a' is same))) built

pub handler_kind : (p : Plan) (st : b.Site) (g : Option StaticType) (x : Expr) (a : Box Body Global) (k : Option StaticType) → x.node ≡ n.Handler a → k ≡ None → k ≡ tree_kind p st g (tree x)
unfolding tree_kind
handler_kind p st g x a k is kind = kind ∙ sym (ap (λ q. tree_kind p st g (node_tree x.at q)) is)

-- its function stands behind those that are there, and those in it behind that one
pub handler_joined : (p : Plan) (st : b.Site) (r : Routine) (c d : Builder) (own : TypedRoutine) (inner : List TypedRoutine) (it : TypedTree)
    → it ≡ e.Handler t.Nothing c.function
    → (RoutineFits c.function (functions.routine p [] t.Nothing (body_made p st r) c.function) → own ≡ (functions.routine p [] t.Nothing (body_made p st r) c.function).it)
    → (RoutineFits c.function (functions.routine p [] t.Nothing (body_made p st r) c.function) → inner ≡ (functions.routine p [] t.Nothing (body_made p st r) c.function).routines)
    → value_types d.locals ≡ value_types c.locals → typed_routines d.routines ≡ typed_routines c.routines ++ (own ∷ inner) → d.local ≡ c.local
    → (RoutineFits c.function (functions.routine p [] t.Nothing (body_made p st r) c.function) → d.function ≡ c.function + 1 + length (functions.routine p [] t.Nothing (body_made p st r) c.function).routines)
    → IsBuilt c d (handler_step p st r) it
unfolding handler_step
handler_joined p st r c d own inner it node first others locals all local behind fits =
    let R : Made TypedRoutine = functions.routine p [] t.Nothing (body_made p st r) c.function in
    let few : RoutineFits c.function R = fits.1 in
    let behind' = behind few in
    let function : d.function ≡ c.function + length (R.it ∷ R.routines) = omega (arith, behind') in (
      node,
      (
        locals ∙ sym (append-nil (value_types c.locals)),
        (
          all ∙ ap (λ (x : TypedRoutine). typed_routines c.routines ++ (x ∷ inner)) (first few) ∙ ap (λ (xs : List TypedRoutine). typed_routines c.routines ++ (R.it ∷ xs)) (others few),
          (local ∙ sym (add-zero c.local), function),
        ),
      ),
    )
