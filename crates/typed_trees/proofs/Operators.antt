-- Operators and members, built operand behind operand.
use Rattle.std.proofs.Common.{◌≡◌, ℕ, ℤ, Bool, Option, Some, None, refl, sym, ap, ◌∙◌, subst}
use Rattle.std.specs.Prelude.{if◌then◌else◌}
use Rattle.std.specs.declared.alloc.Global.{Global}
use Rattle.std.specs.declared.boxed.Box.{Box}
use Rattle.sts_syntax.specs.declared.trees.Expr.{Expr}
use Rattle.sts_syntax.specs.declared.trees.Node.TheVariants as n
use Rattle.sts_syntax.specs.Types as t
use Rattle.sts_syntax.specs.Types.{ValueType}
use Rattle.sts_syntax.specs.TypedTrees as e
use Rattle.sts_syntax.specs.TypedTrees.{TypedTree}
use Rattle.sts_syntax.specs.TypedViews.{typed_tree}
use Rattle.sts_syntax.specs.Trees.{Tree, Unary, Binary, Both, Either, Choice, Set, Bump, Member, Item}
use Rattle.sts_syntax.specs.Views.{tree, node_tree}
use Rattle.sts_scope.specs.declared.kinds.StaticType.{StaticType}
use Rattle.sts_scope.specs.Rules as rule
use Rattle.type_derive.specs.inner.Filled as b
use Rattle.type_derive.specs.inner.Filling.{Making, pure, ◌>=>◌}
use Rattle.type_derive.specs.Typing as typing
use Rattle.type_derive.specs.Typing.{◌>>=◌}
use Rattle.typed_trees.specs.declared.build_nodes.Part.{Part}
use Rattle.typed_trees.specs.declared.build_operators.Operator.{Operator}
use Rattle.typed_trees.specs.declared.build_operators.Operator.TheVariants as o
use Rattle.typed_trees.specs.declared.build_places.Builder.{Builder}
use Rattle.typed_trees.specs.declared.build_places.Plan.{Plan}
use Rattle.typed_trees.specs.Operators.{last_given, operator_kind, operator_node, last_made}
use Rattle.typed_trees.specs.Sites.{tree_made, tree_kind, noted, member_read, part_behind, class_behind}
use Rattle.typed_trees.specs.Steps.{IsBuilt}
use Rattle.typed_trees.proofs.Leaves.{member_kind}
use Rattle.typed_trees.proofs.Pieces.{then as onward, last, via}

-- what is made of one operand and its type
one_built : (p : Plan) (st : b.Site) (a : Tree) (whole : Making TypedTree) (h : Option StaticType → TypedTree → TypedTree) (c d : Builder) (k : Option StaticType) (y it : TypedTree)
    → k ≡ tree_kind p st None a → (tree_made p st None a >=> λ z. pure (h (tree_kind p st None a) z)) ≡ whole → it ≡ h k y → IsBuilt c d (tree_made p st None a) y → IsBuilt c d whole it
one_built p st a whole h c d k y it kind is node built =
    via c d (tree_made p st None a >=> λ z. pure (h (tree_kind p st None a) z)) whole (h (tree_kind p st None a) y) it is (ap (λ (w : Option StaticType). h w y) (sym kind) ∙ sym node)
    (last c d (tree_made p st None a) (λ z. h (tree_kind p st None a) z) y built)

-- a prefix operator
unary_is : (p : Plan) (st : b.Site) (g : Option StaticType) (at op : ℕ) (a : Tree) → (tree_made p st None a >=> λ z. pure (e.Unary (noted (tree_kind p st None a >>= λ u. rule.prefix op u)) op z)) ≡ tree_made p st g (Unary at op a)
unfolding tree_made tree_kind
unary_is p st g at op a = refl

unary_tree : (x : Expr) (op : ℕ) (a : Box Expr Global) (a' : Expr) → x.node ≡ n.Unary op a → a' ≡ a.value → tree x ≡ Unary x.at op (tree a')
unary_tree x op a a' is same = ap (node_tree x.at) is ∙ ap (λ (y : Expr). Unary x.at op (tree y)) (sym same)

pub unary_built : (p : Plan) (st : b.Site) (g : Option StaticType) (x : Expr) (op : ℕ) (a : Box Expr Global) (a' : Expr) (c d : Builder) (q : Part) (it : TypedTree)
    → x.node ≡ n.Unary op a → a' ≡ a.value → q.kind ≡ tree_kind p st None (tree a') → it ≡ e.Unary (noted (q.kind >>= λ u. rule.prefix op u)) op (typed_tree q.tree.value)
    → IsBuilt c d (tree_made p st None (tree a')) (typed_tree q.tree.value) → IsBuilt c d (tree_made p st g (tree x)) it
unary_built p st g x op a a' c d q it is same kind node built =
    one_built p st (tree a') (tree_made p st g (tree x)) (λ k z. e.Unary (noted (k >>= λ u. rule.prefix op u)) op z) c d q.kind (typed_tree q.tree.value) it kind
    (unary_is p st g x.at op (tree a') ∙ sym (ap (tree_made p st g) (unary_tree x op a a' is same))) node built

pub unary_kind : (p : Plan) (st : b.Site) (g : Option StaticType) (x : Expr) (op : ℕ) (a : Box Expr Global) (a' : Expr) (k r : Option StaticType)
    → x.node ≡ n.Unary op a → a' ≡ a.value → k ≡ tree_kind p st None (tree a') → r ≡ (k >>= λ u. rule.prefix op u) → r ≡ tree_kind p st g (tree x)
unfolding tree_kind
unary_kind p st g x op a a' k r is same kind result =
    result ∙ ap (λ (w : Option StaticType). w >>= λ u. rule.prefix op u) kind ∙ sym (ap (tree_kind p st g) (unary_tree x op a a' is same))

-- `++` and `--`
bump_tree : (x : Expr) (a : Box Expr Global) (by : ℤ) (late : Bool) (a' : Expr) → x.node ≡ n.Bump a by late → a' ≡ a.value → tree x ≡ Bump x.at (tree a') by late
bump_tree x a by late a' is same = ap (node_tree x.at) is ∙ ap (λ (y : Expr). Bump x.at (tree y) by late) (sym same)

bump_is : (p : Plan) (st : b.Site) (g : Option StaticType) (at : ℕ) (a : Tree) (by : ℤ) (late : Bool) → (tree_made p st None a >=> λ z. pure (e.Bump t.Number z by late)) ≡ tree_made p st g (Bump at a by late)
unfolding tree_made
bump_is p st g at a by late = refl

pub bump_built : (p : Plan) (st : b.Site) (g : Option StaticType) (x : Expr) (a : Box Expr Global) (by : ℤ) (late : Bool) (a' : Expr) (c d : Builder) (q : Part) (it : TypedTree)
    → x.node ≡ n.Bump a by late → a' ≡ a.value → it ≡ e.Bump t.Number (typed_tree q.tree.value) by late
    → IsBuilt c d (tree_made p st None (tree a')) (typed_tree q.tree.value) → IsBuilt c d (tree_made p st g (tree x)) it
bump_built p st g x a by late a' c d q it is same node built =
    via c d (tree_made p st None (tree a') >=> λ z. pure (e.Bump t.Number z by late)) (tree_made p st g (tree x)) (e.Bump t.Number (typed_tree q.tree.value) by late) it
    (bump_is p st g x.at (tree a') by late ∙ sym (ap (tree_made p st g) (bump_tree x a by late a' is same))) (sym node)
    (last c d (tree_made p st None (tree a')) (λ z. e.Bump t.Number z by late) (typed_tree q.tree.value) built)

pub bump_kind : (p : Plan) (st : b.Site) (g : Option StaticType) (x : Expr) (a : Box Expr Global) (by : ℤ) (late : Bool) (a' y : Expr) (k r : Option StaticType) (can : Bool)
    → x.node ≡ n.Bump a by late → a' ≡ a.value → y ≡ a.value → k ≡ tree_kind p st None (tree a') → can ≡ typing.settable p.tables.now p.known.now st.place (tree y)
    → r ≡ (k >>= λ u. if can then rule.counted u else None) → r ≡ tree_kind p st g (tree x)
unfolding tree_kind
bump_kind p st g x a by late a' y k r can is same other kind may result =
    result ∙ ap (λ (w : Option StaticType). w >>= λ u. if can then rule.counted u else None) kind
    ∙ ap (λ (q : Bool). tree_kind p st None (tree a') >>= λ u. if q then rule.counted u else None) (may ∙ ap (λ (z : Expr). typing.settable p.tables.now p.known.now st.place (tree z)) (other ∙ sym same))
    ∙ sym (ap (tree_kind p st g) (bump_tree x a by late a' is same))

-- a member that is read
member_tree : (x : Expr) (a : Box Expr Global) (m : ℕ) (a' : Expr) → x.node ≡ n.Member a m → a' ≡ a.value → tree x ≡ Member x.at (tree a') m
member_tree x a m a' is same = ap (node_tree x.at) is ∙ ap (λ (y : Expr). Member x.at (tree y) m) (sym same)

read_is : (p : Plan) (st : b.Site) (g : Option StaticType) (at : ℕ) (a : Tree) (m : ℕ) → typing.constant_of p.tables.now p.known.now st.place a m ≡ None
    → (tree_made p st None a >=> λ y. pure (member_read p (noted (tree_kind p st g (Member at a m))) (part_behind p (tree_kind p st None a) m) (class_behind (tree_kind p st None a)) m y)) ≡ tree_made p st g (Member at a m)
unfolding tree_made tree_kind
read_is p st g at a m h =
    let made : Option ℤ → Making TypedTree = λ q. elim q [
      | Some z ↦ pure (e.Num t.Number z)
      | None ↦ tree_made p st None a >=> λ y. pure (member_read p (noted (tree_kind p st g (Member at a m))) (part_behind p (tree_kind p st None a) m) (class_behind (tree_kind p st None a)) m y)
    ] in
    sym (ap made h)

pub read_built : (p : Plan) (st : b.Site) (g : Option StaticType) (x : Expr) (a : Box Expr Global) (m : ℕ) (a' y : Expr) (c d : Builder) (q : Part) (it : TypedTree)
    → x.node ≡ n.Member a m → a' ≡ a.value → y ≡ a.value → typing.constant_of p.tables.now p.known.now st.place (tree y) m ≡ None → q.kind ≡ tree_kind p st None (tree a')
    → it ≡ member_read p (noted (q.kind >>= λ u. rule.part_kind p.known.now (rule.part_of p.tables.now.names p.known.now u m))) (part_behind p q.kind m) (class_behind q.kind) m (typed_tree q.tree.value)
    → IsBuilt c d (tree_made p st None (tree a')) (typed_tree q.tree.value) → IsBuilt c d (tree_made p st g (tree x)) it
read_built p st g x a m a' y c d q it is same other none kind node built =
    let A = tree a' in
    let no : typing.constant_of p.tables.now p.known.now st.place A m ≡ None = ap (λ (z : Expr). typing.constant_of p.tables.now p.known.now st.place (tree z) m) (same ∙ sym other) ∙ none in
    one_built p st A (tree_made p st g (tree x))
    (λ k z. member_read p (noted (k >>= λ u. rule.part_kind p.known.now (rule.part_of p.tables.now.names p.known.now u m))) (part_behind p k m) (class_behind k) m z) c d q.kind (typed_tree q.tree.value) it kind
    (ap (λ (w : Option StaticType). tree_made p st None A >=> λ z. pure (member_read p (noted w) (part_behind p (tree_kind p st None A) m) (class_behind (tree_kind p st None A)) m z)) (sym (member_kind p st g x.at A m no))
    ∙ read_is p st g x.at A m no ∙ sym (ap (tree_made p st g) (member_tree x a m a' is same))) node built

pub read_kind : (p : Plan) (st : b.Site) (g : Option StaticType) (x : Expr) (a : Box Expr Global) (m : ℕ) (a' y : Expr) (k r : Option StaticType)
    → x.node ≡ n.Member a m → a' ≡ a.value → y ≡ a.value → typing.constant_of p.tables.now p.known.now st.place (tree y) m ≡ None → k ≡ tree_kind p st None (tree a')
    → r ≡ (k >>= λ u. rule.part_kind p.known.now (rule.part_of p.tables.now.names p.known.now u m)) → r ≡ tree_kind p st g (tree x)
read_kind p st g x a m a' y k r is same other none kind result =
    let no : typing.constant_of p.tables.now p.known.now st.place (tree a') m ≡ None = ap (λ (z : Expr). typing.constant_of p.tables.now p.known.now st.place (tree z) m) (same ∙ sym other) ∙ none in
    result ∙ ap (λ (w : Option StaticType). w >>= λ u. rule.part_kind p.known.now (rule.part_of p.tables.now.names p.known.now u m)) kind
    ∙ sym (member_kind p st g x.at (tree a') m no) ∙ sym (ap (tree_kind p st g) (member_tree x a m a' is same))

-- An expression is an operator with two operands: they are made one behind the other, and its type is by theirs.
pub record IsOperation (p : Plan) (st : b.Site) (g : Option StaticType) (q : Operator) (x a c : Tree) : Type 0 where
  pub made : (tree_made p st None a >=> λ y. last_made p st q (tree_kind p st None a) y c) ≡ tree_made p st g x
  pub kind : operator_kind p q (tree_kind p st None a) (tree_kind p st (last_given q (tree_kind p st None a)) c) ≡ tree_kind p st g x

binary : (p : Plan) (st : b.Site) (g : Option StaticType) (at op : ℕ) (a c : Tree) → IsOperation p st g (o.Binary op) (Binary at op a c) a c
unfolding tree_made tree_kind last_made
binary p st g at op a c = record { made = refl; kind = refl }

both : (p : Plan) (st : b.Site) (g : Option StaticType) (at : ℕ) (a c : Tree) → IsOperation p st g o.Both (Both at a c) a c
unfolding tree_made tree_kind last_made
both p st g at a c = record { made = refl; kind = refl }

either : (p : Plan) (st : b.Site) (g : Option StaticType) (at : ℕ) (a c : Tree) → IsOperation p st g o.Either (Either at a c) a c
unfolding tree_made tree_kind last_made
either p st g at a c = record { made = refl; kind = refl }

item : (p : Plan) (st : b.Site) (g : Option StaticType) (at : ℕ) (a c : Tree) → IsOperation p st g o.Item (Item at a c) a c
unfolding tree_made tree_kind last_made
item p st g at a c = record { made = refl; kind = refl }

set : (p : Plan) (st : b.Site) (g : Option StaticType) (at : ℕ) (op : Option ℕ) (a c : Tree) → IsOperation p st g (o.Set op (typing.settable p.tables.now p.known.now st.place a)) (Set at op a c) a c
unfolding tree_made tree_kind last_made
set p st g at op a c = record { made = refl; kind = refl }

pub binary_is : (p : Plan) (st : b.Site) (g : Option StaticType) (x : Expr) (op : ℕ) (a c : Box Expr Global) (a' c' : Expr) → x.node ≡ n.Binary op a c → a' ≡ a.value → c' ≡ c.value
    → IsOperation p st g (o.Binary op) (tree x) (tree a') (tree c')
binary_is p st g x op a c a' c' is ha hc =
    subst (λ (y : Tree). IsOperation p st g (o.Binary op) y (tree a') (tree c'))
    (sym (ap (node_tree x.at) is ∙ ap (λ (y : Expr). Binary x.at op (tree y) (tree c.value)) (sym ha) ∙ ap (λ (y : Expr). Binary x.at op (tree a') (tree y)) (sym hc)))
    (binary p st g x.at op (tree a') (tree c'))

pub both_is : (p : Plan) (st : b.Site) (g : Option StaticType) (x : Expr) (a c : Box Expr Global) (a' c' : Expr) → x.node ≡ n.Both a c → a' ≡ a.value → c' ≡ c.value
    → IsOperation p st g o.Both (tree x) (tree a') (tree c')
both_is p st g x a c a' c' is ha hc =
    subst (λ (y : Tree). IsOperation p st g o.Both y (tree a') (tree c'))
    (sym (ap (node_tree x.at) is ∙ ap (λ (y : Expr). Both x.at (tree y) (tree c.value)) (sym ha) ∙ ap (λ (y : Expr). Both x.at (tree a') (tree y)) (sym hc)))
    (both p st g x.at (tree a') (tree c'))

pub either_is : (p : Plan) (st : b.Site) (g : Option StaticType) (x : Expr) (a c : Box Expr Global) (a' c' : Expr) → x.node ≡ n.Either a c → a' ≡ a.value → c' ≡ c.value
    → IsOperation p st g o.Either (tree x) (tree a') (tree c')
either_is p st g x a c a' c' is ha hc =
    subst (λ (y : Tree). IsOperation p st g o.Either y (tree a') (tree c'))
    (sym (ap (node_tree x.at) is ∙ ap (λ (y : Expr). Either x.at (tree y) (tree c.value)) (sym ha) ∙ ap (λ (y : Expr). Either x.at (tree a') (tree y)) (sym hc)))
    (either p st g x.at (tree a') (tree c'))

pub item_is : (p : Plan) (st : b.Site) (g : Option StaticType) (x : Expr) (a c : Box Expr Global) (a' c' : Expr) → x.node ≡ n.Item a c → a' ≡ a.value → c' ≡ c.value
    → IsOperation p st g o.Item (tree x) (tree a') (tree c')
item_is p st g x a c a' c' is ha hc =
    subst (λ (y : Tree). IsOperation p st g o.Item y (tree a') (tree c'))
    (sym (ap (node_tree x.at) is ∙ ap (λ (y : Expr). Item x.at (tree y) (tree c.value)) (sym ha) ∙ ap (λ (y : Expr). Item x.at (tree a') (tree y)) (sym hc)))
    (item p st g x.at (tree a') (tree c'))

pub set_is : (p : Plan) (st : b.Site) (g : Option StaticType) (x : Expr) (op : Option ℕ) (a c : Box Expr Global) (a' y c' : Expr) (can : Bool) → x.node ≡ n.Set op a c → a' ≡ a.value → y ≡ a.value → c' ≡ c.value
    → can ≡ typing.settable p.tables.now p.known.now st.place (tree y) → IsOperation p st g (o.Set op can) (tree x) (tree a') (tree c')
set_is p st g x op a c a' y c' can is ha hy hc may =
    subst (λ (q : Bool). IsOperation p st g (o.Set op q) (tree x) (tree a') (tree c'))
    (sym (may ∙ ap (λ (z : Expr). typing.settable p.tables.now p.known.now st.place (tree z)) (hy ∙ sym ha)))
    (subst (λ (w : Tree). IsOperation p st g (o.Set op (typing.settable p.tables.now p.known.now st.place (tree a'))) w (tree a') (tree c'))
    (sym (ap (node_tree x.at) is ∙ ap (λ (w : Expr). Set x.at op (tree w) (tree c.value)) (sym ha) ∙ ap (λ (w : Expr). Set x.at op (tree a') (tree w)) (sym hc)))
    (set p st g x.at op (tree a') (tree c')))

pub two_built : (p : Plan) (st : b.Site) (g : Option StaticType) (q : Operator) (x a c : Tree) (b0 b1 b2 : Builder) (k : Option StaticType) (y it : TypedTree)
    → IsOperation p st g q x a c → k ≡ tree_kind p st None a → IsBuilt b0 b1 (tree_made p st None a) y → IsBuilt b1 b2 (last_made p st q k y c) it → IsBuilt b0 b2 (tree_made p st g x) it
two_built p st g q x a c b0 b1 b2 k y it is kind one two =
    subst (λ (f : Making TypedTree). IsBuilt b0 b2 f it) is.made
    (onward b0 b1 b2 (tree_made p st None a) (λ z. last_made p st q (tree_kind p st None a) z c) y it one (subst (λ (w : Option StaticType). IsBuilt b1 b2 (last_made p st q w y c) it) kind two))

pub two_kind : (p : Plan) (st : b.Site) (g : Option StaticType) (q : Operator) (x a c : Tree) (k r : Option StaticType)
    → IsOperation p st g q x a c → k ≡ tree_kind p st None a → r ≡ operator_kind p q k (tree_kind p st (last_given q k) c) → r ≡ tree_kind p st g x
two_kind p st g q x a c k r is kind result = result ∙ ap (λ (w : Option StaticType). operator_kind p q w (tree_kind p st (last_given q w) c)) kind ∙ is.kind

-- a choice
choice_tree : (x : Expr) (q a c : Box Expr Global) (q' a' c' : Expr) → x.node ≡ n.Choice q a c → q' ≡ q.value → a' ≡ a.value → c' ≡ c.value → tree x ≡ Choice x.at (tree q') (tree a') (tree c')
choice_tree x q a c q' a' c' is hq ha hc =
    ap (node_tree x.at) is ∙ ap (λ (y : Expr). Choice x.at (tree y) (tree a.value) (tree c.value)) (sym hq)
    ∙ ap (λ (y : Expr). Choice x.at (tree q') (tree y) (tree c.value)) (sym ha) ∙ ap (λ (y : Expr). Choice x.at (tree q') (tree a') (tree y)) (sym hc)

three_built : (p : Plan) (st : b.Site) (g : Option StaticType) (at : ℕ) (q a c : Tree) (b0 b1 b2 b3 : Builder) (test : Part) (k : Option StaticType) (y it : TypedTree)
    → test.kind ≡ tree_kind p st None q → k ≡ tree_kind p st None a → IsBuilt b0 b1 (tree_made p st None q) (typed_tree test.tree.value) → IsBuilt b1 b2 (tree_made p st None a) y
    → IsBuilt b2 b3 (last_made p st (o.Choice test) k y c) it → IsBuilt b0 b3 (tree_made p st g (Choice at q a c)) it
unfolding tree_made tree_kind last_made
three_built p st g at q a c b0 b1 b2 b3 test k y it tested kind one two three =
    let T = typed_tree test.tree.value in
    let U : ValueType = noted (tree_kind p st g (Choice at q a c)) in
    let of : Option StaticType → Option StaticType → Making TypedTree =
    λ w v. tree_made p st None c >=> λ z. pure (e.Choice (noted (w >>= λ w. v >>= λ u. tree_kind p st None c >>= λ v. rule.choose p.known.now.classes w u v)) T y z) in
    let third : IsBuilt b2 b3 (of (tree_kind p st None q) (tree_kind p st None a)) it =
    subst (λ (w : Option StaticType). IsBuilt b2 b3 (of w (tree_kind p st None a)) it) tested (subst (λ (v : Option StaticType). IsBuilt b2 b3 (of test.kind v) it) kind three) in
    let second : IsBuilt b1 b3 (tree_made p st None a >=> λ y. tree_made p st None c >=> λ z. pure (e.Choice U T y z)) it =
    onward b1 b2 b3 (tree_made p st None a) (λ y. tree_made p st None c >=> λ z. pure (e.Choice U T y z)) y it two third in
    onward b0 b1 b3 (tree_made p st None q) (λ w. tree_made p st None a >=> λ y. tree_made p st None c >=> λ z. pure (e.Choice U w y z)) T it one second

pub choice_built : (p : Plan) (st : b.Site) (g : Option StaticType) (x : Expr) (q a c : Box Expr Global) (q' a' c' : Expr) (b0 b1 b2 b3 : Builder) (test : Part) (k : Option StaticType) (y it : TypedTree)
    → x.node ≡ n.Choice q a c → q' ≡ q.value → a' ≡ a.value → c' ≡ c.value → test.kind ≡ tree_kind p st None (tree q') → k ≡ tree_kind p st None (tree a')
    → IsBuilt b0 b1 (tree_made p st None (tree q')) (typed_tree test.tree.value) → IsBuilt b1 b2 (tree_made p st None (tree a')) y
    → IsBuilt b2 b3 (last_made p st (o.Choice test) k y (tree c')) it → IsBuilt b0 b3 (tree_made p st g (tree x)) it
choice_built p st g x q a c q' a' c' b0 b1 b2 b3 test k y it is hq ha hc tested kind one two three =
    subst (λ (z : Tree). IsBuilt b0 b3 (tree_made p st g z) it) (sym (choice_tree x q a c q' a' c' is hq ha hc))
    (three_built p st g x.at (tree q') (tree a') (tree c') b0 b1 b2 b3 test k y it tested kind one two three)

pub choice_kind : (p : Plan) (st : b.Site) (g : Option StaticType) (x : Expr) (q a c : Box Expr Global) (q' a' c' : Expr) (test : Part) (k r : Option StaticType)
    → x.node ≡ n.Choice q a c → q' ≡ q.value → a' ≡ a.value → c' ≡ c.value → test.kind ≡ tree_kind p st None (tree q') → k ≡ tree_kind p st None (tree a')
    → r ≡ operator_kind p (o.Choice test) k (tree_kind p st (last_given (o.Choice test) k) (tree c')) → r ≡ tree_kind p st g (tree x)
unfolding tree_kind
choice_kind p st g x q a c q' a' c' test k r is hq ha hc tested kind result =
    let of : Option StaticType → Option StaticType → Option StaticType = λ w v. w >>= λ w. v >>= λ u. tree_kind p st None (tree c') >>= λ v. rule.choose p.known.now.classes w u v in
    result ∙ ap (λ (w : Option StaticType). of w k) tested ∙ ap (λ (v : Option StaticType). of (tree_kind p st None (tree q')) v) kind ∙ sym (ap (tree_kind p st g) (choice_tree x q a c q' a' c' is hq ha hc))

-- the last operand, and the node
pub last_built : (p : Plan) (st : b.Site) (q q' : Operator) (x x' y : Part) (given : Option StaticType) (a : Tree) (c d : Builder) (it : TypedTree)
    → q' ≡ q → x' ≡ x → given ≡ last_given q x.kind → y.kind ≡ tree_kind p st given a → IsBuilt c d (tree_made p st given a) (typed_tree y.tree.value)
    → it ≡ operator_node q' (noted (operator_kind p q' x'.kind y.kind)) (typed_tree x'.tree.value) (typed_tree y.tree.value) → IsBuilt c d (last_made p st q x.kind (typed_tree x.tree.value) a) it
unfolding last_made
last_built p st q q' x x' y given a c d it eq ex to kind built node =
    let G : Option StaticType = last_given q x.kind in
    let Y : TypedTree = typed_tree y.tree.value in
    let h : TypedTree → TypedTree = λ z. operator_node q (noted (operator_kind p q x.kind (tree_kind p st G a))) (typed_tree x.tree.value) z in
    let same : it ≡ h Y =
    node ∙ ap (λ (w : Operator). operator_node w (noted (operator_kind p w x'.kind y.kind)) (typed_tree x'.tree.value) Y) eq
    ∙ ap (λ (w : Part). operator_node q (noted (operator_kind p q w.kind y.kind)) (typed_tree w.tree.value) Y) ex
    ∙ ap (λ (k : Option StaticType). operator_node q (noted (operator_kind p q x.kind k)) (typed_tree x.tree.value) Y) (kind ∙ ap (λ (w : Option StaticType). tree_kind p st w a) to) in
    let made : IsBuilt c d (tree_made p st G a) Y = subst (λ (w : Option StaticType). IsBuilt c d (tree_made p st w a) Y) to built in
    via c d (tree_made p st G a >=> λ z. pure (h z)) (last_made p st q x.kind (typed_tree x.tree.value) a) (h Y) it refl (sym same) (last c d (tree_made p st G a) h Y made)
