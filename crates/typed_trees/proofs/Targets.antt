-- Whether a member may be set.
use Rattle.std.proofs.Common.{◌≡◌, ℕ, ℤ, Bool, Option, Some, None, refl, sym, ap, ◌∙◌}
use Rattle.std.specs.Prelude.{false}
use Rattle.std.specs.declared.alloc.Global.{Global}
use Rattle.std.specs.declared.boxed.Box.{Box}
use Rattle.sts_syntax.specs.declared.trees.Expr.{Expr}
use Rattle.sts_syntax.specs.declared.trees.Node.TheVariants as node
use Rattle.sts_syntax.specs.Trees.{Tree, Member}
use Rattle.sts_syntax.specs.Views.{tree, node_tree}
use Rattle.sts_scope.specs.declared.kinds.StaticType.{StaticType}
use Rattle.sts_scope.specs.Kinds.{is_array, class_of}
use Rattle.sts_scope.specs.Rules as rule
use Rattle.type_derive.specs.inner.Filled as b
use Rattle.type_derive.specs.Typing as typing
use Rattle.type_derive.specs.Typing.{◌>>=◌}
use Rattle.typed_trees.specs.declared.build_places.Plan.{Plan}
use Rattle.typed_trees.specs.Sites.{tree_kind, part_behind}

-- whether what stands behind the dot of what has a type, or none, may be set
abbrev behind : (p : Plan) → Option StaticType → ℕ → Bool
behind p of m = elim of [ None ↦ false | Some u ↦ rule.part_settable (rule.part_of p.tables.now.names p.known.now u m) ]

behind_settable : (p : Plan) (of : Option StaticType) (m : ℕ) → rule.part_settable (part_behind p of m) ≡ behind p of m
unfolding rule.part_of is_array class_of
behind_settable p None m = refl
behind_settable p (Some u) m = refl

by_constant : (p : Plan) (s : b.Site) (at : ℕ) (a : Tree) (m : ℕ) (o : Option ℤ) → typing.constant_of p.tables.now p.known.now s.place a m ≡ o
    → typing.settable p.tables.now p.known.now s.place (Member at a m) ≡ elim o as (λ q. Bool) [ Some z ↦ false | None ↦ behind p (tree_kind p s None a) m ]
unfolding tree_kind
by_constant p s at a m o c = ap (λ (q : Option ℤ). elim q as (λ r. Bool) [ Some z ↦ false | None ↦ behind p (tree_kind p s None a) m ]) c

member_is : (x : Expr) (a : Box Expr Global) (m : ℕ) (a' : Expr) → x.node ≡ node.Member a m → a' ≡ a.value → tree x ≡ Member x.at (tree a') m
member_is x a m a' is same = ap (node_tree x.at) is ∙ ap (λ (y : Expr). Member x.at (tree y) m) (sym same)

-- no constant of the board is set
pub constant_kept : (p : Plan) (s : b.Site) (x : Expr) (a : Box Expr Global) (m : ℕ) (a' : Expr) (z : ℤ) → x.node ≡ node.Member a m → a' ≡ a.value → typing.constant_of p.tables.now p.known.now s.place (tree a') m ≡ Some z
    → false ≡ typing.settable p.tables.now p.known.now s.place (tree x)
constant_kept p s x a m a' z is same c = sym (ap (typing.settable p.tables.now p.known.now s.place) (member_is x a m a' is same) ∙ by_constant p s x.at (tree a') m (Some z) c)

-- a member is set where its part may be
pub member_set : (p : Plan) (s : b.Site) (x : Expr) (a : Box Expr Global) (m : ℕ) (a' a'' : Expr) (k : Option StaticType) (can : Bool) → x.node ≡ node.Member a m → a' ≡ a.value → a'' ≡ a.value → typing.constant_of p.tables.now p.known.now s.place (tree a') m ≡ None
    → k ≡ tree_kind p s None (tree a'') → can ≡ rule.part_settable (part_behind p k m) → can ≡ typing.settable p.tables.now p.known.now s.place (tree x)
member_set p s x a m a' a'' k can is same same' c kind may =
    may ∙ ap (λ q. rule.part_settable (part_behind p q m)) (kind ∙ ap (λ (y : Expr). tree_kind p s None (tree y)) (same' ∙ sym same)) ∙ behind_settable p (tree_kind p s None (tree a')) m
    ∙ sym (ap (typing.settable p.tables.now p.known.now s.place) (member_is x a m a' is same) ∙ by_constant p s x.at (tree a') m None c)
