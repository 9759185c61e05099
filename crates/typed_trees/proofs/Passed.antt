-- Nodes with a list, once the list is built.
use Rattle.std.proofs.Common.{◌≡◌, ℕ, true, List, [], Option, Some, None, refl, sym, ap, ◌∙◌}
use Rattle.sts_syntax.specs.declared.typed.TypedExpr.{TypedExpr}
use Rattle.sts_syntax.specs.Types.{ValueType}
use Rattle.sts_syntax.specs.TypedTrees.{TypedTree, TypedTrees, none}
use Rattle.sts_syntax.specs.TypedViews.{typed_trees}
use Rattle.sts_syntax.specs.Trees.{Tree, Trees}
use Rattle.sts_syntax.specs.Views.{tree, node_tree}
use Rattle.sts_syntax.specs.declared.trees.Expr.{Expr}
use Rattle.sts_syntax.specs.declared.trees.Node.{Node}
use Rattle.sts_syntax.specs.declared.trees.Node.TheVariants as n
use Rattle.std.specs.declared.alloc.Global.{Global}
use Rattle.std.specs.declared.boxed.Box.{Box}
use Rattle.sts_scope.specs.declared.kinds.StaticType.{StaticType}
use Rattle.type_derive.specs.inner.Filled as b
use Rattle.type_derive.specs.inner.Filling.{pure}
use Rattle.typed_trees.specs.declared.build_heads.Head.{Head}
use Rattle.typed_trees.specs.declared.build_places.Builder.{Builder}
use Rattle.typed_trees.specs.declared.build_places.Plan.{Plan}
use Rattle.typed_trees.specs.Calls.{Kinds, behind_made, object_made, passed_made, head_of, head_node, has_list, type_noted}
use Rattle.typed_trees.proofs.Nodes.{head_made}
use Rattle.typed_trees.specs.Sites.{tree_made, tree_kind, given_made}
use Rattle.typed_trees.specs.Steps.{IsBuilt}
use Rattle.typed_trees.proofs.BuiltHeads.{head_is, kinds_alone}
use Rattle.typed_trees.proofs.Pieces.{stays, last, via_at}

-- a node of its list
pub head_built : (p : Plan) (st : b.Site) (g : Option StaticType) (x : Tree) (h : Head) (u : ValueType) (b c : Builder) (xs : TypedTrees) (it : TypedTree)
    → head_of p st x ≡ Some h → has_list x ≡ true → u ≡ type_noted g (tree_kind p st g x) x → it ≡ head_node p u h xs → IsBuilt b c (passed_made p st h x) xs → IsBuilt b c (tree_made p st g x) it
unfolding head_made
head_built p st g x h u b c xs it is list type node built =
    via_at b c (head_made p st u (Some h) x) (tree_made p st g x) (head_node p u h xs) it
    (ap (λ (v : ValueType). head_made p st v (Some h) x b.local b.function) type ∙ ap (λ (o : Option Head). head_made p st (type_noted g (tree_kind p st g x) x) o x b.local b.function) (sym is)
    ∙ head_is p st g x b.local b.function list)
    (sym node) (last b c (passed_made p st h x) (λ ys. head_node p u h ys) xs built)

-- where a tree has a failure
pub none_built : (p : Plan) (st : b.Site) (g : Option StaticType) (x : Tree) (c : Builder) (it : TypedTree)
    → head_of p st x ≡ None → has_list x ≡ true → it ≡ b.amiss → IsBuilt c c (tree_made p st g x) it
unfolding head_made
none_built p st g x c it is list node =
    let u = type_noted g (tree_kind p st g x) x in
    via_at c c (head_made p st u None x) (tree_made p st g x) b.amiss it
    (ap (λ (o : Option Head). head_made p st u o x c.local c.function) (sym is) ∙ head_is p st g x c.local c.function list) (sym node) (stays c b.amiss)

-- arguments to which types are given
pub given_built : (p : Plan) (st : b.Site) (us : List StaticType) (args : Trees) (b c : Builder) (first : List TypedExpr) (it : TypedTrees)
    → first ≡ [] → IsBuilt b c (behind_made p st (Kinds us) (typed_trees first) args) it → IsBuilt b c (given_made p st us args) it
given_built p st us args b c first it is built =
    via_at b c (behind_made p st (Kinds us) (typed_trees first) args) (given_made p st us args) it it
    (ap (λ (ys : List TypedExpr). behind_made p st (Kinds us) (typed_trees ys) args b.local b.function) is ∙ kinds_alone p st us args b.local b.function) refl built

no_member : (p : Plan) (st : b.Site) (at : ℕ) (node : Node) → ((a : Box Expr Global) (m : ℕ) → node ≡ n.Member a m → ⊥) → object_made p st true (node_tree at node) ≡ pure none
unfolding object_made
no_member p st at (n.Num value) never = refl
no_member p st at (n.Text text) never = refl
no_member p st at (n.Truth value) never = refl
no_member p st at n.Null never = refl
no_member p st at n.This never = refl
no_member p st at (n.Name name) never = refl
no_member p st at (n.Unary' op q i a) never = refl
no_member p st at (n.Binary' op q i a r j c) never = refl
no_member p st at (n.Both' q i a r j c) never = refl
no_member p st at (n.Either' q i a r j c) never = refl
no_member p st at (n.Choice' q i c r j a u k d) never = refl
no_member p st at (n.Set' op q i a r j c) never = refl
no_member p st at (n.Bump' q i a by late) never = refl
no_member p st at (n.Member' q i a name) never = absurd (never _ name refl)
no_member p st at (n.Item' q i a r j c) never = refl
no_member p st at (n.Call' q i a m args) never = refl
no_member p st at (n.SuperCall' method m args) never = refl
no_member p st at (n.Make' class m args) never = refl
no_member p st at (n.Items' m items) never = refl
no_member p st at (n.Handler' q body) never = refl

-- what is called is no member, and no object stands before the arguments
pub no_object : (p : Plan) (st : b.Site) (f : Expr) → ((a : Box Expr Global) (m : ℕ) → f.node ≡ n.Member a m → ⊥) → object_made p st true (tree f) ≡ pure none
no_object p st f never = no_member p st f.at f.node never
