-- What is called: methods of bases, and calls of the board.
use Rattle.std.proofs.Common.{◌≡◌, ℕ, Some, sym, ap}
use Rattle.sts_base.specs.declared.tables.Tables.{Tables}
use Rattle.std.specs.declared.alloc.Global.{Global}
use Rattle.std.specs.declared.boxed.Box.{Box}
use Rattle.sts_syntax.specs.declared.trees.Expr.{Expr}
use Rattle.sts_syntax.specs.declared.trees.Node.TheVariants as n
use Rattle.sts_syntax.specs.BoardTable.{call_named}
use Rattle.sts_syntax.specs.Trees.{Tree, Name, Member}
use Rattle.sts_syntax.specs.Views.{tree, node_tree}
use Rattle.sts_scope.specs.declared.known.Known.{Known}
use Rattle.sts_scope.specs.declared.known.This.TheVariants as this
use Rattle.sts_scope.specs.Places.{NameScope}
use Rattle.sts_scope.specs.Lookup.{inherited}
use Rattle.type_derive.specs.Typing.{◌>>=◌, spelling, space, board_callee, method_of, super_method}

pub name_is : (e : Expr) (x : ℕ) → e.node ≡ n.Name x → tree e ≡ Name e.at x
name_is e x is = ap (node_tree e.at) is

pub member_is : (e : Expr) (a : Box Expr Global) (m : ℕ) → e.node ≡ n.Member a m → tree e ≡ Member e.at (tree a.value) m
member_is e a m is = ap (node_tree e.at) is

pub method_found : (k : Known) (c m d : ℕ) → inherited k.entries k.classes c m ≡ Some d → super_method k (this.Object c) m ≡ method_of k (Some d)
method_found k c m d h = ap (method_of k) h

pub member_called : (t : Tables) (k : Known) (p : NameScope) (at m x : ℕ) (a : Tree) → Some (spelling t x) ≡ space t k p a → board_callee t k p (Member at a m) ≡ call_named (spelling t x) (spelling t m)
member_called t k p at m x a h = ap (λ o. o >>= λ s. call_named s (spelling t m)) (sym h)
