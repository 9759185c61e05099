-- The function that a call of `forever` repeats.
use Rattle.std.proofs.Common.{◌≡◌, ℕ, ◌<◌, ◌≤◌, ◌⊎◌, inl, inr, Bool, Option, ℤ, List, [], ◌∷◌, length, get_or, sym, ap, ◌∙◌, refl, arith}
use Rattle.std.specs.declared.alloc.Global.{Global}
use Rattle.std.specs.declared.boxed.Box.{Box}
use Rattle.sts_syntax.specs.declared.typed.Callee.{Callee}
use Rattle.sts_syntax.specs.declared.typed.Spot.{Spot}
use Rattle.sts_syntax.specs.declared.typed.TypedExpr.{TypedExpr}
use Rattle.sts_syntax.specs.declared.typed.TypedNode.TheVariants as n
use Rattle.sts_syntax.specs.TypedViews.{typed_node_tree, typed_tree, typed_trees}
use Rattle.sts_syntax.proofs.Laws.{call_is, super_call_is, make_is, items_is}
use Rattle.sts_lower.specs.Code.{handler_in, handler_of}

-- a node of another form than a handler
abbrev pub IsOther : TypedExpr → Type 0
IsOther e =
    ((x : ℤ) × (e.node ≡ n.Num x))
    ⊎ (((x : ℕ) × (e.node ≡ n.Text x))
    ⊎ (((x : Bool) × (e.node ≡ n.Truth x))
    ⊎ ((e.node ≡ n.Null)
    ⊎ ((e.node ≡ n.This)
    ⊎ (((x : Spot) × (e.node ≡ n.Name x))
    ⊎ (((x : ℕ) × (y : Box TypedExpr Global) × (e.node ≡ n.Unary x y))
    ⊎ (((x : ℕ) × (y : Box TypedExpr Global) × (z : Box TypedExpr Global) × (e.node ≡ n.Binary x y z))
    ⊎ (((x : Box TypedExpr Global) × (y : Box TypedExpr Global) × (e.node ≡ n.Both x y))
    ⊎ (((x : Box TypedExpr Global) × (y : Box TypedExpr Global) × (e.node ≡ n.Either x y))
    ⊎ (((x : Box TypedExpr Global) × (y : Box TypedExpr Global) × (z : Box TypedExpr Global) × (e.node ≡ n.Choice x y z))
    ⊎ (((x : Option ℕ) × (y : Box TypedExpr Global) × (z : Box TypedExpr Global) × (e.node ≡ n.Set x y z))
    ⊎ (((x : Box TypedExpr Global) × (y : ℤ) × (z : Bool) × (e.node ≡ n.Bump x y z))
    ⊎ (((x : Box TypedExpr Global) × (y : ℕ) × (e.node ≡ n.Field x y))
    ⊎ (((x : Box TypedExpr Global) × (e.node ≡ n.Length x))
    ⊎ (((x : Box TypedExpr Global) × (y : Box TypedExpr Global) × (e.node ≡ n.Item x y))
    ⊎ (((x : Callee) × (y : List TypedExpr) × (e.node ≡ n.Call x y))
    ⊎ (((x : ℕ) × (y : List TypedExpr) × (e.node ≡ n.SuperCall x y))
    ⊎ (((x : ℕ) × (y : List TypedExpr) × (e.node ≡ n.Make x y))
    ⊎ (((x : List TypedExpr) × (e.node ≡ n.Items x)))))))))))))))))))))

other_handler : (e : TypedExpr) → IsOther e → 0 ≡ handler_in (typed_tree e)
other_handler e (inl (x, is)) = ap (λ m. handler_in (typed_node_tree e.ty m)) (sym is)
other_handler e (inr (inl (x, is))) = ap (λ m. handler_in (typed_node_tree e.ty m)) (sym is)
other_handler e (inr (inr (inl (x, is)))) = ap (λ m. handler_in (typed_node_tree e.ty m)) (sym is)
other_handler e (inr (inr (inr (inl is)))) = ap (λ m. handler_in (typed_node_tree e.ty m)) (sym is)
other_handler e (inr (inr (inr (inr (inl is))))) = ap (λ m. handler_in (typed_node_tree e.ty m)) (sym is)
other_handler e (inr (inr (inr (inr (inr (inl (x, is))))))) = ap (λ m. handler_in (typed_node_tree e.ty m)) (sym is)
other_handler e (inr (inr (inr (inr (inr (inr (inl (x, y, is)))))))) = ap (λ m. handler_in (typed_node_tree e.ty m)) (sym is)
other_handler e (inr (inr (inr (inr (inr (inr (inr (inl (x, y, z, is))))))))) = ap (λ m. handler_in (typed_node_tree e.ty m)) (sym is)
other_handler e (inr (inr (inr (inr (inr (inr (inr (inr (inl (x, y, is)))))))))) = ap (λ m. handler_in (typed_node_tree e.ty m)) (sym is)
other_handler e (inr (inr (inr (inr (inr (inr (inr (inr (inr (inl (x, y, is))))))))))) = ap (λ m. handler_in (typed_node_tree e.ty m)) (sym is)
other_handler e (inr (inr (inr (inr (inr (inr (inr (inr (inr (inr (inl (x, y, z, is)))))))))))) = ap (λ m. handler_in (typed_node_tree e.ty m)) (sym is)
other_handler e (inr (inr (inr (inr (inr (inr (inr (inr (inr (inr (inr (inl (x, y, z, is))))))))))))) = ap (λ m. handler_in (typed_node_tree e.ty m)) (sym is)
other_handler e (inr (inr (inr (inr (inr (inr (inr (inr (inr (inr (inr (inr (inl (x, y, z, is)))))))))))))) = ap (λ m. handler_in (typed_node_tree e.ty m)) (sym is)
other_handler e (inr (inr (inr (inr (inr (inr (inr (inr (inr (inr (inr (inr (inr (inl (x, y, is))))))))))))))) = ap (λ m. handler_in (typed_node_tree e.ty m)) (sym is)
other_handler e (inr (inr (inr (inr (inr (inr (inr (inr (inr (inr (inr (inr (inr (inr (inl (x, is)))))))))))))))) = ap (λ m. handler_in (typed_node_tree e.ty m)) (sym is)
other_handler e (inr (inr (inr (inr (inr (inr (inr (inr (inr (inr (inr (inr (inr (inr (inr (inl (x, y, is))))))))))))))))) = ap (λ m. handler_in (typed_node_tree e.ty m)) (sym is)
other_handler e (inr (inr (inr (inr (inr (inr (inr (inr (inr (inr (inr (inr (inr (inr (inr (inr (inl (x, y, is)))))))))))))))))) = ap handler_in (sym (call_is e x y is))
other_handler e (inr (inr (inr (inr (inr (inr (inr (inr (inr (inr (inr (inr (inr (inr (inr (inr (inr (inl (x, y, is))))))))))))))))))) = ap handler_in (sym (super_call_is e x y is))
other_handler e (inr (inr (inr (inr (inr (inr (inr (inr (inr (inr (inr (inr (inr (inr (inr (inr (inr (inr (inl (x, y, is)))))))))))))))))))) = ap handler_in (sym (make_is e x y is))
other_handler e (inr (inr (inr (inr (inr (inr (inr (inr (inr (inr (inr (inr (inr (inr (inr (inr (inr (inr (inr ((x, is))))))))))))))))))))) = ap handler_in (sym (items_is e x is))

handler_first : (args : List TypedExpr) (e : TypedExpr) → 1 ≤ length args → e ≡ get_or args 0 e → handler_of (typed_trees args) ≡ handler_in (typed_tree e)
handler_first [] e more is = absurd (omega arith)
handler_first (a ∷ rest) e more is = ap (λ x. handler_in (typed_tree x)) (sym is)

pub handler_none : (args : List TypedExpr) → length args < 1 → 0 ≡ handler_of (typed_trees args)
handler_none [] less = refl
handler_none (a ∷ rest) less = absurd (omega arith)

pub handler_other : (args : List TypedExpr) (e : TypedExpr) → 1 ≤ length args → e ≡ get_or args 0 e → IsOther e → 0 ≡ handler_of (typed_trees args)
handler_other args e more is other = other_handler e other ∙ sym (handler_first args e more is)

pub handler_there : (args : List TypedExpr) (e : TypedExpr) (f : ℕ) → 1 ≤ length args → e ≡ get_or args 0 e → e.node ≡ n.Handler f → f ≡ handler_of (typed_trees args)
handler_there args e f more is this = ap (λ m. handler_in (typed_node_tree e.ty m)) (sym this) ∙ sym (handler_first args e more is)
