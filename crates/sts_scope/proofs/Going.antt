-- Lists of types that go to others.
use Rattle.std.proofs.Common.{◌≡◌, ◌∙◌, suc, ◌&&◌, Bool, true, false, List, [], ◌∷◌, length, refl, ap}
use Rattle.sts_scope.specs.declared.kinds.StaticType.{StaticType}
use Rattle.sts_scope.specs.declared.entries.ClassHead.{ClassHead}
use Rattle.sts_scope.specs.Rules.{goes, all_go}

and_false : (b : Bool) → false ≡ (b && false)
and_false true = refl
and_false false = refl

-- of different lengths they don't go each to each
pub unequal : (classes : List ClassHead) (ss ts : List StaticType) → (length ss ≡ length ts → ⊥) → false ≡ all_go classes ss ts
unfolding all_go
unequal classes [] [] h = absurd (h refl)
unequal classes [] (t ∷ ts) h = refl
unequal classes (s ∷ ss) [] h = refl
unequal classes (s ∷ ss) (t ∷ ts) h = and_false (goes classes s t) ∙ ap (λ b. goes classes s t && b) (unequal classes ss ts (λ e. h (ap suc e)))
