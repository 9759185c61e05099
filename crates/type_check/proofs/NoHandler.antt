-- A function expression with parameters is no handler.
use Rattle.std.proofs.Common.{◌≡◌, ◌≤◌, List, [], ◌∷◌, length, refl, arith}
use Rattle.std.specs.Prelude.{Bool, false, ◌&&◌}
use Rattle.sts_syntax.specs.declared.trees.Param.{Param}
use Rattle.sts_syntax.specs.Views.{parameters}
use Rattle.type_derive.specs.Nodes.{takes_nothing}

pub takes_some : (ps : List Param) (b : Bool) → 1 ≤ length ps → false ≡ (takes_nothing (parameters ps) && b)
takes_some [] b h = absurd (omega (arith, h))
takes_some (p ∷ ps) b h = refl
