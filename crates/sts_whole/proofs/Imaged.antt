-- A program that can be built has an image.
use Rattle.std.proofs.Common.{◌≡◌, List, [], ◌∷◌, map, refl, ap}
use Rattle.flat_ir.specs.declared.ops.Function.{Function}
use Rattle.register_assign.specs.declared.places.Placed.{Placed}
use Rattle.sts_whole.specs.Compiled.{with_chosen_places}

-- places change no function
pub placed_functions : (fs : List Function) → map (λ (p : Placed). p.function) (map with_chosen_places fs) ≡ fs
placed_functions [] = refl
placed_functions (f ∷ fs) = ap (λ (rest : List Function). f ∷ rest) (placed_functions fs)
