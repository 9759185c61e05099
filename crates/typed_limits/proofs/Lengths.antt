-- Lists of types are as long as what they stand for.
use Rattle.std.proofs.Common.{◌≡◌, suc, refl, ap, List, [], ◌∷◌, length}
use Rattle.sts_syntax.specs.declared.types.Ty.{Ty}
use Rattle.sts_syntax.specs.Types.{value_types}

pub types_length : (types : List Ty) → length (value_types types) ≡ length types
types_length [] = refl
types_length (u ∷ rest) = ap suc (types_length rest)
