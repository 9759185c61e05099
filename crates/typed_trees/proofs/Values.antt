-- Types of values in lists.
use Rattle.std.proofs.Common.{◌≡◌, List, [], ◌∷◌, ◌++◌, refl, ap}
use Rattle.sts_syntax.specs.declared.types.Ty.{Ty}
use Rattle.sts_syntax.specs.Types as value

pub values_append : (xs ys : List Ty) → value.value_types (xs ++ ys) ≡ value.value_types xs ++ value.value_types ys
values_append [] ys = refl
values_append (x ∷ xs) ys = ap (λ q. value.value_type x ∷ q) (values_append xs ys)
