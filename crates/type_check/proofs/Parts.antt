-- What stands behind a dot.
use Rattle.std.proofs.Common.{◌≡◌, Option, Some, None, ap}
use Rattle.sts_scope.specs.declared.kinds.StaticType.{StaticType}
use Rattle.sts_scope.specs.declared.known.Part.{Part}
use Rattle.type_derive.specs.Typing.{◌>>=◌}

-- what follows from the part that there is
pub part_through : {A : Type 0} (o : Option StaticType) (of : StaticType → Part) (f : Part → Option A) (part : Part) → Some part ≡ (o >>= λ u. Some (of u)) → f part ≡ (o >>= λ u. f (of u))
part_through None of f part h = cc
part_through (Some u) of f part h = let e : part ≡ of u = cc in ap f e
