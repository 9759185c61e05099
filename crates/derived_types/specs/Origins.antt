-- What the code's word for the origin of a declaration's type stands for.
use Rattle.std.specs.Prelude.{List, [], ◌∷◌}
use Rattle.sts_syntax.specs.Views.{optional_expression, parameters, statements}
use Rattle.derived_types.specs.declared.origins.Origin as rust
use Rattle.derived_types.specs.declared.origins.Origin.TheVariants as o
use Rattle.type_derive.specs.Derived.{Source, Stated, Initial, Returns}

abbrev pub source : rust.Origin → Source
source (o.Stated kind) = Stated kind
source (o.Initial self first) = Initial self (optional_expression first.now)
source (o.Returns self params all) = Returns self (parameters params.now) (statements all.now)

abbrev pub sources : List rust.Origin → List Source
sources [] = []
sources (o ∷ rest) = source o ∷ sources rest
