-- The temporaries that an op reads, as the code has them: by how many they are.
use Rattle.std.specs.Prelude.{ℕ, List, [], ◌∷◌}
use Rattle.register_assign.specs.declared.ops.Reading.{Reading}
use Rattle.register_assign.specs.declared.ops.Reading.TheVariants.{Nothing, One, Two, Three, Arguments}

abbrev pub numbers_of : Reading → List ℕ
numbers_of Nothing = []
numbers_of (One a) = a ∷ []
numbers_of (Two a b) = a ∷ b ∷ []
numbers_of (Three a b c) = a ∷ b ∷ c ∷ []
numbers_of (Arguments args) = args.now
