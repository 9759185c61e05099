-- How filled trees are put together, under names of their own.
use Rattle.type_derive.specs.inner.Filling.{Making, ◌>=>◌}

abbrev pub onward : {A B : Type 0} → Making A → (A → Making B) → Making B
onward p g = p >=> g
