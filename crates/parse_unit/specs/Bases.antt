-- The base of a class.
use Rattle.std.specs.Prelude.{ℕ, Option}
use Rattle.parse_unit.specs.declared.parts.Base.{Base}

-- the number of its name, and its place
abbrev pub base_of : Base → Option ℕ × ℕ
base_of base = (base.name, base.at)
