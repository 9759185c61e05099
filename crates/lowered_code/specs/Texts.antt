-- What numbers and texts stand in flat code.
use Rattle.std.specs.Prelude.{ℕ, ℤ, List}
use Rattle.std.specs.List.{AllByRecursion}
use Rattle.flat_ir.specs.declared.ops.Op.{Op}
use Rattle.flat_ir.specs.declared.ops.Op.TheVariants.{Const, TextOf}
use Rattle.flat_ir.specs.declared.ops.Function.{Function}
use Rattle.sts_syntax.specs.TypeRules.{IsOneOf}

-- if an op gives a number, the number is such a one, and so is a text that it names
abbrev pub Has : (ℤ → Type 0) → (ℕ → Type 0) → Op → Type 0
Has N T (Const to value) = N value
Has N T (TextOf to text) = T text
Has N T op = Unit {0}

-- so it is for each op of a function
abbrev pub AllHave : (ℤ → Type 0) → (ℕ → Type 0) → Function → Type 0
AllHave N T f = AllByRecursion (Has N T) f.ops

-- the texts that a function's ops name are some of these
abbrev pub NamesOnly : List ℕ → Function → Type 0
NamesOnly texts = AllHave (λ value. Unit {0}) (λ text. IsOneOf text texts)
