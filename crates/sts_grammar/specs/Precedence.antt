-- How tightly expressions hold together (ECMA-262, sections 13.4 to 13.16), loosest first. Operators between two operands have the
-- levels between those of `&&` and of prefix operators (`infix_level`).
use Rattle.std.specs.Prelude.{ℕ}

-- `=` and its like, and `?:`: any expression holds as tightly
abbrev pub assignment_level : ℕ
assignment_level = 1

-- `||`
abbrev pub either_level : ℕ
either_level = 2

-- `&&`
abbrev pub both_level : ℕ
both_level = 3

-- a prefix operator with its operand
abbrev pub prefix_level : ℕ
prefix_level = 12

-- `++` or `--` behind its target
abbrev pub postfix_level : ℕ
postfix_level = 13

-- primaries, and what stands behind one: `.`, `[` and `(`
abbrev pub primary_level : ℕ
primary_level = 14
