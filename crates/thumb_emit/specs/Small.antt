-- A small function with its places, of which worked rows speak.
use Rattle.std.specs.Prelude.{List, [], ◌∷◌}
use Rattle.sts_syntax.specs.declared.operators.TheConstants.{LESS}
use Rattle.flat_ir.specs.declared.operators.TheConstants.{DECREMENT}
use Rattle.flat_ir.specs.declared.ops.Op.{Op}
use Rattle.flat_ir.specs.declared.ops.Op.TheVariants.{Unary, Binary, Call, FieldGet, Return}
use Rattle.flat_ir.specs.declared.ops.Function.{Function}
use Rattle.register_assign.specs.declared.places.Place.{Place}
use Rattle.register_assign.specs.declared.places.Place.TheVariants.{Reg, Slot, Incoming}

-- one less than the first parameter; whether that is less than the second; a call with both; a field, whose value nobody reads
abbrev pub small_ops : List Op
small_ops = Unary 3 DECREMENT 0 ∷ Binary 2 LESS 3 1 ∷ Call 4 9 (3 ∷ 2 ∷ []) ∷ FieldGet 3 4 2 ∷ Return 4 ∷ []

-- two parameters, a local and two operands; it passes two arguments
abbrev pub small : Function
small = record { params = 2; locals = 1; operands = 2; outgoing = 2; ops = small_ops }

-- the first parameter stays, the second goes to r6; the local has a slot, and the operands have r4 and r5
abbrev pub small_places : List Place
small_places = Incoming 0 ∷ Reg 6 ∷ Slot 0 ∷ Reg 4 ∷ Reg 5 ∷ []
