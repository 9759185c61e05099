use Rattle.std.proofs.Common.{◌≡◌, length}
use Rattle.flat_ir.specs.declared.ops.Function.{Function}
use Rattle.register_assign.specs.Intervals.{AreAssigned}
use Rattle.register_assign.specs.Chosen.{serving, served_to}
use Rattle.register_assign.proofs.assignment.give_registers.Given as goal

abbrev pub invariant-loop : goal.invariant-loop
invariant-loop l =
    (length l.places ≡ length l.fn.places) × (length l.left ≡ length l.fn.left)
    × ((f : Function) → AreAssigned f l.fn.places l.intervals → AreAssigned f l.places l.intervals)
    × (serving l.places l.left ≡ served_to l.intervals (serving l.fn.places l.fn.left) l.counter)
