use Rattle.std.proofs.Common.{ℕ, List, sym, ap, ◌∙◌, subst}
use Rattle.std.specs.Prelude.{IsTrue, IfOk, ◌↔◌}
use Rattle.std.specs.List.{AllByRecursion}
use Rattle.register_assign.specs.Checks.{IsDeadStranger}
use Rattle.register_assign.specs.Readings.{numbers_of}
use Rattle.register_assign.proofs.checks.reads_no_stranger.Goals as goal

pub returns-in-One : goal.returns-in-One
returns-in-One c =
    subst (λ (xs : List ℕ). IfOk c.are_dead_strangers.result (λ dead. IsTrue dead ↔ AllByRecursion (IsDeadStranger c.args.known c.args.ops.now) xs)) (sym (ap numbers_of c.in-One.is) ∙ c.read_by.ensures) c.are_dead_strangers.ensures

pub returns-in-Two : goal.returns-in-Two
returns-in-Two c =
    subst (λ (xs : List ℕ). IfOk c.are_dead_strangers-in-Two.result (λ dead. IsTrue dead ↔ AllByRecursion (IsDeadStranger c.args.known c.args.ops.now) xs)) (sym (ap numbers_of c.in-Two.is) ∙ c.read_by.ensures) c.are_dead_strangers-in-Two.ensures

pub returns-in-Three : goal.returns-in-Three
returns-in-Three c =
    subst (λ (xs : List ℕ). IfOk c.are_dead_strangers-in-Three.result (λ dead. IsTrue dead ↔ AllByRecursion (IsDeadStranger c.args.known c.args.ops.now) xs)) (sym (ap numbers_of c.in-Three.is) ∙ c.read_by.ensures) c.are_dead_strangers-in-Three.ensures

pub returns-in-Arguments : goal.returns-in-Arguments
returns-in-Arguments c =
    subst (λ (xs : List ℕ). IfOk c.are_dead_strangers-in-Arguments.result (λ dead. IsTrue dead ↔ AllByRecursion (IsDeadStranger c.args.known c.args.ops.now) xs)) (sym (ap numbers_of c.in-Arguments.is) ∙ c.read_by.ensures) c.are_dead_strangers-in-Arguments.ensures
