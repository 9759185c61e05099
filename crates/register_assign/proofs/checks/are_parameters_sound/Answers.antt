use Rattle.std.proofs.Common.{ℕ, ◌<◌, arith}
use borrow.Author.Count.{below_more}
use Rattle.register_assign.specs.Checks.{IsParameterSound}
use Rattle.register_assign.proofs.Checking.{refuted, shown}
use Rattle.register_assign.proofs.checks.are_parameters_sound.Goals as goal

pub returns-then-not-is_parameter_sound : goal.returns-then-not-is_parameter_sound
returns-then-not-is_parameter_sound c =
    refuted c.is_parameter_sound.result (IsParameterSound c.args.places.now c.loop-t.t) ((t : ℕ) → t < c.args.params → IsParameterSound c.args.places.now t) c.is_parameter_sound.ensures c.if-not-is_parameter_sound.true
    (λ h. h c.loop-t.t (omega arith))

pub loop-t-preserved : goal.loop-t-preserved
loop-t-preserved c = below_more (IsParameterSound c.args.places.now) c.loop-t.t c.loop-t.invariant (c.is_parameter_sound.ensures.0 c.if-not-is_parameter_sound.false)

pub returns : goal.returns
returns c = shown ((t : ℕ) → t < c.args.params → IsParameterSound c.args.places.now t) (λ t l. c.loop-t.invariant t (omega arith))
