use Rattle.std.proofs.Common.{ℕ, ◌<◌, length, arith}
use borrow.Author.Count.{below_more}
use Rattle.register_assign.specs.Checks.{IsTemporarySound}
use Rattle.register_assign.proofs.Checking.{shown}
use Rattle.register_assign.proofs.checks.are_temporaries_sound.Goals as goal

pub loop-u-preserved : goal.loop-u-preserved
loop-u-preserved c = below_more (IsTemporarySound c.args.function.now c.args.places.now) c.loop-u.u c.loop-u.invariant (c.in_ok-is_temporary_sound.ensures.0 c.if-not-branch.false)

pub returns : goal.returns
returns c = shown ((u : ℕ) → u < length c.args.places.now → IsTemporarySound c.args.function.now c.args.places.now u) (λ u l. c.loop-u.invariant u (omega arith))
