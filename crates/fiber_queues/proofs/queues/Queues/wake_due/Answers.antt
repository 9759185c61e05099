use Rattle.std.proofs.Common.{nat_le, ℕ, ◌∙◌, rules}
use Rattle.fiber_queues.proofs.Chosen.{chosen-moved, chosen-done, left-moved, left-done}
use Rattle.fiber_queues.proofs.Calls.{same_lists}
use Rattle.fiber_queues.proofs.queues.Queues.wake_due.Goals as goal

pub loop-at-preserved : goal.loop-at-preserved
loop-at-preserved c =
    let due = λ (wake : ℕ). nat_le wake c.args.now in
    let xs = c.loop-at.self-inside.sleepers.items in
    let v = c.as_slice.ensures.value in
    let e = c.remove-key.ensures.by_index.2 in
    let i = c.loop-at.invariant in (
      i.0,
      search rules,
      chosen-moved due c.loop-at.self-inside.ready.items _ _ _ xs _ _ c.remove-key.result c.in-Some.ensures.some v e c.remove-key.ensures.value c.append.ensures.items i.2,
      left-moved due _ xs _ _ c.remove-key.result c.in-Some.ensures.some v e ∙ i.3,
    )

pub returns : goal.returns
returns c =
    let due = λ (wake : ℕ). nat_le wake c.args.now in
    let xs = c.loop-at.self-inside.sleepers.items in
    let v = c.as_slice.ensures.value in
    let n = c.in_default.ensures.none in
    let i = c.loop-at.invariant in
    same_lists _ _ _ _ _ _ (chosen-done due c.loop-at.self-inside.ready.items _ _ xs n v i.2) (left-done due _ xs n v ∙ i.3) i.0
