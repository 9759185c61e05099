use Rattle.std.proofs.Common.{◌+◌, ◌*◌, ◌<◌, arith}
use Rattle.arena_heap.specs.Pushing.{IsArenaWord}
use Rattle.arena_heap.proofs.Putting.{copy_step}
use Rattle.arena_heap.proofs.arrays.copy.Goals as goal

pub loop-k-preserved : goal.loop-k-preserved
loop-k-preserved c =
    let k = c.loop-k.k in let from = c.args.from in let to = c.args.to in
    let below = c.loop-k-test.true in
    let some : 0 < c.args.count = omega arith in
    let at = c.requires.from some in
    let behind = c.requires.behind some in
    let order : from + 4 * k < to = omega arith in
    let word : IsArenaWord (from + 4 * k) = record { aligned = omega (arith, at.aligned); low = omega (arith, at.low); high = omega (arith, order, c.requires.to.high) } in
    copy_step c.args.machine.now c.loop-k.machine c.put_arena_word.new.machine from to k c.arena_word-word.result word c.requires.to.aligned order
    c.loop-k.invariant c.arena_word-word.ensures c.put_arena_word.ensures
