use Rattle.std.proofs.Common.{◌≡◌}
use Rattle.bank_model.specs.Arrays.{put_words, words_from}
use Rattle.arena_heap.specs.Pushing.{with_arena}
use Rattle.arena_heap.proofs.arrays.copy.Given as goal

abbrev pub invariant-loop-k : goal.invariant-loop-k
invariant-loop-k l = l.machine ≡ with_arena l.fn.machine (put_words l.fn.machine.memory.arena l.to (words_from l.fn.machine.memory.arena l.k l.from))
