use Rattle.arena_heap.proofs.Putting.{move_steps}
use Rattle.arena_heap.proofs.arrays.move_array.Goals as goal

pub returns : goal.returns
returns c =
    move_steps c.args.machine.now c.copy.new.machine c.put_arena_word.new.machine c.put_arena_word-2.new.machine c.put_arena_word-3.new.machine c.put_arena_word-4.new.machine
    c.args.header.length c.args.header.room c.args.header.items c.args.array c.args.item c.args.to c.grown_room.result
    c.requires.header.length c.requires.header.room c.requires.header.items c.grown_room.ensures
    c.copy.ensures c.put_arena_word.ensures c.put_arena_word-2.ensures c.put_arena_word-3.ensures c.put_arena_word-4.ensures
