use Rattle.std.proofs.Common.{rules, length-drop}
use Rattle.buffered_stream.proofs.Streams.{appends-more}
use Rattle.buffered_stream.proofs.writing.write_front.Goals as goal

pub writing-preserved : goal.writing-preserved
writing-preserved g c = (
  search (rules, c.in-Ok.ensures.bound, length-drop),
  appends-more _ _ _ c.args.piece.now c.writing.done c.in-Ok.count c.writing.invariant.1 c.in-Ok.ensures.bytes,
)
