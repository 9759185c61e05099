use Rattle.buffered_stream.proofs.Streams.{on-front}
use Rattle.buffered_stream.proofs.stream.BufferedStream.write_past.Goals as goal

pub returns-clause-front : goal.returns-clause-front
returns-clause-front g c =
    on-front c.write_front-result.result.1 _ _ _ _ c.args.piece.now c.write_front-result.result.0 c.requires c.requires c.write_front-result.ensures.front
