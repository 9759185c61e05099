use Rattle.buffered_stream.proofs.Streams.{on-suffix}
use Rattle.buffered_stream.proofs.stream.BufferedStream.append.Goals as goal

pub returns-then-piece-gt-ROOM-clause-held : goal.returns-then-piece-gt-ROOM-clause-held
returns-then-piece-gt-ROOM-clause-held g c = on-suffix c.write_past.result c.args.self.now.held.items c.write_past.new.self.held.items c.args.piece.now c.write_past.ensures.held
