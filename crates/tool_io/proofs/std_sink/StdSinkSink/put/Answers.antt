use Rattle.std.proofs.Common.{arith}
use Rattle.tool_io.proofs.Streams.{front-part}
use Rattle.tool_io.proofs.std_sink.StdSinkSink.put.Goals as goal

pub returns-in-Err-clause-puts : goal.returns-in-Err-clause-puts
returns-in-Err-clause-puts g c =
    record {
      took = tt;
      part = front-part _ _ c.args.piece.now c.in-Err.ensures.front;
      later = omega (arith, c.saturating_add-self.ensures);
      failed = omega (arith, c.saturating_add-self.ensures);
    }
