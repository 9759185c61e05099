use Rattle.std.proofs.Common.{◌≡◌, true}
use Rattle.buffered_stream.proofs.Streams.{on-whole}
use Rattle.buffered_stream.proofs.Lines.{held-ends}
use Rattle.buffered_stream.proofs.stream.BufferedStream.append_lines.Goals as goal

pub returns-in_err-write_out-clause-front : goal.returns-in_err-write_out-clause-front
returns-in_err-write_out-clause-front g c =
    on-whole c.from_residual-in_err-write_out.result _ _ _ c.args.piece.now c.in_ok-append.ensures.appended c.in_err-write_out.ensures.stays

pub returns-else-ends_line-clause-written : goal.returns-else-ends_line-clause-written
returns-else-ends_line-clause-written g c =
    held-ends c.args.self.now.held.items c.append.new.self.held.items c.args.piece.now c.in_ok-append.ensures.held
    (λ l. let t : c.ends_line.result ≡ true = c.ends_line.ensures.1 l in absurd (cc))
