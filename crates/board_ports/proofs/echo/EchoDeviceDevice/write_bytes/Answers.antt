use Rattle.std.proofs.Common.{◌∙◌, sym, length, arith}
use Rattle.board_ports.proofs.Writes.{some_more_is}
use Rattle.board_ports.proofs.echo.EchoDeviceDevice.write_bytes.Goals as goal

pub returns-clause-once : goal.returns-clause-once
returns-clause-once g c = c.saturating_add-self.ensures ∙ sym (some_more_is (length c.args.bytes.now) c.args.self.now.writes (omega arith))
