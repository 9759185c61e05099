use Rattle.std.proofs.Common.{rules}
use Rattle.board_ports.proofs.Writes.{bytes_delivered}
use Rattle.board_ports.proofs.plugs.deliver_bytes.Goals as goal

pub returns-in-Some : goal.returns-in-Some
returns-in-Some g c =
    let w = c.write_bytes.ensures in
    bytes_delivered g.D.Device.account c.args.now c.args.bytes.now _ c.write_bytes.new.self c.args.place.now c.args.mark.now c.write_bytes.result
    (search rules) (search rules) w.logged w.first w.kept w.later w.failed w.once w.at_most
