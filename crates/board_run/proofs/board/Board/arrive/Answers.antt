use Rattle.std.proofs.Common.{refl}
use Rattle.board_run.specs.declared.engine.Engine.{Engine}
use Rattle.board_run.proofs.Parted.{ports_arrived, whole_arrived, arrives_now}
use Rattle.board_run.proofs.board.Board.arrive.Goals as goal

pub returns-clause-arrives : goal.returns-clause-arrives
returns-clause-arrives g c =
    let e = c.args.self.now.engine in
    arrives_now g.D.Device.account e c.apply.new.bus c.apply.new.buttons c.args.act c.args.self.now.plugs c.apply.new.plugs c.requires.stays_plugged c.requires.going c.apply.ensures.applied

pub returns-clause-ports : goal.returns-clause-ports
returns-clause-ports g c =
    let e = c.args.self.now.engine in
    ports_arrived g.D.Device.account c.args.act e.clock e.buttons c.apply.new.buttons e.bus c.apply.new.bus c.args.self.now.plugs c.apply.new.plugs c.requires.stays_plugged c.apply.ensures.applied

pub returns-clause-whole : goal.returns-clause-whole
returns-clause-whole g c =
    let e = c.args.self.now.engine in
    let new : Engine = record e { bus = c.apply.new.bus; buttons = c.apply.new.buttons } in
    whole_arrived e new c.args.self.now.instructions c.args.act c.requires.whole refl
    (arrives_now g.D.Device.account e c.apply.new.bus c.apply.new.buttons c.args.act c.args.self.now.plugs c.apply.new.plugs c.requires.stays_plugged c.requires.going c.apply.ensures.applied)
