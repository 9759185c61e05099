use Rattle.std.proofs.Common.{rules, All, ◌<◌, ◌≤◌, length}
use Rattle.thumb_code.specs.Map.{flash_end}
use Rattle.board_run.proofs.Mounted.{mounted_as}
use Rattle.board_run.proofs.board.fresh_engine.Goals as goal

pub returns-clause-mounted : goal.returns-clause-mounted
returns-clause-mounted c =
    let bytes : All (λ b. b < 256) c.args.image.items = search rules in
    let size : length c.args.image.items ≤ flash_end = search rules in
    mounted_as c.args.image.items c.args.script c.in_ok-machine.machine c.in_ok-runtime.runtime c.in_ok-switch.switch c.in_ok-bus.bus c.in_ok-places.places c.new-5.result c.new-6.result c.new-7.result
    c.in_ok-machine.ensures c.in_ok-runtime.ensures c.in_ok-bus.ensures c.in_ok-places.ensures c.new-5.ensures c.new-6.ensures c.new-7.ensures c.requires.script size bytes
