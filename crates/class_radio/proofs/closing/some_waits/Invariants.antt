use Rattle.std.proofs.Common.{◌≡◌, take, false}
use Rattle.class_radio.specs.Closing.{some_due}
use Rattle.class_radio.proofs.closing.some_waits.Given as goal

abbrev pub invariant-loop-player : goal.invariant-loop-player
invariant-loop-player l = some_due (take l.player-index l.players) ≡ false
