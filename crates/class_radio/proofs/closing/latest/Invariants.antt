use Rattle.std.proofs.Common.{◌≡◌, take}
use Rattle.class_radio.specs.Closing.{latest_clock}
use Rattle.class_radio.proofs.closing.latest.Given as goal

abbrev pub invariant-loop-player : goal.invariant-loop-player
invariant-loop-player l = l.latest ≡ latest_clock (take l.player-index l.players)
