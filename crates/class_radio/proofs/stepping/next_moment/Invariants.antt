use Rattle.std.proofs.Common.{take}
use Rattle.class_radio.specs.Hearing.{IsNextOf}
use Rattle.class_radio.proofs.stepping.next_moment.Given as goal

abbrev pub invariant-loop-player : goal.invariant-loop-player
invariant-loop-player l = IsNextOf l.end (take l.player-index l.players) l.next
