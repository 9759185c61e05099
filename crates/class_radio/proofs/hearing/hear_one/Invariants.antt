use Rattle.std.proofs.Common.{◌≡◌, ◌+◌, length, take, get_or}
use Rattle.std.proofs.Math.ListN.{set}
use Rattle.class_radio.specs.declared.player.Player.{Player}
use Rattle.class_radio.specs.Playing.{hearing_all, said}
use Rattle.class_radio.proofs.hearing.hear_one.Given as goal

abbrev pub invariant-loop-at : goal.invariant-loop-at
invariant-loop-at l = record {
  heard : (d : Player) → l.players.items ≡ set l.initial.players.items l.to (hearing_all (l.moment + 1) (take l.at (said l.moment (get_or l.initial.players.items l.from d))) (get_or l.initial.players.items l.to d));
  long : length l.players.items ≡ length l.initial.players.items;
}
