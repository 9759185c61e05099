use Rattle.std.proofs.Common.{◌≡◌, ◌≤◌, take}
use Rattle.class_radio.specs.Closing.{how_many_stand}
use Rattle.class_radio.proofs.closing.how_many.Given as goal

abbrev pub invariant-loop-player : goal.invariant-loop-player
invariant-loop-player l = record {
  counted : l.count ≡ how_many_stand l.standing (take l.player-index l.players);
  few : l.count ≤ l.player-index;
}
