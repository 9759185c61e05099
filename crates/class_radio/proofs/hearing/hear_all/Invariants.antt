use Rattle.std.proofs.Common.{◌≡◌, length, map}
use Rattle.class_radio.specs.Playing.{said}
use Rattle.class_radio.specs.Losses.{lost_by}
use Rattle.class_radio.proofs.Telling.{first_hearing}
use Rattle.class_radio.proofs.hearing.hear_all.Given as goal

abbrev pub invariant-loop-to : goal.invariant-loop-to
invariant-loop-to l = record {
  heard : l.players.items ≡ first_hearing (lost_by l.losses) l.moment (map (said l.moment) l.initial.players.items) l.to 0 l.initial.players.items;
  long : length l.players.items ≡ length l.initial.players.items;
}
