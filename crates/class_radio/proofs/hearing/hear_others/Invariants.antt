use Rattle.std.proofs.Common.{◌≡◌, ◌+◌, length, map, take, get_or}
use Rattle.std.proofs.Math.ListN.{set}
use Rattle.class_radio.specs.declared.player.Player.{Player}
use Rattle.class_radio.specs.Playing.{hearing_all, said}
use Rattle.class_radio.specs.Losses.{lost_by}
use Rattle.class_radio.specs.Hearing.{told_to}
use Rattle.class_radio.proofs.hearing.hear_others.Given as goal

abbrev pub invariant-loop-from : goal.invariant-loop-from
invariant-loop-from l = record {
  heard : (d : Player) → l.players.items
      ≡ set l.initial.players.items l.to (hearing_all (l.moment + 1) (told_to (lost_by l.losses) l.moment l.to 0 (take l.from (map (said l.moment) l.initial.players.items))) (get_or l.initial.players.items l.to d));
  long : length l.players.items ≡ length l.initial.players.items;
}
