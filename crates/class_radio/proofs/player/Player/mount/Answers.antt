use Rattle.std.proofs.Common.{refl}
use Rattle.class_radio.proofs.Coming.{fresh_numbered}
use Rattle.class_radio.proofs.player.Player.mount.Goals as goal

pub returns-in-Ok-clause-numbered : goal.returns-in-Ok-clause-numbered
returns-in-Ok-clause-numbered c =
    fresh_numbered c.args.number c.args.budget (record { image = c.args.image.items; script = c.args.script }) _
    (record { mounted = c.in-Ok.ensures.mounted; counted = c.in-Ok.ensures.counted; none = c.in-Ok.ensures.none.0; first = refl }) c.requires.digit refl refl c.requires.most refl
