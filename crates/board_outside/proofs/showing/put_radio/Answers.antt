use Rattle.std.proofs.Common.{◌∙◌, ap, sym, []}
use Rattle.std.proofs.lemmas.List.{append-nil}
use Rattle.std.specs.Int.{w32}
use Rattle.std.proofs.lemmas.Int.{to_z-of_z}
use Rattle.tool_io.proofs.Laws.{puts-as, puts-none}
use Rattle.board_world.specs.Observations.{Radio}
use Rattle.board_world.specs.Transcript.{line}
use Rattle.board_outside.proofs.showing.put_radio.Goals as goal

pub returns : goal.returns
returns g c =
    puts-as c.then_put_radio.result _ _
    (ap (λ number. line (Radio c.args.now number)) (to_z-of_z w32 c.args.number c.ranges.number) ∙ sym (append-nil (line (Radio c.args.now c.args.number))))
    (c.then_put_radio.ensures _ _ [] (puts-none _ _))
