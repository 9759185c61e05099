use Rattle.std.proofs.Common.{◌∙◌, ap, sym, []}
use Rattle.std.proofs.lemmas.List.{append-nil}
use Rattle.std.specs.Fmt.{signed_decimal}
use Rattle.std.specs.Int.{w32}
use Rattle.std.proofs.lemmas.Int.{to_z-of_z}
use Rattle.tool_io.proofs.Laws.{puts-as, puts-none}
use Rattle.board_world.specs.Observations.{Serial}
use Rattle.board_world.specs.Transcript.{line}
use Rattle.board_outside.proofs.showing.put_number.Goals as goal

pub returns : goal.returns
returns g c =
    puts-as c.then_put_serial.result _ _
    (ap (λ bytes. line (Serial c.args.now bytes)) (c.as_bytes.ensures.value ∙ c.format.ensures.text ∙ ap signed_decimal (to_z-of_z w32 c.args.number c.ranges.number)) ∙ sym (append-nil (line (Serial c.args.now (signed_decimal c.args.number)))))
    (c.then_put_serial.ensures _ _ [] (puts-none _ _))
