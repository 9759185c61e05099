use Rattle.std.proofs.Common.{◌∙◌, ap, sym, subst, ◌++◌}
use Rattle.std.proofs.lemmas.List.{append-nil}
use Rattle.std.specs.Fmt.{signed_decimal}
use Rattle.std.specs.Int.{w32}
use Rattle.std.proofs.lemmas.Int.{to_z-of_z}
use Rattle.board_ports.specs.History.{words_sent, FollowsMoves}
use Rattle.board_outside.specs.Ports.{serial_port}
use Rattle.board_outside.proofs.showing.send_number.Goals as goal

pub returns : goal.returns
returns g c = λ moves start f.
    subst (λ ms. FollowsMoves g.D.Device.account (moves ++ ms) start c.send_bytes.new.plugs)
    (ap (words_sent serial_port c.args.now) (c.as_bytes.ensures.value ∙ c.format.ensures.text ∙ ap signed_decimal (to_z-of_z w32 c.args.number c.ranges.number)) ∙ sym (append-nil (words_sent serial_port c.args.now (signed_decimal c.args.number))))
    (c.send_bytes.ensures moves start f)
