use Rattle.std.proofs.Common.{ap, subst, ◌∙◌, ◌++◌, ◌∷◌, []}
use Rattle.std.specs.Int.{w32, cast_unsigned}
use Rattle.std.proofs.lemmas.Int.{to_z-of_z}
use Rattle.board_ports.specs.History.{Word, FollowsMoves}
use Rattle.board_outside.proofs.showing.send_radio.Goals as goal

pub returns : goal.returns
returns g c = λ moves start f.
    subst (λ w. FollowsMoves g.D.Device.account (moves ++ Word 3 c.args.now w ∷ []) start c.send_word.new.plugs) (c.cast_unsigned.ensures ∙ ap (cast_unsigned w32) (to_z-of_z w32 c.args.number c.ranges.number))
    (c.send_word.ensures moves start f)
