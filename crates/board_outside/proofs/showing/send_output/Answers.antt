use Rattle.std.proofs.Common.{rules, ◌≡◌, sym, [], ◌++◌, ap, subst, ◌∙◌, ◌+◌, ◌*◌, ◌∷◌, to_z, of_z}
use Rattle.std.specs.Int.{w32, cast_unsigned}
use Rattle.board_world.specs.Transcript.{decimal_text}
use Rattle.std.proofs.lemmas.List.{append-nil}
use Rattle.bank_model.specs.Texts.{text_at}
use Rattle.board_ports.specs.History.{Word, words_sent, FollowsMoves}
use Rattle.board_outside.specs.Ports.{serial_port, port_moves}
use Rattle.board_outside.specs.Outputs.{moves_of}
use Rattle.board_outside.proofs.showing.send_output.Goals as goal

pub returns-in-Frame : goal.returns-in-Frame
returns-in-Frame g c = λ moves start f.
    subst (λ s. FollowsMoves g.D.Device.account (moves ++ port_moves (moves_of c.args.machine.now.memory.flash c.args.now s)) start c.send_word.new.plugs) (sym c.in-Frame.is) (c.send_word.ensures moves start f)

pub returns-in-Text : goal.returns-in-Text
returns-in-Text g c = λ moves start f.
    subst (λ s. FollowsMoves g.D.Device.account (moves ++ port_moves (moves_of c.args.machine.now.memory.flash c.args.now s)) start c.send_text.new.plugs) (sym c.in-Text.is)
    (subst (λ ms. FollowsMoves g.D.Device.account (moves ++ ms) start c.send_text.new.plugs) (sym (append-nil (words_sent serial_port c.args.now (text_at c.args.machine.now.memory.flash c.in-Text.address)))) (c.send_text.ensures moves start f))

pub returns-in-Pin : goal.returns-in-Pin
returns-in-Pin g c = λ moves start f.
    subst (λ s. FollowsMoves g.D.Device.account (moves ++ port_moves (moves_of c.args.machine.now.memory.flash c.args.now s)) start c.send_word-in-Pin.new.plugs) (sym c.in-Pin.is)
    (subst (λ w. FollowsMoves g.D.Device.account (moves ++ Word 2 c.args.now w ∷ []) start c.send_word-in-Pin.new.plugs)
    (ap (λ p. 2 * p + c.from-in-Pin.result) c.from.ensures ∙ ap (λ l. 2 * c.in-Pin.pin + l) c.from-in-Pin.ensures) (c.send_word-in-Pin.ensures moves start f))

pub returns-in-Number : goal.returns-in-Number
returns-in-Number g c = λ moves start f.
    let same : to_z w32 (of_z w32 c.in-Number.number) ≡ c.in-Number.number = search rules in
    subst (λ s. FollowsMoves g.D.Device.account (moves ++ port_moves (moves_of c.args.machine.now.memory.flash c.args.now s)) start c.send_number.new.plugs) (sym c.in-Number.is)
    (subst (λ n. FollowsMoves g.D.Device.account (moves ++ (words_sent serial_port c.args.now (decimal_text n) ++ [])) start c.send_number.new.plugs) same (c.send_number.ensures moves start f))

pub returns-in-Radio : goal.returns-in-Radio
returns-in-Radio g c = λ moves start f.
    let same : to_z w32 (of_z w32 c.in-Radio.number) ≡ c.in-Radio.number = search rules in
    subst (λ s. FollowsMoves g.D.Device.account (moves ++ port_moves (moves_of c.args.machine.now.memory.flash c.args.now s)) start c.send_radio.new.plugs) (sym c.in-Radio.is)
    (subst (λ n. FollowsMoves g.D.Device.account (moves ++ Word 3 c.args.now (cast_unsigned w32 n) ∷ []) start c.send_radio.new.plugs) same (c.send_radio.ensures moves start f))
