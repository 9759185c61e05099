use Rattle.std.proofs.Common.{ap, ◌++◌, ◌∙◌, ◌+◌, subst}
use Rattle.thumb_code.specs.Map.{flash_word}
use Rattle.bank_model.specs.Texts.{flash_bytes}
use Rattle.board_ports.specs.History.{words_sent, FollowsMoves}
use Rattle.board_outside.specs.Ports.{serial_port}
use Rattle.board_outside.proofs.sending.send_text.Goals as goal

pub returns : goal.returns
returns g c = λ moves start f.
    let flash = c.args.machine.now.memory.flash in
    subst (λ ms. FollowsMoves g.D.Device.account ms start c.send_flash.new.plugs)
    (ap (λ n. moves ++ words_sent serial_port c.args.now (flash_bytes flash c.flash_number-count.result (n + 4))) c.from-2.ensures
    ∙ ap (λ n. moves ++ words_sent serial_port c.args.now (flash_bytes flash n (c.args.address + 4))) (c.flash_number-count.ensures ∙ ap (flash_word flash) c.from.ensures))
    (c.send_flash.ensures moves start f)
