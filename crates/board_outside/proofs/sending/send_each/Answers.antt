use Rattle.std.proofs.Common.{rules, ◌≡◌, ap, ◌∷◌, [], ◌++◌, ◌∙◌, ◌+◌, subst}
use Rattle.thumb_code.specs.Map.{flash_byte}
use Rattle.bank_model.specs.Texts.{flash_bytes}
use Rattle.board_ports.specs.History.{Word, words_sent, FollowsMoves}
use Rattle.board_outside.specs.Ports.{serial_port}
use Rattle.board_outside.proofs.Words.{sent-flash-more, none-sent}
use Rattle.board_outside.proofs.sending.send_each.Goals as goal

pub loop-i-init : goal.loop-i-init
loop-i-init g c = λ moves start f. none-sent g.D.Device.account moves start _ f

pub loop-i-preserved : goal.loop-i-preserved
loop-i-preserved g c = λ moves start f.
    let flash = c.args.machine.now.memory.flash in
    subst (λ ms. FollowsMoves g.D.Device.account ms start c.send.new.self)
    (ap (λ b. (moves ++ words_sent serial_port c.args.now (flash_bytes flash c.loop-i.i c.args.at)) ++ Word 1 c.args.now b ∷ []) (c.from-in-loop-i.ensures ∙ c.flash_byte-byte.ensures ∙ ap (λ k. flash_byte flash (c.args.at + k)) c.from.ensures)
    ∙ sent-flash-more moves c.args.now flash c.args.at c.loop-i.i)
    (c.send.ensures.follows _ start (c.loop-i.invariant moves start f))

pub returns : goal.returns
returns g c = λ moves start f.
    let same : c.loop-i.i ≡ c.args.count = search rules in
    subst (λ n. FollowsMoves g.D.Device.account (moves ++ words_sent serial_port c.args.now (flash_bytes c.args.machine.now.memory.flash n c.args.at)) start c.loop-i.plugs) same (c.loop-i.invariant moves start f)
