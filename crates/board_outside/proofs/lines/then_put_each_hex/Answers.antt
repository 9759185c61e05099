use Rattle.std.proofs.Common.{rules, ◌≡◌, ap, sym, ◌∷◌, [], ◌++◌, ◌∙◌, ◌+◌}
use Rattle.std.proofs.lemmas.List.{append-nil}
use Rattle.board_world.specs.Transcript.{hex_text}
use Rattle.thumb_code.specs.Map.{flash_byte}
use Rattle.bank_model.specs.Texts.{flash_bytes}
use Rattle.tool_io.proofs.Laws.{puts-as}
use Rattle.board_outside.proofs.Texts.{flash-one-more}
use Rattle.board_outside.proofs.lines.then_put_each_hex.Goals as goal

pub loop-i-init : goal.loop-i-init
loop-i-init g c = λ taken faults text p. puts-as c.args.before _ _ (sym (append-nil text)) p

pub loop-i-preserved : goal.loop-i-preserved
loop-i-preserved g c = λ taken faults text p.
    let flash = c.args.machine.now.memory.flash in
    puts-as c.then_put_few-put.result _ _
    (ap (λ b. text ++ hex_text (flash_bytes flash c.loop-i.i c.args.at) ++ hex_text (b ∷ [])) (c.flash_byte.ensures ∙ ap (λ k. flash_byte flash (c.args.at + k)) c.from.ensures) ∙ flash-one-more text flash c.args.at c.loop-i.i)
    (c.then_put_few-put.ensures taken faults _ (c.loop-i.invariant taken faults text p))

pub returns : goal.returns
returns g c = λ taken faults text p.
    let same : c.loop-i.i ≡ c.args.count = search rules in
    puts-as c.loop-i.put _ _
    (ap (λ n. text ++ hex_text (flash_bytes c.args.machine.now.memory.flash n c.args.at)) same)
    (c.loop-i.invariant taken faults text p)
