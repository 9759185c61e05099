use Rattle.std.proofs.Common.{rules, ◌∙◌, ap, refl, length, take, drop, ◌+◌, ◌-◌, arith}
use Rattle.bank_model.specs.Texts.{flash_bytes}
use Rattle.board_outside.proofs.Texts.{image-part}
use Rattle.board_outside.proofs.flash.image_bytes.Goals as goal

pub returns-clause-bytes : goal.returns-clause-bytes
returns-clause-bytes c =
    let flash = c.flash-flash.result.now in
    let from = c.min-from.result in
    let there = c.min-there.result in
    let found = take (from + there - from) (drop from flash) in
    image-part flash found c.args.at from there (search rules) (omega (arith, c.min-there.ensures)) refl
    ∙ ap (λ f. flash_bytes f (length found) c.args.at) c.flash-flash.ensures
