use Rattle.std.proofs.Common.{◌≡◌, ◌+◌, nat_le, ap, ◌∙◌, arith}
use Rattle.std.proofs.lemmas.Bool.Decides.{nat_tests}
use Rattle.hex_image.specs.Image.{address}
use Rattle.hex_image.specs.Spells.{flash_size}
use Rattle.hex_image.proofs.CellLemmas.{any_from-found, any_from-passed}
use Rattle.hex_image.proofs.flash.passes_flash.Goals as goal

pub returns-then-address-ge-FLASH : goal.returns-then-address-ge-FLASH
returns-then-address-ge-FLASH c =
    let at : c.address.result ≡ address c.args.base (c.args.offset + c.loop-i.i) =
    c.address.ensures.value ∙ ap (λ n. address c.args.base (n + c.loop-i.i)) c.from.ensures in
    any_from-found (λ cell. nat_le flash_size cell.at) c.args.base c.args.offset c.args.bytes.now c.loop-i.i c.loop-i-test.true
    (rw (← at) (grind (arith, nat_tests))) c.loop-i.invariant

pub loop-i-preserved : goal.loop-i-preserved
loop-i-preserved c =
    let at : c.address.result ≡ address c.args.base (c.args.offset + c.loop-i.i) =
    c.address.ensures.value ∙ ap (λ n. address c.args.base (n + c.loop-i.i)) c.from.ensures in
    any_from-passed (λ cell. nat_le flash_size cell.at) c.args.base c.args.offset c.args.bytes.now c.loop-i.i c.loop-i-test.true
    (rw (← at) (grind (arith, nat_tests))) c.loop-i.invariant
