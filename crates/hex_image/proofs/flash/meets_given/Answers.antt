use Rattle.std.proofs.Common.{◌≡◌, ◌+◌, sym, ap, ◌∙◌}
use Rattle.std.specs.Prelude.{is_some}
use Rattle.hex_image.specs.Image.{address}
use Rattle.hex_image.specs.Reading.{cell_at}
use Rattle.hex_image.proofs.CellLemmas.{any_from-found, any_from-passed}
use Rattle.hex_image.proofs.flash.meets_given.Goals as goal

pub returns-then-is_given : goal.returns-then-is_given
returns-then-is_given c =
    let at : c.address.result ≡ address c.args.base (c.args.offset + c.loop-i.i) =
    c.address.ensures.value ∙ ap (λ n. address c.args.base (n + c.loop-i.i)) c.from.ensures in
    any_from-found (λ cell. is_some (cell_at c.args.flash.now cell.at)) c.args.base c.args.offset c.args.bytes.now c.loop-i.i c.loop-i-test.true
    (rw (← at) (sym c.is_given.ensures ∙ c.if-is_given.true)) c.loop-i.invariant

pub loop-i-preserved : goal.loop-i-preserved
loop-i-preserved c =
    let at : c.address.result ≡ address c.args.base (c.args.offset + c.loop-i.i) =
    c.address.ensures.value ∙ ap (λ n. address c.args.base (n + c.loop-i.i)) c.from.ensures in
    any_from-passed (λ cell. is_some (cell_at c.args.flash.now cell.at)) c.args.base c.args.offset c.args.bytes.now c.loop-i.i c.loop-i-test.true
    (rw (← at) (sym c.is_given.ensures ∙ c.if-is_given.false)) c.loop-i.invariant
