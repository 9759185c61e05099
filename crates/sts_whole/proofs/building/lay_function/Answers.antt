use Rattle.std.proofs.Common.{◌<◌, length, ap, subst, ◌∙◌, arith}
use Rattle.thumb_layout.specs.Cells.{laid}
use Rattle.sts_whole.proofs.building.lay_function.Goals as goal

pub returns-in-Ok : goal.returns-in-Ok
returns-in-Ok c = c.in-Ok.ensures.laid ∙ ap laid c.in_ok-pieces.ensures.pieces

pub unreachable-requires : goal.unreachable-requires
unreachable-requires c =
    let long : 65536 < length (laid c.in_ok-pieces.pieces).bytes = c.in-Err-TooLong.ensures.too_long c.in-Err-TooLong.field-0-is in
    let more = subst (λ xs. 65536 < length (laid xs).bytes) c.in_ok-pieces.ensures.pieces long in
    omega (arith, more, c.requires.short)
