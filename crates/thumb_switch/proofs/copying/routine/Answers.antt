use Rattle.std.proofs.Common.{◌≡◌, ◌<◌, ◌∙◌, List, length, subst, sym, ap, arith}
use Rattle.thumb_layout.specs.declared.laid.Laid.{Laid}
use Rattle.thumb_layout.specs.declared.pieces.Piece.{Piece}
use Rattle.thumb_layout.specs.Soundness.{IsSound}
use Rattle.thumb_layout.specs.Cells.{laid}
use Rattle.thumb_switch.proofs.Pieces.{routine_sound, routine_laid, routine_short}
use Rattle.thumb_switch.proofs.copying.routine.Goals as goal

pub lay-requires : goal.lay-requires
lay-requires c = subst IsSound (sym c.in_ok-pieces.ensures) routine_sound

pub returns-in-Ok-clause-laid : goal.returns-in-Ok-clause-laid
returns-in-Ok-clause-laid c = ap (λ (l : Laid). l.bytes) c.in-Ok.ensures.laid ∙ ap (λ (p : List Piece). (laid p).bytes) c.in_ok-pieces.ensures

pub returns-in-Ok-clause-bytes : goal.returns-in-Ok-clause-bytes
returns-in-Ok-clause-bytes c = ap (λ (l : Laid). l.bytes) c.in-Ok.ensures.laid ∙ (ap (λ (p : List Piece). (laid p).bytes) c.in_ok-pieces.ensures ∙ routine_laid)

-- the layout has 26 bytes
pub unreachable-requires : goal.unreachable-requires
unreachable-requires c =
    let many : 65536 < length (laid c.in_ok-pieces.pieces).bytes = c.in-Err-TooLong.ensures.too_long c.in-Err-TooLong.field-0-is in
    let few : length (laid c.in_ok-pieces.pieces).bytes ≡ 26 = routine_short _ (ap (λ (p : List Piece). (laid p).bytes) c.in_ok-pieces.ensures ∙ routine_laid) in
    omega arith
