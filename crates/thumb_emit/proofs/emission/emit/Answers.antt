use Rattle.std.proofs.Common.{◌≡◌, List, sym, subst, arith}
use Rattle.std.proofs.lemmas.Grind.{common_steps}
use Rattle.thumb_layout.specs.declared.pieces.Piece.{Piece}
use Rattle.thumb_layout.specs.Soundness.{IsSound}
use Rattle.thumb_emit.specs.Emit.{function_pieces}
use Rattle.thumb_emit.specs.Ready.{IsReady}
use Rattle.thumb_emit.proofs.Once.{function_sound}
use Rattle.thumb_emit.proofs.emission.emit.Goals as goal

pub returns-clause-sound : goal.returns-clause-sound
returns-clause-sound c =
    let p = c.args.placed.now in
    let e : c.loop-at.out ≡ function_pieces p = grind (arith, common_steps) in
    let r : IsReady p = record { formed = c.requires.formed; sound = c.requires.sound } in
    subst (λ (xs : List Piece). IsSound xs) (sym e) (function_sound p r)

pub loop-at-preserved : goal.loop-at-preserved
loop-at-preserved c = grind (arith, common_steps)

pub returns-clause-pieces : goal.returns-clause-pieces
returns-clause-pieces c = grind (arith, common_steps)

pub put_op-requires : goal.put_op-requires
put_op-requires c = grind (arith, common_steps)
