use Rattle.std.proofs.Common.{◌≡◌, ◌∷◌, ◌++◌, [], arith}
use Rattle.std.proofs.lemmas.Grind.{common_steps}
use Rattle.thumb_layout.specs.declared.pieces.Piece.TheVariants.{Label}
use Rattle.thumb_layout.proofs.Growing.{short_step}
use Rattle.thumb_layout.proofs.rounds.short.Goals as goal

pub loop-preserved : goal.loop-preserved
loop-preserved c =
    let pushed : c.push.new.self.items ≡ c.loop.forms.items ++ 0 ∷ [] = grind (arith, common_steps) in
    short_step c.args.pieces.now c.loop.index (Label 0) c.loop.forms.items c.push.new.self.items (omega arith) pushed c.loop.invariant
