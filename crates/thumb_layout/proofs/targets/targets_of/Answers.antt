use Rattle.std.proofs.Common.{◌≡◌, ◌∷◌, ◌++◌, [], arith, ◌∙◌}
use Rattle.std.proofs.lemmas.Grind.{common_steps}
use Rattle.thumb_layout.proofs.Growing.{targets_step, target_sound}
use Rattle.thumb_layout.proofs.targets.targets_of.Goals as goal

pub loop-piece-preserved : goal.loop-piece-preserved
loop-piece-preserved c =
    let xs = c.args.pieces.now in
    let i = c.loop-piece.piece-index in
    let pushed : c.push.new.self.items ≡ c.loop-piece.targets.items ++ c.target_of.result ∷ [] = grind (arith, common_steps) in
    targets_step xs i _ c.loop-piece.targets.items c.push.new.self.items c.target_of.result (omega arith) pushed
    (c.target_of.ensures xs c.in_ok-labels.ensures ∙ target_sound xs i _ c.requires (omega arith)) c.loop-piece.invariant
