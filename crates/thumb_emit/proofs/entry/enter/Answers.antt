use Rattle.std.proofs.Common.{◌*◌, ◌++◌, ◌∷◌, [], List, length, true, ap, ◌∙◌}
use Rattle.thumb_code.specs.declared.instructions.Instr.TheVariants.{MovHigh, Push}
use Rattle.thumb_layout.specs.declared.pieces.Piece.{Piece}
use Rattle.thumb_layout.specs.declared.pieces.Piece.TheVariants.{Plain}
use Rattle.register_assign.specs.Sound.{place_of}
use Rattle.thumb_emit.specs.Frame.{below_saved, saved_list, lowers}
use Rattle.thumb_emit.specs.Emit.{moves_pieces}
use Rattle.thumb_emit.specs.Ready.{tests_depth}
use Rattle.thumb_emit.proofs.Lists.{put_four, on_ok}
use Rattle.thumb_emit.proofs.entry.enter.Goals as goal

pub returns : goal.returns
returns c =
    let p = c.args.placed.now in let old = c.args.out.now in
    let a = tests_depth p (3 * length p.function.ops) in
    let place = place_of p.places in
    let b : List Piece = Plain (MovHigh 14 3) ∷ Plain (Push (saved_list p.function place) true) ∷ [] in
    on_ok c.move_parameters.result _ _
    (λ e. put_four old c.test_depth.new.out c.add.new.out c.lower.new.out c.move_parameters.new.out a b (lowers (below_saved p.function place)) (moves_pieces p.function place 0 p.function.params)
    (c.in_ok-test_depth.ensures ∙ ap (λ n. old ++ tests_depth p (3 * n)) c.len.ensures)
    (c.in_ok-add.ensures ∙ ap (λ n. c.test_depth.new.out ++ (Plain (MovHigh 14 3) ∷ Plain (Push n true) ∷ [])) c.saved_list-list.ensures)
    (c.in_ok-lower.ensures ∙ ap (λ n. c.add.new.out ++ lowers n) c.below_saved.ensures.words) e)
    c.move_parameters.ensures
