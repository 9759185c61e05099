use Rattle.std.proofs.Common.{◌≡◌, ℕ, suc, ◌+◌, ◌-◌, ◌<◌, ◌++◌, List, ap, sym, ◌∙◌, append_assoc, arith}
use Rattle.thumb_layout.specs.declared.pieces.Piece.{Piece}
use Rattle.flat_ir.specs.declared.ops.Function.{Function}
use Rattle.register_assign.specs.declared.places.Place.{Place}
use Rattle.register_assign.specs.Sound.{place_of}
use Rattle.thumb_emit.specs.Emit.{move_pieces, moves_pieces}
use Rattle.thumb_emit.proofs.entry.move_parameters.Goals as goal

-- the next parameter is moved
moves_on : (f : Function) (place : ℕ → Place) (t n : ℕ) (all out new : List Piece) → t < n → out ++ moves_pieces f place t (n - t) ≡ all → new ≡ out ++ move_pieces f place (place t) t
    → new ++ moves_pieces f place (t + 1) (n - (t + 1)) ≡ all
moves_on f place t n all out new l e h =
    let s : n - t ≡ suc (n - (t + 1)) = omega arith in
    ap (λ (x : List Piece). x ++ moves_pieces f place (t + 1) (n - (t + 1))) h
    ∙ (append_assoc out (move_pieces f place (place t) t) (moves_pieces f place (t + 1) (n - (t + 1)))
    ∙ (ap (λ m. out ++ moves_pieces f place t m) (sym s) ∙ e))

pub loop-t-preserved : goal.loop-t-preserved
loop-t-preserved c =
    let p = c.args.placed.now in
    moves_on p.function (place_of p.places) c.loop-t.t p.function.params _ c.loop-t.out c.move_parameter.new.out (omega arith) c.loop-t.invariant
    (c.in_ok-move_parameter.ensures ∙ ap (λ (q : Place). c.loop-t.out ++ move_pieces p.function (place_of p.places) q c.loop-t.t) c.place_of.ensures.place)
