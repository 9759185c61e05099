use Rattle.std.proofs.Common.{◌+◌, ◌*◌, ◌++◌, ◌∷◌, [], List, ap, ◌∙◌}
use Rattle.thumb_layout.specs.declared.pieces.Piece.{Piece}
use Rattle.register_assign.specs.Sound.{place_of}
use Rattle.thumb_emit.specs.Emit.{passes, calls_slot}
use Rattle.thumb_emit.specs.Ready.{landed}
use Rattle.thumb_emit.proofs.Lists.{put_thrice, on_ok}
use Rattle.thumb_emit.proofs.calls.call_slot.Goals as goal

pub returns : goal.returns
returns c =
    let p = c.args.placed.now in let old = c.args.out.now in
    let a = passes p.function (place_of p.places) 0 c.args.args.now in
    let b = calls_slot c.args.slot (3 * c.args.at.k + 1) in
    let d : List Piece = landed p c.args.at.k c.args.to ∷ [] in
    on_ok c.push.result _ _
    (λ e. put_thrice old c.pass.new.out c.call_method.new.out c.push.new.self a b d
    (c.in_ok-pass.ensures ∙ ap (λ ts. old ++ passes p.function (place_of p.places) 0 ts) c.as_slice.ensures)
    c.in_ok-call_method.ensures
    (e ∙ ap (λ (x : Piece). c.call_method.new.out ++ x ∷ []) c.land.ensures))
    c.push.ensures.ok
