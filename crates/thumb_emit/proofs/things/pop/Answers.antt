use Rattle.std.proofs.Common.{ℕ, ◌+◌, ◌*◌, ◌++◌, ◌∷◌, [], List, ap, ◌∙◌}
use Rattle.thumb_layout.specs.declared.pieces.Piece.{Piece}
use Rattle.thumb_emit.specs.Emit.{tests_null, pops}
use Rattle.thumb_emit.specs.Ready.{brought, kept, register, result_register}
use Rattle.thumb_emit.proofs.Lists.{on_ok, put_four}
use Rattle.thumb_emit.proofs.things.pop.Goals as goal

pub returns : goal.returns
returns c =
    let p = c.args.placed.now in let old = c.args.out.now in
    let l = 3 * c.args.at.k + 1 in let m = 3 * c.args.at.k + 2 in
    let r = register p 0 c.args.array in let d = result_register p c.args.at.k c.args.to in
    let front : List Piece = brought p 0 c.args.array ∷ [] in
    let last : List Piece = kept p c.args.at.k c.args.to ∷ [] in
    on_ok c.push-2.result _ _
    (λ e. put_four old c.push.new.self c.test_null.new.out c.take_last.new.out c.push-2.new.self front (tests_null r l) (pops d r m) last
    (c.in_ok-push.ensures.ok ∙ ap (λ (x : Piece). old ++ x ∷ []) c.bring.ensures)
    (c.in_ok-test_null.ensures ∙ ap (λ (n : ℕ). c.push.new.self ++ tests_null n l) c.register-rn.ensures)
    (c.in_ok-take_last.ensures ∙ (ap (λ (n : ℕ). c.test_null.new.out ++ pops n c.register-rn.result m) c.made_in.ensures
    ∙ ap (λ (n : ℕ). c.test_null.new.out ++ pops d n m) c.register-rn.ensures))
    (e ∙ ap (λ (x : Piece). c.take_last.new.out ++ x ∷ []) c.keep.ensures))
    c.push-2.ensures.ok
