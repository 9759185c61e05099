use Rattle.std.proofs.Common.{ℕ, ◌+◌, ◌*◌, ◌++◌, ◌∷◌, [], List, ap, ◌∙◌, append_assoc}
use Rattle.thumb_layout.specs.declared.pieces.Piece.{Piece}
use Rattle.thumb_emit.specs.Emit.{tests_null, tests_index, finds_item}
use Rattle.thumb_emit.specs.Ready.{brought, register}
use Rattle.thumb_emit.proofs.Lists.{on_ok}
use Rattle.thumb_emit.proofs.things.reach_item.Goals as goal

pub returns : goal.returns
returns c =
    let p = c.args.placed.now in let old = c.args.out.now in
    let b : ℕ → ℕ → List Piece = λ r i. tests_null r (3 * c.args.at.k + 1) ++ (tests_index r i (3 * c.args.at.k + 2) ++ finds_item r i) in
    on_ok c.test_item.result _ _
    (λ e. e ∙ (ap (λ (n : ℕ). c.add.new.out ++ b n c.register.result) c.register-rn.ensures ∙ (ap (λ (n : ℕ). c.add.new.out ++ b (register p 0 c.args.array) n) c.register.ensures
    ∙ (ap (λ (x : List Piece). x ++ b (register p 0 c.args.array) (register p 1 c.args.index)) (c.in_ok-add.ensures ∙ (ap (λ (x : Piece). old ++ x ∷ c.bring-2.result ∷ []) c.bring.ensures ∙ ap (λ (x : Piece). old ++ brought p 0 c.args.array ∷ x ∷ []) c.bring-2.ensures))
    ∙ append_assoc old (brought p 0 c.args.array ∷ brought p 1 c.args.index ∷ []) (b (register p 0 c.args.array) (register p 1 c.args.index))))))
    c.test_item.ensures
