use Rattle.std.proofs.Common.{ℕ, ◌++◌, ◌∷◌, [], List, ap, ◌∙◌, append_assoc}
use Rattle.thumb_code.specs.declared.instructions.Instr.TheVariants.{StrReg}
use Rattle.thumb_layout.specs.declared.pieces.Piece.{Piece}
use Rattle.thumb_layout.specs.declared.pieces.Piece.TheVariants.{Plain}
use Rattle.thumb_emit.specs.Ready.{brought, reaches_item}
use Rattle.thumb_emit.proofs.Lists.{on_ok}
use Rattle.thumb_emit.proofs.things.set_item.Goals as goal

pub returns : goal.returns
returns c =
    let p = c.args.placed.now in let old = c.args.out.now in
    let r = reaches_item p c.args.at.k c.args.array c.args.index in
    on_ok c.add.result _ _
    (λ e. e ∙ (ap (λ (x : List Piece). x ++ c.bring.result ∷ c.store_at.result ∷ []) c.in_ok-reach_item.ensures
    ∙ (append_assoc old r (c.bring.result ∷ c.store_at.result ∷ [])
    ∙ (ap (λ (x : Piece). old ++ (r ++ (x ∷ c.store_at.result ∷ []))) c.bring.ensures
    ∙ ap (λ (x : Piece). old ++ (r ++ (brought p 3 c.args.from ∷ x ∷ []))) (c.store_at.ensures ∙ ap (λ (n : ℕ). Plain (StrReg n 2 1)) c.register-rs.ensures)))))
    c.add.ensures
