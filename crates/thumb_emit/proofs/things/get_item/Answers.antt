use Rattle.std.proofs.Common.{ℕ, ◌++◌, ◌∷◌, [], List, ap, ◌∙◌, append_assoc}
use Rattle.thumb_code.specs.declared.instructions.Instr.TheVariants.{LdrReg}
use Rattle.thumb_layout.specs.declared.pieces.Piece.{Piece}
use Rattle.thumb_layout.specs.declared.pieces.Piece.TheVariants.{Plain}
use Rattle.thumb_emit.specs.Ready.{result_register, reaches_item}
use Rattle.thumb_emit.proofs.Lists.{on_ok}
use Rattle.thumb_emit.proofs.things.get_item.Goals as goal

pub returns : goal.returns
returns c =
    let p = c.args.placed.now in let old = c.args.out.now in
    let r = reaches_item p c.args.at.k c.args.array c.args.index in
    on_ok c.add.result _ _
    (λ e. e ∙ (ap (λ (x : List Piece). x ++ c.load_at.result ∷ c.keep.result ∷ []) c.in_ok-reach_item.ensures
    ∙ (append_assoc old r (c.load_at.result ∷ c.keep.result ∷ [])
    ∙ (ap (λ (x : Piece). old ++ (r ++ (x ∷ c.keep.result ∷ []))) (c.load_at.ensures ∙ ap (λ (n : ℕ). Plain (LdrReg n 2 1)) c.made_in-rd.ensures)
    ∙ ap (λ (x : Piece). old ++ (r ++ (Plain (LdrReg (result_register p c.args.at.k c.args.to) 2 1) ∷ x ∷ []))) c.keep.ensures))))
    c.add.ensures
