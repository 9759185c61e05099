-- What holds of the pieces of every operator, of each kind of them.
use Rattle.std.proofs.Common.{ℕ, ◌==◌, List, [], ◌∷◌}
use Rattle.thumb_code.specs.declared.instructions.Instr.{Instr}
use Rattle.thumb_code.specs.declared.instructions.Instr.TheVariants.{AddReg, SubReg, AddImm3, SubImm3, CmpImm, CmpReg, And, Eor, Orr, Mul, Mvn, Rsb, LslReg, AsrReg, LsrReg, MovHigh}
use Rattle.thumb_layout.specs.declared.pieces.Piece.{Piece}
use Rattle.thumb_layout.specs.declared.pieces.Piece.TheVariants.{Plain}
use Rattle.flat_ir.specs.declared.ops.Function.{Function}
use Rattle.thumb_emit.specs.Emit.{decides, beside, combines, shifts, divides, unary, binary, equal, unequal, at_least, less, greater, at_most}
use Rattle.thumb_emit.proofs.Lists.{if_has}

module _ (P : List Piece → Type 0) (f : Function) (rd op label : ℕ) (one : (x : Instr) → P (Plain x ∷ []))
    (decided : (by : ℕ) (x : Instr) (cond : ℕ) → P (decides f rd by x cond label)) where
  pub unary_has : (from : ℕ) → P (unary f rd from op label)
  unary_has from =
      if_has P (op == 1) _ _ (one (Rsb rd from))
      (if_has P (op == 2) _ _ (one (MovHigh rd from))
      (if_has P (op == 3) _ _ (decided (beside 1 rd from) (CmpImm from 0) equal)
      (if_has P (op == 4) _ _ (one (Mvn rd from))
      (if_has P (op == 5) _ _ (one (AddImm3 rd from 1)) (one (SubImm3 rd from 1))))))

  module _ (left right : ℕ) where
    abbrev by : ℕ
    by = beside 2 (beside 2 rd left) right

    pub binary_has : ((x : ℕ → ℕ → Instr) → P (combines f rd left right x)) → ((x : ℕ → ℕ → Instr) → P (shifts f rd left right x))
        → ((answer : ℕ) → P (divides f rd left right answer)) → P (binary f rd left right op label)
    binary_has combined shifted divided =
        if_has P (op == 1) _ _ (combined Orr)
        (if_has P (op == 2) _ _ (combined Eor)
        (if_has P (op == 3) _ _ (combined And)
        (if_has P (op == 4) _ _ (decided by (CmpReg left right) equal)
        (if_has P (op == 5) _ _ (decided by (CmpReg left right) unequal)
        (if_has P (op == 6) _ _ (decided by (CmpReg left right) less)
        (if_has P (op == 7) _ _ (decided by (CmpReg left right) greater)
        (if_has P (op == 8) _ _ (decided by (CmpReg left right) at_most)
        (if_has P (op == 9) _ _ (decided by (CmpReg left right) at_least)
        (if_has P (op == 10) _ _ (shifted LslReg)
        (if_has P (op == 11) _ _ (shifted AsrReg)
        (if_has P (op == 12) _ _ (shifted LsrReg)
        (if_has P (op == 13) _ _ (one (AddReg rd left right))
        (if_has P (op == 14) _ _ (one (SubReg rd left right))
        (if_has P (op == 15) _ _ (combined Mul)
        (if_has P (op == 16) _ _ (divided 0) (divided 1))))))))))))))))
