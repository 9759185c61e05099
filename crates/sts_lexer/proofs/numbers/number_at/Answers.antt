use Rattle.std.proofs.Common.{◌≡◌, ◌+◌, ℕ, sym, subst, ◌∙◌, inl, inr}
use Rattle.std.specs.Prelude.{slice_index, IsTrue}
use Rattle.std.proofs.lemmas.Bool.{false≢true}
use Rattle.sts_lexer.specs.Lexemes.{IsX, ends_number}
use Rattle.sts_lexer.proofs.Digits.{x_goes_on, none_from}
use Rattle.sts_lexer.proofs.numbers.number_at.Goals as goal
use Rattle.sts_lexer.proofs.numbers.number_at.Goals.{else-text-at-eq48-via-then-text-at-eq48+else-is_x, else-text-at-eq48-via-else-text-at-eq48}

pub returns-then-is_x-clause-none : goal.returns-then-is_x-clause-none
returns-then-is_x-clause-none c =
    let text = c.args.text.now in
    let x : IsX (slice_index text (c.args.at + 1)) = subst (λ (b : ℕ). IsX b) c.byte_at.ensures (c.is_x.ensures.0 c.if-is_x.true) in
    none_from c.hex_at.result _ _ c.hex_at.ensures.none (λ none value end h. elim h [
      | inl decimal ↦
          let here : end ≡ c.args.at + 1 = decimal.0.1 c.if-text-at-eq48.true in
          x_goes_on (slice_index text (c.args.at + 1)) x (subst (λ (j : ℕ). IsTrue (ends_number (slice_index text j))) here decimal.1.ends)
      | inr hex ↦ none value end hex.0 hex.1
    ])

pub returns-else-text-at-eq48-clause-none : goal.returns-else-text-at-eq48-clause-none
returns-else-text-at-eq48-clause-none c =
    let text = c.args.text.now in
    none_from c.decimal_at.result _ _ c.decimal_at.ensures.none (λ none value end h. elim h [
      | inl decimal ↦ none value end decimal.0 decimal.1
      | inr hex ↦ elim c.else-text-at-eq48.branch [
        | else-text-at-eq48-via-then-text-at-eq48+else-is_x w ↦
            false≢true (sym w.if-is_x.false ∙ w.is_x.ensures.1 (subst (λ (b : ℕ). IsX b) (sym w.byte_at.ensures) hex.0.1))
        | else-text-at-eq48-via-else-text-at-eq48 w ↦ w.if-text-at-eq48.false hex.0.0
      ]
    ])
