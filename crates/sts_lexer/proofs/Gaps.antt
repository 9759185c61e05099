-- White space and comments.
use Rattle.std.proofs.Common.{◌≡◌, ℕ, ◌+◌, ◌<◌, ◌≤◌, false, List, [], ◌∷◌, ◌++◌, length, refl, sym, subst, inl, inr, arith}
use Rattle.std.specs.Prelude.{not, slice_index}
use Rattle.std.proofs.lemmas.Bool.{cases_lt, not-false}
use Rattle.std.proofs.lemmas.Bool.Decides.{nat_tests}
use Rattle.sts_lexer.specs.Bytes.{is_break, Each}
use Rattle.sts_lexer.specs.Spaces.{IsLineComment, IsSpace, IsGap}
use Rattle.sts_lexer.proofs.Bodies.{inside}

slash_goes_on : (byte : ℕ) → byte ≡ 47 → not (is_break byte) ≡ false → ⊥
slash_goes_on byte h e = grind (arith, nat_tests)

too_early : (text : List ℕ) (i j : ℕ) → slice_index text i ≡ 47 → slice_index text (i + 1) ≡ 47 → i ≤ j → i + 1 < length text → j < i + 2
    → (j < length text → not (is_break (slice_index text j)) ≡ false) → ⊥
too_early text i j one two from short early ends =
    elim (cases_lt i j) [
      | inl behind ↦ let at : j ≡ i + 1 = omega arith in slash_goes_on (slice_index text j) (subst (λ x. slice_index text x ≡ 47) (sym at) two) (ends (omega arith))
      | inr here ↦ let at : j ≡ i = omega arith in slash_goes_on (slice_index text j) (subst (λ x. slice_index text x ≡ 47) (sym at) one) (ends (omega arith))
    ]

-- a run of bytes that aren't breaks, from `//` on, is a comment
pub line_comment : (text : List ℕ) (i j : ℕ) → slice_index text i ≡ 47 → slice_index text (i + 1) ≡ 47 → i ≤ j → j ≤ length text
    → Each (λ byte. not (is_break byte)) text i j → (j < length text → not (is_break (slice_index text j)) ≡ false) → IsLineComment text i j
line_comment text i j one two from within each ends =
    let short : i + 1 < length text = inside text (i + 1) 47 two (omega arith) in
    record {
      first = one;
      second = two;
      after = elim (cases_lt j (i + 2)) [
        | inl early ↦ absurd (too_early text i j one two from short early ends)
        | inr le ↦ le
      ];
      within = within;
      unbroken = each;
      ends = elim (cases_lt j (length text)) [
        | inl lt ↦ inr (not-false _ (ends lt))
        | inr le ↦ inl (omega arith)
      ];
    }

pub gap_more : (text : List ℕ) (i j k : ℕ) (places : List ℕ) → IsGap text i places j → IsSpace text j k → IsGap text i (places ++ k ∷ []) k
gap_more text i j k [] h s = (subst (λ x. IsSpace text x k) (sym h) s, refl)
gap_more text i j k (next ∷ places) h s = (h.0, gap_more text next j k places h.1 s)
