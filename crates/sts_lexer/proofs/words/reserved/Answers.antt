use Rattle.std.proofs.Common.{◌≡◌, ◌≢◌, ℕ, ◌+◌, ◌<◌, false, List, get_or, sym, ap, ◌∙◌, subst, inl, inr, arith}
use Rattle.std.specs.Prelude.{Some, slice_get, slice_index}
use Rattle.std.specs.Str.{bytes_eq}
use Rattle.std.proofs.lemmas.Bool.{cases_lt, false≢true}
use Rattle.std.proofs.lemmas.Option.{get_or_from_slice_get}
use Rattle.std.proofs.lemmas.Slice.Eq.{bytes_eq-Decides}
use Rattle.sts_lexer.specs.Words.{word_bytes}
use Rattle.sts_lexer.specs.inner.{words_beginning}
use Rattle.sts_lexer.specs.declared.words.Word.{Word}
use Rattle.sts_lexer.specs.declared.words.Word.TheVariants.{Break}
use Rattle.sts_lexer.proofs.Beginnings.{IsAmong, word_among}
use Rattle.sts_lexer.proofs.words.reserved.Goals as goal

pub returns-clause-none : goal.returns-clause-none
returns-clause-none c = λ word same.
    let listed : words_beginning (slice_index c.args.bytes.now 0) ≡ c.words_beginning-words.result.now = sym (c.words_beginning-words.ensures ∙ ap words_beginning c.byte_at.ensures) in
    let (k, below, here) = subst (λ (words : List Word). IsAmong word words) listed (word_among c.args.bytes.now word same) in
    c.loop-word.invariant k word (omega (arith, below, c.loop-word-test.false)) here same

one_more : (items : List Word) (i : ℕ) (shown bytes : List ℕ) (d : Word) → shown ≡ word_bytes (get_or items i d) → bytes_eq shown bytes ≡ false
    → ((k : ℕ) (word : Word) → k < i → slice_get items k ≡ Some word → bytes ≢ word_bytes word)
    → (k : ℕ) (word : Word) → k < i + 1 → slice_get items k ≡ Some word → bytes ≢ word_bytes word
one_more items i shown bytes d is differ before k word below here same =
    elim (cases_lt k i) [
      | inl lt ↦ before k word lt here same
      | inr le ↦
          let at : i ≡ k = omega arith in
          let this : get_or items i d ≡ word = get_or_from_slice_get items i word d (subst (λ x. slice_get items x ≡ Some word) (sym at) here) in
          false≢true (sym differ ∙ (bytes_eq-Decides shown bytes).1 (is ∙ ap word_bytes this ∙ sym same))
    ]

pub loop-word-preserved : goal.loop-word-preserved
loop-word-preserved c =
    one_more c.words_beginning-words.result.now c.loop-word.word-index c.spelling.result.now c.args.bytes.now Break c.spelling.ensures (sym c.eq.ensures ∙ c.if-eq.false)
    c.loop-word.invariant
