-- A mark that stands, and a word, is among those that begin with its first byte.
use Rattle.std.proofs.Common.{◌≡◌, ℕ, suc, ◌<◌, cond, List, [], ◌∷◌, length, sym, subst, inl, inr, arith}
use Rattle.std.specs.Prelude.{Some, slice_get, slice_index}
use Rattle.std.specs.Str.{bytes_eq}
use Rattle.std.proofs.lemmas.Bool.{cases_Bool}
use Rattle.sts_lexer.specs.Bytes.{Stands}
use Rattle.sts_lexer.specs.Marks.{mark_bytes}
use Rattle.sts_lexer.specs.Words.{word_bytes}
use Rattle.sts_lexer.specs.inner.{marks_beginning, words_beginning}
use Rattle.sts_lexer.specs.declared.marks.Mark.{Mark}
use Rattle.sts_lexer.specs.declared.words.Word.{Word}
use Rattle.sts_lexer.proofs.MarkTable.{mark_of, mark_begins, found_from as mark_found}
use Rattle.sts_lexer.proofs.WordTable.{word_of, found_from as word_found}
use Rattle.sts_lexer.proofs.Lexing.{stands_first, mark_some}

-- an item has a place in a list
abbrev pub IsAmong : {A : Type 0} → A → List A → Type 0
IsAmong item items = (k : ℕ) × (k < length items) × (slice_get items k ≡ Some item)

mark_place : (marks : List Mark) (bytes : List ℕ) (mark : Mark) → mark_of marks bytes ≡ Some mark → IsAmong mark marks
mark_place [] bytes mark h = absurd (cc)
mark_place (x ∷ rest) bytes mark h =
    elim (cases_Bool (bytes_eq (mark_bytes x) bytes)) [
      | inl same ↦ (0, omega arith, subst (λ b. cond b (Some x) (mark_of rest bytes) ≡ Some mark) same h)
      | inr other ↦ (let (k, below, here) = mark_place rest bytes mark (subst (λ b. cond b (Some x) (mark_of rest bytes) ≡ Some mark) other h) in (suc k, omega (arith, below), here))
    ]

word_place : (words : List Word) (bytes : List ℕ) (word : Word) → word_of words bytes ≡ Some word → IsAmong word words
word_place [] bytes word h = absurd (cc)
word_place (x ∷ rest) bytes word h =
    elim (cases_Bool (bytes_eq (word_bytes x) bytes)) [
      | inl same ↦ (0, omega arith, subst (λ b. cond b (Some x) (word_of rest bytes) ≡ Some word) same h)
      | inr other ↦ (let (k, below, here) = word_place rest bytes word (subst (λ b. cond b (Some x) (word_of rest bytes) ≡ Some word) other h) in (suc k, omega (arith, below), here))
    ]

pub mark_among : (text : List ℕ) (i end : ℕ) (mark : Mark) → Stands text (mark_bytes mark) i end → IsAmong mark (marks_beginning (slice_index text i))
mark_among text i end mark stands =
    let first : slice_index text i ≡ slice_index (mark_bytes mark) 0 = stands_first text (mark_bytes mark) i end stands (mark_some mark (mark_bytes mark) (mark_begins mark)) in
    subst (λ (b : ℕ). IsAmong mark (marks_beginning b)) (sym first) (mark_place (marks_beginning (slice_index (mark_bytes mark) 0)) (mark_bytes mark) mark (mark_found mark))

pub word_among : (bytes : List ℕ) (word : Word) → bytes ≡ word_bytes word → IsAmong word (words_beginning (slice_index bytes 0))
word_among bytes word same =
    subst (λ (x : List ℕ). IsAmong word (words_beginning (slice_index x 0))) (sym same) (word_place (words_beginning (slice_index (word_bytes word) 0)) (word_bytes word) word (word_found word))
