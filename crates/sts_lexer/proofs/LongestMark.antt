-- The first mark of the table that stands at a place is the longest one.
use Rattle.std.proofs.Common.{◌≡◌, ℕ, zero, suc, ◌+◌, ◌-◌, ◌<◌, ◌≤◌, true, false, List, [], ◌∷◌, length, take, drop, get_or, refl, sym, ap, ◌∙◌, subst, inl, inr, arith, leb-true}
use Rattle.std.specs.Prelude.{Some, IsTrue, slice_get}
use Rattle.std.specs.Str.{bytes_eq}
use Rattle.std.proofs.lemmas.Bool.{cases_lt, false≢true, and_parts}
use Rattle.std.proofs.lemmas.Option.{get_or_from_slice_get, same_Some}
use Rattle.std.proofs.lemmas.Slice.Eq.{bytes_eq-Decides}
use Rattle.sts_lexer.specs.Bytes.{Stands}
use Rattle.sts_lexer.specs.Marks.{mark_bytes}
use Rattle.sts_lexer.specs.declared.marks.Mark.{Mark}
use Rattle.sts_lexer.proofs.MarkTable.{MARKS, place_of, placed, in_table, at_most, falls, table_falls}

-- the bytes p stand at i exactly where the text from i on starts with them
pub stands_from : (text p : List ℕ) (i : ℕ) → bytes_eq p (take (length p) (drop i text)) ≡ true → Stands text p i (i + length p)
stands_from text p i h =
    let same : i + length p - i ≡ length p = omega arith in
    (subst (λ n. take n (drop i text) ≡ p) (sym same) (sym ((bytes_eq-Decides p (take (length p) (drop i text))).0 h)), refl)

pub stands_starts : (text p : List ℕ) (i j : ℕ) → Stands text p i j → bytes_eq p (take (length p) (drop i text)) ≡ true
stands_starts text p i j h =
    let same : j - i ≡ length p = omega (arith, h.1) in
    (bytes_eq-Decides p (take (length p) (drop i text))).1 (sym (subst (λ n. take n (drop i text) ≡ p) same h.0))

-- no mark that stands before this place in a table stands at i
abbrev pub NoneBefore : List Mark → ℕ → List ℕ → ℕ → Type 0
NoneBefore marks place text i =
    (k : ℕ) (mark : Mark) (end : ℕ) → k < place → slice_get marks k ≡ Some mark → Stands text (mark_bytes mark) i end → ⊥

pub none_more : (marks : List Mark) (place i : ℕ) (text bytes : List ℕ) (d : Mark) → bytes ≡ mark_bytes (get_or marks place d)
    → bytes_eq bytes (take (length bytes) (drop i text)) ≡ false → NoneBefore marks place text i → NoneBefore marks (place + 1) text i
none_more marks place i text bytes d is differ before k mark end below here stands =
    elim (cases_lt k place) [
      | inl lt ↦ before k mark end lt here stands
      | inr le ↦
          let at : k ≡ place = omega arith in
          let this : get_or marks place d ≡ mark = get_or_from_slice_get marks place mark d (subst (λ x. slice_get marks x ≡ Some mark) at here) in
          let that : mark_bytes mark ≡ bytes = sym (is ∙ ap mark_bytes this) in
          false≢true (sym differ ∙ stands_starts text bytes i end (subst (λ x. Stands text x i end) that stands))
    ]

pub none_at_all : (text : List ℕ) (place i : ℕ) → 49 ≤ place → NoneBefore MARKS place text i → (mark : Mark) (end : ℕ) → Stands text (mark_bytes mark) i end → ⊥
none_at_all text place i all before mark end stands = before (place_of mark) mark end (omega (arith, in_table mark)) (placed mark) stands

below_most : (most : ℕ) (marks : List Mark) (k : ℕ) (mark : Mark) → IsTrue (at_most most marks) → slice_get marks k ≡ Some mark → length (mark_bytes mark) ≤ most
below_most most [] k mark h here = absurd (cc)
below_most most (x ∷ rest) zero mark h here =
    subst (λ y. length (mark_bytes y) ≤ most) (same_Some x mark here) (leb-true _ _ (and_parts _ _ h).0)
below_most most (x ∷ rest) (suc k) mark h here = below_most most rest k mark (and_parts _ _ h).1 here

later_shorter : (marks : List Mark) (j k : ℕ) (mark mark' : Mark) → IsTrue (falls marks) → j ≤ k → slice_get marks j ≡ Some mark → slice_get marks k ≡ Some mark'
    → length (mark_bytes mark') ≤ length (mark_bytes mark)
later_shorter [] j k mark mark' h le here there = absurd (cc)
later_shorter (x ∷ rest) zero zero mark mark' h le here there =
    subst (λ y. length (mark_bytes mark') ≤ length (mark_bytes y)) (same_Some x mark here)
    (subst (λ y. length (mark_bytes mark') ≤ length (mark_bytes y)) (sym (same_Some x mark' there)) (omega arith))
later_shorter (x ∷ rest) zero (suc k) mark mark' h le here there =
    subst (λ y. length (mark_bytes mark') ≤ length (mark_bytes y)) (same_Some x mark here)
    (below_most (length (mark_bytes x)) rest k mark' (and_parts _ _ h).0 there)
later_shorter (x ∷ rest) (suc j) zero mark mark' h le here there = absurd (omega arith)
later_shorter (x ∷ rest) (suc j) (suc k) mark mark' h le here there =
    later_shorter rest j k mark mark' (and_parts _ _ h).1 (omega arith) here there

-- of a table in which no mark is longer than those before it
pub longest_of : (marks : List Mark) → IsTrue (falls marks) → (text : List ℕ) (place i : ℕ) (this : Mark) → slice_get marks place ≡ Some this → NoneBefore marks place text i
    → (k : ℕ) (mark : Mark) (end : ℕ) → slice_get marks k ≡ Some mark → Stands text (mark_bytes mark) i end → end ≤ i + length (mark_bytes this)
longest_of marks falling text place i this here before k mark end there stands =
    elim (cases_lt k place) [
      | inl lt ↦ absurd (before k mark end lt there stands)
      | inr le ↦ omega (arith, later_shorter marks place k this mark falling le here there, stands.1)
    ]

pub first_longest : (text : List ℕ) (place i : ℕ) (this : Mark) → slice_get MARKS place ≡ Some this → NoneBefore MARKS place text i
    → (mark : Mark) (end : ℕ) → Stands text (mark_bytes mark) i end → end ≤ i + length (mark_bytes this)
first_longest text place i this here before mark end stands =
    longest_of MARKS table_falls text place i this here before (place_of mark) mark end (placed mark) stands
