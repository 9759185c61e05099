-- What the bytes at the front of the rest of a text say of the text.
use Rattle.std.proofs.Common.{◌≡◌, ℕ, zero, suc, ◌+◌, ◌<◌, ◌≤◌, Bool, true, false, List, [], ◌∷◌, length, drop, refl, sym, ap, ◌∙◌, subst, inl, inr, arith}
use Rattle.std.specs.Prelude.{IsTrue, ◌&&◌, ◌||◌, slice_index}
use Rattle.std.proofs.lemmas.Bool.{and_parts, or_cases, false≢true, cases_order}
use Rattle.std.proofs.lemmas.List.{drop-drop, get_or-drop, length-drop}
use Rattle.sts_lexer.specs.Bytes.{is_blank, Each, SomeByte}
use Rattle.sts_lexer.specs.Spaces.{IsGap}

-- the first n bytes are there and pass the test
abbrev pub all_first : (ℕ → Bool) → ℕ → List ℕ → Bool
all_first test zero rest = true
all_first test (suc n) [] = false
all_first test (suc n) (b ∷ rest) = test b && all_first test n rest

-- one of the first n bytes passes the test
abbrev pub some_first : (ℕ → Bool) → ℕ → List ℕ → Bool
some_first test zero rest = false
some_first test (suc n) [] = false
some_first test (suc n) (b ∷ rest) = test b || some_first test n rest

pub byte_at : (text : List ℕ) (i k : ℕ) → slice_index (drop i text) k ≡ slice_index text (i + k)
byte_at text i k = get_or-drop i text k 0

pub first_byte : (text rest : List ℕ) (i b : ℕ) → drop i text ≡ b ∷ rest → slice_index text i ≡ b
first_byte text rest i b h =
    let here : i + 0 ≡ i = omega arith in
    sym (ap (λ (x : ℕ). slice_index text x) here) ∙ (sym (byte_at text i 0) ∙ ap (λ (x : List ℕ). slice_index x 0) h)

pub behind_first : (text rest : List ℕ) (i b : ℕ) → drop i text ≡ b ∷ rest → drop (i + 1) text ≡ rest
behind_first text rest i b h = sym (drop-drop 1 i text) ∙ ap (λ (x : List ℕ). drop 1 x) h

pub enough : (test : ℕ → Bool) (n : ℕ) (rest : List ℕ) → IsTrue (all_first test n rest) → n ≤ length rest
enough test zero rest h = omega arith
enough test (suc n) [] h = absurd (false≢true h)
enough test (suc n) (b ∷ rest) h = omega (arith, enough test n rest (and_parts _ _ h).1)

pub within : (text rest : List ℕ) (i n : ℕ) → drop i text ≡ rest → n ≤ length rest → 0 < n → i + n ≤ length text
within text rest i n h le some =
    let size : length (drop i text) ≡ length rest = ap (λ (x : List ℕ). length x) h in
    omega (arith, length-drop i text, size)

pub each_first : (test : ℕ → Bool) (text rest : List ℕ) (n i : ℕ) → drop i text ≡ rest → IsTrue (all_first test n rest) → Each test text i (i + n)
each_first test text rest zero i h all k from below = absurd (omega arith)
each_first test text [] (suc n) i h all k from below = absurd (false≢true all)
each_first test text (b ∷ rest) (suc n) i h all k from below =
    elim (cases_order k i) [
      | inl same ↦ subst (λ (x : ℕ). IsTrue (test (slice_index text x))) (sym same) (subst (λ (x : ℕ). IsTrue (test x)) (sym (first_byte text rest i b h)) (and_parts _ _ all).0)
      | inr other ↦ each_first test text rest n (i + 1) (behind_first text rest i b h) (and_parts _ _ all).1 k (omega (arith, other)) (omega arith)
    ]

pub some_there : (test : ℕ → Bool) (text rest : List ℕ) (n i : ℕ) → drop i text ≡ rest → IsTrue (some_first test n rest) → SomeByte test text i (i + n)
some_there test text rest zero i h some = absurd (false≢true some)
some_there test text [] (suc n) i h some = absurd (false≢true some)
some_there test text (b ∷ rest) (suc n) i h some =
    elim (or_cases _ _ some) [
      | inl here ↦ (i, omega arith, omega arith, subst (λ (x : ℕ). IsTrue (test x)) (sym (first_byte text rest i b h)) here)
      | inr later ↦
          let r = some_there test text rest n (i + 1) (behind_first text rest i b h) later in
          (r.0, omega (arith, r.1), omega (arith, r.2), r.3)
    ]

or_left : (a b : Bool) → IsTrue a → IsTrue (a || b)
or_left true b h = refl
or_left false b h = absurd (false≢true h)

or_right : (a b : Bool) → IsTrue b → IsTrue (a || b)
or_right true b h = refl
or_right false b h = h

pub there_some : (test : ℕ → Bool) (text rest : List ℕ) (n i : ℕ) → drop i text ≡ rest → n ≤ length rest → SomeByte test text i (i + n) → IsTrue (some_first test n rest)
there_some test text rest zero i h le some = absurd (omega (arith, some.1, some.2))
there_some test text [] (suc n) i h le some = absurd (omega (arith, le))
there_some test text (b ∷ rest) (suc n) i h le some =
    elim (cases_order some.0 i) [
      | inl same ↦
          or_left (test b) (some_first test n rest) (subst (λ (x : ℕ). IsTrue (test x)) (first_byte text rest i b h) (subst (λ (x : ℕ). IsTrue (test (slice_index text x))) same some.3))
      | inr other ↦
          or_right (test b) (some_first test n rest)
          (there_some test text rest n (i + 1) (behind_first text rest i b h) (omega (arith, le)) (some.0, omega (arith, other, some.1), omega (arith, some.2), some.3))
    ]

pub gap_first : (text rest : List ℕ) (n i : ℕ) → drop i text ≡ rest → IsTrue (all_first is_blank n rest) → (places : List ℕ) × IsGap text i places (i + n)
gap_first text rest zero i h all = ([], omega arith)
gap_first text [] (suc n) i h all = absurd (false≢true all)
gap_first text (b ∷ rest) (suc n) i h all =
    let more = gap_first text rest n (i + 1) (behind_first text rest i b h) (and_parts _ _ all).1 in
    let end : i + 1 + n ≡ i + suc n = omega arith in
    let here : IsTrue (is_blank (slice_index text i)) = subst (λ (x : ℕ). IsTrue (is_blank x)) (sym (first_byte text rest i b h)) (and_parts _ _ all).0 in
    ((i + 1) ∷ more.0, (inl (here, refl), subst (λ (x : ℕ). IsGap text (i + 1) more.0 x) end more.1))

pub rest_behind : (text rest : List ℕ) (i n : ℕ) → drop i text ≡ rest → drop (i + n) text ≡ drop n rest
rest_behind text rest i n h = sym (drop-drop n i text) ∙ ap (λ (x : List ℕ). drop n x) h
