-- What may stand at a place: lexemes differ by their first byte, and each kind of them ends in one way.
use Rattle.std.proofs.Common.{◌≡◌, ℕ, ◌+◌, ◌-◌, ◌<◌, ◌≤◌, min, Bool, false, List, [], ◌∷◌, length, take, drop, refl, sym, ap, ◌∙◌, subst, inl, inr, arith}
use Rattle.std.specs.Prelude.{None, IsTrue, slice_index, slice_range}
use Rattle.std.specs.Char.{is_ascii_digit, is_ascii_hexdigit}
use Rattle.std.specs.Str.Parse.{digits_value}
use Rattle.std.proofs.lemmas.Bool.{cases_lt, cases_order, false≢true}
use Rattle.std.proofs.lemmas.Bool.Decides.{nat_tests}
use Rattle.std.proofs.lemmas.List.{get_or-take, get_or-drop, length-take, length-drop}
use Rattle.sts_lexer.specs.Bytes.{begins_name, goes_on_name, is_quote, Each, IsRun, Stands}
use Rattle.sts_lexer.specs.Lexemes.{Lexeme, name, number, quoted, mark, Spells, IsLongest, IsName, IsNumber, IsDecimal, IsHex, IsValue, IsQuoted, IsBody, IsMark, character, ends_number}
use Rattle.sts_lexer.specs.Marks.{mark_bytes}
use Rattle.sts_lexer.specs.declared.marks.Mark.{Mark}
use Rattle.sts_lexer.proofs.MarkTable.{begins_mark, mark_begins}
use Rattle.sts_lexer.proofs.Bodies.{quote_stops, quoted_within, same_size}
use Rattle.sts_lexer.proofs.Digits.{hex_goes_on, x_goes_on, number_within}

-- what a lexeme begins with
abbrev pub begins : Lexeme → ℕ → Bool
begins (name bytes) byte = begins_name byte
begins (number value) byte = is_ascii_digit byte
begins (quoted value) byte = is_quote byte
begins (mark which) byte = begins_mark byte

-- the lexemes that begin so are of one kind
pub name_digit : (byte : ℕ) → IsTrue (begins_name byte) → IsTrue (is_ascii_digit byte) → ⊥
name_digit byte h g = grind (arith, nat_tests)

pub name_quote : (byte : ℕ) → IsTrue (begins_name byte) → IsTrue (is_quote byte) → ⊥
name_quote byte h g = grind (arith, nat_tests)

pub name_mark : (byte : ℕ) → IsTrue (begins_name byte) → IsTrue (begins_mark byte) → ⊥
name_mark byte h g = grind (arith, nat_tests)

pub digit_quote : (byte : ℕ) → IsTrue (is_ascii_digit byte) → IsTrue (is_quote byte) → ⊥
digit_quote byte h g = grind (arith, nat_tests)

pub digit_mark : (byte : ℕ) → IsTrue (is_ascii_digit byte) → IsTrue (begins_mark byte) → ⊥
digit_mark byte h g = grind (arith, nat_tests)

pub quote_mark : (byte : ℕ) → IsTrue (is_quote byte) → IsTrue (begins_mark byte) → ⊥
quote_mark byte h g = grind (arith, nat_tests)

-- bytes that stand in a text
pub stands_first : (text bytes : List ℕ) (i j : ℕ) → Stands text bytes i j → 0 < length bytes → slice_index text i ≡ slice_index bytes 0
stands_first text bytes i j h some =
    let most : 0 < j - i = omega (arith, h.1) in
    let one : slice_index (take (j - i) (drop i text)) 0 ≡ slice_index text (i + 0) = get_or-take (j - i) (drop i text) 0 0 most ∙ get_or-drop i text 0 0 in
    let here : i + 0 ≡ i = omega arith in
    sym (ap (λ (x : List ℕ). slice_index x 0) (sym h.0) ∙ (one ∙ ap (λ (x : ℕ). slice_index text x) here))

stands_within : (text bytes : List ℕ) (i j : ℕ) → Stands text bytes i j → 0 < length bytes → (i < j) × (j ≤ length text)
stands_within text bytes i j h some =
    let size : length (take (j - i) (drop i text)) ≡ length bytes = ap (λ (x : List ℕ). length x) h.0 in
    let one : length (take (j - i) (drop i text)) ≡ min (j - i) (length (drop i text)) = length-take (j - i) (drop i text) in
    let two : length (drop i text) ≡ length text - i = length-drop i text in
    let ends : j ≡ i + length bytes = h.1 in
    (omega arith, omega arith)

pub mark_some : (which : Mark) (bytes : List ℕ) → IsTrue (begins_mark (slice_index bytes 0)) → 0 < length bytes
mark_some which [] h = absurd (false≢true h)
mark_some which (x ∷ xs) h = omega arith

pub spells_begins : (text : List ℕ) (lexeme : Lexeme) (i j : ℕ) → Spells text lexeme i j → IsTrue (begins lexeme (slice_index text i))
spells_begins text (name bytes) i j h = h.0.0
spells_begins text (number value) i j (inl h) = h.0.0.2 i (omega arith) h.0.0.0
spells_begins text (number value) i j (inr h) = subst (λ (x : ℕ). IsTrue (is_ascii_digit x)) (sym h.0.0) refl
spells_begins text (quoted value) i j h = h.opens
spells_begins text (mark which) i j h =
    subst (λ (x : ℕ). IsTrue (begins_mark x)) (sym (stands_first text (mark_bytes which) i j h.0 (mark_some which (mark_bytes which) (mark_begins which)))) (mark_begins which)

pub spells_within : (text : List ℕ) (lexeme : Lexeme) (i j : ℕ) → Spells text lexeme i j → (i < j) × (j ≤ length text)
spells_within text (name bytes) i j h = (h.0.1.0, h.0.1.1)
spells_within text (number value) i j h = number_within text value i j h
spells_within text (quoted value) i j h = quoted_within text value i j h
spells_within text (mark which) i j h = stands_within text (mark_bytes which) i j h.0 (mark_some which (mark_bytes which) (mark_begins which))

-- names
pub name_longest : (text : List ℕ) (i r : ℕ) → IsTrue (begins_name (slice_index text i)) → i ≤ r
    → (r < length text → goes_on_name (slice_index text r) ≡ false) → IsLongest text i r
name_longest text i r here le stop (name bytes) end h =
    elim (cases_lt r end) [
      | inl lt ↦ absurd (false≢true (sym (stop (omega (arith, h.0.1.1))) ∙ h.0.1.2 r le lt))
      | inr ge ↦ ge
    ]
name_longest text i r here le stop (number value) end h = absurd (name_digit (slice_index text i) here (spells_begins text (number value) i end h))
name_longest text i r here le stop (quoted value) end h = absurd (name_quote (slice_index text i) here h.opens)
name_longest text i r here le stop (mark which) end h = absurd (name_mark (slice_index text i) here (spells_begins text (mark which) i end h))

-- numbers: the digits end before a byte that ends a number
digits_end : (test : ℕ → Bool) → ((byte : ℕ) → IsTrue (test byte) → IsTrue (ends_number byte) → ⊥) → (text : List ℕ) (i j j' : ℕ)
    → IsRun test text i j → IsTrue (ends_number (slice_index text j)) → IsRun test text i j' → IsTrue (ends_number (slice_index text j')) → j ≡ j'
digits_end test goes text i j j' h e h' e' =
    elim (cases_order j j') [
      | inl same ↦ same
      | inr other ↦ elim other [
        | inl below ↦ absurd (goes (slice_index text j) (h'.2 j (omega (arith, h.0)) below) e)
        | inr above ↦ absurd (goes (slice_index text j') (h.2 j' (omega (arith, h'.0)) above) e')
      ]
    ]

pub digit_goes_on : (byte : ℕ) → IsTrue (is_ascii_digit byte) → IsTrue (ends_number byte) → ⊥
digit_goes_on byte h e = grind (arith, nat_tests)

-- `0x` is no decimal number
not_both : (text : List ℕ) (value value' i j j' : ℕ) → IsDecimal text i j → IsValue text 10 value i j → IsHex text i j' → ⊥
not_both text value value' i j j' h v g =
    let here : j ≡ i + 1 = h.1 g.0 in
    x_goes_on (slice_index text (i + 1)) g.1 (subst (λ (x : ℕ). IsTrue (ends_number (slice_index text x))) here v.ends)

pub number_same : (text : List ℕ) (value value' i j j' : ℕ) → IsNumber text value i j → IsNumber text value' i j' → (value ≡ value') × (j ≡ j')
number_same text value value' i j j' (inl h) (inl g) =
    let same = digits_end is_ascii_digit digit_goes_on text i j j' h.0.0 h.1.ends g.0.0 g.1.ends in
    (h.1.is ∙ (ap (λ (x : ℕ). digits_value 10 (slice_range text i x)) same ∙ sym g.1.is), same)
number_same text value value' i j j' (inl h) (inr g) = absurd (not_both text value value' i j j' h.0 h.1 g.0)
number_same text value value' i j j' (inr h) (inl g) = absurd (not_both text value' value i j' j g.0 g.1 h.0)
number_same text value value' i j j' (inr h) (inr g) =
    let same = digits_end is_ascii_hexdigit hex_goes_on text (i + 2) j j' h.0.2 h.1.ends g.0.2 g.1.ends in
    (h.1.is ∙ (ap (λ (x : ℕ). digits_value 16 (slice_range text (i + 2) x)) same ∙ sym g.1.is), same)

pub number_longest : (text : List ℕ) (value i j : ℕ) → IsNumber text value i j → IsLongest text i j
number_longest text value i j h (name bytes) end g = absurd (name_digit (slice_index text i) g.0.0 (spells_begins text (number value) i j h))
number_longest text value i j h (number value') end g = omega (arith, (number_same text value value' i j end h g).1)
number_longest text value i j h (quoted value') end g = absurd (digit_quote (slice_index text i) (spells_begins text (number value) i j h) g.opens)
number_longest text value i j h (mark which) end g =
    absurd (digit_mark (slice_index text i) (spells_begins text (number value) i j h) (spells_begins text (mark which) i end g))

pub no_number : (text : List ℕ) (i : ℕ) → IsTrue (is_ascii_digit (slice_index text i)) → ((value end : ℕ) → IsNumber text value i end → ⊥)
    → (lexeme : Lexeme) (end : ℕ) → Spells text lexeme i end → ⊥
no_number text i here none (name bytes) end g = name_digit (slice_index text i) g.0.0 here
no_number text i here none (number value) end g = none value end g
no_number text i here none (quoted value) end g = digit_quote (slice_index text i) here g.opens
no_number text i here none (mark which) end g = digit_mark (slice_index text i) here (spells_begins text (mark which) i end g)

-- texts
body_same : (text : List ℕ) (quote i j j' : ℕ) (value value' : List ℕ) → IsBody text quote i value j → IsBody text quote i value' j'
    → character quote (slice_index text j) (slice_index text (j + 1)) ≡ None → character quote (slice_index text j') (slice_index text (j' + 1)) ≡ None
    → (value ≡ value') × (j ≡ j')
body_same text quote i j j' [] [] h g e f = (refl, sym h ∙ g)
body_same text quote i j j' [] (b ∷ value') h g e f =
    absurd (let one = g.1 in let two = subst (λ x. character quote (slice_index text x) (slice_index text (x + 1)) ≡ None) (sym h) e in cc)
body_same text quote i j j' (b ∷ value) [] h g e f =
    absurd (let one = h.1 in let two = subst (λ x. character quote (slice_index text x) (slice_index text (x + 1)) ≡ None) (sym g) f in cc)
body_same text quote i j j' (b ∷ value) (b' ∷ value') h g e f =
    let same = same_size b b' h.0 g.0 _ h.1 g.1 in
    let rest = body_same text quote (i + h.0) j j' value value' h.2 (subst (λ x. IsBody text quote (i + x) value' j') (sym same.1) g.2) e f in
    (ap (λ (x : ℕ). x ∷ value) same.0 ∙ ap (λ (x : List ℕ). b' ∷ x) rest.0, rest.1)

pub quoted_same : (text value value' : List ℕ) (i j j' : ℕ) → IsQuoted text value i j → IsQuoted text value' i j' → (value ≡ value') × (j ≡ j')
quoted_same text value value' i j j' h g =
    let quote = slice_index text i in
    let same = body_same text quote (i + 1) h.close g.close value value' h.body g.body
    (quote_stops quote (slice_index text h.close) (slice_index text (h.close + 1)) h.opens h.closes)
    (quote_stops quote (slice_index text g.close) (slice_index text (g.close + 1)) g.opens g.closes) in
    (same.0, omega (arith, h.ends, g.ends, same.1))

pub quoted_longest : (text value : List ℕ) (i j : ℕ) → IsQuoted text value i j → IsLongest text i j
quoted_longest text value i j h (name bytes) end g = absurd (name_quote (slice_index text i) g.0.0 h.opens)
quoted_longest text value i j h (number value') end g = absurd (digit_quote (slice_index text i) (spells_begins text (number value') i end g) h.opens)
quoted_longest text value i j h (quoted value') end g = omega (arith, (quoted_same text value value' i j end h g).1)
quoted_longest text value i j h (mark which) end g = absurd (quote_mark (slice_index text i) h.opens (spells_begins text (mark which) i end g))

pub no_quoted : (text : List ℕ) (i : ℕ) → IsTrue (is_quote (slice_index text i)) → ((value : List ℕ) (end : ℕ) → IsQuoted text value i end → ⊥)
    → (lexeme : Lexeme) (end : ℕ) → Spells text lexeme i end → ⊥
no_quoted text i here none (name bytes) end g = name_quote (slice_index text i) g.0.0 here
no_quoted text i here none (number value) end g = digit_quote (slice_index text i) (spells_begins text (number value) i end g) here
no_quoted text i here none (quoted value) end g = none value end g
no_quoted text i here none (mark which) end g = quote_mark (slice_index text i) here (spells_begins text (mark which) i end g)

-- marks
pub mark_longest : (text : List ℕ) (which : Mark) (i j : ℕ) → IsMark text which i j
    → ((other : Mark) (end : ℕ) → Stands text (mark_bytes other) i end → end ≤ j) → IsLongest text i j
mark_longest text which i j h most (name bytes) end g = absurd (name_mark (slice_index text i) g.0.0 (spells_begins text (mark which) i j h))
mark_longest text which i j h most (number value) end g =
    absurd (digit_mark (slice_index text i) (spells_begins text (number value) i end g) (spells_begins text (mark which) i j h))
mark_longest text which i j h most (quoted value) end g = absurd (quote_mark (slice_index text i) g.opens (spells_begins text (mark which) i j h))
mark_longest text which i j h most (mark other) end g = most other end g.0

pub no_mark : (text : List ℕ) (i : ℕ) → begins_name (slice_index text i) ≡ false → is_ascii_digit (slice_index text i) ≡ false → is_quote (slice_index text i) ≡ false
    → ((which : Mark) (end : ℕ) → IsMark text which i end → ⊥) → (lexeme : Lexeme) (end : ℕ) → Spells text lexeme i end → ⊥
no_mark text i one two three none (name bytes) end g = false≢true (sym one ∙ g.0.0)
no_mark text i one two three none (number value) end g = false≢true (sym two ∙ spells_begins text (number value) i end g)
no_mark text i one two three none (quoted value) end g = false≢true (sym three ∙ g.opens)
no_mark text i one two three none (mark which) end g = none which end g

begins_goes_on : (byte : ℕ) → IsTrue (begins_name byte) → goes_on_name byte ≡ false → ⊥
begins_goes_on byte h e = grind (arith, nat_tests)

-- the longest run of a name's bytes is a name
pub name_stands : (text : List ℕ) (i r : ℕ) → i < length text → IsTrue (begins_name (slice_index text i)) → i ≤ r → r ≤ length text → Each goes_on_name text i r
    → (r < length text → goes_on_name (slice_index text r) ≡ false) → IsName text i r
name_stands text i r here begins le within each stop =
    elim (cases_order i r) [
      | inl same ↦ absurd (begins_goes_on (slice_index text i) begins (subst (λ (x : ℕ). goes_on_name (slice_index text x) ≡ false) (sym same) (stop (omega arith))))
      | inr other ↦ (begins, (omega arith, within, each))
    ]
