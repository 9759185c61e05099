-- The characters of a text literal.
use Rattle.std.proofs.Common.{◌≡◌, ◌≢◌, ℕ, zero, suc, ◌+◌, ◌<◌, ◌≤◌, List, [], ◌∷◌, ◌++◌, length, sym, ap, ◌∙◌, subst, arith}
use Rattle.std.specs.Prelude.{Option, Some, None, IsTrue, slice_index}
use Rattle.std.proofs.lemmas.Bool.Decides.{nat_tests}
use Rattle.sts_lexer.specs.Bytes.{is_quote}
use Rattle.sts_lexer.specs.Lexemes.{character, IsBody, IsQuoted}

-- past the end there is a 0
pub inside : (text : List ℕ) (i byte : ℕ) → slice_index text i ≡ byte → 0 < byte → i < length text
inside [] i byte h p = absurd (let z : 0 ≡ byte = h in omega arith)
inside (x ∷ xs) zero byte h p = omega arith
inside (x ∷ xs) (suc i) byte h p = omega (arith, inside xs i byte h p)

pub quote_is : (byte : ℕ) → IsTrue (is_quote byte) → (33 < byte) × (byte ≢ 92)
quote_is byte h = grind (arith, nat_tests)

-- the quote that opens a text is no character of it
pub quote_stops : (quote byte next : ℕ) → IsTrue (is_quote quote) → byte ≡ quote → character quote byte next ≡ None
quote_stops quote byte next h e =
    let is = quote_is quote h in
    grind (arith, nat_tests)

pub body_more : (text : List ℕ) (quote i j byte size : ℕ) (value : List ℕ) → IsBody text quote i value j
    → character quote (slice_index text j) (slice_index text (j + 1)) ≡ Some (byte, size) → IsBody text quote i (value ++ byte ∷ []) (j + size)
body_more text quote i j byte size [] h e =
    (size, subst (λ x. character quote (slice_index text x) (slice_index text (x + 1)) ≡ Some (byte, size)) (sym h) e, ap (λ (x : ℕ). x + size) h)
body_more text quote i j byte size (b ∷ value) h e = (h.0, h.1, body_more text quote (i + h.0) j byte size value h.2 e)

pub body_le : (text : List ℕ) (quote i j : ℕ) (value : List ℕ) → IsBody text quote i value j → i ≤ j
body_le text quote i j [] h = omega arith
body_le text quote i j (b ∷ value) h = omega (arith, body_le text quote (i + h.0) j value h.2)

pub same_size : (b b' size size' : ℕ) (o : Option (ℕ × ℕ)) → o ≡ Some (b, size) → o ≡ Some (b', size') → (b ≡ b') × (size ≡ size')
same_size b b' size size' o h g =
    let e : ◌≡◌ {A = Option (ℕ × ℕ)} (Some (b, size)) (Some (b', size')) = sym h ∙ g in
    let p : ◌≡◌ {A = ℕ × ℕ} (b, size) (b', size') = cc in
    (ap (λ (x : ℕ × ℕ). x.0) p, ap (λ (x : ℕ × ℕ). x.1) p)

-- what has been read is the front of every whole text
pub body_rest : (text : List ℕ) (quote i j close : ℕ) (value all : List ℕ) → IsBody text quote i value j → IsBody text quote i all close
    → character quote (slice_index text close) (slice_index text (close + 1)) ≡ None → (rest : List ℕ) × IsBody text quote j rest close
body_rest text quote i j close [] all h g stop = (all, subst (λ x. IsBody text quote x all close) h g)
body_rest text quote i j close (b ∷ value) [] h g stop =
    absurd (let e = h.1 in let f = subst (λ x. character quote (slice_index text x) (slice_index text (x + 1)) ≡ None) (sym g) stop in cc)
body_rest text quote i j close (b ∷ value) (b' ∷ all) h g stop =
    let same = same_size b b' h.0 g.0 _ h.1 g.1 in
    body_rest text quote (i + h.0) j close value all h.2 (subst (λ x. IsBody text quote (i + x) all close) (sym same.1) g.2) stop

-- no whole text goes on where no character stands, nor past the end
pub no_more : (text : List ℕ) (quote i close : ℕ) (rest : List ℕ) → IsBody text quote i rest close → slice_index text close ≡ quote
    → slice_index text i ≢ quote → character quote (slice_index text i) (slice_index text (i + 1)) ≡ None → ⊥
no_more text quote i close [] h closes differ none = differ (subst (λ x. slice_index text x ≡ quote) (sym h) closes)
no_more text quote i close (b ∷ rest) h closes differ none = let e = h.1 in cc

pub unquoted : (text value : List ℕ) (at i end : ℕ) (read : List ℕ) → IsTrue (is_quote (slice_index text at)) → IsBody text (slice_index text at) (at + 1) read i
    → IsQuoted text value at end → (rest : List ℕ) × (close : ℕ) × IsBody text (slice_index text at) i rest close × (slice_index text close ≡ slice_index text at)
unquoted text value at i end read quote body h =
    let rest = body_rest text (slice_index text at) (at + 1) i h.close read value body h.body
    (quote_stops (slice_index text at) (slice_index text h.close) (slice_index text (h.close + 1)) quote h.closes) in
    (rest.0, h.close, rest.1, h.closes)

pub stuck_inside : (text value : List ℕ) (at i end : ℕ) (read : List ℕ) → IsTrue (is_quote (slice_index text at)) → IsBody text (slice_index text at) (at + 1) read i
    → slice_index text i ≢ slice_index text at → character (slice_index text at) (slice_index text i) (slice_index text (i + 1)) ≡ None
    → IsQuoted text value at end → ⊥
stuck_inside text value at i end read quote body differ none h =
    let rest = unquoted text value at i end read quote body h in
    no_more text (slice_index text at) i rest.1 rest.0 rest.2 rest.3 differ none

pub stuck_at_end : (text value : List ℕ) (at i end : ℕ) (read : List ℕ) → IsTrue (is_quote (slice_index text at)) → IsBody text (slice_index text at) (at + 1) read i
    → length text ≤ i → IsQuoted text value at end → ⊥
stuck_at_end text value at i end read quote body past h =
    let rest = unquoted text value at i end read quote body h in
    let le = body_le text (slice_index text at) i rest.1 rest.0 rest.2 in
    let lt = inside text rest.1 (slice_index text at) rest.3 (omega (arith, (quote_is (slice_index text at) quote).0)) in
    omega arith

pub quoted_within : (text value : List ℕ) (i j : ℕ) → IsQuoted text value i j → (i < j) × (j ≤ length text)
quoted_within text value i j h =
    let le = body_le text (slice_index text i) (i + 1) h.close value h.body in
    let lt = inside text h.close (slice_index text i) h.closes (omega (arith, (quote_is (slice_index text i) h.opens).0)) in
    (omega (arith, h.ends), omega (arith, h.ends))
