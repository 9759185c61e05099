-- A test of a list of tokens against a text: where it holds, these are the tokens of the text.
use Rattle.std.proofs.Common.{◌≡◌, ℕ, zero, suc, ◌+◌, ◌-◌, ◌<◌, ◌≤◌, Bool, true, false, List, [], ◌∷◌, ◌++◌, length, take, drop, refl, sym, ap, ◌∙◌, subst, inl, inr, arith}
use Rattle.std.specs.Prelude.{pos, negsuc, Option, Some, None, IsTrue, not, ◌&&◌, ◌||◌, ◌==◌, ◌↔◌, nat_lt, nat_le, slice_get, slice_index, slice_range}
use Rattle.std.specs.List.{list_all}
use Rattle.std.specs.Str.{bytes_eq, IsAscii}
use Rattle.std.proofs.lemmas.Str.{IsUtf8-from_ascii}
use Rattle.std.specs.Str.Parse.{digits_value}
use Rattle.std.specs.Char.{is_ascii_digit}
use Rattle.std.proofs.lemmas.Bool.{and_parts, or_cases, cases_lt, false≢true, not-true, eqb-true}
use Rattle.std.proofs.Common.{ltb-true, leb-true, eq-eqb}
use Rattle.std.specs.Ordering.{int_eq}
use Rattle.std.proofs.lemmas.Bool.Decides.{Decides-int_eq}
use Rattle.std.proofs.lemmas.Slice.Eq.{bytes_eq-Decides}
use Rattle.std.proofs.lemmas.List.{get_or_past, length-drop}
use Rattle.sts_base.specs.declared.tables.Tables.{Tables}
use Rattle.sts_base.specs.Int32.{to_int32}
use Rattle.sts_lexer.specs.Bytes.{most_bytes, is_blank, is_break, begins_name, goes_on_name, is_quote, SomeByte, Stands}
use Rattle.sts_lexer.specs.Spaces.{IsGap, opens_comment, start_of}
use Rattle.sts_lexer.specs.Lexemes.{name, number, quoted, mark, Spells, IsLongest, IsNumber, IsQuoted, IsBody, IsMark, character, ends_number}
use Rattle.sts_lexer.specs.Marks.{mark_bytes}
use Rattle.sts_lexer.specs.Words.{word_bytes}
use Rattle.sts_lexer.specs.Tokens.{Reads, IsNext, AreTokens, IsTokenization}
use Rattle.sts_lexer.specs.declared.marks.Mark.{Mark}
use Rattle.sts_lexer.specs.declared.words.Word.{Word}
use Rattle.sts_lexer.specs.declared.token.TokenKind.{TokenKind}
use Rattle.sts_lexer.specs.declared.token.TokenKind.TheVariants as kinds
use Rattle.sts_lexer.specs.declared.token.Token.{Token}
use Rattle.sts_lexer.proofs.Lexing.{spells_within, name_longest, number_longest, quoted_longest, mark_longest}
use Rattle.sts_lexer.proofs.MarkTable.{MARKS, place_of as mark_place, placed as mark_placed}
use Rattle.sts_lexer.proofs.WordTable.{WORDS, place_of as word_place, placed as word_placed}
use Rattle.sts_lexer.proofs.Growing.{start_within}
use Rattle.sts_lexer.proofs.Front.{all_first, some_first, byte_at, enough, within, each_first, some_there, there_some, gap_first, rest_behind}

-- an item of a list passes the test that all items do
passes : {X : Type 0} (test : X → Bool) (xs : List X) (k : ℕ) (x : X) → IsTrue (list_all test xs) → slice_get xs k ≡ Some x → IsTrue (test x)
passes test [] k x h here = absurd (cc)
passes test (y ∷ xs) zero x h here = let same : y ≡ x = cc in subst (λ z. IsTrue (test z)) same (and_parts _ _ h).0
passes test (y ∷ xs) (suc k) x h here = passes test xs k x (and_parts _ _ h).1 here

-- the bytes p are the first n of the rest
abbrev is_front : List ℕ → ℕ → List ℕ → Bool
is_front p n rest = bytes_eq p (take n rest)

front_is : (p rest : List ℕ) (n : ℕ) → IsTrue (is_front p n rest) → p ≡ take n rest
front_is p rest n h = (bytes_eq-Decides p (take n rest)).0 h

range_is : (text rest : List ℕ) (i n : ℕ) → drop i text ≡ rest → slice_range text i (i + n) ≡ take n rest
range_is text rest i n h =
    let size : i + n - i ≡ n = omega arith in
    ap (λ (x : ℕ). take x (drop i text)) size ∙ ap (λ (x : List ℕ). take n x) h

at_rest : (text rest : List ℕ) (i k : ℕ) → drop i text ≡ rest → slice_index text (i + k) ≡ slice_index rest k
at_rest text rest i k h = sym (byte_at text i k) ∙ ap (λ (x : List ℕ). slice_index x k) h

at_first : (text rest : List ℕ) (i : ℕ) → drop i text ≡ rest → slice_index text i ≡ slice_index rest 0
at_first text rest i h = let same : i + 0 ≡ i = omega arith in ap (λ (x : ℕ). slice_index text x) (sym same) ∙ at_rest text rest i 0 h

-- names
abbrev is_name : List ℕ → ℕ → List ℕ → Bool
is_name bytes n rest =
    (nat_lt 0 n && is_front bytes n rest) && (begins_name (slice_index rest 0) && (all_first goes_on_name n rest && not (goes_on_name (slice_index rest n))))

name_spelled : (text rest bytes : List ℕ) (i n : ℕ) → drop i text ≡ rest → IsTrue (is_name bytes n rest)
    → Spells text (name bytes) i (i + n) × IsLongest text i (i + n)
name_spelled text rest bytes i n h t =
    let front = and_parts _ _ (and_parts _ _ t).0 in
    let parts = and_parts _ _ (and_parts _ _ t).1 in
    let all = and_parts _ _ parts.1 in
    let some : 0 < n = ltb-true 0 n front.0 in
    let begins : IsTrue (begins_name (slice_index text i)) = subst (λ (x : ℕ). IsTrue (begins_name x)) (sym (at_first text rest i h)) parts.0 in
    let ends : goes_on_name (slice_index text (i + n)) ≡ false =
    ap (λ (x : ℕ). goes_on_name x) (at_rest text rest i n h) ∙ not-true (goes_on_name (slice_index rest n)) all.1 in (
      (
        (begins, (omega arith, within text rest i n h (enough goes_on_name n rest all.0) some, each_first goes_on_name text rest n i h all.0)),
        front_is bytes rest n front.1 ∙ sym (range_is text rest i n h),
      ),
      name_longest text i (i + n) begins (omega arith) (λ _. ends),
    )

-- numbers
abbrev is_decimal : ℕ → ℕ → List ℕ → Bool
is_decimal value n rest =
    (nat_lt 0 n && (all_first is_ascii_digit n rest && (not (slice_index rest 0 == 48) || n == 1)))
    && ((value == digits_value 10 (take n rest)) && (nat_le value 4294967295 && ends_number (slice_index rest n)))

number_spelled : (text rest : List ℕ) (value i n : ℕ) → drop i text ≡ rest → IsTrue (is_decimal value n rest)
    → Spells text (number value) i (i + n) × IsLongest text i (i + n)
number_spelled text rest value i n h t =
    let left = and_parts _ _ (and_parts _ _ t).0 in
    let right = and_parts _ _ (and_parts _ _ t).1 in
    let digits = and_parts _ _ left.1 in
    let fits = and_parts _ _ right.1 in
    let some : 0 < n = ltb-true 0 n left.0 in
    let lone : slice_index text i ≡ 48 → i + n ≡ i + 1 = λ zero_first.
    (let first : slice_index rest 0 ≡ 48 = sym (at_first text rest i h) ∙ zero_first in
    elim (or_cases _ _ digits.1) [
      | inl other ↦ absurd (false≢true (sym (not-true (slice_index rest 0 == 48) other) ∙ eq-eqb (slice_index rest 0) 48 first))
      | inr one ↦ let e : n ≡ 1 = eqb-true n 1 one in omega arith
    ]) in
    let is : IsNumber text value i (i + n) =
    inl (
      ((omega arith, within text rest i n h (enough is_ascii_digit n rest digits.0) some, each_first is_ascii_digit text rest n i h digits.0), lone),
      record {
        is = eqb-true value (digits_value 10 (take n rest)) right.0 ∙ ap (λ (x : List ℕ). digits_value 10 x) (sym (range_is text rest i n h));
        fits = leb-true value 4294967295 fits.0;
        ends = subst (λ (x : ℕ). IsTrue (ends_number x)) (sym (at_rest text rest i n h)) fits.1;
      },
    ) in
    (is, number_longest text value i (i + n) is)

-- texts: the characters up to the quote that closes them, by how many bytes they take
abbrev is_character : ℕ → ℕ → Option (ℕ × ℕ) → Bool
is_character byte size None = false
is_character byte size (Some read) = (read.0 == byte) && (read.1 == size)

character_is : (byte size : ℕ) (o : Option (ℕ × ℕ)) → IsTrue (is_character byte size o) → o ≡ Some (byte, size)
character_is byte size None h = absurd (false≢true h)
character_is byte size (Some read) h =
    let parts = and_parts _ _ h in λ i. Some (eqb-true read.0 byte parts.0 i, eqb-true read.1 size parts.1 i)

-- each character is an escape of two bytes
abbrev are_escapes : ℕ → List ℕ → List ℕ → Bool
are_escapes quote [] rest = true
are_escapes quote (byte ∷ bytes) [] = false
are_escapes quote (byte ∷ bytes) (a ∷ []) = false
are_escapes quote (byte ∷ bytes) (a ∷ b ∷ rest) = is_character byte 2 (character quote a b) && are_escapes quote bytes rest

body_spelled : (text rest bytes : List ℕ) (quote i : ℕ) → drop i text ≡ rest → IsTrue (are_escapes quote bytes rest) → IsBody text quote i bytes (i + (length bytes + length bytes))
body_spelled text rest [] quote i h t = omega arith
body_spelled text [] (byte ∷ bytes) quote i h t = absurd (false≢true t)
body_spelled text (a ∷ []) (byte ∷ bytes) quote i h t = absurd (false≢true t)
body_spelled text (a ∷ b ∷ rest) (byte ∷ bytes) quote i h t =
    let parts = and_parts _ _ t in
    let here : character quote (slice_index text i) (slice_index text (i + 1)) ≡ Some (byte, 2) =
    ap (λ (x : ℕ). character quote x (slice_index text (i + 1))) (at_first text (a ∷ b ∷ rest) i h)
    ∙ (ap (λ (x : ℕ). character quote a x) (at_rest text (a ∷ b ∷ rest) i 1 h) ∙ character_is byte 2 (character quote a b) parts.0) in
    let more = body_spelled text rest bytes quote (i + 2) (rest_behind text (a ∷ b ∷ rest) i 2 h) parts.1 in
    let end : i + 2 + (length bytes + length bytes) ≡ i + (suc (length bytes) + suc (length bytes)) = omega arith in
    (2, here, subst (λ (x : ℕ). IsBody text quote (i + 2) bytes x) end more)

abbrev is_quoted : List ℕ → ℕ → List ℕ → Bool
is_quoted bytes n [] = false
is_quoted bytes n (quote ∷ rest) =
    (is_quote quote && are_escapes quote bytes rest) && ((slice_index (quote ∷ rest) (1 + (length bytes + length bytes)) == quote) && (n == length bytes + length bytes + 2))

text_spelled : (text rest bytes : List ℕ) (i n : ℕ) → drop i text ≡ rest → IsTrue (is_quoted bytes n rest)
    → Spells text (quoted bytes) i (i + n) × IsLongest text i (i + n)
text_spelled text [] bytes i n h t = absurd (false≢true t)
text_spelled text (quote ∷ rest) bytes i n h t =
    let left = and_parts _ _ (and_parts _ _ t).0 in
    let right = and_parts _ _ (and_parts _ _ t).1 in
    let size = length bytes + length bytes in
    let first : slice_index text i ≡ quote = at_first text (quote ∷ rest) i h in
    let body : IsBody text quote (i + 1) bytes (i + 1 + size) = body_spelled text rest bytes quote (i + 1) (rest_behind text (quote ∷ rest) i 1 h) left.1 in
    let order : i + 1 + size ≡ i + (1 + size) = omega arith in
    let closes : slice_index text (i + 1 + size) ≡ quote =
    ap (λ (x : ℕ). slice_index text x) order ∙ (at_rest text (quote ∷ rest) i (1 + size) h ∙ eqb-true (slice_index (quote ∷ rest) (1 + size)) quote right.0) in
    let all : n ≡ size + 2 = eqb-true n (size + 2) right.1 in
    let is : IsQuoted text bytes i (i + n) = record {
      opens = subst (λ (x : ℕ). IsTrue (is_quote x)) (sym first) left.0;
      close = i + 1 + size;
      body = subst (λ (x : ℕ). IsBody text x (i + 1) bytes (i + 1 + size)) (sym first) body;
      closes = closes ∙ sym first;
      ends = omega arith;
    } in
    (is, quoted_longest text bytes i (i + n) is)

-- marks: no longer one of the table stands there
abbrev is_no_longer : ℕ → List ℕ → Mark → Bool
is_no_longer n rest other = nat_le (length (mark_bytes other)) n || not (is_front (mark_bytes other) (length (mark_bytes other)) rest)

abbrev is_the_mark : Mark → ℕ → List ℕ → Bool
is_the_mark which n rest =
    ((length (mark_bytes which) == n) && is_front (mark_bytes which) n rest) && (not (opens_comment rest 0) && list_all (is_no_longer n rest) MARKS)

no_longer : (text rest : List ℕ) (i n : ℕ) (other : Mark) → drop i text ≡ rest → IsTrue (is_no_longer n rest other) → (end : ℕ) → Stands text (mark_bytes other) i end → end ≤ i + n
no_longer text rest i n other h t end stands =
    elim (or_cases _ _ t) [
      | inl short ↦ omega (arith, leb-true (length (mark_bytes other)) n short, stands.1)
      | inr differs ↦
          let size : end - i ≡ length (mark_bytes other) = omega (arith, stands.1) in
          let front : take (length (mark_bytes other)) rest ≡ mark_bytes other =
          ap (λ (x : List ℕ). take (length (mark_bytes other)) x) (sym h) ∙ (ap (λ (x : ℕ). take x (drop i text)) (sym size) ∙ stands.0) in
          absurd (false≢true (sym (not-true (is_front (mark_bytes other) (length (mark_bytes other)) rest) differs)
          ∙ (bytes_eq-Decides (mark_bytes other) (take (length (mark_bytes other)) rest)).1 (sym front)))
    ]

mark_spelled : (text rest : List ℕ) (which : Mark) (i n : ℕ) → drop i text ≡ rest → IsTrue (is_the_mark which n rest)
    → Spells text (mark which) i (i + n) × IsLongest text i (i + n)
mark_spelled text rest which i n h t =
    let left = and_parts _ _ (and_parts _ _ t).0 in
    let right = and_parts _ _ (and_parts _ _ t).1 in
    let size : length (mark_bytes which) ≡ n = eqb-true (length (mark_bytes which)) n left.0 in
    let opens : opens_comment text i ≡ opens_comment rest 0 =
    ap (λ (x : ℕ). (x == 47) && ((slice_index text (i + 1) == 47) || (slice_index text (i + 1) == 42))) (at_first text rest i h)
    ∙ ap (λ (x : ℕ). (slice_index rest 0 == 47) && ((x == 47) || (x == 42))) (at_rest text rest i 1 h) in
    let stands : Stands text (mark_bytes which) i (i + n) =
    (range_is text rest i n h ∙ sym (front_is (mark_bytes which) rest n left.1), ap (λ (x : ℕ). i + x) (sym size)) in
    let is : IsMark text which i (i + n) = (stands, opens ∙ not-true (opens_comment rest 0) right.0) in (
      is,
      mark_longest text which i (i + n) is
          (λ other. no_longer text rest i n other h (passes (is_no_longer n rest) MARKS (mark_place other) other right.1 (mark_placed other))),
    )

-- what a token of this kind stands for
abbrev string : List (List ℕ) → ℕ → List ℕ
string [] entry = []
string (s ∷ strings) zero = s
string (s ∷ strings) (suc entry) = string strings entry

string_there : (strings : List (List ℕ)) (entry : ℕ) → entry < length strings → slice_get strings entry ≡ Some (string strings entry)
string_there [] entry h = absurd (omega arith)
string_there (s ∷ strings) zero h = refl
string_there (s ∷ strings) (suc entry) h = string_there strings entry (omega arith)

abbrev is_other : List ℕ → Word → Bool
is_other bytes word = not (bytes_eq bytes (word_bytes word))

-- the longest lexeme at the front of the rest takes n bytes, and has this kind
abbrev is_read : Tables → TokenKind → ℕ → List ℕ → Bool
is_read tables (kinds.Name entry) n rest =
    (nat_lt entry (length tables.names) && list_all (is_other (string tables.names entry)) WORDS) && is_name (string tables.names entry) n rest
is_read tables (kinds.Word word entry) n rest =
    (nat_lt entry (length tables.names) && bytes_eq (string tables.names entry) (word_bytes word)) && is_name (string tables.names entry) n rest
is_read tables (kinds.Num (pos value)) n rest = int_eq (pos value) (to_int32 value) && is_decimal value n rest
is_read tables (kinds.Num (negsuc value)) n rest = false
is_read tables (kinds.Text entry) n rest = nat_lt entry (length tables.texts) && is_quoted (string tables.texts entry) n rest
is_read tables (kinds.Mark which) n rest = is_the_mark which n rest
is_read tables kinds.Finish n rest = false

read : (tables : Tables) (text rest : List ℕ) (kind : TokenKind) (i n : ℕ) → drop i text ≡ rest → IsTrue (is_read tables kind n rest) → Reads tables text i kind (i + n)
read tables text rest (kinds.Name entry) i n h t =
    let left = and_parts _ _ (and_parts _ _ t).0 in
    let bytes = string tables.names entry in
    let s = name_spelled text rest bytes i n h (and_parts _ _ t).1 in
    record {
      lexeme = name bytes;
      spelled = s.0;
      longest = s.1;
      is = (
        string_there tables.names entry (ltb-true entry (length tables.names) left.0),
        λ word same. false≢true (sym (not-true (bytes_eq bytes (word_bytes word)) (passes (is_other bytes) WORDS (word_place word) word left.1 (word_placed word)))
            ∙ (bytes_eq-Decides bytes (word_bytes word)).1 same),
      );
    }
read tables text rest (kinds.Word word entry) i n h t =
    let left = and_parts _ _ (and_parts _ _ t).0 in
    let bytes = string tables.names entry in
    let s = name_spelled text rest bytes i n h (and_parts _ _ t).1 in
    record {
      lexeme = name bytes;
      spelled = s.0;
      longest = s.1;
      is = (string_there tables.names entry (ltb-true entry (length tables.names) left.0), (bytes_eq-Decides bytes (word_bytes word)).0 left.1);
    }
read tables text rest (kinds.Num (pos value)) i n h t =
    let s = number_spelled text rest value i n h (and_parts _ _ t).1 in
    record { lexeme = number value; spelled = s.0; longest = s.1; is = (Decides-int_eq (pos value) (to_int32 value)).0 (and_parts _ _ t).0 }
read tables text rest (kinds.Num (negsuc value)) i n h t = absurd (false≢true t)
read tables text rest (kinds.Text entry) i n h t =
    let bytes = string tables.texts entry in
    let s = text_spelled text rest bytes i n h (and_parts _ _ t).1 in
    record { lexeme = quoted bytes; spelled = s.0; longest = s.1; is = string_there tables.texts entry (ltb-true entry (length tables.texts) (and_parts _ _ t).0) }
read tables text rest (kinds.Mark which) i n h t =
    let s = mark_spelled text rest which i n h t in record { lexeme = mark which; spelled = s.0; longest = s.1; is = refl }
read tables text rest kinds.Finish i n h t = absurd (false≢true t)

-- two truths are the same
abbrev agree : Bool → Bool → Bool
agree true b = b
agree false b = not b

agreed : (a b : Bool) → IsTrue (agree a b) → a ≡ b
agreed true b h = sym h
agreed false b h = sym (not-true b h)

agrees : (a : Bool) → IsTrue (agree a a)
agrees true = refl
agrees false = refl

-- a break is among the blanks
breaks : (text rest : List ℕ) (i n : ℕ) (broken : Bool) → drop i text ≡ rest → IsTrue (all_first is_blank n rest) → IsTrue (agree broken (some_first is_break n rest))
    → IsTrue broken ↔ SomeByte is_break text i (i + n)
breaks text rest i n broken h blank same =
    let e : broken ≡ some_first is_break n rest = agreed broken (some_first is_break n rest) same in
    (λ is. some_there is_break text rest n i h (sym e ∙ is), λ some. e ∙ there_some is_break text rest n i h (enough is_blank n rest blank) some)

-- the token stands next in the text, of which this is the rest from i on
abbrev is_next : Tables → ℕ → List ℕ → Token → Bool
is_next tables i rest token =
    (nat_le i token.span.from && nat_le token.span.from token.span.upto)
    && ((all_first is_blank (token.span.from - i) rest && agree token.broken (some_first is_break (token.span.from - i) rest))
    && is_read tables token.kind (token.span.upto - token.span.from) (drop (token.span.from - i) rest))

next : (tables : Tables) (text rest : List ℕ) (i : ℕ) (token : Token) → drop i text ≡ rest → IsTrue (is_next tables i rest token)
    → IsNext tables text i token × (drop token.span.upto text ≡ drop (token.span.upto - i) rest)
next tables text rest i token h t =
    let from = token.span.from in
    let upto = token.span.upto in
    let order = and_parts _ _ (and_parts _ _ t).0 in
    let parts = and_parts _ _ (and_parts _ _ t).1 in
    let before = and_parts _ _ parts.0 in
    let later : i ≤ from = leb-true i from order.0 in
    let ends : from ≤ upto = leb-true from upto order.1 in
    let here : i + (from - i) ≡ from = omega arith in
    let there : from + (upto - from) ≡ upto = omega arith in
    let whole : i + (upto - i) ≡ upto = omega arith in
    let behind : drop from text ≡ drop (from - i) rest =
    ap (λ (x : ℕ). drop x text) (sym here) ∙ rest_behind text rest i (from - i) h in
    let gap = gap_first text rest (from - i) i h before.0 in
    let r = read tables text (drop (from - i) rest) token.kind from (upto - from) behind parts.1 in (
      record {
        places = gap.0;
        gap = subst (λ (x : ℕ). IsGap text i gap.0 x) here gap.1;
        broken = subst (λ (x : ℕ). IsTrue token.broken ↔ SomeByte is_break text i x) here (breaks text rest i (from - i) token.broken h before.0 before.1);
        reads = subst (λ (x : ℕ). Reads tables text from token.kind x) there r;
      },
      ap (λ (x : ℕ). drop x text) (sym whole) ∙ rest_behind text rest i (upto - i) h,
    )

-- the place behind the last of these tokens, and what is left of the text there
abbrev pub place_behind : ℕ → List Token → ℕ
place_behind i [] = i
place_behind i (token ∷ all) = place_behind token.span.upto all

-- these tokens stand one behind the other in the text, of which this is the rest from i on, and then its end
abbrev pub are_all : Tables → ℕ → List ℕ → List Token → Bool
are_all tables i rest [] = all_first is_blank (length rest) rest
are_all tables i rest (token ∷ all) = is_next tables i rest token && are_all tables token.span.upto (drop (token.span.upto - i) rest) all

-- whether a break is among what is left
abbrev pub is_broken_end : ℕ → List ℕ → List Token → Bool
is_broken_end i rest [] = some_first is_break (length rest) rest
is_broken_end i rest (token ∷ all) = is_broken_end token.span.upto (drop (token.span.upto - i) rest) all

pub record Stand (tables : Tables) (text : List ℕ) (i : ℕ) (all : List Token) (broken : Bool) : Type 0 where
  pub stop : ℕ
  pub are : AreTokens tables text i all stop
  pub places : List ℕ
  pub gap : IsGap text stop places (length text)
  pub breaks : IsTrue broken ↔ SomeByte is_break text stop (length text)

pub all_stand : (tables : Tables) (text rest : List ℕ) (i : ℕ) (all : List Token) → i ≤ length text → drop i text ≡ rest → IsTrue (are_all tables i rest all)
    → Stand tables text i all (is_broken_end i rest all)
all_stand tables text rest i [] within h t =
    let size : length (drop i text) ≡ length rest = ap (λ (x : List ℕ). length x) h in
    let end : i + length rest ≡ length text = omega (arith, length-drop i text, size) in
    let gap = gap_first text rest (length rest) i h t in
    record {
      stop = i;
      are = refl;
      places = gap.0;
      gap = subst (λ (x : ℕ). IsGap text i gap.0 x) end gap.1;
      breaks = subst (λ (x : ℕ). IsTrue (some_first is_break (length rest) rest) ↔ SomeByte is_break text i x) end
          (breaks text rest i (length rest) (some_first is_break (length rest) rest) h t (agrees (some_first is_break (length rest) rest)));
    }
all_stand tables text rest i (token ∷ all) within h t =
    let parts = and_parts _ _ t in
    let one = next tables text rest i token h parts.0 in
    let ends = spells_within text one.0.reads.lexeme token.span.from token.span.upto one.0.reads.spelled in
    let more = all_stand tables text (drop (token.span.upto - i) rest) token.span.upto all ends.1 one.1 parts.1 in
    record { stop = more.stop; are = (one.0, more.are); places = more.places; gap = more.gap; breaks = more.breaks }

-- the end of the text, behind these tokens
abbrev pub finish_behind : List ℕ → List Token → Token
finish_behind text all =
    record { kind = kinds.Finish; span = record { from = length text; upto = length text }; broken = is_broken_end (start_of text) (drop (start_of text) text) all }

abbrev is_ascii : ℕ → Bool
is_ascii byte = nat_lt byte 128

all_ascii : (text : List ℕ) → IsTrue (all_first is_ascii (length text) text) → IsAscii text
all_ascii text h i =
    elim (cases_lt i (length text)) [
      | inl inside ↦ ltb-true (slice_index text i) 128 (each_first is_ascii text text (length text) 0 refl h i (omega arith) (omega arith))
      | inr past ↦ let none : slice_index text i ≡ 0 = get_or_past text i 0 past in omega arith
    ]

-- these tokens and the end are those of the text, whose bytes are ASCII
abbrev pub is_tokenized : Tables → List ℕ → List Token → Bool
is_tokenized tables text all = (nat_le (length text) most_bytes && all_first is_ascii (length text) text) && are_all tables (start_of text) (drop (start_of text) text) all

pub tokenized : (tables : Tables) (text : List ℕ) (all : List Token) → IsTrue (is_tokenized tables text all) → IsTokenization tables text (all ++ finish_behind text all ∷ [])
tokenized tables text all t =
    let parts = and_parts _ _ t in
    let first = and_parts _ _ parts.0 in
    let s = all_stand tables text (drop (start_of text) text) (start_of text) all (start_within text) refl parts.1 in
    record {
      short = leb-true (length text) most_bytes first.0;
      utf8 = IsUtf8-from_ascii text (all_ascii text first.1);
      front = all;
      stop = s.stop;
      read = s.are;
      finish = finish_behind text all;
      ends = record { kind = refl; from = refl; upto = refl; places = s.places; gap = s.gap; broken = s.breaks };
      all_is = refl;
    }
