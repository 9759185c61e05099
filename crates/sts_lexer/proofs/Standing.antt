-- What stands at a place of a text is found: white space or none, a lexeme or none.
use Rattle.std.proofs.Common.{◌≡◌, ◌≢◌, ◌↔◌, ◌⊎◌, ℕ, zero, suc, ◌+◌, ◌-◌, ◌<◌, ◌≤◌, Bool, true, false, List, [], ◌∷◌, length, take, drop, get_or, refl, sym, ap, ◌∙◌, subst, inl, inr, arith}
use Rattle.std.specs.Prelude.{Option, Some, None, IsTrue, not, ◌==◌, ◌&&◌, slice_get, slice_index, slice_range}
use Rattle.std.specs.Char.{is_ascii_digit, is_ascii_hexdigit}
use Rattle.std.specs.Str.{bytes_eq}
use Rattle.std.specs.Str.Parse.{digits_value}
use Rattle.std.proofs.lemmas.Bool.{cases_lt, cases_eq, cases_Bool, false≢true, and_parts, and_from, not-false, eqb-true, eq-eqb}
use Rattle.std.proofs.lemmas.Bool.Decides.{nat_tests}
use Rattle.std.proofs.lemmas.Option.{get_or_from_slice_get, slice_get-get_or}
use Rattle.std.proofs.lemmas.Slice.Eq.{bytes_eq-Decides}
use Rattle.sts_lexer.specs.Bytes.{is_blank, is_break, begins_name, goes_on_name, is_quote, Each, SomeByte, Stands}
use Rattle.sts_lexer.specs.Spaces.{Closes, IsSpace, IsGap, opens_comment}
use Rattle.sts_lexer.specs.Lexemes.{Lexeme, name, number, quoted, mark, Spells, IsLongest, IsX, IsDecimal, IsHex, IsValue, IsNumber, IsBody, IsQuoted, IsMark, character, ends_number}
use Rattle.sts_lexer.specs.Marks.{mark_bytes}
use Rattle.sts_lexer.specs.Words.{word_bytes}
use Rattle.sts_lexer.specs.declared.marks.Mark.{Mark}
use Rattle.sts_lexer.specs.declared.marks.Mark.TheVariants.{OpenBrace}
use Rattle.sts_lexer.specs.declared.words.Word.{Word}
use Rattle.sts_lexer.specs.declared.words.Word.TheVariants.{Break}
use Rattle.sts_lexer.proofs.Bodies.{inside, body_more, stuck_inside, stuck_at_end}
use Rattle.sts_lexer.proofs.Digits.{hex_end, x_goes_on}
use Rattle.sts_lexer.proofs.Gaps.{line_comment}
use Rattle.sts_lexer.proofs.Lexing.{spells_within, name_longest, name_stands, number_longest, no_number, quoted_longest, no_quoted, mark_longest, no_mark, digit_goes_on}
use Rattle.sts_lexer.proofs.LongestMark.{NoneBefore, none_more, none_at_all, first_longest, stands_from}
use Rattle.sts_lexer.proofs.MarkTable.{MARKS}
use Rattle.sts_lexer.proofs.WordTable.{WORDS, place_of, placed, in_table}

-- the first place from i on where a test holds
record First (test : ℕ → Bool) (i n : ℕ) : Type 0 where
  at : ℕ
  from : i ≤ at
  below : at < i + n
  holds : IsTrue (test at)
  before : (k : ℕ) → i ≤ k → k < at → test k ≡ false

first : (test : ℕ → Bool) (n i : ℕ) → First test i n ⊎ ((k : ℕ) → i ≤ k → k < i + n → test k ≡ false)
first test zero i = inr (λ k from below. absurd (omega (arith, from, below)))
first test (suc n) i =
    elim (cases_Bool (test i)) [
      | inl holds ↦ inl (record { at = i; from = omega arith; below = omega arith; holds = holds; before = λ k from below. absurd (omega (arith, from, below)) })
      | inr fails ↦ behind fails (first test n (suc i))
    ]
  where
    on : (k : ℕ) → test i ≡ false → i ≤ k → (suc i ≤ k → test k ≡ false) → test k ≡ false
    on k fails from later =
        elim (cases_lt i k) [
          | inl lt ↦ later (omega (arith, lt))
          | inr le ↦ (let same : i ≡ k = omega (arith, le, from) in subst (λ (x : ℕ). test x ≡ false) same fails)
        ]

    behind : test i ≡ false → First test (suc i) n ⊎ ((k : ℕ) → suc i ≤ k → k < suc i + n → test k ≡ false) → First test i (suc n) ⊎ ((k : ℕ) → i ≤ k → k < i + suc n → test k ≡ false)
    behind fails (inl f) =
        inl (record { at = f.at; from = omega (arith, f.from); below = omega (arith, f.below); holds = f.holds; before = λ k from below. on k fails from (λ later. f.before k later below) })
    behind fails (inr none) = inr (λ k from below. on k fails from (λ later. none k later (omega (arith, below))))

-- a run of bytes of a class, as far as it goes
record Run (test : ℕ → Bool) (text : List ℕ) (i : ℕ) : Type 0 where
  end : ℕ
  after : i ≤ end
  within : end ≤ length text
  each : Each test text i end
  stops : end < length text → test (slice_index text end) ≡ false

not_true : (b : Bool) → not b ≡ false → IsTrue b
not_true true h = refl
not_true false h = absurd (false≢true (sym h))

run : (test : ℕ → Bool) (text : List ℕ) (i : ℕ) → i ≤ length text → Run test text i
run test text i within =
    elim (first (λ k. not (test (slice_index text k))) (length text - i) i) [
      | inl f ↦ record {
        end = f.at;
        after = f.from;
        within = omega (arith, f.below, within);
        each = λ k from below. not_true (test (slice_index text k)) (f.before k from below);
        stops = λ below. not_false (test (slice_index text f.at)) f.holds;
      }
      | inr none ↦ record {
        end = length text;
        after = within;
        within = omega arith;
        each = λ k from below. not_true (test (slice_index text k)) (none k from (omega (arith, below, from)));
        stops = λ below. absurd (omega (arith, below));
      }
    ]
  where
    not_false : (b : Bool) → IsTrue (not b) → b ≡ false
    not_false true h = absurd (false≢true h)
    not_false false h = refl

-- whether a line break is among some bytes
pub breaks : (text : List ℕ) (i j : ℕ) → (b : Bool) × (IsTrue b ↔ SomeByte is_break text i j)
breaks text i j =
    elim (first (λ k. is_break (slice_index text k)) (j - i) i) [
      | inl f ↦ (true, ((λ _. (f.at, f.from, omega (arith, f.below, f.from), f.holds)), (λ _. refl)))
      | inr none ↦ (false, ((λ h. absurd (false≢true h)), (λ some. absurd (false≢true (sym (none some.0 some.1 (omega (arith, some.1, some.2))) ∙ some.3)))))
    ]

-- white space
pub record SpaceHere (text : List ℕ) (i : ℕ) : Type 0 where
  pub end : ℕ
  pub space : IsSpace text i end
  pub after : i < end
  pub within : end ≤ length text

blank_slash : (byte : ℕ) → IsTrue (is_blank byte) → byte ≡ 47 → ⊥
blank_slash byte h e = grind (arith, nat_tests)

block_or_none : (text : List ℕ) (i : ℕ) → slice_index text i ≡ 47 → slice_index text (i + 1) ≡ 42 → SpaceHere text i ⊎ ((j : ℕ) → IsSpace text i j → ⊥)
block_or_none text i one two =
    elim (first (λ k. (slice_index text k == 42) && (slice_index text (k + 1) == 47)) (length text - (i + 2)) (i + 2)) [
      | inl f ↦
          (let parts = and_parts (slice_index text f.at == 42) (slice_index text (f.at + 1) == 47) f.holds in
          let closes : Closes text f.at = (eqb-true (slice_index text f.at) 42 parts.0, eqb-true (slice_index text (f.at + 1)) 47 parts.1) in
          inl (record {
            end = f.at + 2;
            space = inr (inr (record { first = one; second = two; close = f.at; after = f.from; closes = closes; next = λ k from below h. false≢true (sym (f.before k from below) ∙ closed k h); ends = refl }));
            after = omega (arith, f.from);
            within = omega (arith, inside text (f.at + 1) 47 closes.1 (omega arith));
          }))
      | inr none ↦ inr (refused none)
    ]
  where
    closed : (k : ℕ) → Closes text k → ((slice_index text k == 42) && (slice_index text (k + 1) == 47)) ≡ true
    closed k h = and_from (slice_index text k == 42) (slice_index text (k + 1) == 47) (eq-eqb (slice_index text k) 42 h.0) (eq-eqb (slice_index text (k + 1)) 47 h.1)

    refused : ((k : ℕ) → i + 2 ≤ k → k < i + 2 + (length text - (i + 2)) → ((slice_index text k == 42) && (slice_index text (k + 1) == 47)) ≡ false) → (j : ℕ) → IsSpace text i j → ⊥
    refused none j (inl blank) = blank_slash (slice_index text i) blank.0 one
    refused none j (inr (inl line)) = (let e : 42 ≡ 47 = sym two ∙ line.second in omega (arith, e))
    refused none j (inr (inr block)) =
        (let lt = inside text (block.close + 1) 47 block.closes.1 (omega arith) in
        false≢true (sym (none block.close block.after (omega (arith, lt, block.after))) ∙ closed block.close block.closes))

pub space_or_none : (text : List ℕ) (i : ℕ) → i < length text → SpaceHere text i ⊎ ((j : ℕ) → IsSpace text i j → ⊥)
space_or_none text i here =
    elim (cases_Bool (is_blank (slice_index text i))) [
      | inl blank ↦ inl (record { end = i + 1; space = inl (blank, refl); after = omega arith; within = omega (arith, here) })
      | inr fails ↦
          elim (cases_eq (slice_index text i) 47) [
            | inl one ↦
                elim (cases_eq (slice_index text (i + 1)) 47) [
                  | inl two ↦
                      (let r = run (λ byte. not (is_break byte)) text i (omega (arith, here)) in
                      let line = line_comment text i r.end one two r.after r.within r.each r.stops in
                      inl (record { end = r.end; space = inr (inl line); after = omega (arith, line.after); within = r.within }))
                  | inr other ↦
                      elim (cases_eq (slice_index text (i + 1)) 42) [
                        | inl two ↦ block_or_none text i one two
                        | inr neither ↦ inr (λ j h. elim h [
                          | inl blank ↦ false≢true (sym fails ∙ blank.0)
                          | inr comment ↦ elim comment [ inl line ↦ other line.second | inr block ↦ neither block.second ]
                        ])
                      ]
                ]
            | inr other ↦ inr (λ j h. elim h [
              | inl blank ↦ false≢true (sym fails ∙ blank.0)
              | inr comment ↦ elim comment [ inl line ↦ other line.first | inr block ↦ other block.first ]
            ])
          ]
    ]

-- all white space and comments from a place on
pub record Gap (text : List ℕ) (i : ℕ) : Type 0 where
  pub end : ℕ
  pub places : List ℕ
  pub gap : IsGap text i places end
  pub after : i ≤ end
  pub within : end ≤ length text
  pub stops : end < length text → (j : ℕ) → IsSpace text end j → ⊥

gap_of : (text : List ℕ) (n i : ℕ) → i ≤ length text → length text ≤ i + n → Gap text i
gap_of text zero i within all = record { end = i; places = []; gap = refl; after = omega arith; within = within; stops = λ below. absurd (omega (arith, below, all)) }
gap_of text (suc n) i within all =
    elim (cases_lt i (length text)) [
      | inr past ↦ record { end = i; places = []; gap = refl; after = omega arith; within = within; stops = λ below. absurd (omega (arith, below, past)) }
      | inl here ↦
          elim (space_or_none text i here) [
            | inr none ↦ record { end = i; places = []; gap = refl; after = omega arith; within = within; stops = λ _. none }
            | inl space ↦
                (let rest = gap_of text n space.end space.within (omega (arith, space.after, all)) in
                record { end = rest.end; places = space.end ∷ rest.places; gap = (space.space, rest.gap); after = omega (arith, space.after, rest.after); within = rest.within; stops = rest.stops })
          ]
    ]

pub gap_from : (text : List ℕ) (i : ℕ) → i ≤ length text → Gap text i
gap_from text i within = gap_of text (length text) i within (omega arith)

-- numbers
value_or_none : (text : List ℕ) (radix i j : ℕ) → ((value : ℕ) × IsValue text radix value i j) ⊎ ((value : ℕ) → IsValue text radix value i j → ⊥)
value_or_none text radix i j =
    elim (cases_Bool (ends_number (slice_index text j))) [
      | inr fails ↦ inr (λ value h. false≢true (sym fails ∙ h.ends))
      | inl ends ↦
          elim (cases_lt 4294967295 (digits_value radix (slice_range text i j))) [
            | inl large ↦ inr (λ value h. let is : value ≡ digits_value radix (slice_range text i j) = h.is in omega (arith, is, h.fits, large))
            | inr fits ↦ inl (digits_value radix (slice_range text i j), record { is = refl; fits = fits; ends = ends })
          ]
    ]

abbrev NumberOrNone : List ℕ → ℕ → Type 0
NumberOrNone text i = ((value end : ℕ) × IsNumber text value i end) ⊎ ((value end : ℕ) → IsNumber text value i end → ⊥)

hex_or_none : (text : List ℕ) (i : ℕ) → slice_index text i ≡ 48 → IsX (slice_index text (i + 1)) → NumberOrNone text i
hex_or_none text i one two =
    elim (cases_lt (i + 2) r.end) [
      | inr empty ↦ inr (λ value end h. no_decimal value end h (λ hex. let same = same_end value end hex in omega (arith, same, hex.0.2.0, empty)))
      | inl some ↦
          elim (value_or_none text 16 (i + 2) r.end) [
            | inl v ↦ inl (v.0, r.end, inr ((one, two, (some, r.within, r.each)), v.1))
            | inr none ↦ inr (λ value end h. no_decimal value end h (λ hex.
                none value (subst (λ (x : ℕ). IsValue text 16 value (i + 2) x) (same_end value end hex) hex.1)))
          ]
    ]
  where
    x_some : (byte : ℕ) → IsX byte → 0 < byte
    x_some byte (inl h) = omega (arith, h)
    x_some byte (inr h) = omega (arith, h)

    from_within : i + 2 ≤ length text
    from_within = omega (arith, inside text (i + 1) (slice_index text (i + 1)) refl (x_some (slice_index text (i + 1)) two))

    r : Run is_ascii_hexdigit text (i + 2)
    r = run is_ascii_hexdigit text (i + 2) from_within

    same_end : (value end : ℕ) → IsHex text i end × IsValue text 16 value (i + 2) end → end ≡ r.end
    same_end value end hex = hex_end text (i + 2) r.end end r.within r.each r.stops r.after hex.0.2 hex.1.ends

    no_decimal : (value end : ℕ) → IsNumber text value i end → (IsHex text i end × IsValue text 16 value (i + 2) end → ⊥) → ⊥
    no_decimal value end (inl h) other = x_goes_on (slice_index text (i + 1)) two (subst (λ (x : ℕ). IsTrue (ends_number (slice_index text x))) (h.0.1 one) h.1.ends)
    no_decimal value end (inr h) other = other h

-- decimal digits end where their run does, or behind a 0
decimal_or_none : (text : List ℕ) (i end : ℕ) → IsDecimal text i end → ((j : ℕ) → IsDecimal text i j → IsTrue (ends_number (slice_index text j)) → j ≡ end)
    → ((j : ℕ) → IsHex text i j → ⊥) → NumberOrNone text i
decimal_or_none text i end decimal once no_hex =
    elim (value_or_none text 10 i end) [
      | inl v ↦ inl (v.0, end, inl (decimal, v.1))
      | inr none ↦ inr (λ value j h. elim h [
        | inl g ↦ none value (subst (λ (x : ℕ). IsValue text 10 value i x) (once j g.0 g.1.ends) g.1)
        | inr g ↦ no_hex j g.0
      ])
    ]

zero_or_none : (text : List ℕ) (i : ℕ) → i < length text → IsTrue (is_ascii_digit (slice_index text i)) → slice_index text i ≡ 48 → (IsX (slice_index text (i + 1)) → ⊥) → NumberOrNone text i
zero_or_none text i here digit one other =
    decimal_or_none text i (i + 1)
    ((omega arith, omega (arith, here), (λ k from below. let same : i ≡ k = omega (arith, from, below) in subst (λ (x : ℕ). IsTrue (is_ascii_digit (slice_index text x))) same digit)), (λ _. refl))
    (λ j h _. h.1 one) (λ j h. other h.1)

digits_or_none : (text : List ℕ) (i : ℕ) → i < length text → IsTrue (is_ascii_digit (slice_index text i)) → slice_index text i ≢ 48 → NumberOrNone text i
digits_or_none text i here digit other =
    let r = run is_ascii_digit text i (omega (arith, here)) in
    let some : i < r.end = elim (cases_lt i r.end) [
      | inl lt ↦ lt
      | inr le ↦ (let same : r.end ≡ i = omega (arith, le, r.after) in
          absurd (false≢true (sym (r.stops (omega (arith, same, here))) ∙ subst (λ (x : ℕ). IsTrue (is_ascii_digit (slice_index text x))) (sym same) digit)))
    ] in
    decimal_or_none text i r.end ((some, r.within, r.each), (λ one. absurd (other one)))
    (λ j h ends. elim (cases_lt j r.end) [
      | inl short ↦ absurd (digit_goes_on (slice_index text j) (r.each j (omega (arith, h.0.0)) short) ends)
      | inr le ↦ elim (cases_lt r.end j) [
        | inl long ↦ absurd (false≢true (sym (r.stops (omega (arith, h.0.1, long))) ∙ h.0.2 r.end r.after long))
        | inr ge ↦ omega (arith, le, ge)
      ]
    ])
    (λ j h. other h.0)

x_or_not : (byte : ℕ) → IsX byte ⊎ (IsX byte → ⊥)
x_or_not byte =
    elim (cases_eq byte 120) [
      | inl small ↦ inl (inl small)
      | inr other ↦ elim (cases_eq byte 88) [
        | inl large ↦ inl (inr large)
        | inr neither ↦ inr (λ h. elim h [ inl small ↦ other small | inr large ↦ neither large ])
      ]
    ]

number_or_none : (text : List ℕ) (i : ℕ) → i < length text → IsTrue (is_ascii_digit (slice_index text i)) → NumberOrNone text i
number_or_none text i here digit =
    elim (cases_eq (slice_index text i) 48) [
      | inl one ↦ elim (x_or_not (slice_index text (i + 1))) [
        | inl x ↦ hex_or_none text i one x
        | inr other ↦ zero_or_none text i here digit one other
      ]
      | inr other ↦ digits_or_none text i here digit other
    ]

-- texts in quotes
size_some : (quote byte next value size : ℕ) → character quote byte next ≡ Some (value, size) → 0 < size
size_some quote byte next value size h = grind (arith, nat_tests)

abbrev QuotedOrNone : List ℕ → ℕ → Type 0
QuotedOrNone text at = ((value : List ℕ) × (end : ℕ) × IsQuoted text value at end) ⊎ ((value : List ℕ) (end : ℕ) → IsQuoted text value at end → ⊥)

quoted_on : (text : List ℕ) (at : ℕ) → IsTrue (is_quote (slice_index text at)) → (n i : ℕ) (read : List ℕ) → IsBody text (slice_index text at) (at + 1) read i → length text ≤ i + n → QuotedOrNone text at
quoted_on text at quote zero i read body all = inr (λ value end. stuck_at_end text value at i end read quote body (omega (arith, all)))
quoted_on text at quote (suc n) i read body all =
    elim (cases_lt i (length text)) [
      | inr past ↦ inr (λ value end. stuck_at_end text value at i end read quote body past)
      | inl here ↦ elim (cases_eq (slice_index text i) (slice_index text at)) [
        | inl closes ↦ inl (read, i + 1, record { opens = quote; close = i; body = body; closes = closes; ends = refl })
        | inr differ ↦
            goes_on differ (λ c e.
            quoted_on text at quote n (i + c.1) _ (body_more text (slice_index text at) (at + 1) i c.0 c.1 read body e)
            (omega (arith, all, size_some (slice_index text at) (slice_index text i) (slice_index text (i + 1)) c.0 c.1 e)))
            (character (slice_index text at) (slice_index text i) (slice_index text (i + 1))) refl
      ]
    ]
  where
    goes_on : slice_index text i ≢ slice_index text at
        → ((c : ℕ × ℕ) → character (slice_index text at) (slice_index text i) (slice_index text (i + 1)) ≡ Some c → QuotedOrNone text at)
        → (found : Option (ℕ × ℕ)) → character (slice_index text at) (slice_index text i) (slice_index text (i + 1)) ≡ found → QuotedOrNone text at
    goes_on differ rest None e = inr (λ value end. stuck_inside text value at i end read quote body differ e)
    goes_on differ rest (Some c) e = rest c e

-- marks: the first of the table that stands is the longest
record MarkHere (text : List ℕ) (i : ℕ) : Type 0 where
  which : Mark
  end : ℕ
  stands : Stands text (mark_bytes which) i end
  most : (other : Mark) (j : ℕ) → Stands text (mark_bytes other) i j → j ≤ end

abbrev MarkOrNone : List ℕ → ℕ → Type 0
MarkOrNone text i = MarkHere text i ⊎ ((which : Mark) (end : ℕ) → Stands text (mark_bytes which) i end → ⊥)

marks_from : (text : List ℕ) (i n place : ℕ) → 49 ≤ place + n → NoneBefore MARKS place text i → MarkOrNone text i
marks_from text i zero place all before = inr (none_at_all text place i (omega (arith, all)) before)
marks_from text i (suc n) place all before =
    elim (cases_lt place 49) [
      | inr past ↦ inr (none_at_all text place i past before)
      | inl here ↦
          (let bytes : List ℕ = mark_bytes (get_or MARKS place OpenBrace) in
          elim (cases_Bool (bytes_eq bytes (take (length bytes) (drop i text)))) [
            | inl holds ↦ inl (record {
              which = get_or MARKS place OpenBrace;
              end = i + length bytes;
              stands = stands_from text bytes i holds;
              most = first_longest text place i (get_or MARKS place OpenBrace) (slice_get-get_or MARKS place OpenBrace here) before;
            })
            | inr differs ↦ marks_from text i n (place + 1) (omega (arith, all)) (none_more MARKS place i text bytes OpenBrace refl differs before)
          ])
    ]

-- reserved words
pub word_or_none : (bytes : List ℕ) → ((word : Word) × (bytes ≡ word_bytes word)) ⊎ ((word : Word) → bytes ≢ word_bytes word)
word_or_none bytes =
    elim (first (λ k. bytes_eq bytes (word_bytes (get_or WORDS k Break))) 45 0) [
      | inl f ↦ inl (get_or WORDS f.at Break, (bytes_eq-Decides bytes (word_bytes (get_or WORDS f.at Break))).0 f.holds)
      | inr none ↦ inr (λ word e.
          let this : get_or WORDS (place_of word) Break ≡ word = get_or_from_slice_get WORDS (place_of word) word Break (placed word) in
          false≢true (sym (none (place_of word) (omega arith) (omega (arith, in_table word)))
          ∙ (bytes_eq-Decides bytes (word_bytes (get_or WORDS (place_of word) Break))).1 (e ∙ ap word_bytes (sym this))))
    ]

-- a lexeme, the longest one
pub record LexemeHere (text : List ℕ) (i : ℕ) : Type 0 where
  pub lexeme : Lexeme
  pub end : ℕ
  pub spelled : Spells text lexeme i end
  pub longest : IsLongest text i end

abbrev pub LexemeOrNone : List ℕ → ℕ → Type 0
LexemeOrNone text i = LexemeHere text i ⊎ ((lexeme : Lexeme) (end : ℕ) → Spells text lexeme i end → ⊥)

name_here : (text : List ℕ) (i : ℕ) → i < length text → IsTrue (begins_name (slice_index text i)) → LexemeHere text i
name_here text i here begins =
    let r = run goes_on_name text i (omega (arith, here)) in
    record {
      lexeme = name (slice_range text i r.end);
      end = r.end;
      spelled = (name_stands text i r.end here begins r.after r.within r.each r.stops, refl);
      longest = name_longest text i r.end begins r.after r.stops;
    }

number_here : (text : List ℕ) (i : ℕ) → i < length text → IsTrue (is_ascii_digit (slice_index text i)) → LexemeOrNone text i
number_here text i here digit =
    elim (number_or_none text i here digit) [
      | inl n ↦ inl (record { lexeme = number n.0; end = n.1; spelled = n.2; longest = number_longest text n.0 i n.1 n.2 })
      | inr none ↦ inr (no_number text i digit none)
    ]

quoted_here : (text : List ℕ) (i : ℕ) → IsTrue (is_quote (slice_index text i)) → LexemeOrNone text i
quoted_here text i quote =
    elim (quoted_on text i quote (length text) (i + 1) [] refl (omega arith)) [
      | inl q ↦ inl (record { lexeme = quoted q.0; end = q.1; spelled = q.2; longest = quoted_longest text q.0 i q.1 q.2 })
      | inr none ↦ inr (no_quoted text i quote none)
    ]

mark_here : (text : List ℕ) (i : ℕ) → begins_name (slice_index text i) ≡ false → is_ascii_digit (slice_index text i) ≡ false → is_quote (slice_index text i) ≡ false → LexemeOrNone text i
mark_here text i no_name no_digit no_quote =
    elim (cases_Bool (opens_comment text i)) [
      | inl opens ↦ inr (no_mark text i no_name no_digit no_quote (λ which end h. false≢true (sym h.1 ∙ opens)))
      | inr clear ↦ elim (marks_from text i 49 0 (omega arith) (λ k which end below. absurd (omega (arith, below)))) [
        | inl m ↦ inl (record { lexeme = mark m.which; end = m.end; spelled = (m.stands, clear); longest = mark_longest text m.which i m.end (m.stands, clear) m.most })
        | inr none ↦ inr (no_mark text i no_name no_digit no_quote (λ which end h. none which end h.0))
      ]
    ]

pub lexeme_or_none : (text : List ℕ) (i : ℕ) → i < length text → LexemeOrNone text i
lexeme_or_none text i here =
    elim (cases_Bool (begins_name (slice_index text i))) [
      | inl begins ↦ inl (name_here text i here begins)
      | inr no_name ↦ elim (cases_Bool (is_ascii_digit (slice_index text i))) [
        | inl digit ↦ number_here text i here digit
        | inr no_digit ↦ elim (cases_Bool (is_quote (slice_index text i))) [
          | inl quote ↦ quoted_here text i quote
          | inr no_quote ↦ mark_here text i no_name no_digit no_quote
        ]
      ]
    ]
