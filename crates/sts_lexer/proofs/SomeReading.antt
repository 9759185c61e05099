-- A text that is read over given tables has tokens, or there is a first reason for which it has none.
use Rattle.std.proofs.Common.{◌≡◌, ◌⊎◌, ℕ, zero, suc, false, ◌+◌, ◌-◌, ◌<◌, ◌≤◌, List, [], ◌∷◌, ◌++◌, length, take, refl, sym, ◌∙◌, subst, inl, inr, arith}
use Rattle.std.specs.Prelude.{Option, Some, slice_get, slice_index}
use Rattle.std.specs.Str.{IsUtf8, IsValidUpTo, is_utf8, bytes_eq}
use Rattle.std.proofs.lemmas.Bool.{cases_lt, cases_Bool, false≢true}
use Rattle.std.proofs.lemmas.List.{take_all}
use Rattle.std.proofs.lemmas.Option.{slice_get_within, same_Some}
use Rattle.std.proofs.lemmas.Slice.Eq.{bytes_eq-Decides}
use Rattle.std.proofs.lemmas.Str.{IsUtf8-nil, IsUtf8-from_is_utf8, is_utf8-from_IsUtf8}
use Rattle.sts_base.specs.Int32.{to_int32}
use Rattle.sts_base.specs.Distinct.{IsDistinct}
use Rattle.sts_base.specs.declared.tables.Tables.{Tables}
use Rattle.sts_base.specs.declared.refused.Code.{Code}
use Rattle.sts_base.specs.declared.refused.Code.TheVariants as code
use Rattle.sts_lexer.specs.Bytes.{most_bytes}
use Rattle.sts_lexer.specs.Entries.{Lacks}
use Rattle.sts_lexer.specs.Laws.{IsRead, SomeReading}
use Rattle.sts_lexer.specs.Lexemes.{Lexeme, Spells, name, number, quoted, mark}
use Rattle.sts_lexer.specs.Refusals.{IsRefusal, cause}
use Rattle.sts_lexer.specs.Spaces.{IsGap, start_of}
use Rattle.sts_lexer.specs.Tables.{Extends}
use Rattle.sts_lexer.specs.Tokens.{IsKindOf, AreTokens}
use Rattle.sts_lexer.specs.Uses.{TakesUp, NumbersInOrder, NumbersOne}
use Rattle.sts_lexer.specs.declared.token.TokenKind.{TokenKind}
use Rattle.sts_lexer.specs.declared.token.TokenKind.TheVariants as kinds
use Rattle.sts_lexer.specs.declared.token.Token.{Token}
use Rattle.sts_lexer.proofs.Growing.{extends_same, extends_on, tokens_stay, tokens_more, start_within, numbers_more, numbers_finish}
use Rattle.sts_lexer.proofs.Lexing.{spells_within}
use Rattle.sts_lexer.proofs.Numbering.{slice_get_added, distinct_added}
use Rattle.sts_lexer.proofs.Standing.{Gap, LexemeHere, breaks, gap_from, lexeme_or_none, word_or_none}
use Rattle.sts_lexer.proofs.Steps.{refusal_of}

-- a table that holds a string, grown from an old one by that string at most
record Holds (old : List (List ℕ)) (string : List ℕ) : Type 0 where
  new : List (List ℕ)
  entry : ℕ
  there : slice_get new entry ≡ Some string
  grows : Extends old new
  distinct : IsDistinct new
  takes : TakesUp (Some entry) (length old) (length new)

entry_or_none : (strings : List (List ℕ)) (string : List ℕ) → ((entry : ℕ) × (slice_get strings entry ≡ Some string)) ⊎ Lacks strings string
entry_or_none [] string = inr (λ entry h. cc)
entry_or_none (first ∷ rest) string =
    elim (cases_Bool (bytes_eq first string)) [
      | inl same ↦ inl (0, let e : first ≡ string = (bytes_eq-Decides first string).0 same in subst (λ (x : List ℕ). ◌≡◌ {A = Option (List ℕ)} (Some first) (Some x)) e refl)
      | inr differ ↦ behind differ (entry_or_none rest string)
    ]
  where
    lacks : bytes_eq first string ≡ false → Lacks rest string → Lacks (first ∷ rest) string
    lacks differ none zero h = false≢true (sym differ ∙ (bytes_eq-Decides first string).1 (same_Some first string h))
    lacks differ none (suc entry) h = none entry h

    behind : bytes_eq first string ≡ false → ((entry : ℕ) × (slice_get rest entry ≡ Some string)) ⊎ Lacks rest string → ((entry : ℕ) × (slice_get (first ∷ rest) entry ≡ Some string)) ⊎ Lacks (first ∷ rest) string
    behind differ (inl found) = inl (suc found.0, found.1)
    behind differ (inr none) = inr (lacks differ none)

length_added : (strings : List (List ℕ)) (string : List ℕ) → length (strings ++ string ∷ []) ≡ length strings + 1
length_added [] string = refl
length_added (first ∷ rest) string = omega (arith, length_added rest string)

held : (old : List (List ℕ)) (string : List ℕ) → IsDistinct old → Holds old string
held old string distinct =
    elim (entry_or_none old string) [
      | inl found ↦ record { new = old; entry = found.0; there = found.1; grows = extends_same old; distinct = distinct; takes = inl (slice_get_within old found.0 string found.1, refl) }
      | inr lacks ↦ record {
        new = old ++ string ∷ [];
        entry = length old;
        there = slice_get_added old string;
        grows = (string ∷ [], refl);
        distinct = distinct_added old string distinct lacks;
        takes = inr (refl, length_added old string);
      }
    ]

-- tables that have what a lexeme says, and the kind of a token for it
record Kinded (old : Tables) (lexeme : Lexeme) : Type 0 where
  new : Tables
  kind : TokenKind
  is : IsKindOf new lexeme kind
  names : Extends old.names new.names
  texts : Extends old.texts new.texts
  distinct_names : IsDistinct new.names
  distinct_texts : IsDistinct new.texts
  numbers : (upto : ℕ) → NumbersOne old new (Some (kind, upto))

kinded : (old : Tables) (lexeme : Lexeme) → IsDistinct old.names → IsDistinct old.texts → Kinded old lexeme
kinded old (name bytes) names texts =
    let h = held old.names bytes names in
    let new : Tables = record { names = h.new; texts = old.texts } in
    elim (word_or_none bytes) [
      | inl word ↦ record {
        new = new;
        kind = kinds.Word word.0 h.entry;
        is = (h.there, word.1);
        names = h.grows;
        texts = extends_same old.texts;
        distinct_names = h.distinct;
        distinct_texts = texts;
        numbers = λ upto. record { names = h.takes; texts = refl };
      }
      | inr none ↦ record {
        new = new;
        kind = kinds.Name h.entry;
        is = (h.there, none);
        names = h.grows;
        texts = extends_same old.texts;
        distinct_names = h.distinct;
        distinct_texts = texts;
        numbers = λ upto. record { names = h.takes; texts = refl };
      }
    ]
kinded old (number value) names texts = record {
  new = old;
  kind = kinds.Num (to_int32 value);
  is = refl;
  names = extends_same old.names;
  texts = extends_same old.texts;
  distinct_names = names;
  distinct_texts = texts;
  numbers = λ upto. record { names = refl; texts = refl };
}
kinded old (quoted value) names texts =
    let h = held old.texts value texts in
    record {
      new = record { names = old.names; texts = h.new };
      kind = kinds.Text h.entry;
      is = h.there;
      names = extends_same old.names;
      texts = h.grows;
      distinct_names = names;
      distinct_texts = h.distinct;
      numbers = λ upto. record { names = refl; texts = h.takes };
    }
kinded old (mark which) names texts = record {
  new = old;
  kind = kinds.Mark which;
  is = refl;
  names = extends_same old.names;
  texts = extends_same old.texts;
  distinct_names = names;
  distinct_texts = texts;
  numbers = λ upto. record { names = refl; texts = refl };
}

abbrev ReadOrRefused : Tables → List ℕ → Type 0
ReadOrRefused old text = ((new : Tables) × (all : List Token) × IsRead old text new all) ⊎ ((why : Code) × (at : ℕ) × IsRefusal text why at)

-- as far as a text was read
record SoFar (old : Tables) (text : List ℕ) (at : ℕ) : Type 0 where
  tables : Tables
  front : List Token
  within : at ≤ length text
  read : AreTokens tables text (start_of text) front at
  names : IsDistinct tables.names
  texts : IsDistinct tables.texts
  more_names : Extends old.names tables.names
  more_texts : Extends old.texts tables.texts
  in_order : NumbersInOrder old tables front

module _ (old : Tables) (text : List ℕ) (short : length text ≤ most_bytes) (utf8 : IsUtf8 text) where
  ended : (at : ℕ) → SoFar old text at → (g : Gap text at) → g.end ≡ length text → ReadOrRefused old text
  ended at so g end =
      let b = breaks text at (length text) in
      let token : Token = record { kind = kinds.Finish; span = record { from = length text; upto = length text }; broken = b.0 } in
      inl (
        so.tables,
        so.front ++ token ∷ [],
        record {
          tokens = record {
            short = short;
            utf8 = utf8;
            front = so.front;
            stop = at;
            read = so.read;
            finish = token;
            ends = record { kind = refl; from = refl; upto = refl; places = g.places; gap = subst (λ (x : ℕ). IsGap text at g.places x) end g.gap; broken = b.1 };
            all_is = refl;
          };
          names = so.names;
          texts = so.texts;
          more_names = so.more_names;
          more_texts = so.more_texts;
          in_order = numbers_finish old so.tables so.front token refl so.in_order;
        },
      )

  stopped : (at : ℕ) → SoFar old text at → (g : Gap text at) → g.end < length text → ((lexeme : Lexeme) (end : ℕ) → Spells text lexeme g.end end → ⊥) → ReadOrRefused old text
  stopped at so g here none =
      inr (
        cause (slice_index text g.end),
        g.end,
        refusal_of text (cause (slice_index text g.end)) g.end short utf8 (record {
          tables = so.tables;
          front = so.front;
          i = at;
          read = so.read;
          places = g.places;
          gap = g.gap;
          stuck = record { here = here; no_space = g.stops here; no_lexeme = none };
          by = refl;
        }),
      )

  next : (at : ℕ) → SoFar old text at → (g : Gap text at) → (l : LexemeHere text g.end) → SoFar old text l.end
  next at so g l =
      let k = kinded so.tables l.lexeme so.names so.texts in
      let b = breaks text at g.end in
      let token : Token = record { kind = k.kind; span = record { from = g.end; upto = l.end }; broken = b.0 } in
      record {
        tables = k.new;
        front = so.front ++ token ∷ [];
        within = (spells_within text l.lexeme g.end l.end l.spelled).1;
        read = tokens_more k.new text (start_of text) at so.front token (tokens_stay so.tables k.new text (start_of text) at so.front k.names k.texts so.read)
            (record { places = g.places; gap = g.gap; broken = b.1; reads = record { lexeme = l.lexeme; spelled = l.spelled; longest = l.longest; is = k.is } });
        names = k.distinct_names;
        texts = k.distinct_texts;
        more_names = extends_on _ _ _ so.more_names k.names;
        more_texts = extends_on _ _ _ so.more_texts k.texts;
        in_order = numbers_more old so.tables k.new so.front token k.kind l.end refl so.in_order (k.numbers l.end);
      }

  reading : (n at : ℕ) → length text ≤ at + n → SoFar old text at → ReadOrRefused old text
  reading zero at all so =
      let g = gap_from text at so.within in
      ended at so g (omega (arith, g.after, g.within, all))
  reading (suc n) at all so =
      let g = gap_from text at so.within in
      elim (cases_lt g.end (length text)) [
        | inr past ↦ ended at so g (omega (arith, g.within, past))
        | inl here ↦ elim (lexeme_or_none text g.end here) [
          | inl l ↦ reading n l.end (omega (arith, all, g.after, (spells_within text l.lexeme g.end l.end l.spelled).0)) (next at so g l)
          | inr none ↦ stopped at so g here none
        ]
      ]

  read_all : IsDistinct old.names → IsDistinct old.texts → ReadOrRefused old text
  read_all names texts =
      reading (length text) (start_of text) (omega arith) (record {
        tables = old;
        front = [];
        within = start_within text;
        read = refl;
        names = names;
        texts = texts;
        more_names = extends_same old.names;
        more_texts = extends_same old.texts;
        in_order = record { names = refl; texts = refl };
      })

-- the longest front of a text that is UTF-8
longest_front : (text : List ℕ) (n : ℕ) → n < length text → ((m : ℕ) → n < m → IsUtf8 (take m text) → ⊥) → (at : ℕ) × IsValidUpTo text at
longest_front text zero short later = (0, record { short = short; front = IsUtf8-nil; longest = later })
longest_front text (suc n) short later =
    elim (cases_Bool (is_utf8 (take (suc n) text))) [
      | inl valid ↦ (suc n, record { short = short; front = IsUtf8-from_is_utf8 (take (suc n) text) valid; longest = later })
      | inr fails ↦ longest_front text n (omega (arith, short)) (λ m below h. elim (cases_lt (suc n) m) [
        | inl lt ↦ later m lt h
        | inr le ↦ (let same : m ≡ suc n = omega (arith, below, le) in
            false≢true (sym fails ∙ is_utf8-from_IsUtf8 (take (suc n) text) (subst (λ (x : ℕ). IsUtf8 (take x text)) same h)))
      ])
    ]

utf8_or_not : (text : List ℕ) → IsUtf8 text ⊎ ((at : ℕ) × IsValidUpTo text at)
utf8_or_not [] = inl IsUtf8-nil
utf8_or_not (byte ∷ rest) =
    elim (cases_Bool (is_utf8 text)) [
      | inl valid ↦ inl (IsUtf8-from_is_utf8 text valid)
      | inr fails ↦ inr (longest_front text (length rest) (omega arith) (λ m below h.
          false≢true (sym fails ∙ is_utf8-from_IsUtf8 text (subst (λ (x : List ℕ). IsUtf8 x) (take_all m text (omega (arith, below))) h))))
    ]
  where
    text : List ℕ
    text = byte ∷ rest

pub some_reading : SomeReading
some_reading old text names texts =
    elim (cases_lt most_bytes (length text)) [
      | inl long ↦ inr (code.TextTooLong, 0, (long, refl))
      | inr short ↦ elim (utf8_or_not text) [
        | inl utf8 ↦ read_all old text short utf8 names texts
        | inr invalid ↦ inr (code.NotUtf8, invalid.0, (short, invalid.1))
      ]
    ]
