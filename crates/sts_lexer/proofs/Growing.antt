-- Tokens, while they are read and the tables grow.
use Rattle.std.proofs.Common.{◌≡◌, ◌≢◌, ℕ, ◌<◌, ◌≤◌, true, List, [], ◌∷◌, ◌++◌, length, refl, sym, ap, ◌∙◌, subst, arith, lit<, append_assoc}
use Rattle.std.specs.Prelude.{Option, Some, ◌&&◌, ◌==◌, slice_get, slice_index}
use Rattle.std.specs.Char.{is_ascii_digit}
use Rattle.std.proofs.lemmas.Bool.{cond_both, and_parts, eqb-true}
use Rattle.std.proofs.lemmas.List.{append-nil}
use Rattle.sts_base.specs.declared.tables.Tables.{Tables}
use Rattle.sts_base.specs.declared.refused.Code.{Code}
use Rattle.sts_base.specs.declared.refused.Code.TheVariants as code
use Rattle.sts_lexer.specs.Bytes.{is_quote}
use Rattle.sts_lexer.specs.Spaces.{start_of}
use Rattle.sts_lexer.specs.Lexemes.{Lexeme, name, number, quoted, mark}
use Rattle.sts_lexer.specs.Tokens.{IsKindOf, IsNext, AreTokens, IsTokenization}
use Rattle.sts_lexer.specs.Tables.{Extends}
use Rattle.sts_lexer.specs.Uses.{TakesUp, TakeUp, NumbersInOrder, NumbersOne, name_entry, text_entry}
use Rattle.sts_lexer.specs.Refusals.{cause}
use Rattle.sts_lexer.specs.declared.token.TokenKind.{TokenKind}
use Rattle.sts_lexer.specs.declared.token.TokenKind.TheVariants as kinds
use Rattle.sts_lexer.specs.declared.token.Token.{Token}
use Rattle.sts_lexer.proofs.Bodies.{inside}
use Rattle.sts_lexer.proofs.Numbering.{slice_get_left}

pub extends_same : (strings : List (List ℕ)) → Extends strings strings
extends_same strings = ([], sym (append-nil strings))

pub extends_on : (a b c : List (List ℕ)) → Extends a b → Extends b c → Extends a c
extends_on a b c h g = (h.0 ++ g.0, g.1 ∙ (ap (λ (x : List (List ℕ)). x ++ g.0) h.1 ∙ append_assoc a h.0 g.0))

entry_stays : (old new : List (List ℕ)) (entry : ℕ) (string : List ℕ) → Extends old new → slice_get old entry ≡ Some string → slice_get new entry ≡ Some string
entry_stays old new entry string grows h =
    subst (λ (x : List (List ℕ)). slice_get x entry ≡ Some string) (sym grows.1) (slice_get_left old grows.0 entry string h)

kind_stays : (old new : Tables) (lexeme : Lexeme) (kind : TokenKind) → Extends old.names new.names → Extends old.texts new.texts
    → IsKindOf old lexeme kind → IsKindOf new lexeme kind
kind_stays old new (name bytes) (kinds.Name entry) names texts h = (entry_stays old.names new.names entry bytes names h.0, h.1)
kind_stays old new (name bytes) (kinds.Word word entry) names texts h = (entry_stays old.names new.names entry bytes names h.0, h.1)
kind_stays old new (name bytes) (kinds.Num int) names texts h = h
kind_stays old new (name bytes) (kinds.Text entry) names texts h = h
kind_stays old new (name bytes) (kinds.Mark which) names texts h = h
kind_stays old new (name bytes) kinds.Finish names texts h = h
kind_stays old new (number value) (kinds.Name entry) names texts h = h
kind_stays old new (number value) (kinds.Word word entry) names texts h = h
kind_stays old new (number value) (kinds.Num int) names texts h = h
kind_stays old new (number value) (kinds.Text entry) names texts h = h
kind_stays old new (number value) (kinds.Mark which) names texts h = h
kind_stays old new (number value) kinds.Finish names texts h = h
kind_stays old new (quoted value) (kinds.Name entry) names texts h = h
kind_stays old new (quoted value) (kinds.Word word entry) names texts h = h
kind_stays old new (quoted value) (kinds.Num int) names texts h = h
kind_stays old new (quoted value) (kinds.Text entry) names texts h = entry_stays old.texts new.texts entry value texts h
kind_stays old new (quoted value) (kinds.Mark which) names texts h = h
kind_stays old new (quoted value) kinds.Finish names texts h = h
kind_stays old new (mark this) (kinds.Name entry) names texts h = h
kind_stays old new (mark this) (kinds.Word word entry) names texts h = h
kind_stays old new (mark this) (kinds.Num int) names texts h = h
kind_stays old new (mark this) (kinds.Text entry) names texts h = h
kind_stays old new (mark this) (kinds.Mark which) names texts h = h
kind_stays old new (mark this) kinds.Finish names texts h = h

next_stays : (old new : Tables) (text : List ℕ) (i : ℕ) (token : Token) → Extends old.names new.names → Extends old.texts new.texts
    → IsNext old text i token → IsNext new text i token
next_stays old new text i token names texts h = record {
  places = h.places;
  gap = h.gap;
  broken = h.broken;
  reads = record {
    lexeme = h.reads.lexeme;
    spelled = h.reads.spelled;
    longest = h.reads.longest;
    is = kind_stays old new h.reads.lexeme token.kind names texts h.reads.is;
  };
}

pub tokens_stay : (old new : Tables) (text : List ℕ) (i j : ℕ) (all : List Token) → Extends old.names new.names → Extends old.texts new.texts
    → AreTokens old text i all j → AreTokens new text i all j
tokens_stay old new text i j [] names texts h = h
tokens_stay old new text i j (token ∷ rest) names texts h =
    (next_stays old new text i token names texts h.0, tokens_stay old new text token.span.upto j rest names texts h.1)

pub tokens_more : (tables : Tables) (text : List ℕ) (i j : ℕ) (all : List Token) (token : Token) → AreTokens tables text i all j → IsNext tables text j token
    → AreTokens tables text i (all ++ token ∷ []) token.span.upto
tokens_more tables text i j [] token h next = (subst (λ x. IsNext tables text x token) (sym h) next, refl)
tokens_more tables text i j (first ∷ rest) token h next = (h.0, tokens_more tables text first.span.upto j rest token h.1 next)

pub tokenization_stays : (old new : Tables) (text : List ℕ) (all : List Token) → Extends old.names new.names → Extends old.texts new.texts
    → IsTokenization old text all → IsTokenization new text all
tokenization_stays old new text all names texts h = record {
  short = h.short;
  utf8 = h.utf8;
  front = h.front;
  stop = h.stop;
  read = tokens_stay old new text (start_of text) h.stop h.front names texts h.read;
  finish = h.finish;
  ends = h.ends;
  all_is = h.all_is;
}

pub start_within : (text : List ℕ) → start_of text ≤ length text
start_within text =
    cond_both ((slice_index text 0 == 0xEF) && ((slice_index text 1 == 0xBB) && (slice_index text 2 == 0xBF))) 3 0 (λ (x : ℕ). x ≤ length text)
    (λ marked.
    let third : (slice_index text 2 == 0xBF) ≡ true = (and_parts (slice_index text 1 == 0xBB) (slice_index text 2 == 0xBF) (and_parts (slice_index text 0 == 0xEF) ((slice_index text 1 == 0xBB) && (slice_index text 2 == 0xBF)) marked).1).1 in
    let lt : 2 < length text = inside text 2 0xBF (eqb-true (slice_index text 2) 0xBF third) (lit< tt) in omega arith)
    (λ unmarked. omega arith)

-- a place where nothing can be read has one of three codes
pub other_cause : (why : Code) (byte : ℕ) → why ≢ code.BadText → why ≢ code.BadNumber → why ≢ code.BadCharacter → why ≡ cause byte → ⊥
other_cause why byte one two three =
    cond_both (is_quote byte) code.BadText _ (λ (x : Code). why ≡ x → ⊥) (λ _. one)
    (λ _. cond_both (is_ascii_digit byte) code.BadNumber code.BadCharacter (λ (x : Code). why ≡ x → ⊥) (λ _. two) (λ _. three))

pub no_text_too_long : (byte : ℕ) → code.TextTooLong ≡ cause byte → ⊥
no_text_too_long byte = other_cause code.TextTooLong byte (λ e. cc) (λ e. cc) (λ e. cc)

pub no_not_utf8 : (byte : ℕ) → code.NotUtf8 ≡ cause byte → ⊥
no_not_utf8 byte = other_cause code.NotUtf8 byte (λ e. cc) (λ e. cc) (λ e. cc)

-- entries that tokens name
take_up_more : (entry_of : TokenKind → Option ℕ) (all : List Token) (token : Token) (before middle after : ℕ) → TakeUp entry_of all before middle
    → TakesUp (entry_of token.kind) middle after → TakeUp entry_of (all ++ token ∷ []) before after
take_up_more entry_of [] token before middle after h here = (after, subst (λ (x : ℕ). TakesUp (entry_of token.kind) x after) h here, refl)
take_up_more entry_of (first ∷ rest) token before middle after h here = (h.0, h.1, take_up_more entry_of rest token h.0 middle after h.2 here)

pub numbers_more : (old middle new : Tables) (all : List Token) (token : Token) (kind : TokenKind) (upto : ℕ) → token.kind ≡ kind → NumbersInOrder old middle all
    → NumbersOne middle new (Some (kind, upto)) → NumbersInOrder old new (all ++ token ∷ [])
numbers_more old middle new all token kind upto is before here = record {
  names = take_up_more name_entry all token (length old.names) (length middle.names) (length new.names) before.names
      (subst (λ (x : TokenKind). TakesUp (name_entry x) (length middle.names) (length new.names)) (sym is) here.names);
  texts = take_up_more text_entry all token (length old.texts) (length middle.texts) (length new.texts) before.texts
      (subst (λ (x : TokenKind). TakesUp (text_entry x) (length middle.texts) (length new.texts)) (sym is) here.texts);
}

-- the end names no entry
pub numbers_finish : (old new : Tables) (all : List Token) (token : Token) → token.kind ≡ kinds.Finish → NumbersInOrder old new all
    → NumbersInOrder old new (all ++ token ∷ [])
numbers_finish old new all token is h = numbers_more old new new all token kinds.Finish 0 is h (record { names = refl; texts = refl })
