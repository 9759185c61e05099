-- The steps of reading: a token, the end, and a place where nothing can be read.
use Rattle.std.proofs.Common.{◌≡◌, ℕ, ◌≤◌, Bool, List, length, sym, ap, ◌∙◌, subst}
use Rattle.std.specs.Prelude.{Result, Ok, Err, MatchResult, OnOk, IfOk, is_ok, IsTrue, ◌↔◌, slice_index}
use Rattle.std.specs.Str.{IsUtf8}
use Rattle.std.proofs.lemmas.Bool.{false≢true}
use Rattle.sts_base.specs.declared.tables.Tables.{Tables}
use Rattle.sts_base.specs.declared.refused.Code.{Code}
use Rattle.sts_base.specs.declared.refused.Code.TheVariants as code
use Rattle.sts_lexer.specs.Bytes.{most_bytes, is_break, SomeByte}
use Rattle.sts_lexer.specs.Spaces.{IsGap}
use Rattle.sts_lexer.specs.Tokens.{Reads, IsNext, IsFinish}
use Rattle.sts_lexer.specs.Refusals.{Stops, IsRefusal}
use Rattle.sts_lexer.specs.declared.token.TokenKind.{TokenKind}
use Rattle.sts_lexer.specs.declared.token.TokenKind.TheVariants as kinds
use Rattle.sts_lexer.specs.declared.token.Token.{Token}
use Rattle.sts_lexer.proofs.Growing.{no_text_too_long, no_not_utf8}

-- an `Ok` that an error's conversion leaves alone
pub mapped : {T E D : Type 0} (r : Result T E) (s : Result T D) (Q : E → Type 0) (x : T) → MatchResult r (λ y. s ≡ Ok y) Q → is_ok s ≡ is_ok r → s ≡ Ok x → r ≡ Ok x
mapped {T} {E} {D} (Ok y) s Q x h same g =
    let e : ◌≡◌ {A = Result T D} (Ok y) (Ok x) = sym h ∙ g in
    let p : y ≡ x = cc in
    ap (λ (z : T). Ok z) p
mapped {T} {E} {D} (Err e) s Q x h same g = absurd (false≢true (sym same ∙ ap (λ (z : Result T D). is_ok z) g))

pub at_ok : {T E : Type 0} (r : Result T E) (P : T → Type 0) (x : T) → r ≡ Ok x → IfOk r P → P x
at_ok r P x e h = subst (λ z. IfOk z P) e h

pub on_ok : {T E : Type 0} (r : Result T E) (P : Type 0) (x : T) → r ≡ Ok x → OnOk r P → P
on_ok r P x e h = subst (λ z. OnOk z P) e h

pub finish_of : (text : List ℕ) (i from : ℕ) (token : Token) (broken : Bool) → token.kind ≡ kinds.Finish → token.span.from ≡ from → token.span.upto ≡ from
    → token.broken ≡ broken → from ≡ length text → (places : List ℕ) → IsGap text i places from → (IsTrue broken ↔ SomeByte is_break text i from)
    → IsFinish text i token
finish_of text i from token broken kind at upto same end places gap breaks = record {
  kind = kind;
  from = at ∙ end;
  upto = upto ∙ end;
  places = places;
  gap = subst (λ (x : ℕ). IsGap text i places x) end gap;
  broken = subst (λ (x : ℕ). IsTrue token.broken ↔ SomeByte is_break text i x) end (subst (λ (b : Bool). IsTrue b ↔ SomeByte is_break text i from) (sym same) breaks);
}

pub next_of : (tables : Tables) (text : List ℕ) (i from upto : ℕ) (kind : TokenKind) (token : Token) (broken : Bool) → token.kind ≡ kind → token.span.from ≡ from
    → token.span.upto ≡ upto → token.broken ≡ broken → (places : List ℕ) → IsGap text i places from → (IsTrue broken ↔ SomeByte is_break text i from)
    → Reads tables text from kind upto → IsNext tables text i token
next_of tables text i from upto kind token broken is at to same places gap breaks reads = record {
  places = places;
  gap = subst (λ (x : ℕ). IsGap text i places x) (sym at) gap;
  broken = subst (λ (x : ℕ). IsTrue token.broken ↔ SomeByte is_break text i x) (sym at) (subst (λ (b : Bool). IsTrue b ↔ SomeByte is_break text i from) (sym same) breaks);
  reads = subst (λ (x : ℕ). Reads tables text x token.kind token.span.upto) (sym at)
      (subst (λ (x : ℕ). Reads tables text from token.kind x) (sym to) (subst (λ (x : TokenKind). Reads tables text from x upto) (sym is) reads));
}

-- a stop is a refusal
pub refusal_of : (text : List ℕ) (why : Code) (at : ℕ) → length text ≤ most_bytes → IsUtf8 text → Stops text why at → IsRefusal text why at
refusal_of text code.TextTooLong at short utf8 stops = absurd (no_text_too_long (slice_index text at) stops.by)
refusal_of text code.NotUtf8 at short utf8 stops = absurd (no_not_utf8 (slice_index text at) stops.by)
refusal_of text code.BadCharacter at short utf8 stops = (short, utf8, stops)
refusal_of text code.BadNumber at short utf8 stops = (short, utf8, stops)
refusal_of text code.BadText at short utf8 stops = (short, utf8, stops)
refusal_of text code.Syntax at short utf8 stops = (short, utf8, stops)
refusal_of text code.TooDeep at short utf8 stops = (short, utf8, stops)
refusal_of text code.UnknownName at short utf8 stops = (short, utf8, stops)
refusal_of text code.TwiceNamed at short utf8 stops = (short, utf8, stops)
refusal_of text code.Captures at short utf8 stops = (short, utf8, stops)
refusal_of text code.Mismatch at short utf8 stops = (short, utf8, stops)
refusal_of text code.NeedsType at short utf8 stops = (short, utf8, stops)
refusal_of text code.BadHandler at short utf8 stops = (short, utf8, stops)
refusal_of text code.ClassCycle at short utf8 stops = (short, utf8, stops)
refusal_of text code.OverLimit at short utf8 stops = (short, utf8, stops)
