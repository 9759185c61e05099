-- The texts of the tables that a text leaves are bytes.
use Rattle.std.proofs.Common.{◌≡◌, ◌<◌, ◌≤◌, ◌+◌, ℕ, zero, suc, Bool, true, false, cond, List, [], ◌∷◌, ◌++◌, length, get_or, Option, Some, None, refl, sym, ap, ◌∙◌, subst, inl, inr, arith, All}
use Rattle.std.specs.Prelude.{◌&&◌, ◌||◌, ◌==◌, not, slice_get, slice_index, nat_lt, if◌then◌else◌}
use Rattle.std.specs.List.{AllByRecursion}
use Rattle.std.specs.Option.{option_map}
use Rattle.std.specs.Str.{IsUtf8, encode_utf8_all}
use Rattle.std.proofs.Common.{ltb-true}
use Rattle.std.proofs.lemmas.Bool.{and_parts, cases_lt}
use Rattle.std.proofs.lemmas.List.{get_or_append_left}
use Rattle.std.proofs.lemmas.List.Elements.{recursion_from_All}
use Rattle.std.proofs.lemmas.Option.{same_Some, get_or_from_slice_get}
use Rattle.std.proofs.Math.Utf8.{scalar, scalars, scalar_cases, encode}
use Rattle.sts_base.specs.declared.tables.Tables.{Tables}
use Rattle.sts_lexer.specs.Bytes.{is_break, is_quote}
use Rattle.sts_lexer.specs.Lexemes.{Lexeme, name, number, quoted, mark, Spells, IsBody, character, escaped}
use Rattle.sts_lexer.specs.Spaces.{start_of}
use Rattle.sts_lexer.specs.Tables.{Extends}
use Rattle.sts_lexer.specs.Tokens.{IsKindOf, AreTokens, IsTokenization}
use Rattle.sts_lexer.specs.Uses.{text_entry, TakesUp, TakeUp}
use Rattle.sts_lexer.specs.declared.token.TokenKind.{TokenKind}
use Rattle.sts_lexer.specs.declared.token.TokenKind.TheVariants as k
use Rattle.sts_lexer.specs.declared.token.Token.{Token}

-- bytes
abbrev pub Bytes : List ℕ → Type 0
Bytes xs = AllByRecursion (λ b. b < 256) xs

both : (xs ys : List ℕ) → Bytes xs → Bytes ys → Bytes (xs ++ ys)
both [] ys h j = j
both (x ∷ xs) ys h j = (h.0, both xs ys h.1 j)

at_place : (xs : List ℕ) (i : ℕ) → Bytes xs → slice_index xs i < 256
at_place [] i h = omega arith
at_place (x ∷ xs) zero h = h.0
at_place (x ∷ xs) (suc i) h = at_place xs i h.1

-- one branch or the other
branch : (t : Bool) (xs ys : List ℕ) → (t ≡ true → Bytes xs) → (t ≡ false → Bytes ys) → Bytes (cond t xs ys)
branch true xs ys h j = h refl
branch false xs ys h j = j refl

most : (c : ℕ) → scalar c ≡ true → c < 1114112
most c h = elim (scalar_cases c h) [ inl low ↦ omega arith | inr high ↦ high.1 ]

encoded : (c : ℕ) → scalar c ≡ true → Bytes (encode c)
unfolding encode
encoded c h =
    let top : c < 1114112 = most c h in
    branch (nat_lt c 128) _ _ (λ t. let lt : c < 128 = ltb-true c 128 t in (omega arith, tt)) (λ f.
    branch (nat_lt c 2048) _ _ (λ t. let lt : c < 2048 = ltb-true c 2048 t in (omega arith, (omega arith, tt))) (λ g.
    branch (nat_lt c 65536) _ _ (λ t. let lt : c < 65536 = ltb-true c 65536 t in (omega arith, (omega arith, (omega arith, tt)))) (λ i.
    (omega arith, (omega arith, (omega arith, (omega arith, tt)))))))

all_encoded : (cs : List ℕ) → scalars cs ≡ true → Bytes (encode_utf8_all cs)
all_encoded [] h = tt
all_encoded (c ∷ cs) h = both (encode c) (encode_utf8_all cs) (encoded c (and_parts _ _ h).0) (all_encoded cs (and_parts _ _ h).1)

utf8_bytes : (text : List ℕ) → IsUtf8 text → Bytes text
utf8_bytes text h = subst Bytes h.1.1 (all_encoded h.0 h.1.0)

-- one character of a text stands for a byte
abbrev IsByte : Option ℕ → Type 0
IsByte None = Unit {0}
IsByte (Some b) = b < 256

abbrev IsFirstByte : Option (ℕ × ℕ) → Type 0
IsFirstByte None = Unit {0}
IsFirstByte (Some p) = p.0 < 256

either_byte : (t : Bool) (x y : Option ℕ) → IsByte x → IsByte y → IsByte (if t then x else y)
either_byte true x y h j = h
either_byte false x y h j = j

either_first : (t : Bool) (x y : Option (ℕ × ℕ)) → IsFirstByte x → IsFirstByte y → IsFirstByte (if t then x else y)
either_first true x y h j = h
either_first false x y h j = j

with_size : (o : Option ℕ) → IsByte o → IsFirstByte (option_map (λ (value : ℕ). (value, 2)) o)
with_size None h = tt
with_size (Some b) h = h

escaped_byte : (b : ℕ) → b < 256 → IsByte (escaped b)
escaped_byte b h =
    let own : Option ℕ = if (b == 92) || is_quote b then Some b else None in
    let tab : Option ℕ = if b == 116 then Some 9 else own in
    let return : Option ℕ = if b == 114 then Some 13 else tab in
    let own_byte : IsByte own = either_byte ((b == 92) || is_quote b) (Some b) None h tt in
    let tab_byte : IsByte tab = either_byte (b == 116) (Some 9) own (omega arith) own_byte in
    let return_byte : IsByte return = either_byte (b == 114) (Some 13) tab (omega arith) tab_byte in
    either_byte (b == 110) (Some 10) return (omega arith) return_byte

character_byte : (quote b next : ℕ) → b < 256 → next < 256 → IsFirstByte (character quote b next)
character_byte quote b next h j =
    let unbroken : Option (ℕ × ℕ) = if is_break b then None else Some (b, 1) in
    let plain : Option (ℕ × ℕ) = if (b == 36) && (next == 123) then None else Some (b, 1) in
    let line : Option (ℕ × ℕ) = if b == 13 then Some (10, if next == 10 then 2 else 1) else plain in
    let inner : Option (ℕ × ℕ) = if not (quote == 96) then unbroken else line in
    let behind : Option (ℕ × ℕ) = if b == quote then None else inner in
    let unbroken_byte : IsFirstByte unbroken = either_first (is_break b) None (Some (b, 1)) tt h in
    let plain_byte : IsFirstByte plain = either_first ((b == 36) && (next == 123)) None (Some (b, 1)) tt h in
    let line_byte : IsFirstByte line = either_first (b == 13) (Some (10, if next == 10 then 2 else 1)) plain (omega arith) plain_byte in
    let inner_byte : IsFirstByte inner = either_first (not (quote == 96)) unbroken line unbroken_byte line_byte in
    let behind_byte : IsFirstByte behind = either_first (b == quote) None inner tt inner_byte in
    either_first (b == 92) (option_map (λ (value : ℕ). (value, 2)) (escaped next)) behind (with_size (escaped next) (escaped_byte next j)) behind_byte

body_bytes : (text value : List ℕ) (quote i j : ℕ) → Bytes text → IsBody text quote i value j → Bytes value
body_bytes text [] quote i j h b = tt
body_bytes text (byte ∷ bytes) quote i j h b = (
  subst IsFirstByte b.1 (character_byte quote (slice_index text i) (slice_index text (i + 1)) (at_place text i h) (at_place text (i + 1) h)),
  body_bytes text bytes quote (i + b.0) j h b.2,
)

-- A token that names a text names bytes.
NamesBytes : Tables → ℕ → Type 0
NamesBytes tables e = (value : List ℕ) × (slice_get tables.texts e ≡ Some value) × Bytes value

kind_bytes : (tables : Tables) (text : List ℕ) (lexeme : Lexeme) (kind : TokenKind) (i j e : ℕ) → Bytes text → Spells text lexeme i j → IsKindOf tables lexeme kind → text_entry kind ≡ Some e → NamesBytes tables e
unfolding NamesBytes
kind_bytes tables text (quoted value) (k.Text entry) i j e b h is here =
    (value, subst (λ (x : ℕ). slice_get tables.texts x ≡ Some value) (same_Some entry e here) is, body_bytes text value (slice_index text i) (i + 1) h.close b h.body)
kind_bytes tables text (name bytes) (k.Text entry) i j e b h is here = absurd is
kind_bytes tables text (number value) (k.Text entry) i j e b h is here = absurd is
kind_bytes tables text (mark which) (k.Text entry) i j e b h is here = absurd is
kind_bytes tables text lexeme (k.Num int) i j e b h is here = absurd (let z : ◌≡◌ {A = Option ℕ} None (Some e) = here in cc)
kind_bytes tables text lexeme (k.Name entry) i j e b h is here = absurd (let z : ◌≡◌ {A = Option ℕ} None (Some e) = here in cc)
kind_bytes tables text lexeme (k.Word word entry) i j e b h is here = absurd (let z : ◌≡◌ {A = Option ℕ} None (Some e) = here in cc)
kind_bytes tables text lexeme (k.Mark which) i j e b h is here = absurd (let z : ◌≡◌ {A = Option ℕ} None (Some e) = here in cc)
kind_bytes tables text lexeme k.Finish i j e b h is here = absurd (let z : ◌≡◌ {A = Option ℕ} None (Some e) = here in cc)

token_bytes : (tables : Tables) (text : List ℕ) (finish : Token) → Bytes text → finish.kind ≡ k.Finish → (front : List Token) (at stop : ℕ) → AreTokens tables text at front stop
    → (i e : ℕ) (t : Token) → slice_get (front ++ finish ∷ []) i ≡ Some t → text_entry t.kind ≡ Some e → NamesBytes tables e
token_bytes tables text finish b f [] at stop h zero e t here names =
    absurd (let z : ◌≡◌ {A = Option ℕ} None (Some e) = ap text_entry (sym f) ∙ (ap (λ (x : Token). text_entry x.kind) (same_Some finish t here) ∙ names) in cc)
token_bytes tables text finish b f [] at stop h (suc i) e t here names = absurd (let z : ◌≡◌ {A = Option Token} None (Some t) = here in cc)
token_bytes tables text finish b f (u ∷ rest) at stop h zero e t here names =
    kind_bytes tables text h.0.reads.lexeme u.kind u.span.from u.span.upto e b h.0.reads.spelled h.0.reads.is (ap (λ (x : Token). text_entry x.kind) (same_Some u t here) ∙ names)
token_bytes tables text finish b f (u ∷ rest) at stop h (suc i) e t here names = token_bytes tables text finish b f rest u.span.upto stop h.1 i e t here names

-- An entry behind the old ones was taken up by a token.
took_one : (o : Option ℕ) (n m e : ℕ) → TakesUp o n m → n ≤ e → e < m → o ≡ Some e
took_one None n m e h from upto = absurd (omega (arith, h))
took_one (Some x) n m e (inl old) from upto = absurd (omega (arith, old.1))
took_one (Some x) n m e (inr new) from upto = let same : x ≡ e = omega (arith, new.0, new.1) in ap (λ (y : ℕ). Some y) same

TookUp : List Token → ℕ → Type 0
TookUp all e = (i : ℕ) × (t : Token) × (slice_get all i ≡ Some t) × (text_entry t.kind ≡ Some e)

took : (all : List Token) (n m e : ℕ) → TakeUp text_entry all n m → n ≤ e → e < m → TookUp all e
unfolding TookUp
took [] n m e h from upto = absurd (omega (arith, h))
took (t ∷ rest) n m e h from upto =
    elim (cases_lt e h.0) [
      | inl less ↦ (0, t, refl, took_one (text_entry t.kind) n h.0 e h.1 from less)
      | inr more ↦ let later = took rest h.0 m e h.2 more upto in (suc later.0, later.1, later.2, later.3)
    ]

pub texts_are_bytes : (text : List ℕ) (tables : Tables) (tokens : List Token) (old : List (List ℕ)) → IsTokenization tables text tokens
    → TakeUp text_entry tokens (length old) (length tables.texts) → Extends old tables.texts → All Bytes old → AllByRecursion Bytes tables.texts
unfolding NamesBytes TookUp
texts_are_bytes text tables tokens old read order more h =
    recursion_from_All Bytes tables.texts (λ e d lt.
    elim (cases_lt e (length old)) [
      | inl less ↦
          subst (λ (x : List ℕ). Bytes x) (sym (ap (λ (xs : List (List ℕ)). get_or xs e d) more.1 ∙ get_or_append_left old more.0 d e less)) (h e d less)
      | inr from ↦
          let t = took tokens (length old) (length tables.texts) e order from lt in
          let here : slice_get (read.front ++ read.finish ∷ []) t.0 ≡ Some t.1 = subst (λ (all : List Token). slice_get all t.0 ≡ Some t.1) read.all_is t.2 in
          let bytes = token_bytes tables text read.finish (utf8_bytes text read.utf8) read.ends.kind read.front (start_of text) read.stop read.read t.0 e t.1 here t.3 in
          subst (λ (x : List ℕ). Bytes x) (sym (get_or_from_slice_get tables.texts e bytes.0 d bytes.1)) bytes.2
    ])
