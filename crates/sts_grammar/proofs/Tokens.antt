-- Tests of one token, and what a chain of readers tells.
use Rattle.std.proofs.Common.{◌≡◌, ◌≢◌, ℕ, List, refl, sym, ap, ◌∙◌, subst, inl, inr}
use Rattle.std.specs.Prelude.{Bool, true, false, not, ◌&&◌, Option, Some, None, IsTrue, slice_get}
use Rattle.std.proofs.lemmas.Bool.{false≢true, false_from_ne_true}
use Rattle.std.proofs.lemmas.Slice.Eq.{bytes_eq-Decides}
use lib.Chars.{codes}
use Rattle.sts_lexer.specs.declared.marks.Mark.{Mark}
use Rattle.sts_lexer.specs.declared.marks.Mark.TheVariants as m
use Rattle.sts_lexer.specs.declared.words.Word.{Word}
use Rattle.sts_lexer.specs.declared.words.Word.TheVariants as w
use denote.Enum.Bare.{same_true, same_false}
use Rattle.sts_lexer.specs.contracts.marks.Mark.{the_type as mark_type}
use Rattle.sts_lexer.specs.contracts.words.Word.{the_type as word_type}
use Rattle.sts_lexer.specs.declared.token.TokenKind.{TokenKind}
use Rattle.sts_lexer.specs.declared.token.TokenKind.TheVariants as k
use Rattle.sts_grammar.specs.Source.{Source, kind, IsWord, IsMemberName, IsSpelled, is_mark, is_word}
use Rattle.sts_grammar.specs.Operands.{IsLet}
use Rattle.sts_grammar.specs.Found.{◌>>=◌, when, name_of, member_name_of, let_of, closes, has_bytes, is_of}

-- 1. Chains.

pub bind_ok : {A B : Type 0} (r : Option A) (f : A → Option B) (y : B) → (r >>= f) ≡ Some y → (x : A) × (r ≡ Some x) × (f x ≡ Some y)
bind_ok None f y h = absurd (let e : ◌≡◌ {A = Option _} None (Some y) = h in cc)
bind_ok (Some x) f y h = (x, refl, h)

pub when_ok : {A : Type 0} (b : Bool) (r : Option A) (y : A) → when b r ≡ Some y → (b ≡ true) × (r ≡ Some y)
when_ok true r y h = (refl, h)
when_ok false r y h = absurd (let e : ◌≡◌ {A = Option _} None (Some y) = h in cc)

pub some_is : {A : Type 0} (a b : A) → ◌≡◌ {A = Option A} (Some a) (Some b) → a ≡ b
some_is a b h = cc

pub both_are : {A : Type 0} (a : A) (i : ℕ) (b : A) (j : ℕ) → ◌≡◌ {A = Option (A × ℕ)} (Some (a, i)) (Some (b, j)) → (a ≡ b) × (i ≡ j)
both_are {A = A} a i b j h = let e = some_is (a, i) (b, j) h in (ap (λ (z : A × ℕ). z.0) e, ap (λ (z : A × ℕ). z.1) e)

-- what holds of what is found
pub moved : {A : Type 0} (P : A → Type 0) (x y : A) → ◌≡◌ {A = Option A} (Some x) (Some y) → P x → P y
moved P x y h p = subst P (some_is x y h) p

pub never : {A : Type 0} (a : A) {P : Type 0} → ◌≡◌ {A = Option A} None (Some a) → P
never a h = absurd (cc)

pub both_true : (a b : Bool) → (a && b) ≡ true → (a ≡ true) × (b ≡ true)
both_true true b h = (refl, h)
both_true false b h = absurd (false≢true h)

pub not_true : (b : Bool) → not b ≡ true → b ≡ false
not_true true h = absurd (false≢true h)
not_true false h = refl

pub true_false : {P : Type 0} → true ≡ false → P
true_false h = absurd (false≢true (sym h))

pub is_true : (b : Bool) → IsTrue b → b ≡ true
is_true true h = refl
is_true false h = absurd (false≢true h)

pub and_no : (x : Bool) → (x && false) ≡ false
and_no true = refl
and_no false = refl

-- 2. Marks.

pub mark_is : (mark : Mark) (t : TokenKind) → is_mark mark t ≡ true → t ≡ k.Mark mark
mark_is mark (k.Mark other) h = ap k.Mark (same_true mark_type tt other mark h)
mark_is mark _ h = absurd (false≢true h)

pub mark_isnt : (mark : Mark) (t : TokenKind) → is_mark mark t ≡ false → t ≢ k.Mark mark
mark_isnt mark t h e = same_false mark_type mark mark (sym (ap (is_mark mark) e) ∙ h) refl

-- the mark that closes a list
abbrev pub closing : Bool → Mark
closing true = m.CloseBracket
closing false = m.CloseParenthesis

pub closes_is : (square : Bool) (t : TokenKind) → closes square t ≡ true → t ≡ k.Mark (closing square)
closes_is true t h = mark_is m.CloseBracket t h
closes_is false t h = mark_is m.CloseParenthesis t h

-- 3. Words and names.

pub word_is : (s : Source) (i : ℕ) (word : Word) (t : TokenKind) → kind s i ≡ t → is_word word t ≡ true → IsWord s i word
word_is s i word (k.Word other name) q h = (name, q ∙ ap (λ z. k.Word z name) (same_true word_type tt other word h))
word_is s i word _ q h = absurd (false≢true h)

pub word_isnt : (s : Source) (i : ℕ) (word : Word) → is_word word (kind s i) ≡ false → ¬ (IsWord s i word)
word_isnt s i word h e = same_false word_type word word (sym (ap (is_word word) e.1) ∙ h) refl

pub name_is : (t : TokenKind) (x : ℕ) → name_of t ≡ Some x → t ≡ k.Name x
name_is (k.Name y) x h = ap k.Name (some_is y x h)
name_is _ x h = never x h

pub member_name_is : (s : Source) (i : ℕ) (t : TokenKind) (x : ℕ) → kind s i ≡ t → member_name_of t ≡ Some x → IsMemberName s i x
member_name_is s i (k.Name y) x q h = inl (q ∙ ap k.Name (some_is y x h))
member_name_is s i (k.Word word y) x q h = inr (word, q ∙ ap (k.Word word) (some_is y x h))
member_name_is s i _ x q h = never x h

pub let_is : (s : Source) (i : ℕ) (t : TokenKind) (fixed : Bool) → kind s i ≡ t → let_of t ≡ Some fixed → IsLet s fixed i
let_is s i (k.Word w.Let name) fixed q h = moved (λ (b : Bool). IsLet s b i) false fixed h (name, q)
let_is s i (k.Word w.Const name) fixed q h = moved (λ (b : Bool). IsLet s b i) true fixed h (name, q)
let_is s i _ fixed q h = never fixed h

pub has_bytes_is : (entry : Option (List ℕ)) (bytes : List ℕ) → has_bytes entry bytes ≡ true → entry ≡ Some bytes
has_bytes_is None bytes h = absurd (false≢true h)
has_bytes_is (Some entry) bytes h = let e : entry ≡ bytes = (bytes_eq-Decides entry bytes).0 h in cc

pub has_bytes_isnt : (entry : Option (List ℕ)) (bytes : List ℕ) → has_bytes entry bytes ≡ false → entry ≢ Some bytes
has_bytes_isnt None bytes h e = cc
has_bytes_isnt (Some entry) bytes h e = false≢true (sym h ∙ (bytes_eq-Decides entry bytes).1 (some_is entry bytes e))

pub is_of_is : (s : Source) (i : ℕ) (t : TokenKind) → kind s i ≡ t → is_of s t ≡ true → IsSpelled s i (codes "of")
is_of_is s i (k.Name name) q h = (name, q, has_bytes_is (slice_get s.names name) (codes "of") h)
is_of_is s i _ q h = absurd (false≢true h)

pub has_bytes_yes : (entry : Option (List ℕ)) (bytes : List ℕ) → entry ≡ Some bytes → has_bytes entry bytes ≡ true
has_bytes_yes None bytes h = never bytes h
has_bytes_yes (Some x) bytes h = (bytes_eq-Decides x bytes).1 (some_is x bytes h)

pub has_bytes_no : (entry : Option (List ℕ)) (bytes : List ℕ) → entry ≢ Some bytes → has_bytes entry bytes ≡ false
has_bytes_no entry bytes h = false_from_ne_true (has_bytes entry bytes) (λ e. h (has_bytes_is entry bytes e))
