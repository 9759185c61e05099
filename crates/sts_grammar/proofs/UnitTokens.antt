-- What the tests of one token say where members stand.
use Rattle.std.proofs.Common.{◌≡◌, ℕ, ◌+◌, refl, sym, ap, ◌∙◌, inl, inr}
use Rattle.std.specs.Prelude.{Bool, true, false, ◌&&◌, Option, Some, None, ◌⊎◌, slice_get}
use Rattle.std.proofs.lemmas.Bool.{false≢true}
use lib.Chars.{codes}
use Rattle.sts_lexer.specs.declared.words.Word.{Word}
use Rattle.sts_lexer.specs.declared.token.TokenKind.{TokenKind}
use Rattle.sts_lexer.specs.declared.token.TokenKind.TheVariants as k
use Rattle.sts_grammar.specs.Source.{Source, kind}
use Rattle.sts_grammar.specs.Units.{is_modifier, IsModified, IsConstructor}
use Rattle.sts_grammar.specs.Found.{name_of, member_name_of}
use Rattle.sts_grammar.specs.ReadHeadings.{is_found}
use Rattle.sts_grammar.specs.ReadUnits.{is_constructor, is_finish}
use Rattle.sts_grammar.proofs.Tokens.{has_bytes_is, has_bytes_yes}

pub finish_is : (t : TokenKind) → is_finish t ≡ true → t ≡ k.Finish
finish_is k.Finish h = refl
finish_is t h = absurd (false≢true h)

abbrev pub MemberNameKind : TokenKind → ℕ → Type 0
MemberNameKind t name = (t ≡ k.Name name) ⊎ ((word : Word) × (t ≡ k.Word word name))

pub member_name_is : (t : TokenKind) (x : ℕ) → member_name_of t ≡ Some x → MemberNameKind t x
member_name_is (k.Name y) x h = inl (ap k.Name (let e : ◌≡◌ {A = Option ℕ} (Some y) (Some x) = h in cc))
member_name_is (k.Word word y) x h = inr (word, ap (k.Word word) (let e : ◌≡◌ {A = Option ℕ} (Some y) (Some x) = h in cc))
member_name_is t x h = absurd (let e : ◌≡◌ {A = Option ℕ} None (Some x) = h in cc)

constructor_at : (s : Source) (i : ℕ) (t : TokenKind) → kind s i ≡ t → is_constructor s t ≡ true → IsConstructor s i
constructor_at s i (k.Name name) q h = (name, q, has_bytes_is (slice_get s.names name) (codes "constructor") h)
constructor_at s i t q h = absurd (false≢true h)

pub constructor_is : (s : Source) (i : ℕ) → is_constructor s (kind s i) ≡ true → IsConstructor s i
constructor_is s i h = constructor_at s i (kind s i) refl h

pub is_constructor_true : (s : Source) (i : ℕ) → IsConstructor s i → is_constructor s (kind s i) ≡ true
is_constructor_true s i h = ap (is_constructor s) h.1 ∙ has_bytes_yes (slice_get s.names h.0) (codes "constructor") h.2

pub constructor_not : (s : Source) (i : ℕ) → is_constructor s (kind s i) ≡ false → ¬ (IsConstructor s i)
constructor_not s i h = λ named. false≢true (sym h ∙ is_constructor_true s i named)

pub and_true : (a b : Bool) → (a && b) ≡ true → (a ≡ true) × (b ≡ true)
and_true true b h = (refl, h)
and_true false b h = absurd (false≢true h)

found_is : {A : Type 0} (r : Option A) → is_found r ≡ true → (x : A) × (r ≡ Some x)
found_is None h = absurd (false≢true h)
found_is (Some x) h = (x, refl)

some_found : {A : Type 0} (r : Option A) (x : A) → r ≡ Some x → is_found r ≡ true
some_found None x h = absurd (cc)
some_found (Some y) x h = refl

pub member_name_of_is : (t : TokenKind) (x : ℕ) → MemberNameKind t x → member_name_of t ≡ Some x
member_name_of_is t x (inl h) = rw h refl
member_name_of_is t x (inr h) = rw h.1 refl

pub modifier_true : (s : Source) (i : ℕ) → (is_modifier (kind s i) && is_found (member_name_of (kind s (i + 1)))) ≡ true → IsModified s i
modifier_true s i h =
    let a = and_true (is_modifier (kind s i)) (is_found (member_name_of (kind s (i + 1)))) h in
    let x = found_is (member_name_of (kind s (i + 1))) a.1 in
    (a.0, (x.0, member_name_is (kind s (i + 1)) x.0 x.1))

pub modified_is : (s : Source) (i : ℕ) → IsModified s i → (is_modifier (kind s i) && is_found (member_name_of (kind s (i + 1)))) ≡ true
modified_is s i h =
    rw h.0 (some_found (member_name_of (kind s (i + 1))) h.1.0 (member_name_of_is (kind s (i + 1)) h.1.0 h.1.1))

pub modifier_false : (s : Source) (i : ℕ) → (is_modifier (kind s i) && is_found (member_name_of (kind s (i + 1)))) ≡ false → ¬ (IsModified s i)
modifier_false s i h = λ it. false≢true (sym h ∙ modified_is s i it)

pub is_constructor_false : (s : Source) (i : ℕ) → ¬ (IsConstructor s i) → is_constructor s (kind s i) ≡ false
is_constructor_false s i other = by_case (is_constructor s (kind s i)) refl
  where
    by_case : (b : Bool) → is_constructor s (kind s i) ≡ b → is_constructor s (kind s i) ≡ false
    by_case true h = absurd (other (constructor_is s i h))
    by_case false h = h

pub name_of_is : (t : TokenKind) (x : ℕ) → t ≡ k.Name x → name_of t ≡ Some x
name_of_is t x h = ap name_of h

pub modified_not : (s : Source) (i : ℕ) → ¬ (IsModified s i) → (is_modifier (kind s i) && is_found (member_name_of (kind s (i + 1)))) ≡ false
modified_not s i other = by_case (is_modifier (kind s i) && is_found (member_name_of (kind s (i + 1)))) refl
  where
    by_case : (b : Bool) → (is_modifier (kind s i) && is_found (member_name_of (kind s (i + 1)))) ≡ b → (is_modifier (kind s i) && is_found (member_name_of (kind s (i + 1)))) ≡ false
    by_case true h = absurd (other (modifier_true s i h))
    by_case false h = h
