-- The library leaves these tables where nothing stood before it, and its tree is the one that was computed.
use Rattle.std.proofs.Common.{◌≡◌, ◌+◌, ℕ, zero, suc, Bool, true, false, List, [], ◌∷◌, Option, Some, None, refl, sym, ap, ◌∙◌, subst, inl, inr}
use Rattle.std.specs.Prelude.{◌&&◌, ◌==◌, not, slice_get, nat_lt, if◌then◌else◌}
use Rattle.std.specs.Str.{bytes_eq}
use Rattle.std.proofs.Common.{ltb-true}
use Rattle.std.proofs.lemmas.Bool.{and_parts, not-true, false≢true, eqb-true}
use Rattle.std.proofs.lemmas.Option.{same_Some}
use Rattle.std.proofs.lemmas.Slice.Eq.{bytes_eq-Decides}
use Rattle.sts_base.specs.Distinct.{IsDistinct}
use Rattle.sts_base.specs.declared.tables.Tables.{Tables}
use Rattle.sts_lexer.specs.Laws.{IsRead}
use Rattle.sts_lexer.specs.Uses.{TakesUp, TakeUp, name_entry, text_entry}
use Rattle.sts_lexer.specs.declared.token.TokenKind.{TokenKind}
use Rattle.sts_lexer.specs.declared.token.Token.{Token}
use Rattle.sts_lexer.proofs.Laws.{one_numbering}
use Rattle.sts_syntax.specs.Programs.{Program}
use Rattle.sts_grammar.specs.Texts.{source, no_entries}
use Rattle.sts_grammar.specs.Units.{AreParts}
use Rattle.sts_grammar.specs.Laws.{OneProgram}
use Rattle.sts_prelude.specs.Library as l
use Rattle.sts_prelude.specs.Spelled.{IsLibraryTree}
use Rattle.sts_prelude.specs.declared.text.TheConstants.{LIBRARY}
use Rattle.sts_prelude.proofs.Laws.{own, own_tokens, own_tokenized, library_spelled}

-- a test of a table for strings that stand twice
abbrev absent : List ℕ → List (List ℕ) → Bool
absent s [] = true
absent s (x ∷ xs) = not (bytes_eq s x) && absent s xs

abbrev distinct : List (List ℕ) → Bool
distinct [] = true
distinct (x ∷ xs) = absent x xs && distinct xs

not_there : (s : List ℕ) (xs : List (List ℕ)) (i : ℕ) → absent s xs ≡ true → slice_get xs i ≡ Some s → ⊥
not_there s [] i h here = let e : ◌≡◌ {A = Option (List ℕ)} None (Some s) = here in cc
not_there s (x ∷ xs) zero h here =
    false≢true (sym (not-true (bytes_eq s x) (and_parts _ _ h).0) ∙ (bytes_eq-Decides s x).1 (sym (same_Some x s here)))
not_there s (x ∷ xs) (suc i) h here = not_there s xs i (and_parts _ _ h).1 here

tested : (xs : List (List ℕ)) → distinct xs ≡ true → IsDistinct xs
tested [] h i j s here there = absurd (let e : ◌≡◌ {A = Option (List ℕ)} None (Some s) = here in cc)
tested (x ∷ xs) h zero zero s here there = refl
tested (x ∷ xs) h zero (suc j) s here there =
    absurd (not_there s xs j (subst (λ (y : List ℕ). absent y xs ≡ true) (same_Some x s here) (and_parts _ _ h).0) there)
tested (x ∷ xs) h (suc i) zero s here there =
    absurd (not_there s xs i (subst (λ (y : List ℕ). absent y xs ≡ true) (same_Some x s there) (and_parts _ _ h).0) here)
tested (x ∷ xs) h (suc i) (suc j) s here there = ap (λ (n : ℕ). suc n) (tested xs (and_parts _ _ h).1 i j s here there)

-- a test of tokens for the order in which they take up strings
abbrev next_of : Option ℕ → ℕ → Option ℕ
next_of None n = Some n
next_of (Some e) n = if nat_lt e n then Some n else (if e == n then Some (n + 1) else None)

abbrev taken_to : (TokenKind → Option ℕ) → List Token → ℕ → Option ℕ
taken_to entry_of [] n = Some n
taken_to entry_of (t ∷ rest) n = elim (next_of (entry_of t.kind) n) [ None ↦ None | Some m ↦ taken_to entry_of rest m ]

takes_up : (o : Option ℕ) (n m : ℕ) → next_of o n ≡ Some m → TakesUp o n m
takes_up None n m h = sym (same_Some n m h)
takes_up (Some e) n m h = older (nat_lt e n) refl h
  where
    same : (b : Bool) → (e == n) ≡ b → (if b then Some (n + 1) else None) ≡ Some m → TakesUp (Some e) n m
    same true q g = inr (eqb-true e n q, sym (same_Some (n + 1) m g))
    same false q g = absurd (let z : ◌≡◌ {A = Option ℕ} None (Some m) = g in cc)

    older : (b : Bool) → nat_lt e n ≡ b → (if b then Some n else (if e == n then Some (n + 1) else None)) ≡ Some m → TakesUp (Some e) n m
    older true q g = inl (ltb-true e n q, sym (same_Some n m g))
    older false q g = same (e == n) refl g

take_up : (entry_of : TokenKind → Option ℕ) (all : List Token) (n m : ℕ) → taken_to entry_of all n ≡ Some m → TakeUp entry_of all n m
take_up entry_of [] n m h = sym (same_Some n m h)
take_up entry_of (t ∷ rest) n m h = one (next_of (entry_of t.kind) n) refl h (λ k g. take_up entry_of rest k m g)
  where
    one : (o : Option ℕ) → next_of (entry_of t.kind) n ≡ o → elim o [ None ↦ None | Some k ↦ taken_to entry_of rest k ] ≡ Some m
        → ((k : ℕ) → taken_to entry_of rest k ≡ Some m → TakeUp entry_of rest k m) → TakeUp entry_of (t ∷ rest) n m
    one None q g later = absurd (let z : ◌≡◌ {A = Option ℕ} None (Some m) = g in cc)
    one (Some k) q g later = (k, takes_up (entry_of t.kind) n k q, later k g)

pub own_names : IsDistinct own.names
own_names = tested own.names refl

pub own_texts : IsDistinct own.texts
own_texts = tested own.texts refl

own_read : IsRead no_entries LIBRARY.now own own_tokens
own_read = record {
  tokens = own_tokenized;
  names = own_names;
  texts = own_texts;
  more_names = (own.names, refl);
  more_texts = (own.texts, refl);
  in_order = record { names = take_up name_entry own_tokens 0 28 refl; texts = take_up text_entry own_tokens 0 1 refl };
}

pub library_read : IsLibraryTree no_entries own (l.library own_tokens)
library_read = record { tokens = own_tokens; read = own_tokenized; in_order = own_read.in_order; spelled = library_spelled own own_tokens own_names own_texts own_tokenized }

pub library_first : (one : OneProgram) (new : Tables) (program : Program) → IsDistinct new.names → IsDistinct new.texts → IsLibraryTree no_entries new program
    → (new ≡ own) × (program ≡ l.library own_tokens)
library_first one new program names texts h =
    let read : IsRead no_entries LIBRARY.now new h.tokens =
    record { tokens = h.read; names = names; texts = texts; more_names = (new.names, refl); more_texts = (new.texts, refl); in_order = h.in_order } in
    let same = one_numbering no_entries new own LIBRARY.now h.tokens own_tokens read own_read in
    let spelled : AreParts (source own_tokens own) program 0 =
    subst (λ (x : Tables). AreParts (source own_tokens x) program 0) same.0
    (subst (λ (x : List Token). AreParts (source x new) program 0) same.1 h.spelled.spelled) in
    (same.0, one.one (source own_tokens own) program (l.library own_tokens) spelled (library_spelled own own_tokens own_names own_texts own_tokenized).spelled)
