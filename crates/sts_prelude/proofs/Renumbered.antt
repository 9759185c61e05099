-- The tokens of the library's text by any tables: those by its own, with other entries.
use Rattle.std.proofs.Common.{◌≡◌, ℕ, zero, suc, Bool, true, false, List, [], ◌∷◌, ◌++◌, map, refl, sym, ap, ◌∙◌, subst}
use Rattle.std.specs.Prelude.{ℤ, Option, Some, None, slice_get, slice_range, if◌then◌else◌}
use Rattle.std.specs.Str.{bytes_eq}
use Rattle.std.proofs.Common.{get_or}
use Rattle.std.proofs.lemmas.Bool.{false≢true}
use Rattle.std.proofs.lemmas.List.{map-append}
use Rattle.std.proofs.lemmas.Option.{get_or_from_slice_get, same_Some}
use Rattle.std.proofs.lemmas.Slice.Eq.{bytes_eq-Decides}
use Rattle.sts_base.specs.Distinct.{IsDistinct}
use Rattle.sts_base.specs.declared.tables.Tables.{Tables}
use Rattle.sts_lexer.specs.Spaces.{start_of}
use Rattle.sts_lexer.specs.Lexemes.{Lexeme, name, number, quoted, mark, Spells}
use Rattle.sts_lexer.specs.Tokens.{IsKindOf, IsNext, AreTokens, IsFinish, IsTokenization}
use Rattle.sts_lexer.specs.declared.marks.Mark.{Mark}
use Rattle.sts_lexer.specs.declared.words.Word.{Word}
use Rattle.sts_lexer.specs.declared.token.TokenKind.{TokenKind}
use Rattle.sts_lexer.specs.declared.token.TokenKind.TheVariants as k
use Rattle.sts_lexer.specs.declared.token.Token.{Token}
use Rattle.sts_lexer.proofs.Laws.{IsOver, next_lexeme, next_alike, finish_over, finish_same, stop_same, same_word}

abbrev pub renumbered : (names texts : ℕ → ℕ) → TokenKind → TokenKind
renumbered names texts (k.Num int) = k.Num int
renumbered names texts (k.Text entry) = k.Text (texts entry)
renumbered names texts (k.Name entry) = k.Name (names entry)
renumbered names texts (k.Word word entry) = k.Word word (names entry)
renumbered names texts (k.Mark which) = k.Mark which
renumbered names texts k.Finish = k.Finish

abbrev pub renumber : (names texts : ℕ → ℕ) → Token → Token
renumber names texts token = record token { kind = renumbered names texts token.kind }

-- where a string stands in a table
abbrev pub place_in : List (List ℕ) → List ℕ → ℕ
place_in [] bytes = 0
place_in (s ∷ strings) bytes = if bytes_eq s bytes then 0 else suc (place_in strings bytes)

stands_in : (strings : List (List ℕ)) (bytes : List ℕ) (entry : ℕ) → slice_get strings entry ≡ Some bytes → slice_get strings (place_in strings bytes) ≡ Some bytes
stands_in [] bytes entry h = absurd (let e : ◌≡◌ {A = Option (List ℕ)} None (Some bytes) = h in cc)
stands_in (s ∷ strings) bytes entry h = by_test (bytes_eq s bytes) refl entry h (λ e g. stands_in strings bytes e g)
  where
    by_test : (same : Bool) → bytes_eq s bytes ≡ same → (entry : ℕ) → slice_get (s ∷ strings) entry ≡ Some bytes
        → ((e : ℕ) → slice_get strings e ≡ Some bytes → slice_get strings (place_in strings bytes) ≡ Some bytes)
        → slice_get (s ∷ strings) (if same then 0 else suc (place_in strings bytes)) ≡ Some bytes
    by_test true e entry h later = ap (λ (x : List ℕ). Some x) ((bytes_eq-Decides s bytes).0 e)
    by_test false e zero h later = absurd (false≢true (sym e ∙ (bytes_eq-Decides s bytes).1 (same_Some s bytes h)))
    by_test false e (suc entry) h later = later entry h

-- the entry of a table that has the string of an entry of another one
abbrev pub moved : List (List ℕ) → List (List ℕ) → ℕ → ℕ
moved old new entry = place_in new (get_or old entry [])

moves : (old new : List (List ℕ)) (bytes : List ℕ) (e e' : ℕ) → IsDistinct new → slice_get old e ≡ Some bytes → slice_get new e' ≡ Some bytes → e' ≡ moved old new e
moves old new bytes e e' distinct here there =
    let same : get_or old e [] ≡ bytes = get_or_from_slice_get old e bytes [] here in
    distinct e' (moved old new e) bytes there (subst (λ (x : List ℕ). slice_get new (place_in new x) ≡ Some bytes) (sym same) (stands_in new bytes e' there))

-- Kinds of one lexeme by two pairs of tables.
module _ (old new : Tables) (names : IsDistinct new.names) (texts : IsDistinct new.texts) where
  abbrev pub other : TokenKind → TokenKind
  other kind = renumbered (moved old.names new.names) (moved old.texts new.texts) kind

  name_kind : (bytes : List ℕ) (e : ℕ) (kind : TokenKind) → IsKindOf old (name bytes) (k.Name e) → IsKindOf new (name bytes) kind → kind ≡ other (k.Name e)
  name_kind bytes e (k.Name e') h g = ap (λ (x : ℕ). k.Name x) (moves old.names new.names bytes e e' names h.0 g.0)
  name_kind bytes e (k.Word word e') h g = absurd (h.1 word g.1)
  name_kind bytes e otherwise h g = absurd g

  word_kind : (bytes : List ℕ) (word : Word) (e : ℕ) (kind : TokenKind) → IsKindOf old (name bytes) (k.Word word e) → IsKindOf new (name bytes) kind → kind ≡ other (k.Word word e)
  word_kind bytes word e (k.Name e') h g = absurd (g.1 word h.1)
  word_kind bytes word e (k.Word word' e') h g =
      ap (λ (x : Word). k.Word x e') (same_word word' word (sym g.1 ∙ h.1)) ∙ ap (λ (x : ℕ). k.Word word x) (moves old.names new.names bytes e e' names h.0 g.0)
  word_kind bytes word e otherwise h g = absurd g

  number_kind : (value : ℕ) (int : ℤ) (kind : TokenKind) → IsKindOf old (number value) (k.Num int) → IsKindOf new (number value) kind → kind ≡ k.Num int
  number_kind value int (k.Num int') h g = ap (λ (x : ℤ). k.Num x) (g ∙ sym h)
  number_kind value int otherwise h g = absurd g

  text_kind : (bytes : List ℕ) (e : ℕ) (kind : TokenKind) → IsKindOf old (quoted bytes) (k.Text e) → IsKindOf new (quoted bytes) kind → kind ≡ other (k.Text e)
  text_kind bytes e (k.Text e') h g = ap (λ (x : ℕ). k.Text x) (moves old.texts new.texts bytes e e' texts h g)
  text_kind bytes e otherwise h g = absurd g

  mark_kind : (this which : Mark) (kind : TokenKind) → IsKindOf old (mark this) (k.Mark which) → IsKindOf new (mark this) kind → kind ≡ k.Mark which
  mark_kind this which (k.Mark which') h g = ap (λ (x : Mark). k.Mark x) (g ∙ sym h)
  mark_kind this which otherwise h g = absurd g

  other_kind : (lexeme : Lexeme) (kind kind' : TokenKind) → IsKindOf old lexeme kind → IsKindOf new lexeme kind' → kind' ≡ other kind
  other_kind (name bytes) (k.Name e) kind' h g = name_kind bytes e kind' h g
  other_kind (name bytes) (k.Word word e) kind' h g = word_kind bytes word e kind' h g
  other_kind (name bytes) otherwise kind' h g = absurd h
  other_kind (number value) (k.Num int) kind' h g = number_kind value int kind' h g
  other_kind (number value) otherwise kind' h g = absurd h
  other_kind (quoted bytes) (k.Text e) kind' h g = text_kind bytes e kind' h g
  other_kind (quoted bytes) otherwise kind' h g = absurd h
  other_kind (mark this) (k.Mark which) kind' h g = mark_kind this which kind' h g
  other_kind (mark this) otherwise kind' h g = absurd h

  abbrev pub other_token : Token → Token
  other_token token = renumber (moved old.names new.names) (moved old.texts new.texts) token

  all_other : (text : List ℕ) (i j j' : ℕ) (all all' : List Token) → AreTokens old text i all j → AreTokens new text i all' j' → IsOver text j → IsOver text j'
      → all' ≡ map other_token all
  all_other text i j j' [] [] h g over over' = refl
  all_other text i j j' [] (u ∷ rest') h g over over' = absurd (over new u (subst (λ (x : ℕ). IsNext new text x u) h g.0))
  all_other text i j j' (t ∷ rest) [] h g over over' = absurd (over' old t (subst (λ (x : ℕ). IsNext old text x t) g h.0))
  all_other text i j j' (t ∷ rest) (u ∷ rest') h g over over' =
      let kind : u.kind ≡ other t.kind = other_kind h.0.reads.lexeme t.kind u.kind h.0.reads.is (next_lexeme old new text i t u h.0 g.0) in
      let same : u ≡ other_token t = sym (next_alike old new text i t u h.0 g.0) ∙ ap (λ (x : TokenKind). record t { kind = x }) kind in
      let on : AreTokens new text t.span.upto rest' j' = subst (λ (x : Token). AreTokens new text x.span.upto rest' j') same g.1 in
      ap (λ (x : Token). x ∷ rest') same ∙ ap (λ (x : List Token). other_token t ∷ x) (all_other text t.span.upto j j' rest rest' h.1 on over over')

  end_other : (token : Token) → token.kind ≡ k.Finish → token ≡ other_token token
  end_other token e = ap (λ (x : TokenKind). record token { kind = x }) e ∙ sym (ap (λ (x : TokenKind). record token { kind = other x }) e)

  pub tokens_other : (text : List ℕ) (all all' : List Token) → IsTokenization old text all → IsTokenization new text all' → all' ≡ map other_token all
  tokens_other text all all' h g =
      let over = finish_over text h.stop h.finish h.ends in
      let over' = finish_over text g.stop g.finish g.ends in
      let same : h.stop ≡ g.stop = stop_same old new text (start_of text) h.stop g.stop h.front g.front h.read g.read over over' in
      let last : g.finish ≡ h.finish = finish_same text g.stop g.finish h.finish g.ends (subst (λ (x : ℕ). IsFinish text x h.finish) same h.ends) in
      let fronts : g.front ≡ map other_token h.front = all_other text (start_of text) h.stop g.stop h.front g.front h.read g.read over over' in
      let whole : map other_token all ≡ map other_token h.front ++ other_token h.finish ∷ [] =
      ap (λ (x : List Token). map other_token x) h.all_is ∙ map-append other_token h.front (h.finish ∷ []) in
      g.all_is ∙ (ap (λ (x : List Token). x ++ g.finish ∷ []) fronts
      ∙ (ap (λ (x : Token). map other_token h.front ++ x ∷ []) (last ∙ end_other h.finish h.ends.kind) ∙ sym whole))

-- the string of a token that is a name
pub named : (tables : Tables) (text : List ℕ) (i entry : ℕ) (token : Token) → IsNext tables text i token → token.kind ≡ k.Name entry
    → slice_get tables.names entry ≡ Some (slice_range text token.span.from token.span.upto)
named tables text i entry token h e =
    by_lexeme h.reads.lexeme h.reads.spelled (subst (λ (x : TokenKind). IsKindOf tables h.reads.lexeme x) e h.reads.is)
  where
    by_lexeme : (lexeme : Lexeme) → Spells text lexeme token.span.from token.span.upto → IsKindOf tables lexeme (k.Name entry)
        → slice_get tables.names entry ≡ Some (slice_range text token.span.from token.span.upto)
    by_lexeme (name bytes) s is = is.0 ∙ ap (λ (x : List ℕ). Some x) s.1
    by_lexeme (number value) s is = absurd is
    by_lexeme (quoted bytes) s is = absurd is
    by_lexeme (mark this) s is = absurd is

pub next_at : (tables : Tables) (text : List ℕ) (i j n : ℕ) (all : List Token) (token : Token) → AreTokens tables text i all j → slice_get all n ≡ Some token
    → (at : ℕ) × IsNext tables text at token
next_at tables text i j n [] token h here = absurd (let e : ◌≡◌ {A = Option Token} None (Some token) = here in cc)
next_at tables text i j zero (t ∷ rest) token h here = (i, subst (λ (x : Token). IsNext tables text i x) (same_Some t token here) h.0)
next_at tables text i j (suc n) (t ∷ rest) token h here = next_at tables text t.span.upto j n rest token h.1 here
