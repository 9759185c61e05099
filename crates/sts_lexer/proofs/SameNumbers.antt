-- Tokens that are read over the same tables leave the same numbers.
use Rattle.std.proofs.Common.{◌≡◌, ℕ, suc, ◌<◌, List, [], ◌∷◌, ◌++◌, length, refl, sym, ap, ◌∙◌, subst, inl, inr, arith}
use Rattle.std.specs.Prelude.{ℤ, Option, Some, None, slice_get}
use Rattle.std.proofs.lemmas.Bool.{cases_lt}
use Rattle.std.proofs.lemmas.Option.{same_Some, slice_get_cases}
use Rattle.sts_base.specs.Distinct.{IsDistinct}
use Rattle.sts_base.specs.declared.tables.Tables.{Tables}
use Rattle.sts_lexer.specs.Spaces.{start_of}
use Rattle.sts_lexer.specs.Lexemes.{Lexeme, name, number, quoted, mark}
use Rattle.sts_lexer.specs.Tokens.{IsKindOf, IsNext, AreTokens, IsFinish}
use Rattle.sts_lexer.specs.Tables.{Extends}
use Rattle.sts_lexer.specs.Uses.{TakesUp, TakeUp, name_entry, text_entry}
use Rattle.sts_lexer.specs.Laws.{IsRead}
use Rattle.sts_lexer.specs.declared.marks.Mark.{Mark}
use Rattle.sts_lexer.specs.declared.words.Word.{Word}
use Rattle.sts_lexer.specs.declared.token.TokenKind.{TokenKind}
use Rattle.sts_lexer.specs.declared.token.TokenKind.TheVariants as kinds
use Rattle.sts_lexer.specs.declared.token.Token.{Token}
use Rattle.sts_lexer.proofs.WordTable.{same_word}
use Rattle.sts_lexer.proofs.Numbering.{slice_get_left}
use Rattle.sts_lexer.proofs.Unique.{IsOver, same_token, next_lexeme, finish_over, finish_same, stop_same}

-- two tables agree on their first entries
abbrev pub SameBelow : ℕ → List (List ℕ) → List (List ℕ) → Type 0
SameBelow n xs ys = (k : ℕ) → k < n → slice_get xs k ≡ slice_get ys k

-- A string takes up the same entry in tables of distinct strings that agree so far, and they agree behind it.
entry_same : (xs ys : List (List ℕ)) (bytes : List ℕ) (e e' n m m' : ℕ) → IsDistinct xs → IsDistinct ys → SameBelow n xs ys
    → slice_get xs e ≡ Some bytes → slice_get ys e' ≡ Some bytes → TakesUp (Some e) n m → TakesUp (Some e') n m' → (e ≡ e') × (m ≡ m') × SameBelow m xs ys
entry_same xs ys bytes e e' n m m' distinct distinct' below here there (inl old) (inl old') =
    (distinct' e e' bytes (sym (below e old.0) ∙ here) there, old.1 ∙ sym old'.1, λ k lt. below k (omega (arith, old.1)))
entry_same xs ys bytes e e' n m m' distinct distinct' below here there (inl old) (inr new') =
    let same : e ≡ e' = distinct' e e' bytes (sym (below e old.0) ∙ here) there in absurd (omega (arith, old.0, new'.0))
entry_same xs ys bytes e e' n m m' distinct distinct' below here there (inr new) (inl old') =
    let same : e ≡ e' = distinct e e' bytes here (below e' old'.0 ∙ there) in absurd (omega (arith, old'.0, new.0))
entry_same xs ys bytes e e' n m m' distinct distinct' below here there (inr new) (inr new') = (
  new.0 ∙ sym new'.0,
  new.1 ∙ sym new'.1,
  λ k lt. elim (cases_lt k n) [
    | inl less ↦ below k less
    | inr most ↦
        let last : k ≡ n = omega (arith, new.1) in
        let one : slice_get xs n ≡ Some bytes = subst (λ (i : ℕ). slice_get xs i ≡ Some bytes) new.0 here in
        let two : slice_get ys n ≡ Some bytes = subst (λ (i : ℕ). slice_get ys i ≡ Some bytes) new'.0 there in
        subst (λ (i : ℕ). slice_get xs i ≡ slice_get ys i) (sym last) (one ∙ sym two)
  ],
)

none_same : (xs ys : List (List ℕ)) (n m m' : ℕ) → SameBelow n xs ys → TakesUp None n m → TakesUp None n m' → (m ≡ m') × SameBelow m xs ys
none_same xs ys n m m' below h h' = (h ∙ sym h', λ k lt. below k (omega (arith, h)))

-- tables of distinct strings that agree so far
record Agree (t t' : Tables) (n x : ℕ) : Type 0 where
  names : IsDistinct t.names
  names' : IsDistinct t'.names
  texts : IsDistinct t.texts
  texts' : IsDistinct t'.texts
  below_names : SameBelow n t.names t'.names
  below_texts : SameBelow x t.texts t'.texts

-- the same token has been taken up by both
record TookSame (t t' : Tables) (kind kind' : TokenKind) (m m' y y' : ℕ) : Type 0 where
  kinds_same : kind ≡ kind'
  names_same : m ≡ m'
  texts_same : y ≡ y'
  agree : Agree t t' m y

-- what tokens for one lexeme take up
abbrev Takes : Tables → Tables → Lexeme → TokenKind → TokenKind → Type 0
Takes t t' lexeme kind kind' =
    (n m m' x y y' : ℕ) → Agree t t' n x → IsKindOf t lexeme kind → IsKindOf t' lexeme kind' → TakesUp (name_entry kind) n m → TakesUp (name_entry kind') n m'
    → TakesUp (text_entry kind) x y → TakesUp (text_entry kind') x y' → TookSame t t' kind kind' m m' y y'

agreed : (t t' : Tables) (n m x y : ℕ) → Agree t t' n x → SameBelow m t.names t'.names → SameBelow y t.texts t'.texts → Agree t t' m y
agreed t t' n m x y a names texts =
    record { names = a.names; names' = a.names'; texts = a.texts; texts' = a.texts'; below_names = names; below_texts = texts }

plain : (t t' : Tables) (n m m' x y y' : ℕ) (kind kind' : TokenKind) → Agree t t' n x → kind ≡ kind' → TakesUp None n m → TakesUp None n m' → TakesUp None x y
    → TakesUp None x y' → TookSame t t' kind kind' m m' y y'
plain t t' n m m' x y y' kind kind' a same h h' g g' =
    let names = none_same t.names t'.names n m m' a.below_names h h' in
    let texts = none_same t.texts t'.texts x y y' a.below_texts g g' in
    record { kinds_same = same; names_same = names.0; texts_same = texts.0; agree = agreed t t' n m x y a names.1 texts.1 }

named : (t t' : Tables) (bytes : List ℕ) (e e' n m m' x y y' : ℕ) (kind : ℕ → TokenKind) (kind' : TokenKind) → Agree t t' n x → kind e' ≡ kind'
    → slice_get t.names e ≡ Some bytes → slice_get t'.names e' ≡ Some bytes → TakesUp (Some e) n m → TakesUp (Some e') n m' → TakesUp None x y
    → TakesUp None x y' → TookSame t t' (kind e) kind' m m' y y'
named t t' bytes e e' n m m' x y y' kind kind' a same here there h h' g g' =
    let names = entry_same t.names t'.names bytes e e' n m m' a.names a.names' a.below_names here there h h' in
    let texts = none_same t.texts t'.texts x y y' a.below_texts g g' in
    record { kinds_same = ap (λ (i : ℕ). kind i) names.0 ∙ same; names_same = names.1; texts_same = texts.0; agree = agreed t t' n m x y a names.2 texts.1 }

name_taken : (t t' : Tables) (bytes : List ℕ) (e : ℕ) (kind' : TokenKind) → Takes t t' (name bytes) (kinds.Name e) kind'
name_taken t t' bytes e (kinds.Name e') n m m' x y y' a k k' h h' g g' = named t t' bytes e e' n m m' x y y' (λ i. kinds.Name i) (kinds.Name e') a refl k.0 k'.0 h h' g g'
name_taken t t' bytes e (kinds.Word word e') n m m' x y y' a k k' h h' g g' = absurd (k.1 word k'.1)
name_taken t t' bytes e other n m m' x y y' a k k' h h' g g' = absurd k'

word_taken : (t t' : Tables) (bytes : List ℕ) (word : Word) (e : ℕ) (kind' : TokenKind) → Takes t t' (name bytes) (kinds.Word word e) kind'
word_taken t t' bytes word e (kinds.Name e') n m m' x y y' a k k' h h' g g' = absurd (k'.1 word k.1)
word_taken t t' bytes word e (kinds.Word word' e') n m m' x y y' a k k' h h' g g' =
    named t t' bytes e e' n m m' x y y' (λ i. kinds.Word word i) (kinds.Word word' e') a
    (ap (λ (w : Word). kinds.Word w e') (same_word word word' (sym k.1 ∙ k'.1))) k.0 k'.0 h h' g g'
word_taken t t' bytes word e other n m m' x y y' a k k' h h' g g' = absurd k'

number_taken : (t t' : Tables) (value : ℕ) (int : ℤ) (kind' : TokenKind) → Takes t t' (number value) (kinds.Num int) kind'
number_taken t t' value int (kinds.Num int') n m m' x y y' a k k' h h' g g' =
    plain t t' n m m' x y y' (kinds.Num int) (kinds.Num int') a (ap (λ (i : ℤ). kinds.Num i) (k ∙ sym k')) h h' g g'
number_taken t t' value int other n m m' x y y' a k k' h h' g g' = absurd k'

mark_taken : (t t' : Tables) (this which : Mark) (kind' : TokenKind) → Takes t t' (mark this) (kinds.Mark which) kind'
mark_taken t t' this which (kinds.Mark which') n m m' x y y' a k k' h h' g g' =
    plain t t' n m m' x y y' (kinds.Mark which) (kinds.Mark which') a (ap (λ (i : Mark). kinds.Mark i) (k ∙ sym k')) h h' g g'
mark_taken t t' this which other n m m' x y y' a k k' h h' g g' = absurd k'

text_taken : (t t' : Tables) (value : List ℕ) (e : ℕ) (kind' : TokenKind) → Takes t t' (quoted value) (kinds.Text e) kind'
text_taken t t' value e (kinds.Text e') n m m' x y y' a k k' h h' g g' =
    let texts = entry_same t.texts t'.texts value e e' x y y' a.texts a.texts' a.below_texts k k' g g' in
    let names = none_same t.names t'.names n m m' a.below_names h h' in
    record { kinds_same = ap (λ (i : ℕ). kinds.Text i) texts.0; names_same = names.0; texts_same = texts.1; agree = agreed t t' n m x y a names.1 texts.2 }
text_taken t t' value e other n m m' x y y' a k k' h h' g g' = absurd k'

taken : (t t' : Tables) (lexeme : Lexeme) (kind kind' : TokenKind) → Takes t t' lexeme kind kind'
taken t t' (name bytes) (kinds.Name e) kind' = name_taken t t' bytes e kind'
taken t t' (name bytes) (kinds.Word word e) kind' = word_taken t t' bytes word e kind'
taken t t' (name bytes) other kind' = λ n m m' x y y' a k k' h h' g g'. absurd k
taken t t' (number value) (kinds.Num int) kind' = number_taken t t' value int kind'
taken t t' (number value) other kind' = λ n m m' x y y' a k k' h h' g g'. absurd k
taken t t' (quoted value) (kinds.Text e) kind' = text_taken t t' value e kind'
taken t t' (quoted value) other kind' = λ n m m' x y y' a k k' h h' g g'. absurd k
taken t t' (mark this) (kinds.Mark which) kind' = mark_taken t t' this which kind'
taken t t' (mark this) other kind' = λ n m m' x y y' a k k' h h' g g'. absurd k

-- what tokens that are all have taken up
record TookAll (t t' : Tables) (all all' : List Token) (m m' y y' : ℕ) : Type 0 where
  all_same : all ≡ all'
  names_same : m ≡ m'
  texts_same : y ≡ y'
  agree : Agree t t' m y

all_taken : (t t' : Tables) (text : List ℕ) (i j j' n m m' x y y' : ℕ) (all all' : List Token) → Agree t t' n x → AreTokens t text i all j
    → AreTokens t' text i all' j' → IsOver text j → IsOver text j' → TakeUp name_entry all n m → TakeUp name_entry all' n m' → TakeUp text_entry all x y
    → TakeUp text_entry all' x y' → TookAll t t' all all' m m' y y'
all_taken t t' text i j j' n m m' x y y' [] [] a r r' over over' h h' g g' =
    let same = plain t t' n m m' x y y' kinds.Finish kinds.Finish a refl h h' g g' in
    record { all_same = refl; names_same = same.names_same; texts_same = same.texts_same; agree = same.agree }
all_taken t t' text i j j' n m m' x y y' [] (u ∷ rest') a r r' over over' h h' g g' = absurd (over t' u (subst (λ (k : ℕ). IsNext t' text k u) r r'.0))
all_taken t t' text i j j' n m m' x y y' (u ∷ rest) [] a r r' over over' h h' g g' = absurd (over' t u (subst (λ (k : ℕ). IsNext t text k u) r' r.0))
all_taken t t' text i j j' n m m' x y y' (u ∷ rest) (v ∷ rest') a r r' over over' h h' g g' =
    let spelled = next_lexeme t t' text i u v r.0 r'.0 in
    let one = taken t t' r.0.reads.lexeme u.kind v.kind n h.0 h'.0 x g.0 g'.0 a r.0.reads.is spelled h.1 h'.1 g.1 g'.1 in
    let same : u ≡ v = same_token t t' text i u v one.kinds_same r.0 r'.0 in
    let on : AreTokens t' text u.span.upto rest' j' = subst (λ (w : Token). AreTokens t' text w.span.upto rest' j') (sym same) r'.1 in
    let next' : TakeUp name_entry rest' h.0 m' = subst (λ (k : ℕ). TakeUp name_entry rest' k m') (sym one.names_same) h'.2 in
    let text' : TakeUp text_entry rest' g.0 y' = subst (λ (k : ℕ). TakeUp text_entry rest' k y') (sym one.texts_same) g'.2 in
    let more = all_taken t t' text u.span.upto j j' h.0 m m' g.0 y y' rest rest' one.agree r.1 on over over' h.2 next' g.2 text' in
    record {
      all_same = ap (λ (w : Token). w ∷ rest) same ∙ ap (λ (w : List Token). v ∷ w) more.all_same;
      names_same = more.names_same;
      texts_same = more.texts_same;
      agree = more.agree;
    }

-- lists that agree everywhere are one
lists_same : (xs ys : List (List ℕ)) → length xs ≡ length ys → SameBelow (length xs) xs ys → xs ≡ ys
lists_same [] [] size below = refl
lists_same [] (y ∷ ys) size below = absurd (omega (arith, size))
lists_same (x ∷ xs) [] size below = absurd (omega (arith, size))
lists_same (x ∷ xs) (y ∷ ys) size below =
    let first : x ≡ y = same_Some x y (below 0 (omega arith)) in
    ap (λ (z : List ℕ). z ∷ xs) first ∙ ap (λ (zs : List (List ℕ)). y ∷ zs) (lists_same xs ys (omega (arith, size)) (λ k lt. below (suc k) (omega arith)))

-- two extensions of a table agree on it
extended_below : (old new new' : List (List ℕ)) → Extends old new → Extends old new' → SameBelow (length old) new new'
extended_below old new new' h h' k lt =
    elim (slice_get_cases old k).1 [
      | inl here ↦
          let there : (added : List (List ℕ)) → slice_get (old ++ added) k ≡ Some here.0 = λ added. slice_get_left old added k here.0 here.2 in
          subst (λ (x : List (List ℕ)). slice_get x k ≡ slice_get new' k) (sym h.1)
          (subst (λ (x : List (List ℕ)). slice_get (old ++ h.0) k ≡ slice_get x k) (sym h'.1) (there h.0 ∙ sym (there h'.0)))
      | inr past ↦ absurd (omega (arith, past.0))
    ]

-- without the end
front_up : (entry_of : TokenKind → Option ℕ) (front : List Token) (token : Token) (n m : ℕ) → entry_of token.kind ≡ None → TakeUp entry_of (front ++ token ∷ []) n m
    → TakeUp entry_of front n m
front_up entry_of [] token n m none h = let same : h.0 ≡ n = subst (λ (e : Option ℕ). TakesUp e n h.0) none h.1 in h.2 ∙ same
front_up entry_of (first ∷ rest) token n m none h = (h.0, h.1, front_up entry_of rest token h.0 m none h.2)

same_tables : (t t' : Tables) → t.names ≡ t'.names → t.texts ≡ t'.texts → t ≡ t'
same_tables t t' names texts = λ i. record { names = names i; texts = texts i }

pub one_numbering : (old new new' : Tables) (text : List ℕ) (all all' : List Token) → IsRead old text new all → IsRead old text new' all' → (new ≡ new') × (all ≡ all')
one_numbering old new new' text all all' h h' =
    let r = h.tokens in
    let r' = h'.tokens in
    let over = finish_over text r.stop r.finish r.ends in
    let over' = finish_over text r'.stop r'.finish r'.ends in
    let stop : r.stop ≡ r'.stop = stop_same new new' text (start_of text) r.stop r'.stop r.front r'.front r.read r'.read over over' in
    let finish : r.finish ≡ r'.finish =
    finish_same text r'.stop r.finish r'.finish (subst (λ (x : ℕ). IsFinish text x r.finish) stop r.ends) r'.ends in
    let names = subst (λ (x : List Token). TakeUp name_entry x (length old.names) (length new.names)) r.all_is h.in_order.names in
    let names' = subst (λ (x : List Token). TakeUp name_entry x (length old.names) (length new'.names)) r'.all_is h'.in_order.names in
    let texts = subst (λ (x : List Token). TakeUp text_entry x (length old.texts) (length new.texts)) r.all_is h.in_order.texts in
    let texts' = subst (λ (x : List Token). TakeUp text_entry x (length old.texts) (length new'.texts)) r'.all_is h'.in_order.texts in
    let a : Agree new new' (length old.names) (length old.texts) =
    record {
      names = h.names;
      names' = h'.names;
      texts = h.texts;
      texts' = h'.texts;
      below_names = extended_below old.names new.names new'.names h.more_names h'.more_names;
      below_texts = extended_below old.texts new.texts new'.texts h.more_texts h'.more_texts;
    } in
    let took = all_taken new new' text (start_of text) r.stop r'.stop (length old.names) (length new.names) (length new'.names) (length old.texts) (length new.texts) (length new'.texts)
    r.front r'.front a r.read r'.read over over'
    (front_up name_entry r.front r.finish _ _ (ap (λ (k : TokenKind). name_entry k) r.ends.kind) names)
    (front_up name_entry r'.front r'.finish _ _ (ap (λ (k : TokenKind). name_entry k) r'.ends.kind) names')
    (front_up text_entry r.front r.finish _ _ (ap (λ (k : TokenKind). text_entry k) r.ends.kind) texts)
    (front_up text_entry r'.front r'.finish _ _ (ap (λ (k : TokenKind). text_entry k) r'.ends.kind) texts') in (
      same_tables new new' (lists_same new.names new'.names took.names_same took.agree.below_names) (lists_same new.texts new'.texts took.texts_same took.agree.below_texts),
      r.all_is ∙ (ap (λ (x : List Token). x ++ r.finish ∷ []) took.all_same ∙ (ap (λ (x : Token). r'.front ++ x ∷ []) finish ∙ sym r'.all_is)),
    )
