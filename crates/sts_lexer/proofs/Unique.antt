-- A text is read in one way.
use Rattle.std.proofs.Common.{◌≡◌, ℕ, ◌+◌, ◌<◌, ◌≤◌, Bool, true, false, List, [], ◌∷◌, ◌++◌, length, refl, sym, ap, ◌∙◌, subst, inl, inr, ◌⊎◌, arith}
use Rattle.std.specs.Prelude.{IsTrue, not, ◌↔◌, slice_index}
use Rattle.std.specs.Prelude.{ℤ}
use Rattle.std.specs.Char.{is_ascii_digit}
use Rattle.std.proofs.lemmas.Bool.{cases_order, false≢true}
use Rattle.std.proofs.lemmas.Bool.Decides.{nat_tests}
use Rattle.std.proofs.lemmas.List.{get_or_past}
use Rattle.sts_base.specs.Distinct.{IsDistinct}
use Rattle.sts_base.specs.declared.tables.Tables.{Tables}
use Rattle.sts_base.specs.declared.refused.Code.{Code}
use Rattle.sts_lexer.specs.Bytes.{is_blank, is_break, begins_name, is_quote, SomeByte}
use Rattle.sts_lexer.specs.Spaces.{IsSpace, IsGap, IsLineComment, opens_comment, start_of}
use Rattle.sts_lexer.specs.Lexemes.{Lexeme, name, number, quoted, mark, Spells}
use Rattle.sts_lexer.specs.Tokens.{IsKindOf, IsNext, AreTokens, IsFinish, IsTokenization}
use Rattle.sts_lexer.specs.Refusals.{cause, Stops, IsStuck}
use Rattle.sts_lexer.specs.declared.token.TokenKind.{TokenKind}
use Rattle.sts_lexer.specs.declared.token.TokenKind.TheVariants as kinds
use Rattle.sts_lexer.specs.declared.token.Token.{Token}
use Rattle.sts_lexer.specs.declared.words.Word.{Word}
use Rattle.sts_lexer.specs.declared.marks.Mark.{Mark}
use Rattle.sts_lexer.proofs.MarkTable.{same_mark}
use Rattle.sts_lexer.proofs.WordTable.{same_word}
use Rattle.sts_lexer.proofs.Lexing.{begins, spells_begins, spells_within, number_same, quoted_same, name_digit, name_quote, name_mark, digit_quote, digit_mark, quote_mark}

-- bytes of different classes
unbroken : (byte : ℕ) → IsTrue (is_break byte) → IsTrue (not (is_break byte)) → ⊥
unbroken byte h g = grind (arith, nat_tests)

blank_slash : (byte : ℕ) → IsTrue (is_blank byte) → byte ≡ 47 → ⊥
blank_slash byte h e = grind (arith, nat_tests)

no_blank : (byte : ℕ) → byte ≡ 0 → IsTrue (is_blank byte) → ⊥
no_blank byte e h = grind (arith, nat_tests)

begins_no_blank : (lexeme : Lexeme) (byte : ℕ) → IsTrue (begins lexeme byte) → IsTrue (is_blank byte) → ⊥
begins_no_blank (name bytes) byte h e = grind (arith, nat_tests)
begins_no_blank (number value) byte h e = grind (arith, nat_tests)
begins_no_blank (quoted value) byte h e = grind (arith, nat_tests)
begins_no_blank (mark which) byte h e = grind (arith, nat_tests)

begins_no_slash : (byte : ℕ) → byte ≡ 47 → (begins_name byte ≡ false) × (is_ascii_digit byte ≡ false) × (is_quote byte ≡ false)
begins_no_slash byte e = grind (arith, nat_tests)

comment_opens : (text : List ℕ) (i : ℕ) → slice_index text i ≡ 47 → (slice_index text (i + 1) ≡ 47) ⊎ (slice_index text (i + 1) ≡ 42) → opens_comment text i ≡ true
comment_opens text i one two = grind (arith, nat_tests)

no_comment : (text : List ℕ) (lexeme : Lexeme) (i j : ℕ) → Spells text lexeme i j → slice_index text i ≡ 47
    → (slice_index text (i + 1) ≡ 47) ⊎ (slice_index text (i + 1) ≡ 42) → ⊥
no_comment text (name bytes) i j h one two = false≢true (sym (begins_no_slash (slice_index text i) one).0 ∙ spells_begins text (name bytes) i j h)
no_comment text (number value) i j h one two = false≢true (sym (begins_no_slash (slice_index text i) one).1 ∙ spells_begins text (number value) i j h)
no_comment text (quoted value) i j h one two = false≢true (sym (begins_no_slash (slice_index text i) one).2 ∙ spells_begins text (quoted value) i j h)
no_comment text (mark which) i j h one two = false≢true (sym h.1 ∙ comment_opens text i one two)

-- white space and comments end in one way
line_end : (text : List ℕ) (i j j' : ℕ) → IsLineComment text i j → IsLineComment text i j' → j < j' → ⊥
line_end text i j j' h g below =
    elim h.ends [
      | inl last ↦ absurd (omega (arith, g.within))
      | inr breaks ↦ unbroken (slice_index text j) breaks (g.unbroken j (omega (arith, h.after)) below)
    ]

space_same : (text : List ℕ) (i j j' : ℕ) → IsSpace text i j → IsSpace text i j' → j ≡ j'
space_same text i j j' (inl h) (inl g) = h.1 ∙ sym g.1
space_same text i j j' (inl h) (inr (inl g)) = absurd (blank_slash (slice_index text i) h.0 g.first)
space_same text i j j' (inl h) (inr (inr g)) = absurd (blank_slash (slice_index text i) h.0 g.first)
space_same text i j j' (inr (inl h)) (inl g) = absurd (blank_slash (slice_index text i) g.0 h.first)
space_same text i j j' (inr (inr h)) (inl g) = absurd (blank_slash (slice_index text i) g.0 h.first)
space_same text i j j' (inr (inl h)) (inr (inr g)) = absurd (omega (arith, h.second, g.second))
space_same text i j j' (inr (inr h)) (inr (inl g)) = absurd (omega (arith, h.second, g.second))
space_same text i j j' (inr (inl h)) (inr (inl g)) =
    elim (cases_order j j') [
      | inl same ↦ same
      | inr other ↦ elim other [
        | inl below ↦ absurd (line_end text i j j' h g below)
        | inr above ↦ absurd (line_end text i j' j g h above)
      ]
    ]
space_same text i j j' (inr (inr h)) (inr (inr g)) =
    elim (cases_order h.close g.close) [
      | inl same ↦ omega (arith, h.ends, g.ends, same)
      | inr other ↦ elim other [
        | inl below ↦ absurd (g.next h.close h.after below h.closes)
        | inr above ↦ absurd (h.next g.close g.after above g.closes)
      ]
    ]

abbrev pub Unspaced : List ℕ → ℕ → Type 0
Unspaced text i = (j : ℕ) → IsSpace text i j → ⊥

gap_same : (text : List ℕ) (i j j' : ℕ) (places places' : List ℕ) → IsGap text i places j → IsGap text i places' j' → Unspaced text j → Unspaced text j' → j ≡ j'
gap_same text i j j' [] [] h g none none' = sym h ∙ g
gap_same text i j j' [] (next ∷ places') h g none none' = absurd (none next (subst (λ (x : ℕ). IsSpace text x next) h g.0))
gap_same text i j j' (next ∷ places) [] h g none none' = absurd (none' next (subst (λ (x : ℕ). IsSpace text x next) g h.0))
gap_same text i j j' (next ∷ places) (next' ∷ places') h g none none' =
    gap_same text next j j' places places' h.1 (subst (λ (x : ℕ). IsGap text x places' j') (sym (space_same text i next next' h.0 g.0)) g.1) none none'

unspaced_end : (text : List ℕ) → Unspaced text (length text)
unspaced_end text j (inl h) = no_blank (slice_index text (length text)) (get_or_past text (length text) 0 (omega arith)) h.0
unspaced_end text j (inr (inl h)) = absurd (omega (arith, h.first, get_or_past text (length text) 0 (omega arith)))
unspaced_end text j (inr (inr h)) = absurd (omega (arith, h.first, get_or_past text (length text) 0 (omega arith)))

-- no lexeme begins with white space or a comment
unspaced_lexeme : (text : List ℕ) (lexeme : Lexeme) (i j : ℕ) → Spells text lexeme i j → Unspaced text i
unspaced_lexeme text lexeme i j h k (inl space) = begins_no_blank lexeme (slice_index text i) (spells_begins text lexeme i j h) space.0
unspaced_lexeme text lexeme i j h k (inr (inl comment)) = no_comment text lexeme i j h comment.first (inl comment.second)
unspaced_lexeme text lexeme i j h k (inr (inr comment)) = no_comment text lexeme i j h comment.first (inr comment.second)

-- the bytes between two places spell one lexeme
lexeme_same : (text : List ℕ) (lexeme lexeme' : Lexeme) (i j : ℕ) → Spells text lexeme i j → Spells text lexeme' i j → lexeme ≡ lexeme'
lexeme_same text (name bytes) (name bytes') i j h g = ap (λ (x : List ℕ). name x) (h.1 ∙ sym g.1)
lexeme_same text (name bytes) (number value') i j h g = absurd (name_digit (slice_index text i) h.0.0 (spells_begins text (number value') i j g))
lexeme_same text (name bytes) (quoted value') i j h g = absurd (name_quote (slice_index text i) h.0.0 g.opens)
lexeme_same text (name bytes) (mark which') i j h g = absurd (name_mark (slice_index text i) h.0.0 (spells_begins text (mark which') i j g))
lexeme_same text (number value) (name bytes') i j h g = absurd (name_digit (slice_index text i) g.0.0 (spells_begins text (number value) i j h))
lexeme_same text (number value) (number value') i j h g = ap (λ (x : ℕ). number x) (number_same text value value' i j j h g).0
lexeme_same text (number value) (quoted value') i j h g = absurd (digit_quote (slice_index text i) (spells_begins text (number value) i j h) g.opens)
lexeme_same text (number value) (mark which') i j h g =
    absurd (digit_mark (slice_index text i) (spells_begins text (number value) i j h) (spells_begins text (mark which') i j g))
lexeme_same text (quoted value) (name bytes') i j h g = absurd (name_quote (slice_index text i) g.0.0 h.opens)
lexeme_same text (quoted value) (number value') i j h g = absurd (digit_quote (slice_index text i) (spells_begins text (number value') i j g) h.opens)
lexeme_same text (quoted value) (quoted value') i j h g = ap (λ (x : List ℕ). quoted x) (quoted_same text value value' i j j h g).0
lexeme_same text (quoted value) (mark which') i j h g = absurd (quote_mark (slice_index text i) h.opens (spells_begins text (mark which') i j g))
lexeme_same text (mark which) (name bytes') i j h g = absurd (name_mark (slice_index text i) g.0.0 (spells_begins text (mark which) i j h))
lexeme_same text (mark which) (number value') i j h g =
    absurd (digit_mark (slice_index text i) (spells_begins text (number value') i j g) (spells_begins text (mark which) i j h))
lexeme_same text (mark which) (quoted value') i j h g = absurd (quote_mark (slice_index text i) g.opens (spells_begins text (mark which) i j h))
lexeme_same text (mark which) (mark which') i j h g = ap (λ (x : Mark). mark x) (same_mark which which' (sym h.0.0 ∙ g.0.0))

-- a lexeme has one kind in given tables
kind_same : (tables : Tables) (lexeme : Lexeme) (kind kind' : TokenKind) → IsDistinct tables.names → IsDistinct tables.texts
    → IsKindOf tables lexeme kind → IsKindOf tables lexeme kind' → kind ≡ kind'
kind_same tables (name bytes) (kinds.Name entry) (kinds.Name entry') names texts h g = ap (λ (x : ℕ). kinds.Name x) (names entry entry' bytes h.0 g.0)
kind_same tables (name bytes) (kinds.Name entry) (kinds.Word word entry') names texts h g = absurd (h.1 word g.1)
kind_same tables (name bytes) (kinds.Word word entry) (kinds.Name entry') names texts h g = absurd (g.1 word h.1)
kind_same tables (name bytes) (kinds.Word word entry) (kinds.Word word' entry') names texts h g =
    ap (λ (x : Word). kinds.Word x entry) (same_word word word' (sym h.1 ∙ g.1)) ∙ ap (λ (x : ℕ). kinds.Word word' x) (names entry entry' bytes h.0 g.0)
kind_same tables (name bytes) (kinds.Num int) kind' names texts h g = absurd h
kind_same tables (name bytes) (kinds.Text entry) kind' names texts h g = absurd h
kind_same tables (name bytes) (kinds.Mark which) kind' names texts h g = absurd h
kind_same tables (name bytes) kinds.Finish kind' names texts h g = absurd h
kind_same tables (name bytes) kind (kinds.Num int) names texts h g = absurd g
kind_same tables (name bytes) kind (kinds.Text entry) names texts h g = absurd g
kind_same tables (name bytes) kind (kinds.Mark which) names texts h g = absurd g
kind_same tables (name bytes) kind kinds.Finish names texts h g = absurd g
kind_same tables (number value) (kinds.Num int) (kinds.Num int') names texts h g = ap (λ (x : ℤ). kinds.Num x) (h ∙ sym g)
kind_same tables (number value) (kinds.Name entry) kind' names texts h g = absurd h
kind_same tables (number value) (kinds.Word word entry) kind' names texts h g = absurd h
kind_same tables (number value) (kinds.Text entry) kind' names texts h g = absurd h
kind_same tables (number value) (kinds.Mark which) kind' names texts h g = absurd h
kind_same tables (number value) kinds.Finish kind' names texts h g = absurd h
kind_same tables (number value) kind (kinds.Name entry) names texts h g = absurd g
kind_same tables (number value) kind (kinds.Word word entry) names texts h g = absurd g
kind_same tables (number value) kind (kinds.Text entry) names texts h g = absurd g
kind_same tables (number value) kind (kinds.Mark which) names texts h g = absurd g
kind_same tables (number value) kind kinds.Finish names texts h g = absurd g
kind_same tables (quoted value) (kinds.Text entry) (kinds.Text entry') names texts h g = ap (λ (x : ℕ). kinds.Text x) (texts entry entry' value h g)
kind_same tables (quoted value) (kinds.Name entry) kind' names texts h g = absurd h
kind_same tables (quoted value) (kinds.Word word entry) kind' names texts h g = absurd h
kind_same tables (quoted value) (kinds.Num int) kind' names texts h g = absurd h
kind_same tables (quoted value) (kinds.Mark which) kind' names texts h g = absurd h
kind_same tables (quoted value) kinds.Finish kind' names texts h g = absurd h
kind_same tables (quoted value) kind (kinds.Name entry) names texts h g = absurd g
kind_same tables (quoted value) kind (kinds.Word word entry) names texts h g = absurd g
kind_same tables (quoted value) kind (kinds.Num int) names texts h g = absurd g
kind_same tables (quoted value) kind (kinds.Mark which) names texts h g = absurd g
kind_same tables (quoted value) kind kinds.Finish names texts h g = absurd g
kind_same tables (mark this) (kinds.Mark which) (kinds.Mark which') names texts h g = ap (λ (x : Mark). kinds.Mark x) (h ∙ sym g)
kind_same tables (mark this) (kinds.Name entry) kind' names texts h g = absurd h
kind_same tables (mark this) (kinds.Word word entry) kind' names texts h g = absurd h
kind_same tables (mark this) (kinds.Num int) kind' names texts h g = absurd h
kind_same tables (mark this) (kinds.Text entry) kind' names texts h g = absurd h
kind_same tables (mark this) kinds.Finish kind' names texts h g = absurd h
kind_same tables (mark this) kind (kinds.Name entry) names texts h g = absurd g
kind_same tables (mark this) kind (kinds.Word word entry) names texts h g = absurd g
kind_same tables (mark this) kind (kinds.Num int) names texts h g = absurd g
kind_same tables (mark this) kind (kinds.Text entry) names texts h g = absurd g
kind_same tables (mark this) kind kinds.Finish names texts h g = absurd g

same_truth : (a b : Bool) (P : Type 0) → (IsTrue a ↔ P) → (IsTrue b ↔ P) → a ≡ b
same_truth true true P f g = refl
same_truth true false P f g = absurd (false≢true (g.1 (f.0 refl)))
same_truth false true P f g = absurd (false≢true (f.1 (g.0 refl)))
same_truth false false P f g = refl

token_same : (t u : Token) → t.kind ≡ u.kind → t.span.from ≡ u.span.from → t.span.upto ≡ u.span.upto → t.broken ≡ u.broken → t ≡ u
token_same t u a b c d = λ i. record { kind = a i; span = record { from = b i; upto = c i }; broken = d i }

-- the next token stands at one place, whatever the tables
next_places : (tables tables' : Tables) (text : List ℕ) (i : ℕ) (t u : Token) → IsNext tables text i t → IsNext tables' text i u
    → (t.span.from ≡ u.span.from) × (t.span.upto ≡ u.span.upto)
next_places tables tables' text i t u h g =
    let from : t.span.from ≡ u.span.from =
    gap_same text i t.span.from u.span.from h.places g.places h.gap g.gap
    (unspaced_lexeme text h.reads.lexeme t.span.from t.span.upto h.reads.spelled) (unspaced_lexeme text g.reads.lexeme u.span.from u.span.upto g.reads.spelled) in
    let there : u.span.upto ≤ t.span.upto =
    h.reads.longest g.reads.lexeme u.span.upto (subst (λ (x : ℕ). Spells text g.reads.lexeme x u.span.upto) (sym from) g.reads.spelled) in
    let here : t.span.upto ≤ u.span.upto =
    g.reads.longest h.reads.lexeme t.span.upto (subst (λ (x : ℕ). Spells text h.reads.lexeme x t.span.upto) from h.reads.spelled) in
    (from, omega arith)

-- and is for one lexeme
pub next_lexeme : (tables tables' : Tables) (text : List ℕ) (i : ℕ) (t u : Token) (h : IsNext tables text i t) → IsNext tables' text i u
    → IsKindOf tables' h.reads.lexeme u.kind
next_lexeme tables tables' text i t u h g =
    let places = next_places tables tables' text i t u h g in
    let there : Spells text g.reads.lexeme t.span.from t.span.upto =
    subst (λ (x : ℕ). Spells text g.reads.lexeme t.span.from x) (sym places.1) (subst (λ (x : ℕ). Spells text g.reads.lexeme x u.span.upto) (sym places.0) g.reads.spelled) in
    let lexeme : g.reads.lexeme ≡ h.reads.lexeme = lexeme_same text g.reads.lexeme h.reads.lexeme t.span.from t.span.upto there h.reads.spelled in
    subst (λ (x : Lexeme). IsKindOf tables' x u.kind) lexeme g.reads.is

-- and differs by its kind alone
pub next_alike : (tables tables' : Tables) (text : List ℕ) (i : ℕ) (t u : Token) → IsNext tables text i t → IsNext tables' text i u → record t { kind = u.kind } ≡ u
next_alike tables tables' text i t u h g =
    let places = next_places tables tables' text i t u h g in
    token_same (record t { kind = u.kind }) u refl places.0 places.1
    (same_truth t.broken u.broken (SomeByte is_break text i t.span.from) h.broken (subst (λ (x : ℕ). IsTrue u.broken ↔ SomeByte is_break text i x) (sym places.0) g.broken))

pub same_token : (tables tables' : Tables) (text : List ℕ) (i : ℕ) (t u : Token) → t.kind ≡ u.kind → IsNext tables text i t → IsNext tables' text i u → t ≡ u
same_token tables tables' text i t u kind h g = ap (λ (k : TokenKind). record t { kind = k }) kind ∙ next_alike tables tables' text i t u h g

next_same : (tables : Tables) (text : List ℕ) (i : ℕ) (t u : Token) → IsDistinct tables.names → IsDistinct tables.texts → IsNext tables text i t
    → IsNext tables text i u → t ≡ u
next_same tables text i t u names texts h g =
    same_token tables tables text i t u (kind_same tables h.reads.lexeme t.kind u.kind names texts h.reads.is (next_lexeme tables tables text i t u h g)) h g

-- no token stands next from i on
abbrev pub IsOver : List ℕ → ℕ → Type 0
IsOver text i = (tables : Tables) (token : Token) → IsNext tables text i token → ⊥

pub finish_over : (text : List ℕ) (i : ℕ) (t : Token) → IsFinish text i t → IsOver text i
finish_over text i t h tables u g =
    let same : length text ≡ u.span.from =
    gap_same text i (length text) u.span.from h.places g.places h.gap g.gap (unspaced_end text)
    (unspaced_lexeme text g.reads.lexeme u.span.from u.span.upto g.reads.spelled) in
    let within = spells_within text g.reads.lexeme u.span.from u.span.upto g.reads.spelled in
    omega (arith, same, within.0, within.1)

stuck_over : (text : List ℕ) (i at : ℕ) (places : List ℕ) → IsGap text i places at → IsStuck text at → IsOver text i
stuck_over text i at places gap stuck tables u g =
    let same : at ≡ u.span.from =
    gap_same text i at u.span.from places g.places gap g.gap stuck.no_space (unspaced_lexeme text g.reads.lexeme u.span.from u.span.upto g.reads.spelled) in
    stuck.no_lexeme g.reads.lexeme u.span.upto (subst (λ (x : ℕ). Spells text g.reads.lexeme x u.span.upto) (sym same) g.reads.spelled)

-- tokens that are all go up to one place, whatever the tables
pub stop_same : (tables tables' : Tables) (text : List ℕ) (i j j' : ℕ) (all all' : List Token) → AreTokens tables text i all j → AreTokens tables' text i all' j'
    → IsOver text j → IsOver text j' → j ≡ j'
stop_same tables tables' text i j j' [] [] h g over over' = sym h ∙ g
stop_same tables tables' text i j j' [] (u ∷ rest') h g over over' = absurd (over tables' u (subst (λ (x : ℕ). IsNext tables' text x u) h g.0))
stop_same tables tables' text i j j' (t ∷ rest) [] h g over over' = absurd (over' tables t (subst (λ (x : ℕ). IsNext tables text x t) g h.0))
stop_same tables tables' text i j j' (t ∷ rest) (u ∷ rest') h g over over' =
    let same = next_places tables tables' text i t u h.0 g.0 in
    stop_same tables tables' text t.span.upto j j' rest rest' h.1 (subst (λ (x : ℕ). AreTokens tables' text x rest' j') (sym same.1) g.1) over over'

-- and in given tables they are the same
all_same : (tables : Tables) (text : List ℕ) (i j j' : ℕ) (all all' : List Token) → IsDistinct tables.names → IsDistinct tables.texts
    → AreTokens tables text i all j → AreTokens tables text i all' j' → IsOver text j → IsOver text j' → all ≡ all'
all_same tables text i j j' [] [] names texts h g over over' = refl
all_same tables text i j j' [] (u ∷ rest') names texts h g over over' = absurd (over tables u (subst (λ (x : ℕ). IsNext tables text x u) h g.0))
all_same tables text i j j' (t ∷ rest) [] names texts h g over over' = absurd (over' tables t (subst (λ (x : ℕ). IsNext tables text x t) g h.0))
all_same tables text i j j' (t ∷ rest) (u ∷ rest') names texts h g over over' =
    let same : t ≡ u = next_same tables text i t u names texts h.0 g.0 in
    let on : AreTokens tables text t.span.upto rest' j' = subst (λ (x : Token). AreTokens tables text x.span.upto rest' j') (sym same) g.1 in
    ap (λ (x : Token). x ∷ rest) same ∙ ap (λ (x : List Token). u ∷ x) (all_same tables text t.span.upto j j' rest rest' names texts h.1 on over over')

pub finish_same : (text : List ℕ) (i : ℕ) (t u : Token) → IsFinish text i t → IsFinish text i u → t ≡ u
finish_same text i t u h g =
    token_same t u (h.kind ∙ sym g.kind) (h.from ∙ sym g.from) (h.upto ∙ sym g.upto)
    (same_truth t.broken u.broken (SomeByte is_break text i (length text)) h.broken g.broken)

pub tokens_same : (tables : Tables) (text : List ℕ) (all all' : List Token) → IsDistinct tables.names → IsDistinct tables.texts
    → IsTokenization tables text all → IsTokenization tables text all' → all ≡ all'
tokens_same tables text all all' names texts h g =
    let over = finish_over text h.stop h.finish h.ends in
    let over' = finish_over text g.stop g.finish g.ends in
    let stop : h.stop ≡ g.stop = stop_same tables tables text (start_of text) h.stop g.stop h.front g.front h.read g.read over over' in
    let front : h.front ≡ g.front = all_same tables text (start_of text) h.stop g.stop h.front g.front names texts h.read g.read over over' in
    let finish : h.finish ≡ g.finish =
    finish_same text g.stop h.finish g.finish (subst (λ (x : ℕ). IsFinish text x h.finish) stop h.ends) g.ends in
    h.all_is ∙ (ap (λ (x : List Token). x ++ h.finish ∷ []) front ∙ (ap (λ (x : Token). g.front ++ x ∷ []) finish ∙ sym g.all_is))

pub tokens_or_stop : (tables : Tables) (text : List ℕ) (all : List Token) (why : Code) (at : ℕ) → IsTokenization tables text all → Stops text why at → ⊥
tokens_or_stop tables text all why at h g =
    let stop : h.stop ≡ g.i =
    stop_same tables g.tables text (start_of text) h.stop g.i h.front g.front h.read g.read (finish_over text h.stop h.finish h.ends)
    (stuck_over text g.i at g.places g.gap g.stuck) in
    let same : length text ≡ at =
    gap_same text g.i (length text) at h.ends.places g.places (subst (λ (x : ℕ). IsGap text x h.ends.places (length text)) stop h.ends.gap) g.gap (unspaced_end text) g.stuck.no_space in
    omega (arith, same, g.stuck.here)

pub stop_once : (text : List ℕ) (why why' : Code) (at at' : ℕ) → Stops text why at → Stops text why' at' → (why ≡ why') × (at ≡ at')
stop_once text why why' at at' h g =
    let stop : h.i ≡ g.i =
    stop_same h.tables g.tables text (start_of text) h.i g.i h.front g.front h.read g.read (stuck_over text h.i at h.places h.gap h.stuck)
    (stuck_over text g.i at' g.places g.gap g.stuck) in
    let same : at ≡ at' =
    gap_same text g.i at at' h.places g.places (subst (λ (x : ℕ). IsGap text x h.places at) stop h.gap) g.gap h.stuck.no_space g.stuck.no_space in
    (h.by ∙ (ap (λ (x : ℕ). cause (slice_index text x)) same ∙ sym g.by), same)
