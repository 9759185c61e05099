-- What goes on with a field.
use Rattle.std.proofs.Common.{◌≡◌, ◌≢◌, ℕ, refl, sym, ap, ◌∙◌}
use Rattle.std.specs.Prelude.{Bool, true, false, ◌||◌, nat_lt, Option, Some, None}
use Rattle.sts_lexer.specs.declared.marks.Mark.TheVariants as m
use Rattle.sts_lexer.specs.declared.token.TokenKind.{TokenKind}
use Rattle.sts_lexer.specs.declared.token.TokenKind.TheVariants as k
use Rattle.sts_syntax.specs.Annotations.{Annotation}
use Rattle.sts_syntax.specs.Trees.{OptionalTree, absent, present, Declare}
use Rattle.sts_grammar.specs.Source.{Source, kind, is_mark}
use Rattle.sts_grammar.specs.Headings.{HasType}
use Rattle.sts_grammar.specs.Ends.{binds, declaration_continues}
use Rattle.sts_grammar.specs.Spells.{IsInitialised}
use Rattle.sts_grammar.specs.Units.{is_open, field_continues}

open_same : (t : TokenKind) → is_open t ≡ is_mark m.OpenParenthesis t
open_same (k.Mark m.OpenParenthesis) = refl
open_same t = refl

or_false : (c : Bool) → (c || false) ≡ c
or_false true = refl
or_false false = refl

or_three : (a b c d : Bool) → a ≡ false → b ≡ false → d ≡ false → (((a || b) || c) || d) ≡ c
or_three a b c d p q r = ap (λ x. ((x || b) || c) || d) p ∙ ap (λ x. (x || c) || d) q ∙ ap (λ x. c || x) r ∙ or_false c

or_one : (a c : Bool) → a ≡ false → (a || c) ≡ c
or_one a c p = rw p refl

zero_not : (n : ℕ) → n ≡ 0 → nat_lt 0 n ≡ false
zero_not n h = rw h refl

-- Where a field is whole, a comma alone goes on with it.
pub goes_on_is : (s : Source) (at name : ℕ) (shape : Option Annotation) (first : OptionalTree) (i n o : ℕ) → HasType s shape i n → IsInitialised s false first n o
    → (shape ≡ None → is_mark m.Colon (kind s n) ≡ false) → (first ≡ absent → is_mark m.Assign (kind s o) ≡ false) → is_mark m.OpenParenthesis (kind s i) ≡ false → (first ≢ absent → binds s o ≡ 0)
    → field_continues s (Declare at name shape first) o ≡ is_mark m.Comma (kind s o)
goes_on_is s at name None absent i n o t f colon assign shut whole =
    or_three (is_mark m.Colon (kind s o)) (is_mark m.Assign (kind s o)) (is_mark m.Comma (kind s o)) (is_open (kind s o)) (ap (λ x. is_mark m.Colon (kind s x)) (sym f.1) ∙ colon refl) (assign refl)
    (open_same (kind s o) ∙ ap (λ x. is_mark m.OpenParenthesis (kind s x)) (sym (t ∙ f.1)) ∙ shut)
goes_on_is s at name (Some shape) absent i n o t f colon assign shut whole = or_one (is_mark m.Assign (kind s o)) (is_mark m.Comma (kind s o)) (assign refl)
goes_on_is s at name None (present a) i n o t f colon assign shut whole = or_one (nat_lt 0 (binds s o)) (is_mark m.Comma (kind s o)) (zero_not (binds s o) (whole (λ e. cc)))
goes_on_is s at name (Some shape) (present a) i n o t f colon assign shut whole = or_one (nat_lt 0 (binds s o)) (is_mark m.Comma (kind s o)) (zero_not (binds s o) (whole (λ e. cc)))

-- Nothing goes on with a field where nothing goes on with what it declares, and no `(` stands behind its name.
pub field_stops : (s : Source) (at name : ℕ) (shape : Option Annotation) (first : OptionalTree) (i n o : ℕ) → HasType s shape i n → IsInitialised s false first n o
    → is_mark m.OpenParenthesis (kind s i) ≡ false → declaration_continues s (Declare at name shape first) o ≡ false → field_continues s (Declare at name shape first) o ≡ false
field_stops s at name None absent i n o t f shut stops =
    ap (λ x. x || is_open (kind s o)) stops ∙ open_same (kind s o) ∙ ap (λ x. is_mark m.OpenParenthesis (kind s x)) (sym (t ∙ f.1)) ∙ shut
field_stops s at name (Some shape) absent i n o t f shut stops = stops
field_stops s at name None (present a) i n o t f shut stops = stops
field_stops s at name (Some shape) (present a) i n o t f shut stops = stops
