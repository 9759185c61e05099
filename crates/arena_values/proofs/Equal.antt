-- Words are the same exactly where values are, wherever values are compared.
use Rattle.std.proofs.Common.{◌≡◌, ◌≢◌, ℕ, zero, ◌<◌, ◌^◌, ℤ, pos, ⊎_elim, Bool, false, ap, sym, ◌∙◌, subst, arith}
use Rattle.std.specs.Prelude.{nat_eq}
use Rattle.std.specs.Ordering.{int_eq}
use Rattle.std.specs.Int.{cast_signed, cast_unsigned, w32}
use Rattle.std.proofs.lemmas.Bool.{eq-eqb}
use Rattle.std.proofs.lemmas.Bool.Decides.{eqb_tells, Decides-int_eq, Decides-eqb, same_from_decides}
use Rattle.sts_meaning.specs.Values.{Value, Whole, Object, Text, Code, Gives, same}
use Rattle.arena_values.specs.Words.{Is}
use Rattle.arena_values.proofs.Numbers.{word_is}
use Rattle.arena_values.proofs.Signs.{null_is}

eqb_of : (a b v w : ℕ) → (a ≡ b → v ≡ w) → (v ≡ w → a ≡ b) → nat_eq a b ≡ nat_eq v w
eqb_of a b v w f g = ⊎_elim (λ e. e.0 ∙ sym (eq-eqb v w (f e.1))) (λ e. ⊎_elim (λ d. absurd (e.1 (g d.1))) (λ d. e.0 ∙ sym d.0) (eqb_tells v w)) (eqb_tells a b)

apart_of : (v w : ℕ) → v ≢ w → false ≡ nat_eq v w
apart_of v w n = ⊎_elim (λ d. absurd (n d.1)) (λ d. sym d.0) (eqb_tells v w)

given : (x y : Bool) → Gives x ≡ Gives y → x ≡ y
given x y e = cc

-- of an image's words for texts and functions
module _ (IsText IsCode : ℕ → ℕ → Type 0) where
  -- A text has one address, which isn't 0, and no two have the same.
  pub record AreWords : Type 0 where
    pub text_fits : (t w : ℕ) → IsText t w → w < 2 ^ 32
    pub text_there : (t w : ℕ) → IsText t w → 0 < w
    pub text_one : (t v w : ℕ) → IsText t v → IsText t w → v ≡ w
    pub text_apart : (t u w : ℕ) → IsText t w → IsText u w → t ≡ u
    pub code_fits : (f w : ℕ) → IsCode f w → w < 2 ^ 32

module _ (IsText IsCode : ℕ → ℕ → Type 0) (words : AreWords IsText IsCode) where
  whole_words : (x y : ℤ) (v w : ℕ) → Is IsText IsCode (Whole x) v → Is IsText IsCode (Whole y) w → int_eq x y ≡ nat_eq v w
  whole_words x y v w s t =
      let d = Decides-int_eq x y in
      same_from_decides (int_eq x y) (nat_eq v w) (λ e. sym (word_is x v s) ∙ (ap (cast_unsigned w32) (d.0 e) ∙ word_is y w t), λ e. d.1 (s.0 ∙ (ap (cast_signed w32) e ∙ sym t.0))) (Decides-eqb v w)

  pub same_words : (x y : Value) (v w : ℕ) (b : Bool) → same x y ≡ Gives b → Is IsText IsCode x v → Is IsText IsCode y w → b ≡ nat_eq v w
  same_words (Whole x) (Whole y) v w b e s t = sym (given (int_eq x y) b e) ∙ whole_words x y v w s t
  same_words (Object i) (Object j) v w b e s t = (let a = s.0 in let c = t.0 in sym (given (nat_eq i j) b e) ∙ eqb_of i j v w (λ e. omega arith) (λ e. omega arith))
  same_words (Text i) (Text j) v w b e s t =
      sym (given (nat_eq i j) b e) ∙ eqb_of i j v w (λ q. words.text_one j v w (subst (λ k. IsText k v) q s) t) (λ q. words.text_apart i j w (subst (IsText i) q s) t)
  same_words (Whole (pos zero)) (Object j) v w b e s t = (let a = null_is v s.0 s.1 in let c = t.0 in sym (given false b e) ∙ apart_of v w (λ e. omega arith))
  same_words (Whole (pos zero)) (Text j) v w b e s t = (let a = null_is v s.0 s.1 in let d = words.text_there j w t in sym (given false b e) ∙ apart_of v w (λ e. omega arith))
  same_words (Object i) (Whole (pos zero)) v w b e s t = (let a = null_is w t.0 t.1 in let c = s.0 in sym (given false b e) ∙ apart_of v w (λ e. omega arith))
  same_words (Text i) (Whole (pos zero)) v w b e s t = (let a = null_is w t.0 t.1 in let d = words.text_there i v s in sym (given false b e) ∙ apart_of v w (λ e. omega arith))
  same_words _ _ v w b e s t = cc

  -- a word that stands for a value has 32 bits
  pub is_small : (v : Value) (w : ℕ) → Is IsText IsCode v w → w < 2 ^ 32
  is_small (Whole x) w i = i.1
  is_small (Object n) w i = (let e = i.0 in let l = i.1 in omega arith)
  is_small (Text t) w i = words.text_fits t w i
  is_small (Code f) w i = words.code_fits f w i
