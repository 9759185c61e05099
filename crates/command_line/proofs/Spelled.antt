-- What the parts of the words are spelled with.
use Rattle.std.proofs.Common.{◌≡◌, ℕ, List, [], ◌∷◌, refl, subst, Bool, true, false, eqb}
use Rattle.std.specs.Prelude.{Some, None, ◌&&◌, nat_le, if◌then◌else◌}
use Rattle.std.specs.Char.{is_ascii_digit}
use Rattle.std.specs.List.{list_all}
use Rattle.std.specs.Str.Parse.{digits_value}
use Rattle.std.proofs.lemmas.Bool.{false≢true, ne_eqb}
use Rattle.sts_words.specs.Words.{number_within, is_number}
use Rattle.sts_words.proofs.Laws.{Plain}

pub both : (a b : Bool) → (a && b) ≡ true → (a ≡ true) × (b ≡ true)
both true b e = (refl, e)
both false b e = absurd (false≢true e)

some-if : {A : Type 0} (b : Bool) (x y : A) → (if b then Some x else None) ≡ Some y → b ≡ true
some-if true x y e = refl
some-if false x y e = cc

digit-no-dash : (c : ℕ) → is_ascii_digit c ≡ true → eqb c 45 ≡ false
digit-no-dash c e = ne_eqb c 45 (λ is. let bad : is_ascii_digit 45 ≡ true = subst (λ d. is_ascii_digit d ≡ true) is e in absurd (false≢true bad))

pub number-plain : (most n : ℕ) (word : List ℕ) → number_within most word ≡ Some n → Plain word
number-plain most n [] e = cc
number-plain most n (c ∷ cs) e =
    let tests = some-if ((is_number (c ∷ cs) && nat_le 1 (digits_value 10 (c ∷ cs))) && nat_le (digits_value 10 (c ∷ cs)) most) _ n e in
    let number = both (is_number (c ∷ cs)) _ (both _ _ tests).0 in
    let digits = both _ (list_all is_ascii_digit (c ∷ cs)) number.0 in
    record { first = c; rest = cs; word_is = refl; no_dash = digit-no-dash c (both (is_ascii_digit c) _ digits.1).0 }
