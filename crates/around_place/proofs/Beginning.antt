-- The first words of a text, asked one by one.
use Rattle.std.proofs.Common.{◌≡◌, ◌≤◌, ◌<◌, ℕ, List, [], ◌∷◌, length, get_or, take, drop, ◌-◌, ap, Bool, true, false, refl, sym, subst, ◌∙◌, arith}
use Rattle.std.proofs.lemmas.List.{take_rest}
use Rattle.std.specs.Bool.{MatchBool}
use Rattle.around_place.specs.declared.row.Test.{Test}
use Rattle.around_place.specs.Rows.{BeginsAsAsked, WordIsAsked}
use Rattle.around_place.specs.Words.{AreItsWords, IsFirstWord, IsBlank}
use Rattle.around_place.proofs.Reading.{words-next, words-none, blank-words}

-- an answer says whether the words begin as asked
abbrev pub Says : Bool → List Test → Bool → List ℕ → Type 0
Says answer tests whole text =
    (words : List (List ℕ)) → AreItsWords text words → ((answer ≡ true → BeginsAsAsked tests whole words) × (BeginsAsAsked tests whole words → answer ≡ true))

pub begins-empty : (tests : List Test) (whole : Bool) (text : List ℕ) (answer : Bool) → length tests < 1 → whole ≡ true → MatchBool answer (IsBlank text) (IsBlank text → ⊥)
    → Says answer tests whole text
begins-empty [] whole text true h w m words read = (λ a b. words-none text words read m, λ b. refl)
begins-empty [] whole text false h w m words read = (λ a. cc a, λ b. absurd (m (blank-words text words read (b w))))
begins-empty (x ∷ xs) whole text answer h w m words read = absurd (omega arith)

pub cons-of : (other : Test) (tests : List Test) → 1 ≤ length tests → tests ≡ get_or tests 0 other ∷ take (length tests - 1) (drop 1 tests)
cons-of other [] h = absurd (omega arith)
cons-of other (x ∷ xs) h = ap (λ (rest : List Test). x ∷ rest) (sym (take_rest (x ∷ xs) 1))

-- a word that is as asked leaves the others
pub begins-more : (tests rest : List Test) (asked : Test) (whole : Bool) (text word after : List ℕ) (answer : Bool) → tests ≡ asked ∷ rest → IsFirstWord text word after → WordIsAsked asked word
    → Says answer rest whole after → Says answer tests whole text
begins-more tests rest asked whole text word after answer e n holds says words read =
    let (more, (split, go_on)) = words-next text word after words read n in
    let both = says more go_on in (
      λ a. subst (λ (x : List Test). BeginsAsAsked x whole words) (sym e) (subst (λ (x : List (List ℕ)). BeginsAsAsked (asked ∷ rest) whole x) (sym split) (holds, both.0 a)),
      λ b. both.1 (subst (λ (x : List (List ℕ)). BeginsAsAsked (asked ∷ rest) whole x) split (subst (λ (x : List Test). BeginsAsAsked x whole words) e b)).1,
    )

-- one that isn't ends it
pub begins-other : (tests rest : List Test) (asked : Test) (whole : Bool) (text word after : List ℕ) (answer : Bool) → tests ≡ asked ∷ rest → IsFirstWord text word after → answer ≡ false
    → (WordIsAsked asked word → ⊥) → Says answer tests whole text
begins-other tests rest asked whole text word after answer e n f none words read =
    let (more, (split, go_on)) = words-next text word after words read n in (
      λ a. let g : true ≡ false = sym a ∙ f in cc g,
      λ b. absurd (none (subst (λ (x : List (List ℕ)). BeginsAsAsked (asked ∷ rest) whole x) split (subst (λ (x : List Test). BeginsAsAsked x whole words) e b)).0),
    )

-- where no word stands none is as asked
pub begins-blank : (tests : List Test) (whole : Bool) (text : List ℕ) → 1 ≤ length tests → IsBlank text → Says false tests whole text
begins-blank [] whole text h blank words read = absurd (omega arith)
begins-blank (x ∷ xs) whole text h blank words read = (
  λ a. cc a,
  λ b. absurd (subst (λ (y : List (List ℕ)). BeginsAsAsked (x ∷ xs) whole y) (words-none text words read blank) b),
)
