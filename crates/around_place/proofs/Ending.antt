-- The last words of a text, looked for from its beginning on.
use Rattle.std.proofs.Common.{ℕ, List, [], ◌∷◌, true, sym, subst, inl, inr}
use Rattle.around_place.specs.declared.row.Test.{Test}
use Rattle.around_place.specs.Rows.{BeginsAsAsked, EndsAsAsked}
use Rattle.around_place.specs.Words.{AreItsWords, IsFirstWord, IsBlank}
use Rattle.around_place.proofs.Reading.{words-next, words-none}

-- a text ends with the words that are asked exactly where the rest does
abbrev pub EndsKept : List ℕ → List ℕ → List Test → Type 0
EndsKept text rest tests =
    (words : List (List ℕ)) → AreItsWords text words → (left : List (List ℕ)) × (AreItsWords rest left × ((EndsAsAsked tests words → EndsAsAsked tests left) × (EndsAsAsked tests left → EndsAsAsked tests words)))

-- the rest is not what is asked as a whole
abbrev pub IsOther : List ℕ → List Test → Type 0
IsOther rest tests = (words : List (List ℕ)) → AreItsWords rest words → BeginsAsAsked tests true words → ⊥

pub ends-first : (text : List ℕ) (tests : List Test) → EndsKept text text tests
ends-first text tests words read = (words, (read, (λ h. h, λ h. h)))

ends-less : (tests : List Test) (word : List ℕ) (words : List (List ℕ)) → (BeginsAsAsked tests true (word ∷ words) → ⊥) → EndsAsAsked tests (word ∷ words) → EndsAsAsked tests words
ends-less tests word words none (inl begins) = absurd (none begins)
ends-less tests word words none (inr ends) = ends

pub ends-next : (text rest word after : List ℕ) (tests : List Test) → EndsKept text rest tests → IsOther rest tests → IsFirstWord rest word after → EndsKept text after tests
ends-next text rest word after tests k other n words read =
    let (left, (reads, (down, up))) = k words read in
    let (more, (split, go_on)) = words-next rest word after left reads n in
    let none : BeginsAsAsked tests true (word ∷ more) → ⊥ = λ h. other left reads (subst (λ (x : List (List ℕ)). BeginsAsAsked tests true x) (sym split) h) in (
      more,
      (
        go_on,
        (
          λ h. ends-less tests word more none (subst (λ (x : List (List ℕ)). EndsAsAsked tests x) split (down h)),
          λ h. up (subst (λ (x : List (List ℕ)). EndsAsAsked tests x) (sym split) (inr h)),
        ),
      ),
    )

begins-ends : (tests : List Test) (words : List (List ℕ)) → BeginsAsAsked tests true words → EndsAsAsked tests words
begins-ends tests [] h = h
begins-ends tests (word ∷ words) h = inl h

pub ends-found : (text rest : List ℕ) (tests : List Test) → EndsKept text rest tests → ((words : List (List ℕ)) → AreItsWords rest words → BeginsAsAsked tests true words)
    → (words : List (List ℕ)) → AreItsWords text words → EndsAsAsked tests words
ends-found text rest tests k here words read =
    let (left, (reads, (down, up))) = k words read in
    up (begins-ends tests left (here left reads))

pub ends-nowhere : (text rest : List ℕ) (tests : List Test) → EndsKept text rest tests → IsOther rest tests → IsBlank rest
    → (words : List (List ℕ)) → AreItsWords text words → EndsAsAsked tests words → ⊥
ends-nowhere text rest tests k other blank words read h =
    let (left, (reads, (down, up))) = k words read in
    let none = words-none rest left reads blank in
    let last : EndsAsAsked tests [] = subst (λ (x : List (List ℕ)). EndsAsAsked tests x) none (down h) in
    other left reads (subst (λ (x : List (List ℕ)). BeginsAsAsked tests true x) (sym none) last)
