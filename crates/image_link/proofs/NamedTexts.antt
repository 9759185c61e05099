-- Texts that laid code names.
use Rattle.std.proofs.Common.{◌≡◌, ℕ, zero, suc, List, [], ◌∷◌, Bool, true, false, Some, slice_get, refl, ap, ◌∙◌, arith, ◌==◌}
use Rattle.std.specs.Prelude.{◌||◌}
use Rattle.std.specs.List.{AllByRecursion}
use Rattle.std.proofs.lemmas.Bool.Decides.{nat_tests}
use Rattle.thumb_layout.specs.declared.pieces.What.{What}
use Rattle.thumb_layout.specs.declared.pieces.What.TheVariants.{Function, Text, Class}
use Rattle.thumb_layout.specs.declared.laid.Fix.{Fix}
use Rattle.thumb_layout.specs.declared.laid.Laid.{Laid}
use Rattle.image_link.specs.Image.{is_this_text, is_named}
use Rattle.image_link.proofs.Written.{names_text}

pub or_true : (b : Bool) → (b || true) ≡ true
or_true true = refl
or_true false = refl

pub named_in : (i : ℕ) (ls : List Laid) (n : ℕ) (l : Laid) → slice_get ls n ≡ Some l → names_text i l.fixes ≡ true → is_named ls i ≡ true
named_in i [] n l e h = let bad : ⊥ = cc in absurd bad
named_in i (m ∷ ls) zero l e h =
    let same : m ≡ l = cc in
    ap (λ b. b || is_named ls i) (ap (λ (q : Laid). names_text i q.fixes) same ∙ h)
named_in i (m ∷ ls) (suc n) l e h = ap (λ b. names_text i m.fixes || b) (named_in i ls n l e h) ∙ or_true (names_text i m.fixes)

-- a text that stands for a fix of laid code is named by it
abbrev pub IsHere : List Laid → What → Type 0
IsHere laid (Text i) = is_named laid i ≡ true
IsHere laid what = Unit {0}

here : (laid : List Laid) (what : What) → ((i : ℕ) → is_this_text i what ≡ true → is_named laid i ≡ true) → IsHere laid what
here laid (Function f) h = tt
here laid (Text i) h = let e : (i == i) ≡ true = grind (arith, nat_tests) in h i e
here laid (Class c) h = tt

all_here : (laid : List Laid) (fs : List Fix) → ((i : ℕ) → names_text i fs ≡ true → is_named laid i ≡ true) → AllByRecursion (λ f. IsHere laid f.what) fs
all_here laid [] h = tt
all_here laid (f ∷ fs) h = (
  here laid f.what (λ i e. h i (ap (λ b. b || names_text i fs) e)),
  all_here laid fs (λ i e. h i (ap (λ b. is_this_text i f.what || b) e ∙ or_true (is_this_text i f.what))),
)

pub code_here : (laid : List Laid) (n : ℕ) (l : Laid) → slice_get laid n ≡ Some l → AllByRecursion (λ f. IsHere laid f.what) l.fixes
code_here laid n l e = all_here laid l.fixes (λ i h. named_in i laid n l e h)
