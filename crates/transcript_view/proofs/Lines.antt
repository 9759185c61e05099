-- Where a line ends.
use Rattle.std.proofs.Common.{◌≡◌, ℕ, ◌==◌, ◌+◌, ◌-◌, ◌<◌, ◌≤◌, false, length, take, drop, get_or, arith, List, [], ◌∷◌, ◌++◌, ap, ◌∙◌, sym, refl}
use Rattle.std.specs.List.{All}
use Rattle.std.proofs.lemmas.List.Elements.{All-head, All-tail, All-same}
use Rattle.std.proofs.lemmas.List.{take-append-drop, drop_more, take_rest, take_all}
use Rattle.view_forms.specs.Parts.{lines_in, before_lines}

pub line-ends : (xs ys : List ℕ) → All (λ b. (b == 10) ≡ false) xs → lines_in (xs ++ 10 ∷ ys) ≡ xs ∷ lines_in ys
line-ends [] ys h = refl
line-ends (x ∷ xs) ys h = rw (All-head (λ b. (b == 10) ≡ false) x xs h) (ap (before_lines x) (line-ends xs ys (All-tail (λ b. (b == 10) ≡ false) x xs h)))

pub last-line : (x : ℕ) (xs : List ℕ) → All (λ b. (b == 10) ≡ false) (x ∷ xs) → lines_in (x ∷ xs) ≡ (x ∷ xs) ∷ []
last-line x [] h = rw (All-head (λ b. (b == 10) ≡ false) x [] h) refl
last-line x (y ∷ xs) h = rw (All-head (λ b. (b == 10) ≡ false) x (y ∷ xs) h) (ap (before_lines x) (last-line y xs (All-tail (λ b. (b == 10) ≡ false) x (y ∷ xs) h)))

pub line-found : (text : List ℕ) (at d : ℕ) → at < length text → get_or text at d ≡ 10 → All (λ b. (b == 10) ≡ false) (take at text)
    → lines_in text ≡ take at text ∷ lines_in (take (length text - (at + 1)) (drop (at + 1) text))
line-found text at d lt h all =
    let parts : take at text ++ 10 ∷ drop (at + 1) text ≡ text =
    ap (λ b. take at text ++ b ∷ drop (at + 1) text) (sym h) ∙ ap (λ t. take at text ++ t) (sym (drop_more text at d lt)) ∙ take-append-drop at text in
    ap lines_in (sym parts) ∙ line-ends (take at text) (drop (at + 1) text) all ∙ ap (λ t. take at text ∷ lines_in t) (sym (take_rest text (at + 1)))

pub line-left : (text : List ℕ) (at : ℕ) → 0 < length text → length text ≤ at → All (λ b. (b == 10) ≡ false) (take at text) → lines_in text ≡ text ∷ []
line-left [] at h le all = absurd (omega (arith, h))
line-left (x ∷ xs) at h le all = last-line x xs (All-same (λ b. (b == 10) ≡ false) (x ∷ xs) (take at (x ∷ xs)) (sym (take_all at (x ∷ xs) le)) all)
