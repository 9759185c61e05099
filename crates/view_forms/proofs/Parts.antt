-- What the parts of a line are.
use Rattle.std.proofs.Common.{◌≡◌, ℕ, suc, ◌+◌, ◌<◌, ◌≤◌, ◌==◌, nat_lt, nat_le, Bool, true, false, ◌&&◌, ◌||◌, List, [], ◌∷◌, ◌++◌, length, get_or, take, drop, ap, ◌∙◌, sym, refl, subst, arith, inl, inr, ◌⊎◌}
use Rattle.std.specs.List.{list_all, prefix_len}
use Rattle.std.specs.Char.{is_ascii_digit}
use Rattle.std.proofs.lemmas.Bool.{or_left, or_right, and_parts, and_from, cases_Bool, cases_lt, false≢true, cond-true, cond-false}
use Rattle.std.proofs.lemmas.Bool.Decides.{nat_tests}
use Rattle.std.proofs.lemmas.List.{take-append-drop, drop_more, get_or-drop, get_or-take, get_or_past, length-take}
use Rattle.std.proofs.lemmas.Slice.Eq.{bytes_eq-Decides}
use Rattle.view_forms.specs.Parts.{number_size, lead_size, line_lead, told_of, begins_by}

eqb-same : (a b : ℕ) → (a == b) ≡ true → a ≡ b
eqb-same a b h = grind (arith, nat_tests)

-- a list is what stands before a byte, the byte, and what stands behind it
pub cut-at : (i : ℕ) (xs : List ℕ) (c : ℕ) → get_or xs i 0 ≡ c → 0 < c → xs ≡ take i xs ++ c ∷ drop (i + 1) xs
cut-at i xs c h k =
    elim (cases_lt i (length xs)) [
      | inl lt ↦ sym (take-append-drop i xs) ∙ ap (λ t. take i xs ++ t) (drop_more xs i 0 lt ∙ ap (λ b. b ∷ drop (i + 1) xs) h)
      | inr le ↦ absurd (omega (arith, sym (get_or_past xs i 0 le) ∙ h, k))
    ]

pub number-ends : (line : List ℕ) → (number_size line ≡ 0) ⊎ ((get_or line (number_size line) 0 ≡ 32) × ((number_size line ≡ prefix_len is_ascii_digit line) × ((1 ≤ number_size line) × (number_size line ≤ 10))))
number-ends line =
    let n = prefix_len is_ascii_digit line in
    elim (cases_Bool (nat_le 1 n && (nat_le n 10 && (get_or line n 0 == 32)))) as (λ _. (number_size line ≡ 0) ⊎ ((get_or line (number_size line) 0 ≡ 32) × ((number_size line ≡ prefix_len is_ascii_digit line) × ((1 ≤ number_size line) × (number_size line ≤ 10))))) [
      | inl e ↦
          let p = and_parts (nat_le 1 n) (nat_le n 10 && (get_or line n 0 == 32)) e in
          let q = and_parts (nat_le n 10) (get_or line n 0 == 32) p.1 in
          let is : number_size line ≡ n = cond-true (nat_le 1 n && (nat_le n 10 && (get_or line n 0 == 32))) n 0 e in
          inr (ap (λ m. get_or line m 0) is ∙ eqb-same (get_or line n 0) 32 q.1, (is, (rw is (grind (arith, nat_tests, p.0)), rw is (grind (arith, nat_tests, q.0)))))
      | inr e ↦ inl (cond-false (nat_le 1 n && (nat_le n 10 && (get_or line n 0 == 32))) n 0 e)
    ]

-- a lead ends before a space, has at most twelve bytes, and begins by a digit
pub record Leads (line : List ℕ) : Type 0 where
  pub ends : get_or line (lead_size line) 0 ≡ 32
  pub short : lead_size line ≤ 12
  pub digits : 1 ≤ prefix_len is_ascii_digit line

one-true : (n : ℕ) → (n == 1) ≡ true → n ≡ 1
one-true n h = eqb-same n 1 h

zero-true : (n : ℕ) → (n == 0) ≡ true → n ≡ 0
zero-true n h = eqb-same n 0 h

grind-lt : (n : ℕ) → nat_lt 0 n ≡ true → 0 < n
grind-lt n h = grind (arith, nat_tests)

zero-false : (n : ℕ) → 0 < n → (n == 0) ≡ false
zero-false n h = grind (arith, nat_tests)

two-numbers : (line : List ℕ) → number_size line ≡ 1 → (number_size (drop 2 line) == 0) ≡ false → lead_size line ≡ number_size (drop 2 line) + 2
two-numbers line h k = rw (h, k) refl

one-number : (line : List ℕ) → number_size line ≡ 1 → (number_size (drop 2 line) == 0) ≡ true → lead_size line ≡ 1
one-number line h k = rw (h, k) refl

no-second : (line : List ℕ) → (number_size line == 1) ≡ false → lead_size line ≡ number_size line
no-second line h = rw h refl

pub leads : (line : List ℕ) → nat_lt 0 (lead_size line) ≡ true → Leads line
leads line h =
    elim (cases_Bool (number_size line == 1)) [
      | inl one ↦
          let is-one = one-true (number_size line) one in
          elim (number-ends line) [
            | inl none ↦ absurd (omega (arith, is-one, none))
            | inr first ↦
                elim (cases_Bool (number_size (drop 2 line) == 0)) [
                  | inl alone ↦
                      let size = one-number line is-one alone in
                      record {
                        ends = ap (λ n. get_or line n 0) (size ∙ sym is-one) ∙ first.0;
                        short = omega (arith, size);
                        digits = omega (arith, first.1.0, first.1.1.0);
                      }
                  | inr more ↦
                      let size = two-numbers line is-one more in
                      elim (number-ends (drop 2 line)) [
                        | inl none ↦ absurd (false≢true (sym more ∙ ap (λ n. n == 0) none))
                        | inr second ↦
                            record {
                              ends = ap (λ n. get_or line n 0) (size ∙ omega arith) ∙ sym (get_or-drop 2 line (number_size (drop 2 line)) 0) ∙ second.0;
                              short = omega (arith, size, second.1.1.1);
                              digits = omega (arith, first.1.0, first.1.1.0);
                            }
                      ]
                ]
          ]
      | inr other ↦
          let size = no-second line other in
          elim (number-ends line) [
            | inl none ↦ absurd (omega (arith, grind-lt (lead_size line) h, size, none))
            | inr first ↦
                record {
                  ends = ap (λ n. get_or line n 0) size ∙ first.0;
                  short = omega (arith, size, first.1.1.1);
                  digits = omega (arith, first.1.0, first.1.1.0);
                }
          ]
    ]

pub lead-told : (line : List ℕ) → nat_lt 0 (lead_size line) ≡ true → line ≡ line_lead line ++ 32 ∷ told_of line
lead-told line h =
    cut-at (lead_size line) line 32 (leads line h).ends (omega arith)
    ∙ ap (λ t. line_lead line ++ 32 ∷ t) (sym (cond-false (lead_size line == 0) line (drop (lead_size line + 1) line) (zero-false (lead_size line) (grind-lt (lead_size line) h))))

first-digit : (line : List ℕ) → 1 ≤ prefix_len is_ascii_digit line → is_ascii_digit (get_or line 0 0) ≡ true
first-digit [] h = absurd (omega (arith, h))
first-digit (x ∷ xs) h =
    elim (cases_Bool (is_ascii_digit x)) [
      | inl e ↦ e
      | inr e ↦ absurd (omega (arith, h, cond-false (is_ascii_digit x) (1 + prefix_len is_ascii_digit xs) 0 e))
    ]

pub lead-digit : (line : List ℕ) → nat_lt 0 (lead_size line) ≡ true → is_ascii_digit (get_or (line_lead line) 0 0) ≡ true
lead-digit line h = rw (get_or-take (lead_size line) line 0 0 (grind-lt (lead_size line) h)) (first-digit line (leads line h).digits)

pub lead-short : (line : List ℕ) → nat_lt 0 (lead_size line) ≡ true → length (line_lead line) ≤ 12
lead-short line h = omega (arith, length-take (lead_size line) line, (leads line h).short)

pub digit-some : (xs : List ℕ) → is_ascii_digit (get_or xs 0 0) ≡ true → 0 < length xs
digit-some [] h = absurd (false≢true h)
digit-some (x ∷ xs) h = omega arith

pub digit-no_space : (d : ℕ) → is_ascii_digit d ≡ true → (d == 32) ≡ false
digit-no_space d h = grind (arith, nat_tests)

-- a lead has digits and spaces
abbrev pub is_lead_sign : ℕ → Bool
is_lead_sign b = is_ascii_digit b || (b == 32)

add-comm-one : (n : ℕ) → 1 + n ≡ suc n
add-comm-one n = omega arith

prefix-signs : (xs : List ℕ) → list_all is_lead_sign (take (prefix_len is_ascii_digit xs) xs) ≡ true
prefix-signs [] = refl
prefix-signs (x ∷ xs) =
    elim (cases_Bool (is_ascii_digit x)) as (λ _. list_all is_lead_sign (take (prefix_len is_ascii_digit (x ∷ xs)) (x ∷ xs)) ≡ true) [
      | inl e ↦
          let P : ℕ → Type 0 = λ n. list_all is_lead_sign (take n (x ∷ xs)) ≡ true in
          subst P (sym (cond-true (is_ascii_digit x) (1 + prefix_len is_ascii_digit xs) 0 e ∙ add-comm-one (prefix_len is_ascii_digit xs)))
          (and_from (is_lead_sign x) (list_all is_lead_sign (take (prefix_len is_ascii_digit xs) xs)) (or_left (is_ascii_digit x) (x == 32) e) (prefix-signs xs))
      | inr e ↦
          let P : ℕ → Type 0 = λ n. list_all is_lead_sign (take n (x ∷ xs)) ≡ true in
          subst P (sym (cond-false (is_ascii_digit x) (1 + prefix_len is_ascii_digit xs) 0 e)) refl
    ]

number-signs : (xs : List ℕ) → list_all is_lead_sign (take (number_size xs) xs) ≡ true
number-signs xs =
    let P : ℕ → Type 0 = λ n. list_all is_lead_sign (take n xs) ≡ true in
    elim (number-ends xs) [
      | inl none ↦ subst P (sym none) refl
      | inr some ↦ subst P (sym some.1.0) (prefix-signs xs)
    ]

two-parts : (line : List ℕ) (m : ℕ) → is_ascii_digit (get_or line 0 0) ≡ true → get_or line 1 0 ≡ 32 → list_all is_lead_sign (take m (drop 2 line)) ≡ true → list_all is_lead_sign (take (suc (suc m)) line) ≡ true
two-parts [] m h k s = refl
two-parts (x ∷ []) m h k s = absurd (omega (arith, k))
two-parts (x ∷ (y ∷ rest)) m h k s =
    and_from (is_lead_sign x) (is_lead_sign y && list_all is_lead_sign (take m rest)) (or_left (is_ascii_digit x) (x == 32) h)
    (and_from (is_lead_sign y) (list_all is_lead_sign (take m rest)) (or_right (is_ascii_digit y) (y == 32) (ap (λ b. b == 32) k)) s)

pub lead-signs : (line : List ℕ) → nat_lt 0 (lead_size line) ≡ true → list_all is_lead_sign (line_lead line) ≡ true
lead-signs line h =
    let P : ℕ → Type 0 = λ n. list_all is_lead_sign (take n line) ≡ true in
    elim (cases_Bool (number_size line == 1)) [
      | inl one ↦
          let is-one = one-true (number_size line) one in
          elim (cases_Bool (number_size (drop 2 line) == 0)) [
            | inl alone ↦ subst P (is-one ∙ sym (one-number line is-one alone)) (number-signs line)
            | inr more ↦
                elim (number-ends line) [
                  | inl none ↦ absurd (omega (arith, is-one, none))
                  | inr first ↦
                      let size : suc (suc (number_size (drop 2 line))) ≡ lead_size line = omega (arith, two-numbers line is-one more) in
                      subst P size
                      (two-parts line (number_size (drop 2 line)) (first-digit line (leads line h).digits) (sym (ap (λ n. get_or line n 0) is-one) ∙ first.0) (number-signs (drop 2 line)))
                ]
          ]
      | inr other ↦ subst P (sym (no-second line other)) (number-signs line)
    ]

pub begins-is : (text bytes : List ℕ) → begins_by text bytes ≡ true → bytes ≡ text ++ drop (length text) bytes
begins-is text bytes h =
    sym (take-append-drop (length text) bytes) ∙ ap (λ t. t ++ drop (length text) bytes) ((bytes_eq-Decides (take (length text) bytes) text).0 h)
