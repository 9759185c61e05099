-- Lists, item by item, and the names of a class's members, as a plan has them.
use Rattle.std.proofs.Common.{◌≡◌, ℕ, zero, suc, ◌+◌, ◌^◌, ◌<◌, ◌≤◌, List, [], ◌∷◌, ◌++◌, length, drop, get_or, refl, ap, sym, ◌∙◌, subst, append_assoc, Bool, arith}
use Rattle.sts_syntax.specs.declared.types.Ty.{Ty}
use Rattle.sts_syntax.specs.Types as value
use Rattle.sts_syntax.specs.Types.{ValueType}
use Rattle.std.proofs.Common.{Option, true, inl, inr, length-append}
use Rattle.sts_scope.specs.declared.entries.DeclarationKind.{DeclarationKind}
use Rattle.sts_scope.specs.declared.known.Known.{Known}
use Rattle.sts_scope.specs.Lookup.{is_field}
use Rattle.sts_scope.specs.Numbers.{is_method, names_from}
use Rattle.typed_numbers.specs.Building.{names_upto}
use Rattle.typed_numbers.specs.Counts.{counts_fit}
use Rattle.typed_numbers.proofs.Laws.{few_fields, few_slots, few_behind}
use Rattle.std.proofs.lemmas.Bool.{cases_eq}
use Rattle.std.specs.Prelude.{Result, Ok, Err, OnOk}
use Rattle.typed_trees.proofs.Values.{values_append}

-- one type more, of what is left
pub next_value : (found : List Ty) (t : Ty) (v : ValueType) (rest all : List ValueType) → value.value_types found ++ v ∷ rest ≡ all → value.value_type t ≡ v → value.value_types (found ++ t ∷ []) ++ rest ≡ all
next_value found t v rest all h e =
    ap (λ q. q ++ rest) (values_append found (t ∷ []))
    ∙ (append_assoc (value.value_types found) (value.value_type t ∷ []) rest ∙ (ap (λ q. value.value_types found ++ q ∷ rest) e ∙ h))

-- the next of a list
pub drop_next : {X : Type 0} (xs : List X) (i : ℕ) → i < length xs → (x : X) × ((d : X) → get_or xs i d ≡ x) × (drop i xs ≡ x ∷ drop (i + 1) xs)
drop_next [] i l = absurd (omega arith)
drop_next (x ∷ xs) zero l = (x, (λ d. refl), refl)
drop_next (x ∷ xs) (suc i) l = let r = drop_next xs i (omega arith) in let e : suc (i + 1) ≡ suc i + 1 = omega arith in (r.0, r.1, r.2 ∙ ap (λ n. r.0 ∷ drop n (x ∷ xs)) e)

snoc_left : {X : Type 0} (xs : List X) (x d : X) (i : ℕ) → i < length xs → get_or (xs ++ x ∷ []) i d ≡ get_or xs i d
snoc_left [] x d i l = absurd (omega arith)
snoc_left (y ∷ xs) x d zero l = refl
snoc_left (y ∷ xs) x d (suc i) l = snoc_left xs x d i (omega arith)

snoc_right : {X : Type 0} (xs : List X) (x d : X) → get_or (xs ++ x ∷ []) (length xs) d ≡ x
snoc_right [] x d = refl
snoc_right (y ∷ xs) x d = snoc_right xs x d

pub upto_long : (which : Option DeclarationKind → Bool) (k : Known) (n : ℕ) → length (names_upto which k n) ≡ n
upto_long which k zero = refl
upto_long which k (suc n) = let h = upto_long which k n in let a = length-append (names_upto which k n) (names_from which k (length k.classes) n ∷ []) in omega (arith, a, h)

pub upto_at : (which : Option DeclarationKind → Bool) (k : Known) (n c : ℕ) → c < n → get_or (names_upto which k n) c [] ≡ names_from which k (length k.classes) c
upto_at which k zero c l = absurd (omega arith)
upto_at which k (suc n) c l =
    let h = upto_long which k n in
    elim (cases_eq c n) [
      | inl s ↦
          let e : length (names_upto which k n) ≡ c = h ∙ sym s in
          subst (λ (i : ℕ). get_or (names_upto which k (suc n)) i [] ≡ names_from which k (length k.classes) c) e
          (snoc_right (names_upto which k n) (names_from which k (length k.classes) n) [] ∙ ap (λ i. names_from which k (length k.classes) i) (sym s))
      | inr d ↦ snoc_left (names_upto which k n) (names_from which k (length k.classes) n) [] c (omega arith) ∙ upto_at which k n c (omega arith)
    ]

pub on_ok : {A E : Type 0} (r : Result A E) (P Q : Type 0) → (P → Q) → OnOk r P → OnOk r Q
on_ok (Ok x) P Q h p = h p
on_ok (Err e) P Q h p = tt

-- the names of a class's members, as a plan has them
pub names_there : (which : Option DeclarationKind → Bool) (k : Known) (lists : List (List ℕ)) (c : ℕ) → lists ≡ names_upto which k (length k.classes) → c < length k.classes → c < length lists
names_there which k lists c e l = let h = upto_long which k (length k.classes) in let g = ap (λ (q : List (List ℕ)). length q) e in omega (arith, h, g)

pub names_are : (which : Option DeclarationKind → Bool) (k : Known) (lists : List (List ℕ)) (c : ℕ) → lists ≡ names_upto which k (length k.classes) → c < length k.classes → get_or lists c [] ≡ names_from which k (length k.classes) c
names_are which k lists c e l = ap (λ (q : List (List ℕ)). get_or q c []) e ∙ upto_at which k (length k.classes) c l

-- 32 bits number them where the declarations are within the limits, and those of a class that isn't there where 32 bits count the declarations
pub fields_few : (k : Known) (lists : List (List ℕ)) (c : ℕ) → lists ≡ names_upto is_field k (length k.classes) → counts_fit k ≡ true → length (get_or lists c []) ≤ 2 ^ 32
fields_few k lists c e h =
    let a = ap (λ (q : List (List ℕ)). length (get_or q c [])) e in
    let b = few_fields k c h in
    omega (arith, a, b)

pub slots_few : (k : Known) (lists : List (List ℕ)) (c : ℕ) → lists ≡ names_upto is_method k (length k.classes) → counts_fit k ≡ true → length (get_or lists c []) ≤ 2 ^ 32
slots_few k lists c e h =
    let a = ap (λ (q : List (List ℕ)). length (get_or q c [])) e in
    let b = few_slots k c h in
    omega (arith, a, b)

pub behind_few : (which : Option DeclarationKind → Bool) (k : Known) (c : ℕ) → length k.classes ≤ c → length k.entries < 2 ^ 32 → length (names_from which k (length k.classes) c) ≤ 2 ^ 32
behind_few which k c l h = (let a = few_behind which k (length k.classes) c l in omega (arith, a, h))
