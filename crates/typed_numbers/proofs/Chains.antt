-- Names along a class and its bases.
use Rattle.std.proofs.Common.{◌≡◌, ℕ, zero, suc, ◌+◌, ◌-◌, ◌<◌, List, [], ◌∷◌, ◌++◌, length, drop, refl, sym, ap, ◌∙◌, Bool, Option, Some, None, arith, append_assoc, drop-cons, get_or}
use Rattle.std.specs.Prelude.{filter, not}
use Rattle.sts_scope.specs.declared.entries.DeclarationKind.{DeclarationKind}
use Rattle.sts_scope.specs.declared.known.Known.{Known}
use Rattle.sts_scope.specs.Lookup.{base_of}
use Rattle.sts_scope.specs.Numbers.{own_names, is_listed, added, names_from}
use Rattle.typed_numbers.specs.Building.{chain_from}

-- The names of the fields or methods of classes, those of the last one first, and behind them the new ones of each.
abbrev pub names_along : (Option DeclarationKind → Bool) → Known → List ℕ → List ℕ
names_along which k [] = []
names_along which k (c ∷ rest) = added (names_along which k rest) (own_names which k.entries c)

all_new : (xs : List ℕ) → filter (λ x. not (is_listed [] x)) xs ≡ xs
all_new [] = refl
all_new (x ∷ xs) = ap (λ q. x ∷ q) (all_new xs)

names_by : (which : Option DeclarationKind → Bool) (k : Known) (n c : ℕ) → ((b : ℕ) → names_from which k n b ≡ names_along which k (chain_from k n b)) → (base : Option ℕ)
    → (elim base as (λ o. List ℕ) [ None ↦ own_names which k.entries c | Some b ↦ added (names_from which k n b) (own_names which k.entries c) ])
    ≡ added (names_along which k (elim base as (λ o. List ℕ) [ None ↦ [] | Some b ↦ chain_from k n b ])) (own_names which k.entries c)
names_by which k n c rest None = sym (all_new (own_names which k.entries c))
names_by which k n c rest (Some b) = ap (λ q. added q (own_names which k.entries c)) (rest b)

pub names_chain : (which : Option DeclarationKind → Bool) (k : Known) (n c : ℕ) → names_from which k n c ≡ names_along which k (chain_from k n c)
names_chain which k zero c = refl
names_chain which k (suc n) c = names_by which k n c (names_chain which k n) (base_of k.classes c)

-- what is left of a chain
abbrev pub rest_from : Known → ℕ → Option ℕ → List ℕ
rest_from k n None = []
rest_from k n (Some c) = chain_from k n c

rest_by : (k : Known) (n : ℕ) (o : Option ℕ) → (elim o as (λ q. List ℕ) [ None ↦ [] | Some b ↦ chain_from k n b ]) ≡ rest_from k n o
rest_by k n None = refl
rest_by k n (Some b) = refl

pub chain_next : (k : Known) (n i class : ℕ) (base : Option ℕ) (found next whole : List ℕ) → i < n → found ++ chain_from k (n - i) class ≡ whole → next ≡ found ++ class ∷ [] → base ≡ base_of k.classes class
    → next ++ rest_from k (n - (i + 1)) base ≡ whole
chain_next k n i class base found next whole l h e b =
    let m = n - (i + 1) in
    let s : n - i ≡ suc m = omega arith in
    ap (λ q. q ++ rest_from k m base) e ∙ (append_assoc found (class ∷ []) (rest_from k m base)
    ∙ (ap (λ q. found ++ class ∷ rest_from k m q) b ∙ (ap (λ q. found ++ class ∷ q) (sym (rest_by k m (base_of k.classes class))) ∙ (ap (λ q. found ++ chain_from k q class) (sym s) ∙ h))))

-- the names along one class more
pub along_next : (which : Option DeclarationKind → Bool) (k : Known) (chain : List ℕ) (i : ℕ) (names : List ℕ) → i < length chain → names ≡ added (names_along which k (drop (length chain - i) chain)) (own_names which k.entries (get_or chain (length chain - 1 - i) 0))
    → names ≡ names_along which k (drop (length chain - (i + 1)) chain)
along_next which k chain i names l e =
    let j = length chain - (i + 1) in
    let z : length chain - 1 - i ≡ j = omega arith in
    let s : length chain - i ≡ suc j = omega arith in
    let d : drop j chain ≡ get_or chain j 0 ∷ drop (suc j) chain = drop-cons chain j 0 (omega arith) in
    e ∙ (ap (λ q. added (names_along which k (drop q chain)) (own_names which k.entries (get_or chain (length chain - 1 - i) 0))) s
    ∙ (ap (λ q. added (names_along which k (drop (suc j) chain)) (own_names which k.entries (get_or chain q 0))) z ∙ ap (names_along which k) (sym d)))
