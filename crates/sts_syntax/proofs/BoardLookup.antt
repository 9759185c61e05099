-- The calls and constants of the board's interface, looked up by their bytes.
use Rattle.std.proofs.Common.{◌≡◌, ℕ, ◌+◌, ◌<◌, ◌&&◌, ◌==◌, true, false, cond, List, [], ◌∷◌, length, get_or, drop, refl, sym, ap, ◌∙◌, add-one, drop-cons, map}
use Rattle.std.specs.Prelude.{Some}
use Rattle.std.specs.Str.{bytes_eq}
use Rattle.sts_syntax.specs.declared.board_calls.BoardCall.{BoardCall}
use Rattle.sts_syntax.specs.declared.board_rows.BoardConstant as rust
use Rattle.sts_syntax.specs.BoardTable.{row_of, same_bytes, call_among, constant_among}
use Rattle.sts_syntax.specs.BoardViews.{constant_of}

pub same_bytes_is : (xs ys : List ℕ) → same_bytes xs ys ≡ bytes_eq xs ys
same_bytes_is [] [] = refl
same_bytes_is [] (y ∷ ys) = refl
same_bytes_is (x ∷ xs) [] = refl
same_bytes_is (x ∷ xs) (y ∷ ys) = ap (λ rest. x == y && rest) (same_bytes_is xs ys)

pub drop_at : {A : Type 0} (xs : List A) (i : ℕ) (x : A) → i < length xs → drop i xs ≡ get_or xs i x ∷ drop (i + 1) xs
drop_at xs i x lt = drop-cons xs i x lt ∙ ap (λ n. get_or xs i x ∷ drop n xs) (sym (add-one i))

pub first_call : (items : List BoardCall) (i : ℕ) (d : BoardCall) (space name : List ℕ) → i < length items
    → same_bytes (row_of (get_or items i d)).space space && same_bytes (row_of (get_or items i d)).name name ≡ true
    → call_among (drop i items) space name ≡ Some (get_or items i d)
first_call items i d space name lt named =
    ap (λ all. call_among all space name) (drop_at items i d lt) ∙ ap (λ b. cond b (Some (get_or items i d)) (call_among (drop (i + 1) items) space name)) named

pub further_call : (items : List BoardCall) (i : ℕ) (d : BoardCall) (space name : List ℕ) → i < length items
    → same_bytes (row_of (get_or items i d)).space space && same_bytes (row_of (get_or items i d)).name name ≡ false
    → call_among (drop i items) space name ≡ call_among (drop (i + 1) items) space name
further_call items i d space name lt other =
    ap (λ all. call_among all space name) (drop_at items i d lt) ∙ ap (λ b. cond b (Some (get_or items i d)) (call_among (drop (i + 1) items) space name)) other

pub first_constant : (items : List rust.BoardConstant) (i : ℕ) (d : rust.BoardConstant) (space name : List ℕ) → i < length items
    → same_bytes (constant_of (get_or items i d)).space space && same_bytes (constant_of (get_or items i d)).name name ≡ true
    → constant_among (map constant_of (drop i items)) space name ≡ Some (constant_of (get_or items i d)).value
first_constant items i d space name lt named =
    ap (λ all. constant_among (map constant_of all) space name) (drop_at items i d lt)
    ∙ ap (λ b. cond b (Some (constant_of (get_or items i d)).value) (constant_among (map constant_of (drop (i + 1) items)) space name)) named

pub further_constant : (items : List rust.BoardConstant) (i : ℕ) (d : rust.BoardConstant) (space name : List ℕ) → i < length items
    → same_bytes (constant_of (get_or items i d)).space space && same_bytes (constant_of (get_or items i d)).name name ≡ false
    → constant_among (map constant_of (drop i items)) space name ≡ constant_among (map constant_of (drop (i + 1) items)) space name
further_constant items i d space name lt other =
    ap (λ all. constant_among (map constant_of all) space name) (drop_at items i d lt)
    ∙ ap (λ b. cond b (Some (constant_of (get_or items i d)).value) (constant_among (map constant_of (drop (i + 1) items)) space name)) other
