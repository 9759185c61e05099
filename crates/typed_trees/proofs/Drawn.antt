-- Frames, light by light from the last.
use Rattle.std.proofs.Common.{◌≡◌, ◌+◌, ◌-◌, ◌*◌, ◌^◌, ◌<◌, ◌≤◌, ◌==◌, ℕ, zero, suc, Bool, true, false, ◌&&◌, List, [], ◌∷◌, length, drop, drop-cons, get_or, refl, sym, ap, ◌∙◌, subst, arith, eqb-true, lt_of_lt_of_le, pow_mono}
use Rattle.std.specs.Prelude.{if◌then◌else◌, not, cond}
use Rattle.std.specs.List.{list_all}
use native.Mathlib.Numerals.{unary_clauses}
use Rattle.type_derive.specs.inner.Filled as b
use Rattle.type_derive.specs.Typing as typing
use Rattle.typed_trees.proofs.Pieces.{drop_all}

-- one more before the others
more_drawn : (x : ℕ) (rest : List ℕ) (white : Bool) → (if white then b.frame_of (typing.drawn rest) else (if x == 35 then 1 else 0) + 2 * b.frame_of (typing.drawn rest))
    ≡ b.frame_of (cond (not white) (x ∷ typing.drawn rest) (typing.drawn rest))
more_drawn x rest true = refl
more_drawn x rest false = refl

pub light_more : (bytes : List ℕ) (i x frame new : ℕ) → i < length bytes → x ≡ get_or bytes (length bytes - 1 - i) x
    → frame ≡ b.frame_of (typing.drawn (drop (length bytes - i) bytes)) → new ≡ (if typing.is_white x then frame else (if x == 35 then 1 else 0) + 2 * frame)
    → new ≡ b.frame_of (typing.drawn (drop (length bytes - (i + 1)) bytes))
light_more bytes i x frame new less at old is =
    let j = length bytes - 1 - i in
    let here : length bytes - (i + 1) ≡ j = omega (arith, less) in
    let next : suc j ≡ length bytes - i = omega (arith, less) in
    let within : j < length bytes = omega (arith, less) in
    let rest = drop (length bytes - i) bytes in
    let cut : drop j bytes ≡ x ∷ rest = drop-cons bytes j x within ∙ ap (λ y. y ∷ drop (suc j) bytes) (sym at) ∙ ap (λ k. x ∷ drop k bytes) next in
    is ∙ ap (λ f. if typing.is_white x then f else (if x == 35 then 1 else 0) + 2 * f) old ∙ more_drawn x rest (typing.is_white x)
    ∙ ap (λ q. b.frame_of (typing.drawn q)) (sym cut) ∙ ap (λ k. b.frame_of (typing.drawn (drop k bytes))) (sym here)

pub none_drawn : (bytes : List ℕ) → 0 ≡ b.frame_of (typing.drawn (drop (length bytes - 0) bytes))
none_drawn bytes =
    let all : length bytes - 0 ≡ length bytes = omega arith in
    sym (ap (λ k. b.frame_of (typing.drawn (drop k bytes))) all ∙ ap (λ q. b.frame_of (typing.drawn q)) (drop_all bytes (length bytes) (omega arith)))

-- a frame has a bit for each light
one_light : (x : Bool) (a n : ℕ) → a < n → (if x then 1 else 0) + 2 * a < 2 * n
one_light true a n h = omega (arith, h)
one_light false a n h = omega (arith, h)

frame_less : (lights : List ℕ) → b.frame_of lights < 2 ^ length lights
frame_less [] = omega arith
frame_less (x ∷ lights) =
    let e : 2 ^ suc (length lights) ≡ 2 * 2 ^ length lights = simp unary_clauses (omega arith) in
    subst (λ (n : ℕ). b.frame_of (x ∷ lights) < n) (sym e) (one_light (x == 35) (b.frame_of lights) (2 ^ length lights) (frame_less lights))

-- what lies behind draws no more lights
one_fewer : (x : ℕ) (lights : List ℕ) (white : Bool) → length lights ≤ length (cond (not white) (x ∷ lights) lights)
one_fewer x lights true = omega arith
one_fewer x lights false = omega arith

fewer : (bytes : List ℕ) (k : ℕ) → length (typing.drawn (drop k bytes)) ≤ length (typing.drawn bytes)
fewer [] zero = omega arith
fewer [] (suc k) = omega arith
fewer (x ∷ bytes) zero = omega arith
fewer (x ∷ bytes) (suc k) = let p = fewer bytes k in let q = one_fewer x (typing.drawn bytes) (typing.is_white x) in omega (arith, p, q)

first_holds : (p q : Bool) → p && q ≡ true → p ≡ true
first_holds true q h = refl
first_holds false q h = h

-- the frame of a drawing, as far as it is known, has no more than 25 bits
pub is_small : (bytes : List ℕ) (k frame : ℕ) → typing.draws bytes ≡ true → frame ≡ b.frame_of (typing.drawn (drop k bytes)) → frame < 2 ^ 25
is_small bytes k frame h e =
    let lights = typing.drawn (drop k bytes) in
    let all : length (typing.drawn bytes) ≡ 25 = eqb-true (length (typing.drawn bytes)) 25 (first_holds (length (typing.drawn bytes) == 25) (list_all typing.is_dot_or_hash (typing.drawn bytes)) h) in
    let fits : length lights ≤ 25 = let p = fewer bytes k in omega (arith, p, all) in
    let less : b.frame_of lights < 2 ^ 25 = lt_of_lt_of_le (frame_less lights) (pow_mono fits) in
    subst (λ (n : ℕ). n < 2 ^ 25) (sym e) less
