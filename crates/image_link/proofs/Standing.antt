-- Which bytes stand where in parts one behind another.
use Rattle.std.proofs.Common.{◌≡◌, ℕ, zero, suc, ◌+◌, ◌-◌, ◌<◌, ◌≤◌, List, [], ◌∷◌, ◌++◌, length, refl, sym, ap, ◌∙◌, subst, arith, Option, Some, None, get_or, slice_get, slice_index}
use Rattle.std.specs.Prelude.{replicate, map}
use Rattle.std.specs.Option.{option_map}
use Rattle.std.proofs.lemmas.List.{length-append, length-replicate, get_or_append_left, get_or-append-add}
use Rattle.std.proofs.lemmas.Option.{slice_get-map}
use Rattle.thumb_code.specs.Map.{flash_end}
use Rattle.thumb_layout.specs.Layout.{up}
use Rattle.image_link.specs.inner.{padded, end_with, starts, IsPlace}
use Rattle.image_link.proofs.Written.{with_part, with_parts, end_behind}
use Rattle.image_link.proofs.Placing.{with_grows, behind_grows}

abbrev pub lengths : List (Option (List ℕ)) → List (Option ℕ)
lengths ps = map (option_map length) ps

padded_up : (n : ℕ) → n + (up n - n) ≡ up n
padded_up n = omega arith

pub length_padded : (bytes : List ℕ) → length (padded bytes) ≡ up (length bytes)
length_padded bytes =
    let b : length (replicate (up (length bytes) - length bytes) 0) ≡ up (length bytes) - length bytes = length-replicate (up (length bytes) - length bytes) 0 in
    length-append bytes (replicate (up (length bytes) - length bytes) 0) ∙ (ap (λ n. length bytes + n) b ∙ padded_up (length bytes))

pub length_part : (bytes : List ℕ) (p : Option (List ℕ)) → length (with_part bytes p) ≡ end_with (length bytes) (option_map length p)
length_part bytes None = refl
length_part bytes (Some p) = length-append (padded bytes) p ∙ ap (λ n. n + length p) (length_padded bytes)

pub length_parts : (bytes : List ℕ) (ps : List (Option (List ℕ))) → length (with_parts bytes ps) ≡ end_behind (length bytes) (lengths ps)
length_parts bytes [] = refl
length_parts bytes (p ∷ ps) = length_parts (with_part bytes p) ps ∙ ap (λ n. end_behind n (lengths ps)) (length_part bytes p)

pub with_append : (bytes : List ℕ) (ps qs : List (Option (List ℕ))) → with_parts bytes (ps ++ qs) ≡ with_parts (with_parts bytes ps) qs
with_append bytes [] qs = refl
with_append bytes (p ∷ ps) qs = with_append (with_part bytes p) ps qs

pub end_append : (end : ℕ) (ns ms : List (Option ℕ)) → end_behind end (ns ++ ms) ≡ end_behind (end_behind end ns) ms
end_append end [] ms = refl
end_append end (n ∷ ns) ms = end_append (end_with end n) ns ms

pub length_starts : (end : ℕ) (ns : List (Option ℕ)) → length (starts end ns) ≡ length ns
length_starts end [] = refl
length_starts end (n ∷ ns) = ap suc (length_starts (end_with end n) ns)

-- what stands before a part stays
before_part : (bytes : List ℕ) (p : Option (List ℕ)) (k d : ℕ) → k < length bytes → get_or (with_part bytes p) k d ≡ get_or bytes k d
before_part bytes None k d l = refl
before_part bytes (Some p) k d l =
    let w = length_padded bytes in
    get_or_append_left (padded bytes) p d k (omega arith) ∙ get_or_append_left bytes (replicate (up (length bytes) - length bytes) 0) d k l

pub before_parts : (bytes : List ℕ) (ps : List (Option (List ℕ))) (k d : ℕ) → k < length bytes → get_or (with_parts bytes ps) k d ≡ get_or bytes k d
before_parts bytes [] k d l = refl
before_parts bytes (p ∷ ps) k d l =
    let w = length_part bytes p in
    let g = with_grows (length bytes) (option_map length p) in
    before_parts (with_part bytes p) ps k d (omega arith) ∙ before_part bytes p k d l

-- part i stands where it is said to begin
pub part_stands : (bytes : List ℕ) (ps : List (Option (List ℕ))) (i : ℕ) (p : List ℕ) (d : ℕ) → slice_get ps i ≡ Some (Some p) → (k : ℕ) → k < length p
    → get_or (with_parts bytes ps) (slice_index (starts (length bytes) (lengths ps)) i + k) d ≡ get_or p k d
part_stands bytes [] i p d e k l = let bad : ⊥ = cc in absurd bad
part_stands bytes (q ∷ ps) zero p d e k l =
    let same : q ≡ Some p = cc in
    let w = length_padded bytes in
    let v = length_part bytes (Some p) in
    subst (λ r. get_or (with_parts (with_part bytes r) ps) (up (length bytes) + k) d ≡ get_or p k d) (sym same)
    (before_parts (padded bytes ++ p) ps (up (length bytes) + k) d (omega arith) ∙ (ap (λ n. get_or (padded bytes ++ p) (n + k) d) (sym w) ∙ get_or-append-add (padded bytes) p k d))
part_stands bytes (q ∷ ps) (suc i) p d e k l =
    ap (λ n. get_or (with_parts (with_part bytes q) ps) (slice_index (starts n (lengths ps)) i + k) d) (sym (length_part bytes q)) ∙ part_stands (with_part bytes q) ps i p d e k l

-- parts of these lengths begin at multiples of 4 in flash
pub start_place : (end : ℕ) (ns : List (Option ℕ)) (i : ℕ) → end_behind end ns ≤ flash_end → IsPlace (slice_index (starts end ns) i)
start_place end [] i l = (omega arith, refl)
start_place end (n ∷ ns) zero l = let g = behind_grows end (n ∷ ns) in (omega arith, omega arith)
start_place end (n ∷ ns) (suc i) l = start_place (end_with end n) ns i l

-- and a part ends within them
pub part_ends : (end : ℕ) (ns : List (Option ℕ)) (i n : ℕ) → slice_get ns i ≡ Some (Some n) → slice_index (starts end ns) i + n ≤ end_behind end ns
part_ends end [] i n e = let bad : ⊥ = cc in absurd bad
part_ends end (m ∷ ns) zero n e =
    let same : m ≡ Some n = cc in
    let g = behind_grows (end_with end m) ns in
    let f : end_with end m ≡ up end + n = ap (end_with end) same in omega arith
part_ends end (m ∷ ns) (suc i) n e = part_ends (end_with end m) ns i n e

-- the same with more parts behind
pub part_stands_before : (bytes : List ℕ) (ps qs : List (Option (List ℕ))) (i : ℕ) (p : List ℕ) (d : ℕ) → slice_get ps i ≡ Some (Some p) → (k : ℕ) → k < length p
    → get_or (with_parts bytes (ps ++ qs)) (slice_index (starts (length bytes) (lengths ps)) i + k) d ≡ get_or p k d
part_stands_before bytes ps qs i p d e k l =
    let long : slice_get (lengths ps) i ≡ Some (Some (length p)) = slice_get-map (option_map length) ps i ∙ ap (option_map (option_map length)) e in
    let inside = part_ends (length bytes) (lengths ps) i (length p) long in
    let whole = length_parts bytes ps in
    ap (λ q. get_or q (slice_index (starts (length bytes) (lengths ps)) i + k) d) (with_append bytes ps qs)
    ∙ (before_parts (with_parts bytes ps) qs (slice_index (starts (length bytes) (lengths ps)) i + k) d (omega arith) ∙ part_stands bytes ps i p d e k l)
