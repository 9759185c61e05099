-- How many bytes laid pieces take at most, and at least.
use Rattle.std.proofs.Common.{zero, suc, ◌≡◌, ℕ, ◌+◌, ◌*◌, ◌%◌, ◌≤◌, List, [], ◌∷◌, length, refl, arith}
use Rattle.thumb_layout.specs.declared.pieces.Piece.{Piece}
use Rattle.thumb_layout.specs.declared.pieces.Piece.TheVariants.{Plain, Label, Go, CallTo, Number, Address}
use Rattle.thumb_layout.specs.Layout.{Wait, Chunk, size, form_of, rest_of, end_of, chunk, pass, nth}
use Rattle.thumb_layout.specs.Rounds.{limit, IsLimited, forms, bytes_of, most, total_most, has_bytes, counted}
use Rattle.thumb_layout.proofs.Chunks.{Behind, chunk_stood, pool_most, pool_least}
use Rattle.thumb_layout.proofs.Settling.{forms_proper}

none : (xs : List Piece) → IsLimited xs []
none [] = tt
none (x ∷ xs) = tt

pub first_limited : (x : Piece) (xs : List Piece) (fs : List ℕ) → IsLimited (x ∷ xs) fs → form_of fs ≤ limit x
first_limited x xs [] h = omega arith
first_limited x xs (f ∷ fs) h = h.0

pub rest_limited : (x : Piece) (xs : List Piece) (fs : List ℕ) → IsLimited (x ∷ xs) fs → IsLimited xs (rest_of fs)
rest_limited x xs [] h = none xs
rest_limited x xs (f ∷ fs) h = h.1

-- the end of chunks
abbrev pub end_by : List Chunk → ℕ → ℕ
end_by cs n = end_of (nth cs n)

pub pass_most : (xs : List Piece) (fs : List ℕ) → IsLimited xs fs → (ws : List Wait) (at : ℕ) → at % 2 ≡ 0 → Behind at ws → end_by (pass xs fs ws at) (length xs) ≤ at + 8 * length ws + total_most xs
pass_most [] fs h ws at e b = let p = pool_most at ws e in omega arith
pass_most (x ∷ xs) fs h ws at e b =
    let c = chunk x (form_of fs) ws at in
    let s = chunk_stood x (form_of fs) ws at e b in
    let m = s.end_most (first_limited x xs fs h) in
    let i = pass_most xs (rest_of fs) (rest_limited x xs fs h) c.waiting (end_of c) s.end_even s.waiting_loads in
    omega arith

pub bytes_most : (xs : List Piece) → bytes_of xs ≤ total_most xs
bytes_most xs = let p = pass_most xs (forms xs) ((forms_proper xs).limited) [] 0 refl tt in omega arith

least_size : (x : Piece) (f : ℕ) → 2 * has_bytes x ≤ size x f
least_size (Plain x) f = omega arith
least_size (Label l) f = omega arith
least_size (Go c l) f = omega arith
least_size (CallTo k) f = omega arith
least_size (Number rd v) f = omega arith
least_size (Address rd w) f = omega arith

pub pass_least : (xs : List Piece) (fs : List ℕ) (ws : List Wait) (at : ℕ) → at % 2 ≡ 0 → Behind at ws → at + 2 * counted xs ≤ end_by (pass xs fs ws at) (length xs)
pass_least [] fs ws at e b = let p = pool_least at ws in omega arith
pass_least (x ∷ xs) fs ws at e b =
    let c = chunk x (form_of fs) ws at in
    let s = chunk_stood x (form_of fs) ws at e b in
    let l = least_size x (form_of fs) in
    let k = s.body_least in
    let m = s.end_least in
    let n = s.behind_is in
    let i = pass_least xs (rest_of fs) c.waiting (end_of c) s.end_even s.waiting_loads in
    omega arith

pub bytes_least : (xs : List Piece) → 2 * counted xs ≤ bytes_of xs
bytes_least xs = let p = pass_least xs (forms xs) [] 0 refl tt in omega arith

most_piece : (x : Piece) → most x ≤ 10 * has_bytes x
most_piece (Plain x) = omega arith
most_piece (Label l) = omega arith
most_piece (Go c l) = omega arith
most_piece (CallTo k) = omega arith
most_piece (Number rd v) = omega arith
most_piece (Address rd w) = omega arith

pub most_counted : (xs : List Piece) → total_most xs ≤ 10 * counted xs
most_counted [] = omega arith
most_counted (x ∷ xs) = let a = most_piece x in let b = most_counted xs in omega arith

-- every chunk is entered at an even address within the code
pub entered_within : (xs : List Piece) (fs : List ℕ) (ws : List Wait) (at : ℕ) → at % 2 ≡ 0 → Behind at ws → (i : ℕ) → ((nth (pass xs fs ws at) i).at % 2 ≡ 0) × ((nth (pass xs fs ws at) i).at ≤ end_by (pass xs fs ws at) (length xs))
entered_within [] fs ws at e b zero = (e, pool_least at ws)
entered_within [] fs ws at e b (suc i) = (refl, omega arith)
entered_within (x ∷ xs) fs ws at e b zero =
    let s = chunk_stood x (form_of fs) ws at e b in
    let a = s.at_is in
    let k = pass_least (x ∷ xs) fs ws at e b in
    (omega arith, omega arith)
entered_within (x ∷ xs) fs ws at e b (suc i) =
    let c = chunk x (form_of fs) ws at in
    let s = chunk_stood x (form_of fs) ws at e b in
    entered_within xs (rest_of fs) c.waiting (end_of c) s.end_even s.waiting_loads i
