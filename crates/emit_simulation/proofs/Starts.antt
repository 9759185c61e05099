-- The pieces of an op stand among those of its function.
use Rattle.std.proofs.Common.{zero, suc, ◌≡◌, ℕ, ◌+◌, ◌*◌, ◌<◌, List, [], ◌∷◌, ◌++◌, length, Some, refl, ap, ◌∙◌, subst, arith, slice_get}
use Rattle.std.proofs.lemmas.List.{length-append}
use Rattle.flat_ir.specs.declared.ops.Op.{Op}
use Rattle.flat_ir.specs.declared.ops.Function.{Function}
use Rattle.register_assign.specs.declared.places.Place.{Place}
use Rattle.register_assign.specs.declared.places.Placed.{Placed}
use Rattle.register_assign.specs.Sound.{place_of}
use Rattle.thumb_layout.specs.declared.pieces.Piece.{Piece}
use Rattle.thumb_layout.specs.declared.pieces.Piece.TheVariants.{Label}
use Rattle.thumb_emit.specs.Emit.{op_pieces, ops_pieces, entry_pieces, function_pieces}
use Rattle.emit_simulation.specs.Starts.{ops_length, start}

-- these pieces stand among others, from piece i on
abbrev pub StandAt : List Piece → ℕ → List Piece → Type 0
StandAt pieces i xs = (n : ℕ) → n < length xs → slice_get pieces (i + n) ≡ slice_get xs n

before : (xs ys : List Piece) (n : ℕ) → n < length xs → slice_get (xs ++ ys) n ≡ slice_get xs n
before [] ys n l = absurd (omega arith)
before (x ∷ xs) ys zero l = refl
before (x ∷ xs) ys (suc n) l = before xs ys n (omega arith)

after : (xs ys : List Piece) (n : ℕ) → slice_get (xs ++ ys) (length xs + n) ≡ slice_get ys n
after [] ys n = ap (slice_get ys) (omega arith)
after (x ∷ xs) ys n = let z : suc (length xs) + n ≡ suc (length xs + n) = omega arith in ap (slice_get (x ∷ (xs ++ ys))) z ∙ after xs ys n

-- blocks of some pieces
pub stand_front : (xs ys : List Piece) → StandAt (xs ++ ys) 0 xs
stand_front xs ys n l = ap (slice_get (xs ++ ys)) (omega arith) ∙ before xs ys n l

pub stand_behind : (xs ys zs : List Piece) (i : ℕ) → StandAt ys i zs → StandAt (xs ++ ys) (length xs + i) zs
stand_behind xs ys zs i h n l = ap (slice_get (xs ++ ys)) (omega arith) ∙ (after xs ys (i + n) ∙ h n l)

module _ (pieces : List Piece) where
  pub first_of : (i : ℕ) (xs ys : List Piece) → StandAt pieces i (xs ++ ys) → StandAt pieces i xs
  first_of i xs ys h n l = let e = length-append xs ys in h n (omega arith) ∙ before xs ys n l

  pub rest_of : (i : ℕ) (xs ys : List Piece) → StandAt pieces i (xs ++ ys) → StandAt pieces (i + length xs) ys
  rest_of i xs ys h n l = let e = length-append xs ys in ap (slice_get pieces) (omega arith) ∙ (h (length xs + n) (omega arith) ∙ after xs ys n)

  pub later : (i : ℕ) (x : Piece) (xs : List Piece) → StandAt pieces i (x ∷ xs) → StandAt pieces (i + 1) xs
  later i x xs h n l = ap (slice_get pieces) (omega arith) ∙ h (suc n) (omega arith)

  pub stand_as : (i j : ℕ) (xs : List Piece) → i ≡ j → StandAt pieces i xs → StandAt pieces j xs
  stand_as i j xs e h = subst (λ k. StandAt pieces k xs) e h

module _ (f : Function) (place : ℕ → Place) where
  abbrev Whole : ℕ → Op → List Piece
  Whole k op = Label (3 * k) ∷ op_pieces f place k op

  some_is : (x y : Op) → Some x ≡ Some y → x ≡ y
  some_is x y e = cc

  op_among : (k : ℕ) (ops : List Op) (n : ℕ) (op : Op) → slice_get ops n ≡ Some op → StandAt (ops_pieces f place k ops) (ops_length f place k ops n)
      (Whole (k + n) op)
  op_among k [] n op e = cc
  op_among k (x ∷ ops) zero op e =
      let z : k ≡ k + 0 = omega arith in
      let y : x ≡ op = some_is x op e in
      subst (λ o. StandAt (ops_pieces f place k (x ∷ ops)) 0 (Whole (k + 0) o)) y
      (subst (λ j. StandAt (ops_pieces f place k (x ∷ ops)) 0 (Whole j x)) z (stand_front (Whole k x) (ops_pieces f place (k + 1) ops)))
  op_among k (x ∷ ops) (suc n) op e =
      let z : k + 1 + n ≡ k + suc n = omega arith in
      let ih = op_among (k + 1) ops n op e in
      subst (λ j. StandAt (ops_pieces f place k (x ∷ ops)) (suc (length (op_pieces f place k x) + ops_length f place (k + 1) ops n)) (Whole j op)) z
      (stand_as (ops_pieces f place k (x ∷ ops)) (length (Whole k x) + ops_length f place (k + 1) ops n)
      (suc (length (op_pieces f place k x) + ops_length f place (k + 1) ops n)) (Whole (k + 1 + n) op) (omega arith)
      (stand_behind (Whole k x) (ops_pieces f place (k + 1) ops) (Whole (k + 1 + n) op) (ops_length f place (k + 1) ops n) ih))

  next_among : (k : ℕ) (ops : List Op) (n : ℕ) (op : Op) → slice_get ops n ≡ Some op → ops_length f place k ops (suc n) ≡ ops_length f place k ops
      n + 1 + length (op_pieces f place (k + n) op)
  next_among k [] n op e = cc
  next_among k (x ∷ ops) zero op e =
      let z : k ≡ k + 0 = omega arith in
      let y : x ≡ op = some_is x op e in
      let l : length (op_pieces f place k x) ≡ length (op_pieces f place (k + 0) op) = ap (λ j. length (op_pieces f place j x)) z ∙
      ap (λ o. length (op_pieces f place (k + 0) o)) y in
      omega arith
  next_among k (x ∷ ops) (suc n) op e =
      let z : k + 1 + n ≡ k + suc n = omega arith in
      let l : length (op_pieces f place (k + 1 + n) op) ≡ length (op_pieces f place (k + suc n) op) = ap (λ j. length (op_pieces f place j op)) z in
      let ih = next_among (k + 1) ops n op e in
      omega arith

-- AN OP'S PIECES stand behind its label, and the next op's label stands behind them
pub op_stands : (p : Placed) (n : ℕ) (op : Op) → slice_get p.function.ops n ≡ Some op
    → StandAt (function_pieces p) (start p.function (place_of p.places) n) (Label (3 * n) ∷ op_pieces p.function (place_of p.places) n op)
op_stands p n op e =
    let f = p.function in let place = place_of p.places in
    let z : 0 + n ≡ n = omega arith in
    subst (λ j. StandAt (function_pieces p) (start f place n) (Label (3 * j) ∷ op_pieces f place j op)) z
    (stand_behind (entry_pieces f place) (ops_pieces f place 0 f.ops) (Label (3 * (0 + n)) ∷ op_pieces f place (0 + n) op) (ops_length f place 0 f.ops n)
    (op_among f place 0 f.ops n op e))

pub next_start : (p : Placed) (n : ℕ) (op : Op) → slice_get p.function.ops n ≡ Some op
    → start p.function (place_of p.places) (n + 1) ≡ start p.function (place_of p.places) n + 1 + length (op_pieces p.function (place_of p.places) n op)
next_start p n op e =
    let f = p.function in let place = place_of p.places in
    let h = next_among f place 0 f.ops n op e in
    let z : 0 + n ≡ n = omega arith in
    let l : length (op_pieces f place (0 + n) op) ≡ length (op_pieces f place n op) = ap (λ j. length (op_pieces f place j op)) z in
    let w : n + 1 ≡ suc n = omega arith in
    let y : ops_length f place 0 f.ops (n + 1) ≡ ops_length f place 0 f.ops (suc n) = ap (ops_length f place 0 f.ops) w in
    omega arith

pub entry_stands : (p : Placed) → StandAt (function_pieces p) 0 (entry_pieces p.function (place_of p.places))
entry_stands p = stand_front (entry_pieces p.function (place_of p.places)) (ops_pieces p.function (place_of p.places) 0 p.function.ops)

pub first_start : (p : Placed) → start p.function (place_of p.places) 0 ≡ length (entry_pieces p.function (place_of p.places))
first_start p = omega arith
