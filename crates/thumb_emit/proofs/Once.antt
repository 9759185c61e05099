-- How often labels stand among the pieces of a function.
use Rattle.std.proofs.Common.{◌≡◌, ℕ, zero, suc, ◌+◌, ◌*◌, ◌<◌, ◌≤◌, ◌==◌, ◌⊎◌, inl, inr, true, if◌then◌else◌, List, [], ◌∷◌, ◌++◌, length, Some, slice_get, refl, ap, sym, ◌∙◌, subst, arith}
use Rattle.std.specs.List.{AllByRecursion}
use Rattle.std.proofs.lemmas.Bool.Decides.{nat_tests}
use Rattle.thumb_layout.specs.declared.pieces.Piece.{Piece}
use Rattle.thumb_layout.specs.declared.pieces.Piece.TheVariants.{Plain, Label, Go, CallTo, Number, Address}
use Rattle.thumb_layout.specs.Soundness.{times, IsSoundPiece, IsSound, HasWords}
use Rattle.flat_ir.specs.declared.ops.Op.{Op}
use Rattle.flat_ir.specs.declared.ops.Function.{Function}
use Rattle.flat_ir.specs.WellFormed.{GoesBelow, IsOpWithin, temporaries}
use Rattle.register_assign.specs.declared.places.Place.{Place}
use Rattle.register_assign.specs.declared.places.Placed.{Placed}
use Rattle.register_assign.specs.Sound.{place_of}
use Rattle.thumb_emit.specs.Emit.{op_pieces, entry_pieces, ops_pieces, function_pieces}
use Rattle.thumb_emit.specs.Ready.{IsReady, HasNumbers}
use Rattle.thumb_emit.proofs.Lists.{all_append, all_at, times_append}
use Rattle.thumb_emit.proofs.Labels.{gos_of, gos_append, counted_not, idle, Marks, None, One, Two, Away, op_marks, entry_marks}
use Rattle.thumb_emit.proofs.Fine.{IsFine}
use Rattle.thumb_emit.proofs.Sound.{function_fine, function_pieces_sound}

counted_same : (m : ℕ) → ◌≡◌ {A = ℕ} (if m == m then 1 else 0) 1
counted_same m = let e : (m == m) ≡ true = grind (arith, nat_tests) in rw e refl

-- a label that isn't op k's own
abbrev IsStrange : ℕ → ℕ → Type 0
IsStrange k l = (l ≤ 3 * k) ⊎ (3 * k + 3 ≤ l)

not_first : (k l : ℕ) → IsStrange k l → 3 * k + 1 ≡ l → ⊥
not_first k l (inl s) e = omega arith
not_first k l (inr s) e = omega arith

not_second : (k l : ℕ) → IsStrange k l → 3 * k + 2 ≡ l → ⊥
not_second k l (inl s) e = omega arith
not_second k l (inr s) e = omega arith

op_strange : (f : Function) (k n l : ℕ) (xs : List Piece) → (idle f ≡ l → ⊥) → Marks f k n xs → IsStrange k l → times l xs ≡ 0
op_strange f k n l xs d (None m) s = m.stand l d
op_strange f k n l xs d (One m) s = m.stand l d ∙ ap (λ q. q + 0) (counted_not (3 * k + 1) l (not_first k l s))
op_strange f k n l xs d (Two m) s =
    let a = counted_not (3 * k + 1) l (not_first k l s) in
    let b = counted_not (3 * k + 2) l (not_second k l s) in
    m.stand l d ∙ rw a (rw b refl)
op_strange f k n l xs d (Away t h m) s = m.stand l d

-- a branch of op k's goes to another op, or to a label of its own that stands once
abbrev IsOwn : ℕ → List Piece → ℕ → Type 0
IsOwn k xs l = (3 * k < l) × (l < 3 * k + 3) × (times l xs ≡ 1)

abbrev IsAway : ℕ → ℕ → Type 0
IsAway n l = (t : ℕ) × (t < n) × (l ≡ 3 * t)

abbrev AllGo : (ℕ → Type 0) → List Piece → Type 0
AllGo P xs = AllByRecursion P (gos_of xs)

op_goes : (f : Function) (k n : ℕ) (xs : List Piece) → k < length f.ops → Marks f k n xs → AllGo (λ l. IsAway n l ⊎ IsOwn k xs l) xs
op_goes f k n xs w (None m) = subst (λ (q : List ℕ). AllByRecursion (λ l. IsAway n l ⊎ IsOwn k xs l) q) (sym m.goes) tt
op_goes f k n xs w (One m) =
    let e : times (3 * k + 1) xs ≡ 1 = m.stand (3 * k + 1) (λ h. omega arith) ∙ ap (λ q. q + 0) (counted_same (3 * k + 1)) in
    subst (λ (q : List ℕ). AllByRecursion (λ l. IsAway n l ⊎ IsOwn k xs l) q) (sym m.goes) (inr (omega arith, omega arith, e), tt)
op_goes f k n xs w (Two m) =
    let a = counted_same (3 * k + 1) in
    let b = counted_same (3 * k + 2) in
    let c = counted_not (3 * k + 2) (3 * k + 1) (λ h. omega arith) in
    let d = counted_not (3 * k + 1) (3 * k + 2) (λ h. omega arith) in
    let e : times (3 * k + 1) xs ≡ 1 = m.stand (3 * k + 1) (λ h. omega arith) ∙ rw a (rw c refl) in
    let g : times (3 * k + 2) xs ≡ 1 = m.stand (3 * k + 2) (λ h. omega arith) ∙ rw d (rw b refl) in
    subst (λ (q : List ℕ). AllByRecursion (λ l. IsAway n l ⊎ IsOwn k xs l) q) (sym m.goes) (inr (omega arith, omega arith, e), (inr (omega arith, omega arith, g), tt))
op_goes f k n xs w (Away t h m) = subst (λ (q : List ℕ). AllByRecursion (λ l. IsAway n l ⊎ IsOwn k xs l) q) (sym m.goes) (inl (t, h, refl), tt)

all_implies : (P Q : ℕ → Type 0) → ((l : ℕ) → P l → Q l) → (ls : List ℕ) → AllByRecursion P ls → AllByRecursion Q ls
all_implies P Q h [] a = tt
all_implies P Q h (l ∷ ls) a = (h l a.0, all_implies P Q h ls a.1)

go_append : (P : ℕ → Type 0) (xs ys : List Piece) → AllGo P xs → AllGo P ys → AllGo P (xs ++ ys)
go_append P xs ys a b = subst (λ (q : List ℕ). AllByRecursion P q) (sym (gos_append xs ys)) (all_append P (gos_of xs) (gos_of ys) a b)

go_at : (P : ℕ → Type 0) (xs : List Piece) → AllGo P xs → (i cond l : ℕ) → slice_get xs i ≡ Some (Go cond l) → P l
go_at P [] a i cond l e = absurd cc
go_at P (Go c m ∷ xs) a zero cond l e = let h : m ≡ l = cc in subst P h a.0
go_at P (Go c m ∷ xs) a (suc i) cond l e = go_at P xs a.1 i cond l e
go_at P (Plain x ∷ xs) a zero cond l e = absurd cc
go_at P (Plain x ∷ xs) a (suc i) cond l e = go_at P xs a i cond l e
go_at P (Label x ∷ xs) a zero cond l e = absurd cc
go_at P (Label x ∷ xs) a (suc i) cond l e = go_at P xs a i cond l e
go_at P (CallTo x ∷ xs) a zero cond l e = absurd cc
go_at P (CallTo x ∷ xs) a (suc i) cond l e = go_at P xs a i cond l e
go_at P (Number x y ∷ xs) a zero cond l e = absurd cc
go_at P (Number x y ∷ xs) a (suc i) cond l e = go_at P xs a i cond l e
go_at P (Address x y ∷ xs) a zero cond l e = absurd cc
go_at P (Address x y ∷ xs) a (suc i) cond l e = go_at P xs a i cond l e

module _ (f : Function) (place : ℕ → Place) (n : ℕ) where
  abbrev Goes : Op → Type 0
  Goes op = GoesBelow n op

  ops_low : (l k : ℕ) (ops : List Op) → (idle f ≡ l → ⊥) → AllByRecursion Goes ops → l < 3 * k → times l (ops_pieces f place k ops) ≡ 0
  ops_low l k [] i w h = refl
  ops_low l k (op ∷ ops) i w h =
      let a = counted_not (3 * k) l (λ e. omega arith) in
      let b = op_strange f k n l (op_pieces f place k op) i (op_marks f place k n op w.0) (inl (omega arith)) in
      let c = ops_low l (k + 1) ops i w.1 (omega arith) in
      let d = times_append l (op_pieces f place k op) (ops_pieces f place (k + 1) ops) in
      omega (arith, a, b, c, d)

  ops_high : (l k : ℕ) (ops : List Op) → (idle f ≡ l → ⊥) → AllByRecursion Goes ops → 3 * (k + length ops) ≤ l → times l (ops_pieces f place k ops) ≡ 0
  ops_high l k [] i w h = refl
  ops_high l k (op ∷ ops) i w h =
      let a = counted_not (3 * k) l (λ e. omega arith) in
      let b = op_strange f k n l (op_pieces f place k op) i (op_marks f place k n op w.0) (inr (omega arith)) in
      let c = ops_high l (k + 1) ops i w.1 (omega arith) in
      let d = times_append l (op_pieces f place k op) (ops_pieces f place (k + 1) ops) in
      omega (arith, a, b, c, d)

  ops_at : (k : ℕ) (ops : List Op) → k + length ops ≤ length f.ops → AllByRecursion Goes ops → (j : ℕ) → j < length ops → times (3 * (k + j)) (ops_pieces f place k ops) ≡ 1
  ops_at k [] r w j h = absurd (omega arith)
  ops_at k (op ∷ ops) r w zero h =
      let a = counted_same (3 * k) in
      let b = op_strange f k n (3 * k) (op_pieces f place k op) (λ q. omega arith) (op_marks f place k n op w.0) (inl (omega arith)) in
      let c = ops_low (3 * k) (k + 1) ops (λ q. omega arith) w.1 (omega arith) in
      let d = times_append (3 * k) (op_pieces f place k op) (ops_pieces f place (k + 1) ops) in
      let t : times (3 * k) (ops_pieces f place k (op ∷ ops)) ≡ 1 = omega (arith, a, b, c, d) in
      subst (λ (q : ℕ). times q (ops_pieces f place k (op ∷ ops)) ≡ 1) (omega arith) t
  ops_at k (op ∷ ops) r w (suc j) h =
      let l = 3 * (k + suc j) in
      let a = counted_not (3 * k) l (λ e. omega arith) in
      let b = op_strange f k n l (op_pieces f place k op) (λ q. omega arith) (op_marks f place k n op w.0) (inr (omega arith)) in
      let c = ops_at (k + 1) ops (omega arith) w.1 j (omega arith) in
      let e : 3 * (k + 1 + j) ≡ l = omega arith in
      let c' : times l (ops_pieces f place (k + 1) ops) ≡ 1 = subst (λ (q : ℕ). times q (ops_pieces f place (k + 1) ops) ≡ 1) e c in
      let d = times_append l (op_pieces f place k op) (ops_pieces f place (k + 1) ops) in
      omega (arith, a, b, c', d)

  -- a branch of the ops from op k on
  abbrev IsGood : ℕ → List Op → ℕ → Type 0
  IsGood k ops l = IsAway n l ⊎ ((3 * k < l) × (l < 3 * (k + length ops)) × (times l (ops_pieces f place k ops) ≡ 1))

  own_good : (k : ℕ) (op : Op) (ops : List Op) → k + suc (length ops) ≤ length f.ops → Goes op → AllByRecursion Goes ops → (l : ℕ) → IsAway n l ⊎ IsOwn k (op_pieces f place k op) l → IsGood k (op ∷ ops) l
  own_good k op ops r w ws l (inl a) = inl a
  own_good k op ops r w ws l (inr o) =
      let x = o.0 in let y = o.1 in let z = o.2 in
      let a = counted_not (3 * k) l (λ e. omega arith) in
      let c = ops_low l (k + 1) ops (λ q. omega arith) ws (omega arith) in
      let d = times_append l (op_pieces f place k op) (ops_pieces f place (k + 1) ops) in
      inr (x, omega arith, omega (arith, a, z, c, d))

  rest_good : (k : ℕ) (op : Op) (ops : List Op) → k + suc (length ops) ≤ length f.ops → Goes op → (l : ℕ) → IsGood (k + 1) ops l → IsGood k (op ∷ ops) l
  rest_good k op ops r w l (inl a) = inl a
  rest_good k op ops r w l (inr o) =
      let x = o.0 in let y = o.1 in let z = o.2 in
      let a = counted_not (3 * k) l (λ e. omega arith) in
      let b = op_strange f k n l (op_pieces f place k op) (λ q. omega arith) (op_marks f place k n op w) (inr (omega arith)) in
      let d = times_append l (op_pieces f place k op) (ops_pieces f place (k + 1) ops) in
      inr (omega arith, omega arith, omega (arith, a, z, b, d))

  ops_good : (k : ℕ) (ops : List Op) → k + length ops ≤ length f.ops → AllByRecursion Goes ops → AllGo (IsGood k ops) (ops_pieces f place k ops)
  ops_good k [] r w = tt
  ops_good k (op ∷ ops) r w =
      go_append (IsGood k (op ∷ ops)) (op_pieces f place k op) (ops_pieces f place (k + 1) ops)
      (all_implies (λ l. IsAway n l ⊎ IsOwn k (op_pieces f place k op) l) (IsGood k (op ∷ ops)) (own_good k op ops r w.0 w.1) (gos_of (op_pieces f place k op)) (op_goes f k n (op_pieces f place k op) (omega arith) (op_marks f place k n op w.0)))
      (all_implies (IsGood (k + 1) ops) (IsGood k (op ∷ ops)) (rest_good k op ops r w.0) (gos_of (ops_pieces f place (k + 1) ops)) (ops_good (k + 1) ops (omega arith) w.1))

-- every branch of a function's goes to a label that stands once
function_once : (p : Placed) → AllByRecursion (λ op. GoesBelow (length p.function.ops) op) p.function.ops → AllGo (λ l. times l (function_pieces p) ≡ 1) (function_pieces p)
function_once p w =
    let f = p.function in let place = place_of p.places in let n = length f.ops in
    let es = entry_pieces f place in let os = ops_pieces f place 0 f.ops in
    let m = entry_marks f place in
    let top : times (3 * n) (es ++ os) ≡ 1 = (
    let a = m.stand (3 * n) (λ q. omega arith) in
    let b = counted_same (3 * n) in
    let c = ops_high f place n (3 * n) 0 f.ops (λ q. omega arith) w (omega arith) in
    let d = times_append (3 * n) es os in
    omega (arith, a, b, c, d)) in
    let below : (l : ℕ) → l < 3 * n → times l os ≡ 1 → times l (es ++ os) ≡ 1 = λ l h e. (
    let a = m.stand l (λ q. omega arith) in
    let b = counted_not (3 * n) l (λ q. omega arith) in
    let d = times_append l es os in
    omega (arith, a, b, d, e)) in
    let good : (l : ℕ) → IsGood f place n 0 f.ops l → times l (es ++ os) ≡ 1 = λ l g. elim g [
      | inl a ↦
          let h = a.1 in
          let c = ops_at f place n 0 f.ops (omega arith) w a.0 h in
          subst (λ (q : ℕ). times q (es ++ os) ≡ 1) (sym a.2) (below (3 * a.0) (omega arith) (subst (λ (q : ℕ). times (3 * q) os ≡ 1) (omega arith) c))
      | inr o ↦ let x = o.1 in below l (omega arith) o.2
    ] in
    go_append (λ l. times l (es ++ os) ≡ 1) es os (subst (λ (q : List ℕ). AllByRecursion (λ l. times l (es ++ os) ≡ 1) q) (sym m.goes) (top, tt))
    (all_implies (IsGood f place n 0 f.ops) (λ l. times l (es ++ os) ≡ 1) good (gos_of os) (ops_good f place n 0 f.ops (omega arith) w))

go_places : (n o : ℕ) (t : ℕ) (ops : List Op) → AllByRecursion (IsOpWithin t n o) ops → AllByRecursion (λ op. GoesBelow n op) ops
go_places n o t [] w = tt
go_places n o t (op ∷ ops) w = (w.0.goes, go_places n o t ops w.1)

-- the pieces of a function that is ready can be laid
pub function_sound : (p : Placed) → IsReady p → IsSound (function_pieces p)
function_sound p r = record {
  each = λ i x e. all_at IsSoundPiece (function_pieces p) (function_pieces_sound p r) i x e;
  labels = λ i cond l e. go_at (λ q. times q (function_pieces p) ≡ 1) (function_pieces p)
      (function_once p (go_places (length p.function.ops) p.function.outgoing (temporaries p.function) p.function.ops r.formed.ops)) i cond l e;
}

pub function_words : (p : Placed) → IsReady p → HasNumbers p.function → HasWords (function_pieces p)
function_words p r h = λ i rd value e. (all_at IsFine (function_pieces p) (function_fine p r h) i (Number rd value) e).1
