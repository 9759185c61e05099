-- The arguments of a service, in r0 and on.
use Rattle.std.proofs.Common.{zero, suc, ◌≡◌, ℕ, ◌+◌, ◌*◌, ◌<◌, ◌≤◌, List, [], ◌∷◌, ◌++◌, length, map, Some, refl, sym, ap, ◌∙◌, subst, arith, slice_get, slice_index, get_or-set_same, get_or-set_other}
use Rattle.std.specs.Prelude.{Contains, slice_index_or}
use Rattle.std.specs.List.{AllByRecursion}
use Rattle.std.proofs.lemmas.List.{length-set}
use Rattle.board_world.specs.Observations.{ByteList}
use Rattle.bank_model.specs.Fibers.{Fiber, Shared}
use Rattle.thumb_layout.specs.declared.pieces.Piece.{Piece}
use Rattle.flat_ir.specs.declared.ops.Op.{Op}
use Rattle.flat_ir.specs.declared.ops.Op.TheVariants.{Ask}
use Rattle.flat_ir.specs.declared.ops.FlatCode.{FlatCode}
use Rattle.flat_ir.specs.Liveness.{IsLiveAt}
use Rattle.flat_ir.specs.WellFormed.{temporaries}
use Rattle.register_assign.specs.declared.places.Placed.{Placed}
use Rattle.register_assign.specs.Sound.{place_of}
use Rattle.register_assign.specs.Unread.{is_unread}
use Rattle.sts_syntax.specs.TypeRules.{entry}
use Rattle.sts_meaning.specs.Values.{Value}
use Rattle.sts_meaning.specs.Heaps.{FlatHeap}
use Rattle.flat_meaning.specs.Frames.{FlatFrame}
use Rattle.thumb_emit.specs.Emit.{loads, asks}
use Rattle.thumb_emit.specs.Frame.{from_place, lands}
use Rattle.thumb_emit.specs.InFlash.{Addresses}
use Rattle.placed_frames.proofs.Laws.{View, with_low}
use Rattle.emit_simulation.proofs.Laid.{store_of}
use Rattle.emit_simulation.specs.Starts.{start}
use Rattle.emit_simulation.specs.Ties.{IsAt, IsShared, IsImage, Means}
use Rattle.emit_simulation.proofs.AtOps.{view_in}
use Rattle.emit_simulation.proofs.Placed.{store_low}
use Rattle.emit_simulation.proofs.Ops.{here, word, word_means, reads_word}
use Rattle.emit_simulation.proofs.Walk.{Got, pieces, begun, one}

-- behind the first of two lists
pub behind_front : (xs ys : List Piece) (y : Piece) → slice_get (xs ++ y ∷ ys) (length xs) ≡ Some y
behind_front [] ys y = refl
behind_front (x ∷ xs) ys y = behind_front xs ys y

append_one : (xs ys : List Piece) (y : Piece) → xs ++ y ∷ ys ≡ (xs ++ y ∷ []) ++ ys
append_one [] ys y = refl
append_one (x ∷ xs) ys y = ap (λ l. x ∷ l) (append_one xs ys y)

pub one_longer : (xs : List Piece) (y : Piece) → length (xs ++ y ∷ []) ≡ length xs + 1
one_longer [] y = refl
one_longer (x ∷ xs) y = let l = one_longer xs y in omega arith

-- an entry of a list is one of it
among : (ts : List ℕ) (i u : ℕ) → slice_get ts i ≡ Some u → Contains ts u
among ts i u e = (i, below ts i u e, there ts i u e)
  where
    below : (ts : List ℕ) (i u : ℕ) → slice_get ts i ≡ Some u → i < length ts
    below [] i u e = cc
    below (t ∷ ts) zero u e = omega arith
    below (t ∷ ts) (suc i) u e = let l = below ts i u e in omega arith

    there : (ts : List ℕ) (i u : ℕ) → slice_get ts i ≡ Some u → slice_index_or ts i u ≡ u
    there [] i u e = cc
    there (t ∷ ts) zero u e = cc
    there (t ∷ ts) (suc i) u e = there ts i u e

nothing : (i u : ℕ) → slice_get {X = ℕ} [] i ≡ Some u → ⊥
nothing i u e = cc

all_below : (n : ℕ) (ts : List ℕ) → AllByRecursion (λ t. t < n) ts → (i u : ℕ) → slice_get ts i ≡ Some u → u < n
all_below n [] h i u e = cc
all_below n (t ∷ ts) h zero u e = let z : t ≡ u = (cc) in subst (λ k. k < n) z h.0
all_below n (t ∷ ts) h (suc i) u e = all_below n ts h.1 i u e

module _ (C : FlatCode) (placed : List Placed) (flash : List ℕ) (a : Addresses) (texts : List ByteList) (image : IsImage C placed flash a texts)
    (to service : ℕ) (args : List ℕ) (p : Placed) (f : FlatFrame) (callers : List FlatFrame) (base : ℕ) (c : Fiber) (used : ℕ) (h : FlatHeap) (t : Shared)
    (e : slice_get p.function.ops f.place ≡ Some (Ask to service args))
    (x : IsAt C placed flash a p (λ u. IsLiveAt p.function.ops u f.place) f callers base (start p.function (place_of p.places) f.place) c)
    (sh : IsShared C placed flash a used h t) where
  abbrev op : Op
  op = Ask to service args

  abbrev v0 : View
  v0 = view_in c t

  abbrev get : ℕ → ℕ → Piece
  get rd u = from_place p.function rd (place_of p.places u)

  abbrev tail : List Piece
  tail = asks (is_unread p.function f.place) service ++ (lands p.function (is_unread p.function f.place) (place_of p.places to) ∷ [])

  -- each value stands in its register
  abbrev pub Stand : List ℕ → ℕ → View → Type 0
  Stand ts k v = (i u : ℕ) → slice_get ts i ≡ Some u → Means C placed flash a (f.temps u) (slice_index v.low (k + i))

  pub record Loaded (k : ℕ) : Type 0 where
    pub seen : View
    pub got : Got C placed flash a texts image p f callers base c used h t op e x sh k (2 * k) seen
    pub store : store_of seen ≡ store_of v0
    pub low : length seen.low ≡ 13
    pub globals : seen.globals ≡ t.globals
    pub arena : seen.arena ≡ t.arena

  loads_from : (pre : List Piece) (k : ℕ) (ts : List ℕ) → length pre ≡ k → pieces C placed flash a texts image p f callers base c used h t op e x sh ≡ pre ++
      (loads p.function (place_of p.places) k ts ++ tail) → k + length ts ≤ 4 → ((i u : ℕ) → slice_get ts i ≡ Some u → (u < temporaries p.function) × Contains
      args u)
      → (l : Loaded k) → (m : Loaded (k + length ts)) × Stand ts k m.seen × ((j : ℕ) → j < k → slice_index (m.seen).low j ≡ slice_index (l.seen).low j)
  loads_from pre k [] n ps few ok l =
      let z : k ≡ k + 0 = omega arith in
      subst (λ j. (m : Loaded j) × Stand [] k m.seen × ((j : ℕ) → j < k → slice_index (m.seen).low j ≡ slice_index (l.seen).low j)) z
      (l, λ i u e. absurd (nothing i u e), λ j q. refl)
  loads_from pre k (u ∷ ts) n ps few ok l =
      let o = ok 0 u refl in
      let v = l.seen in
      let w = word C placed flash a texts image p f callers base c used h t op e x sh u in
      let v1 = with_low k w v in
      let q : slice_get (pieces C placed flash a texts image p f callers base c used h t op e x sh) k ≡ Some (get k u) = ap (λ g. slice_get g k) ps ∙
      (ap (slice_get (pre ++ (get k u ∷ (loads p.function (place_of p.places) (k + 1) ts ++ tail)))) (sym n) ∙ behind_front pre
      (loads p.function (place_of p.places) (k + 1) ts ++ tail) (get k u)) in
      let g = one C placed flash a texts image p f callers base c used h t op e x sh k (2 * k) v v1 (get k u) l.got q
      (reads_word C placed flash a texts image p f callers base c used h t op e x sh u k v o.0 o.1 (omega arith) l.store) in
      let len = l.low in
      let two : 2 * k + 2 ≡ 2 * (k + 1) = omega arith in
      let l1 : Loaded (k + 1) = record {
        seen = v1;
        got = subst (λ m. Got C placed flash a texts image p f callers base c used h t op e x sh (k + 1) m v1) two g;
        store = store_low k w v (omega arith) ∙ l.store;
        low = length-set v.low k w ∙ l.low;
        globals = l.globals;
        arena = l.arena;
      } in
      let r = loads_from (pre ++ get k u ∷ []) (k + 1) ts (let y = one_longer pre (get k u) in omega arith)
      (ps ∙ append_one pre (loads p.function (place_of p.places) (k + 1) ts ++ tail) (get k u)) (omega arith) (λ i s e. ok (suc i) s e) l1 in
      let z : k + 1 + length ts ≡ k + suc (length ts) = omega arith in
      let here_is : slice_index ((r.0).seen).low k ≡ w = r.2 k (omega arith) ∙ get_or-set_same v.low k w 0 (omega arith) in
      subst (λ j. (m : Loaded j) × Stand (u ∷ ts) k m.seen × ((j : ℕ) → j < k → slice_index (m.seen).low j ≡ slice_index v.low j)) z (
        r.0,
        stand (r.0).seen here_is (word_means C placed flash a texts image p f callers base c used h t op e x sh u o.0 o.1) r.1,
        λ j q. r.2 j (omega arith)
            ∙ get_or-set_other v.low k j w 0 (omega arith),
      )
    where
      stand : (m : View) → slice_index m.low k ≡ word C placed flash a texts image p f callers base c used h t op e x sh u → Means C placed flash a (f.temps u)
          (word C placed flash a texts image p f callers base c used h t op e x sh u) → Stand ts (k + 1) m → Stand (u ∷ ts) k m
      stand m s i r zero s' e = (let y : u ≡ s' = (cc) in let z : k + 0 ≡ k = omega arith in subst (λ b. Means C placed flash a (f.temps b)
          (slice_index m.low (k + 0))) y (subst (Means C placed flash a (f.temps u)) (sym (ap (slice_index m.low) z ∙ s)) i))
      stand m s i r (suc j) s' e = (let z : k + 1 + j ≡ k + suc j = omega arith in subst (λ b. Means C placed flash a (f.temps s') (slice_index m.low b)) z
          (r j s' e))

  args_below : (i u : ℕ) → slice_get args i ≡ Some u → (u < temporaries p.function) × Contains args u
  args_below i u g = let n = ((here C placed flash a texts image p f callers base c used h t op e x sh).op_within).names in
      (all_below (temporaries p.function) args n.1 i u g, among args i u g)

  mapped : (ts : List ℕ) (i : ℕ) (y : Value) → entry (map f.temps ts) i ≡ Some y → (u : ℕ) × (slice_get ts i ≡ Some u) × (f.temps u ≡ y)
  mapped [] i y e = cc
  mapped (u ∷ ts) zero y e = (u, refl, (cc))
  mapped (u ∷ ts) (suc i) y e = mapped ts i y e

  -- all arguments stand in their registers
  pub loaded : (m : Loaded (length args)) × ((i : ℕ) (y : Value) → entry (map f.temps args) i ≡ Some y → Means C placed flash a y (slice_index (m.seen).low i))
  loaded =
      let few = (((here C placed flash a texts image p f callers base c used h t op e x sh).op_within).ranges).1 in
      let l0 : Loaded 0 = record {
        seen = v0;
        got = begun C placed flash a texts image p f callers base c used h t op e x sh;
        store = refl;
        low = x.registers;
        globals = refl;
        arena = refl;
      } in
      let z : 0 + length args ≡ length args = omega arith in
      let r = loads_from [] 0 args refl refl (omega arith) args_below l0 in
      subst (λ j. (m : Loaded j) × ((i : ℕ) (y : Value) → entry (map f.temps args) i ≡ Some y → Means C placed flash a y (slice_index (m.seen).low i))) z (
        r.0,
        λ i y e. (let m = mapped args i y e in let q : 0 + i ≡ i = omega arith in subst (λ (b : Value). Means C placed flash a b
            (slice_index ((r.0).seen).low i)) m.2 (subst (λ j. Means C placed flash a (f.temps m.0) (slice_index ((r.0).seen).low j)) q (r.1 i m.0 m.1))),
      )
