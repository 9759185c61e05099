-- A word in a place, and the others.
use Rattle.std.proofs.Common.{zero, suc, ◌≡◌, ◌≢◌, ℕ, ◌+◌, ◌-◌, ◌<◌, ◌≤◌, ◌^◌, List, length, Bool, true, false, nat_eq, refl, sym, ap, ◌∙◌, subst, arith, slice_set, slice_index, get_or-set_same, get_or-set_other}
use Rattle.std.proofs.lemmas.List.{length-set}
use Rattle.flat_ir.specs.declared.ops.Function.{Function}
use Rattle.register_assign.specs.declared.places.Place.{Place}
use Rattle.register_assign.specs.declared.places.Place.TheVariants.{Reg, Slot, Incoming}
use Rattle.register_assign.specs.Sound.{place_of, IsWithin, ArePlacesSound}
use Rattle.placed_frames.specs.Frames.{AreWords}
use Rattle.placed_frames.specs.Places.{Store, words}
use Rattle.placed_frames.proofs.Putting.{put, get, move, moved, IsRoom}

pub put_same : (f : Function) (p : Place) (v : ℕ) (s : Store) → IsWithin f p → IsRoom f s → get f p (put f p v s) ≡ v
put_same f (Reg r) v s i h = let e = h.four in get_or-set_same s.kept (r - 4) v 0 (omega arith)
put_same f (Slot j) v s i h = let l = h.long in ap (slice_index (slice_set s.words (f.outgoing + j) v)) (omega arith) ∙ get_or-set_same s.words
    (f.outgoing + j) v 0 (omega arith)
put_same f (Incoming j) v s i h = let l = h.long in ap (slice_index (slice_set s.words (words f + j) v)) (omega arith) ∙ get_or-set_same s.words (words f + j)
    v 0 (omega arith)

pub put_other : (f : Function) (p q : Place) (v : ℕ) (s : Store) → IsWithin f p → IsWithin f q → p ≢ q → get f p (put f q v s) ≡ get f p s
put_other f (Reg r) (Reg q) v s i j n = let m : r ≢ q = λ e. n (ap Reg e) in get_or-set_other s.kept (q - 4) (r - 4) v 0 (omega arith)
put_other f (Reg r) (Slot q) v s i j n = refl
put_other f (Reg r) (Incoming q) v s i j n = refl
put_other f (Slot p) (Reg q) v s i j n = refl
put_other f (Slot p) (Slot q) v s i j n = let m : p ≢ q = λ e. n (ap Slot e) in get_or-set_other s.words (f.outgoing + q) (0 + f.outgoing + p) v 0 (omega arith)
put_other f (Slot p) (Incoming q) v s i j n = get_or-set_other s.words (words f + q) (0 + f.outgoing + p) v 0 (omega arith)
put_other f (Incoming p) (Reg q) v s i j n = refl
put_other f (Incoming p) (Slot q) v s i j n = get_or-set_other s.words (f.outgoing + q) (0 + words f + p) v 0 (omega arith)
put_other f (Incoming p) (Incoming q) v s i j n = let m : p ≢ q = λ e. n (ap Incoming e) in get_or-set_other s.words (words f + q) (0 + words f + p) v 0
    (omega arith)

pub put_room : (f g : Function) (p : Place) (v : ℕ) (s : Store) → IsRoom f s → IsRoom f (put g p v s)
put_room f g (Reg r) v s h = record { four = length-set s.kept (r - 4) v ∙ h.four; long = h.long }
put_room f g (Slot j) v s h = let e = length-set s.words (g.outgoing + j) v in let l = h.long in record { four = h.four; long = omega arith }
put_room f g (Incoming j) v s h = let e = length-set s.words (words g + j) v in let l = h.long in record { four = h.four; long = omega arith }

-- a move changes no incoming word
pub move_incoming : (f : Function) (p : Place) (t u : ℕ) (s : Store) → IsWithin f p → slice_index (move f p t s).words (words f + u) ≡ slice_index s.words
    (words f + u)
move_incoming f (Reg r) t u s i = refl
move_incoming f (Slot j) t u s i = get_or-set_other s.words (f.outgoing + j) (words f + u) (slice_index s.words (words f + t)) 0 (omega arith)
move_incoming f (Incoming j) t u s i = refl

pub move_room : (f : Function) (p : Place) (t : ℕ) (s : Store) → IsRoom f s → IsRoom f (move f p t s)
move_room f (Reg r) t s h = put_room f f (Reg r) (slice_index s.words (words f + t)) s h
move_room f (Slot j) t s h = put_room f f (Slot j) (slice_index s.words (words f + t)) s h
move_room f (Incoming j) t s h = h

-- a parameter's move puts its word into its place
move_same : (f : Function) (p : Place) (t : ℕ) (s : Store) → IsWithin f p → IsRoom f s → ((j : ℕ) → p ≡ Incoming j → j ≡ t)
    → get f p (move f p t s) ≡ slice_index s.words (words f + t)
move_same f (Reg r) t s i h o = put_same f (Reg r) (slice_index s.words (words f + t)) s i h
move_same f (Slot j) t s i h o = put_same f (Slot j) (slice_index s.words (words f + t)) s i h
move_same f (Incoming j) t s i h o = let e = o j refl in ap (slice_index s.words) (omega arith)

move_other : (f : Function) (p q : Place) (t : ℕ) (s : Store) → IsWithin f p → IsWithin f q → p ≢ q → get f p (move f q t s) ≡ get f p s
move_other f p (Reg r) t s i j n = put_other f p (Reg r) (slice_index s.words (words f + t)) s i j n
move_other f p (Slot r) t s i j n = put_other f p (Slot r) (slice_index s.words (words f + t)) s i j n
move_other f p (Incoming r) t s i j n = refl

first_by : (f : Function) (place : ℕ → Place) (t n u : ℕ) (s s1 : Store) → (b : Bool) → nat_eq u t ≡ b
    → get f (place t) (moved f place (t + 1) n s1) ≡ slice_index s.words (words f + t)
    → (u ≢ t → get f (place u) (moved f place (t + 1) n s1) ≡ slice_index s.words (words f + u))
    → get f (place u) (moved f place (t + 1) n s1) ≡ slice_index s.words (words f + u)
first_by f place t n u s s1 true e x y = let z : u ≡ t = grind arith in
    subst (λ w. get f (place w) (moved f place (t + 1) n s1) ≡ slice_index s.words (words f + w)) (sym z) x
first_by f place t n u s s1 false e x y = y (λ q. grind arith)

-- After the moves from t on, the parameters from t on stand in their places, and what stood in a place of none of them stays.
pub moved_params : (f : Function) (ps : List Place) → ArePlacesSound f ps → (t n : ℕ) (s : Store) → t + n ≡ f.params → IsRoom f s
    → ((u : ℕ) → t ≤ u → u < f.params → get f (place_of ps u) (moved f (place_of ps) t n s) ≡ slice_index s.words (words f + u))
    × ((p : Place) → IsWithin f p → ((u : ℕ) → t ≤ u → u < f.params → p ≢ place_of ps u) → get f p (moved f (place_of ps) t n s) ≡ get f p s)
    × IsRoom f (moved f (place_of ps) t n s)
moved_params f ps a t zero s e h = ((λ u l m. omega arith), (λ p i n. refl), h)
moved_params f ps a t (suc n) s e h =
    let i = a.within t (omega arith) in
    let s1 = move f (place_of ps t) t s in
    let ih = moved_params f ps a (t + 1) n s1 (omega arith) (move_room f (place_of ps t) t s h) in (
      λ u l m. first_by f (place_of ps) t n u s s1 (nat_eq u t) refl
          (ih.1 (place_of ps t) i (λ w l' m' e'. (let q : t ≡ w = a.apart t w (omega arith) m' e' in let r : ⊥ = omega arith in r)) ∙ move_same f
          (place_of ps t) t s i h (λ j q. a.stays t j (omega arith) q))
          (λ d. ih.0 u (omega arith) m ∙ move_incoming f (place_of ps t) t u s i),
      λ p j k. ih.1 p j (λ w l m. k w (omega arith) m) ∙ move_other f p (place_of ps t) t s j i (k t (omega arith) (omega arith)),
      ih.2,
    )

set_small_by : (xs : List ℕ) (k w i : ℕ) → AreWords xs → w < 2 ^ 32 → k < length xs → (b : Bool) → nat_eq i k ≡ b → slice_index (slice_set xs k w) i < 2 ^ 32
set_small_by xs k w i h l m true e = let z : i ≡ k = grind arith in subst (λ n. n < 2 ^ 32)
    (sym (ap (slice_index (slice_set xs k w)) z ∙ get_or-set_same xs k w 0 m)) l
set_small_by xs k w i h l m false e = let z : i ≢ k = grind arith in subst (λ n. n < 2 ^ 32) (sym (get_or-set_other xs k i w 0 z)) (h i)

-- registers still hold words
pub put_small : (f : Function) (p : Place) (v : ℕ) (s : Store) → IsWithin f p → IsRoom f s → AreWords s.kept → v < 2 ^ 32 → AreWords (put f p v s).kept
put_small f (Reg r) v s i h a l = λ k. let e = h.four in set_small_by s.kept (r - 4) v k a l (omega arith) (nat_eq k (r - 4)) refl
put_small f (Slot j) v s i h a l = a
put_small f (Incoming j) v s i h a l = a

move_small : (f : Function) (p : Place) (t : ℕ) (s : Store) → IsWithin f p → IsRoom f s → AreWords s.kept → slice_index s.words (words f + t) < 2 ^ 32
    → AreWords (move f p t s).kept
move_small f (Reg r) t s i h a l = put_small f (Reg r) (slice_index s.words (words f + t)) s i h a l
move_small f (Slot j) t s i h a l = a
move_small f (Incoming j) t s i h a l = a

pub moved_small : (f : Function) (place : ℕ → Place) (t n : ℕ) (s : Store) → ((u : ℕ) → u < f.params → IsWithin f (place u)) → t + n ≡ f.params → IsRoom f s
    → AreWords s.kept
    → ((u : ℕ) → u < f.params → slice_index s.words (words f + u) < 2 ^ 32) → AreWords (moved f place t n s).kept
moved_small f place t zero s inside e h a l = a
moved_small f place t (suc n) s inside e h a l =
    let i = inside t (omega arith) in
    moved_small f place (t + 1) n (move f (place t) t s) inside (omega arith) (move_room f (place t) t s h)
    (move_small f (place t) t s i h a (l t (omega arith)))
    (λ u m. subst (λ q. q < 2 ^ 32) (sym (move_incoming f (place t) t u s i)) (l u m))
