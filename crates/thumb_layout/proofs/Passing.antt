-- From one piece to the next, as the code goes.
use Rattle.std.proofs.Common.{suc, ◌≡◌, ℕ, ◌+◌, ◌*◌, ◌%◌, ◌≤◌, ◌<◌, List, [], ◌∷◌, ◌++◌, length, drop, get_or, drop-cons, map, Bool, true, false, cond, refl, sym, ap, ◌∙◌, subst, arith}
use Rattle.thumb_layout.specs.declared.pieces.Piece.{Piece}
use Rattle.thumb_layout.specs.declared.waits.Waits.{Waits}
use Rattle.thumb_layout.specs.declared.places.PieceOffsets.{PieceOffsets}
use Rattle.thumb_layout.specs.Pieces.{goes_on}
use Rattle.thumb_layout.specs.Layout.{Wait, Chunk, size, loads_at, over_pool, end_of, chunk, form_of, rest_of, pass, chunks}
use Rattle.thumb_layout.specs.Rounds.{IsLimited, total_most}
use Rattle.thumb_layout.specs.Cells.{pool_at, pools}
use Rattle.thumb_layout.specs.Placing.{Counts, place_of, chunk_pools, is_late, pools_before, IsEntered, IsPassed}
use Rattle.thumb_layout.proofs.Chunks.{Test, chunk_by, Behind, chunk_stood, append_none}
use Rattle.thumb_layout.proofs.Lengths.{end_by, first_limited, rest_limited}

assoc : {A : Type 0} (a b c : List A) → (a ++ b) ++ c ≡ a ++ (b ++ c)
assoc [] b c = refl
assoc (x ∷ a) b c = ap (λ q. x ∷ q) (assoc a b c)

late_by : (b : Bool) → b ≡ false → cond b false true ≡ true
late_by true e = sym e
late_by false e = refl

pub late_is : (x : Piece) (f : ℕ) (ws : List Wait) (at : ℕ) → Test x f ws at ≡ false → is_late x f ws at ≡ true
late_is x f ws at e = late_by (Test x f ws at) e

abbrev Passed : Chunk → PieceOffsets → ℕ → Waits → List ℕ → List ℕ → Type 0
Passed c place at w old new = IsPassed c place at w × (new ≡ old ++ chunk_pools c)

on_by : (b : Bool) (x : Piece) (f : ℕ) (ws : List Wait) (at body : ℕ) (w : Waits) (old new : List ℕ)
    → body ≡ cond (cond b false true) (over_pool (at + 2) ws) at → Counts w (cond (cond b false true) [] ws ++ loads_at x body) → new ≡ old ++ cond (cond b false true) (pool_at (at + 2) ws) []
    → Passed (chunk_by b true x f ws at) (record { at = at; body = body }) (body + size x f) w old new
on_by true x f ws at body w old new e h p = ((ap (λ n. record { at = at; body = n }) e, ap (λ n. n + size x f) e, subst (λ n. Counts w (ws ++ loads_at x n)) e h), p)
on_by false x f ws at body w old new e h p =
    ((ap (λ n. record { at = at; body = n }) e, ap (λ n. n + size x f) e, subst (λ n. Counts w ([] ++ loads_at x n)) e h), p ∙ ap (λ q. old ++ q) (sym (append_none (pool_at (at + 2) ws))))

off_by : (b : Bool) (x : Piece) (f : ℕ) (ws : List Wait) (at body : ℕ) (w w' : Waits) (old mid new : List ℕ) (end : ℕ)
    → body ≡ cond (cond b false true) (over_pool (at + 2) ws) at → Counts w (cond (cond b false true) [] ws ++ loads_at x body) → mid ≡ old ++ cond (cond b false true) (pool_at (at + 2) ws) []
    → ((vs : List Wait) → Counts w vs → (end ≡ over_pool (body + size x f) vs) × (new ≡ mid ++ pool_at (body + size x f) vs)) → Counts w' []
    → Passed (chunk_by b false x f ws at) (record { at = at; body = body }) end w' old new
off_by true x f ws at body w w' old mid new end e h p k z =
    let r = k (ws ++ loads_at x body) h in (
      (ap (λ n. record { at = at; body = n }) e, r.0 ∙ ap (λ n. over_pool (n + size x f) (ws ++ loads_at x n)) e, z),
      r.1 ∙ (ap (λ q. q ++ pool_at (body + size x f) (ws ++ loads_at x body)) (p ∙ append_none old) ∙ ap (λ n. old ++ pool_at (n + size x f) (ws ++ loads_at x n)) e),
    )
off_by false x f ws at body w w' old mid new end e h p k z =
    let r = k ([] ++ loads_at x body) h in (
      (ap (λ n. record { at = at; body = n }) e, r.0 ∙ ap (λ n. over_pool (n + size x f) ([] ++ loads_at x n)) e, z),
      r.1 ∙ (ap (λ q. q ++ pool_at (body + size x f) ([] ++ loads_at x body)) p ∙ (assoc (old) (pool_at (at + 2) ws) _ ∙ ap (λ n. old ++ (pool_at (at + 2) ws ++ pool_at (n + size x f) ([] ++ loads_at x n))) e)),
    )

pub passed_on : (x : Piece) (f : ℕ) (ws : List Wait) (at body : ℕ) (w : Waits) (old new : List ℕ) → goes_on x ≡ true
    → IsEntered x f ws at body w → new ≡ old ++ pools_before x f ws at → Passed (chunk x f ws at) (record { at = at; body = body }) (body + size x f) w old new
passed_on x f ws at body w old new g h p = subst (λ q. Passed (chunk_by (Test x f ws at) q x f ws at) (record { at = at; body = body }) (body + size x f) w old new) (sym g) (on_by (Test x f ws at) x f ws at body w old new h.0 h.1 p)

pub passed_off : (x : Piece) (f : ℕ) (ws : List Wait) (at body : ℕ) (w w' : Waits) (old mid new : List ℕ) (end : ℕ) → goes_on x ≡ false
    → IsEntered x f ws at body w → mid ≡ old ++ pools_before x f ws at
    → ((vs : List Wait) → Counts w vs → (end ≡ over_pool (body + size x f) vs) × (new ≡ mid ++ pool_at (body + size x f) vs)) → Counts w' []
    → Passed (chunk x f ws at) (record { at = at; body = body }) end w' old new
passed_off x f ws at body w w' old mid new end g h p k z = subst (λ q. Passed (chunk_by (Test x f ws at) q x f ws at) (record { at = at; body = body }) end w' old new) (sym g) (off_by (Test x f ws at) x f ws at body w w' old mid new end h.0 h.1 p k z)

-- The loop over pieces: what is placed, and what is left to place, is the whole.
pub record PlaceLoop (xs : List Piece) (fs : List ℕ) (rest : List Piece) (left : List ℕ) (places : List PieceOffsets) (starts : List ℕ) (at : ℕ) (w : Waits) : Type 0 where
  pub waits : List Wait
  pub counts : Counts w waits
  pub even : at % 2 ≡ 0
  pub behind : Behind at waits
  pub bound : at + 8 * length waits + total_most rest ≤ total_most xs
  pub limited : IsLimited rest left
  pub placed : places ++ map place_of (pass rest left waits at) ≡ map place_of (chunks xs fs)
  pub pooled : starts ++ pools (pass rest left waits at) ≡ pools (chunks xs fs)
  pub ended : end_by (pass rest left waits at) (length rest) ≡ end_by (chunks xs fs) (length xs)

pub place_init : (xs : List Piece) (fs : List ℕ) (w : Waits) → IsLimited xs fs → Counts w [] → PlaceLoop xs fs xs fs [] [] 0 w
place_init xs fs w l h = record { waits = []; counts = h; even = refl; behind = tt; bound = omega arith; limited = l; placed = refl; pooled = refl; ended = refl }

pub place_step : (xs : List Piece) (fs : List ℕ) (x : Piece) (rest : List Piece) (left : List ℕ) (places : List PieceOffsets) (starts : List ℕ) (at : ℕ) (w : Waits) (h : PlaceLoop xs fs (x ∷ rest) left places starts at w)
    → (place : PieceOffsets) (at' : ℕ) (w' : Waits) (starts' : List ℕ) → Passed (chunk x (form_of left) h.waits at) place at' w' starts starts'
    → PlaceLoop xs fs rest (rest_of left) (places ++ place ∷ []) starts' at' w'
place_step xs fs x rest left places starts at w h place at' w' starts' p =
    let c = chunk x (form_of left) h.waits at in
    let s = chunk_stood x (form_of left) h.waits at h.even h.behind in
    let m = s.end_most (first_limited x rest left h.limited) in
    let b = h.bound in
    let e : at' ≡ end_of c = (p.0).1 in
    let cs = pass rest (rest_of left) c.waiting (end_of c) in
    record {
      waits = c.waiting;
      counts = (p.0).2;
      even = ap (λ n. n % 2) e ∙ s.end_even;
      behind = subst (λ n. Behind n c.waiting) (sym e) s.waiting_loads;
      bound = omega arith;
      limited = rest_limited x rest left h.limited;
      placed = ap (λ n. (places ++ place ∷ []) ++ map place_of (pass rest (rest_of left) c.waiting n)) e ∙ (assoc (places) (place ∷ []) _ ∙ (ap (λ q. places ++ (q ∷ map place_of cs)) ((p.0).0) ∙ h.placed));
      pooled = ap (λ n. starts' ++ pools (pass rest (rest_of left) c.waiting n)) e ∙ (ap (λ q. q ++ pools cs) p.1 ∙ (assoc (starts) (chunk_pools c) _ ∙ (ap (λ q. starts ++ q) (assoc (pool_at (c.at + 2) c.before) (pool_at c.behind c.after) _) ∙ h.pooled)));
      ended = ap (λ n. end_by (pass rest (rest_of left) c.waiting n) (length rest)) e ∙ h.ended;
    }

drop_cons : {A : Type 0} (l : List A) (i : ℕ) (d : A) → i < length l → drop i l ≡ get_or l i d ∷ drop (i + 1) l
drop_cons l i d h = let e : i + 1 ≡ suc i = omega arith in rw e (drop-cons l i d h)

pub place_step_at : (xs : List Piece) (fs : List ℕ) (i : ℕ) (d : Piece) (places : List PieceOffsets) (starts : List ℕ) (at : ℕ) (w : Waits) → i < length xs → length fs ≡ length xs
    → PlaceLoop xs fs (drop i xs) (drop i fs) places starts at w → (place : PieceOffsets) (at' : ℕ) (w' : Waits) (starts' : List ℕ)
    → ((ws : List Wait) → Counts w ws → IsPassed (chunk (get_or xs i d) (get_or fs i 0) ws at) place at' w')
    → ((ws : List Wait) → Counts w ws → starts' ≡ starts ++ chunk_pools (chunk (get_or xs i d) (get_or fs i 0) ws at))
    → PlaceLoop xs fs (drop (i + 1) xs) (drop (i + 1) fs) (places ++ place ∷ []) starts' at' w'
place_step_at xs fs i d places starts at w l e h place at' w' starts' p q =
    let ex : drop i xs ≡ get_or xs i d ∷ drop (i + 1) xs = drop_cons xs i d l in
    let ef : drop i fs ≡ get_or fs i 0 ∷ drop (i + 1) fs = drop_cons fs i 0 (omega arith) in
    let h1 : PlaceLoop xs fs (get_or xs i d ∷ drop (i + 1) xs) (drop i fs) places starts at w = subst (λ r. PlaceLoop xs fs r (drop i fs) places starts at w) ex h in
    let h2 : PlaceLoop xs fs (get_or xs i d ∷ drop (i + 1) xs) (get_or fs i 0 ∷ drop (i + 1) fs) places starts at w = subst (λ r. PlaceLoop xs fs (get_or xs i d ∷ drop (i + 1) xs) r places starts at w) ef h1 in
    place_step xs fs (get_or xs i d) (drop (i + 1) xs) (get_or fs i 0 ∷ drop (i + 1) fs) places starts at w h2 place at' w' starts' (p h2.waits h2.counts, q h2.waits h2.counts)
