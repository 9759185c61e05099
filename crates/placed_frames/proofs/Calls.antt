-- An op's result, a call and a return, in the frames.
use Rattle.std.proofs.Common.{zero, suc, ◌≡◌, ◌≢◌, ℕ, ◌+◌, ◌-◌, ◌<◌, ◌≤◌, ◌^◌, inl, inr, List, [], ◌∷◌, ◌++◌, length, drop, Bool, true, false, cond, nat_eq, nat_lt, if◌then◌else◌, refl, sym, ◌∙◌, subst, arith, slice_set, slice_index, get_or-set_other}
use Rattle.std.proofs.lemmas.Bool.Decides.{nat_tests}
use Rattle.std.proofs.lemmas.List.{length-drop, length-append, get_or-drop, get_or_append_left, get_or-append-add}
use Rattle.flat_ir.specs.declared.ops.Function.{Function}
use Rattle.flat_ir.specs.WellFormed.{temporaries}
use Rattle.flat_ir.specs.Liveness.{IsLiveAt}
use Rattle.register_assign.specs.declared.places.Place.{Place}
use Rattle.register_assign.specs.declared.places.Place.TheVariants.{Reg, Slot, Incoming}
use Rattle.register_assign.specs.Sound.{place_of, IsWithin, ArePlacesSound}
use Rattle.register_assign.specs.Saving.{registers_to, saves}
use Rattle.register_assign.proofs.Laws.{saves_each}
use Rattle.placed_frames.specs.Places.{Store, own, words}
use Rattle.placed_frames.proofs.Putting.{put, get, move, moved, IsRoom}
use Rattle.placed_frames.specs.Frames.{Frame, saved, outgoing_of, HasFrame, HasFrames, Running, AreWords}
use Rattle.placed_frames.proofs.Puts.{put_same, put_other, put_room, put_small, moved_params, moved_small}
use Rattle.placed_frames.proofs.Kept.{four, saved_set, saved_changed, frames_stay, frames_shift, frames_room, Shifted, at_sum}

-- a value for one temporary
abbrev pub with_value : {V : Type 0} → ℕ → V → (ℕ → V) → ℕ → V
with_value i v names j = cond (nat_eq j i) v (names j)

put_link : (f : Function) (p : Place) (v : ℕ) (s : Store) → IsWithin f p → slice_index (put f p v s).words (own f + 4) ≡ slice_index s.words (own f + 4)
put_link f (Reg r) v s i = refl
put_link f (Slot j) v s i = get_or-set_other s.words (f.outgoing + j) (own f + 4) v 0 (omega arith)
put_link f (Incoming j) v s i = get_or-set_other s.words (words f + j) (own f + 4) v 0 (omega arith)

-- Behind PUSH and SUB SP a frame stands in front of what was there: n registers are kept in it, and LR.
pub record HasPushed (fn : Function) (n : ℕ) (kept : List ℕ) (lr : ℕ) (ws ws' : List ℕ) : Type 0 where
  pub long : length ws' ≡ words fn + length ws
  pub registers : (i : ℕ) → i < n → slice_index ws' (own fn + (4 - n) + i) ≡ slice_index kept i
  pub link : slice_index ws' (own fn + 4) ≡ lr
  pub behind : (i : ℕ) → slice_index ws' (words fn + i) ≡ slice_index ws i

pub pushed : (fn : Function) (n : ℕ) (kept : List ℕ) (lr : ℕ) (ws new vs : List ℕ) → n ≤ 4 → length new ≡ own fn + (4 - n) → length vs ≡ n + 1
    → ((i : ℕ) → i < n → slice_index vs i ≡ slice_index kept i) → slice_index vs n ≡ lr → HasPushed fn n kept lr ws (new ++ (vs ++ ws))
pushed fn n kept lr ws new vs few ln lv k e =
    let all = new ++ (vs ++ ws) in
    let l1 = length-append new (vs ++ ws) in
    let l2 = length-append vs ws in
    let at : (i j : ℕ) → j ≡ length new + i → slice_index all j ≡ slice_index (vs ++ ws) i
    = λ i j q. at_sum all j (length new + i) q ∙ get_or-append-add new (vs ++ ws) i 0 in
    let front : (i : ℕ) → i < length vs → slice_index (vs ++ ws) i ≡ slice_index vs i = λ i l. get_or_append_left vs ws 0 i l in
    record {
      long = omega arith;
      registers = λ i l. at i (own fn + (4 - n) + i) (omega arith) ∙ (front i (omega arith) ∙ k i l);
      link = at n (own fn + 4) (omega arith) ∙ (front n (omega arith) ∙ e);
      behind = λ i. at (length vs + i) (words fn + i) (omega arith) ∙ get_or-append-add vs ws i 0;
    }

-- what the new frame keeps are the caller's r4 to r7
word_pushed : (fn : Function) (n : ℕ) (kept : List ℕ) (lr : ℕ) (ws ws' : List ℕ) → HasPushed fn n kept lr ws ws' → (i w : ℕ) → w ≡ slice_index kept i
    → (b : Bool) → nat_lt i n ≡ b → w ≡ (if b then slice_index ws' (0 + (own fn + (4 - n)) + i) else slice_index kept i)
word_pushed fn n kept lr ws ws' x i w e true q =
    let l : i < n = grind (arith, nat_tests) in
    e ∙ (sym (x.registers i l) ∙ at_sum ws' (own fn + (4 - n) + i) (0 + (own fn + (4 - n)) + i) (omega arith))
word_pushed fn n kept lr ws ws' x i w e false q = e

saved_pushed : (fn : Function) (place : ℕ → Place) (a b c d lr : ℕ) (ws ws' : List ℕ)
    → HasPushed fn (saves fn place) (a ∷ (b ∷ (c ∷ (d ∷ [])))) lr ws ws' → (a ∷ (b ∷ (c ∷ (d ∷ [])))) ≡ saved fn place (a ∷ (b ∷ (c ∷ (d ∷ [])))) ws' 0
saved_pushed fn place a b c d lr ws ws' x =
    let n = saves fn place in let kept = a ∷ (b ∷ (c ∷ (d ∷ []))) in
    four _ _ _ _ _ _ _ _ (word_pushed fn n kept lr ws ws' x 0 a refl (nat_lt 0 n) refl) (word_pushed fn n kept lr ws ws' x 1 b refl (nat_lt 1 n) refl)
    (word_pushed fn n kept lr ws ws' x 2 c refl (nat_lt 2 n) refl) (word_pushed fn n kept lr ws ws' x 3 d refl (nat_lt 3 n) refl)

module _ {V : Type 0} (Is : V → ℕ → Type 0) (code : List Function) (places : ℕ → ℕ → Place) (return_to : List (Frame V) → ℕ) where
  abbrev Frames : List ℕ → List (Frame V) → List ℕ → ℕ → Type 0
  Frames ws fs kept k = HasFrames Is code places return_to ws fs kept k

  abbrev One : List ℕ → Function → (ℕ → Place) → (ℕ → Type 0) → (ℕ → V) → List (Frame V) → List ℕ → ℕ → Type 0
  One ws fn place need temps fs kept k = HasFrame Is code places return_to ws fn place need temps fs kept k

  abbrev Runs : Function → (ℕ → Place) → (ℕ → Type 0) → (ℕ → V) → List (Frame V) → Store → Type 0
  Runs fn place need temps fs s = Running Is code places return_to fn place need temps fs s

  pub room : (fn : Function) (place : ℕ → Place) (need : ℕ → Type 0) (temps : ℕ → V) (fs : List (Frame V)) (s : Store) → Runs fn place need temps fs s
      → IsRoom fn s
  room fn place need temps fs s x =
      let r = frames_room Is code places return_to s.words fs (saved fn place s.kept s.words 0) (words fn) x.above in
      let p = (x.frame).params in
      record { four = x.four; long = omega arith }

  -- Above the running frame all is as it should be, and what its registers had before is kept.
  abbrev Above : Function → (ℕ → Place) → List (Frame V) → Store → Type 0
  Above fn place fs s = Frames s.words fs (saved fn place s.kept s.words 0) (words fn)

  put_above : (fn : Function) (place : ℕ → Place) (p : Place) (v : ℕ) (fs : List (Frame V)) (s : Store) → IsWithin fn p → registers_to p ≤ saves fn place
      → fn.params ≤ outgoing_of code fs → Above fn place fs s → Above fn place fs (put fn p v s)
  put_above fn place (Reg r) v fs s i n l x =
      let a = i.0 in
      subst (λ q. Frames s.words fs q (words fn))
      (saved_changed fn place s.kept (slice_set s.kept (r - 4) v) s.words 0 (λ j m. sym (get_or-set_other s.kept (r - 4) j v 0 (omega arith)))) x
  put_above fn place (Slot j) v fs s i n l x =
      subst (λ q. Frames (slice_set s.words (fn.outgoing + j) v) fs q (words fn))
      (sym (saved_set fn place s.kept s.words 0 (fn.outgoing + j) v (inl (omega arith))))
      (frames_stay Is code places return_to s.words (fn.outgoing + j) v fs (saved fn place s.kept s.words 0) (words fn) (omega arith) x)
  put_above fn place (Incoming j) v fs s i n l x =
      subst (λ q. Frames (slice_set s.words (words fn + j) v) fs q (words fn))
      (sym (saved_set fn place s.kept s.words 0 (words fn + j) v (inr (omega arith))))
      (frames_stay Is code places return_to s.words (words fn + j) v fs (saved fn place s.kept s.words 0) (words fn) (omega arith) x)

  put_value : (fn : Function) (place : ℕ → Place) (temps : ℕ → V) (to t : ℕ) (v : V) (w : ℕ) (s : Store) → Is v w → IsWithin fn (place to)
      → IsWithin fn (place t) → IsRoom fn s
      → (t ≢ to → Is (temps t) (get fn (place t) s) × (place t ≢ place to)) → (b : Bool) → nat_eq t to ≡ b
      → Is (cond b v (temps t)) (get fn (place t) (put fn (place to) w s))
  put_value fn place temps to t v w s y i j h g true e = let z : t ≡ to = grind arith in subst (λ u. Is v (get fn (place u) (put fn (place to) w s))) (sym z)
      (subst (Is v) (sym (put_same fn (place to) w s i h)) y)
  put_value fn place temps to t v w s y i j h g false e = let z : t ≢ to = grind arith in subst (Is (temps t))
      (sym (put_other fn (place t) (place to) w s j i (g z).1)) (g z).0

  -- AN OP'S RESULT is put into its place: what is live behind the op is what was live, or the result.
  pub puts : (fn : Function) (place : ℕ → Place) (need need' : ℕ → Type 0) (temps : ℕ → V) (fs : List (Frame V)) (to : ℕ) (v : V) (w : ℕ) (s : Store) → Is v w
      → w < 2 ^ 32
      → ((t : ℕ) → t < temporaries fn → IsWithin fn (place t)) → to < temporaries fn
      → ((t : ℕ) → t < temporaries fn → t ≢ to → need' t → need t × (place t ≢ place to))
      → Runs fn place need temps fs s → Runs fn place need' (with_value to v temps) fs (put fn (place to) w s)
  puts fn place need need' temps fs to v w s y sw inside l g x =
      let h = room fn place need temps fs s x in
      let i = inside to l in
      let f = x.frame in
      record {
        four = (put_room fn fn (place to) w s h).four;
        frame = record {
          temporary = λ t m n. put_value fn place temps to t v w s y i (inside t m) h (λ d. (f.temporary t m (g t m d n).0, (g t m d n).1)) (nat_eq t to) refl;
          link = at_sum (put fn (place to) w s).words (0 + own fn + 4) (own fn + 4) (omega arith) ∙
              (put_link fn (place to) w s i ∙ (at_sum s.words (own fn + 4) (0 + own fn + 4) (omega arith) ∙ f.link));
          params = f.params;
          small = put_small fn (place to) w s i h f.small sw;
        };
        above = put_above fn place (place to) w fs s i (saves_each fn place to l) f.params x.above;
      }

  -- the moves of parameters leave the return address and the frames above
  move_above : (fn : Function) (place : ℕ → Place) (p : Place) (t : ℕ) (fs : List (Frame V)) (s : Store) → IsWithin fn p → registers_to p ≤ saves fn place
      → fn.params ≤ outgoing_of code fs → Above fn place fs s → Above fn place fs (move fn p t s)
  move_above fn place (Reg r) t fs s i n l x = put_above fn place (Reg r) (slice_index s.words (words fn + t)) fs s i n l x
  move_above fn place (Slot j) t fs s i n l x = put_above fn place (Slot j) (slice_index s.words (words fn + t)) fs s i n l x
  move_above fn place (Incoming j) t fs s i n l x = x

  move_link : (fn : Function) (p : Place) (t : ℕ) (s : Store) → IsWithin fn p → slice_index (move fn p t s).words (own fn + 4) ≡ slice_index s.words
      (own fn + 4)
  move_link fn (Reg r) t s i = refl
  move_link fn (Slot j) t s i = put_link fn (Slot j) (slice_index s.words (words fn + t)) s i
  move_link fn (Incoming j) t s i = refl

  moved_above : (fn : Function) (place : ℕ → Place) (t n : ℕ) (fs : List (Frame V)) (s : Store) → ((u : ℕ) → u < fn.params → IsWithin fn (place u))
      → t + n ≤ fn.params → fn.params ≤ outgoing_of code fs → Above fn place fs s
      → Above fn place fs (moved fn place t n s) × (slice_index (moved fn place t n s).words (own fn + 4) ≡ slice_index s.words (own fn + 4))
  moved_above fn place t zero fs s inside l p x = (x, refl)
  moved_above fn place t (suc n) fs s inside l p x =
      let i = inside t (omega arith) in
      let s1 = move fn (place t) t s in
      let ih = moved_above fn place (t + 1) n fs s1 inside (omega arith) p
      (move_above fn place (place t) t fs s i (saves_each fn place t (omega arith)) p x) in
      (ih.0, ih.1 ∙ move_link fn (place t) t s i)

  -- A CALL: the frames that wait stand from word 0 on with r4 to r7 as they are, and the outgoing words of the first hold the arguments. Behind the entry and
  -- the moves of parameters the function runs, and the caller's r4 to r7 are kept.
  pub calls : (gn : Function) (ps : List Place) (args : ℕ → V) (fs : List (Frame V)) (a b c d lr : ℕ) (ws ws1 : List ℕ)
      → ArePlacesSound gn ps → HasPushed gn (saves gn (place_of ps)) (a ∷ (b ∷ (c ∷ (d ∷ [])))) lr ws ws1 → lr ≡ return_to fs → gn.params ≤ outgoing_of code fs
      → ((j : ℕ) → j < gn.params → Is (args j) (slice_index ws j) × (slice_index ws j < 2 ^ 32))
      → AreWords (a ∷ (b ∷ (c ∷ (d ∷ [])))) → Frames ws fs (a ∷ (b ∷ (c ∷ (d ∷ [])))) 0
      → Runs gn (place_of ps) (λ t. IsLiveAt gn.ops t 0) args fs (moved gn (place_of ps) 0 gn.params
      (record { kept = a ∷ (b ∷ (c ∷ (d ∷ []))); words = ws1 }))
  calls gn ps args fs a b c d lr ws ws1 sound pu el lp as' aw x =
      let kept = a ∷ (b ∷ (c ∷ (d ∷ []))) in
      let place = place_of ps in
      let s1 : Store = record { kept = kept; words = ws1 } in
      let len = pu.long in
      let sh : Shifted ws 0 ws1 (words gn) = λ i. pu.behind i ∙ at_sum ws i (0 + i) (omega arith) in
      let up : Frames ws1 fs kept (words gn) = frames_shift Is code places return_to ws ws1 fs kept 0 (words gn) sh (omega arith) x in
      let up' : Above gn place fs s1 = subst (λ q. Frames ws1 fs q (words gn)) (saved_pushed gn place a b c d lr ws ws1 pu) up in
      let rm = frames_room Is code places return_to ws fs kept 0 x in
      let h : IsRoom gn s1 = record { four = refl; long = omega arith } in
      let m = moved_params gn ps sound 0 gn.params s1 (omega arith) h in
      let q = moved_above gn place 0 gn.params fs s1 (λ u l. sound.within u (omega arith)) (omega arith) lp up' in
      record {
        four = (m.2).four;
        frame = record {
          temporary = λ t l n. let e = sound.entry t n in subst (Is (args t)) (sym (m.0 t (omega arith) e ∙ pu.behind t)) (as' t e).0;
          link = at_sum (moved gn place 0 gn.params s1).words (0 + own gn + 4) (own gn + 4) (omega arith) ∙ (q.1 ∙ (pu.link ∙ el));
          params = lp;
          small = moved_small gn place 0 gn.params s1 (λ u l. sound.within u (omega arith)) (omega arith) h aw
              (λ u l. subst (λ n. n < 2 ^ 32) (sym (pu.behind u)) (as' u l).1);
        };
        above = q.0;
      }

  pub dropped : (n : ℕ) (ws : List ℕ) → Shifted ws n (drop n ws) 0
  dropped n ws i = at_sum (drop n ws) (0 + i) i (omega arith) ∙ get_or-drop n ws i 0

  -- A RETURN to words that are those behind the frame: behind ADD SP and POP the caller has its r4 to r7 and its words.
  pub returns : (fn : Function) (place : ℕ → Place) (need : ℕ → Type 0) (temps : ℕ → V) (fs : List (Frame V)) (s : Store) → Runs fn place need temps fs s
      → Frames (drop (words fn) s.words) fs (saved fn place s.kept s.words 0) 0
  returns fn place need temps fs s x =
      let kept = saved fn place s.kept s.words 0 in
      let r = frames_room Is code places return_to s.words fs kept (words fn) x.above in
      let e = length-drop (words fn) s.words in
      frames_shift Is code places return_to s.words (drop (words fn) s.words) fs kept (words fn) 0 (dropped (words fn) s.words) (omega arith) x.above
