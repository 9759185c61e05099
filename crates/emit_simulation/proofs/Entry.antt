-- A function's entry: the test of the depth, the frame, and the moves of parameters.
use Rattle.std.proofs.Common.{zero, suc, ◌≡◌, ℕ, ◌+◌, ◌*◌, ◌-◌, ◌/◌, ◌%◌, ◌<◌, ◌≤◌, ◌^◌, List, [], ◌∷◌, ◌++◌, length, Bool, true, false, refl, sym, ap, ◌∙◌, subst, arith, slice_set, slice_get, slice_index, ◌==◌, get_or-set_same, get_or-set_other}
use Rattle.std.proofs.lemmas.List.{length-set, length-append}
use Rattle.thumb_code.specs.declared.instructions.Instr.TheVariants.{MovHigh, MovImm, CmpReg, Push, Svc}
use Rattle.thumb_code.specs.declared.register_file.Registers.{Registers}
use Rattle.thumb_code.specs.Arithmetic.{sum_flags, inverted, bit_of, nz, holds}
use Rattle.thumb_code.specs.Step.{Fetched}
use Rattle.bank_model.specs.Bank.{Bank}
use Rattle.thumb_layout.specs.declared.pieces.Piece.{Piece}
use Rattle.thumb_layout.specs.declared.pieces.Piece.TheVariants.{Plain, Label, Go, Number}
use Rattle.thumb_layout.specs.Pieces.{Places}
use Rattle.thumb_layout.proofs.Laws.{reaches_add, ComesSilently}
use Rattle.flat_ir.specs.declared.ops.Function.{Function}
use Rattle.flat_ir.specs.Liveness.{IsLiveAt}
use Rattle.register_assign.specs.declared.places.Place.{Place}
use Rattle.register_assign.specs.declared.places.Place.TheVariants.{Reg, Slot, Incoming}
use Rattle.register_assign.specs.Sound.{place_of, IsWithin, ArePlacesSound}
use Rattle.register_assign.specs.Saving.{saves}
use Rattle.register_assign.proofs.Laws.{saves_few}
use Rattle.sts_meaning.specs.Values.{Value}
use Rattle.thumb_emit.specs.Emit.{move_pieces, moves_pieces, entry_pieces}
use Rattle.thumb_emit.specs.Frame.{from_place, to_place, lowers, below_saved, saved_list}
use Rattle.thumb_emit.specs.Bounds.{total_cost}
use Rattle.placed_frames.proofs.Laws.{View, with_low, registers_of, bank_of, Quiet, At, Bm, at_view, quiet_does, run_listed, leaving, leaving_at, leaving_last, leaving_length, leaving_words, kept_at, push_is, pushes_words, frames_room, move_room, move_incoming, calls, HasPushed, pushed, put, move, moved, IsRoom}
use Rattle.placed_frames.specs.Places.{Store, words}
use Rattle.placed_frames.specs.Frames.{Frame, HasFrames, Running, AreWords, outgoing_of}
use Rattle.emit_simulation.proofs.Laid.{Fm, over, Laid, Comes, Flows, OfInstr, OfLabel, OfNumber, AllFlow, loaded_flags, steps_of, store_of}
use Rattle.emit_simulation.proofs.Starts.{StandAt, first_of, rest_of}
use Rattle.emit_simulation.proofs.Flowing.{flows, flows_one, branches, passes_by, then, goes_next, each_goes}
use Rattle.emit_simulation.proofs.Placed.{store_low, gets, puts, put_view, store_put, put_low, put_shared}
use Rattle.emit_simulation.proofs.Ops.{all_append}
use Rattle.emit_simulation.proofs.Lowering.{lowered_by}

bit_le : (b : Bool) → bit_of b ≤ 1
bit_le true = omega arith
bit_le false = omega arith

c_flag : (n z q o : ℕ) → o ≤ 1 → q ≡ 1 → ((n * 8 + z * 4 + q * 2 + o) / 2 % 2 == 1) ≡ true
c_flag n z q o k e = let f : (n * 8 + z * 4 + q * 2 + o) / 2 % 2 ≡ 1 = omega arith in rw f refl

no_c_flag : (n z q o : ℕ) → o ≤ 1 → q ≡ 0 → ((n * 8 + z * 4 + q * 2 + o) / 2 % 2 == 1) ≡ false
no_c_flag n z q o k e = let f : (n * 8 + z * 4 + q * 2 + o) / 2 % 2 ≡ 0 = omega arith in rw f refl

-- "at least" and "below" without signs, behind a comparison
pub not_below : (x y : ℕ) → x < 2 ^ 32 → y ≤ x → holds (sum_flags x (inverted y) 1) 2 ≡ true
not_below x y l h = c_flag _ _ ((x + (4294967295 - y) + 1) / 4294967296) _ (bit_le _) (omega arith)

pub is_below : (x y : ℕ) → y < 2 ^ 32 → x < y → holds (sum_flags x (inverted y) 1) 2 ≡ false
is_below x y l h = no_c_flag _ _ ((x + (4294967295 - y) + 1) / 4294967296) _ (bit_le _) (omega arith)

-- one move, and all of them
record Moved (flash : List ℕ) (p : Places) (xs : List Piece) (v : View) (s : Store) : Type 0 where
  v' : View
  flow : AllFlow flash p xs v v'
  store : store_of v' ≡ s
  low : length v'.low ≡ 13
  globals : v'.globals ≡ v.globals
  arena : v'.arena ≡ v.arena

by_place : (flash : List ℕ) (p : Places) (f : Function) (q : Place) (t : ℕ) (v : View) → IsWithin f q → t < f.params → IsRoom f (store_of v)
    → length v.low ≡ 13 → slice_index v.words (words f + t) < 2 ^ 32
    → Moved flash p (from_place f 0 (Incoming t) ∷ (to_place f 0 q ∷ [])) v (put f q (slice_index v.words (words f + t)) (store_of v))
by_place flash p f q t v i l h n w =
    let x = slice_index v.words (words f + t) in
    let m = with_low 0 x v in
    let e = store_low 0 x v (omega arith) in
    let k = length-set v.low 0 x ∙ n in
    record {
      v' = put_view f q x m;
      flow = (
        m,
        gets flash p f (Incoming t) 0 x v (omega arith) l h (ap (slice_index v.words) (omega arith)) w,
        (put_view f q x m, puts flash p f q 0 x m (omega arith) i (subst (IsRoom f) (sym e) h) (get_or-set_same v.low 0 x 0 (omega arith)) w, refl),
      );
      store = store_put f q x m i k ∙ ap (put f q x) e;
      low = put_low f q x m k;
      globals = (put_shared f q x m).0;
      arena = (put_shared f q x m).1;
    }

move_flow : (flash : List ℕ) (p : Places) (f : Function) (place : ℕ → Place) (q : Place) (t : ℕ) (v : View) → IsWithin f q → t < f.params
    → IsRoom f (store_of v) → length v.low ≡ 13 → slice_index v.words (words f + t) < 2 ^ 32 → Moved flash p (move_pieces f place q t) v
    (move f q t (store_of v))
move_flow flash p f place (Reg r) t v i l h n w =
    let x = slice_index v.words (words f + t) in
    let m = with_low r x v in
    record {
      v' = m;
      flow = (m, gets flash p f (Incoming t) r x v (let a = i.1 in omega arith) l h (ap (slice_index v.words) (omega arith)) w, (m, OfLabel (3 * length f.ops + 1) m, refl));
      store = store_put f (Reg r) x v i n;
      low = length-set v.low r x ∙ n;
      globals = refl;
      arena = refl;
    }
move_flow flash p f place (Slot j) t v i l h n w = by_place flash p f (Slot j) t v i l h n w
move_flow flash p f place (Incoming j) t v i l h n w = record { v' = v; flow = refl; store = refl; low = n; globals = refl; arena = refl }

moves_flow : (flash : List ℕ) (p : Places) (f : Function) (place : ℕ → Place) → ((u : ℕ) → u < f.params → IsWithin f (place u)) → (t n : ℕ) (v : View)
    → t + n ≡ f.params → IsRoom f (store_of v) → length v.low ≡ 13
    → ((u : ℕ) → u < f.params → slice_index v.words (words f + u) < 2 ^ 32) → Moved flash p (moves_pieces f place t n) v (moved f place t n (store_of v))
moves_flow flash p f place inside t zero v e h n w = record { v' = v; flow = refl; store = refl; low = n; globals = refl; arena = refl }
moves_flow flash p f place inside t (suc k) v e h n w =
    let i = inside t (omega arith) in
    let a = move_flow flash p f place (place t) t v i (omega arith) h n (w t (omega arith)) in
    let r = subst (IsRoom f) (sym a.store) (move_room f (place t) t (store_of v) h) in
    let b = moves_flow flash p f place inside (t + 1) k a.v' (omega arith) r a.low
    (λ u l. subst (λ x. x < 2 ^ 32) (sym (ap (λ q. slice_index q.words (words f + u)) a.store ∙ move_incoming f (place t) t u (store_of v) i)) (w u l)) in
    record {
      v' = b.v';
      flow = all_append flash p (move_pieces f place (place t) t) (moves_pieces f place (t + 1) k) v a.v' b.v' a.flow b.flow;
      store = b.store ∙ ap (moved f place (t + 1) k) a.store;
      low = b.low;
      globals = b.globals ∙ a.globals;
      arena = b.arena ∙ a.arena;
    }

total_append : (xs ys : List Piece) → total_cost (xs ++ ys) ≡ total_cost xs + total_cost ys
total_append [] ys = omega arith
total_append (x ∷ xs) ys = let h = total_append xs ys in omega arith

move_cost : (f : Function) (place : ℕ → Place) (q : Place) (t : ℕ) → total_cost (move_pieces f place q t) ≤ 4
move_cost f place (Reg r) t = omega arith
move_cost f place (Slot j) t = omega arith
move_cost f place (Incoming j) t = omega arith

moves_cost : (f : Function) (place : ℕ → Place) (t n : ℕ) → total_cost (moves_pieces f place t n) ≤ 4 * n
moves_cost f place t zero = omega arith
moves_cost f place t (suc n) = let h = moves_cost f place (t + 1) n in let m = move_cost f place (place t) t in let e = total_append
    (move_pieces f place (place t) t) (moves_pieces f place (t + 1) n) in omega arith

pub relaxed : (fetch : ℕ → Fetched) (l h l' h' : ℕ) (s : Registers) (t : Fm) (q : Registers) (t' : Fm) → l' ≤ l → h ≤ h' → ComesSilently over fetch l h s t q t'
    → ComesSilently over fetch l' h' s t q t'
relaxed fetch l h l' h' s t q t' a b r = let x = r.some in let y = r.few in record { count = r.count; some = omega arith; few = omega arith; silent = r.silent }

eight : (n : ℕ) → 8 ≤ 5 + (1 + (1 + (1 + n)))
eight n = omega arith

few_enough : (m k : ℕ) → m ≤ 4 * k → 11 + (2 + (2 + (4 + m))) ≤ 21 + 4 * k
few_enough m k l = omega arith

-- the head of an entry
abbrev head : Function → (ℕ → Place) → List Piece
head f place =
    Plain (MovHigh 3 14) ∷ (Plain (MovHigh 0 13) ∷ (Number 1 (0x20003080 + 4 * words f) ∷ (Plain (CmpReg 0 1) ∷ (Go 2 (3 * length f.ops)
    ∷ (Plain (MovImm 0 102) ∷ (Plain (Svc 1) ∷ (Label (3 * length f.ops) ∷ (Plain (MovHigh 14 3) ∷ (Plain (Push (saved_list f place) true) ∷ [])))))))))

module _ (fetch : ℕ → Fetched) (flash : List ℕ) (p : Places) (pieces : List Piece) (laid : Laid fetch flash p pieces) (gn : Function) (place : ℕ → Place)
    (st : StandAt pieces 0 (entry_pieces gn place)) where
  pub at_head : (n : ℕ) → n < 10 → slice_get pieces n ≡ slice_get (head gn place) n
  at_head n l = ap (slice_get pieces) (omega arith) ∙ first_of pieces 0 (head gn place) (lowers (below_saved gn place) ++ moves_pieces gn place 0 gn.params) st n l

  abbrev bound : ℕ
  bound = 0x20003080 + 4 * words gn

  -- what is seen behind the comparison: LR in r3, SP in r0, and the bound in r1
  abbrev before_test : View → Registers → View
  before_test v s = record (with_low 0 s.sp (with_low 3 s.lr v)) {
    low = slice_set (slice_set (slice_set v.low 3 s.lr) 0 s.sp) 1 bound;
    flags = loaded_flags
        v.flags bound;
  }

  abbrev pub tested : View → Registers → View
  tested v s = record (before_test v s) { flags = sum_flags s.sp (inverted bound) 1 }

  tests : (v : View) (s : Registers) (b : Bank) (free : List ℕ) → At flash s.sp b → length v.words ≡ length b.words → length v.low ≡ 13
      → Comes fetch p 4 8 0 4 v (tested v s) s b free
  tests v s b free h long low =
      let v1 = with_low 3 s.lr v in
      let v2 = with_low 0 s.sp v1 in
      let v3 = before_test v s in
      let v4 = tested v s in
      let fl3 = sum_flags s.sp (inverted bound) 1 in
      let n1 = length-set v.low 3 s.lr ∙ low in
      let n2 = length-set v1.low 0 s.sp ∙ n1 in
      let x0 : slice_index v3.low 0 ≡ s.sp = get_or-set_other v2.low 1 0 bound 0 (omega arith) ∙ get_or-set_same v1.low 0 s.sp 0 (omega arith) in
      let x1 : slice_index v3.low 1 ≡ bound = get_or-set_same v2.low 1 bound 0 (omega arith) in
      let c0 = goes_next fetch flash p pieces laid 0 (Plain (MovHigh 3 14)) v v1 s b free (at_head 0 (omega arith)) (omega arith) refl h long long
      (quiet_does flash (bank_of v b) free (registers_of v1 (p.behind 0) s) (at_view flash s.sp v b long h)) in
      let s1 : Registers = record s { lr = c0.link } in
      let c1 = goes_next fetch flash p pieces laid (0 + 1) (Plain (MovHigh 0 13)) v1 v2 s1 b free (at_head 1 (omega arith)) (omega arith) refl h long long
      (quiet_does flash (bank_of v1 b) free (registers_of v2 (p.behind 1) s1) (at_view flash s.sp v1 b long h)) in
      let s2 : Registers = record s { lr = c1.link } in
      let c2 = flows_one fetch flash p pieces laid (1 + 1) (Number 1 bound) v2 v3 s2 b free (at_head 2 (omega arith)) h long (OfNumber 1 bound v2) in
      let s3 : Registers = record s { lr = c2.link } in
      let cmp : Flows flash p (Plain (CmpReg 0 1)) v3 v4 = OfInstr (CmpReg 0 1) v3 v4 refl
      (Quiet (CmpReg 0 1) v3 v3.low fl3 (λ next pc r. rw x0 (rw x1 refl))) in
      let c3 = flows_one fetch flash p pieces laid (2 + 1) (Plain (CmpReg 0 1)) v3 v4 s3 b free (at_head 3 (omega arith)) h long cmp in
      let d2 = then fetch flash p pieces laid 1 2 1 2 (1 + 1) (2 + 1) (3 + 1) v2 v3 v4 s2 b free c2 c3 in
      let d1 = then fetch flash p pieces laid 1 2 2 4 (0 + 1) (1 + 1) (3 + 1) v1 v2 v4 s1 b free c1 d2 in
      then fetch flash p pieces laid 1 2 3 6 0 (0 + 1) (3 + 1) v v1 v4 s b free c0 d1

  -- PAST THE GREATEST DEPTH it comes to service 1 with 102, and nothing is written
  abbrev pub refused : View → Registers → View
  refused v s = record (tested v s) { low = slice_set (tested v s).low 0 102; flags = nz (tested v s).flags 102 }

  pub overflows : (v : View) (s : Registers) (b : Bank) (free : List ℕ) → At flash s.sp b → length v.words ≡ length b.words → length v.low ≡ 13 → s.sp < bound
      → bound < 2 ^ 32
      → Comes fetch p 6 13 0 6 v (refused v s) s b free
  overflows v s b free h long low small fits =
      let v4 = tested v s in
      let c = tests v s b free h long low in
      let s4 : Registers = record s { lr = c.link } in
      let c4 = passes_by fetch flash p pieces laid 4 2 (3 * length gn.ops) v4 s4 b free (at_head 4 (omega arith)) refl (is_below s.sp bound fits small) h
      c.long in
      let s5 : Registers = record s { lr = c4.link } in
      let mov : Flows flash p (Plain (MovImm 0 102)) v4 (refused v s) = OfInstr (MovImm 0 102) v4 (refused v s) refl
      (Quiet (MovImm 0 102) v4 (slice_set v4.low 0 102) (nz v4.flags 102) (λ next pc r. refl)) in
      let c5 = flows_one fetch flash p pieces laid (4 + 1) (Plain (MovImm 0 102)) v4 (refused v s) s5 b free (at_head 5 (omega arith)) h c4.long mov in
      let d4 = then fetch flash p pieces laid 1 3 1 2 4 (4 + 1) (4 + 1 + 1) v4 v4 (refused v s) s4 b free c4 c5 in
      then fetch flash p pieces laid 4 8 2 5 0 4 (4 + 1 + 1) v v4 (refused v s) s b free c d4

  module _ (Is : Value → ℕ → Type 0) (code : List Function) (places : ℕ → ℕ → Place) (return_to : List (Frame Value) → ℕ) where
    -- what the entry comes to
    pub record Entered (args : ℕ → Value) (fs : List (Frame Value)) (v : View) (s : Registers) (b : Bank) (free : List ℕ) : Type 0 where
      pub seen : View
      pub link : ℕ
      pub free' : List ℕ
      pub reach : ComesSilently over fetch 8 (21 + 4 * gn.params) (registers_of v (p.at 0) s) (bank_of v b, free)
          (record (registers_of seen (p.at (length (entry_pieces gn place))) s) { sp = s.sp - 4 * words gn; lr = link }) (bank_of seen b, free')
      pub at : At flash (s.sp - 4 * words gn) (bank_of seen b)
      pub runs : Running Is code places return_to gn place (λ t. IsLiveAt gn.ops t 0) args fs (store_of seen)
      pub low : length seen.low ≡ 13
      pub long : length seen.words ≡ words gn + length v.words
      pub globals : seen.globals ≡ v.globals
      pub arena : seen.arena ≡ v.arena

    -- WHERE THE FRAME FITS
    pub enters : (ps : List Place) → place ≡ place_of ps → (args : ℕ → Value) (fs : List (Frame Value)) (v : View) (s : Registers) (b : Bank) (free : List ℕ)
        → ArePlacesSound gn ps → At flash s.sp b → length v.words ≡ length b.words → length v.low ≡ 13
        → bound ≤ s.sp → s.lr < 2 ^ 32 → AreWords (store_of v).kept → s.lr ≡ return_to fs → gn.params ≤ outgoing_of code fs
        → ((j : ℕ) → j < gn.params → Is (args j) (slice_index v.words j) × (slice_index v.words j < 2 ^ 32))
        → HasFrames Is code places return_to v.words fs (store_of v).kept 0
        → Entered args fs v s b free
    enters ps pe args fs v s b free sound h long low fits lr aw el lp as' x =
        let e0 = h.sp_is in let e1 = h.high in
        let ms = moves_pieces gn place 0 gn.params in
        let lab = 3 * length gn.ops in
        let v4 = tested v s in
        let n4 : length v4.low ≡ 13 = length-set _ 1 bound ∙ (length-set _ 0 s.sp ∙ (length-set v.low 3 s.lr ∙ low)) in
        let k4 : store_of v4 ≡ store_of v = store_low 1 bound (with_low 0 s.sp (with_low 3 s.lr v)) (omega arith) ∙
        (store_low 0 s.sp (with_low 3 s.lr v) (omega arith) ∙ store_low 3 s.lr v (omega arith)) in
        let x3 : slice_index v4.low 3 ≡ s.lr = get_or-set_other (slice_set (slice_set v.low 3 s.lr) 0 s.sp) 1 3 bound 0 (omega arith) ∙
        (get_or-set_other (slice_set v.low 3 s.lr) 0 3 s.sp 0 (omega arith) ∙ get_or-set_same v.low 3 s.lr 0 (omega arith)) in
        let c = tests v s b free h long low in
        let s4 : Registers = record s { lr = c.link } in
        let c4 = branches fetch flash p pieces laid 4 7 2 lab v4 s4 b free (at_head 4 (omega arith)) (at_head 7 (omega arith))
        (not_below s.sp bound (omega arith) fits) h c.long in
        let s5 : Registers = record s { lr = c4.link } in
        let c5 = flows_one fetch flash p pieces laid 7 (Label lab) v4 v4 s5 b free (at_head 7 (omega arith)) h c4.long (OfLabel lab v4) in
        let d4 = then fetch flash p pieces laid 1 3 0 0 4 7 (7 + 1) v4 v4 v4 s4 b free c4 c5 in
        let d0 = then fetch flash p pieces laid 4 8 1 3 0 4 8 v v4 v4 s b free c d4 in
        let s6 : Registers = record s { lr = d0.link } in
        let b4 = bank_of v4 b in
        let at4 = at_view flash s.sp v4 b long h in
        let r8 = registers_of v4 (p.at 8) s6 in
        let q8 = registers_of v4 (p.behind 8) s in
        let m8 = each_goes fetch flash p pieces laid 8 (Plain (MovHigh 14 3)) (at_head 8 (omega arith)) (omega arith) r8 (b4, free) q8 (b4, free) refl at4
        (rw x3 (quiet_does flash b4 free q8 at4)) in
        let p8 = laid.next 8 (Plain (MovHigh 14 3)) (at_head 8 (omega arith)) refl in
        let r9 = registers_of v4 (p.at 9) s in
        let m8' = subst (λ j. ComesSilently over fetch 1 2 r8 (b4, free) (registers_of v4 j s) (b4, free)) p8 m8 in
        let l4 = slice_index v4.low 4 in let l5 = slice_index v4.low 5 in let l6 = slice_index v4.low 6 in let l7 = slice_index v4.low 7 in
        let small : (j : ℕ) → slice_index (store_of v4).kept j < 2 ^ 32 = λ j. subst (λ (q : Store). slice_index q.kept j < 2 ^ 32) (sym k4) (aw j) in
        let n = saves gn place in
        let few : n ≤ 4 = saves_few gn place (λ u l. subst (λ (pl : ℕ → Place). IsWithin gn (pl u)) (sym pe) (sound.within u l)) in
        let list = saved_list gn place in
        let vs = leaving r9 4 n in
        let lv : length vs ≡ n + 1 = leaving_length r9 4 n in
        let sp9 = s.sp - 4 * length vs in
        let pu = pushes_words flash (p.behind 9) r9 b4 free vs at4 (omega arith)
        (leaving_words r9 4 n (λ i l. subst (λ w. w < 2 ^ 32) (sym (kept_at v4.low i (omega arith))) (small i)) lr) in
        let does = ap (Bm (b4, free) s.sp) (push_is (p.behind 9) r9 list n (run_listed n few)) ∙ pu.1 in
        let ws9 = vs ++ v.words in
        let b9 : Bank = record b4 { words = ws9 } in
        let q9 : Registers = record r9 { sp = sp9; pc = p.behind 9 } in
        let m9 = each_goes fetch flash p pieces laid 9 (Plain (Push list true)) (at_head 9 (omega arith)) (omega arith) r9 (b4, free) q9 (b9, pu.0) refl at4
        does in
        let p9 = laid.next 9 (Plain (Push list true)) (at_head 9 (omega arith)) refl in
        let r10 : Registers = record r9 { sp = sp9; pc = p.at 10 } in
        let m9' = subst (λ j. ComesSilently over fetch 1 2 r9 (b4, free) (record r9 { sp = sp9; pc = j }) (b9, pu.0)) p9 m9 in
        let st10 = rest_of pieces 0 (head gn place) (lowers (below_saved gn place) ++ ms) st in
        let lw = lowered_by fetch flash p pieces laid 10 (below_saved gn place) r10 b9 pu.0 (first_of pieces 10 (lowers (below_saved gn place)) ms st10) pu.2
        (omega arith) in
        let i11 = 10 + length (lowers (below_saved gn place)) in
        let sp1 = sp9 - 4 * below_saved gn place in
        let sp' = s.sp - 4 * words gn in
        let zp : sp1 ≡ sp' = omega arith in
        let ws10 = lw.new ++ ws9 in
        let b10 : Bank = record b9 { words = ws10 } in
        let v5 : View = record v4 { words = ws10 } in
        let s7 : Registers = record s { sp = sp1 } in
        let fr = frames_room Is code places return_to v.words fs (store_of v).kept 0 x in
        let hp : HasPushed gn n (store_of v4).kept s.lr v.words ws10
        = pushed gn n (store_of v4).kept s.lr v.words lw.new vs few lw.long lv (λ i l. leaving_at r9 4 n i l ∙ kept_at v4.low i (omega arith))
        (leaving_last r9 4 n) in
        let hp' = subst (λ (pl : ℕ → Place). HasPushed gn (saves gn pl) (store_of v4).kept s.lr v.words ws10) pe hp in
        let len = hp.long in
        let rm : IsRoom gn (store_of v5) = record { four = refl; long = omega arith } in
        let within : (u : ℕ) → u < gn.params → IsWithin gn (place u) = λ u l. subst (λ (pl : ℕ → Place). IsWithin gn (pl u)) (sym pe)
        (sound.within u (omega arith)) in
        let mv = moves_flow flash p gn place within 0 gn.params v5 (omega arith) rm n4
        (λ u l. subst (λ q. q < 2 ^ 32) (sym (hp.behind u)) (as' u l).1) in
        let cm = flows fetch flash p pieces laid ms i11 v5 mv.v' s7 b10 lw.free' (rest_of pieces 10 (lowers (below_saved gn place)) ms st10) lw.at refl mv.flow in
        let cl = calls Is code places return_to gn ps args fs l4 l5 l6 l7 s.lr v.words ws10 sound hp' el lp as' small
        (subst (λ (q : Store). HasFrames Is code places return_to v.words fs q.kept 0) (sym k4) x) in
        let cl' = subst (λ (pl : ℕ → Place). Running Is code places return_to gn pl (λ t. IsLiveAt gn.ops t 0) args fs (moved gn pl 0 gn.params (store_of v5)))
        (sym pe) cl in
        let ln : length (entry_pieces gn place) ≡ i11 + length ms = omega arith ∙ ap (λ j. 10 + j) (length-append (lowers (below_saved gn place)) ms) ∙ omega arith in
        let end : Registers = record (registers_of mv.v' (p.at (i11 + length ms)) s) { sp = sp1; lr = cm.link } in
        let end' : Registers = record (registers_of mv.v' (p.at (length (entry_pieces gn place))) s) { sp = sp'; lr = cm.link } in
        let m10 = reaches_add over fetch 1 4 (steps_of ms) (total_cost ms) r10 (b9, pu.0) (record r10 { sp = sp1; pc = p.at i11 }) (b10, lw.free') end
        (bank_of mv.v' b, lw.free') lw.reach cm.reach in
        let m9t = reaches_add over fetch 1 2 (1 + steps_of ms) (4 + total_cost ms) r9 (b4, free) r10 (b9, pu.0) end (bank_of mv.v' b, lw.free') m9' m10 in
        let m8t = reaches_add over fetch 1 2 (1 + (1 + steps_of ms)) (2 + (4 + total_cost ms)) r8 (b4, free) r9 (b4, free) end (bank_of mv.v' b, lw.free') m8'
        m9t in
        let all = reaches_add over fetch 5 11 (1 + (1 + (1 + steps_of ms))) (2 + (2 + (4 + total_cost ms))) (registers_of v (p.at 0) s) (bank_of v b, free) r8
        (b4, free) end (bank_of mv.v' b, lw.free') d0.reach m8t in
        let cs = moves_cost gn place 0 gn.params in
        record {
          seen = mv.v';
          link = cm.link;
          free' = lw.free';
          reach = subst (λ (q : Registers). ComesSilently over fetch 8 (21 + 4 * gn.params) (registers_of v (p.at 0) s) (bank_of v b, free) q
              (bank_of mv.v' b, lw.free'))
              (λ k. record (registers_of mv.v' (p.at (sym ln k)) s) { sp = zp k; lr = cm.link })
              (relaxed fetch _ _ 8 (21 + 4 * gn.params) (registers_of v (p.at 0) s) (bank_of v b, free) end (bank_of mv.v' b, lw.free') (eight (steps_of ms))
              (few_enough (total_cost ms) gn.params cs) all);
          at = at_view flash sp' mv.v' b10 cm.long (subst (λ n. At flash n b10) zp lw.at);
          runs = subst (Running Is code places return_to gn place (λ t. IsLiveAt gn.ops t 0) args fs) (sym mv.store) cl';
          low = mv.low;
          long = cm.long ∙ len;
          globals = mv.globals;
          arena = mv.arena;
        }
