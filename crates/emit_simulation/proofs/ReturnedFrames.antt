-- A return: r0 has the value, r4 to r7 are the caller's again, and the frame is gone.
use Rattle.std.proofs.Common.{zero, suc, ◌≡◌, ℕ, ◌+◌, ◌-◌, ◌*◌, ◌%◌, ◌<◌, ◌≤◌, ◌^◌, Bool, true, false, nat_lt, if◌then◌else◌, List, [], ◌∷◌, ◌++◌, length, drop, Some, refl, sym, ap, ◌∙◌, subst, arith, slice_get, slice_index, get_or-set_same, get_or-set_other}
use Rattle.std.proofs.lemmas.List.{length-set, length-drop, get_or-drop}
use Rattle.std.proofs.lemmas.Bool.Decides.{nat_tests}
use Rattle.thumb_code.specs.declared.instructions.Instr.TheVariants.{Pop as PopMany}
use Rattle.thumb_code.specs.declared.register_file.Registers.{Registers}
use Rattle.thumb_code.specs.RegisterFile.{filled}
use Rattle.thumb_code.specs.Step.{fetched}
use Rattle.board_world.specs.Observations.{ByteList}
use Rattle.bank_model.specs.Bank.{Bank}
use Rattle.bank_model.specs.Fibers.{Fiber, Shared}
use Rattle.bank_model.specs.BoardMachine.{memory_of}
use Rattle.thumb_layout.specs.declared.pieces.Piece.TheVariants.{Plain}
use Rattle.thumb_layout.proofs.Laws.{reaches_add, ComesSilently}
use Rattle.flat_ir.specs.declared.ops.Op.TheVariants.{Return}
use Rattle.flat_ir.specs.declared.ops.Function.{Function}
use Rattle.flat_ir.specs.declared.ops.FlatCode.{FlatCode}
use Rattle.flat_ir.specs.WellFormed.{temporaries}
use Rattle.flat_ir.specs.Liveness.{IsLiveAt}
use Rattle.sts_meaning.specs.Heaps.{FlatHeap}
use Rattle.register_assign.specs.declared.places.Place.{Place}
use Rattle.register_assign.specs.declared.places.Placed.{Placed}
use Rattle.register_assign.specs.Sound.{place_of}
use Rattle.register_assign.specs.Saving.{saves}
use Rattle.register_assign.proofs.Laws.{saves_few}
use Rattle.flat_meaning.specs.Frames.{FlatFrame}
use Rattle.thumb_emit.specs.Emit.{function_pieces}
use Rattle.thumb_emit.specs.Frame.{from_place, raises, below_saved, saved_list}
use Rattle.thumb_emit.specs.InFlash.{Addresses}
use Rattle.placed_frames.proofs.Laws.{View, with_low, registers_of, bank_of, At, AllWords, Bm, at_view, run, run_length, run_listed, pop_is, pops_words, get_from, get_at, get_length, get_words, filled_length, filled_below, filled_above, filled_at, four, Shifted, frames_shift, frames_small, room}
use Rattle.placed_frames.specs.Places.{own, words}
use Rattle.placed_frames.specs.Frames.{HasFrames, AreWords, saved_word, saved}
use Rattle.emit_simulation.proofs.Laid.{over, store_of}
use Rattle.emit_simulation.specs.Starts.{start}
use Rattle.emit_simulation.specs.Ties.{IsAt, IsShared, IsImage, Means, spots, place_in, return_to, frames_of}
use Rattle.emit_simulation.proofs.AtOps.{view_in, bank_in}
use Rattle.emit_simulation.proofs.Flowing.{flows_one, each_goes}
use Rattle.emit_simulation.proofs.Starts.{first_of, rest_of, later}
use Rattle.emit_simulation.proofs.Ops.{here, word, reads_word}
use Rattle.emit_simulation.proofs.Lowering.{raised_by}

dropped_twice : (n m j : ℕ) (ws : List ℕ) → n + m ≡ j → Shifted ws j (drop m (drop n ws)) 0
dropped_twice n m j ws e i = ap (slice_index (drop m (drop n ws))) (omega arith) ∙
    (get_or-drop m (drop n ws) i 0 ∙ (get_or-drop n ws (m + i) 0 ∙ ap (slice_index ws) (omega arith)))

-- the words of a frame from those on that are popped
popped_at : (f : Function) (n : ℕ) (ws : List ℕ) (m i : ℕ) → i < m
    → slice_index (get_from (drop (own f + (4 - n)) ws) 0 m) i ≡ slice_index ws (0 + (own f + (4 - n)) + i)
popped_at f n ws m i l =
    get_at (drop (own f + (4 - n)) ws) 0 m i l ∙
    (get_or-drop (own f + (4 - n)) ws (0 + i) 0 ∙ ap (slice_index ws) (omega arith))

-- a word of what the caller has
saved_at_index : (f : Function) (place : ℕ → Place) (kept ws : List ℕ) (i : ℕ) → i < 4
    → slice_index (saved f place kept ws 0) i ≡ saved_word (saves f place) f kept ws 0 i
saved_at_index f place kept ws zero l = refl
saved_at_index f place kept ws (suc zero) l = refl
saved_at_index f place kept ws (suc (suc zero)) l = refl
saved_at_index f place kept ws (suc (suc (suc zero))) l = refl
saved_at_index f place kept ws (suc (suc (suc (suc i)))) l = absurd (omega arith)

first_of_two : (b : Bool) (x y : ℕ) → b ≡ true → (if b then x else y) ≡ x
first_of_two b x y e = rw e refl

-- the words that are popped into registers are words
popped_small : (f : Function) (place : ℕ → Place) (kept ws : List ℕ) → saves f place ≤ 4 → AreWords (saved f place kept ws 0) → (i : ℕ) → i < saves f place
    → slice_index ws (0 + (own f + (4 - saves f place)) + i) < 2 ^ 32
popped_small f place kept ws few aw i l =
    let n = saves f place in
    let e : nat_lt i n ≡ true = grind (arith, nat_tests) in
    subst (λ w. w < 2 ^ 32)
    (saved_at_index f place kept ws i (omega arith) ∙ first_of_two (nat_lt i n) (slice_index ws (0 + (own f + (4 - n)) + i)) (slice_index kept i) e) (aw i)

-- so is the last, which goes into PC
popped_words : (f : Function) (n : ℕ) (ws : List ℕ) (at m : ℕ) → ((i : ℕ) → i < n → slice_index ws (0 + (own f + (4 - n)) + i) < 2 ^ 32)
    → slice_index (get_from (drop (own f + (4 - n)) ws) 0 (n + 1)) n ≡ at + 1 → at + 1 < 2 ^ 32 → m < n + 1 → (b : Bool) → nat_lt m n ≡ b
    → slice_index (get_from (drop (own f + (4 - n)) ws) 0 (n + 1)) m < 2 ^ 32
popped_words f n ws at m h last la l true e =
    let i : m < n = grind (arith, nat_tests) in subst (λ w. w < 2 ^ 32) (sym (popped_at f n ws (n + 1) m l)) (h m i)
popped_words f n ws at m h last la l false e =
    let i : n ≡ m = grind (arith, nat_tests) in
    subst (λ j. slice_index (get_from (drop (own f + (4 - n)) ws) 0 (n + 1)) j < 2 ^ 32) i (subst (λ w. w < 2 ^ 32) (sym last) la)

-- r4 to r7 behind POP are as the caller has them
popped_word : (f : Function) (n : ℕ) (r kept ws : List ℕ) (i w : ℕ) → n ≤ 4 → length r ≡ 13 → w ≡ slice_index r (4 + i) → w ≡ slice_index kept i
    → (b : Bool) → nat_lt i n ≡ b
    → slice_index (filled r (run 4 n) (get_from (drop (own f + (4 - n)) ws) 0 (n + 1))) (4 + i)
    ≡ (if b then slice_index ws (0 + (own f + (4 - n)) + i) else slice_index kept i)
popped_word f n r kept ws i w few l e k true q =
    let m : i < n = grind (arith, nat_tests) in
    let g = get_length (drop (own f + (4 - n)) ws) 0 (n + 1) in
    filled_at r 4 n (get_from (drop (own f + (4 - n)) ws) 0 (n + 1)) i m (omega arith) (omega arith) ∙ popped_at f n ws (n + 1) i (omega arith)
popped_word f n r kept ws i w few l e k false q =
    let m : n ≤ i = grind (arith, nat_tests) in
    filled_above r 4 n (get_from (drop (own f + (4 - n)) ws) 0 (n + 1)) (4 + i) (omega arith) ∙ (sym e ∙ k)

popped_kept : (f : Function) (place : ℕ → Place) (r ws : List ℕ) (a b c d : ℕ) → saves f place ≤ 4 → length r ≡ 13
    → a ≡ slice_index r 4 → b ≡ slice_index r 5 → c ≡ slice_index r 6 → d ≡ slice_index r 7
    → (r' : List ℕ) → r' ≡ filled r (run 4 (saves f place)) (get_from (drop (below_saved f place) ws) 0 (saves f place + 1))
    → (slice_index r' 4 ∷ (slice_index r' 5 ∷ (slice_index r' 6 ∷ (slice_index r' 7 ∷ [])))) ≡ saved f place (a ∷ (b ∷ (c ∷ (d ∷ [])))) ws 0
popped_kept f place r ws a b c d few l ea eb ec ed r' e =
    let n = saves f place in let kept = a ∷ (b ∷ (c ∷ (d ∷ []))) in
    four _ _ _ _ _ _ _ _
    (ap (λ q. slice_index q 4) e ∙ popped_word f n r kept ws 0 a few l ea refl (nat_lt 0 n) refl)
    (ap (λ q. slice_index q 5) e ∙ popped_word f n r kept ws 1 b few l eb refl (nat_lt 1 n) refl)
    (ap (λ q. slice_index q 6) e ∙ popped_word f n r kept ws 2 c few l ec refl (nat_lt 2 n) refl)
    (ap (λ q. slice_index q 7) e ∙ popped_word f n r kept ws 3 d few l ed refl (nat_lt 3 n) refl)

module _ (C : FlatCode) (placed : List Placed) (flash : List ℕ) (a : Addresses) (texts : List ByteList) (image : IsImage C placed flash a texts) where
  module _ (p : Placed) (f : FlatFrame) (callers : List FlatFrame) (base : ℕ) (c : Fiber) (used : ℕ) (h : FlatHeap) (t : Shared) (from : ℕ)
      (e : slice_get p.function.ops f.place ≡ Some (Return from))
      (x : IsAt C placed flash a p (λ u. IsLiveAt p.function.ops u f.place) f callers base (start p.function (place_of p.places) f.place) c)
      (sh : IsShared C placed flash a used h t) where
    pub record Returned (at : ℕ) : Type 0 where
      pub seen : View
      pub link : ℕ
      pub sp : ℕ
      pub reach : ComesSilently over (fetched flash c.base) 3 8 (record c.registers
          { pc = (spots C placed flash a f.function p).at (start p.function (place_of p.places) f.place + 1) }) (memory_of flash c t)
          (record (registers_of seen at c.registers) { sp = sp; lr = link }) (bank_of seen (bank_in flash c t), t.free)
      pub bank : At flash sp (bank_of seen (bank_in flash c t))
      pub answer : slice_index seen.low 0 ≡ word C placed flash a texts image p f callers base c used h t (Return from) e x sh from
      pub low : length seen.low ≡ 13
      pub frames : HasFrames (Means C placed flash a) C.functions (place_in C placed flash a) (return_to C placed flash a) seen.words (frames_of callers)
          (store_of seen).kept 0
      pub sp_is : sp + 4 * length seen.words ≡ c.base
      pub less : length seen.words ≤ length c.bank
      pub globals : seen.globals ≡ t.globals
      pub arena : seen.arena ≡ t.arena

    pub returns : (at : ℕ) → return_to C placed flash a (frames_of callers) ≡ at + 1 → at % 2 ≡ 0 → at + 1 < 2 ^ 32 → Returned at
    returns at el even la =
        let op = Return from in
        let fn = p.function in
        let place = place_of p.places in
        let k = here C placed flash a texts image p f callers base c used h t op e x sh in
        let fw = k.within_function in
        let fetch = fetched flash c.base in
        let pl = spots C placed flash a f.function p in
        let pieces = function_pieces p in
        let b = bank_in flash c t in
        let free = t.free in
        let v = view_in c t in
        let s = c.registers in
        let i = start fn place f.place + 1 in
        let Is = Means C placed flash a in
        let pin = place_in C placed flash a in
        let ret = return_to C placed flash a in
        let lf : from < temporaries fn = ((k.op_within).names).0 in
        let w0 = word C placed flash a texts image p f callers base c used h t op e x sh from in
        let u1 = with_low 0 w0 v in
        let n1 = length-set v.low 0 w0 ∙ x.registers in
        let n = saves fn place in
        let few : n ≤ 4 = saves_few fn place fw.inside in
        let list = saved_list fn place in
        let down = below_saved fn place in
        let st1 = later pieces i (from_place fn 0 (place from)) (raises down ++ (Plain (PopMany list true) ∷ [])) k.stands in
        let st2 = rest_of pieces (i + 1) (raises down) (Plain (PopMany list true) ∷ []) st1 in
        let j = i + 1 + length (raises down) in
        let gp : slice_get pieces j ≡ Some (Plain (PopMany list true)) = ap (slice_get pieces) (omega arith) ∙ st2 0 (omega arith) in
        let rm = room Is C.functions pin ret fn place (λ n. IsLiveAt fn.ops n f.place) f.temps (frames_of callers) (store_of v) x.running in
        let rl = rm.long in
        let kept = (store_of v).kept in
        let aw = frames_small Is C.functions pin ret c.bank (frames_of callers) (saved fn place kept c.bank 0) (words fn) (x.running).above in
        let c1 = flows_one fetch flash pl pieces fw.laid i (from_place fn 0 (place from)) v u1 s b free
        (ap (slice_get pieces) (omega arith) ∙ k.stands 0 (omega arith)) fw.at refl
        (reads_word C placed flash a texts image p f callers base c used h t op e x sh from 0 v lf (0, omega arith, refl) (omega arith) refl) in
        let s1 = registers_of u1 (pl.at (i + 1)) (record s { lr = c1.link }) in
        let b1 = bank_of u1 b in
        let h1 = at_view flash s.sp u1 b c1.long fw.at in
        let ra = raised_by fetch flash pl pieces fw.laid (i + 1) down s1 b1 free
        (first_of pieces (i + 1) (raises down) (Plain (PopMany list true) ∷ []) st1) h1 (omega arith) in
        let ws2 = drop down c.bank in
        let b2 : Bank = record b1 { words = ws2 } in
        let s2 : Registers = record s1 { sp = s.sp + 4 * down; pc = pl.at j } in
        let ld = length-drop down c.bank in
        let ks = run 4 n in
        let lk : length ks ≡ n = run_length 4 n in
        let last : slice_index (get_from ws2 0 (n + 1)) n ≡ at + 1
        = popped_at fn n c.bank (n + 1) n (omega arith) ∙ (ap (slice_index c.bank) (omega arith) ∙ (((x.running).frame).link ∙ el)) in
        let come : (m : ℕ) → m < n + 1 → slice_index ws2 (0 + m) < 2 ^ 32
        = λ m g. subst (λ y. y < 2 ^ 32) (get_at ws2 0 (n + 1) m g)
        (popped_words fn n c.bank at m (popped_small fn place kept c.bank few aw) last la g (nat_lt m n) refl) in
        let q5 = pops_words flash (pl.behind j) at s2 b2 free ks ra.at (omega arith)
        (subst (λ z. AllWords (get_from ws2 0 (z + 1))) (sym lk) (get_words ws2 0 (n + 1) come))
        (subst (λ z. slice_index (get_from ws2 0 (z + 1)) z ≡ at + 1) (sym lk) last) even in
        let does = ap (Bm (b2, free) s2.sp) (pop_is (pl.behind j) s2 list n (run_listed n few)) ∙ q5.0 in
        let count = length ks + 1 in
        let r' = filled u1.low ks (get_from ws2 0 count) in
        let v3 : View = record v { low = r'; words = drop count ws2 } in
        let s3 : Registers = record s2 { r = r'; sp = s2.sp + 4 * count; pc = at } in
        let b3 : Bank = record b2 { words = drop count ws2 } in
        let r3 = each_goes fetch flash pl pieces fw.laid j (Plain (PopMany list true)) gp (omega arith) s2 (b2, free) s3 (b3, free) refl ra.at does in
        let r23 = reaches_add over fetch 1 4 1 2 s1 (b1, free) s2 (b2, free) s3 (b3, free) ra.reach r3 in
        let whole = reaches_add over fetch 1 2 2 6 (record s { pc = pl.at i }) (memory_of flash c t) s1 (b1, free) s3 (b3, free) c1.reach r23 in
        let ld5 = length-drop count ws2 in
        let si = x.sp_is in
        let other : (m : ℕ) → 4 ≤ m → slice_index v.low m ≡ slice_index u1.low m = λ m g. sym (get_or-set_other v.low 0 m w0 0 (omega arith)) in
        record {
          seen = v3;
          link = c1.link;
          sp = s.sp + 4 * down + 4 * count;
          reach = whole;
          bank = q5.1;
          answer = filled_below u1.low 4 n (get_from ws2 0 count) 0 (omega arith) ∙ get_or-set_same v.low 0 w0 0 (let rg = x.registers in omega arith);
          low = filled_length u1.low ks (get_from ws2 0 count) ∙ n1;
          frames = subst (λ (q : List ℕ). HasFrames Is C.functions pin ret (drop count ws2) (frames_of callers) q 0)
              (sym (popped_kept fn place u1.low c.bank (slice_index v.low 4) (slice_index v.low 5) (slice_index v.low 6) (slice_index v.low 7) few n1
              (other 4 (omega arith)) (other 5 (omega arith)) (other 6 (omega arith)) (other 7 (omega arith)) r'
              (ap (λ z. filled u1.low ks (get_from ws2 0 (z + 1))) lk)))
              (frames_shift Is C.functions pin ret c.bank (drop count ws2) (frames_of callers) (saved fn place kept c.bank 0) (words fn) 0
              (dropped_twice down count (words fn) c.bank (omega arith)) (omega arith) (x.running).above);
          sp_is = omega arith;
          less = omega arith;
          globals = refl;
          arena = refl;
        }
