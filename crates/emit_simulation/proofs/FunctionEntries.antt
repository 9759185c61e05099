-- A function begins: its frame goes above those that wait, or it is a panic.
use Rattle.std.proofs.Common.{zero, suc, ◌≡◌, ℕ, ◌+◌, ◌*◌, ◌-◌, ◌<◌, ◌≤◌, ◌^◌, List, [], ◌∷◌, length, Bool, true, false, cond, nat_lt, Option, Some, None, refl, sym, ap, ◌∙◌, subst, arith, slice_get, slice_set, slice_index, get_or-set_same}
use Rattle.std.specs.Prelude.{get_or}
use Rattle.std.proofs.lemmas.List.{length-set}
use Rattle.thumb_code.specs.declared.register_file.Registers.{Registers}
use Rattle.thumb_code.specs.Step.{fetched}
use Rattle.board_world.specs.Observations.{ByteList}
use Rattle.board_world.specs.Limits.{depth_limit}
use Rattle.board_world.specs.Panics.{depth_panic}
use Rattle.board_world.specs.Kinds.{Turn, Goes, Panics}
use Rattle.board_world.specs.Sound.{NoFault}
use Rattle.bank_model.specs.Bank.{Bank}
use Rattle.bank_model.specs.Fibers.{Fiber, Shared}
use Rattle.bank_model.specs.BoardMachine.{memory_of, fiber_of}
use Rattle.thumb_layout.proofs.Laws.{reaches_add, ComesSilently}
use Rattle.flat_ir.specs.declared.ops.Function.{Function}
use Rattle.flat_ir.specs.declared.ops.FlatCode.{FlatCode}
use Rattle.register_assign.specs.declared.places.Placed.{Placed}
use Rattle.register_assign.specs.Sound.{place_of}
use Rattle.sts_syntax.specs.TypeRules.{entry}
use Rattle.sts_meaning.specs.Values.{Value, Outcome, Gives, Breaks, Stuck, there, default}
use Rattle.sts_meaning.specs.Frames.{after}
use Rattle.sts_meaning.specs.Heaps.{FlatHeap}
use Rattle.flat_meaning.specs.Operators.{exactly}
use Rattle.flat_meaning.specs.Frames.{FlatFrame, FlatActivity, Stands, entered, words_of, depth_of}
use Rattle.flat_meaning.specs.Frames as flat
use Rattle.flat_meaning.specs.Steps.{called, entering}
use Rattle.thumb_emit.specs.Emit.{entry_pieces, function_pieces}
use Rattle.thumb_emit.specs.InFlash.{Addresses}
use Rattle.arena_values.specs.Lies.{Shows}
use Rattle.placed_frames.proofs.Laws.{View, registers_of, bank_of, At}
use Rattle.placed_frames.specs.Places.{words}
use Rattle.placed_frames.specs.Frames.{HasFrames, AreWords, outgoing_of, words_at, saved_at}
use Rattle.thumb_emit.proofs.Laws.{joined_first}
use Rattle.emit_simulation.proofs.Laid.{Fm, over, store_of}
use Rattle.emit_simulation.specs.Ties.{AtOp, IsShared, IsImage, Means, spots, place_in, return_to, frames_of, stack_end}
use Rattle.emit_simulation.proofs.AtOps.{bank_in}
use Rattle.emit_simulation.proofs.Starts.{entry_stands, first_start}
use Rattle.emit_simulation.proofs.Context.{laid_at, function_at}
use Rattle.emit_simulation.proofs.Meanings.{small, entry_is}
use Rattle.emit_simulation.proofs.Turns.{Owed, asking, makes_panic, makes_reach}
use Rattle.emit_simulation.proofs.Ops.{wider}
use Rattle.emit_simulation.proofs.Entry.{at_head, overflows, enters, tested, refused}

words_same : (o : Option Function) → words_of o ≡ words_at o
words_same None = refl
words_same (Some f) = omega arith

-- as many arguments as parameters
pub exactly_length : (n : ℕ) (vs : List Value) (u : Unit {0}) → exactly n vs ≡ Gives u → length vs ≡ n
exactly_length zero [] u e = refl
exactly_length zero (v ∷ vs) u e = cc
exactly_length (suc n) [] u e = cc
exactly_length (suc n) (v ∷ vs) u e = ap suc (exactly_length n vs u e)

pub exactly_breaks : (n : ℕ) (vs : List Value) (code : ℕ) → exactly n vs ≡ Breaks code → ⊥
exactly_breaks zero [] code e = cc
exactly_breaks zero (v ∷ vs) code e = cc
exactly_breaks (suc n) [] code e = cc
exactly_breaks (suc n) (v ∷ vs) code e = exactly_breaks n vs code e

pub argument_at : (vs : List Value) (j : ℕ) → j < length vs → slice_get vs j ≡ Some (get_or vs j default)
argument_at [] j l = absurd (omega arith)
argument_at (v ∷ vs) zero l = refl
argument_at (v ∷ vs) (suc j) l = argument_at vs j (omega arith)

-- numbers of the depth
past : (sp base len stand w : ℕ) → sp + 4 * len ≡ stand → stand + 4 * base ≡ stack_end → depth_limit < base + len + w → sp < 0x20003080 + 4 * w
past sp base len stand w e f l = omega arith

within : (sp base len stand w : ℕ) → sp + 4 * len ≡ stand → stand + 4 * base ≡ stack_end → base + len + w ≤ depth_limit → 0x20003080 + 4 * w ≤ sp
within sp base len stand w e f l = omega arith

lower_sp : (sp base len len' stand w : ℕ) → sp + 4 * len ≡ stand → stand + 4 * base ≡ stack_end → base + len + w ≤ depth_limit → len' ≡ w + len
    → sp - 4 * w + 4 * len' ≡ stand
lower_sp sp base len len' stand w e f l k = omega arith

module _ (C : FlatCode) (placed : List Placed) (flash : List ℕ) (a : Addresses) where
  -- frames that fill a bank have its depth
  pub frames_fill : (ws : List ℕ) (fs : List FlatFrame) (kept : List ℕ) (k : ℕ) → HasFrames (Means C placed flash a) C.functions (place_in C placed flash a)
      (return_to C placed flash a) ws (frames_of fs) kept k → k + depth_of C fs ≡ length ws
  frames_fill ws [] kept k x = let e = x.0 in omega arith
  frames_fill ws (f ∷ fs) kept k x =
      let o = slice_get C.functions f.function in
      let h = frames_fill ws fs (saved_at o (place_in C placed flash a f.function) kept ws k) (k + words_at o) x.1 in
      let e : flat.words C f.function ≡ words_at o = ap words_of (entry_is C.functions f.function) ∙ words_same o in
      omega arith

  -- A fiber has come to the entry of a function, with the frames that wait above it and arguments in the outgoing words of the first.
  pub record Calling (c : Fiber) (t : Shared) (g : ℕ) (pg : Placed) (args : List Value) (callers : List FlatFrame) (base most : ℕ) : Type 0 where
    pub v : View
    pub s : Registers
    pub free : List ℕ
    pub there : slice_get placed g ≡ Some pg
    pub reach : ComesSilently over (fetched flash c.base) 0 most c.registers (memory_of flash c t) (registers_of v ((spots C placed flash a g pg).at 0) s)
        (bank_of v (bank_in flash c t), free)
    pub at : At flash s.sp (bank_of v (bank_in flash c t))
    pub low : length v.low ≡ 13
    pub link : s.lr ≡ return_to C placed flash a (frames_of callers)
    pub link_fits : s.lr < 2 ^ 32
    pub kept : AreWords (store_of v).kept
    pub frames : HasFrames (Means C placed flash a) C.functions (place_in C placed flash a) (return_to C placed flash a) v.words (frames_of callers)
        (store_of v).kept 0
    pub sp_is : s.sp + 4 * length v.words ≡ c.base
    pub base_is : c.base + 4 * base ≡ stack_end
    pub deep : base + length v.words ≤ depth_limit
    pub globals : v.globals ≡ t.globals
    pub arena : v.arena ≡ t.arena
    pub arguments : (j : ℕ) (value : Value) → slice_get args j ≡ Some value → Means C placed flash a value (slice_index v.words j)
    pub room : length args ≤ outgoing_of C.functions (frames_of callers)

module _ (C : FlatCode) (placed : List Placed) (flash : List ℕ) (a : Addresses) (texts : List ByteList) (image : IsImage C placed flash a texts) where
  module _ (c : Fiber) (t : Shared) (used : ℕ) (h : FlatHeap) (before : Shared) (g : ℕ) (pg : Placed) (args : List Value) (callers : List FlatFrame)
      (base most : ℕ)
      (x : Calling C placed flash a c t g pg args callers base most) (sh : IsShared C placed flash a used h t) where
    abbrev Owes : Turn FlatActivity FlatHeap → Type 0
    Owes turn = Owed C placed flash a texts (most + 55) used h before turn c t

    abbrev bank : Bank
    bank = bank_of x.v (bank_in flash c t)

    depth_is : base + depth_of C callers + flat.words C g ≡ base + length x.v.words + words pg.function
    depth_is =
        let e : entry C.functions g ≡ Some pg.function = entry_is C.functions g ∙ function_at C placed flash a texts image g pg x.there in
        let w : flat.words C g ≡ words pg.function = ap words_of e ∙ words_same (Some pg.function) in
        let d = frames_fill C placed flash a x.v.words callers (store_of x.v).kept 0 x.frames in
        omega arith

    by_depth : length args ≡ pg.function.params → (b : Bool) → nat_lt depth_limit (base + depth_of C callers + flat.words C g) ≡ b
        → Owes (cond b (Panics depth_panic) (Goes (Stands (entered g args) callers base) h))
    by_depth la true e =
        let at = x.at in
        let lo = at.low in
        let laid = laid_at C placed flash a texts image g pg c.base x.there at.aligned (omega arith) at.high in
        let pl = spots C placed flash a g pg in
        let fn = pg.function in
        let place = place_of pg.places in
        let fetch = fetched flash c.base in
        let d : depth_limit < base + length x.v.words + words fn = let k = depth_is in grind arith in
        let r = image.ready g pg x.there in
        let p8 = (r.0).formed.outgoing in let q8 = (r.0).formed.locals in let r8 = (r.0).formed.operands in
        let y = overflows fetch flash pl (function_pieces pg) laid fn place (entry_stands pg) x.v x.s bank x.free at refl x.low
        (past x.s.sp base (length x.v.words) c.base (words fn) x.sp_is x.base_is d) (omega arith) in
        let rf = refused fetch flash pl (function_pieces pg) laid fn place (entry_stands pg) x.v x.s in
        let s6 = registers_of rf (pl.at 6) (record x.s { lr = y.link }) in
        let whole = reaches_add over fetch 0 most 6 13 c.registers (memory_of flash c t) (registers_of x.v (pl.at 0) x.s) (bank, x.free) s6
        (bank_of rf bank, x.free) x.reach y.reach in
        let ask = asking flash pl (function_pieces pg) c t used laid 6 1 6 (most + 13) s6 (bank_of rf bank, x.free)
        (at_head fetch flash pl (function_pieces pg) laid fn place (entry_stands pg) 6 (omega arith)) refl at refl sh.0 whole in
        wider C placed flash a texts (most + 13 + 2) (most + 55) used h before (Panics depth_panic) c t (omega arith)
        (makes_panic C placed flash a texts used (most + 13 + 2) depth_panic h before c t (record s6 { pc = pl.behind 6 }) (bank_of rf bank, x.free) ask
        (omega arith)
        (get_or-set_same (tested fetch flash pl (function_pieces pg) laid fn place (entry_stands pg) x.v x.s).low 0 102 0
        (let n = tested_low x.v x.s in omega arith)))
      where
        tested_low : (v : View) (s : Registers) → length (slice_set (slice_set (slice_set v.low 3 s.lr) 0 s.sp) 1
            (0x20003080 + 4 * words pg.function)) ≡ length v.low
        tested_low v s = length-set (slice_set (slice_set v.low 3 s.lr) 0 s.sp) 1 (0x20003080 + 4 * words pg.function) ∙
            (length-set (slice_set v.low 3 s.lr) 0 s.sp ∙ length-set v.low 3 s.lr)
    by_depth la false e =
        let at = x.at in
        let lo = at.low in
        let laid = laid_at C placed flash a texts image g pg c.base x.there at.aligned (omega arith) at.high in
        let pl = spots C placed flash a g pg in
        let fn = pg.function in
        let place = place_of pg.places in
        let fetch = fetched flash c.base in
        let d : base + length x.v.words + words fn ≤ depth_limit = let k = depth_is in grind arith in
        let r = image.ready g pg x.there in
        let p8 = (r.0).formed.params in
        let rm = x.room in
        let y = enters fetch flash pl (function_pieces pg) laid fn place (entry_stands pg) (Means C placed flash a) C.functions (place_in C placed flash a)
        (return_to C placed flash a) pg.places refl (λ i. get_or args i default) (frames_of callers) x.v x.s bank x.free (r.0).sound at refl x.low
        (within x.s.sp base (length x.v.words) c.base (words fn) x.sp_is x.base_is d) x.link_fits x.kept x.link (omega arith)
        (λ j l. (let m = x.arguments j (get_or args j default) (argument_at args j (omega arith)) in
        (m, small C placed flash a texts image (get_or args j default) (slice_index x.v.words j) m))) x.frames in
        let q : Registers = record (registers_of y.seen (pl.at (length (entry_pieces fn place))) x.s) { sp = x.s.sp - 4 * words fn; lr = y.link } in
        let m : Fm = (bank_of y.seen bank, y.free') in
        let whole = reaches_add over fetch 0 most 8 (21 + 4 * fn.params) c.registers (memory_of flash c t) (registers_of x.v (pl.at 0) x.s) (bank, x.free) q m
        x.reach y.reach in
        let ln = y.long in
        let f0 = entered g args in
        wider C placed flash a texts (most + (21 + 4 * fn.params)) (most + 55) used h before (Goes (Stands f0 callers base) h) c t (omega arith)
        (makes_reach C placed flash a texts used 8 (most + (21 + 4 * fn.params)) h h before c t q m (Stands f0 callers base) (omega arith) sh.0 whole
        (AtOp pg f0 callers base (fiber_of q m) (joined_first fn) (record {
          there = x.there;
          running = y.runs;
          registers = y.low;
          pc = ap pl.at (sym (first_start pg));
          base_is = x.base_is;
          sp_is = lower_sp x.s.sp base (length x.v.words) (length y.seen.words) c.base (words fn) x.sp_is x.base_is d ln;
          deep = omega arith;
        })) (
          refl,
          subst (λ n. Shows (Means C placed flash a) a.class h used n y.seen.arena) (sym (y.globals ∙ x.globals))
              (subst (λ n. Shows (Means C placed flash a) a.class h used t.globals n) (sym (y.arena ∙ x.arena)) sh.1),
        ))

    by_number : (o : Outcome (Unit {0})) → exactly pg.function.params args ≡ o → NoFault (after o (λ u. entering C texts h base callers (entered g args)))
        → Owes (after o (λ u. entering C texts h base callers (entered g args)))
    by_number (Gives u) e nf = by_depth (exactly_length pg.function.params args u e) (nat_lt depth_limit (base + depth_of C callers + flat.words C g)) refl
    by_number (Breaks code) e nf = absurd (exactly_breaks pg.function.params args code e)
    by_number Stuck e nf = absurd nf

    -- A CALL'S TURN
    pub calls_turn : NoFault (called C texts h base callers g args) → Owes (called C texts h base callers g args)
    calls_turn nf =
        let e : entry C.functions g ≡ Some pg.function = entry_is C.functions g ∙ function_at C placed flash a texts image g pg x.there in
        by_there (entry C.functions g) e nf
      where
        by_there : (o : Option Function) → o ≡ Some pg.function → NoFault (after (there o)
            (λ r. after (exactly r.params args) (λ u. entering C texts h base callers (entered g args))))
            → Owes (after (there o) (λ r. after (exactly r.params args) (λ u. entering C texts h base callers (entered g args))))
        by_there o q nf = subst (λ (k : Option Function). NoFault (after (there k)
            (λ r. after (exactly r.params args) (λ u. entering C texts h base callers (entered g args))))
            → Owes (after (there k) (λ r. after (exactly r.params args) (λ u. entering C texts h base callers (entered g args))))) (sym q)
            (λ n. by_number (exactly pg.function.params args) refl n) nf
