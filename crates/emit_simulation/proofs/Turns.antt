-- From silent instructions to a turn.
use Rattle.std.proofs.Common.{zero, suc, ◌≡◌, ℕ, ◌+◌, ◌%◌, ◌<◌, ◌≤◌, List, Some, refl, sym, ap, ◌∙◌, subst, arith, slice_get}
use Rattle.thumb_code.specs.declared.instructions.Instr.TheVariants.{Svc}
use Rattle.thumb_code.specs.declared.register_file.Registers.{Registers}
use Rattle.thumb_code.specs.Effect.{ends, Asks as AsksFor}
use Rattle.thumb_code.specs.Memory.{Asked}
use Rattle.thumb_code.specs.Step.{fetched, stepped_at as step_at, Stepped, ran}
use Rattle.thumb_code.specs.Run.{Still, runs}
use Rattle.board_world.specs.Observations.{ByteList}
use Rattle.board_world.specs.Kinds.{Kind, Turn, Goes, Panics}
use Rattle.board_world.specs.Simulation.{Path, one, Going, Onward}
use Rattle.board_world.specs.Trailing.{Completes}
use Rattle.bank_model.specs.Bank.{Bank, bank_step}
use Rattle.bank_model.specs.Fibers.{Fiber, Shared}
use Rattle.bank_model.specs.BoardMachine.{fibers, memory_of, fiber_of, shared_in, turn_of}
use Rattle.bank_model.specs.AllServices.{service}
use Rattle.thumb_code.specs.RegisterFile.{low}
use Rattle.thumb_layout.specs.declared.pieces.Piece.{Piece}
use Rattle.thumb_layout.specs.declared.pieces.Piece.TheVariants.{Plain}
use Rattle.thumb_layout.specs.Pieces.{Places}
use Rattle.thumb_layout.proofs.Laws.{silent_add, ComesSilently}
use Rattle.flat_ir.specs.declared.ops.FlatCode.{FlatCode}
use Rattle.sts_meaning.specs.Heaps.{FlatHeap}
use Rattle.register_assign.specs.declared.places.Placed.{Placed}
use Rattle.flat_meaning.specs.Frames.{FlatActivity}
use Rattle.sts_implements.specs.Passes.{trailing_instructions}
use Rattle.thumb_emit.specs.InFlash.{Addresses}
use Rattle.placed_frames.proofs.Laws.{View, registers_of, bank_of, At, sp_has, sp_stays, least, Bm}
use Rattle.emit_simulation.proofs.Laid.{Fm, over, Laid, Comes}
use Rattle.emit_simulation.specs.Ties.{IsTied, IsShared, ties}
use Rattle.emit_simulation.proofs.AtOps.{view_in, bank_in, fiber_seen, shared_seen}
use Rattle.emit_simulation.proofs.OwedOps.{Makes}
use Rattle.emit_simulation.proofs.Paths.{path}

-- the last of some steps
pub record Last {C D : Type 0} (L : Kind C D) (n : ℕ) (b : C) (t : D) (c : C) (u : D) : Type 0 where
  pub at : C
  pub memory : D
  pub way : Path L one n n b t at memory
  pub step : L.step at memory ≡ Goes c u

pub path_last : {C D : Type 0} (L : Kind C D) (n : ℕ) (b : C) (t : D) (c : C) (u : D) (k : ℕ) → Path L one (suc n) k b t c u → Last L n b t c u
path_last {C = C} {D = D} L zero b t c u k p = record { at = b; memory = t; way = (refl, refl, refl); step = p.3 ∙ (λ i. Goes ((p.5).0 i) ((p.5).1 i)) }
path_last {C = C} {D = D} L (suc n) b t c u k p =
    let l = path_last L n p.0 p.1 c u p.2 p.5 in
    record { at = l.at; memory = l.memory; way = (p.0, p.1, n, p.3, omega arith, l.way); step = l.step }

-- SVC
pub asks_does : (flash : List ℕ) (b : Bank) (free : List ℕ) (q : Registers) (n : ℕ) → At flash q.sp b → Bm (b, free) q.sp (ends q.sp (AsksFor n q)) ≡ Asked n q
    (b, free)
asks_does flash b free q n h = let y = sp_has flash q.sp b h in let m = least q.sp in let z = sp_stays flash q.sp b free h in rw y (rw m (rw z (rw z refl)))

-- a fiber's memory is its bank again
pub memory_is : (flash : List ℕ) (used : ℕ) (r : Registers) (m : Fm) → m.0.flash ≡ flash → memory_of flash (fiber_of r m) (shared_in used m) ≡ m
memory_is flash used r m e = λ i. (record { flash = sym e i; globals = m.0.globals; arena = m.0.arena; base = m.0.base; words = m.0.words }, m.1)

-- silent instructions up to an SVC, and its turn
pub record Asking (flash : List ℕ) (most used number : ℕ) (c : Fiber) (t : Shared) (q : Registers) (m : Fm) : Type 0 where
  pub steps : ℕ
  pub few : steps + 1 ≤ most
  pub last : Fiber
  pub memory : Shared
  pub way : Path (fibers flash) one steps steps c t last memory
  pub at : ℕ
  pub turn : (fibers flash).step last memory ≡ service flash at number (fiber_of q m) (shared_in used m)

pub asking : (flash : List ℕ) (p : Places) (pieces : List Piece) (c : Fiber) (t : Shared) (used : ℕ) → Laid (fetched flash c.base) flash p pieces
    → (i number least most : ℕ) (s : Registers) (m : Fm)
    → slice_get pieces i ≡ Some (Plain (Svc number)) → s.pc ≡ p.at i → At flash s.sp m.0 → m.0.base ≡ c.base → t.used ≡ used
    → ComesSilently over (fetched flash c.base) least most c.registers (memory_of flash c t) s m
    → Asking flash (most + 2) used number c t (record s { pc = p.behind i }) m
asking flash p pieces c t used laid i number least most s m g e h b u r =
    let fetch = fetched flash c.base in
    let x = laid.each i (Plain (Svc number)) g (omega arith) s m e h in
    let f = r.few in let k = x.few in
    let q : Registers = record s { pc = p.behind i } in
    let w = path flash used (r.count + x.before) c.base c t x.last m refl u
    (silent_add over fetch r.count x.before c.registers (memory_of flash c t) s m x.last m r.silent x.silent) in
    let z = memory_is flash used x.last m h.flash_is in
    let d : Stepped Fm = step_at x.last.pc (Asked number q m) in
    record {
      steps = r.count + x.before;
      few = omega arith;
      last = fiber_of x.last m;
      memory = shared_in used m;
      way = w;
      at = x.last.pc;
      turn = ap (λ (y : Fm). turn_of flash used x.last.pc (bank_step x.last y)) z
          ∙ (ap (turn_of flash used x.last.pc) (λ j. ran (over x.last m) x.last (fetched (h.flash_is j) (b j) x.last.pc))
          ∙ ap (turn_of flash used x.last.pc) (x.does ∙ ap (step_at x.last.pc) (asks_does flash m.0 m.1 q number h)));
    }

module _ (C : FlatCode) (placed : List Placed) (flash : List ℕ) (a : Addresses) (texts : List ByteList) where
  abbrev pub Owed : (bound used : ℕ) → FlatHeap → Shared → Turn FlatActivity FlatHeap → Fiber → Shared → Type 0
  Owed bound used h before turn c t = Makes C placed flash a texts bound used h before turn c t

  abbrev pub Tied : FlatActivity → Fiber → Type 0
  Tied x c = IsTied C placed flash a x c

  -- who is tied is tied still, whatever has changed
  pub still_tied : (h h' : FlatHeap) (t t' : Shared) (x : FlatActivity) (c : Fiber) → (ties C placed flash a).Active h t x c → (ties C placed flash a).Active
      h' t' x c
  still_tied h h' t t' x c k = record { steps = k.steps; cost = k.cost; few = k.few; at = k.at; alone = k.alone; active = k.active }

  pub onward : (used : ℕ) (h h' : FlatHeap) (t t' : Shared) → IsShared C placed flash a used h' t' → Onward (ties C placed flash a) used h h' t t'
  onward used h h' t t' s = record { shared = s; others = λ x c k. still_tied h h' t t' x c k }

  pub tied_now : (h : FlatHeap) (t : Shared) (x : FlatActivity) (c : Fiber) → Tied x c → (ties C placed flash a).Active h t x c
  tied_now h t x c k = record { steps = 0; cost = 0; few = omega arith; at = c; alone = λ u. (refl, refl, refl); active = k }

  pub going : (used : ℕ) (h h' : FlatHeap) (t t' : Shared) (x : FlatActivity) (c : Fiber) → Tied x c → IsShared C placed flash a used h' t'
      → Going (ties C placed flash a) used h t (x, h') (c, t')
  going used h h' t t' x c k s = record { self = tied_now h' t' x c k; onward = onward used h h' t t' s }

  -- A TURN THAT GOES ON, made by silent instructions
  pub makes_reach : (used least most : ℕ) (h h' : FlatHeap) (before : Shared) (c : Fiber) (t : Shared) (q : Registers) (m : Fm) (x : FlatActivity) → 0 < least
      → t.used ≡ used → ComesSilently over (fetched flash c.base) least most c.registers (memory_of flash c t) q m
      → Tied x (fiber_of q m) → IsShared C placed flash a used h' (shared_in used m) → Owed most used h before (Goes x h') c t
  makes_reach used least most h h' before c t q m x l u r k s = by_count r.count (omega (arith, r.some)) r.few r.silent where
    by_count : (n : ℕ) → 0 < n → n ≤ most → runs over (fetched flash c.base) n c.registers (memory_of flash c t) ≡ Still q m → Owed most used h before
        (Goes x h') c t
    by_count zero z f e = absurd (omega arith)
    by_count (suc n) z f e =
        let y = path_last (fibers flash) n c t (fiber_of q m) (shared_in used m) (suc n) (path flash used (suc n) c.base c t q m refl u e) in
        record {
          steps = n;
          cost = n;
          last = y.at;
          memory = y.memory;
          path = y.way;
          light = omega arith;
          below = Goes (fiber_of q m) (shared_in used m);
          completes = subst (λ v. Completes (fibers flash) one trailing_instructions used v (Goes (fiber_of q m) (shared_in used m))) (sym y.step)
              (fiber_of q m, shared_in used m, refl, record { steps = 0; cost = 0; few = omega arith; path = (refl, refl, refl) });
          match = going used h h' before (shared_in used m) x (fiber_of q m) k s;
        }

  -- the same, from what is seen to what is seen
  pub makes_goes : (p : Places) (used least most i j : ℕ) (h h' : FlatHeap) (before : Shared) (c : Fiber) (t : Shared) (v : View) (x : FlatActivity)
      → 0 < least → t.used ≡ used → c.registers.pc ≡ p.at i
      → (y : Comes (fetched flash c.base) p least most i j (view_in c t) v c.registers (bank_in flash c t) t.free) → Tied x (fiber_seen c v (p.at j) y.link)
      → IsShared C placed flash a used h' (shared_seen used v t.free)
      → Owed most used h before (Goes x h') c t
  makes_goes p used least most i j h h' before c t v x l u e y k s =
      let r = y.reach in
      makes_reach used least most h h' before c t (registers_of v (p.at j) (record c.registers { lr = y.link })) (bank_of v (bank_in flash c t), t.free) x l u
      (subst (λ n. ComesSilently over (fetched flash c.base) least most (record c.registers { pc = n }) (memory_of flash c t)
      (registers_of v (p.at j) (record c.registers { lr = y.link })) (bank_of v (bank_in flash c t), t.free)) (sym e) r) k s

  -- A PANIC, made by silent instructions up to SVC 1
  pub makes_panic : (used most number : ℕ) (h : FlatHeap) (before : Shared) (c : Fiber) (t : Shared) (q : Registers) (m : Fm) → Asking flash most used 1 c t q
      m → number < 256 → low q 0 ≡ number
      → Owed most used h before (Panics number) c t
  makes_panic used most number h before c t q m y l e =
      let f = y.few in
      let z : low q 0 % 256 ≡ number = omega arith in
      record {
        steps = y.steps;
        cost = y.steps;
        last = y.last;
        memory = y.memory;
        path = y.way;
        light = omega arith;
        below = Panics number;
        completes = subst (λ v. Completes (fibers flash) one trailing_instructions used v (Panics number)) (sym y.turn) (ap Panics z);
        match = refl;
      }
