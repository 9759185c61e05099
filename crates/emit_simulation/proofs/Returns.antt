-- Returns make their turns: to the frame that waits, or the activity ends.
use Rattle.std.proofs.Common.{suc, ◌≡◌, ℕ, ◌+◌, ◌*◌, ◌-◌, ◌%◌, ◌<◌, List, [], ◌∷◌, ◌++◌, length, true, false, Option, Some, None, refl, sym, ap, ◌∙◌, subst, arith, slice_get}
use Rattle.std.specs.Prelude.{Contains}
use Rattle.std.specs.Option.{option_to_list}
use Rattle.std.specs.List.{AllByRecursion}
use Rattle.std.proofs.lemmas.List.{length-append}
use Rattle.std.proofs.lemmas.Option.{slice_get_within}
use Rattle.thumb_code.specs.declared.instructions.Instr.TheVariants.{Svc, Blx}
use Rattle.thumb_code.specs.declared.register_file.Registers.{Registers}
use Rattle.thumb_code.specs.RegisterFile.{is_odd}
use Rattle.thumb_code.specs.Map.{is_base, flash_end, flash_half, in_flash}
use Rattle.thumb_code.specs.Machine.{return_of}
use Rattle.thumb_code.specs.Step.{Found, fetched, behind, ran, stepped_at as step_at}
use Rattle.board_world.specs.Observations.{ByteList}
use Rattle.board_world.specs.Kinds.{Turn, Goes, Ends}
use Rattle.board_world.specs.Simulation.{one}
use Rattle.board_world.specs.Trailing.{Completes}
use Rattle.board_world.specs.Sound.{NoFault}
use Rattle.bank_model.specs.Fibers.{Fiber, Shared, begins_on, begins_again}
use Rattle.bank_model.specs.BoardMachine.{fibers, memory_of, fiber_of, shared_in, turn_of}
use Rattle.thumb_layout.specs.declared.pieces.Piece.{Piece}
use Rattle.thumb_layout.specs.declared.pieces.Piece.TheVariants.{Plain, CallTo, Label}
use Rattle.thumb_layout.specs.Pieces.{Places, goes_on as piece_goes_on}
use Rattle.thumb_layout.specs.Holds.{cost}
use Rattle.thumb_layout.proofs.Laws.{reaches_add, ComesSilently}
use Rattle.flat_ir.specs.declared.ops.Op.{Op}
use Rattle.flat_ir.specs.declared.ops.Op.TheVariants.{Return, Call, CallSlot}
use Rattle.flat_ir.specs.declared.ops.Function.{Function}
use Rattle.flat_ir.specs.declared.ops.FlatCode.{FlatCode}
use Rattle.flat_ir.specs.Ops.{reads, writes, goes_on}
use Rattle.flat_ir.specs.WellFormed.{temporaries, NamesBelow}
use Rattle.flat_ir.specs.Liveness.{IsLiveAt}
use Rattle.register_assign.specs.declared.places.Place.{Place}
use Rattle.register_assign.specs.declared.places.Placed.{Placed}
use Rattle.register_assign.specs.Sound.{place_of}
use Rattle.register_assign.specs.Unread.{is_unread}
use Rattle.sts_syntax.specs.TypeRules.{entry}
use Rattle.sts_meaning.specs.Frames.{after}
use Rattle.sts_meaning.specs.Heaps.{FlatHeap}
use Rattle.flat_meaning.specs.Frames.{FlatFrame, Enters, Stands, given, op_of, result_of}
use Rattle.flat_meaning.specs.Steps.{ended}
use Rattle.sts_implements.specs.Passes.{trailing_instructions}
use Rattle.thumb_emit.specs.Emit.{op_pieces, function_pieces, passes, calls_slot}
use Rattle.thumb_emit.specs.Frame.{lands}
use Rattle.thumb_emit.proofs.Laws.{lands_still, still_takes}
use Rattle.thumb_emit.specs.Bounds.{op_instructions}
use Rattle.thumb_emit.specs.InFlash.{Addresses}
use Rattle.arena_values.specs.Lies.{Shows}
use Rattle.placed_frames.proofs.Laws.{registers_of, bank_of}
use Rattle.placed_frames.specs.Places.{words}
use Rattle.placed_frames.specs.Frames.{HasFrame, HasFrames, HasWaiting, Running, Waits, saved_at, words_at, writes_at}
use Rattle.thumb_emit.specs.Joined.{condition_of}
use Rattle.thumb_emit.proofs.Laws.{joined_after}
use Rattle.emit_simulation.proofs.Laid.{Fm, over, Laid, IsEven, step_of, store_of}
use Rattle.emit_simulation.specs.Starts.{start}
use Rattle.emit_simulation.specs.Ties.{IsAt, AtEntry, AtOp, IsShared, IsImage, Means, spots, place_in, place_at, return_in, return_to, frame_of, frames_of, calls_at, calling_of, stack_end}
use Rattle.emit_simulation.proofs.AtOps.{view_in, bank_in}
use Rattle.emit_simulation.proofs.OwedOps.{MakesOp}
use Rattle.emit_simulation.proofs.Flowing.{flows_one}
use Rattle.emit_simulation.proofs.Placed.{landed_view, landed_low, landed_shared}
use Rattle.emit_simulation.proofs.Paths.{path}
use Rattle.emit_simulation.proofs.Starts.{op_stands, later}
use Rattle.emit_simulation.proofs.Straight.{runs_on, lands_last}
use Rattle.emit_simulation.proofs.Context.{at_op, laid_at, function_at, base_fits}
use Rattle.emit_simulation.proofs.Meanings.{small, placed_inside, entry_is}
use Rattle.emit_simulation.proofs.Turns.{Owed, asks_does, makes_reach, onward, tied_now}
use Rattle.emit_simulation.proofs.Ops.{here, pc_behind, wider, word, word_means}
use Rattle.emit_simulation.proofs.Passing.{passes_length}
use Rattle.emit_simulation.proofs.ReturnedFrames.{Returned, returns}

-- SVC 0 stands at an address
pub ends_there : (flash : List ℕ) (base at : ℕ) → is_base base ≡ true → at % 2 ≡ 0 → at < flash_end → flash_half flash at ≡ 0xDF00
    → fetched flash base at ≡ Found (Svc 0) (behind at false)
ends_there flash base at fits even inside half =
    let o : is_odd at ≡ false = grind arith in
    let i : in_flash at ≡ true = grind arith in
    rw fits (rw o (rw i (rw half refl)))

odd_less : (n : ℕ) → is_odd n ≡ true → (n ≡ n - 1 + 1) × ((n - 1) % 2 ≡ 0)
odd_less n e = let m : n % 2 ≡ 1 = grind arith in (omega arith, omega arith)

same_function : (f g : Function) → Some f ≡ Some g → f ≡ g
same_function f g e = cc

some_same : (m n : ℕ) → Some m ≡ Some n → n ≡ m
some_same m n e = cc

-- a piece behind some others
pub behind_pieces : (xs ys : List Piece) (n : ℕ) → slice_get (xs ++ ys) (length xs + n) ≡ slice_get ys n
behind_pieces [] ys n = ap (slice_get ys) (omega arith)
behind_pieces (x ∷ xs) ys n = let z : suc (length xs) + n ≡ suc (length xs + n) = omega arith in ap (slice_get (x ∷ (xs ++ ys))) z ∙ behind_pieces xs ys n

-- the temporary that an op writes is one of the function's
written_below : (op : Op) (to n : ℕ) → writes op ≡ Some to → NamesBelow n op → to < n
written_below op to n w names = by (writes op) w names
  where
    by : (o : Option ℕ) → o ≡ Some to → AllByRecursion (λ u. u < n) (option_to_list o ++ reads op) → to < n
    by None q h = cc
    by (Some u) q h = (let z : u ≡ to = cc in subst (λ m. m < n) z h.0)

module _ (C : FlatCode) (placed : List Placed) (flash : List ℕ) (a : Addresses) (texts : List ByteList) (image : IsImage C placed flash a texts) where
  -- the pieces of a call: the one that calls, and the put behind it
  pub record Calls (fn : Function) (place : ℕ → Place) (k : ℕ) (op : Op) (to : ℕ) : Type 0 where
    pub piece : Piece
    pub calls : slice_get (op_pieces fn place k op) (calls_at op) ≡ Some piece
    pub puts : slice_get (op_pieces fn place k op) (calls_at op + 1) ≡ Some (lands fn (is_unread fn k) (place to))
    pub long : length (op_pieces fn place k op) ≡ calls_at op + 2
    pub goes : piece_goes_on piece ≡ true
    pub even : (p : Places) (pieces : List Piece) (base i : ℕ) → Laid (fetched flash base) flash p pieces → slice_get pieces i ≡ Some piece
        → IsEven (p.behind i)
    pub writes_to : writes op ≡ Some to
    pub on : Contains (goes_on k op) (suc k)
    pub apart : (when : ℕ) → condition_of when op ≡ None

  call_pieces : (fn : Function) (place : ℕ → Place) (k to g : ℕ) (args : List ℕ) → Calls fn place k (Call to g args) to
  call_pieces fn place k to g args =
      let ps = passes fn place 0 args in
      let ys = CallTo g ∷ (lands fn (is_unread fn k) (place to) ∷ []) in
      let n = passes_length fn place 0 args in
      let ln = length-append ps ys in
      record {
        piece = CallTo g;
        calls = ap (slice_get (ps ++ ys)) (omega arith) ∙ behind_pieces ps ys 0;
        puts = ap (slice_get (ps ++ ys)) (omega arith) ∙ behind_pieces ps ys 1;
        long = omega arith;
        goes = refl;
        even = λ p pieces base i l s. l.behind_call i g s;
        writes_to = refl;
        on = (0, omega arith, refl);
        apart = λ when. refl;
      }

  slot_pieces : (fn : Function) (place : ℕ → Place) (k to slot : ℕ) (args : List ℕ) → Calls fn place k (CallSlot to slot args) to
  slot_pieces fn place k to slot args =
      let ps = passes fn place 0 args in
      let ys = calls_slot slot (3 * k + 1) ++ (lands fn (is_unread fn k) (place to) ∷ []) in
      let n = passes_length fn place 0 args in
      let ln = length-append ps ys in
      record {
        piece = Plain (Blx 1);
        calls = ap (slice_get (ps ++ ys)) (omega arith) ∙ behind_pieces ps ys 8;
        puts = ap (slice_get (ps ++ ys)) (omega arith) ∙ behind_pieces ps ys 9;
        long = omega arith;
        goes = refl;
        even = λ p pieces base i l s. l.behind_plain i (Blx 1) s;
        writes_to = refl;
        on = (0, omega arith, refl);
        apart = λ when. refl;
      }

  module _ (p : Placed) (f : FlatFrame) (callers : List FlatFrame) (base : ℕ) (c : Fiber) (used : ℕ) (h : FlatHeap) (t : Shared) (from : ℕ)
      (e : slice_get p.function.ops f.place ≡ Some (Return from))
      (x : IsAt C placed flash a p (λ u. IsLiveAt p.function.ops u f.place) f callers base (start p.function (place_of p.places) f.place) c)
      (sh : IsShared C placed flash a used h t) where
    abbrev pub Back : ℕ → Type 0
    Back at = Returned C placed flash a texts image p f callers base c used h t from e x sh at

    abbrev pub back_registers : (at : ℕ) → Back at → Registers
    back_registers at y = record (registers_of y.seen at c.registers) { sp = y.sp; lr = y.link }

    abbrev pub back_memory : (at : ℕ) → Back at → Fm
    back_memory at y = (bank_of y.seen (bank_in flash c t), t.free)

    -- from where the op begins
    back_reach : (at : ℕ) (y : Back at) → ComesSilently over (fetched flash c.base) 3 8 c.registers (memory_of flash c t) (back_registers at y) (back_memory at y)
    back_reach at y = subst (λ n. ComesSilently over (fetched flash c.base) 3 8 (record c.registers { pc = n }) (memory_of flash c t) (back_registers at y)
        (back_memory at y)) (sym (pc_behind C placed flash a texts image p f callers base c used h t (Return from) e x sh)) y.reach

    shared_back : (at : ℕ) (y : Back at) → IsShared C placed flash a used h (shared_in used (back_memory at y))
    shared_back at y = (
      refl,
      subst (λ n. Shows (Means C placed flash a) a.class h used n y.seen.arena) (sym y.globals)
          (subst (λ n. Shows (Means C placed flash a) a.class h used t.globals n) (sym y.arena) sh.1),
    )

    -- THE LAST FRAME RETURNS: it comes to SVC 0
    pub ends_turn : callers ≡ [] → Owed C placed flash a texts (op_instructions (Return from)) used h t (Ends (λ g. Enters g base) h) c t
    ends_turn ce =
        let sw = image.shows in
        let o = odd_less (return_of flash) sw.return_odd in
        let at = return_of flash - 1 in
        let ri = sw.return_inside in
        let el : return_to C placed flash a (frames_of callers) ≡ at + 1 = ap (λ fs. return_to C placed flash a (frames_of fs)) ce ∙ o.0 in
        let o0 = o.0 in
        let y = returns C placed flash a texts image p f callers base c used h t from e x sh at el o.1 (omega arith) in
        let fetch = fetched flash c.base in
        let q = back_registers at y in
        let m = back_memory at y in
        let bk = y.bank in
        let lo = bk.low in
        let fits = base_fits c.base bk.aligned (omega arith) bk.high in
        let there = ends_there flash c.base at fits o.1 (omega arith) sw.return_ends in
        let q' : Registers = record q { pc = behind at false } in
        let r = back_reach at y in
        let fr = r.few in
        let fib = fiber_of q m in
        let mem = shared_in used m in
        let ends : Turn Fiber Shared = Ends (begins_again flash (fiber_of q' m)) mem in
        let turn : (fibers flash).step fib mem ≡ ends =
        ap (turn_of flash used at) (ap (ran (over q m) q) there ∙ ap (step_at at) (asks_does flash m.0 m.1 q' 0 bk)) in
        record {
          steps = r.count;
          cost = r.count;
          last = fib;
          memory = mem;
          path = path flash used r.count c.base c t q m refl sh.0 r.silent;
          light = omega arith;
          below = ends;
          completes = subst (λ v. Completes (fibers flash) one trailing_instructions used v ends) (sym turn) refl;
          match = (
            record {
              each = λ i j w. tied_now C placed flash a texts h mem (Enters i base) (begins_again flash (fiber_of q' m) j)
                  (AtEntry i base (begins_again flash (fiber_of q' m) j) w.0 (let d = x.deep in omega arith) (again i j w.1));
            },
            onward C placed flash a texts used h h t mem (shared_back at y),
          );
        }
      where
        again : (i j : ℕ) → j ≡ a.function i + 1 → begins_on flash c.base j ≡ begins_on flash (stack_end - 4 * base) (a.function i + 1)
        again i j w = (let b = x.base_is in let z : c.base ≡ stack_end - 4 * base = omega arith in λ k. begins_on flash (z k) (w k))

    -- A FRAME THAT WAITS goes on behind its call
    resumes : (fr : FlatFrame) (fs : List FlatFrame) → callers ≡ fr ∷ fs → (pr : Placed) → slice_get placed fr.function ≡ Some pr → (op : Op) (to : ℕ)
        → slice_get pr.function.ops fr.place ≡ Some op → Calls pr.function (place_of pr.places) fr.place op to
        → Owed C placed flash a texts (op_instructions (Return from)) used h t (Goes (Stands (given to (f.temps from) fr) fs base) h) c t
    resumes fr fs ce pr there op to e' cs =
        let fn = pr.function in
        let place = place_of pr.places in
        let fetch = fetched flash c.base in
        let pl = spots C placed flash a fr.function pr in
        let pieces = function_pieces pr in
        let k = here C placed flash a texts image p f callers base c used h t (Return from) e x sh in
        let at0 = (k.within_function).at in
        let lo0 = at0.low in
        let laid = laid_at C placed flash a texts image fr.function pr c.base there at0.aligned (omega arith) at0.high in
        let s1 = start fn place fr.place + 1 in
        let st = later pieces (start fn place fr.place) (Label (3 * fr.place)) (op_pieces fn place fr.place op) (op_stands pr fr.place op e') in
        let ci = s1 + calls_at op in
        let ln = cs.long in
        let gc : slice_get pieces ci ≡ Some cs.piece = st (calls_at op) (omega arith) ∙ cs.calls in
        let gp : slice_get pieces (ci + 1) ≡ Some (lands fn (is_unread fn fr.place) (place to)) = ap (slice_get pieces) (omega arith) ∙
        (st (calls_at op + 1) (omega arith) ∙ cs.puts) in
        let ev = cs.even pl pieces c.base ci laid gc in
        let at = pl.behind ci in
        let el : return_to C placed flash a (frames_of callers) ≡ at + 1 = ap (λ gs. return_to C placed flash a (frames_of gs)) ce ∙
        (ap (λ q. return_in C placed flash a q fr.function fr.place) there ∙ ap (λ o. pl.behind (s1 + calling_of o) + 1) e') in
        let y = returns C placed flash a texts image p f callers base c used h t from e x sh at el ev.0 ev.1 in
        let q = back_registers at y in
        let m = back_memory at y in
        let c2 = fiber_of q m in
        let t2 = shared_in used m in
        let Is = Means C placed flash a in
        let pin = place_in C placed flash a in
        let ret = return_to C placed flash a in
        let kept = (store_of y.seen).kept in
        let fe = function_at C placed flash a texts image fr.function pr there in
        let hs : HasFrames Is C.functions pin ret y.seen.words (frames_of (fr ∷ fs)) kept
        0 = subst (λ gs. HasFrames Is C.functions pin ret y.seen.words (frames_of gs) kept 0) ce y.frames in
        let hs' = subst (λ (o : Option Function). HasWaiting Is C.functions pin ret y.seen.words o (frame_of fr) (frames_of fs) kept 0 × HasFrames Is
        C.functions pin ret y.seen.words (frames_of fs) (saved_at o (pin fr.function) kept y.seen.words 0) (0 + words_at o)) fe hs in
        let pe : pin fr.function ≡ place = ap place_at there in
        let w0 : 0 + words fn ≡ words fn = omega arith in
        let run : Running Is C.functions pin ret fn place (Waits fn fr.place) fr.temps (frames_of fs) (store_of y.seen) = record {
          four = refl;
          frame = subst (λ (g : ℕ → Place). HasFrame Is C.functions pin ret y.seen.words fn g (Waits fn fr.place) fr.temps (frames_of fs) kept 0) pe hs'.0;
          above = subst (λ (g : ℕ → Place). HasFrames Is C.functions pin ret y.seen.words (frames_of fs) (saved_at (Some fn) g kept y.seen.words 0) (words fn)) pe
              (subst (λ n. HasFrames Is C.functions pin ret y.seen.words (frames_of fs) (saved_at (Some fn) (pin fr.function) kept y.seen.words 0) n) w0 hs'.1);
        } in
        let ds = y.less in let d0 = x.deep in
        let isat : IsAt C placed flash a pr (Waits fn fr.place) fr fs base (ci + 1) c2 = record {
          there = there;
          running = run;
          registers = y.low;
          pc = laid.next ci cs.piece gc cs.goes;
          base_is = x.base_is;
          sp_is = y.sp_is;
          deep = omega arith;
        } in
        let k2 = at_op C placed flash a texts image pr (Waits fn fr.place) fr fs base (ci + 1) op c2 t2 e' isat in
        let fw = k2.within_function in
        let lf : from < temporaries p.function = ((k.op_within).names).0 in
        let w = word C placed flash a texts image p f callers base c used h t (Return from) e x sh from in
        let mw = word_means C placed flash a texts image p f callers base c used h t (Return from) e x sh from lf (0, omega arith, refl) in
        let lt : to < temporaries fn = written_below op to (temporaries fn) cs.writes_to (k2.op_within).names in
        let v = view_in c2 t2 in
        let b3 = is_unread fn fr.place in
        let put = lands_last flash pl Is (small C placed flash a texts image) C.functions pin ret fn place fw.inside (Waits fn fr.place) fr.temps (frames_of fs)
        v run b3 to w v lt refl (λ q. y.answer) (small C placed flash a texts image (f.temps from) w mw) in
        let v' = landed_view fn b3 (place to) w v in
        let takes = still_takes fn (lands fn b3 (place to)) (lands_still fn b3 (place to)) in
        let b2 = bank_in flash c2 t2 in
        let c3 = flows_one fetch flash pl pieces laid (ci + 1) (lands fn b3 (place to)) v v' c2.registers b2 t2.free gp fw.at refl put in
        let q3 = registers_of v' (pl.at (ci + 1 + 1)) (record c2.registers { lr = c3.link }) in
        let m3 : Fm = (bank_of v' b2, t2.free) in
        let step2 = subst (λ n. ComesSilently over fetch (step_of (lands fn b3 (place to))) (cost (lands fn b3 (place to))) (record q { pc = n }) m q3 m3) (sym (laid.next ci cs.piece gc cs.goes)) c3.reach in
        let whole = reaches_add over fetch 3 8 (step_of (lands fn b3 (place to))) (cost (lands fn b3 (place to))) c.registers (memory_of flash c t) q m q3 m3 (back_reach at y) step2 in
        let z : suc fr.place ≡ fr.place + 1 = omega arith in
        let nx = k2.next in
        let ni : ci + 1 + 1 ≡ start fn place (fr.place + 1) = omega arith in
        let run' = runs_on flash pl Is (small C placed flash a texts image) C.functions pin ret fn place fw.inside (Waits fn fr.place) fr.temps (frames_of fs)
        v run b3 (λ u. IsLiveAt fn.ops u (fr.place + 1)) to w (f.temps from) v lt refl y.low mw
        (λ q live. k2.unread to (suc fr.place) q cs.writes_to cs.on (subst (IsLiveAt fn.ops to) (sym z) live))
        (λ u lu d live. (
          ((λ n. d (some_same to u (sym cs.writes_to ∙ (ap writes_at (sym e') ∙ n)))), live),
          k2.apart to u (suc fr.place) cs.writes_to cs.on (subst (IsLiveAt fn.ops u) (sym z) live) lt lu d,
        )) in
        let ps = landed_shared fn b3 (place to) w v in
        let l3 = c3.long in
        let si = y.sp_is in
        let f' = given to (f.temps from) fr in
        wider C placed flash a texts (8 + cost (lands fn b3 (place to))) (op_instructions (Return from)) used h t (Goes (Stands f' fs base) h) c t (omega arith)
        (makes_reach C placed flash a texts used (3 + step_of (lands fn b3 (place to))) (8 + cost (lands fn b3 (place to))) h h t c t q3 m3 (Stands f' fs base) (omega arith) sh.0 whole
        (AtOp pr f' fs base (fiber_of q3 m3) (joined_after fn fr.place op e' cs.apart) (record {
          there = there;
          running = run';
          registers = landed_low fn b3 (place to) w v y.low;
          pc = ap pl.at ni;
          base_is = x.base_is;
          sp_is = omega arith;
          deep = omega arith;
        })) (
          refl,
          subst (λ n. Shows Is a.class h used n v'.arena) (sym (ps.0 ∙ y.globals))
              (subst (λ n. Shows Is a.class h used t.globals n) (sym (ps.1 ∙ y.arena)) sh.1),
        ))

    by_call : (fr : FlatFrame) (fs : List FlatFrame) → callers ≡ fr ∷ fs → (fn : Function) → entry C.functions fr.function ≡ Some fn → (o : Option Op)
        → entry fn.ops fr.place ≡ o
        → NoFault (after (result_of o) (λ to. Goes (Stands (given to (f.temps from) fr) fs base) h)) → Owed C placed flash a texts
        (op_instructions (Return from)) used h t (after (result_of o) (λ to. Goes (Stands (given to (f.temps from) fr) fs base) h)) c t
    by_call fr fs ce fn q (Some (Call to g args)) r nf =
        let l = slice_get_within C.functions fr.function fn (sym (entry_is C.functions fr.function) ∙ q) in
        let pr = placed_inside C placed flash a texts image fr.function l in
        let fe : pr.0.function ≡ fn = same_function pr.0.function fn (sym (function_at C placed flash a texts image fr.function pr.0 pr.1) ∙
        (sym (entry_is C.functions fr.function) ∙ q)) in
        resumes fr fs ce pr.0 pr.1 (Call to g args) to (ap (λ (k : Function). slice_get k.ops fr.place) fe ∙ (sym (entry_is fn.ops fr.place) ∙ r))
        (call_pieces pr.0.function (place_of pr.0.places) fr.place to g args)
    by_call fr fs ce fn q (Some (CallSlot to slot args)) r nf =
        let l = slice_get_within C.functions fr.function fn (sym (entry_is C.functions fr.function) ∙ q) in
        let pr = placed_inside C placed flash a texts image fr.function l in
        let fe : pr.0.function ≡ fn = same_function pr.0.function fn (sym (function_at C placed flash a texts image fr.function pr.0 pr.1) ∙
        (sym (entry_is C.functions fr.function) ∙ q)) in
        resumes fr fs ce pr.0 pr.1 (CallSlot to slot args) to (ap (λ (k : Function). slice_get k.ops fr.place) fe ∙ (sym (entry_is fn.ops fr.place) ∙ r))
        (slot_pieces pr.0.function (place_of pr.0.places) fr.place to slot args)
    by_call fr fs ce fn q _ r nf = absurd nf

    by_function : (fr : FlatFrame) (fs : List FlatFrame) → callers ≡ fr ∷ fs → (o : Option Function) → entry C.functions fr.function ≡ o
        → NoFault (after (result_of (op_of o fr.place)) (λ to. Goes (Stands (given to (f.temps from) fr) fs base) h)) → Owed C placed flash a texts
        (op_instructions (Return from)) used h t (after (result_of (op_of o fr.place)) (λ to. Goes (Stands (given to (f.temps from) fr) fs base) h)) c t
    by_function fr fs ce None q nf = absurd nf
    by_function fr fs ce (Some fn) q nf = by_call fr fs ce fn q (entry fn.ops fr.place) refl nf

    -- its turn
    ended_turn : (gs : List FlatFrame) → callers ≡ gs → NoFault (ended C texts h base callers (f.temps from) gs) → Owed C placed flash a texts
        (op_instructions (Return from)) used h t (ended C texts h base callers (f.temps from) gs) c t
    ended_turn [] ce nf = ends_turn ce
    ended_turn (fr ∷ fs) ce nf = by_function fr fs ce (entry C.functions fr.function) refl nf

  -- A RETURN
  pub return_makes : (from : ℕ) → MakesOp C placed flash a texts (Return from)
  return_makes from p f callers base c used h t e x sh nf = ended_turn p f callers base c used h t from e x sh callers refl nf
