-- Calls make their turns.
use Rattle.std.proofs.Common.{◌≡◌, ℕ, ◌+◌, ◌*◌, ◌<◌, ◌≤◌, ◌^◌, List, [], ◌∷◌, length, map, false, Some, refl, sym, ap, ◌∙◌, subst, arith, slice_get, slice_index, ◌==◌}
use Rattle.std.specs.Prelude.{Contains}
use Rattle.std.proofs.lemmas.List.{length-map}
use Rattle.thumb_code.specs.declared.register_file.Registers.{Registers}
use Rattle.thumb_code.specs.RegisterFile.{word as word_of}
use Rattle.thumb_code.specs.Step.{fetched}
use Rattle.board_world.specs.Observations.{ByteList}
use Rattle.bank_model.specs.Fibers.{Fiber, Shared}
use Rattle.bank_model.specs.BoardMachine.{memory_of}
use Rattle.thumb_layout.specs.declared.pieces.Piece.TheVariants.{CallTo}
use Rattle.thumb_layout.specs.Pieces.{Places}
use Rattle.thumb_layout.proofs.Laws.{reaches_add, ComesSilently}
use Rattle.flat_ir.specs.declared.ops.Op.{Op}
use Rattle.flat_ir.specs.declared.ops.Op.TheVariants.{Call}
use Rattle.flat_ir.specs.declared.ops.FlatCode.{FlatCode}
use Rattle.flat_ir.specs.Ops.{reads}
use Rattle.flat_ir.specs.WellFormed.{temporaries}
use Rattle.flat_ir.specs.Liveness.{IsLiveAt}
use Rattle.sts_meaning.specs.Heaps.{FlatHeap}
use Rattle.register_assign.specs.declared.places.Placed.{Placed}
use Rattle.register_assign.specs.Sound.{place_of}
use Rattle.flat_meaning.specs.Frames.{FlatFrame}
use Rattle.flat_meaning.specs.Steps.{called}
use Rattle.thumb_emit.specs.Emit.{passes, land, function_pieces}
use Rattle.thumb_emit.specs.Bounds.{op_instructions, total_cost}
use Rattle.thumb_emit.specs.InFlash.{Addresses, callee_at}
use Rattle.placed_frames.proofs.Laws.{View, registers_of, bank_of, at_view, quiet_does}
use Rattle.placed_frames.specs.Frames.{AreWords, outgoing_at}
use Rattle.emit_simulation.proofs.Laid.{over, steps_of}
use Rattle.emit_simulation.specs.Starts.{start}
use Rattle.emit_simulation.specs.Ties.{IsAt, IsShared, IsImage, Means, spots, calls_at, calling_of, return_in}
use Rattle.emit_simulation.proofs.AtOps.{view_in, bank_in}
use Rattle.emit_simulation.proofs.OwedOps.{MakesOp}
use Rattle.emit_simulation.proofs.Flowing.{flows, each_goes}
use Rattle.emit_simulation.proofs.Starts.{first_of, rest_of}
use Rattle.emit_simulation.proofs.Context.{all_at}
use Rattle.emit_simulation.proofs.Meanings.{placed_inside}
use Rattle.emit_simulation.proofs.Ops.{here, pc_behind, word, word_means, wider}
use Rattle.emit_simulation.proofs.FunctionEntries.{Calling, calls_turn}
use Rattle.emit_simulation.proofs.Passing.{passes_length, passes_cost, mapped_value, contained, Passes, passed, passes_none}

module _ (C : FlatCode) (placed : List Placed) (flash : List ℕ) (a : Addresses) (texts : List ByteList) (image : IsImage C placed flash a texts) where
  module _ (p : Placed) (f : FlatFrame) (callers : List FlatFrame) (base : ℕ) (c : Fiber) (used : ℕ) (h : FlatHeap) (t : Shared) (op : Op)
      (e : slice_get p.function.ops f.place ≡ Some op)
      (x : IsAt C placed flash a p (λ u. IsLiveAt p.function.ops u f.place) f callers base (start p.function (place_of p.places) f.place) c)
      (sh : IsShared C placed flash a used h t) where
    abbrev pl : Places
    pl = spots C placed flash a f.function p

    abbrev begin : ℕ
    begin = start p.function (place_of p.places) f.place + 1

    -- WHO HAS COME TO A FUNCTION'S ENTRY with its arguments passed, by a piece that leaves the address behind itself in LR
    pub calling_by : (g : ℕ) (pg : Placed) (args : List ℕ) (v : View) (most : ℕ) → slice_get placed g ≡ Some pg → reads op ≡ args
        → length args ≤ p.function.outgoing
        → Passes C placed flash a texts image p f callers base c used h t op e x sh v
        → ((j i : ℕ) → slice_get args j ≡ Some i → slice_index v.words j ≡ word C placed flash a texts image p f callers base c used h t op e x sh i)
        → ((j i : ℕ) → slice_get args j ≡ Some i → i < temporaries p.function)
        → (lr : ℕ) → lr ≡ pl.behind (begin + calls_at op) + 1 → lr < 2 ^ 32
        → ComesSilently over (fetched flash c.base) 0 most (record c.registers { pc = pl.at begin }) (memory_of flash c t)
        (registers_of v (a.function g) (record c.registers { lr = lr })) (bank_of v (bank_in flash c t), t.free)
        → Calling C placed flash a c t g pg (map f.temps args) (f ∷ callers) base most
    calling_by g pg args v most there re room y argument below lr le lf r =
        let k = here C placed flash a texts image p f callers base c used h t op e x sh in
        let fw = k.within_function in
        let ln = y.long in
        let si = x.sp_is in let de = x.deep in
        let zero_at : a.function g ≡ (spots C placed flash a g pg).at 0 = omega arith in
        let lm = length-map args f.temps in
        record {
          v = v;
          s = record c.registers { lr = lr };
          free = t.free;
          there = there;
          reach = subst (λ n. ComesSilently over (fetched flash c.base) 0 most (record c.registers { pc = n }) (memory_of flash c t)
              (registers_of v ((spots C placed flash a g pg).at 0) (record c.registers { lr = lr })) (bank_of v (bank_in flash c t), t.free))
              (sym (pc_behind C placed flash a texts image p f callers base c used h t op e x sh))
              (subst (λ n. ComesSilently over (fetched flash c.base) 0 most (record c.registers { pc = pl.at begin }) (memory_of flash c t)
              (registers_of v n (record c.registers { lr = lr })) (bank_of v (bank_in flash c t), t.free)) zero_at r);
          at = at_view flash c.registers.sp v (bank_in flash c t) y.long fw.at;
          low = y.low;
          link = le ∙ (ap (λ o. pl.behind (begin + calling_of o) + 1) (sym e) ∙ ap (λ q. return_in C placed flash a q f.function f.place) (sym x.there));
          link_fits = lf;
          kept = subst AreWords (sym y.kept) ((x.running).frame).small;
          frames = y.frames;
          sp_is = omega arith;
          base_is = x.base_is;
          deep = omega arith;
          globals = y.globals;
          arena = y.arena;
          arguments = λ j value q.
              let m = mapped_value f.temps args j value q in
              let lv = below j m.0 m.1 in
              let w = word_means C placed flash a texts image p f callers base c used h t op e x sh m.0 lv
              (subst (λ ts. Contains ts m.0) (sym re) (contained args j m.0 m.1)) in
              subst (λ z. Means C placed flash a z (slice_index v.words j)) m.2 (subst (Means C placed flash a (f.temps m.0)) (sym (argument j m.0 m.1)) w);
          room = (let oe : p.function.outgoing ≡ outgoing_at (slice_get C.functions f.function) = ap outgoing_at (sym fw.function) in omega arith);
        }

  no_routine : (g n : ℕ) → g < n → n ≤ 4294967295 → (g == 4294967295) ≡ false
  no_routine g n l m = grind arith

  -- A CALL
  pub call_makes : (to g : ℕ) (args : List ℕ) → MakesOp C placed flash a texts (Call to g args)
  call_makes to g args p f callers base c used h t e x sh nf =
      let op = Call to g args in
      let place = place_of p.places in
      let k = here C placed flash a texts image p f callers base c used h t op e x sh in
      let fw = k.within_function in
      let fetch = fetched flash c.base in
      let pl = spots C placed flash a f.function p in
      let pieces = function_pieces p in
      let b = bank_in flash c t in
      let s1 = start p.function place f.place + 1 in
      let names = ((k.op_within).names).1 in
      let below : (j i : ℕ) → slice_get args j ≡ Some i → i < temporaries p.function = λ j i q. all_at (λ n. n < temporaries p.function) args names j i q in
      let room : length args ≤ p.function.outgoing = (k.op_within).ranges in
      let ps = passes p.function place 0 args in
      let y = passed C placed flash a texts image p f callers base c used h t op e x sh 0 args (view_in c t) (λ j i q. (below j i q, contained args j i q))
      (omega arith)
      (passes_none C placed flash a texts image p f callers base c used h t op e x sh (0, omega arith, refl)) in
      let v = y.seen in
      let c1 = flows fetch flash pl pieces fw.laid ps s1 (view_in c t) v c.registers b t.free
      (first_of pieces s1 ps (CallTo g ∷ (land p.function place f.place to ∷ [])) k.stands) fw.at refl y.flow in
      let i1 = s1 + length ps in
      let st1 = rest_of pieces s1 ps (CallTo g ∷ (land p.function place f.place to ∷ [])) k.stands in
      let gc : slice_get pieces i1 ≡ Some (CallTo g) = ap (slice_get pieces) (omega arith) ∙ st1 0 (omega arith) in
      let ev = fw.laid.behind_call i1 g gc in
      let e1 = ev.1 in
      let lw : word_of (pl.behind i1 + 1) ≡ pl.behind i1 + 1 = omega arith in
      let few = (image.shows).few in
      let ce : callee_at a g ≡ a.function g = (let z = no_routine g (length C.functions) k.parts few in rw z refl) in
      let s2 = registers_of v (pl.at i1) (record c.registers { lr = c1.link }) in
      let q2 : Registers = registers_of v (a.function g) (record c.registers { lr = pl.behind i1 + 1 }) in
      let hv = at_view flash c.registers.sp v b c1.long fw.at in
      let m2 = each_goes fetch flash pl pieces fw.laid i1 (CallTo g) gc (omega arith) s2 (bank_of v b, t.free) q2 (bank_of v b, t.free) refl hv
      (rw ce (rw lw (quiet_does flash (bank_of v b) t.free q2 hv))) in
      let whole = reaches_add over fetch (steps_of ps) (total_cost ps) 1 2 (registers_of (view_in c t) (pl.at s1) c.registers)
      (bank_of (view_in c t) b, t.free) s2 (bank_of v b, t.free) q2 (bank_of v b, t.free) c1.reach m2 in
      let pc = passes_cost p.function place 0 args in
      let pn = passes_length p.function place 0 args in
      let few' = whole.few in
      let pg = placed_inside C placed flash a texts image g k.parts in
      let ci : i1 ≡ s1 + 2 * length args = omega arith in
      let ca = calling_by p f callers base c used h t op e x sh g pg.0 args v (4 * length args + 2) pg.1 refl room y.same
      (λ j i q. (let z : 0 + j ≡ j = omega arith in ap (slice_index v.words) (sym z) ∙ y.argument j i q)) below (pl.behind i1 + 1)
      (ap (λ n. pl.behind n + 1) ci) e1
      (record { count = whole.count; some = omega arith; few = omega arith; silent = whole.silent }) in
      wider C placed flash a texts (4 * length args + 2 + 55) (op_instructions op) used h t (called C texts h base (f ∷ callers) g (map f.temps args)) c t
      (omega arith)
      (calls_turn C placed flash a texts image c t used h t g pg.0 (map f.temps args) (f ∷ callers) base (4 * length args + 2) ca sh nf)
