-- Calls of methods through a slot of the receiver's class.
use Rattle.std.proofs.Common.{◌≡◌, ℕ, ◌+◌, ◌*◌, ◌-◌, ◌%◌, ◌<◌, ◌≤◌, ◌^◌, List, [], ◌∷◌, ◌++◌, length, map, true, Option, Some, None, refl, sym, ap, ◌∙◌, subst, arith, slice_get, slice_index, get_or-set_same}
use Rattle.std.proofs.lemmas.List.{length-set}
use Rattle.std.proofs.lemmas.Option.{slice_get_within}
use Rattle.thumb_code.specs.declared.instructions.Instr.TheVariants.{LdrSp, LdrImm, Blx}
use Rattle.thumb_code.specs.declared.register_file.Registers.{Registers}
use Rattle.thumb_code.specs.RegisterFile.{word as word_of, is_odd}
use Rattle.thumb_code.specs.Map.{flash_word}
use Rattle.thumb_code.specs.Step.{fetched}
use Rattle.board_world.specs.Observations.{ByteList}
use Rattle.board_world.specs.Panics.{null_panic}
use Rattle.board_world.specs.Kinds.{Turn, Panics}
use Rattle.board_world.specs.Sound.{NoFault}
use Rattle.bank_model.specs.Fibers.{Fiber, Shared}
use Rattle.thumb_layout.specs.declared.pieces.Piece.{Piece}
use Rattle.thumb_layout.specs.declared.pieces.Piece.TheVariants.{Plain}
use Rattle.thumb_layout.proofs.Laws.{reaches_add}
use Rattle.flat_ir.specs.declared.ops.Op.{Op}
use Rattle.flat_ir.specs.declared.ops.Op.TheVariants.{CallSlot}
use Rattle.flat_ir.specs.declared.ops.FlatClass.{FlatClass}
use Rattle.flat_ir.specs.declared.ops.FlatCode.{FlatCode}
use Rattle.flat_ir.specs.WellFormed.{temporaries, IsClassAmong}
use Rattle.flat_ir.specs.Liveness.{IsLiveAt}
use Rattle.register_assign.specs.declared.places.Placed.{Placed}
use Rattle.register_assign.specs.Sound.{place_of}
use Rattle.sts_syntax.specs.TypeRules.{entry}
use Rattle.sts_meaning.specs.Values.{Value, Outcome, Gives, Breaks, Stuck, then_gives, there}
use Rattle.sts_meaning.specs.Heaps.{FlatHeap, object_at}
use Rattle.sts_meaning.specs.Frames.{after}
use Rattle.flat_meaning.specs.Frames.{FlatFrame, FlatActivity}
use Rattle.flat_meaning.specs.Steps.{called}
use Rattle.thumb_emit.specs.Emit.{passes, land, calls_slot, op_pieces, function_pieces}
use Rattle.thumb_emit.specs.Bounds.{op_instructions}
use Rattle.thumb_emit.specs.InFlash.{Addresses}
use Rattle.arena_values.proofs.Laws.{SeesClass, ClassSeen, sees_class}
use Rattle.placed_frames.proofs.Laws.{View, with_low, registers_of, bank_of, GetOwn, Get, InArena, InFlash as InFlashAt, at_view, quiet_does, room, get}
use Rattle.placed_frames.specs.Places.{Store}
use Rattle.placed_frames.specs.Frames.{HasFrames}
use Rattle.emit_simulation.proofs.Laid.{over, Comes, OfInstr, store_of}
use Rattle.emit_simulation.specs.Starts.{start}
use Rattle.emit_simulation.specs.Ties.{IsAt, IsShared, IsImage, IsText, IsCode, Means, spots, place_in, return_to, frames_of}
use Rattle.emit_simulation.proofs.AtOps.{view_in, bank_in}
use Rattle.emit_simulation.proofs.OwedOps.{MakesOp}
use Rattle.emit_simulation.proofs.Flowing.{flows, each_goes}
use Rattle.emit_simulation.proofs.Starts.{first_of}
use Rattle.emit_simulation.proofs.Placed.{store_low}
use Rattle.emit_simulation.proofs.Context.{all_at}
use Rattle.emit_simulation.proofs.Meanings.{placed_inside, function_inside, entry_is}
use Rattle.emit_simulation.proofs.Turns.{Owed}
use Rattle.emit_simulation.proofs.Ops.{here, word, word_means, word_small, wider}
use Rattle.emit_simulation.proofs.Walk.{Got, one, not_null, is_null, tested, stands}
use Rattle.emit_simulation.proofs.FunctionEntries.{calls_turn}
use Rattle.emit_simulation.proofs.Passing.{passes_length, passes_cost, contained, Passes, Passed, passed, passes_none}
use Rattle.emit_simulation.proofs.CallTurns.{calling_by}
use Rattle.emit_simulation.proofs.Returns.{behind_pieces}

-- a code address has bit 0 set
odd_code : (n : ℕ) → n % 4 ≡ 0 → is_odd (n + 1) ≡ true
odd_code n e = grind arith

first_is : (temps : ℕ → Value) (args : List ℕ) (o : Value) → there (entry (map temps args) 0) ≡ Gives o → (u : ℕ) × (slice_get args 0 ≡ Some u) × (temps u ≡ o)
first_is temps [] o e = cc
first_is temps (u ∷ args) o e = let z : temps u ≡ o = cc in (u, refl, z)

first_breaks : (vs : List Value) (code : ℕ) → there (entry vs 0) ≡ Breaks code → ⊥
first_breaks [] code e = cc
first_breaks (v ∷ vs) code e = cc

module _ (C : FlatCode) (placed : List Placed) (flash : List ℕ) (a : Addresses) (texts : List ByteList) (image : IsImage C placed flash a texts) where
  module _ (p : Placed) (f : FlatFrame) (callers : List FlatFrame) (base : ℕ) (c : Fiber) (used : ℕ) (h : FlatHeap) (t : Shared) (to slot : ℕ) (args : List ℕ)
      (e : slice_get p.function.ops f.place ≡ Some (CallSlot to slot args))
      (x : IsAt C placed flash a p (λ u. IsLiveAt p.function.ops u f.place) f callers base (start p.function (place_of p.places) f.place) c)
      (sh : IsShared C placed flash a used h t) where
    abbrev op : Op
    op = CallSlot to slot args

    abbrev Gets : (i most : ℕ) → View → Type 0
    Gets i most v = Got C placed flash a texts image p f callers base c used h t op e x sh i most v

    abbrev w_of : ℕ → ℕ
    w_of u = word C placed flash a texts image p f callers base c used h t op e x sh u

    abbrev n : ℕ
    n = 2 * length args

    abbrev tail : List Piece
    tail = calls_slot slot (3 * f.place + 1) ++ (land p.function (place_of p.places) f.place to ∷ [])

    -- the pieces behind those that pass arguments
    at_tail : (j : ℕ) → slice_get (op_pieces p.function (place_of p.places) f.place op) (n + j) ≡ slice_get tail j
    at_tail j =
        let ps = passes p.function (place_of p.places) 0 args in
        let l = passes_length p.function (place_of p.places) 0 args in
        ap (slice_get (ps ++ tail)) (omega arith) ∙ behind_pieces ps tail j

    below : (j i : ℕ) → slice_get args j ≡ Some i → i < temporaries p.function
    below j i q =
        let k = here C placed flash a texts image p f callers base c used h t op e x sh in
        all_at (λ m. m < temporaries p.function) args ((k.op_within).names).1 j i q

    fits : length args ≤ p.function.outgoing
    fits = let k = here C placed flash a texts image p f callers base c used h t op e x sh in ((k.op_within).ranges).1

    arguments : Passed C placed flash a texts image p f callers base c used h t op e x sh 0 args (view_in c t)
    arguments =
        passed C placed flash a texts image p f callers base c used h t op e x sh 0 args (view_in c t) (λ j i q. (below j i q, contained args j i q))
        (let l = fits in omega arith)
        (passes_none C placed flash a texts image p f callers base c used h t op e x sh (0, omega arith, refl))

    abbrev v0 : View
    v0 = arguments.seen

    got_arguments : Gets n (4 * length args) v0
    got_arguments =
        let k = here C placed flash a texts image p f callers base c used h t op e x sh in
        let fw = k.within_function in
        let ps = passes p.function (place_of p.places) 0 args in
        let s1 = start p.function (place_of p.places) f.place + 1 in
        let pl = spots C placed flash a f.function p in
        let c1 = flows (fetched flash c.base) flash pl (function_pieces p) fw.laid ps s1 (view_in c t) v0 c.registers (bank_in flash c t) t.free
        (first_of (function_pieces p) s1 ps tail k.stands) fw.at refl arguments.flow in
        let l = passes_length p.function (place_of p.places) 0 args in
        let m = passes_cost p.function (place_of p.places) 0 args in
        let zl : s1 + length ps ≡ s1 + n = omega arith in
        let r = c1.reach in
        let fr = r.few in
        record {
          least = 0;
          comes = subst (λ j. Comes (fetched flash c.base) pl 0 (4 * length args) s1 j (view_in c t) v0 c.registers (bank_in flash c t) t.free) zl
              (record { link = c1.link; long = c1.long; reach = record { count = r.count; some = omega arith; few = omega arith; silent = r.silent } });
        }

    module _ (o : ℕ) (o0 : slice_get args 0 ≡ Some o) where
      lo : o < temporaries p.function
      lo = below 0 o o0

      w0_small : w_of o < 2 ^ 32
      w0_small = word_small C placed flash a texts image p f callers base c used h t op e x sh o lo (contained args 0 o o0)

      w0_means : Means C placed flash a (f.temps o) (w_of o)
      w0_means = word_means C placed flash a texts image p f callers base c used h t op e x sh o lo (contained args 0 o o0)

      abbrev u1 : View
      u1 = with_low 0 (w_of o) v0

      some_argument : 0 < length args
      some_argument = slice_get_within args 0 o o0

      got_receiver : Gets (n + 1) (4 * length args + 2) u1
      got_receiver =
          let ag = arguments.argument 0 o o0 in
          let rm = room (Means C placed flash a) C.functions (place_in C placed flash a) (return_to C placed flash a) p.function (place_of p.places)
          (λ m. IsLiveAt p.function.ops m f.place) f.temps (frames_of callers) (store_of (view_in c t)) x.running in
          let rl = rm.long in let ul = (arguments.same).long in let ft = fits in let sa = some_argument in
          one C placed flash a texts image p f callers base c used h t op e x sh n (4 * length args) v0 u1 (Plain (LdrSp 0 0)) got_arguments
          (ap (slice_get (op_pieces p.function (place_of p.places) f.place op)) (omega arith) ∙ at_tail 0)
          (OfInstr (LdrSp 0 0) v0 u1 refl (GetOwn 0 0 (w_of o) v0 (omega arith) (ap (slice_index v0.words) (omega arith) ∙ ag) w0_small))

      in_r0 : slice_index u1.low 0 ≡ w_of o
      in_r0 = let lw = (arguments.same).low in get_or-set_same v0.low 0 (w_of o) 0 (omega arith)

      piece_is : (i j : ℕ) → i ≡ n + j → slice_get (op_pieces p.function (place_of p.places) f.place op) i ≡ slice_get tail j
      piece_is i j q = ap (slice_get (op_pieces p.function (place_of p.places) f.place op)) q ∙ at_tail j

      -- the receiver is null
      pub null_turn : w_of o ≡ 0 → Owed C placed flash a texts (op_instructions op) used h t (Panics null_panic) c t
      null_turn z =
          let lw = (arguments.same).low in
          is_null C placed flash a texts image p f callers base c used h t op e x sh (n + 1) (4 * length args + 2) (3 * f.place + 1) (w_of o) 0 u1 got_receiver
          (piece_is (n + 1) 1 refl) (piece_is (n + 1 + 1) 2 (omega arith)) in_r0 w0_small (op_instructions op)
          (piece_is (n + 1 + 1 + 1) 3 (omega arith)) (piece_is (n + 1 + 1 + 1 + 1) 4 (omega arith)) z (let ll = length-set v0.low 0 (w_of o) in omega arith)
          (omega arith)

      -- the method of its class is called
      pub method_turn : (cls : ℕ) (class : FlatClass) (g : ℕ) → ClassSeen (Means C placed flash a) a.class t.arena (w_of o) cls
          → slice_get C.classes cls ≡ Some class → slice_get class.slots slot ≡ Some g
          → NoFault (called C texts h base (f ∷ callers) g (map f.temps args)) → Owed C placed flash a texts (op_instructions op) used h t
          (called C texts h base (f ∷ callers) g (map f.temps args)) c t
      method_turn cls class g seen hc hg nf =
          let k = here C placed flash a texts image p f callers base c used h t op e x sh in
          let fw = k.within_function in
          let fetch = fetched flash c.base in
          let pl = spots C placed flash a f.function p in
          let pieces = function_pieces p in
          let b = bank_in flash c t in
          let among = all_at (IsClassAmong (length C.functions)) C.classes (image.formed).classes cls class hc in
          let lg : g < length C.functions = all_at (λ m. m < length C.functions) class.slots among.methods slot g hg in
          let table = (image.shows).classes cls class hc in
          let ts = slice_get_within class.slots slot g hg in
          let ti = table.inside in let ta = table.aligned in let tp = table.positive in
          let sw = seen.within in let sa = seen.at in
          let gi = function_inside C placed flash a texts image g lg in
          let g0 = gi.0 in
          let ar = (arguments.same).arena in
          let u2 = tested C placed flash a texts image p f callers base c used h t op e x sh u1 (w_of o) 0 in
          let kw = a.class cls in
          let u3 = with_low 1 kw u2 in
          let gw = a.function g + 1 in
          let u4 = with_low 1 gw u3 in
          let l0 = (arguments.same).low in
          let l1 = length-set v0.low 0 (w_of o) in
          let l3 = length-set u2.low 1 kw in
          let r0 : slice_index u2.low 0 ≡ w_of o = in_r0 in
          let r1 : slice_index u3.low 1 ≡ kw = get_or-set_same u2.low 1 kw 0 (omega arith) in
          let got2 = not_null C placed flash a texts image p f callers base c used h t op e x sh (n + 1) (4 * length args + 2) (3 * f.place + 1) (w_of o) 0 u1
          got_receiver (piece_is (n + 1) 1 refl) (piece_is (n + 1 + 1) 2 (omega arith)) in_r0 w0_small
          (piece_is (n + 1 + 1 + 3) 5 (omega arith)) (omega arith) in
          let i2 = n + 1 + 1 + 3 + 1 in
          let m2 = 4 * length args + 2 + 2 + 3 + 0 in
          let got3 = one C placed flash a texts image p f callers base c used h t op e x sh i2 m2 u2 u3 (Plain (LdrImm 1 0 0)) got2
          (piece_is i2 6 (omega arith))
          (OfInstr (LdrImm 1 0 0) u2 u3 refl (Get 1 0 0 kw u2 (InArena seen.object sw (ap (λ q. q + 0 * 4) (r0 ∙ sa) ∙ omega arith)
          (ap (λ (q : List ℕ). slice_index q seen.object) ar ∙ seen.table)) (omega arith))) in
          let got4 = one C placed flash a texts image p f callers base c used h t op e x sh (i2 + 1) (m2 + 2) u3 u4 (Plain (LdrImm 1 1 (slot + 1))) got3
          (piece_is (i2 + 1) 7 (omega arith))
          (OfInstr (LdrImm 1 1 (slot + 1)) u3 u4 refl (Get 1 1 (slot + 1) gw u3 (InFlashAt (let q = r1 in omega arith) (let q = r1 in omega arith)
          (ap (flash_word flash) (ap (λ q. q + (slot + 1) * 4) r1 ∙ omega arith) ∙ table.slots slot g hg)) (omega arith))) in
          let i4 = i2 + 1 + 1 in
          let first = start p.function (place_of p.places) f.place + 1 in
          let gb : slice_get pieces (first + i4) ≡ Some (Plain (Blx 1)) = stands C placed flash a texts image p f callers base c used h t op e x sh i4
          (Plain (Blx 1)) (piece_is i4 8 (omega arith)) in
          let ev = fw.laid.behind_plain (first + i4) (Blx 1) gb in
          let e1 = ev.1 in
          let lr = pl.behind (first + i4) + 1 in
          let lw : word_of (pl.behind (first + i4) + 1) ≡ lr = omega arith in
          let r4 : slice_index u4.low 1 ≡ gw = get_or-set_same u3.low 1 gw 0 (omega arith) in
          let odd = odd_code (a.function g) gi.1 in
          let less : gw - 1 ≡ a.function g = omega arith in
          let s4 = registers_of u4 (pl.at (first + i4)) (record c.registers { lr = (got4.comes).link }) in
          let q4 : Registers = registers_of u4 (a.function g) (record c.registers { lr = lr }) in
          let hv = at_view flash c.registers.sp u4 b (got4.comes).long fw.at in
          let m4 = each_goes fetch flash pl pieces fw.laid (first + i4) (Plain (Blx 1)) gb (omega arith) s4 (bank_of u4 b, t.free) q4 (bank_of u4 b, t.free)
          refl hv (rw r4 (rw odd (rw less (rw lw (quiet_does flash (bank_of u4 b) t.free q4 hv))))) in
          let most = m2 + 2 + 2 in
          let whole = reaches_add over fetch got4.least most 1 2 (registers_of (view_in c t) (pl.at first) c.registers) (bank_of (view_in c t) b, t.free) s4
          (bank_of u4 b, t.free) q4 (bank_of u4 b, t.free) (got4.comes).reach m4 in
          let fw' = whole.few in
          let pg = placed_inside C placed flash a texts image g lg in
          let sm = arguments.same in
          let st4 : store_of u4 ≡ store_of v0 = store_low 1 gw u3 (omega arith) ∙ (store_low 1 kw u2 (omega arith) ∙ store_low 0 (w_of o) v0 (omega arith)) in
          let ke = ap (λ (q : Store). q.kept) st4 in
          let ps4 : Passes C placed flash a texts image p f callers base c used h t op e x sh u4 = record {
            values = λ q i. ap (get p.function q) st4 ∙ sm.values q i;
            kept = ke ∙ sm.kept;
            frames = subst (λ ks. HasFrames (Means C placed flash a) C.functions (place_in C placed flash a) (return_to C placed flash a) v0.words
                (frames_of (f ∷ callers)) ks 0) (sym ke) sm.frames;
            low = length-set u3.low 1 gw ∙ (l3 ∙ (l1 ∙ l0));
            long = sm.long;
            globals = sm.globals;
            arena = sm.arena;
          } in
          let ca = calling_by C placed flash a texts image p f callers base c used h t op e x sh g pg.0 args u4 (most + 2) pg.1 refl fits ps4
          (λ j i q. (let z : 0 + j ≡ j = omega arith in ap (slice_index v0.words) (sym z) ∙ arguments.argument j i q)) below lr
          (ap (λ m. pl.behind m + 1) (omega arith)) e1
          (record { count = whole.count; some = omega arith; few = fw'; silent = whole.silent }) in
          wider C placed flash a texts (most + 2 + 55) (op_instructions op) used h t (called C texts h base (f ∷ callers) g (map f.temps args)) c t
          (omega arith)
          (calls_turn C placed flash a texts image c t used h t g pg.0 (map f.temps args) (f ∷ callers) base (most + 2) ca sh nf)

    abbrev turn_of : Outcome ℕ → Turn FlatActivity FlatHeap
    turn_of o = after o (λ g. called C texts h base (f ∷ callers) g (map f.temps args))

    abbrev Makes_of : Outcome ℕ → Type 0
    Makes_of o = NoFault (after o (λ g. called C texts h base (f ∷ callers) g (map f.temps args))) → Owed C placed flash a texts (op_instructions op) used h t
        (after o (λ g. called C texts h base (f ∷ callers) g (map f.temps args))) c t

    by_slot : (o : ℕ) (o0 : slice_get args 0 ≡ Some o) (cls : ℕ) (class : FlatClass) → ClassSeen (Means C placed flash a) a.class t.arena (w_of o) cls
        → entry C.classes cls ≡ Some class → (m : Option ℕ) → entry class.slots slot ≡ m → Makes_of (there m)
    by_slot o o0 cls class seen hc None q nf = absurd nf
    by_slot o o0 cls class seen hc (Some g) q nf = method_turn o o0 cls class g seen (sym (entry_is C.classes cls) ∙ hc) (sym (entry_is class.slots slot) ∙ q)
        nf

    by_class : (o : ℕ) (o0 : slice_get args 0 ≡ Some o) (cls : ℕ) → ClassSeen (Means C placed flash a) a.class t.arena (w_of o) cls → (k : Option FlatClass)
        → entry C.classes cls ≡ k → Makes_of (then_gives (there k) (λ class. there (entry class.slots slot)))
    by_class o o0 cls seen None q nf = absurd nf
    by_class o o0 cls seen (Some class) q nf = by_slot o o0 cls class seen q (entry class.slots slot) refl nf

    by_object : (o : ℕ) (o0 : slice_get args 0 ≡ Some o) (k : Outcome (ℕ × List Value)) → SeesClass (Means C placed flash a) a.class t.arena (w_of o) k
        → Makes_of (then_gives k (λ c. then_gives (there (entry C.classes c.0)) (λ class. there (entry class.slots slot))))
    by_object o o0 (Gives k) seen nf = by_class o o0 k.0 seen (entry C.classes k.0) refl nf
    by_object o o0 (Breaks code) seen nf = subst (λ m. Owed C placed flash a texts (op_instructions op) used h t (Panics m) c t) (sym seen.1)
        (null_turn o o0 seen.0)
    by_object o o0 Stuck seen nf = absurd nf

    by_first : (k : Outcome Value) → there (entry (map f.temps args) 0) ≡ k → Makes_of
        (then_gives k (λ o. then_gives (object_at h o) (λ c. then_gives (there (entry C.classes c.0)) (λ class. there (entry class.slots slot)))))
    by_first (Gives v) q nf =
        let u = first_is f.temps args v q in
        let seen = sees_class (IsText C placed flash a) (IsCode C placed flash a) a.class h used t.globals t.arena sh.1 (f.temps u.0) (w_of u.0)
        (w0_means u.0 u.1) in
        by_object u.0 u.1 (object_at h v) (subst (λ y. SeesClass (Means C placed flash a) a.class t.arena (w_of u.0) (object_at h y)) u.2 seen) nf
    by_first (Breaks code) q nf = absurd (first_breaks (map f.temps args) code q)
    by_first Stuck q nf = absurd nf

  -- A CALL THROUGH A SLOT
  pub slot_makes : (to slot : ℕ) (args : List ℕ) → MakesOp C placed flash a texts (CallSlot to slot args)
  slot_makes to slot args p f callers base c used h t e x sh nf = by_first p f callers base c used h t to slot args e x sh (there (entry (map f.temps args) 0)) refl nf
