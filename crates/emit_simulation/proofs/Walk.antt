-- Through an op's pieces one by one: what is seen behind each, up to a turn.
use Rattle.std.proofs.Common.{zero, suc, ◌≡◌, ◌≢◌, ℕ, ◌+◌, ◌*◌, ◌<◌, ◌≤◌, ◌^◌, List, [], ◌∷◌, length, true, false, not, Some, refl, sym, ap, ◌∙◌, subst, arith, slice_get, slice_set, slice_index, ◌==◌, get_or-set_same}
use Rattle.thumb_code.specs.declared.instructions.Instr.{Instr}
use Rattle.thumb_code.specs.declared.instructions.Instr.TheVariants.{MovImm, CmpImm, Svc}
use Rattle.thumb_code.specs.declared.register_file.Registers.{Registers}
use Rattle.thumb_code.specs.Arithmetic.{nz, inverted, sum_flags}
use Rattle.thumb_code.specs.Step.{fetched}
use Rattle.board_world.specs.Observations.{ByteList}
use Rattle.board_world.specs.Kinds.{Goes as GoesTurn, Panics}
use Rattle.bank_model.specs.Fibers.{Fiber, Shared}
use Rattle.bank_model.specs.BoardMachine.{memory_of}
use Rattle.thumb_layout.specs.declared.pieces.Piece.{Piece}
use Rattle.thumb_layout.specs.declared.pieces.Piece.TheVariants.{Plain, Label, Go}
use Rattle.thumb_layout.specs.Pieces.{Places, is_taken, goes_on, goes_on_instr}
use Rattle.thumb_code.specs.Effect.{effect, ends, Goes}
use Rattle.thumb_layout.specs.Holds.{cost}
use Rattle.thumb_layout.proofs.Laws.{ComesSilently}
use Rattle.flat_ir.specs.declared.ops.Op.{Op}
use Rattle.flat_ir.specs.declared.ops.FlatCode.{FlatCode}
use Rattle.flat_ir.specs.Liveness.{IsLiveAt}
use Rattle.register_assign.specs.declared.places.Placed.{Placed}
use Rattle.register_assign.specs.Sound.{place_of}
use Rattle.register_assign.specs.Unread.{is_unread}
use Rattle.flat_meaning.specs.Frames.{FlatFrame, Stands, given}
use Rattle.flat_meaning.specs.Frames.{going_on_at as placed_at}
use Rattle.flat_ir.specs.Ops.{reads, writes}
use Rattle.flat_ir.specs.WellFormed.{temporaries}
use Rattle.sts_meaning.specs.Values.{Value, with_entry}
use Rattle.sts_meaning.specs.Heaps.{FlatHeap}
use Rattle.arena_values.specs.Lies.{Shows}
use Rattle.thumb_emit.specs.Frame.{register_of, brings, keeps, result_in}
use Rattle.thumb_emit.proofs.Laws.{brings_still, keeps_still, still_takes}
use Rattle.register_assign.specs.Sound.{IsWithin}
use Rattle.emit_simulation.proofs.Leaving.{StandsIn}
use Rattle.arena_values.proofs.Laws.{IsNull, words_unequal}
use Rattle.std.specs.Prelude.{Contains}
use Rattle.thumb_emit.specs.Emit.{op_pieces, function_pieces}
use Rattle.thumb_emit.specs.InFlash.{Addresses}
use Rattle.placed_frames.proofs.Laws.{View, registers_of, bank_of, Quiet, at_view}
use Rattle.emit_simulation.proofs.Laid.{Flows, OfInstr, OfLabel, step_of, store_of, over}
use Rattle.emit_simulation.specs.Starts.{start}
use Rattle.emit_simulation.specs.Ties.{IsAt, IsShared, IsImage, Means, spots, place_in, return_to, frames_of}
use Rattle.emit_simulation.proofs.AtOps.{GoesOn, view_in, bank_in, shared_seen}
use Rattle.emit_simulation.proofs.Flowing.{flows_one, then, branches, passes_by}
use Rattle.emit_simulation.proofs.Turns.{Owed, Asking, asking, makes_panic}
use Rattle.emit_simulation.proofs.Ops.{Reached, here, pc_behind, wider, goes_to, runs_same, word, word_means, word_small, brings_word}
use Rattle.emit_simulation.proofs.Placed.{kept_view, kept_low, kept_shared, store_kept, brought, brought_word, brought_length}
use Rattle.emit_simulation.proofs.Straight.{keeps_last, runs_with}
use Rattle.emit_simulation.proofs.Meanings.{small}

get_below : (xs : List Piece) (n : ℕ) (x : Piece) → slice_get xs n ≡ Some x → n < length xs
get_below [] n x e = cc
get_below (y ∷ xs) zero x e = omega arith
get_below (y ∷ xs) (suc n) x e = let l = get_below xs n x e in omega arith

module _ (C : FlatCode) (placed : List Placed) (flash : List ℕ) (a : Addresses) (texts : List ByteList) (image : IsImage C placed flash a texts)
    (p : Placed) (f : FlatFrame) (callers : List FlatFrame) (base : ℕ) (c : Fiber) (used : ℕ) (h : FlatHeap) (t : Shared) (op : Op)
    (e : slice_get p.function.ops f.place ≡ Some op)
    (x : IsAt C placed flash a p (λ u. IsLiveAt p.function.ops u f.place) f callers base (start p.function (place_of p.places) f.place) c)
    (sh : IsShared C placed flash a used h t) where
  abbrev pub first : ℕ
  first = start p.function (place_of p.places) f.place + 1

  abbrev pub pieces : List Piece
  pieces = op_pieces p.function (place_of p.places) f.place op

  abbrev spot : Places
  spot = spots C placed flash a f.function p

  -- a fiber has come to piece i of the op, in at most so many instructions, and sees this
  pub record Got (i most : ℕ) (v : View) : Type 0 where
    pub least : ℕ
    pub comes : Reached C placed flash a texts image p f c t least most (first + i) v

  pub begun : Got 0 0 (view_in c t)
  begun =
      let z : first ≡ first + 0 = omega arith in
      record {
        least = 0;
        comes = record {
          link = c.registers.lr;
          long = refl;
          reach = record {
            count = 0;
            some = omega arith;
            few = omega arith;
            silent = (λ k. Rattle.thumb_code.specs.Run.Still (registers_of (view_in c t) (spot.at (z k)) c.registers)
                (bank_of (view_in c t) (bank_in flash c t), t.free));
          };
        };
      }

  pub stands : (i : ℕ) (y : Piece) → slice_get pieces i ≡ Some y → slice_get (function_pieces p) (first + i) ≡ Some y
  stands i y g = (here C placed flash a texts image p f callers base c used h t op e x sh).stands i (get_below pieces i y g) ∙ g

  -- one piece
  pub step : (i most : ℕ) (v v' : View) (y : Piece) (g : Got i most v) → slice_get pieces i ≡ Some y → Flows flash spot y v v'
      → Reached C placed flash a texts image p f c t (g.least + step_of y) (most + cost y) (first + (i + 1)) v'
  step i most v v' y g q fl =
      let w = (here C placed flash a texts image p f callers base c used h t op e x sh).within_function in
      let s : Registers = record c.registers { lr = g.comes.link } in
      let d = flows_one (fetched flash c.base) flash spot (function_pieces p) w.laid (first + i) y v v' s (bank_in flash c t) t.free (stands i y q) w.at
      g.comes.long fl in
      let z : first + i + 1 ≡ first + (i + 1) = omega arith in
      subst (λ j. Reached C placed flash a texts image p f c t (g.least + step_of y) (most + cost y) j v') z
      (then (fetched flash c.base) flash spot (function_pieces p) w.laid g.least most (step_of y) (cost y) first (first + i) (first + i + 1) (view_in c t) v v'
      c.registers (bank_in flash c t) t.free g.comes d)

  pub one : (i most : ℕ) (v v' : View) (y : Piece) → Got i most v → slice_get pieces i ≡ Some y → Flows flash spot y v v' → Got (i + 1) (most + cost y) v'
  one i most v v' y g q fl = record { least = g.least + step_of y; comes = step i most v v' y g q fl }

  -- in at most so many more
  pub got_wider : (i most more : ℕ) (v : View) → most ≤ more → Got i most v → Got i more v
  got_wider i most more v l g =
      let y = g.comes in let r = y.reach in let k = r.few in
      record {
        least = g.least;
        comes = record { link = y.link; long = y.long; reach = record { count = r.count; some = r.some; few = omega arith; silent = r.silent } };
      }

  -- a branch that is taken, and one that isn't
  pub goes : (i j most cond label : ℕ) (v : View) → Got i most v → slice_get pieces i ≡ Some (Go cond label) → slice_get pieces j ≡ Some (Label label)
      → is_taken v.flags cond ≡ true → Got j (most + 3) v
  goes i j most cond label v g q r taken =
      let w = (here C placed flash a texts image p f callers base c used h t op e x sh).within_function in
      let s : Registers = record c.registers { lr = g.comes.link } in
      let d = branches (fetched flash c.base) flash spot (function_pieces p) w.laid (first + i) (first + j) cond label v s (bank_in flash c t) t.free
      (stands i _ q) (stands j _ r) taken w.at g.comes.long in
      record {
        least = g.least + 1;
        comes = then (fetched flash c.base) flash spot (function_pieces p) w.laid g.least most 1 3 first (first + i) (first + j) (view_in c t) v v c.registers
            (bank_in flash c t) t.free g.comes d;
      }

  pub stays : (i most cond label : ℕ) (v : View) → Got i most v → slice_get pieces i ≡ Some (Go cond label) → goes_on (Go cond label) ≡ true
      → is_taken v.flags cond ≡ false → Got (i + 1) (most + 3) v
  stays i most cond label v g q o taken =
      let w = (here C placed flash a texts image p f callers base c used h t op e x sh).within_function in
      let s : Registers = record c.registers { lr = g.comes.link } in
      let d = passes_by (fetched flash c.base) flash spot (function_pieces p) w.laid (first + i) cond label v s (bank_in flash c t) t.free (stands i _ q) o
      taken w.at g.comes.long in
      let z : first + i + 1 ≡ first + (i + 1) = omega arith in
      record {
        least = g.least + 1;
        comes = subst (λ j. Reached C placed flash a texts image p f c t (g.least + 1) (most + 3) j v) z
            (then (fetched flash c.base) flash spot (function_pieces p) w.laid g.least most 1 3 first (first + i) (first + i + 1) (view_in c t) v v c.registers
            (bank_in flash c t) t.free g.comes d);
      }

  -- up to an SVC
  pub asked : (i most number : ℕ) (v : View) (g : Got i most v) → slice_get pieces i ≡ Some (Plain (Svc number))
      → Asking flash (most + 2) used number c t (registers_of v (spot.behind (first + i)) (record c.registers { lr = g.comes.link }))
      (bank_of v (bank_in flash c t), t.free)
  asked i most number v g q =
      let w = (here C placed flash a texts image p f callers base c used h t op e x sh).within_function in
      let b = bank_in flash c t in
      let s = registers_of v (spot.at (first + i)) (record c.registers { lr = g.comes.link }) in
      asking flash spot (function_pieces p) c t used w.laid (first + i) number g.least most s (bank_of v b, t.free) (stands i _ q) refl
      (at_view flash c.registers.sp v b g.comes.long w.at) refl sh.0
      (subst (λ n. ComesSilently over (fetched flash c.base) g.least most (record c.registers { pc = n }) (memory_of flash c t) s (bank_of v b, t.free))
      (sym (pc_behind C placed flash a texts image p f callers base c used h t op e x sh)) g.comes.reach)

  -- behind an SVC is the next piece
  pub behind_svc : (i number : ℕ) → slice_get pieces i ≡ Some (Plain (Svc number)) → spot.behind (first + i) ≡ spot.at (first + (i + 1))
  behind_svc i number q =
      let w = (here C placed flash a texts image p f callers base c used h t op e x sh).within_function in
      let z : first + i + 1 ≡ first + (i + 1) = omega arith in
      (w.laid).next (first + i) (Plain (Svc number)) (stands i _ q) refl ∙ ap spot.at z

  -- a panic
  pub panics : (i most code bound : ℕ) (v : View) → Got i most v → slice_get pieces i ≡ Some (Plain (Svc 1)) → code < 256 → slice_index v.low 0 ≡ code
      → most + 2 ≤ bound
      → Owed C placed flash a texts bound used h t (Panics code) c t
  panics i most code bound v g q l r b =
      wider C placed flash a texts (most + 2) bound used h t (Panics code) c t (omega arith)
      (makes_panic C placed flash a texts used (most + 2) code h t c t (registers_of v (spot.behind (first + i)) (record c.registers { lr = g.comes.link }))
      (bank_of v (bank_in flash c t), t.free) (asked i most 1 v g q) l r)

  -- an instruction without an access
  pub quiet : (i most : ℕ) (v : View) (y : Instr) (low' : List ℕ) (flags' : ℕ) → Got i most v → slice_get pieces i ≡ Some (Plain y) → goes_on_instr y ≡ true
      → ((next pc : ℕ) (s : Registers) → effect next (registers_of v pc s) y ≡ ends s.sp (Goes (registers_of (record v { low = low'; flags = flags' }) next s)))
      → Got (i + 1) (most + 2) (record v { low = low'; flags = flags' })
  quiet i most v y low' flags' g q o w = one i most v (record v { low = low'; flags = flags' }) (Plain y) g q
      (OfInstr y v (record v { low = low'; flags = flags' }) o (Quiet y v low' flags' w))

  -- what stands behind a test goes on where the condition holds
  pub holding : (i most cond code label : ℕ) (v : View) → Got i most v → slice_get pieces i ≡ Some (Go cond label) → slice_get pieces (i + 3) ≡ Some
      (Label label) → is_taken v.flags cond ≡ true → Got (i + 3 + 1) (most + 3 + 0) v
  holding i most cond code label v g q r taken = one (i + 3) (most + 3) v v (Label label) (goes i (i + 3) most cond label v g q r taken) r (OfLabel label v)

  -- and else it is a panic
  pub breaking : (i most cond code label bound : ℕ) (v : View) → Got i most v → slice_get pieces i ≡ Some (Go cond label) → goes_on (Go cond label) ≡ true
      → slice_get pieces (i + 1) ≡ Some (Plain (MovImm 0 code)) → slice_get pieces (i + 1 + 1) ≡ Some (Plain (Svc 1))
      → is_taken v.flags cond ≡ false → code < 256 → 0 < length v.low → most + 3 + 2 + 2 ≤ bound → Owed C placed flash a texts bound used h t (Panics code) c t
  breaking i most cond code label bound v g q o r y taken l n b =
      panics (i + 1 + 1) (most + 3 + 2) code bound (record v { low = slice_set v.low 0 code; flags = nz v.flags code })
      (quiet (i + 1) (most + 3) v (MovImm 0 code) (slice_set v.low 0 code) (nz v.flags code) (stays i most cond label v g q o taken) r refl
      (λ next pc s. refl)) y l (get_or-set_same v.low 0 code 0 n) b

  abbrev pub tested : View → ℕ → ℕ → View
  tested v y z = record v { flags = sum_flags y (inverted z) 1 }

  -- a register isn't null: the op goes on; or it is, and that is panic 105
  module _ (i most label w reg : ℕ) (v : View) (g : Got i most v) (q0 : slice_get pieces i ≡ Some (Plain (CmpImm reg 0))) (q1 : slice_get pieces (i + 1) ≡ Some
      (Go 1 label)) (r : slice_index v.low reg ≡ w) (s : w < 2 ^ 32) where
    compared_null : Got (i + 1) (most + 2) (tested v w 0)
    compared_null = quiet i most v (CmpImm reg 0) v.low (sum_flags w (inverted 0) 1) g q0 refl (λ next pc z. rw r refl)

    pub not_null : slice_get pieces (i + 1 + 3) ≡ Some (Label label) → 0 < w → Got (i + 1 + 3 + 1) (most + 2 + 3 + 0) (tested v w 0)
    not_null q4 l =
        let z : not (w == 0) ≡ true = ap not (let y : (w == 0) ≡ false = grind arith in y) in
        holding (i + 1) (most + 2) 1 105 label (tested v w 0) compared_null q1 q4 (words_unequal w 0 s (omega arith) ∙ z)

    pub is_null : (bound : ℕ) → slice_get pieces (i + 1 + 1) ≡ Some (Plain (MovImm 0 105)) → slice_get pieces (i + 1 + 1 + 1) ≡ Some (Plain (Svc 1)) → w ≡ 0
        → 0 < length v.low → most + 9 ≤ bound → Owed C placed flash a texts bound used h t (Panics 105) c t
    is_null bound q2 q3 l n b =
        let z : not (w == 0) ≡ false = ap not (let y : (w == 0) ≡ true = grind arith in y) in
        breaking (i + 1) (most + 2) 1 105 label bound (tested v w 0) compared_null q1 refl q2 q3 (words_unequal w 0 s (omega arith) ∙ z) (omega arith) n
        (omega arith)

  -- The op's last pieces: an instruction leaves a result, which is kept. Behind them the value is in its temporary, and what is shared shows a heap.
  pub finished : (i most bound to w : ℕ) (value : Value) (h' : FlatHeap) (m u : View) (y : Instr) → Got i most m → slice_get pieces i ≡ Some (Plain y)
      → Flows flash spot (Plain y) m u
      → slice_get pieces (i + 1) ≡ Some (keeps p.function (is_unread p.function f.place) (place_of p.places to)) → length pieces ≡ i + 1 + 1
      → writes op ≡ Some to → GoesOn p.function f.place op → to < temporaries p.function
      → StandsIn (result_in (is_unread p.function f.place) (place_of p.places to)) w (view_in c t) u → Means C placed flash a value w
      → IsShared C placed flash a used h' (shared_seen used u t.free) → most + 4 ≤ bound → Owed C placed flash a texts bound used h t
      (GoesTurn (Stands (given to value f) callers base) h') c t
  finished i most bound to w value h' m' u y g q0 fl q n wr on lt r m s b =
      let place = place_of p.places in
      let k = here C placed flash a texts image p f callers base c used h t op e x sh in
      let fw = k.within_function in
      let kept = keeps p.function (is_unread p.function f.place) (place to) in
      let last = keeps_last flash spot (Means C placed flash a) (small C placed flash a texts image) C.functions (place_in C placed flash a)
      (return_to C placed flash a) p.function place fw.inside
      (λ n. IsLiveAt p.function.ops n f.place) f.temps (frames_of callers) (view_in c t) x.running (is_unread p.function f.place) to w u lt r
      (small C placed flash a texts image value w m) in
      let v = kept_view p.function (is_unread p.function f.place) (place to) w u in
      let z : suc f.place ≡ f.place + 1 = omega arith in
      let q' = kept_shared p.function (is_unread p.function f.place) (place to) w u in
      let s' = s.1 in
      let takes = still_takes p.function kept (keeps_still p.function (is_unread p.function f.place) (place to)) in
      let g1 : Got (i + 1) (most + 2) u = record { least = g.least + 1; comes = step i most m' u (Plain y) g q0 fl } in
      let shared : IsShared C placed flash a used h' (shared_seen used v t.free) = (
        refl,
        subst (λ n. Shows (Means C placed flash a) a.class h' used n v.arena) (sym q'.0)
            (subst (λ n. Shows (Means C placed flash a) a.class h' used u.globals n) (sym q'.1) s'),
      ) in
      wider C placed flash a texts (most + 2 + cost kept) bound used h t (GoesTurn (Stands (given to value f) callers base) h') c t (omega arith)
      (goes_to C placed flash a texts image p f callers base c used h t op e x sh (g.least + 1 + step_of kept) (most + 2 + cost kept) (first + (i + 1 + 1)) (f.place + 1) v
      (with_entry to value f.temps) h' (omega arith) (step (i + 1) (most + 2) u v kept g1 q last)
      (ap (λ j. first + j) (sym n) ∙ sym k.next) on.1
      (runs_with flash spot (Means C placed flash a) (small C placed flash a texts image) C.functions (place_in C placed flash a) (return_to C placed flash a)
      p.function place fw.inside
      (λ u. IsLiveAt p.function.ops u f.place) f.temps (frames_of callers) (view_in c t) x.running (is_unread p.function f.place) (λ u. IsLiveAt p.function.ops u (f.place + 1)) to w value v
      lt (store_kept p.function (is_unread p.function f.place) (place to) w (view_in c t) u (fw.inside to lt) x.registers r) m (λ q live. k.unread to (suc f.place) q wr on.0 (subst (IsLiveAt p.function.ops to) (sym z) live))
      (λ m lm d live. (
        k.kept_live m (suc f.place) on.0 (subst (IsLiveAt p.function.ops m) (sym z) live)
            (λ k. d (let b : Some to ≡ Some m = sym wr ∙ k in let b' : m ≡ to = cc in b')),
        k.apart to m (suc f.place) wr on.0 (subst (IsLiveAt p.function.ops m) (sym z) live) lt lm d,
      )))
      (kept_low p.function (is_unread p.function f.place) (place to) w u r.low) shared)

  -- The op's last piece leaves the frames as they are, and what is shared shows a heap.
  pub stored : (i most bound : ℕ) (h' : FlatHeap) (u v : View) (y : Instr) → Got i most u → slice_get pieces i ≡ Some (Plain y) → length pieces ≡ i + 1
      → Flows flash spot (Plain y) u v
      → ((m : ℕ) → writes op ≢ Some m) → GoesOn p.function f.place op → store_of v ≡ store_of (view_in c t) → length v.low ≡ 13
      → IsShared C placed flash a used h' (shared_seen used v t.free) → most + 2 ≤ bound → Owed C placed flash a texts bound used h t
      (GoesTurn (Stands (placed_at (f.place + 1) f) callers base) h') c t
  stored i most bound h' u v y g q n fl wr on es lw s b =
      let k = here C placed flash a texts image p f callers base c used h t op e x sh in
      wider C placed flash a texts (most + 2) bound used h t (GoesTurn (Stands (placed_at (f.place + 1) f) callers base) h') c t (omega arith)
      (goes_to C placed flash a texts image p f callers base c used h t op e x sh (g.least + 1) (most + 2) (first + (i + 1)) (f.place + 1) v f.temps h'
      (omega arith) (step i most u v (Plain y) g q fl) (ap (λ j. first + j) (sym n) ∙ sym k.next) on.1
      (runs_same C placed flash a texts image p f callers base c used h t op e x sh (suc f.place) (f.place + 1) v (omega arith) on.0 wr es) lw s)

  -- An op that begins with an object or array in its register and tests it for null.
  module _ (o : ℕ) (lo : o < temporaries p.function) (ro : Contains (reads op) o)
      (p0 : slice_get pieces 0 ≡ Some (brings p.function 0 (place_of p.places o))) (p1 : slice_get pieces 1 ≡ Some (Plain (CmpImm (register_of 0 (place_of p.places o)) 0)))
      (p2 : slice_get pieces 2 ≡ Some (Go 1 (3 * f.place + 1))) (p3 : slice_get pieces 3 ≡ Some (Plain (MovImm 0 105)))
      (p4 : slice_get pieces 4 ≡ Some (Plain (Svc 1))) (p5 : slice_get pieces 5 ≡ Some (Label (3 * f.place + 1))) where
    abbrev pub its_word : ℕ
    its_word = word C placed flash a texts image p f callers base c used h t op e x sh o

    abbrev pub its_register : ℕ
    its_register = register_of 0 (place_of p.places o)

    pub its_meaning : Means C placed flash a (f.temps o) its_word
    its_meaning = word_means C placed flash a texts image p f callers base c used h t op e x sh o lo ro

    abbrev pub seen_object : View
    seen_object = brought 0 (place_of p.places o) its_word (view_in c t)

    pub its_place : IsWithin p.function (place_of p.places o)
    its_place = ((here C placed flash a texts image p f callers base c used h t op e x sh).within_function).inside o lo

    pub in_register : slice_index seen_object.low its_register ≡ its_word
    in_register = brought_word p.function (place_of p.places o) 0 its_word (view_in c t) (omega arith) its_place x.registers refl

    loaded : Got 1 2 seen_object
    loaded =
        let y = brings p.function 0 (place_of p.places o) in
        let g = one 0 0 (view_in c t) seen_object y begun p0 (brings_word C placed flash a texts image p f callers
        base c used h t op e x sh o 0 (view_in c t) lo ro (omega arith) refl) in
        got_wider 1 (0 + cost y) 2 seen_object (let l = still_takes p.function y (brings_still p.function 0 (place_of p.places o)) in omega arith) g

    pub object_there : 0 < its_word → Got 6 7 (tested seen_object its_word 0)
    object_there l = not_null 1 2 (3 * f.place + 1) its_word its_register seen_object loaded p1 p2 in_register (word_small C placed flash a texts image p f callers base c used h
        t op e x sh o lo ro) p5 l

    pub object_null : (bound : ℕ) → 11 ≤ bound → (code : ℕ) → IsNull its_word code → Owed C placed flash a texts bound used h t (Panics code) c t
    object_null bound b code n =
        let rg = x.registers in
        let l = brought_length (place_of p.places o) 0 its_word (view_in c t).low in
        subst (λ k. Owed C placed flash a texts bound used h t (Panics k) c t) (sym n.1)
        (is_null 1 2 (3 * f.place + 1) its_word its_register seen_object loaded p1 p2 in_register (word_small C placed flash a texts image p f callers base c used h t op e x sh o
        lo ro) bound p3 p4 n.0 (omega arith) (omega arith))
