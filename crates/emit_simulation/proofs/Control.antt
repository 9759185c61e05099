-- Jumps and branches.
use Rattle.std.proofs.Common.{suc, ◌≡◌, ℕ, ◌+◌, ◌*◌, ◌<◌, ◌≤◌, List, [], ◌∷◌, length, Bool, true, false, not, cond, Some, None, refl, sym, ap, ◌∙◌, subst, arith, slice_get, slice_index, ◌==◌}
use Rattle.std.specs.Prelude.{◌≢◌, Contains, pos}
use Rattle.std.proofs.lemmas.Bool.Decides.{nat_tests}
use Rattle.std.specs.Ordering.{int_eq}
use Rattle.thumb_code.specs.declared.instructions.Instr.TheVariants.{CmpImm}
use Rattle.thumb_code.specs.Arithmetic.{sum_flags, inverted, holds}
use Rattle.thumb_code.specs.Step.{fetched}
use Rattle.board_world.specs.Observations.{ByteList}
use Rattle.board_world.specs.Kinds.{Goes}
use Rattle.board_world.specs.Sound.{NoFault}
use Rattle.bank_model.specs.Fibers.{Fiber, Shared}
use Rattle.thumb_layout.specs.declared.pieces.Piece.TheVariants.{Plain, Label, Go}
use Rattle.thumb_layout.specs.Pieces.{always, is_taken, goes_on as piece_goes_on}
use Rattle.flat_ir.specs.declared.ops.Op.{Op}
use Rattle.flat_ir.specs.declared.ops.Op.TheVariants.{Jump, Branch}
use Rattle.flat_ir.specs.declared.ops.FlatCode.{FlatCode}
use Rattle.flat_ir.specs.Ops.{goes_on}
use Rattle.flat_ir.specs.WellFormed.{temporaries}
use Rattle.flat_ir.specs.Liveness.{IsLiveAt}
use Rattle.register_assign.specs.declared.places.Placed.{Placed}
use Rattle.register_assign.specs.Sound.{place_of}
use Rattle.register_assign.proofs.Laws.{handled_not_live}
use Rattle.sts_meaning.specs.Values.{Value, Whole, Object, Text, Code, Outcome, Gives, decided}
use Rattle.sts_meaning.specs.Frames.{after}
use Rattle.sts_meaning.specs.Heaps.{FlatHeap}
use Rattle.flat_meaning.specs.Frames.{FlatFrame, FlatActivity, Stands}
use Rattle.flat_meaning.specs.Steps.{act}
use Rattle.placed_frames.specs.Frames.{Running}
use Rattle.thumb_emit.specs.Emit.{op_pieces, function_pieces, unequal, branch_pieces}
use Rattle.thumb_emit.specs.Joined.{joined_by}
use Rattle.thumb_emit.proofs.Laws.{joined_small, joined_after, joined_target, joined_unread}
use Rattle.thumb_emit.specs.Frame.{register_of, brings}
use Rattle.thumb_emit.proofs.Laws.{brings_still, still_takes}
use Rattle.thumb_emit.specs.Bounds.{total_cost}
use Rattle.thumb_layout.specs.declared.pieces.Piece.{Piece}
use Rattle.register_assign.specs.declared.places.Place.{Place}
use Rattle.thumb_emit.specs.Bounds.{op_instructions}
use Rattle.thumb_emit.specs.InFlash.{Addresses}
use Rattle.arena_values.proofs.Laws.{words_unequal, decided_is}
use Rattle.placed_frames.proofs.Laws.{View, Quiet}
use Rattle.emit_simulation.proofs.Laid.{OfInstr, Comes, steps_of, store_of}
use Rattle.emit_simulation.specs.Starts.{start}
use Rattle.emit_simulation.specs.Ties.{IsAt, AtOp, IsShared, IsImage, IsText, IsCode, Means, spots, place_in, return_to, frames_of}
use Rattle.emit_simulation.proofs.AtOps.{AtOpOf, view_in, bank_in, fiber_seen}
use Rattle.emit_simulation.proofs.OwedOps.{MakesOp, MakesAlone}
use Rattle.emit_simulation.proofs.Flowing.{branches, passes_by, then}
use Rattle.emit_simulation.proofs.Placed.{brought, brought_word, brought_store, brought_length}
use Rattle.emit_simulation.proofs.Starts.{StandAt, op_stands, first_of, stand_as}
use Rattle.emit_simulation.proofs.Context.{at_op}
use Rattle.emit_simulation.proofs.Meanings.{are_words, within_list}
use Rattle.emit_simulation.proofs.Turns.{Owed, makes_goes}
use Rattle.emit_simulation.proofs.Ops.{here, wider, stands_behind, word, word_means, word_small, brings_word, flow_from, goes_to, runs_same, shared_same, elim_none}

module _ (C : FlatCode) (placed : List Placed) (flash : List ℕ) (a : Addresses) (texts : List ByteList) (image : IsImage C placed flash a texts) where
  -- the label of a place
  label_of : (p : Placed) (k : ℕ) → k < length p.function.ops → slice_get (function_pieces p) (start p.function (place_of p.places) k) ≡ Some (Label (3 * k))
  label_of p k l =
      let o = within_list p.function.ops k l in
      ap (slice_get (function_pieces p)) (omega arith) ∙ op_stands p k o.0 o.1 0 (omega arith)

  -- JUMP
  pub jump_makes : (target : ℕ) → MakesOp C placed flash a texts (Jump target)
  jump_makes target p f callers base c used h t e x sh nf =
      let op = Jump target in
      let place = place_of p.places in
      let k = here C placed flash a texts image p f callers base c used h t op e x sh in
      let fw = k.within_function in
      let s1 = start p.function place f.place + 1 in
      let pl = spots C placed flash a f.function p in
      let g : slice_get (function_pieces p) s1 ≡ Some (Go always (3 * target)) = ap (slice_get (function_pieces p)) (omega arith) ∙ k.stands 0 (omega arith) in
      let y = branches (fetched flash c.base) flash pl (function_pieces p) fw.laid s1 (start p.function place target) always (3 * target) (view_in c t)
      c.registers (bank_in flash c t) t.free g (label_of p target ((k.op_within).goes).0) refl fw.at refl in
      goes_to C placed flash a texts image p f callers base c used h t op e x sh 1 3 (start p.function place target) target (view_in c t) f.temps h
      (omega arith) y refl (joined_target p.function target f.place op e refl)
      (runs_same C placed flash a texts image p f callers base c used h t op e x sh target target (view_in c t) refl (0, omega arith, refl)
      (λ m q. elim_none m q) refl)
      x.registers (shared_same C placed flash a texts image p f callers base c used h t op e x sh (view_in c t) refl refl)

  module _ (p : Placed) (f : FlatFrame) (callers : List FlatFrame) (base : ℕ) (c : Fiber) (used : ℕ) (h : FlatHeap) (t : Shared) (when target : ℕ)
      (alone : joined_by p.function f.place ≡ None) (e : slice_get p.function.ops f.place ≡ Some (Branch when target))
      (x : IsAt C placed flash a p (λ u. IsLiveAt p.function.ops u f.place) f callers base (start p.function (place_of p.places) f.place) c)
      (sh : IsShared C placed flash a used h t) where
    abbrev op : Op
    op = Branch when target

    abbrev goes_on_at : Bool → FlatActivity
    goes_on_at b = Stands (record { function = f.function; place = cond b target (f.place + 1); temps = f.temps }) callers base

    abbrev w : ℕ
    w = word C placed flash a texts image p f callers base c used h t op e x sh when

    -- the comparison
    abbrev pw : Place
    pw = place_of p.places when

    -- its pieces, since it isn't joined with the op before it
    stands : StandAt (function_pieces p) (start p.function (place_of p.places) f.place + 1)
        (brings p.function 0 pw ∷ (Plain (CmpImm (register_of 0 pw) 0) ∷ (Go unequal (3 * target) ∷ [])))
    stands = subst (λ o. StandAt (function_pieces p) (start p.function (place_of p.places) f.place + 1)
        (branch_pieces o (brings p.function 0 pw) (register_of 0 pw) (3 * target))) alone
        (here C placed flash a texts image p f callers base c used h t op e x sh).stands

    long : length (op_pieces p.function (place_of p.places) f.place op) ≡ 3
    long = ap (λ o. length (branch_pieces o (brings p.function 0 pw) (register_of 0 pw) (3 * target))) alone

    abbrev u1 : View
    u1 = brought 0 pw w (view_in c t)

    abbrev u2 : View
    u2 = record u1 { flags = sum_flags w (inverted 0) 1 }

    between : (least most i j : ℕ) (xs : List Piece) (v' : View) → least ≤ steps_of xs → total_cost xs ≤ most
        → Comes (fetched flash c.base) (spots C placed flash a f.function p) (steps_of xs) (total_cost xs) i j (view_in c t) v' c.registers (bank_in flash c t) t.free
        → Comes (fetched flash c.base) (spots C placed flash a f.function p) least most i j (view_in c t) v' c.registers (bank_in flash c t) t.free
    between least most i j xs v' l m y =
        let r = y.reach in let a = r.some in let b = r.few in
        record { link = y.link; long = y.long; reach = record { count = r.count; some = omega arith; few = omega arith; silent = r.silent } }

    compared : Comes (fetched flash c.base) (spots C placed flash a f.function p) 1 4 (start p.function (place_of p.places) f.place + 1)
        (start p.function (place_of p.places) f.place + 1 + 2) (view_in c t) u2 c.registers (bank_in flash c t) t.free
    compared =
        let place = place_of p.places in
        let k = here C placed flash a texts image p f callers base c used h t op e x sh in
        let lf : when < temporaries p.function = ((k.op_within).names).0 in
        let s1 = start p.function place f.place + 1 in
        let r = register_of 0 pw in
        let r0 : slice_index u1.low r ≡ w = brought_word p.function pw 0 w (view_in c t) (omega arith) ((k.within_function).inside when lf) x.registers refl in
        let xs = brings p.function 0 pw ∷ (Plain (CmpImm r 0) ∷ []) in
        let st = stand_as (function_pieces p) s1 (s1 + 0) xs (omega arith) (first_of (function_pieces p) s1 xs (Go unequal (3 * target) ∷ []) stands) in
        let z : s1 + 0 ≡ s1 = omega arith in
        let tk = still_takes p.function (brings p.function 0 pw) (brings_still p.function 0 pw) in
        subst (λ n. Comes (fetched flash c.base) (spots C placed flash a f.function p) 1 4 n (n + 2) (view_in c t) u2 c.registers (bank_in flash c t) t.free) z
        (between 1 4 (s1 + 0) (s1 + 0 + 2) xs u2 (omega arith) (omega arith) (flow_from C placed flash a texts image p f callers base c used h t op e x sh 0 xs (view_in c t) u2 c.registers st refl refl (
          u1,
          brings_word C placed flash a texts image p f callers base c used h t op e x sh when 0 (view_in c t) lf (0, omega arith, refl) (omega arith) refl,
          (u2, OfInstr (CmpImm r 0) u1 u2 refl (Quiet (CmpImm r 0) u1 u1.low (sum_flags w (inverted 0) 1) (λ next pc s. rw r0 refl)), refl),
        )))

    by_flag : (b : Bool) → b ≡ not (w == 0) → Owed C placed flash a texts (op_instructions op) used h t (Goes (goes_on_at b) h) c t
    by_flag true z =
        let place = place_of p.places in
        let k = here C placed flash a texts image p f callers base c used h t op e x sh in
        let fw = k.within_function in
        let lf : when < temporaries p.function = ((k.op_within).names).0 in
        let s1 = start p.function place f.place + 1 in
        let pl = spots C placed flash a f.function p in
        let y = compared in
        let g : slice_get (function_pieces p) (s1 + 2) ≡ Some (Go unequal (3 * target)) = stands 2 (omega arith) in
        let lw = word_small C placed flash a texts image p f callers base c used h t op e x sh when lf (0, omega arith, refl) in
        let d = branches (fetched flash c.base) flash pl (function_pieces p) fw.laid (s1 + 2) (start p.function place target) unequal (3 * target) u2
        (record c.registers { lr = y.link }) (bank_in flash c t) t.free g (label_of p target ((k.op_within).goes).0)
        (words_unequal w 0 lw (omega arith) ∙ sym z) fw.at y.long in
        let q = then (fetched flash c.base) flash pl (function_pieces p) fw.laid 1 4 1 3 s1 (s1 + 2) (start p.function place target) (view_in c t) u2 u2
        c.registers (bank_in flash c t) t.free y d in
        goes_to C placed flash a texts image p f callers base c used h t op e x sh 2 7 (start p.function place target) target u2 f.temps h (omega arith) q refl (joined_target p.function target f.place op e refl)
        (runs_same C placed flash a texts image p f callers base c used h t op e x sh target target u2 refl (0, omega arith, refl) (λ m q. elim_none m q)
        (brought_store pw 0 w (view_in c t) (omega arith)))
        (brought_length pw 0 w c.registers.r ∙ x.registers) (shared_same C placed flash a texts image p f callers base c used h t op e x sh u2 refl refl)
    by_flag false z =
        let place = place_of p.places in
        let k = here C placed flash a texts image p f callers base c used h t op e x sh in
        let fw = k.within_function in
        let lf : when < temporaries p.function = ((k.op_within).names).0 in
        let s1 = start p.function place f.place + 1 in
        let pl = spots C placed flash a f.function p in
        let y = compared in
        let g : slice_get (function_pieces p) (s1 + 2) ≡ Some (Go unequal (3 * target)) = stands 2 (omega arith) in
        let lw = word_small C placed flash a texts image p f callers base c used h t op e x sh when lf (0, omega arith, refl) in
        let d = passes_by (fetched flash c.base) flash pl (function_pieces p) fw.laid (s1 + 2) unequal (3 * target) u2 (record c.registers { lr = y.link })
        (bank_in flash c t) t.free g refl (words_unequal w 0 lw (omega arith) ∙ sym z) fw.at y.long in
        let q = then (fetched flash c.base) flash pl (function_pieces p) fw.laid 1 4 1 3 s1 (s1 + 2) (s1 + 2 + 1) (view_in c t) u2 u2 c.registers
        (bank_in flash c t) t.free y d in
        let nx = k.next in
        let ln = long in
        goes_to C placed flash a texts image p f callers base c used h t op e x sh 2 7 (s1 + 2 + 1) (f.place + 1) u2 f.temps h (omega arith) q (omega arith)
        (joined_after p.function f.place op e (λ w. refl))
        (runs_same C placed flash a texts image p f callers base c used h t op e x sh (suc f.place) (f.place + 1) u2 (omega arith) (1, omega arith, refl)
        (λ m q. elim_none m q) (brought_store pw 0 w (view_in c t) (omega arith)))
        (brought_length pw 0 w c.registers.r ∙ x.registers) (shared_same C placed flash a texts image p f callers base c used h t op e x sh u2 refl refl)

    by_value : (v : Value) → f.temps when ≡ v → NoFault (after (decided v) (λ b. Goes (goes_on_at b) h)) → Owed C placed flash a texts (op_instructions op)
        used h t (after (decided v) (λ b. Goes (goes_on_at b) h)) c t
    by_value (Whole n) q nf =
        let k = here C placed flash a texts image p f callers base c used h t op e x sh in
        let lf : when < temporaries p.function = ((k.op_within).names).0 in
        let m = word_means C placed flash a texts image p f callers base c used h t op e x sh when lf (0, omega arith, refl) in
        by_flag (not (int_eq n (pos 0))) (decided_is (IsText C placed flash a) (IsCode C placed flash a) (are_words C placed flash a texts image) 0
        (f.temps when) w (not (int_eq n (pos 0))) m (ap decided q))
    by_value (Object n) q nf = absurd nf
    by_value (Text n) q nf = absurd nf
    by_value (Code n) q nf = absurd nf

  -- BRANCH
  pub branch_makes : (when target : ℕ) → MakesAlone C placed flash a texts (Branch when target)
  branch_makes when target p f callers base c used h t alone e x sh nf =
      by_value p f callers base c used h t when target alone e x sh (f.temps when) refl nf

  -- A BRANCH THAT IS JOINED with the comparison before it goes by the flags
  module _ (p : Placed) (f : FlatFrame) (callers : List FlatFrame) (base when target condition : ℕ) (c : Fiber) (used : ℕ) (h : FlatHeap) (t : Shared)
      (e : slice_get p.function.ops f.place ≡ Some (Branch when target)) (j : joined_by p.function f.place ≡ Some condition)
      (x : IsAt C placed flash a p (λ u. IsLiveAt p.function.ops u f.place × (u ≢ when)) f callers base (start p.function (place_of p.places) f.place) c)
      (sh : IsShared C placed flash a used h t) where
    abbrev need : ℕ → Type 0
    need u = IsLiveAt p.function.ops u f.place × (u ≢ when)

    abbrev jop : Op
    jop = Branch when target

    abbrev j1 : ℕ
    j1 = start p.function (place_of p.places) f.place + 1

    at_branch : AtOpOf C placed flash a p f jop c t
    at_branch = at_op C placed flash a texts image p need f callers base (start p.function (place_of p.places) f.place) jop c t e x

    go : slice_get (function_pieces p) j1 ≡ Some (Go condition (3 * target))
    go =
        let pw = place_of p.places when in
        let st = subst (λ o. StandAt (function_pieces p) j1 (branch_pieces o (brings p.function 0 pw) (register_of 0 pw) (3 * target))) j at_branch.stands in
        ap (slice_get (function_pieces p)) (omega arith) ∙ st 0 (omega arith)

    one_long : length (op_pieces p.function (place_of p.places) f.place jop) ≡ 1
    one_long =
        let pw = place_of p.places when in
        ap (λ o. length (branch_pieces o (brings p.function 0 pw) (register_of 0 pw) (3 * target))) j

    isnt_always : (condition == 14) ≡ false
    isnt_always = let l = joined_small p.function f.place condition j in grind (arith, nat_tests)

    -- from where it goes on nobody reads what it tests
    runs_after : (next : ℕ) → Contains (goes_on f.place jop) next → Running (Means C placed flash a) C.functions (place_in C placed flash a)
        (return_to C placed flash a) p.function (place_of p.places) (λ u. IsLiveAt p.function.ops u next) f.temps (frames_of callers) (store_of (view_in c t))
    runs_after next on =
        let r = x.running in
        let fr = r.frame in
        record {
          four = r.four;
          frame = record {
            temporary = λ m lm live. fr.temporary m lm (
              at_branch.kept_live m next on live (λ q. elim_none m q),
              λ z. handled_not_live p.function f.place when next jop (joined_unread p.function f.place condition j) e refl on
                  (subst (λ u. IsLiveAt p.function.ops u next) z live),
            );
            link = fr.link;
            params = fr.params;
            small = fr.small;
          };
          above = r.above;
        }

    comes_to : (n next : ℕ) → Contains (goes_on f.place jop) next → joined_by p.function next ≡ None → n ≡ start p.function (place_of p.places) next
        → Comes (fetched flash c.base) (spots C placed flash a f.function p) 1 3 j1 n (view_in c t) (view_in c t) c.registers (bank_in flash c t) t.free
        → Owed C placed flash a texts (op_instructions jop) used h t
        (Goes (Stands (record { function = f.function; place = next; temps = f.temps }) callers base) h) c t
    comes_to n next on free z y =
        let f' : FlatFrame = record { function = f.function; place = next; temps = f.temps } in
        let v = view_in c t in
        wider C placed flash a texts 3 (op_instructions jop) used h t (Goes (Stands f' callers base) h) c t (omega arith)
        (makes_goes C placed flash a texts (spots C placed flash a f.function p) used 1 3 j1 n h h t c t v (Stands f' callers base) (omega arith) sh.0
        (x.pc ∙ (at_branch.within_function.laid).label (start p.function (place_of p.places) f.place) (3 * f.place) at_branch.label) y
        (AtOp p f' callers base (fiber_seen c v ((spots C placed flash a f.function p).at n) y.link) free
        (stands_behind C placed flash a texts p need (λ u. IsLiveAt p.function.ops u next) f callers base (start p.function (place_of p.places) f.place)
        (start p.function (place_of p.places) next) n next c v y.link f.temps x y.long x.registers z (runs_after next on)))
        (refl, sh.1))

    by_condition : (b : Bool) → holds c.registers.flags condition ≡ b → Owed C placed flash a texts (op_instructions jop) used h t
        (Goes (Stands (record { function = f.function; place = cond b target (f.place + 1); temps = f.temps }) callers base) h) c t
    by_condition true q =
        let fw = at_branch.within_function in
        let taken : is_taken c.registers.flags condition ≡ true = rw isnt_always q in
        comes_to (start p.function (place_of p.places) target) target (0, omega arith, refl) (joined_target p.function target f.place jop e refl) refl
        (branches (fetched flash c.base) flash (spots C placed flash a f.function p) (function_pieces p) fw.laid j1 (start p.function (place_of p.places) target)
        condition (3 * target) (view_in c t) c.registers (bank_in flash c t) t.free go (label_of p target ((at_branch.op_within).goes).0) taken fw.at refl)
    by_condition false q =
        let fw = at_branch.within_function in
        let nx = at_branch.next in
        let ln = one_long in
        let on : Contains (goes_on f.place jop) (f.place + 1) = (1, omega arith, omega arith) in
        let passed : is_taken c.registers.flags condition ≡ false = rw isnt_always q in
        let over : piece_goes_on (Go condition (3 * target)) ≡ true = rw isnt_always refl in
        comes_to (j1 + 1) (f.place + 1) on (joined_after p.function f.place jop e (λ w. refl)) (omega arith)
        (passes_by (fetched flash c.base) flash (spots C placed flash a f.function p) (function_pieces p) fw.laid j1 condition (3 * target) (view_in c t)
        c.registers (bank_in flash c t) t.free go over passed fw.at refl)

    pub joined_makes : decided (f.temps when) ≡ Gives (holds c.registers.flags condition)
        → Owed C placed flash a texts (op_instructions jop) used h t (act C texts h f callers base jop) c t
    joined_makes d =
        subst (λ (o : Outcome Bool). Owed C placed flash a texts (op_instructions jop) used h t
        (after o (λ b. Goes (Stands (record { function = f.function; place = cond b target (f.place + 1); temps = f.temps }) callers base) h)) c t) (sym d)
        (by_condition (holds c.registers.flags condition) refl)
