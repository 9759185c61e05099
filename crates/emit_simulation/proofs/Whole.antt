-- From the turns of all ops to the theorem of emission.
use Rattle.std.proofs.Common.{zero, suc, ◌≡◌, ℕ, ◌+◌, ◌*◌, ◌-◌, ◌<◌, ◌≤◌, ◌^◌, List, [], ◌∷◌, length, Option, Some, None, refl, sym, ap, ◌∙◌, subst, arith, slice_get}
use Rattle.thumb_code.specs.RegisterFile.{word}
use Rattle.thumb_code.specs.Step.{fetched}
use Rattle.board_world.specs.Observations.{ByteList}
use Rattle.board_world.specs.Limits.{depth_limit}
use Rattle.board_world.specs.Kinds.{Kind}
use Rattle.board_world.specs.Simulation.{Path, one}
use Rattle.board_world.specs.Sound.{NoFault}
use Rattle.bank_model.specs.Fibers.{Fiber, Shared, begins, begins_on}
use Rattle.bank_model.specs.BoardMachine.{fibers, memory_of}
use Rattle.thumb_layout.proofs.Laws.{reaches_none, ComesSilently}
use Rattle.flat_ir.specs.declared.ops.Op.{Op}
use Rattle.flat_ir.specs.declared.ops.Op.TheVariants.{Branch}
use Rattle.flat_ir.specs.declared.ops.Function.{Function}
use Rattle.flat_ir.specs.declared.ops.FlatCode.{FlatCode}
use Rattle.register_assign.specs.declared.places.Placed.{Placed}
use Rattle.sts_syntax.specs.TypeRules.{entry}
use Rattle.sts_meaning.specs.Heaps.{FlatHeap}
use Rattle.flat_meaning.specs.Frames.{FlatActivity, Enters, op_of, op_at}
use Rattle.flat_meaning.specs.Steps.{flat, step, act_at, called}
use Rattle.sts_implements.specs.Passes.{trailing_instructions, Emits}
use Rattle.thumb_emit.specs.Bounds.{op_instructions}
use Rattle.thumb_emit.specs.InFlash.{Addresses}
use Rattle.placed_frames.specs.Frames.{AreWords}
use Rattle.emit_simulation.proofs.Laid.{over}
use Rattle.emit_simulation.specs.Ties.{IsTied, AtEntry, AtOp, AtBranch, IsShared, IsImage, spots, ties, pending, stack_end}
use Rattle.emit_simulation.proofs.AtOps.{view_in}
use Rattle.emit_simulation.proofs.OwedOps.{MakesAlone}
use Rattle.emit_simulation.specs.Weights.{weight_at, weight_of}
use Rattle.emit_simulation.proofs.Context.{function_at}
use Rattle.emit_simulation.proofs.Meanings.{function_inside, placed_inside, entry_is}
use Rattle.emit_simulation.proofs.Turns.{Owed, tied_now}
use Rattle.emit_simulation.proofs.Control.{joined_makes}
use Rattle.emit_simulation.proofs.FunctionEntries.{Calling, calls_turn}

-- steps behind others
path_add : {X D : Type 0} (L : Kind X D) (n k m j : ℕ) (b : X) (t : D) (c : X) (u : D) (d : X) (v : D) → Path L one n k b t c u → Path L one m j c u d v
    → Path L one (n + m) (k + j) b t d v
path_add {X = X} {D = D} L zero k m j b t c u d v p q =
    let e : m ≡ 0 + m = omega arith in
    let z = p.2 in
    let f : j ≡ k + j = omega arith in
    subst (λ i. Path L one i (k + j) b t d v) e (subst (λ i. Path L one m i b t d v) f
    (subst (λ (x : X). Path L one m j x t d v) (sym p.0) (subst (λ (y : D). Path L one m j c y d v) (sym p.1) q)))
path_add {X = X} {D = D} L (suc n) k m j b t c u d v p q =
    let e : suc (n + m) ≡ suc n + m = omega arith in
    let z = p.4 in
    subst (λ i. Path L one i (k + j) b t d v) e (p.0, p.1, p.2 + j, p.3, omega arith, path_add L n p.2 m j p.0 p.1 c u d v p.5 q)

-- registers that begin as 0
zeros_small : AreWords (0 ∷ (0 ∷ (0 ∷ (0 ∷ []))))
zeros_small zero = omega arith
zeros_small (suc zero) = omega arith
zeros_small (suc (suc zero)) = omega arith
zeros_small (suc (suc (suc zero))) = omega arith
zeros_small (suc (suc (suc (suc i)))) = omega arith

begins_at : (at : ℕ) → at < 2 ^ 32 → word (at + 1 + (2 ^ 32 - 1)) ≡ at
begins_at at l = omega arith

module _ (C : FlatCode) (placed : List Placed) (flash : List ℕ) (a : Addresses) (texts : List ByteList) (image : IsImage C placed flash a texts)
    (every : (op : Op) → MakesAlone C placed flash a texts op) where
  -- AN ACTIVITY BEGINS
  begins_calling : (g base : ℕ) (t : Shared) (pg : Placed) → g < length C.functions → base ≤ depth_limit → slice_get placed g ≡ Some pg
      → Calling C placed flash a (begins_on flash (stack_end - 4 * base) (a.function g + 1)) t g pg [] [] base 0
  begins_calling g base t pg l lb there =
      let c = begins_on flash (stack_end - 4 * base) (a.function g + 1) in
      let i = function_inside C placed flash a texts image g l in
      let i0 = i.0 in
      let ri = (image.shows).return_inside in
      let pc : c.registers.pc ≡ (spots C placed flash a g pg).at 0 = begins_at (a.function g) (omega arith) ∙ omega arith in
      record {
        v = view_in c t;
        s = c.registers;
        free = t.free;
        there = there;
        reach = subst (λ n. ComesSilently over (fetched flash c.base) 0 0 c.registers (memory_of flash c t) (record c.registers { pc = n }) (memory_of flash c t)) pc
            (reaches_none over (fetched flash c.base) c.registers (memory_of flash c t));
        at = record { sp_is = omega arith; flash_is = refl; aligned = omega arith; low = omega arith; high = omega arith };
        low = refl;
        link = refl;
        link_fits = omega arith;
        kept = zeros_small;
        frames = (refl, zeros_small);
        sp_is = omega arith;
        base_is = omega arith;
        deep = omega arith;
        globals = refl;
        arena = refl;
        arguments = λ j value q. cc;
        room = omega arith;
      }

  -- what an activity that is up to date makes, within what it weighs less what may be pending or trail
  pub makes : (used : ℕ) (h : FlatHeap) (t : Shared) (x : FlatActivity) (c : Fiber) → IsShared C placed flash a used h t → IsTied C placed flash a x c
      → NoFault (step C texts x h)
      → (room : ℕ) × (pending + room + trailing_instructions ≤ weight_of C x h) × Owed C placed flash a texts room used h t (step C texts x h) c t
  makes used h t _ _ sh (AtEntry g base c l lb eq) nf =
      let pg = placed_inside C placed flash a texts image g l in (
        55,
        omega arith,
        subst (λ (k : Fiber). Owed C placed flash a texts 55 used h t (called C texts h base [] g []) k t) (sym eq)
            (calls_turn C placed flash a texts image (begins_on flash (stack_end - 4 * base) (a.function g + 1)) t used h t g pg.0 [] [] base 0
            (begins_calling g base t pg.0 l lb pg.1) sh nf),
      )
  makes used h t _ _ sh (AtOp p f callers base c alone at) nf =
      by_function (entry C.functions f.function) refl nf
    where
      by_op : (o : Option Op) → entry p.function.ops f.place ≡ o → NoFault (act_at C texts h f callers base o)
          → (room : ℕ) × (pending + room + trailing_instructions ≤ weight_at o) × Owed C placed flash a texts room used h t (act_at C texts h f callers base o)
          c t
      by_op None q nf = absurd nf
      by_op (Some op) q nf = (op_instructions op, omega arith, every op p f callers base c used h t alone (sym (entry_is p.function.ops f.place) ∙ q) at sh nf)

      by_function : (o : Option Function) → entry C.functions f.function ≡ o → NoFault (act_at C texts h f callers base (op_of o f.place))
          → (room : ℕ) × (pending + room + trailing_instructions ≤ weight_at (op_of o f.place)) × Owed C placed flash a texts room used h t
          (act_at C texts h f callers base (op_of o f.place)) c t
      by_function o q nf =
          let e : Some p.function ≡ o = sym (function_at C placed flash a texts image f.function p at.there) ∙ (sym (entry_is C.functions f.function) ∙ q) in
          subst (λ (k : Option Function). NoFault (act_at C texts h f callers base (op_of k f.place))
          → (room : ℕ) × (pending + room + trailing_instructions ≤ weight_at (op_of k f.place)) × Owed C placed flash a texts room used h t
          (act_at C texts h f callers base (op_of k f.place)) c t) e
          (λ n. by_op (entry p.function.ops f.place) refl n) nf
  makes used h t _ _ sh (AtBranch p f callers base when target condition c there joins says at) nf =
      let e : op_at C f ≡ Some (Branch when target) = ap (λ (k : Option Function). op_of k f.place)
      (entry_is C.functions f.function ∙ function_at C placed flash a texts image f.function p at.there) ∙ (entry_is p.function.ops f.place ∙ there) in
      subst (λ (o : Option Op). (room : ℕ) × (pending + room + trailing_instructions ≤ weight_at o) × Owed C placed flash a texts room used h t
      (act_at C texts h f callers base o) c t) (sym e) (
        op_instructions (Branch when target),
        omega arith,
        joined_makes C placed flash a texts image p f callers base when target condition c used h t there joins at sh says,
      )

  -- THE THEOREM OF EMISSION, from the turns of all ops
  pub emits_by : Emits (flat C texts) flash (ties C placed flash a) (weight_of C)
  emits_by = record {
    begins = λ used h t f g sh code.
        let b = (image.shows).base in
        tied_now C placed flash a texts h t (Enters f 0) (begins flash g) (AtEntry f 0 (begins flash g) code.0 (omega arith)
        (λ i. begins_on flash (b i) (code.1 i)));
    follows = λ used h t x c sh k nf.
        let y = makes used h t x k.at sh k.active nf in
        let m = y.2 in
        let l = m.light in
        let w = y.1 in
        let kf = k.few in
        record {
          room = k.cost + y.0;
          fits = omega arith;
          trails = record {
            steps = k.steps + m.steps;
            cost = k.cost + m.cost;
            last = m.last;
            memory = m.memory;
            path = path_add (fibers flash) k.steps k.cost m.steps m.cost c t k.at t m.last m.memory (k.alone t) m.path;
            light = omega arith;
            turn = m.below;
            completes = m.completes;
            match = m.match;
            stands = λ n. tt;
          };
        };
  }
