-- Flat code implements its source, counted in ops.
use Rattle.std.proofs.Common.{◌≡◌, ℕ, zero, suc, ◌+◌, ◌*◌, ◌≤◌, List, length, inl, refl, sym, ap, subst, arith}
use Rattle.board_world.specs.Observations.{ByteList}
use Rattle.board_world.specs.Kinds.{Kind}
use Rattle.board_world.specs.Simulation.{Ties, Path, one, always}
use Rattle.board_world.specs.Sound.{PartialSimulation}
use Rattle.board_world.specs.Implements.{Implements, boards_from}
use Rattle.board_world.proofs.Laws.{implements}
use Rattle.flat_ir.specs.declared.ops.Op.{Op}
use Rattle.flat_ir.specs.declared.ops.Op.TheVariants as o
use Rattle.sts_syntax.specs.TypedTrees.{TypedProgram}
use Rattle.sts_syntax.specs.WellTypedPrograms.{IsWellTyped}
use Rattle.sts_meaning.specs.Values.{Value}
use Rattle.sts_meaning.specs.Steps.{source, empty}
use Rattle.sts_meaning.specs.Heaps.{FlatHeap}
use Rattle.meaning_sound.specs.Kept.{typed}
use Rattle.meaning_sound.proofs.Laws.{source_sound, empty_is}
use Rattle.sts_implements.specs.Forgotten.{forget}
use Rattle.flat_meaning.specs.Frames.{FlatActivity}
use Rattle.flat_meaning.specs.Steps.{flat, flat_empty}
use Rattle.sts_lower.specs.Lowered.{lowered}
use Rattle.lowered_code.proofs.Laws.{entry_within}
use Rattle.lower_simulation.specs.Limits.{limit, IsLight, ops_of_a_step}
use Rattle.lower_simulation.proofs.Functions.{zeros_are}
use Rattle.lower_simulation.proofs.Turns.{T}
use Rattle.lower_simulation.proofs.Whole.{lowering_keeps}

-- Each op weighs 24, which is within every bound of the list.
abbrev alike : FlatActivity → FlatHeap → ℕ
alike b h = 24

within : (op : Op) → 24 ≤ limit op
within (o.Const to value) = omega arith
within (o.Copy to from) = omega arith
within (o.Unary to op from) = omega arith
within (o.Binary to op left right) = omega arith
within (o.GlobalGet to slot) = omega arith
within (o.GlobalSet slot from) = omega arith
within (o.FieldGet to object field) = omega arith
within (o.FieldSet object field from) = omega arith
within (o.ItemGet to array index) = omega arith
within (o.ItemSet array index from) = omega arith
within (o.Length to array) = omega arith
within (o.Pop to array) = omega arith
within (o.TextOf to text) = omega arith
within (o.MakeObject to class) = omega arith
within (o.MakeArray to room) = omega arith
within (o.Call to function args) = omega arith
within (o.CallSlot to slot args) = omega arith
within (o.HandlerOf to function) = omega arith
within (o.Ask to service args) = omega arith
within (o.Jump target) = omega arith
within (o.Branch when target) = omega arith
within (o.Return from) = omega arith

each_alike : (P : TypedProgram) → IsLight (lowered P) alike
each_alike P = record { enters = λ f base h. omega arith; ops = λ f callers base h op e. within op }

-- steps that weigh 24 each are counted
module _ {A S : Type 0} (K : Kind A S) (L : Kind FlatActivity FlatHeap) (T : Ties A S FlatActivity FlatHeap) where
  counted : (n cost : ℕ) (b : FlatActivity) (t : FlatHeap) (c : FlatActivity) (u : FlatHeap) → Path L alike n cost b t c u → (cost ≡ 24 * n) × Path L one n n b t c u
  counted zero cost b t c u p = (p.2, (p.0, p.1, refl))
  counted (suc n) cost b t c u p =
      let rest = counted n p.2 p.0 p.1 c u p.5 in
      (omega (arith, p.4, rest.0), (p.0, p.1, n, p.3, (let z : suc n ≡ 1 + n = omega arith in z), rest.1))

  by_count : PartialSimulation K L T alike (always 512) → PartialSimulation K L T one (always ops_of_a_step)
  by_count sim = record {
    begins = sim.begins;
    follows = λ used s t a b shared active sound.
        let f = sim.follows used s t a b shared active sound in
        let path = counted f.steps f.cost b t f.last f.memory f.path in
        let light : f.cost + 24 ≤ 512 = f.light in
        record {
          steps = f.steps;
          cost = f.steps;
          last = f.last;
          memory = f.memory;
          path = path.1;
          light = (let z : f.steps + 1 ≤ 21 = omega (arith, light, path.0) in z);
          match = f.match;
          stands = f.stands;
        };
  }

-- flat code's own start is what lowering ties to the source's
pub starts_empty : (P : TypedProgram) (texts : List ByteList) → flat_empty (lowered P) texts (length P.globals) ≡ forget (empty P texts)
starts_empty P texts = ap (λ (vs : List Value). record (forget (empty P texts)) { globals = vs }) (zeros_are P.globals)

pub flat_implements : (P : TypedProgram) (texts : List ByteList) → IsWellTyped P
    → Implements ops_of_a_step (boards_from (source P texts) P.main (empty P texts)) (boards_from (flat (lowered P) texts) (lowered P).main (flat_empty (lowered P) texts (length P.globals)))
flat_implements P texts good =
    subst (λ (h : FlatHeap). Implements ops_of_a_step (boards_from (source P texts) P.main (empty P texts)) (boards_from (flat (lowered P) texts) (lowered P).main h)) (sym (starts_empty P texts))
    (implements (source P texts) (flat (lowered P) texts) ops_of_a_step (typed P) (T P texts alike (each_alike P)) (omega arith) (source_sound P good texts)
    (by_count (source P texts) (flat (lowered P) texts) (T P texts alike (each_alike P)) (lowering_keeps P texts good alike (each_alike P)))
    P.main P.main (empty P texts) (forget (empty P texts)) (inl good.main) (inl (entry_within P.functions P.main good.main.0 good.main.1, refl)) (empty_is P good texts) (refl, tt))
