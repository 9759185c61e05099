-- Lowering does what it owes.
use Rattle.std.proofs.Common.{◌≡◌, ℕ, List, refl, subst}
use Rattle.board_world.specs.Observations.{ByteList}
use Rattle.board_world.specs.Simulation.{Follows, Matches, always}
use Rattle.sts_syntax.specs.TypedTrees.{TypedProgram}
use Rattle.sts_syntax.specs.WellTypedPrograms.{IsWellTyped}
use Rattle.sts_meaning.specs.Heaps.{FlatHeap, Heap}
use Rattle.sts_meaning.specs.Frames.{Activity}
use Rattle.sts_meaning.specs.Steps.{source, step}
use Rattle.sts_implements.specs.Forgotten.{forget}
use Rattle.sts_implements.specs.Passes.{Lowers}
use Rattle.flat_meaning.specs.Frames.{FlatActivity}
use Rattle.flat_meaning.specs.Steps.{flat}
use Rattle.sts_lower.specs.Lowered.{lowered}
use Rattle.lower_simulation.specs.Tied.{CodeTied, Tied}
use Rattle.lower_simulation.specs.Limits.{IsLight}
use Rattle.lower_simulation.proofs.Turns.{K, L, T, Makes}
use Rattle.lowered_code.specs.Fine.{IsFine}
use Rattle.lower_simulation.proofs.Follows.{follows}
use Rattle.lowered_code.proofs.Laws.{well_typed_fine}

module _ (P : TypedProgram) (texts : List ByteList) (typed : IsWellTyped P) (weight : FlatActivity → FlatHeap → ℕ) (light : IsLight (lowered P) weight) where
  fine : IsFine P
  fine = well_typed_fine P typed

  as_follows : (used : ℕ) (h : Heap) (t : FlatHeap) (a : Activity) (b : FlatActivity) → forget h ≡ t → Makes P texts weight light 512 used h (step P texts a h) b t
      → Follows (K P texts weight light) (L P texts weight light) (T P texts weight light) weight (always 512 a h) used h t a b t
  as_follows used h t a b e x =
      record {
        steps = x.steps;
        cost = x.cost;
        last = x.last;
        memory = x.memory;
        path = x.path;
        light = x.little;
        match = subst (λ y. Matches (source P texts) (flat (lowered P) texts) (T P texts weight light) used h y (step P texts a h) ((L P texts weight light).step x.last x.memory)) e x.match;
        stands = λ m. tt;
      }

  pub lowering_keeps : Lowers P texts (flat (lowered P) texts) (λ h a b. Tied P texts a b) (CodeTied P texts) weight
  lowering_keeps = record {
    begins = λ used s t f g shared code. (code, refl);
    follows = λ used s t a b shared active nf. as_follows used s t a b shared.0 (follows P texts fine weight light used s t a b shared.0 active nf);
  }
