-- The source of a program runs with arrivals as its image does.
use Rattle.std.proofs.Common.{◌≡◌, ℕ, ◌+◌, ◌*◌, ◌<◌, ◌≤◌, ◌⊎◌, inl, inr, Bool, true, false, List, Some, length, take, slice_get, refl, sym, ap, ◌∙◌, subst, arith}
use Rattle.board_world.specs.Observations.{ByteList}
use Rattle.board_world.specs.Board.{Board, Entry, over}
use Rattle.board_world.specs.Runs.{Arrival, Rises, Placed, Keeps, applied}
use Rattle.board_world.specs.Implements.{EndsByNoFault}
use Rattle.board_world.proofs.Laws.{paired_length, applied_first}
use Rattle.bank_model.specs.BoardMachine.{fibers, bank_start}
use Rattle.sts_syntax.specs.TypedTrees.{TypedProgram}
use Rattle.sts_implements.specs.Images.{instructions_of_a_step, ImageImplements}
use Rattle.board_run.specs.Ran.{IsExecuted}
use Rattle.irq_arrival.specs.Along.{world_with}
use Rattle.irq_arrival.specs.ReachesWith.{source_with, ReachesWith}
use Rattle.irq_arrival.proofs.Applies.{all_applied}

module _ (P : TypedProgram) (texts : List ByteList) (image : List ℕ) (implements : ImageImplements P texts image) (until : ℕ) (script : List Entry) (arrivals : List Arrival) (rises : Rises 0 arrivals) (free : List ℕ) where
  abbrev kept : (m : ℕ) → Keeps instructions_of_a_step (λ places steps. (source_with P texts until script places steps).board) (λ come n. (world_with image until script come free n).board) arrivals m
  kept m = (implements free).keeps until script arrivals rises m

  abbrev there : ℕ → Bool
  there m = over (source_with P texts until script (kept m).places (kept m).steps).board

  ended_as : (m : ℕ) → there m ≡ over (world_with image until script arrivals free m).board
  ended_as m = ap (λ (b : Board). over b) (kept m).board

  pub faultless : (n : ℕ) → EndsByNoFault (world_with image until script arrivals free n).board.end
  faultless n = (implements free).no_fault until script arrivals rises n

  -- enough steps are made where the source hasn't ended
  enough : (budget executed n : ℕ) → IsExecuted (world_with image until script arrivals free) budget executed → instructions_of_a_step * n ≤ budget
      → (is : Bool) → over (world_with image until script arrivals free executed).board ≡ is → (n ≤ (kept executed).steps) ⊎ (there executed ≡ true)
  enough budget executed n e l true is = inr (ended_as executed ∙ is)
  enough budget executed n e l false is = goes e.done
    where
      goes : (executed ≡ budget) ⊎ (over (world_with image until script arrivals free executed).board ≡ true) → (n ≤ (kept executed).steps) ⊎ (there executed ≡ true)
      goes (inl whole) = (let below : executed < instructions_of_a_step * ((kept executed).steps + 1) = (kept executed).at_least is in inl (omega arith))
      goes (inr end) = absurd (let c : false ≡ true = sym is ∙ end in cc)

  applies : (budget executed : ℕ) → IsExecuted (world_with image until script arrivals free) budget executed → (i : ℕ) (a : Arrival) → slice_get arrivals i ≡ Some a → a.count < budget
      → (i < length (kept executed).places) ⊎ ((there executed ≡ true) × ((kept executed).steps ≤ a.count))
  applies budget executed e i a at below = elim (all_applied (fibers image) arrivals budget executed (bank_start image until script free) rises e.within e.not_before e.done i a at below) [
    | inl l ↦ inl (subst (λ n. i < n) (paired_length (Placed instructions_of_a_step) (applied (λ n. (world_with image until script arrivals free n).board) arrivals executed) (kept executed).places (kept executed).placed) l)
    | inr r ↦ inr (ended_as executed ∙ r.0, (let m = (kept executed).at_most in let l = r.1 in omega (arith, m, l)))
  ]

  pub reaches : (budget executed : ℕ) → IsExecuted (world_with image until script arrivals free) budget executed
      → (steps : ℕ) × (places : List Arrival) × ReachesWith P texts image until script arrivals budget free executed steps places
  reaches budget executed e = (
    (kept executed).steps,
    (kept executed).places,
    record {
      is_executed = e;
      rises = (kept executed).rises;
      placed = (kept executed).placed;
      are_first =
          applied_first (fibers image) executed arrivals (bank_start image until script free) rises
          ∙ ap (λ n. take n arrivals) (paired_length (Placed instructions_of_a_step) (applied (λ n. (world_with image until script arrivals free n).board) arrivals executed) (kept executed).places (kept executed).placed);
      board = (kept executed).board;
      at_most = (let m = (kept executed).at_most in let l = e.within in omega (arith, m, l));
      at_least = λ n l. enough budget executed n e l (over (world_with image until script arrivals free executed).board) refl;
      applies = applies budget executed e;
    },
  )
