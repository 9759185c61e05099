-- A board that may go on: it begins, its parts stop or go on, an act arrives, and the budget ends it.
use Rattle.std.proofs.Common.{◌≡◌, ℕ, ◌+◌, ◌-◌, ◌≤◌, inl, inr, List, [], ◌∷◌, Option, Some, None, IsSome, false, true, is_some, refl, sym, ap, ◌∙◌, subst, arith}
use Rattle.std.specs.Prelude.{Result}
use Rattle.std.specs.Option.{option_map}
use Rattle.board_world.specs.Board.{Board}
use Rattle.board_world.specs.Transcript.{closing_line}
use Rattle.board_world.specs.Runs.{Arrival}
use Rattle.tool_io.specs.Putting.{Puts}
use Rattle.tool_io.specs.declared.sink.PutFailed.{PutFailed}
use Rattle.tool_io.proofs.Laws.{rose-before}
use Rattle.event_script.specs.World.{world_entries}
use Rattle.event_script.specs.declared.script.Script.{Script}
use Rattle.board_ports.specs.Account.{Account}
use Rattle.board_run.specs.declared.engine.Engine.{Engine}
use Rattle.board_run.specs.declared.end.End.{End}
use Rattle.board_run.specs.declared.end.Stop.{Stop}
use Rattle.board_run.specs.Outside.{OverSink, around, PortsMeet}
use Rattle.board_run.specs.Advancing.{IsWhole, IsSettled}
use Rattle.board_run.specs.Ran.{Parted, Arrives, IsMounted, answer_of, Ran}
use Rattle.board_run.specs.Represents.{state_of, end_of}
use Rattle.arrival_file.specs.declared.arrival.Arrival.{Arrival as FileArrival}
use Rattle.arrival_file.specs.World.{world_arrivals}
use Rattle.arrival_file.specs.Sound.{IsSound}
use Rattle.irq_arrival.specs.Along.{world_with, NoneBefore}
use Rattle.irq_arrival.specs.RanWith.{RanWith}
use Rattle.irq_arrival.specs.Underway.{Underway, Stands}
use Rattle.irq_arrival.proofs.Going.{underway_begins, underway_goes, underway_takes}
use Rattle.irq_arrival.proofs.Closing.{finished, fails_cut}
use Rattle.irq_arrival.proofs.Listed.{all_may, rises_below, rises_none}

none_is : (o : Option Stop) → option_map end_of o ≡ None → o ≡ None
none_is None q = refl
none_is (Some x) q = absurd (cc)

some_settled : (e : Engine) → IsSome e.end → IsSettled e
some_settled e o none = absurd (let c : is_some e.end ≡ true = o in let d : is_some e.end ≡ false = ap (λ (x : Option Stop). is_some x) none in let b : true ≡ false = sym c ∙ d in cc)

pub none_sooner : (n m : ℕ) (left : List Arrival) → n ≤ m → NoneBefore m left → NoneBefore n left
none_sooner n m [] l b = tt
none_sooner n m (a ∷ rest) l b = omega arith

pub mounted_goes : (image : List ℕ) (script : Script) (e : Engine) → IsMounted image script e → e.end ≡ None
mounted_goes image script e m = none_is e.end (sym (ap (λ (b : Board). b.end) (m.begins []).board))

module _ {B : Type 0} (account : B → Account) where
  pub stands_begins : (xs : List FileArrival) (budget : ℕ) (image : List ℕ) (script : Script) (first : OverSink B) → IsSound xs → IsMounted image script first.board.engine → first.board.instructions ≡ 0
      → Stands account (world_arrivals xs) budget first first (world_arrivals xs) 0
  stands_begins xs budget image script first s m z = record {
    underway = underway_begins account (world_arrivals xs) first (rises_below 0 1 (world_arrivals xs) (omega arith) s.order);
    whole = m.whole;
    counted = z;
    going = mounted_goes image script first.board.engine m;
    settled = inl (refl, rises_none 1 (world_arrivals xs) s.order);
    rises = rises_below 0 1 (world_arrivals xs) (omega arith) s.order;
    may = all_may xs s.arrive;
    within = omega arith;
  }

  module _ (arrivals : List Arrival) (budget : ℕ) (first b : OverSink B) (left : List Arrival) (n : ℕ) (s : Stands account arrivals budget first b left n) where
    -- a part that nothing is left to go on behind
    pub stands_stops : (to : ℕ) (c : OverSink B) (answer : End) → n ≤ to → to ≤ budget → NoneBefore to left → first.faults ≤ b.faults → Parted account (to - n) b c (Some answer)
        → RanWith account arrivals budget first c answer
    stands_stops to c answer l budgeted none later (inl x) = λ image script places m follows.
        let h = x.executed in
        let there : OverSink B = record c { taken = x.mid; faults = x.fault } in
        let within : n + x.count ≤ to = (let w = h.within in omega (arith, w, l)) in
        let on = underway_goes account arrivals first left n x.count b there s.underway h.advances (some_settled c.board.engine x.ended) (none_sooner (n + x.count) to left within none) in
        let count : n + x.count ≡ c.board.instructions = (let k = h.counted in let d = s.counted in omega (arith, k, d)) in
        let less : first.faults ≤ x.fault = (let k = x.later in omega (arith, k, later)) in
        finished account arrivals left first there (subst (Underway account arrivals first there left) count on) budget image script m places follows (inl x.ended) c.taken c.faults (omega (arith, within, count, budgeted)) (inr x.ended)
        answer less x.finishes
    stands_stops to c answer l budgeted none later (inr x) = λ image script places m follows.
        let counted = s.counted in
        let whole : to ≡ b.board.instructions + (to - n) = omega (arith, l, counted) in
        subst (Ran account image (world_with image script.end (world_entries script.entries) arrivals) budget (record (around first) { places = places }) c) (sym x.1) (
          fails_cut account arrivals left first b (subst (Underway account arrivals first b left) (sym s.counted) s.underway) budget image script m places follows (to - n) c x.0 (omega (arith, whole, budgeted))
              (subst (λ k. NoneBefore k left) whole none) s.may,
          rose-before first.faults b.faults c.faults later x.2,
        )

    -- a part that goes on
    pub stands_goes : (to : ℕ) (c : OverSink B) → n ≤ to → NoneBefore to left → IsSettled c.board.engine → Parted account (to - n) b c None
        → Underway account arrivals first c left to × (c.board.instructions ≡ to) × (c.board.engine.end ≡ None)
    stands_goes to c l none settled x =
        let whole : n + (to - n) ≡ to = omega (arith, l) in (
          subst (Underway account arrivals first c left) whole (underway_goes account arrivals first left n (to - n) b c s.underway x.0.advances settled (subst (λ k. NoneBefore k left) (sym whole) none)),
          (let k = x.0.counted in let d = s.counted in omega (arith, k, d, l)),
          x.1,
        )

  -- an act behind a part
  pub stands_takes : (arrivals : List Arrival) (budget : ℕ) (first b c d : OverSink B) (a : Arrival) (left : List Arrival) (n : ℕ) → Stands account arrivals budget first b (a ∷ left) n → Parted account (a.count - n) b c None
      → IsSettled c.board.engine → a.count ≤ budget → Arrives a.act (state_of c.board.engine) (state_of d.board.engine) → d.board.engine.end ≡ c.board.engine.end → PortsMeet account [] c.board.plugs d.board.plugs → d.taken ≡ c.taken
      → IsWhole d.board.engine d.board.instructions → IsSettled d.board.engine → d.board.instructions ≡ c.board.instructions → Stands account arrivals budget first d left a.count
  stands_takes arrivals budget first b c d a left n s x settled within acted ends ports sink whole still same =
      let l : n ≤ a.count = s.rises.0 in
      let none : a.count ≤ a.count = omega arith in
      let on = stands_goes arrivals budget first b (a ∷ left) n s a.count c l none settled x in
      let counted : d.board.instructions ≡ a.count = same ∙ on.1 in
      record {
        underway = underway_takes account arrivals first a left a.count c d on.0 refl s.may.0 on.2 acted ports sink still;
        whole = subst (IsWhole d.board.engine) counted whole;
        counted = counted;
        going = ends ∙ on.2;
        settled = inr still;
        rises = s.rises.1;
        may = s.may.1;
        within = within;
      }

  -- the closing line where the budget ends the run
  pub stands_finishes : (arrivals : List Arrival) (budget : ℕ) (first b c : OverSink B) (u : Option (List ℕ)) (fs : ℕ) (left : List Arrival) (n : ℕ) (put : Result (Unit {0}) PutFailed)
      → Stands account arrivals budget first b left n → Parted account (budget - n) b c None → IsSettled c.board.engine → NoneBefore (budget + 1) left
      → first.faults ≤ c.faults → Puts c.taken u c.faults fs (closing_line c.board.engine.clock None) put → RanWith account arrivals budget first (record c { taken = u; faults = fs }) (answer_of put None)
  stands_finishes arrivals budget first b c u fs left n put s x settled none later puts = λ image script places m follows.
      let on = stands_goes arrivals budget first b left n s budget c s.within (none_sooner budget (budget + 1) left (omega arith) none) settled x in
      let all = on.1 in
      finished account arrivals left first c (subst (Underway account arrivals first c left) (sym on.1) on.0) budget image script m places follows (inr (subst (λ k. NoneBefore (k + 1) left) (sym on.1) none)) u fs
      (omega (arith, all)) (inl on.1) (answer_of put None) later
      (put, subst (λ o. Puts c.taken u c.faults fs (closing_line c.board.engine.clock (option_map end_of o)) put) (sym on.2) puts, ap (answer_of put) (sym on.2))
