-- A run of a mounted board, from its first instruction to its closing line.
use Rattle.std.proofs.Common.{◌≡◌, ℕ, zero, suc, ◌+◌, ◌-◌, ◌<◌, ◌≤◌, ◌⊎◌, inl, inr, Bool, true, false, List, [], ◌∷◌, ◌++◌, Option, Some, None, IsSome, is_some, refl, sym, ap, ◌∙◌, subst, arith, append_assoc}
use Rattle.std.specs.Prelude.{Result, Ok, Err}
use Rattle.std.specs.Option.{option_map}
use Rattle.std.proofs.lemmas.List.{append-nil}
use Rattle.board_world.specs.Observations.{End as RunEnd}
use Rattle.board_world.specs.Transcript.{line, lines, closing_line}
use Rattle.board_world.specs.Board.{Board, over, transcript_of}
use Rattle.board_world.specs.Kinds.{Kind}
use Rattle.board_world.specs.Activities.{World}
use Rattle.board_world.specs.World.{idled, idle_while, idle_bound}
use Rattle.board_world.specs.Runs.{run}
use Rattle.board_world.proofs.Laws.{busy_stays, over_stays, run_over, run_sum}
use Rattle.bank_model.specs.Fibers.{Fiber, Shared}
use Rattle.bank_model.specs.BoardMachine.{fibers, bank_start}
use Rattle.tool_io.specs.Putting.{Took, TookPart, Puts}
use Rattle.tool_io.specs.declared.sink.PutFailed.{PutFailed}
use Rattle.tool_io.proofs.Laws.{took-then, rose-before}
use Rattle.board_ports.specs.Account.{Account}
use Rattle.board_ports.specs.Plugged.{Plugged}
use Rattle.board_ports.specs.History.{FollowsMoves}
use Rattle.board_ports.proofs.Laws.{places_after}
use Rattle.event_script.specs.World.{world_entries}
use Rattle.event_script.specs.declared.script.Script.{Script}
use Rattle.board_outside.specs.Moves.{Move, Seen, seen_of, HasMet}
use Rattle.board_outside.specs.Ports.{port_moves, DevicesAfter}
use Rattle.board_outside.proofs.Laws.{idles_meeting, goes_on_meeting}
use Rattle.board_outside.specs.Cuts.{TookInto}
use Rattle.board_run.specs.declared.end.Stop.{Stop}
use Rattle.board_run.specs.declared.end.Stop.TheVariants.{Quiet as StopQuiet, Script as StopScript, Panic as StopPanic, Fault as StopFault}
use Rattle.board_run.specs.declared.end.End.{End}
use Rattle.board_run.specs.declared.engine.Engine.{Engine}
use Rattle.board_run.specs.Represents.{Represents, state_of, end_of}
use Rattle.board_run.specs.Run.{Reaches}
use Rattle.board_run.specs.Outside.{Outside, OverSink, around, PortsMeet}
use Rattle.board_run.specs.Advancing.{of_run, Advances, Fails, IsSettled}
use Rattle.board_run.specs.Ran.{world_after, IsMounted, IsExecuted, HasRun, IsCut, told, answer_of, Finishes, Ran}
use Rattle.board_run.proofs.Executing.{plain_lines}
use Rattle.board_run.proofs.FiberGoesOn.{first_ready}
use Rattle.board_run.proofs.Stepping.{some_turning}

-- Of at most a budget of instructions some number is executed, and what comes behind them changes nothing.
exists_executed : (image : List ℕ) (w : World Fiber Shared) (budget : ℕ) → (executed : ℕ) × IsExecuted (λ n. run (fibers image) n w) budget executed × (run (fibers image) budget w ≡ run (fibers image) executed w)
exists_executed image w zero = (zero, record { within = omega arith; not_before = λ n l. absurd (omega (arith, l)); done = inl refl }, refl)
exists_executed image w (suc budget) = (let before = exists_executed image w budget in by_done before.0 before.1 before.2 before.1.done)
  where
    K : Kind Fiber Shared
    K = fibers image

    by_test : (b : Bool) → over (run K budget w).board ≡ b → ((n : ℕ) → n < budget → over (run K n w).board ≡ false)
        → (executed : ℕ) × IsExecuted (λ n. run K n w) (suc budget) executed × (run K (suc budget) w ≡ run K executed w)
    by_test true o early = (budget, record { within = omega arith; not_before = early; done = inr o }, run_over K 1 (run K budget w) o)
    by_test false o early = (
      suc budget,
      record { within = omega arith; not_before = λ n l. elim (last n l) [ inl e ↦ early n e | inr e ↦ ap (λ k. over (run K k w).board) e ∙ o ]; done = inl refl },
      refl,
    )
      where
        last : (n : ℕ) → n < suc budget → (n < budget) ⊎ (n ≡ budget)
        last n l = by_order n budget l
          where
            by_order : (n b : ℕ) → n < suc b → (n < b) ⊎ (n ≡ b)
            by_order zero zero l = inr refl
            by_order zero (suc b) l = inl (omega arith)
            by_order (suc n) zero l = absurd (omega (arith, l))
            by_order (suc n) (suc b) l = elim (by_order n b (omega (arith, l))) [ inl e ↦ inl (omega (arith, e)) | inr e ↦ inr (ap suc e) ]

    by_done : (executed : ℕ) → IsExecuted (λ n. run K n w) budget executed → run K budget w ≡ run K executed w → (executed ≡ budget) ⊎ (over (run K executed w).board ≡ true)
        → (executed : ℕ) × IsExecuted (λ n. run K n w) (suc budget) executed × (run K (suc budget) w ≡ run K executed w)
    by_done executed x same (inr o) =
        let ended : over (run K budget w).board ≡ true = ap (λ (v : World Fiber Shared). over v.board) same ∙ o in
        (executed, record { within = (let l = x.within in omega (arith, l)); not_before = x.not_before; done = inr o }, run_over K 1 (run K budget w) ended ∙ same)
    by_done executed x same (inl e) = by_test (over (run K budget w).board) refl (λ n l. x.not_before n (omega (arith, l, e)))

-- Where somebody runs, or the run is over, the world that is shown makes no idle move.
pub settled_stays : (image : List ℕ) (e : Engine) (w : World Fiber Shared) → IsSettled e → Represents image (state_of e) w → idled (fibers image) w ≡ w
settled_stays image e w s h = by_end e.end refl
  where
    K : Kind Fiber Shared
    K = fibers image

    by_end : (o : Option Stop) → e.end ≡ o → idled K w ≡ w
    by_end None q =
        let t = some_turning e.runtime.running (s q) in
        let first = first_ready image (state_of e) w h t.0 t.1 in
        ap (λ l. idle_while K (idle_bound w.board) l w) first ∙ busy_stays K (idle_bound w.board) _ _ w
    by_end (Some stop) q = over_stays K (idle_bound w.board) w.ready w (ap (λ (p : Board). is_some p.end) h.board ∙ ap (λ (o : Option Stop). is_some (option_map end_of o)) q)

module _ {B : Type 0} (account : B → Account) (image : List ℕ) (script : Script) (budget : ℕ) (first : OverSink B) (m : IsMounted image script first.board.engine)
    (places : List (Option B)) (f : FollowsMoves account [] places first.board.plugs) where
  abbrev begin : List ℕ → World Fiber Shared
  begin free = bank_start image script.end (world_entries script.entries) free

  -- the sink and the devices, as the run begins
  abbrev given : Outside B
  given = record { taken = first.taken; faults = first.faults; places = places }

  begins : Reaches None image begin 0 [] [] (state_of first.board.engine)
  begins = record { at = begin; shows = m.begins; free = λ _. λ rest. refl; met = λ rest. record { seen = refl; unplugged = refl }; settles = λ rest. refl }

  begin_stays : (free : List ℕ) → idled (fibers image) (begin free) ≡ begin free
  begin_stays free = busy_stays (fibers image) (idle_bound (begin free).board) _ [] (begin free)

  none_added : (n : ℕ) → n + 0 ≡ n
  none_added n = omega arith

  ports_after : (moves : List Move) (p : Plugged B) → PortsMeet account moves first.board.plugs p → DevicesAfter account moves places p.places
  ports_after moves p meet = places_after account (port_moves moves) places p (meet [] places f)

  -- the worlds that are shown, and that the run wasn't over before
  module _ (b : OverSink B) (a : Advances account of_run b.board.instructions first b) (settled : IsSettled b.board.engine) where
    abbrev e : Engine
    e = b.board.engine

    abbrev n : ℕ
    n = b.board.instructions

    reached : (used : List ℕ) × Reaches None image begin (n + 0) used a.moves (state_of e) × ((rest : List ℕ) (j : ℕ) → 0 ≤ j → j < n + 0 → over (run (fibers image) j (idled (fibers image) (begin (used ++ rest)))).board ≡ false)
    reached = a.comes image None refl begin 0 [] [] begins

    abbrev after : List ℕ → World Fiber Shared
    after rest = world_after image script (reached.0 ++ rest) n

    at_is : (rest : List ℕ) → reached.1.at rest ≡ after rest
    at_is rest =
        sym (settled_stays image e (reached.1.at rest) settled (reached.1.shows rest)) ∙ reached.1.settles rest ∙ ap (run (fibers image) (n + 0)) (begin_stays (reached.0 ++ rest))
        ∙ ap (λ k. run (fibers image) k (begin (reached.0 ++ rest))) (none_added n)

    shown : (rest : List ℕ) → Represents image (state_of e) (after rest)
    shown rest = subst (Represents image (state_of e)) (at_is rest) (reached.1.shows rest)

    has_met : (rest : List ℕ) → HasMet a.moves (after rest).board
    has_met rest = subst (λ (w : World Fiber Shared). HasMet a.moves w.board) (at_is rest) (reached.1.met rest)

    end_is : (rest : List ℕ) → (after rest).board.end ≡ option_map end_of e.end
    end_is rest = ap (λ (b : Board). b.end) (shown rest).board

    clock_is : (rest : List ℕ) → (after rest).board.clock ≡ e.clock
    clock_is rest = ap (λ (b : Board). b.clock) (shown rest).board

    is_executed : n ≤ budget → (n ≡ budget) ⊎ IsSome e.end → (rest : List ℕ) → IsExecuted (world_after image script (reached.0 ++ rest)) budget n
    is_executed within done rest = record {
      within = within;
      not_before = λ j l. ap (λ w. over (run (fibers image) j w).board) (sym (begin_stays (reached.0 ++ rest))) ∙ reached.2 rest j (omega arith) (omega (arith, l));
      done = elim done [ inl q ↦ inl q | inr q ↦ inr (ap (λ (o : Option RunEnd). is_some o) (end_is rest) ∙ is_over e.end q) ];
    }
      where
        is_over : (o : Option Stop) → IsSome o → is_some (option_map end_of o) ≡ true
        is_over (Some x) q = refl
        is_over None q = absurd (let c : false ≡ true = q in cc)

    -- the lines that were taken stand without a lead
    lines_taken : Took first.taken b.taken (lines (seen_of a.moves))
    lines_taken = subst (Took first.taken b.taken) (plain_lines (seen_of a.moves)) a.written

    text_is : (rest : List ℕ) → lines (seen_of a.moves) ++ closing_line e.clock (option_map end_of e.end) ≡ transcript_of (after rest).board
    text_is rest =
        ap (λ os. lines os ++ closing_line e.clock (option_map end_of e.end)) (sym (has_met rest).seen)
        ∙ ap (λ c. lines (after rest).board.seen ++ closing_line c (option_map end_of e.end)) (sym (clock_is rest))
        ∙ ap (λ o. lines (after rest).board.seen ++ closing_line (after rest).board.clock o) (sym (end_is rest))

    module _ (u : Option (List ℕ)) (fs : ℕ) (within : n ≤ budget) (done : (n ≡ budget) ⊎ IsSome e.end) where
      -- the board and the sink behind the closing line
      abbrev left : OverSink B
      left = record b { taken = u; faults = fs }

      -- the closing line was taken
      ran_whole : Took b.taken u (closing_line e.clock (option_map end_of e.end)) → HasRun account image (world_after image script) budget given left (option_map end_of e.end)
      ran_whole took = record {
        used = reached.0;
        moves = a.moves;
        is_executed = is_executed within done;
        shows = shown;
        met = has_met;
        ended = end_is;
        written = λ rest. subst (λ l. Took first.taken u l) (text_is rest) (took-then _ _ lines_taken took);
        devices = ports_after a.moves b.board.plugs a.ports;
      }

      -- the closing line was cut
      ran_cut : TookPart b.taken u (closing_line e.clock (option_map end_of e.end)) → IsCut account (world_after image script) budget given (around left)
      ran_cut part = record {
        free = reached.0 ++ [];
        executed = n;
        moves = a.moves;
        is_executed = is_executed within done [];
        met = has_met [];
        stopped = record {
          done = a.moves;
          left = [];
          split = append-nil a.moves;
          text = closing_line (after []).board.clock (after []).board.end;
          due = refl;
          written = record {
            told = λ had q.
                let closing : closing_line e.clock (option_map end_of e.end) ≡ closing_line (after []).board.clock (after []).board.end =
                ap (λ c. closing_line c (option_map end_of e.end)) (sym (clock_is [])) ∙ ap (closing_line (after []).board.clock) (sym (end_is [])) in
                let c : TookPart b.taken u (closing_line (after []).board.clock (after []).board.end) = subst (λ l. TookPart b.taken u l) closing part in
                let r = c.told (had ++ lines (seen_of a.moves)) (lines_taken.told had q) in
                (r.0, r.1, r.2 ∙ ap Some (append_assoc had (lines (seen_of a.moves)) r.0));
          };
          devices = ports_after a.moves b.board.plugs a.ports;
        };
      }

      -- how the call ends behind the closing line
      pub finished : (answer : End) → first.faults ≤ b.faults → Finishes b left answer → Ran account image (world_after image script) budget given left answer
      finished answer later fin = subst (Ran account image (world_after image script) budget given left) (sym fin.2) (by_put fin.0 fin.1)
        where
          whole : (o : Option Stop) → e.end ≡ o → Took b.taken u (closing_line e.clock (option_map end_of e.end)) → Ran account image (world_after image script) budget given left (told o)
          whole None q took = subst (λ o. HasRun account image (world_after image script) budget given left (option_map end_of o)) q (ran_whole took)
          whole (Some StopQuiet) q took = subst (λ o. HasRun account image (world_after image script) budget given left (option_map end_of o)) q (ran_whole took)
          whole (Some StopScript) q took = subst (λ o. HasRun account image (world_after image script) budget given left (option_map end_of o)) q (ran_whole took)
          whole (Some (StopPanic code)) q took = subst (λ o. HasRun account image (world_after image script) budget given left (option_map end_of o)) q (ran_whole took)
          whole (Some (StopFault fault address)) q took = subst (λ o. HasRun account image (world_after image script) budget given left (option_map end_of o)) q (ran_whole took)

          by_put : (put : Result (Unit {0}) PutFailed) → Puts b.taken u b.faults fs (closing_line e.clock (option_map end_of e.end)) put → Ran account image (world_after image script) budget given left (answer_of put e.end)
          by_put (Ok x) puts = whole e.end refl puts.took
          by_put (Err x) puts = (ran_cut puts.part, rose-before first.faults b.faults fs later puts.failed)

  -- the line of an observation was cut: the run goes on to meet more, whatever the sink does
  pub fails_cut : (b : OverSink B) → Fails account of_run budget first b → IsCut account (world_after image script) budget given (around b)
  fails_cut b g =
      let K = fibers image in
      let x = g.comes image None refl begin 0 [] [] begins in
      let free = x.0 ++ [] in
      let w = x.1.at [] in
      let met = g.done ++ Seen g.last ∷ [] in
      let idle = idles_meeting K met w (x.1.met []) in
      let here : idled K w ≡ run K g.count (begin free) = x.1.settles [] ∙ ap (run K (g.count + 0)) (begin_stays free) ∙ ap (λ k. run K k (begin free)) (none_added g.count) in
      let further = goes_on_meeting K (met ++ idle.0) (budget - g.count) (run K g.count (begin free)) (subst (λ (v : World Fiber Shared). HasMet (met ++ idle.0) v.board) here idle.1) in
      let executed = exists_executed image (begin free) budget in
      let count : (budget - g.count) + g.count ≡ budget = (let l = g.within in omega (arith, l)) in
      let last : run K (budget - g.count) (run K g.count (begin free)) ≡ run K executed.0 (begin free) = sym (run_sum K g.count (budget - g.count) (begin free)) ∙ ap (λ k. run K k (begin free)) count ∙ executed.2 in
      record {
        free = free;
        executed = executed.0;
        moves = (met ++ idle.0) ++ further.0;
        is_executed = executed.1;
        met = subst (λ (v : World Fiber Shared). HasMet ((met ++ idle.0) ++ further.0) v.board) last further.1;
        stopped = record {
          done = g.done;
          left = Seen g.last ∷ (idle.0 ++ further.0);
          split = sym (ap (λ l. l ++ further.0) (append_assoc g.done (Seen g.last ∷ []) idle.0) ∙ append_assoc g.done (Seen g.last ∷ idle.0) further.0);
          text = line g.last;
          due = refl;
          written = subst (λ l. TookInto first.taken b.taken l (line g.last)) (plain_lines (seen_of g.done)) g.written;
          devices = ports_after g.done b.board.plugs g.ports;
        };
      }
