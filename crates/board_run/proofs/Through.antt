-- A moment that comes with kept events, where nobody was left to go on before.
use Rattle.std.proofs.Common.{◌≡◌, ℕ, zero, suc, ◌+◌, ◌<◌, ◌≤◌, ◌⊎◌, inl, inr, Bool, true, false, if◌then◌else◌, nat_le, nat_lt, List, [], ◌∷◌, ◌++◌, drop, Option, Some, None, IsSome, is_some, refl, sym, ap, ◌∙◌, subst, arith, append_assoc}
use Rattle.std.proofs.lemmas.Bool.Decides.{nat_tests}
use Rattle.std.proofs.lemmas.List.{append-nil}
use Rattle.std.specs.Prelude.{IfSome}
use Rattle.std.specs.Option.{option_map}
use Rattle.board_world.specs.declared.events.Event.{Event}
use Rattle.board_world.specs.declared.clock.Idle.TheVariants.{Jump}
use Rattle.board_world.specs.Observations.{ByteList}
use Rattle.board_world.specs.Limits.{end_limit}
use Rattle.board_world.specs.Rules.{clock_move}
use Rattle.board_world.specs.Board.{Board as WorldBoard, Entry, Raise, next_entry, over}
use Rattle.board_world.specs.Waiting.{least}
use Rattle.board_world.specs.Activities.{World}
use Rattle.board_world.specs.World.{jump, moved, idle_bound, clock_moves}
use Rattle.board_world.specs.Before.{IsRisingFrom, is_by_clock, idled_before, run_before, moves_before, is_jump_before}
use Rattle.board_world.proofs.Laws.{first_before, jump_soonest, rises_in_order}
use Rattle.class_world.specs.Hearing.{inserted, with_heard, raised_at}
use Rattle.class_world.specs.Keeping.{with_kept, moment_run}
use Rattle.class_world.proofs.Laws.{seen_idle_before, rising_kept, standing_jump, jump_rising}
use Rattle.bank_model.specs.Fibers.{Fiber, Shared}
use Rattle.bank_model.specs.BoardMachine.{fibers}
use Rattle.fiber_queues.proofs.Laws.{least-keyed}
use Rattle.event_script.specs.Sound.{IsSound}
use Rattle.event_script.specs.World.{world_entries}
use Rattle.event_script.specs.declared.script.Entry.{Entry as EventEntry}
use Rattle.board_outside.specs.Moves.{Move, Seen, HasMet, Meets, seen_of}
use Rattle.board_outside.proofs.Laws.{seen_of-append, met_then}
use Rattle.tool_io.specs.Putting.{Took}
use Rattle.board_outside.specs.Cuts.{TookInto}
use Rattle.board_world.specs.Transcript.{line}
use Rattle.board_run.specs.declared.engine.Engine.{Engine}
use Rattle.board_run.specs.declared.board.Board.{Board}
use Rattle.board_run.specs.Shown.{of_key}
use Rattle.board_run.specs.Represents.{BoardState, Represents, IsEmpty, entries_left, state_of, end_of}
use Rattle.board_run.specs.Run.{Reaches, Comes}
use Rattle.board_run.specs.Outside.{OverSink}
use Rattle.board_run.specs.Advancing.{IsWhole, led_lines, Fails, first_sent, IsBusy, HasProceeded, IsStayed, of_moment}
use Rattle.board_run.specs.Going.{next_moment, IsDueAt, IsResting, CameTo, Shows, LeadsTo, Sees, HasGone, IsIdle, IsPassed, IsCutShort}
use Rattle.board_run.proofs.Executing.{ports_then}
use Rattle.board_run.proofs.Further.{Makes, MakesTo, through_then, through_none}
use Rattle.board_run.proofs.Raises.{nobody_ready}
use Rattle.board_run.proofs.AtMoment.{stayed_rests, none_up_to, Known, known_late, known_through}
use Rattle.board_ports.specs.Account.{Account}

module _ (image : List ℕ) (t : ℕ) (events : List Event) (old there : Engine) (first : List Move) (resting : IsResting old) (due : IsDueAt t events old)
    (arrives : (w : World Fiber Shared) → Represents image (state_of old) w → Represents image (state_of there) (jump t (with_kept t events w)) × Meets first w.board (jump t (with_kept t events w)).board)
    (at : List ℕ → World Fiber Shared) (met : List Move) (s : Shows image (state_of old) at met) where
  abbrev start : List ℕ → World Fiber Shared
  start rest = with_kept t events (at rest)

  comes_first : (rest : List ℕ) → idled_before (fibers image) (t + 1) (jump t (with_kept t events (at rest))) ≡ idled_before (fibers image) (t + 1) (with_kept t events (at rest))
  comes_first rest =
      let w = with_kept t events (at rest) in
      let h = s.shows rest in
      let nobody = nobody_ready image (state_of old) (at rest) h resting.empty.running resting.empty.raisers resting.empty.spent resting.empty.ready in
      let on : over w.board ≡ false = ap (λ (p : WorldBoard). is_some p.end) h.board ∙ ap (λ o. is_some (option_map end_of o)) resting.goes in
      let none : w.board.queue ≡ [] = h.hears.queue ∙ resting.quiet in
      let says : clock_move (least w.sleepers) (next_entry w.board.script) w.board.until ≡ Jump t =
      ap (λ x. clock_move x (next_entry w.board.script) w.board.until) (ap least h.sleepers ∙ least-keyed (of_key old.runtime.pool) old.runtime.lists.sleepers)
      ∙ ap (λ (p : WorldBoard). clock_move (least old.runtime.lists.sleepers) (next_entry (with_heard (raised_at t events) p.script)) p.until) h.board ∙ due in
      let soon : nat_lt t (t + 1) ≡ true = grind (arith, nat_tests) in
      let before : moves_before (t + 1) w.board.queue w ≡ true = ap (λ l. moves_before (t + 1) l w) none ∙ ap (is_jump_before (t + 1)) says ∙ soon in
      let is : moved (fibers image) w.board.queue w ≡ jump t w = ap (λ l. moved (fibers image) l w) none ∙ ap (λ i. clock_moves i w) says in
      ap (idled_before (fibers image) (t + 1)) (sym is) ∙ first_before (fibers image) (t + 1) (t + 1) (omega arith) w nobody on before

  enters : Reaches (Some (t + 1)) image start 0 [] (met ++ first) (state_of there)
  enters = record {
    at = λ rest. jump t (start rest);
    shows = λ rest. (arrives (at rest) (s.shows rest)).0;
    free = λ _. λ rest. s.free (ap (λ (o : Option _). option_map end_of o) resting.goes) rest;
    met = λ rest. met_then met first (at rest).board (jump t (start rest)).board (s.met rest) (arrives (at rest) (s.shows rest)).1;
    settles = λ rest. comes_first rest;
  }

  -- behind the instructions of the moment
  pub leads : (n : ℕ) (more : List Move) (new : Engine) → MakesTo (Some (t + 1)) image n more (state_of there) (state_of new) → IsStayed new → IfSome (next_moment new) (λ m. t < m)
      → LeadsTo image t n events [] (met ++ (first ++ more)) at (state_of new)
  leads n more new makes stayed late =
      let K = fibers image in
      let x = makes start 0 [] (met ++ first) enters in
      let r = x.1 in
      let count : n + 0 ≡ n = omega arith in
      record {
        used = x.0;
        worlds = r.at;
        shown = record { shows = r.shows; free = r.free; met = λ rest. subst (λ l. HasMet l (r.at rest).board) (append_assoc met first more) (r.met rest) };
        is = λ rest.
            sym (stayed_rests image (t + 1) new (r.at rest) stayed (r.shows rest) (λ q. none_up_to image t new (r.at rest) (r.shows rest) late q))
            ∙ (r.settles rest ∙ ap (λ k. run_before K (t + 1) k (idled_before K (t + 1) (start (x.0 ++ rest)))) count);
        busy = λ rest j l. x.2 rest j (omega arith) (omega (arith, l));
      }

  -- and what they saw, wherever the last of them was cut
  pub sees : (n : ℕ) (more : List Move) (new : BoardState) → MakesTo (Some (t + 1)) image n more (state_of there) new → seen_of first ≡ [] → Sees image t n events (seen_of more) at
  sees n more new makes silent =
      let K = fibers image in
      let x = makes start 0 [] (met ++ first) enters in
      let r = x.1 in
      let count : n + 0 ≡ n = omega arith in
      record {
        used = x.0;
        saw = λ rest.
            let w = r.at rest in
            let is : idled_before K (t + 1) w ≡ moment_run K t n events (at (x.0 ++ rest)) = r.settles rest ∙ ap (λ k. run_before K (t + 1) k (idled_before K (t + 1) (start (x.0 ++ rest)))) count in
            ap (λ (v : World Fiber Shared). v.board.seen) (sym is)
            ∙ seen_idle_before K (t + 1) (idle_bound w.board) w.ready w
            ∙ (r.met rest).seen
            ∙ seen_of-append (met ++ first) more
            ∙ ap (λ l. l ++ seen_of more) (seen_of-append met first ∙ ap (λ l. seen_of met ++ l) silent ∙ append-nil (seen_of met) ∙ sym (s.met (x.0 ++ rest)).seen);
        busy = λ rest j l. x.2 rest j (omega arith) (omega (arith, l));
      }

-- where something comes at a moment at the earliest, the entries that are left rise from it
heard_first : (t : ℕ) (events : List Event) (own : List Entry) → IfSome (next_entry (with_heard (raised_at t events) own)) (λ m. t ≤ m) → IfSome (next_entry own) (λ m. t ≤ m)
heard_first t [] own h = h
heard_first t (e ∷ es) [] h = tt
heard_first t (e ∷ es) (x ∷ xs) h = by_test (nat_le x.at t) refl (heard_first t es (inserted k (x ∷ xs)) h)
  where
    k : Entry
    k = record { at = t; act = Raise e }

    by_test : (b : Bool) → nat_le x.at t ≡ b → IfSome (next_entry (if b then x ∷ inserted k xs else k ∷ (x ∷ xs))) (λ m. t ≤ m) → t ≤ x.at
    by_test true q g = g
    by_test false q g = (let above : t < x.at = grind (arith, nat_tests) in omega (arith, above))

due_soonest : (t : ℕ) (events : List Event) (e : Engine) → IsDueAt t events e → IfSome (next_entry (entries_left e)) (λ m. t ≤ m)
due_soonest t events e due = heard_first t events (entries_left e) (jump_soonest (least e.runtime.lists.sleepers) (next_entry (with_heard (raised_at t events) (entries_left e))) e.script.end t due).1

pub due_within : (t : ℕ) (events : List Event) (e : Engine) → IsDueAt t events e → IsSound e.script → t ≤ end_limit
due_within t events e due sound =
    let low : t ≤ e.script.end = (jump_soonest (least e.runtime.lists.sleepers) (next_entry (with_heard (raised_at t events) (entries_left e))) e.script.end t due).2 in
    let end : e.script.end ≤ end_limit = sound.end in
    omega (arith, low, end)

rising_dropped : (c n : ℕ) (es : List EventEntry) → IsRisingFrom c (world_entries es) → (d : ℕ) × IsRisingFrom d (world_entries (drop n es))
rising_dropped c zero es h = (c, h)
rising_dropped c (suc n) [] h = (c, tt)
rising_dropped c (suc n) (e ∷ es) h = rising_dropped e.at n es h.1

rising_on : (c t : ℕ) (es : List Entry) → IsRisingFrom c es → IfSome (next_entry es) (λ m. t ≤ m) → IsRisingFrom t es
rising_on c t [] h k = tt
rising_on c t (e ∷ es) h k = (k, h.1)

pub first_any : (o : Option ℕ) → IfSome o (λ m. 0 ≤ m)
first_any None = tt
first_any (Some m) = omega arith

pub rising_left : (t : ℕ) (e : Engine) → IsSound e.script → IfSome (next_entry (entries_left e)) (λ m. t ≤ m) → IsRisingFrom t (entries_left e)
rising_left t e sound soonest =
    let all = rises_in_order 0 (world_entries e.script.entries) (first_any (next_entry (world_entries e.script.entries))) sound.order in
    let some = rising_dropped 0 e.next e.script.entries all in
    rising_on some.0 t (entries_left e) some.1 soonest

pub due_rising : (t : ℕ) (events : List Event) (e : Engine) → IsDueAt t events e → IsSound e.script → IsRisingFrom t (entries_left e)
due_rising t events e due sound = rising_left t e sound (due_soonest t events e due)

-- where as many instructions were made as might be, or nobody is left to go on now, the budget is used or the board is idle
pub passed : {B : Type 0} (t n most : ℕ) (b : Board B) → n ≤ most → (n ≡ most) ⊎ (b.engine.runtime.running ≡ None ⊎ IsSome b.engine.end) → IsStayed b.engine → is_by_clock (option_map end_of b.engine.end) ≡ false
    → IfSome (next_moment b.engine) (λ m. t < m) → b.kept ≡ [] → IsPassed t n most b
passed t n most b within done stayed sound late none = record { within = within; sound = sound; rests = λ e. by_stay e (stayed e) }
  where
    by_done : b.engine.end ≡ None → IsSome b.engine.runtime.running → (n ≡ most) ⊎ (b.engine.runtime.running ≡ None ⊎ IsSome b.engine.end) → n ≡ most
    by_done e runs (inl q) = q
    by_done e runs (inr (inl q)) = absurd (let c : false ≡ true = subst IsSome q runs in cc)
    by_done e runs (inr (inr q)) = absurd (let c : false ≡ true = subst IsSome e q in cc)

    by_stay : b.engine.end ≡ None → IsSome b.engine.runtime.running ⊎ (IsEmpty (state_of b.engine) × (b.engine.bus.queue ≡ [])) → (IsSome b.engine.runtime.running × (n ≡ most)) ⊎ IsIdle t b
    by_stay e (inl runs) = inl (runs, by_done e runs done)
    by_stay e (inr r) = inr (record { resting = record { goes = e; empty = r.0; quiet = r.1 }; later = late; none = none })

module _ {B : Type 0} (account : B → Account) (lead : ByteList) (t : ℕ) (old : OverSink B) (there : Board B) (came : Engine) (whole : IsWhole old.board.engine old.board.instructions) (resting : IsResting old.board.engine)
    (due : IsDueAt t old.board.kept old.board.engine) (c : CameTo account t old.board.kept old.board.engine came old.board.plugs there.plugs) (stay : (image : List ℕ) → Comes image 0 [] (state_of came) (state_of there.engine))
    (none : there.kept ≡ []) (sent : there.sent ≡ old.board.sent) where
  makes_on : (image : List ℕ) (n : ℕ) (more : List Move) (new : BoardState) → Makes image n more (state_of there.engine) new → Makes image n more (state_of came) new
  makes_on image n more new q bound =
      (let count : n + 0 ≡ n = omega arith in
      subst (λ k. MakesTo bound image k more (state_of came) new) count (through_then IsBusy bound image 0 n [] more (state_of came) (state_of there.engine) new (through_none IsBusy bound image [] (state_of came) (state_of there.engine) (stay image bound)) (q bound)))

  module _ (most n : ℕ) (new : OverSink B) (q : HasProceeded account lead n most (record old { board = there }) new) (stayed : IsStayed new.board.engine) where
    known : Known t (jump t (with_kept t old.board.kept whole.shown.world)).board.script new.board.engine
    known =
        let w = whole.shown.world in
        let h = whole.shown.shows in
        let image = old.board.engine.runtime.machine.memory.flash in
        let ended : is_by_clock w.board.end ≡ false = ap is_by_clock (ap (λ (p : WorldBoard). p.end) h.board ∙ ap (λ o. option_map end_of o) resting.goes) in
        known_through image t w.board.until (jump t (with_kept t old.board.kept w)).board.script n q.proceeds.advances.moves came new.board.engine (jump t (with_kept t old.board.kept w)) (c.shows image w h).0
        (standing_jump t (with_kept t old.board.kept w) ended) (makes_on image n q.proceeds.advances.moves (state_of new.board.engine) (λ bound. q.proceeds.advances.comes image bound tt) (Some 0)) stayed

    late : IfSome (next_moment new.board.engine) (λ m. t < m)
    late =
        let w = whole.shown.world in
        let own : w.board.script ≡ entries_left old.board.engine = ap (λ (p : WorldBoard). p.script) whole.shown.shows.board in
        let rising : IsRisingFrom t w.board.script = subst (IsRisingFrom t) (sym own) (due_rising t old.board.kept old.board.engine due whole.script) in
        known_late t _ new.board.engine known (jump_rising t (with_kept t old.board.kept w) (rising_kept t old.board.kept w.board.script rising))

    pub through_gone : IsWhole new.board.engine new.board.instructions → there.engine.clock ≡ t → there.engine.script ≡ old.board.engine.script → there.instructions ≡ old.board.instructions → HasGone account lead old.board.sent t n old new []
    through_gone after clock script count =
        let all = c.moves ++ q.proceeds.advances.moves in
        let seen : seen_of all ≡ seen_of q.proceeds.advances.moves = seen_of-append c.moves q.proceeds.advances.moves ∙ ap (λ l. l ++ seen_of q.proceeds.advances.moves) c.silent in
        record {
          moves = all;
          goes = λ image at met shows. subst (λ l. LeadsTo image t n old.board.kept l (met ++ all) at (state_of new.board.engine)) (sym (q.stands.kept ∙ none))
              (leads image t old.board.kept old.board.engine came c.moves resting due (c.shows image) at met shows n q.proceeds.advances.moves new.board.engine (makes_on image n q.proceeds.advances.moves (state_of new.board.engine) (λ bound. q.proceeds.advances.comes image bound tt) (Some (t + 1))) stayed late);
          ports = ports_then account c.moves q.proceeds.advances.moves old.board.plugs there.plugs new.board.plugs c.ports q.proceeds.advances.ports;
          sent = q.proceeds.sent ∙ ap (λ ns. first_sent ns (seen_of q.proceeds.advances.moves)) sent ∙ ap (first_sent old.board.sent) (sym seen);
          written = subst (λ l. Took old.taken new.taken l) (ap (led_lines lead) (sym seen) ∙ sym (append-nil (led_lines lead (seen_of all)))) q.proceeds.advances.written;
          counted = q.counted ∙ ap (λ k. k + n) count;
          whole = after;
          clock = q.stands.clock ∙ clock;
          script = q.stands.script ∙ script;
        }

    pub through_passed : IsPassed t n most new.board
    through_passed = passed t n most new.board q.within q.done stayed known.sound late (q.stands.kept ∙ none)

  pub through_cut : (most : ℕ) (new : OverSink B) → Fails account (of_moment lead) most (record old { board = there }) new → IsCutShort account lead t most old new
  through_cut most new g =
      let seen : seen_of (c.moves ++ g.done) ≡ seen_of g.done = seen_of-append c.moves g.done ∙ ap (λ l. l ++ seen_of g.done) c.silent in
      record {
        used = g.count;
        within = g.within;
        done = c.moves ++ g.done;
        last = g.last;
        sees = λ image at met shows. subst (λ os. Sees image t g.count old.board.kept os at) (seen_of-append g.done (Seen g.last ∷ []) ∙ ap (λ os. os ++ g.last ∷ []) (sym seen))
            (sees image t old.board.kept old.board.engine came c.moves resting due (c.shows image) at met shows g.count (g.done ++ Seen g.last ∷ []) g.at (makes_on image g.count (g.done ++ Seen g.last ∷ []) g.at (λ bound. g.comes image bound tt) (Some (t + 1))) c.silent);
        ports = ports_then account c.moves g.done old.board.plugs there.plugs new.board.plugs c.ports g.ports;
        written = subst (λ l. TookInto old.taken new.taken l (lead ++ line g.last)) (ap (led_lines lead) (sym seen)) g.written;
      }
