-- What a player is behind a moment.
use Rattle.std.proofs.Common.{◌≡◌, ℕ, zero, suc, ◌+◌, ◌≤◌, ◌<◌, ◌⊎◌, inl, inr, true, false, not, ◌&&◌, if◌then◌else◌, ◌==◌, List, [], ◌∷◌, ◌++◌, length, take, Option, Some, None, IsSome, is_some, refl, ap, sym, ◌∙◌, subst, arith, length-append, append-nil, append_assoc}
use Rattle.std.proofs.lemmas.Bool.Decides.{nat_tests}
use Rattle.std.specs.Prelude.{IfSome, codes}
use Rattle.std.specs.Option.{option_map}
use Rattle.std.specs.List.{AllByRecursion}
use Rattle.board_ports.specs.Account.{Account}
use Rattle.board_ports.specs.declared.sure.SureDevice.{SureDevice}
use Rattle.board_world.specs.Observations.{ByteList, Observation}
use Rattle.board_world.specs.Transcript.{line, closing_line}
use Rattle.board_world.specs.Rules.{earlier}
use Rattle.board_world.specs.Board.{Board as WorldBoard, Entry, next_entry, over}
use Rattle.board_world.specs.Waiting.{least}
use Rattle.board_world.specs.Activities.{World}
use Rattle.board_world.specs.World.{idle_bound}
use Rattle.board_world.specs.Simulation.{IsSettled}
use Rattle.board_world.specs.Before.{is_by_clock, idled_before}
use Rattle.class_world.specs.Hearing.{moment_of, before, sent_at}
use Rattle.class_world.specs.Lines.{numbered, seen_at, stopped_at, lines_at}
use Rattle.class_world.specs.Keeping.{with_kept, moment_run}
use Rattle.class_world.proofs.Laws.{early_run, begins_early}
use Rattle.class_world.specs.Classes.{world_before}
use Rattle.class_steps.proofs.Laws.{lines_alike, sound_run}
use Rattle.bank_model.specs.Fibers.{Fiber, Shared}
use Rattle.bank_model.specs.BoardMachine.{fibers, bank_start}
use Rattle.tool_io.specs.Putting.{Took, TookPart}
use Rattle.tool_io.proofs.Laws.{part-more}
use Rattle.board_outside.specs.Moves.{seen_of}
use Rattle.board_outside.specs.Cuts.{TookInto}
use Rattle.board_outside.proofs.Laws.{seen_of-append}
use Rattle.board_run.specs.declared.board.Board.{Board}
use Rattle.board_run.specs.declared.end.Stop.{Stop}
use Rattle.board_run.specs.Advancing.{led_lines, IsBusy}
use Rattle.board_run.specs.Going.{next_moment, LeadsTo, Sees, HasGone, IsIdle, IsCutShort, IsCutLast, Went}
use Rattle.board_run.specs.Represents.{state_of, end_of}
use Rattle.board_run.proofs.Laws.{nobody_ready, first_ready, some_turning, next_shown}
use Rattle.board_run.specs.declared.end.Stop.TheVariants.{Panic as StopPanic, Fault as StopFault}
use Rattle.board_run.specs.declared.end.End.TheVariants.{Quiet, Script, Panic, Budget, Fault, SinkFault}
use Rattle.board_run.specs.declared.moments.Gone.{Gone}
use Rattle.board_run.specs.declared.moments.Gone.TheVariants.{Idle, Ended}
use Rattle.class_radio.specs.declared.player.Player.{Player}
use Rattle.class_radio.specs.Playing.{Setup, member_of, run_given, standing_of, IsNumbered, outlook, said}
use Rattle.class_radio.specs.Stepping.{MayGoOn, world_behind, WentThrough, WasCut, WasBroken, PlayedOn, IsTaken, noting, step_told}
use Rattle.class_radio.proofs.Seen.{seen_now, led_at, says_first}
use Rattle.class_radio.proofs.Coming.{Course, ways, busy_idle}

into_part : (a c : Option (List ℕ)) (whole next : List ℕ) → TookInto a c whole next → TookPart a c (whole ++ next)
into_part a c whole next k = record {
  told = λ had e.
      (let r = k.told had e in
      (whole ++ r.0, (r.1.0, append_assoc whole r.0 r.1.0 ∙ ap (λ l. whole ++ l) r.1.1), r.2));
}

-- whole bytes, and a part of the next
part_into : (a b c : Option (List ℕ)) (whole next : List ℕ) → Took a b whole → TookInto b c [] next → TookPart a c (whole ++ next)
part_into a b c whole next h k = record {
  told = λ had e.
      (let r = k.told (had ++ whole) (h.told had e) in
      (whole ++ r.0, (r.1.0, append_assoc whole r.0 r.1.0 ∙ ap (λ l. whole ++ l) r.1.1), r.2 ∙ ap Some (append_assoc had whole r.0)));
}

module _ (number budget : ℕ) (setup : Setup) (script : List Entry) (t : ℕ) (used : List ℕ) (seen : List Observation) (p : Player) (may : MayGoOn number budget setup script t used seen p)
    (account : SureDevice → Account) (k : ℕ) (new : Player) (taken taken' : Option (List ℕ)) (fs fs' : ℕ) (behind : ByteList)
    (g : HasGone account p.lead [] t k (record { board = p.board; taken = taken; faults = fs }) (record { board = new.board; taken = taken'; faults = fs' }) behind) where
  abbrev C : Course setup script t used seen p
  C = ways number budget setup script t used seen p may

  abbrev L : LeadsTo setup.image t k p.board.kept new.board.kept (C.met ++ g.moves) C.at (state_of new.board.engine)
  L = g.goes setup.image C.at C.met C.shown

  abbrev V : List ℕ → World Fiber Shared
  V rest = world_behind setup script t new.board.instructions ((used ++ L.used) ++ rest)

  counted : k + p.board.instructions ≡ new.board.instructions
  counted = (let e : new.board.instructions ≡ p.board.instructions + k = g.counted in omega (arith, e))

  came : (rest : List ℕ) (j : ℕ) → world_behind setup script t (j + p.board.instructions) ((used ++ L.used) ++ rest) ≡ moment_run (fibers setup.image) t j p.board.kept (C.at (L.used ++ rest))
  came rest j = ap (world_behind setup script t (j + p.board.instructions)) (append_assoc used L.used rest) ∙ sym (C.leads (L.used ++ rest) j)

  pub is_shown : (rest : List ℕ) → V rest ≡ with_kept t new.board.kept (L.worlds rest)
  is_shown rest = ap (λ n. world_behind setup script t n ((used ++ L.used) ++ rest)) (sym counted) ∙ came rest k ∙ sym (L.is rest)

  saw : (rest : List ℕ) → (V rest).board.seen ≡ seen ++ seen_of g.moves
  saw rest = ap (λ (w : World Fiber Shared). w.board.seen) (is_shown rest) ∙ (L.shown.met rest).seen ∙ seen_of-append C.met g.moves ∙ ap (λ l. l ++ seen_of g.moves) C.is_seen

  on_clock : (rest : List ℕ) → (V rest).board.clock ≡ new.board.engine.clock
  on_clock rest = ap (λ (w : World Fiber Shared). w.board.clock) (is_shown rest) ∙ ap (λ (b : WorldBoard). b.clock) (L.shown.shows rest).board

  ended_as : (rest : List ℕ) → (V rest).board.end ≡ option_map end_of new.board.engine.end
  ended_as rest = ap (λ (w : World Fiber Shared). w.board.end) (is_shown rest) ∙ ap (λ (b : WorldBoard). b.end) (L.shown.shows rest).board

  until_new : (rest : List ℕ) → (V rest).board.until ≡ setup.script.end
  until_new rest = ap (λ (w : World Fiber Shared). w.board.until) (is_shown rest) ∙ ap (λ (b : WorldBoard). b.until) (L.shown.shows rest).board ∙ ap (λ s. s.end) g.script ∙ C.until_is

  earlier_seen : before t (seen ++ seen_of g.moves) ≡ seen
  earlier_seen =
      ap (before t) (sym (saw []))
      ∙ ap (λ n. before t (world_behind setup script t n ((used ++ L.used) ++ [])).board.seen) (sym counted)
      ∙ ap (λ us. before t (world_behind setup script t (k + p.board.instructions) us).board.seen) (append_assoc used L.used [])
      ∙ C.since (L.used ++ []) k

  early_seen : before (t + 1) (seen ++ seen_of g.moves) ≡ seen ++ seen_of g.moves
  early_seen =
      (let m = member_of setup ((used ++ L.used) ++ []) in
      let n = new.board.instructions in
      let next : suc t ≡ t + 1 = omega arith in
      let e = early_run (fibers setup.image) (suc t) n (bank_start setup.image setup.script.end script ((used ++ L.used) ++ [])) (begins_early (fibers setup.image) m.main m.shared setup.script.end t script) in
      let f : before (t + 1) (V []).board.seen ≡ (V []).board.seen = subst (λ u. before u (world_before setup.script.end u (run_given setup script n ((used ++ L.used) ++ []))).board.seen ≡ (world_before setup.script.end u (run_given setup script n ((used ++ L.used) ++ []))).board.seen) next e.seen in
      subst (λ l. before (t + 1) l ≡ l) (saw []) f)

  pub all_now : AllByRecursion (λ (o : Observation). moment_of o ≡ t) (seen_of g.moves)
  all_now = seen_now t seen (seen_of g.moves) C.early earlier_seen early_seen

  lines_now : led_lines p.lead (seen_of g.moves) ≡ seen_at t number (seen ++ seen_of g.moves)
  lines_now = ap (λ l. led_lines l (seen_of g.moves)) may.numbered.lead ∙ led_at t number seen (seen_of g.moves) C.early all_now

  says_now : said t new ≡ take 32 (sent_at t (seen ++ seen_of g.moves))
  says_now =
      (let same : new.board.engine.clock ≡ t = g.clock in
      let here : (new.board.engine.clock == t) ≡ true = grind (arith, nat_tests) in
      ap (λ b. if b then new.board.sent else []) here ∙ g.sent ∙ says_first t seen (seen_of g.moves) C.early all_now)

  -- before its last step somebody was ready
  record Last : Type 0 where
    pub before_it : ℕ
    pub steps : new.board.instructions ≡ suc before_it
    pub settled : (rest : List ℕ) → IsSettled (world_behind setup script t before_it ((used ++ L.used) ++ rest))

  last : ((rest : List ℕ) → IsBusy (V rest) → ⊥) ⊎ (1 ≤ k) → Last
  last some = by_old p.board.instructions refl k refl
    where
      by_old : (n : ℕ) → p.board.instructions ≡ n → (j : ℕ) → k ≡ j → Last
      by_old n q (suc j) e = record {
        before_it = j + p.board.instructions;
        steps = (let c : k + p.board.instructions ≡ new.board.instructions = counted in omega (arith, c, e));
        settled = λ rest. (let b = L.busy rest j (omega (arith, e)) in subst IsSettled (sym (came rest j)) (λ o. b.1));
      }
      by_old (suc m) q zero e = record {
        before_it = m;
        steps = (let c : k + p.board.instructions ≡ new.board.instructions = counted in omega (arith, c, e, q));
        settled = λ rest. subst (λ us. IsSettled (world_behind setup script t m us)) (sym (append_assoc used L.used rest)) (C.settled m q (L.used ++ rest));
      }
      by_old zero q zero e = absurd (by_some some)
        where
          by_some : ((rest : List ℕ) → IsBusy (V rest) → ⊥) ⊎ (1 ≤ k) → ⊥
          by_some (inr l) = omega (arith, l, e)
          by_some (inl never) =
              (let w = C.at (L.used ++ []) in
              let busy = C.begins q (L.used ++ []) in
              let none : new.board.instructions ≡ zero + p.board.instructions = (let c : k + p.board.instructions ≡ new.board.instructions = counted in omega (arith, c, e)) in
              let still : idled_before (fibers setup.image) (t + 1) (with_kept t p.board.kept w) ≡ with_kept t p.board.kept w = busy_idle (fibers setup.image) (t + 1) (idle_bound (with_kept t p.board.kept w).board) w.ready (with_kept t p.board.kept w) busy.1 in
              let is : V [] ≡ with_kept t p.board.kept w = ap (λ n. world_behind setup script t n ((used ++ L.used) ++ [])) none ∙ came [] zero ∙ still in
              never [] (subst IsBusy (sym is) (busy.0, busy.1)))

  -- a part of the budget was used
  numbered_new : k ≤ p.left → new.lead ≡ p.lead → (new.board.engine.end ≡ None → new.left + k ≡ p.left) → new.standing ≡ standing_of new.board.engine.end → IsNumbered number budget new
  numbered_new low lead left stands =
      (let a : p.left + p.board.instructions ≡ budget = may.numbered.left C.on in
      let n : k + p.board.instructions ≡ new.board.instructions = counted in
      record {
        lead = lead ∙ may.numbered.lead;
        left = λ e. (let l : new.left + k ≡ p.left = left e in omega (arith, a, n, l));
        within = omega (arith, a, n, low);
        most = may.numbered.most;
        stands = stands;
      })

  module _ (idle : IsIdle t new.board) where
    nobody : (rest : List ℕ) → (L.worlds rest).ready ≡ []
    nobody rest = (let r = idle.resting in nobody_ready setup.image (state_of new.board.engine) (L.worlds rest) (L.shown.shows rest) r.empty.running r.empty.raisers r.empty.spent r.empty.ready)

    never : (rest : List ℕ) → IsBusy (V rest) → ⊥
    never rest b = (let some : 0 < length (V rest).ready = b.1 in let none : length (V rest).ready ≡ 0 = ap (λ (w : World Fiber Shared). length w.ready) (is_shown rest) ∙ ap length (nobody rest) in omega (arith, some, none))

    plain : (rest : List ℕ) → V rest ≡ L.worlds rest
    plain rest = is_shown rest ∙ ap (λ es. with_kept t es (L.worlds rest)) idle.none

    late_next : (o : Option ℕ) → IfSome o (λ m. t < m) → IfSome o (λ m. t + 1 ≤ m)
    late_next None h = tt
    late_next (Some m) h = omega (arith, h)

    pub went_idle : k ≤ p.left → new.due ≡ next_moment new.board.engine → new.lead ≡ p.lead → new.left + k ≡ p.left → new.standing ≡ p.standing → behind ≡ [] → WentThrough number budget setup script t seen new taken taken'
    went_idle low due lead left stands none = record {
      used = used ++ L.used;
      sees = seen ++ seen_of g.moves;
      numbered = numbered_new low lead (λ e. left) (stands ∙ may.numbered.stands ∙ ap standing_of (C.on ∙ sym idle.resting.goes));
      played_on = record {
        looks = λ rest. (let l = last (inl never) in record {
          before = l.before_it;
          steps = l.steps;
          settled = l.settled rest;
          like = record { seen = saw rest; clock = on_clock rest; end = ended_as rest };
          until_is = until_new rest;
          early = (let e : new.board.engine.clock ≡ t = g.clock in omega (arith, e));
          sound = ap (λ o. is_by_clock (option_map end_of o)) idle.resting.goes;
          ended = λ s. absurd (let f : is_some (option_map end_of new.board.engine.end) ≡ false = ap (λ o. is_some (option_map end_of o)) idle.resting.goes in cc);
          waits = λ q. record {
            nobody = ap (λ (w : World Fiber Shared). w.ready) (plain rest) ∙ nobody rest;
            none = ap (λ (w : World Fiber Shared). w.board.queue) (plain rest) ∙ (L.shown.shows rest).hears.queue ∙ idle.resting.quiet;
            comes = subst (λ (w : World Fiber Shared). earlier (least w.sleepers) (next_entry w.board.script) ≡ new.due) (sym (plain rest)) (next_shown setup.image new.board.engine (L.worlds rest) (L.shown.shows rest) ∙ sym due);
            late = subst (λ o. IfSome o (λ m. t + 1 ≤ m)) (sym due) (late_next (next_moment new.board.engine) idle.later);
          };
        });
        waits = λ q. record {
          whole = g.whole;
          resting = idle.resting;
          events = [];
          kept = idle.none;
          due = due;
          late = late_next (next_moment new.board.engine) idle.later;
          until_is = ap (λ s. s.end) g.script ∙ C.until_is;
          met = C.met ++ g.moves;
          is_seen = seen_of-append C.met g.moves ∙ ap (λ l. l ++ seen_of g.moves) C.is_seen;
          worlds = L.worlds;
          shown = L.shown;
          is = plain;
        };
      };
      clock = g.clock;
      earlier = earlier_seen;
      says = says_now;
      written = subst (λ text. Took taken taken' text)
          (ap (λ l. led_lines p.lead (seen_of g.moves) ++ l) none ∙ ap (λ l. l ++ []) lines_now
          ∙ ap (λ o. seen_at t number (seen ++ seen_of g.moves) ++ (if (is_some (option_map end_of o) && not (is_by_clock (option_map end_of o))) && (new.board.engine.clock == t) then numbered number (closing_line new.board.engine.clock (option_map end_of o)) else [])) (sym idle.resting.goes))
          g.written;
    }

  module _ (stop : Stop) (ended : new.board.engine.end ≡ Some stop) where
    stopped_end : (rest : List ℕ) → (V rest).board.end ≡ Some (end_of stop)
    stopped_end rest = ended_as rest ∙ ap (option_map end_of) ended

    never_on : (rest : List ℕ) → IsBusy (V rest) → ⊥
    never_on rest b = (let on : over (V rest).board ≡ false = b.0 in let off : over (V rest).board ≡ true = ap is_some (stopped_end rest) in cc)

    closing_now : is_by_clock (Some (end_of stop)) ≡ false → stopped_at t number (outlook (seen ++ seen_of g.moves) new).board ≡ p.lead ++ closing_line t (Some (end_of stop))
    closing_now sound =
        (let same : new.board.engine.clock ≡ t = g.clock in
        let here : (t == t) ≡ true = grind (arith, nat_tests) in
        ap (λ o. if (is_some (option_map end_of o) && not (is_by_clock (option_map end_of o))) && (new.board.engine.clock == t) then numbered number (closing_line new.board.engine.clock (option_map end_of o)) else []) ended
        ∙ ap (λ c. if not c && (new.board.engine.clock == t) then numbered number (closing_line new.board.engine.clock (Some (end_of stop))) else []) sound
        ∙ ap (λ c. if c == t then numbered number (closing_line c (Some (end_of stop))) else []) same
        ∙ ap (λ c. if c then numbered number (closing_line t (Some (end_of stop))) else []) here
        ∙ ap (λ l. l ++ closing_line t (Some (end_of stop))) (sym may.numbered.lead))

    stop_sound : is_by_clock (Some (end_of stop)) ≡ false
    stop_sound = ap is_by_clock (sym (stopped_end [])) ∙ sound_run (fibers setup.image) (t + 1) new.board.instructions (bank_start setup.image setup.script.end script ((used ++ L.used) ++ [])) refl

    pub went_stopped : k ≤ p.left → new.due ≡ None → new.lead ≡ p.lead → new.standing ≡ standing_of (Some stop) → behind ≡ p.lead ++ closing_line t (Some (end_of stop))
        → WentThrough number budget setup script t seen new taken taken'
    went_stopped low due lead stands is = record {
      used = used ++ L.used;
      sees = seen ++ seen_of g.moves;
      numbered = numbered_new low lead (λ e. absurd (cc)) (stands ∙ ap standing_of (sym ended));
      played_on = record {
        looks = λ rest. (let l = last (inl never_on) in record {
          before = l.before_it;
          steps = l.steps;
          settled = l.settled rest;
          like = record { seen = saw rest; clock = on_clock rest; end = ended_as rest };
          until_is = until_new rest;
          early = (let e : new.board.engine.clock ≡ t = g.clock in omega (arith, e));
          sound = ap (λ o. is_by_clock (option_map end_of o)) ended ∙ stop_sound;
          ended = λ s. due;
          waits = λ q. absurd (let e : option_map end_of new.board.engine.end ≡ Some (end_of stop) = ap (option_map end_of) ended in cc);
        });
        waits = λ q. absurd (cc);
      };
      clock = g.clock;
      earlier = earlier_seen;
      says = says_now;
      written = subst (λ text. Took taken taken' text)
          (ap (λ l. led_lines p.lead (seen_of g.moves) ++ l) is ∙ ap (λ l. l ++ (p.lead ++ closing_line t (Some (end_of stop)))) lines_now
          ∙ ap (λ l. seen_at t number (seen ++ seen_of g.moves) ++ l) (sym (closing_now stop_sound)))
          g.written;
    }

    -- the sink failed in the closing line, behind all others
    pub broke_last : k ≤ p.left → behind ≡ [] → (last_taken : Option (List ℕ)) → TookInto taken' last_taken [] (p.lead ++ closing_line t (Some (end_of stop)))
        → WasBroken number budget setup script t seen taken last_taken
    broke_last low none last_taken into =
        (let l = last (inl never_on) in
        let a : p.left + p.board.instructions ≡ budget = may.numbered.left C.on in
        let n : k + p.board.instructions ≡ new.board.instructions = counted in
        record {
          used = used ++ L.used;
          steps = l.before_it;
          within = (let s = l.steps in omega (arith, a, n, s, low));
          settled = l.settled;
          clock = λ rest. ap (λ m. (world_behind setup script t m ((used ++ L.used) ++ rest)).board.clock) (sym l.steps) ∙ on_clock rest ∙ g.clock;
          earlier = λ rest. ap (λ m. before t (world_behind setup script t m ((used ++ L.used) ++ rest)).board.seen) (sym l.steps) ∙ ap (before t) (saw rest) ∙ earlier_seen;
          written = λ rest.
              subst (λ m. TookPart taken last_taken (lines_at t number (world_behind setup script t m ((used ++ L.used) ++ rest)).board)) l.steps
              (subst (λ text. TookPart taken last_taken text) (sym (text_is rest))
              (part_into taken taken' last_taken (led_lines p.lead (seen_of g.moves)) (p.lead ++ closing_line t (Some (end_of stop))) (subst (λ b. Took taken taken' b) (ap (λ b. led_lines p.lead (seen_of g.moves) ++ b) none ∙ append-nil (led_lines p.lead (seen_of g.moves))) g.written) into));
        })
      where
        text_is : (rest : List ℕ) → lines_at t number (V rest).board ≡ led_lines p.lead (seen_of g.moves) ++ (p.lead ++ closing_line t (Some (end_of stop)))
        text_is rest =
            lines_alike t number (V rest).board (outlook (seen ++ seen_of g.moves) new).board (record { seen = saw rest; clock = on_clock rest; end = ended_as rest })
            ∙ ap (λ l. l ++ stopped_at t number (outlook (seen ++ seen_of g.moves) new).board) (sym lines_now)
            ∙ ap (λ l. led_lines p.lead (seen_of g.moves) ++ l) (closing_now stop_sound)

  -- its budget is used, and somebody runs
  pub went_cut : new.board.engine.end ≡ None → IsSome new.board.engine.runtime.running → k ≡ p.left → behind ≡ [] → WasCut number budget setup script t seen taken taken'
  went_cut on runs all none =
      (let a : p.left + p.board.instructions ≡ budget = may.numbered.left C.on in
      let n : k + p.board.instructions ≡ new.board.instructions = counted in
      let full : new.board.instructions ≡ budget = omega (arith, a, n, all) in
      record {
        used = used ++ L.used;
        sees = seen ++ seen_of g.moves;
        busy = λ rest. subst (λ m. IsBusy (world_behind setup script t m ((used ++ L.used) ++ rest))) full
            (let u = some_turning new.board.engine.runtime.running runs in
            let first = first_ready setup.image (state_of new.board.engine) (L.worlds rest) (L.shown.shows rest) u.0 u.1 in
            let long : length (V rest).ready ≡ suc _ = ap (λ (w : World Fiber Shared). length w.ready) (is_shown rest) ∙ ap length first in
            (ap is_some (ended_as rest) ∙ ap (λ o. is_some (option_map end_of o)) on, omega (arith, long)));
        clock = λ rest. subst (λ m. (world_behind setup script t m ((used ++ L.used) ++ rest)).board.clock ≡ t) full (on_clock rest ∙ g.clock);
        saw = λ rest. subst (λ m. (world_behind setup script t m ((used ++ L.used) ++ rest)).board.seen ≡ seen ++ seen_of g.moves) full (saw rest);
        earlier = earlier_seen;
        written = subst (λ text. Took taken taken' text) (ap (λ l. led_lines p.lead (seen_of g.moves) ++ l) none ∙ append-nil (led_lines p.lead (seen_of g.moves)) ∙ lines_now) g.written;
      })

-- The sink failed in the line of an observation.
module _ (number budget : ℕ) (setup : Setup) (script : List Entry) (t : ℕ) (used : List ℕ) (seen : List Observation) (p : Player) (may : MayGoOn number budget setup script t used seen p)
    (account : SureDevice → Account) (new : Board SureDevice) (taken taken' : Option (List ℕ)) (fs fs' : ℕ)
    (g : IsCutShort account p.lead t p.left (record { board = p.board; taken = taken; faults = fs }) (record { board = new; taken = taken'; faults = fs' })) where
  abbrev Co : Course setup script t used seen p
  Co = ways number budget setup script t used seen p may

  abbrev Sn : Sees setup.image t g.used p.board.kept (seen_of g.done ++ g.last ∷ []) Co.at
  Sn = g.sees setup.image Co.at Co.met Co.shown

  abbrev added : List Observation
  added = seen_of g.done ++ g.last ∷ []

  abbrev B : ℕ → List ℕ → World Fiber Shared
  B j rest = world_behind setup script t (j + p.board.instructions) ((used ++ Sn.used) ++ rest)

  came_so : (rest : List ℕ) (j : ℕ) → B j rest ≡ moment_run (fibers setup.image) t j p.board.kept (Co.at (Sn.used ++ rest))
  came_so rest j = ap (world_behind setup script t (j + p.board.instructions)) (append_assoc used Sn.used rest) ∙ sym (Co.leads (Sn.used ++ rest) j)

  saw_so : (rest : List ℕ) → (B g.used rest).board.seen ≡ seen ++ (seen_of g.done ++ g.last ∷ [])
  saw_so rest =
      ap (λ (w : World Fiber Shared). w.board.seen) (came_so rest g.used) ∙ Sn.saw rest
      ∙ ap (λ l. l ++ (seen_of g.done ++ g.last ∷ [])) ((Co.shown.met (Sn.used ++ rest)).seen ∙ Co.is_seen)

  earlier_so : (rest : List ℕ) → before t (B g.used rest).board.seen ≡ seen
  earlier_so rest = ap (λ us. before t (world_behind setup script t (g.used + p.board.instructions) us).board.seen) (append_assoc used Sn.used rest) ∙ Co.since (Sn.used ++ rest) g.used

  clock_so : (rest : List ℕ) → (B g.used rest).board.clock ≡ t
  clock_so rest =
      (let m = member_of setup ((used ++ Sn.used) ++ rest) in
      let n = g.used + p.board.instructions in
      let next : suc t ≡ t + 1 = omega arith in
      let e = early_run (fibers setup.image) (suc t) n (bank_start setup.image setup.script.end script ((used ++ Sn.used) ++ rest)) (begins_early (fibers setup.image) m.main m.shared setup.script.end t script) in
      let soon : (world_behind setup script t (g.used + p.board.instructions) ((used ++ Sn.used) ++ rest)).board.clock < t + 1 = subst (λ u. (world_before setup.script.end u (run_given setup script n ((used ++ Sn.used) ++ rest))).board.clock < u) next e.clock in
      let late : t ≤ (world_behind setup script t (g.used + p.board.instructions) ((used ++ Sn.used) ++ rest)).board.clock = subst (λ us. t ≤ (world_behind setup script t (g.used + p.board.instructions) us).board.clock) (sym (append_assoc used Sn.used rest)) (Co.late (Sn.used ++ rest) g.used) in
      omega (arith, soon, late))

  early_so : before (t + 1) (seen ++ (seen_of g.done ++ g.last ∷ [])) ≡ seen ++ (seen_of g.done ++ g.last ∷ [])
  early_so =
      (let m = member_of setup ((used ++ Sn.used) ++ []) in
      let n = g.used + p.board.instructions in
      let next : suc t ≡ t + 1 = omega arith in
      let e = early_run (fibers setup.image) (suc t) n (bank_start setup.image setup.script.end script ((used ++ Sn.used) ++ [])) (begins_early (fibers setup.image) m.main m.shared setup.script.end t script) in
      let f : before (t + 1) (B g.used []).board.seen ≡ (B g.used []).board.seen = subst (λ u. before u (world_before setup.script.end u (run_given setup script n ((used ++ Sn.used) ++ []))).board.seen ≡ (world_before setup.script.end u (run_given setup script n ((used ++ Sn.used) ++ []))).board.seen) next e.seen in
      subst (λ l. before (t + 1) l ≡ l) (saw_so []) f)

  now_so : AllByRecursion (λ (o : Observation). moment_of o ≡ t) (seen_of g.done ++ g.last ∷ [])
  now_so = seen_now t seen (seen_of g.done ++ g.last ∷ []) Co.early (ap (before t) (sym (saw_so [])) ∙ earlier_so []) early_so

  led_last : (lead : ByteList) (os : List Observation) (o : Observation) → led_lines lead (os ++ o ∷ []) ≡ led_lines lead os ++ (lead ++ line o)
  led_last lead [] o = append-nil (lead ++ line o)
  led_last lead (x ∷ xs) o = ap (λ l. (lead ++ line x) ++ l) (led_last lead xs o) ∙ sym (append_assoc (lead ++ line x) (led_lines lead xs) (lead ++ line o))

  text_so : (rest : List ℕ) → led_lines p.lead (seen_of g.done) ++ (p.lead ++ line g.last) ≡ seen_at t number (B g.used rest).board.seen
  text_so rest =
      sym (led_last p.lead (seen_of g.done) g.last)
      ∙ ap (λ l. led_lines l (seen_of g.done ++ g.last ∷ [])) may.numbered.lead
      ∙ led_at t number seen (seen_of g.done ++ g.last ∷ []) Co.early now_so
      ∙ ap (seen_at t number) (sym (saw_so rest))

  record Some_step : Type 0 where
    pub before_it : ℕ
    pub is : g.used + p.board.instructions ≡ suc before_it
    pub settled : (rest : List ℕ) → IsSettled (world_behind setup script t before_it ((used ++ Sn.used) ++ rest))

  some_step : Some_step
  some_step = by_old p.board.instructions refl g.used refl
    where
      by_old : (n : ℕ) → p.board.instructions ≡ n → (j : ℕ) → g.used ≡ j → Some_step
      by_old n q (suc j) e = record {
        before_it = j + p.board.instructions;
        is = omega (arith, e);
        settled = λ rest. (let b = Sn.busy rest j (omega (arith, e)) in subst IsSettled (sym (came_so rest j)) (λ o. b.1));
      }
      by_old (suc m) q zero e = record {
        before_it = m;
        is = omega (arith, e, q);
        settled = λ rest. subst (λ us. IsSettled (world_behind setup script t m us)) (sym (append_assoc used Sn.used rest)) (Co.settled m q (Sn.used ++ rest));
      }
      by_old zero q zero e =
          absurd (let w = Co.at (Sn.used ++ []) in
          let busy = Co.begins q (Sn.used ++ []) in
          let still : idled_before (fibers setup.image) (t + 1) (with_kept t p.board.kept w) ≡ with_kept t p.board.kept w = busy_idle (fibers setup.image) (t + 1) (idle_bound (with_kept t p.board.kept w).board) w.ready (with_kept t p.board.kept w) busy.1 in
          let same : (moment_run (fibers setup.image) t g.used p.board.kept w).board.seen ≡ w.board.seen = ap (λ j. (moment_run (fibers setup.image) t j p.board.kept w).board.seen) e ∙ ap (λ (v : World Fiber Shared). v.board.seen) still in
          let longer : length w.board.seen ≡ length (w.board.seen ++ (seen_of g.done ++ g.last ∷ [])) = ap length (sym same ∙ Sn.saw []) in
          let one = length-append w.board.seen (seen_of g.done ++ g.last ∷ []) in
          let two = length-append (seen_of g.done) (g.last ∷ []) in
          omega (arith, longer, one, two))

  pub broke_short : WasBroken number budget setup script t seen taken taken'
  broke_short =
      (let l = some_step in
      let a : p.left + p.board.instructions ≡ budget = may.numbered.left Co.on in
      record {
        used = used ++ Sn.used;
        steps = l.before_it;
        within = (let s = l.is in let w = g.within in omega (arith, a, s, w));
        settled = l.settled;
        clock = λ rest. ap (λ m. (world_behind setup script t m ((used ++ Sn.used) ++ rest)).board.clock) (sym l.is) ∙ clock_so rest;
        earlier = λ rest. ap (λ m. before t (world_behind setup script t m ((used ++ Sn.used) ++ rest)).board.seen) (sym l.is) ∙ earlier_so rest;
        written = λ rest.
            subst (λ m. TookPart taken taken' (lines_at t number (world_behind setup script t m ((used ++ Sn.used) ++ rest)).board)) l.is
            (part-more (seen_at t number (B g.used rest).board.seen) (stopped_at t number (B g.used rest).board)
            (subst (λ text. TookPart taken taken' text) (text_so rest) (into_part taken taken' (led_lines p.lead (seen_of g.done)) (p.lead ++ line g.last) g.written)));
      })

-- whatever became of its board, it is so
pub stepped_by : (number budget : ℕ) (setup : Setup) (script : List Entry) (t : ℕ) (used : List ℕ) (seen : List Observation) (p : Player) (may : MayGoOn number budget setup script t used seen p)
    (account : SureDevice → Account) (board : Board SureDevice) (taken taken' : Option (List ℕ)) (fs fs' : ℕ) (gone : Gone)
    → Went account p.lead t p.left (record { board = p.board; taken = taken; faults = fs }) (record { board = board; taken = taken'; faults = fs' }) gone → PlayedOn number budget setup script t seen (noting gone (record p { board = board })) taken taken' fs fs' (step_told gone)
stepped_by number budget setup script t used seen p may account board taken taken' fs fs' (Idle n) h =
    went_idle number budget setup script t used seen p may account n (noting (Idle n) (record p { board = board })) taken taken' fs fs' [] h.1 h.2 h.0 refl refl (let low : n ≤ p.left = h.0 in omega (arith, low)) refl refl
stepped_by number budget setup script t used seen p may account board taken taken' fs fs' (Ended (Panic code)) h =
    went_stopped number budget setup script t used seen p may account h.used (noting (Ended (Panic code)) (record p { board = board })) taken taken' fs fs' (p.lead ++ closing_line t (Some (end_of (StopPanic code)))) h.gone (StopPanic code) h.ended h.within refl refl refl refl
stepped_by number budget setup script t used seen p may account board taken taken' fs fs' (Ended (Fault fault address)) h =
    went_stopped number budget setup script t used seen p may account h.used (noting (Ended (Fault fault address)) (record p { board = board })) taken taken' fs fs' (p.lead ++ closing_line t (Some (end_of (StopFault fault address)))) h.gone (StopFault fault address) h.ended h.within refl refl refl refl
stepped_by number budget setup script t used seen p may account board taken taken' fs fs' (Ended Budget) h =
    went_cut number budget setup script t used seen p may account p.left (record p { board = board }) taken taken' fs fs' [] h.0 h.1 h.2 refl refl
stepped_by number budget setup script t used seen p may account board taken taken' fs fs' (Ended SinkFault) h = (by_where h.0, h.1)
  where
    by_where : IsCutShort account p.lead t p.left (record { board = p.board; taken = taken; faults = fs }) (record { board = board; taken = taken'; faults = fs' }) ⊎ IsCutLast account p.lead t p.left (record { board = p.board; taken = taken; faults = fs }) (record { board = board; taken = taken'; faults = fs' }) → WasBroken number budget setup script t seen taken taken'
    by_where (inl g) = broke_short number budget setup script t used seen p may account board taken taken' fs fs' g
    by_where (inr h) = broke_last number budget setup script t used seen p may account h.used (record p { board = board }) taken h.taken_before fs fs' [] h.gone h.stop h.ended h.within refl taken' h.written
stepped_by number budget setup script t used seen p may account board taken taken' fs fs' (Ended Quiet) h = absurd h
stepped_by number budget setup script t used seen p may account board taken taken' fs fs' (Ended Script) h = absurd h

pub taken_by : (lead : ByteList) (t left : ℕ) (account : SureDevice → Account) (old board : Board SureDevice) (taken taken' : Option (List ℕ)) (fs fs' : ℕ) (gone : Gone)
    → Went account lead t left (record { board = old; taken = taken; faults = fs }) (record { board = board; taken = taken'; faults = fs' }) gone → IsTaken left gone
taken_by lead t left account old board taken taken' fs fs' (Idle n) h = h.0
taken_by lead t left account old board taken taken' fs fs' (Ended end) h = tt

pub noting_lead : (gone : Gone) (p : Player) → (noting gone p).lead ≡ p.lead
noting_lead (Idle used) p = refl
noting_lead (Ended (Panic code)) p = refl
noting_lead (Ended (Fault fault address)) p = refl
noting_lead (Ended Budget) p = refl
noting_lead (Ended SinkFault) p = refl
noting_lead (Ended Quiet) p = refl
noting_lead (Ended Script) p = refl
