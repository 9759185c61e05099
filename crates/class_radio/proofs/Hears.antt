-- A player that hears numbers for the moment that comes next.
use Rattle.std.proofs.Common.{◌≡◌, ℕ, ℤ, false, if◌then◌else◌, List, [], ◌∷◌, ◌++◌, Option, Some, None, is_some, refl, ap, sym, ◌∙◌, subst}
use Rattle.std.specs.Option.{option_map}
use Rattle.board_world.specs.declared.events.Event.{Event}
use Rattle.board_world.specs.Observations.{Observation}
use Rattle.board_world.specs.Board.{Entry, Raise}
use Rattle.board_world.specs.Before.{IsRisingFrom, is_by_clock}
use Rattle.class_world.specs.Hearing.{inserted, with_heard, raised_at}
use Rattle.class_world.specs.Classes.{world_before}
use Rattle.class_world.specs.Keeping.{with_kept}
use Rattle.class_world.proofs.Laws.{heard_events, given_so_far}
use Rattle.class_steps.specs.Outlook.{IsSeenAs, next_with}
use Rattle.class_steps.proofs.Laws.{hears}
use Rattle.bank_model.specs.BoardMachine.{fibers}
use Rattle.board_run.specs.declared.end.Stop.{Stop}
use Rattle.board_run.specs.declared.end.Stop.TheVariants.{Quiet, Script, Panic, Fault}
use Rattle.board_run.specs.Going.{queued_all, next_moment}
use Rattle.board_run.specs.Represents.{end_of}
use Rattle.class_radio.specs.declared.player.Player.{Player}
use Rattle.class_radio.specs.declared.player.Standing.{Standing}
use Rattle.class_radio.specs.declared.player.Standing.TheVariants.{Plays, Panicked, Faulted}
use Rattle.class_radio.specs.Playing.{Setup, member_of, run_given, standing_of, outlook, HasPlayed, heard_event, hearing_as, hearing, hearing_all}

raised_two : (t : ℕ) (xs ys : List Event) (own : List Entry) → with_heard (raised_at t ys) (with_heard (raised_at t xs) own) ≡ with_heard (raised_at t (xs ++ ys)) own
raised_two t [] ys own = refl
raised_two t (x ∷ xs) ys own = raised_two t xs ys (inserted (record { at = t; act = Raise x }) own)

queued_two : (xs ys q : List Event) → queued_all ys (queued_all xs q) ≡ queued_all (xs ++ ys) q
queued_two [] ys q = refl
queued_two (x ∷ xs) ys q = queued_two xs ys _

next_two : (t : ℕ) (xs ys : List Event) (next : Option ℕ) → next_with t ys (next_with t xs next) ≡ next_with t (xs ++ ys) next
next_two t [] ys next = refl
next_two t (x ∷ xs) [] next = refl
next_two t (x ∷ xs) (y ∷ ys) next = refl

-- what a player that plays keeps, and one that stopped
heard_playing : (t : ℕ) (numbers : List ℤ) (p : Player) → p.standing ≡ Plays
    → hearing_all t numbers p ≡ record p { board = record p.board { kept = queued_all (heard_events numbers) p.board.kept }; due = next_with t (heard_events numbers) p.due }
heard_playing t [] p h = refl
heard_playing t (n ∷ ns) p h =
    (let one : hearing t n p ≡ record p { board = record p.board { kept = queued_all (heard_event n ∷ []) p.board.kept }; due = Some t } = ap (λ s. hearing_as s t n p) h in
    ap (hearing_all t ns) one ∙ heard_playing t ns (record p { board = record p.board { kept = queued_all (heard_event n ∷ []) p.board.kept }; due = Some t }) h ∙ by_more ns)
  where
    by_more : (ms : List ℤ) → (let q : Player = record p { board = record p.board { kept = queued_all (heard_event n ∷ []) p.board.kept }; due = Some t } in
        record q { board = record q.board { kept = queued_all (heard_events ms) q.board.kept }; due = next_with t (heard_events ms) q.due }
        ≡ record p { board = record p.board { kept = queued_all (heard_event n ∷ heard_events ms) p.board.kept }; due = Some t })
    by_more [] = refl
    by_more (m ∷ ms) = refl

heard_stopped : (t : ℕ) (numbers : List ℤ) (p : Player) → (p.standing ≡ Plays → ⊥) → hearing_all t numbers p ≡ p
heard_stopped t [] p h = refl
heard_stopped t (n ∷ ns) p h = ap (hearing_all t ns) (by_standing p.standing refl) ∙ heard_stopped t ns p h
  where
    by_standing : (s : Standing) → p.standing ≡ s → hearing_as s t n p ≡ p
    by_standing Plays q = absurd (h q)
    by_standing Panicked q = refl
    by_standing Faulted q = refl

module _ (setup : Setup) (script : List Entry) (t : ℕ) (used : List ℕ) (seen : List Observation) (p : Player) (numbers all : List ℤ) (rising : IsRisingFrom 0 script)
    (alike : (q : List Event) → queued_all (heard_events numbers) q ≡ queued_all (heard_events all) q) (some : (next : Option ℕ) → next_with t (heard_events numbers) next ≡ next_with t (heard_events all) next) where
  abbrev E : List Event
  E = heard_events all

  abbrev onto : List Entry
  onto = with_heard (raised_at t E) script

  module _ (h : HasPlayed setup script t used seen p) (stands : p.standing ≡ standing_of p.board.engine.end) where
    shows_so : (steps : ℕ) (rest : List ℕ) → world_before setup.script.end t (run_given setup (with_heard (raised_at t (heard_events all)) script) steps (used ++ rest)) ≡ with_kept t (heard_events all) (world_before setup.script.end t (run_given setup script steps (used ++ rest)))
    shows_so steps rest = (let m = member_of setup (used ++ rest) in given_so_far (fibers setup.image) m.main m.shared setup.script.end t steps (heard_events all) script rising)

    -- one that plays
    playing : p.board.engine.end ≡ None → HasPlayed setup (with_heard (raised_at t (heard_events all)) script) t used seen (hearing_all t numbers p)
    playing on =
        (let w = h.waits on in
        let is = heard_playing t numbers p (stands ∙ ap standing_of on) in
        let q : Player = record p { board = record p.board { kept = queued_all (heard_events numbers) p.board.kept }; due = next_with t (heard_events numbers) p.due } in
        subst (HasPlayed setup (with_heard (raised_at t (heard_events all)) script) t used seen) (sym is) (record {
          looks = λ rest. subst (λ n. IsSeenAs setup.script.end t (run_given setup (with_heard (raised_at t (heard_events all)) script) p.board.instructions (used ++ rest)) (record (outlook seen p) { next = n }))
              (ap (λ e. if is_some (option_map end_of e) then None else next_with t (heard_events all) p.due) on ∙ sym (some p.due))
              (hears setup.script.end t (run_given setup script p.board.instructions (used ++ rest)) (outlook seen p) (h.looks rest) (heard_events all) rising);
          waits = λ e. record {
            whole = w.whole;
            resting = w.resting;
            events = w.events ++ heard_events all;
            kept = ap (queued_all (heard_events numbers)) w.kept ∙ alike (queued_all w.events []) ∙ queued_two w.events (heard_events all) [];
            due = some p.due ∙ ap (next_with t (heard_events all)) w.due ∙ next_two t w.events (heard_events all) (next_moment p.board.engine);
            late = w.late;
            until_is = w.until_is;
            met = w.met;
            is_seen = w.is_seen;
            worlds = w.worlds;
            shown = w.shown;
            is = λ rest. shows_so p.board.instructions rest ∙ ap (with_kept t (heard_events all)) (w.is rest)
                ∙ ap (λ es. record (w.worlds rest) { board = record (w.worlds rest).board { script = es } }) (raised_two t w.events (heard_events all) (w.worlds rest).board.script);
          };
        }))

    -- one that stopped
    no_player : (stop : Stop) → p.board.engine.end ≡ Some stop → p.standing ≡ Plays → ⊥
    no_player stop ends plays = by_stop stop (ap (λ e. is_by_clock (option_map end_of e)) (sym ends) ∙ (h.looks []).sound) (sym plays ∙ stands ∙ ap standing_of ends)
      where
        by_stop : (s : Stop) → is_by_clock (Some (end_of s)) ≡ false → Plays ≡ standing_of (Some s) → ⊥
        by_stop Quiet sound e = cc
        by_stop Script sound e = cc
        by_stop (Panic code) sound e = cc
        by_stop (Fault fault address) sound e = cc

    stopped : (stop : Stop) → p.board.engine.end ≡ Some stop → HasPlayed setup (with_heard (raised_at t (heard_events all)) script) t used seen (hearing_all t numbers p)
    stopped stop ends =
        (let none : p.due ≡ None = (h.looks []).ended (ap (λ e. is_some (option_map end_of e)) ends) in
        subst (HasPlayed setup (with_heard (raised_at t (heard_events all)) script) t used seen) (sym (heard_stopped t numbers p (no_player stop ends))) (record {
          looks = λ rest. subst (λ n. IsSeenAs setup.script.end t (run_given setup (with_heard (raised_at t (heard_events all)) script) p.board.instructions (used ++ rest)) (record (outlook seen p) { next = n }))
              (ap (λ e. if is_some (option_map end_of e) then None else next_with t (heard_events all) p.due) ends ∙ sym none)
              (hears setup.script.end t (run_given setup script p.board.instructions (used ++ rest)) (outlook seen p) (h.looks rest) (heard_events all) rising);
          waits = λ e. absurd (cc);
        }))

    pub hears_on : HasPlayed setup (with_heard (raised_at t (heard_events all)) script) t used seen (hearing_all t numbers p)
    hears_on = by_end p.board.engine.end refl
      where
        by_end : (o : Option Stop) → p.board.engine.end ≡ o → HasPlayed setup (with_heard (raised_at t (heard_events all)) script) t used seen (hearing_all t numbers p)
        by_end None e = playing e
        by_end (Some stop) e = stopped stop e
