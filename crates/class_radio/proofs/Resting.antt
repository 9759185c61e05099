-- A board to which nothing comes for a while.
use Rattle.std.proofs.Common.{◌≡◌, ◌≤◌, ◌<◌, ℕ, Bool, true, false, ◌&&◌, if◌then◌else◌, ◌==◌, List, [], ◌∷◌, ◌++◌, Option, Some, None, is_some, refl, ap, sym, ◌∙◌, subst, arith, append-nil}
use Rattle.std.specs.Prelude.{IfSome}
use Rattle.std.specs.Option.{option_map}
use Rattle.std.proofs.lemmas.Bool.Decides.{nat_tests}
use Rattle.board_world.specs.declared.events.Event.{Event}
use Rattle.board_world.specs.Observations.{ByteList, Observation}
use Rattle.board_world.specs.Transcript.{closing_line}
use Rattle.board_world.specs.Board.{Entry}
use Rattle.class_world.specs.Hearing.{before}
use Rattle.class_world.specs.Classes.{world_before}
use Rattle.class_world.specs.Keeping.{with_kept}
use Rattle.class_world.specs.Lines.{numbered, seen_at, is_stopped, stopped_at, lines_at, WroteBefore}
use Rattle.class_world.proofs.Laws.{seen_at_new}
use Rattle.class_steps.specs.Outlook.{next_with}
use Rattle.class_steps.proofs.Laws.{waits_longer, same_later, seen_early}
use Rattle.board_run.specs.declared.end.Stop.{Stop}
use Rattle.board_run.specs.Going.{queued_all, next_moment}
use Rattle.board_run.specs.Represents.{end_of}
use Rattle.class_radio.specs.declared.player.Player.{Player}
use Rattle.class_radio.specs.Playing.{Setup, run_given, outlook, IsInWait, HasPlayed}

module _ (setup : Setup) (script : List Entry) (t : ℕ) (used : List ℕ) (seen : List Observation) (p : Player) (h : HasPlayed setup script t used seen p) where
  -- nothing seen so far was seen later
  pub seen_so_far : before t seen ≡ seen
  seen_so_far = seen_early setup.script.end t (run_given setup script p.board.instructions (used ++ [])) (outlook seen p) (h.looks [])

  pub clock_early : p.board.engine.clock < t
  clock_early = (h.looks []).early

  -- and nothing is written of it from then on
  pub wrote_so_far : WroteBefore t (outlook seen p).board
  wrote_so_far = record { seen = seen_so_far; stopped = λ s. clock_early }

  pub nothing_at : (b : ℕ) → lines_at t b (outlook seen p).board ≡ []
  nothing_at b =
      (let early : p.board.engine.clock < t = clock_early in
      let other : (p.board.engine.clock == t) ≡ false = grind (arith, nat_tests) in
      ap (λ (r : ByteList). r ++ stopped_at t b (outlook seen p).board) (ap (seen_at t b) (sym (append-nil seen)) ∙ seen_at_new t b seen [] seen_so_far tt)
      ∙ by_stop (is_stopped (outlook seen p).board) (p.board.engine.clock == t) other)
    where
      by_stop : (c d : Bool) → d ≡ false → (if c && d then numbered b (closing_line p.board.engine.clock (option_map end_of p.board.engine.end)) else []) ≡ []
      by_stop true true e = cc
      by_stop true false e = refl
      by_stop false d e = refl

  -- what comes to it comes then or later
  pub due_late : IfSome p.due (λ m. t ≤ m)
  due_late = by_end p.board.engine.end refl
    where
      by_end : (o : Option Stop) → p.board.engine.end ≡ o → IfSome p.due (λ m. t ≤ m)
      by_end None e = ((h.looks []).waits (ap (option_map end_of) e)).late
      by_end (Some stop) e = (let none : p.due ≡ None = (h.looks []).ended (ap (λ (o : Option Stop). is_some (option_map end_of o)) e) in subst (λ (o : Option ℕ). IfSome o (λ m. t ≤ m)) (sym none) tt)

  -- a moment before which nothing comes is as good
  pub plays_longer : (u : ℕ) → t ≤ u → IfSome p.due (λ m. u ≤ m) → HasPlayed setup script u used seen p
  plays_longer u l late = record {
    looks = λ rest. waits_longer setup.script.end t (run_given setup script p.board.instructions (used ++ rest)) (outlook seen p) (h.looks rest) u l (λ e. late);
    waits = λ e. (let w = h.waits e in by_events w w.events refl);
  }
    where
      world_later : (rest : List ℕ) → world_before setup.script.end u (run_given setup script p.board.instructions (used ++ rest)) ≡ world_before setup.script.end t (run_given setup script p.board.instructions (used ++ rest))
      world_later rest = same_later setup.script.end t (run_given setup script p.board.instructions (used ++ rest)) (outlook seen p) (h.looks rest) u l (λ e. late)

      by_events : (w : IsInWait setup script t used seen p) → (events : List Event) → w.events ≡ events → IsInWait setup script u used seen p
      by_events w [] e =
          (let due : p.due ≡ next_moment p.board.engine = w.due ∙ ap (λ (es : List Event). next_with t es (next_moment p.board.engine)) e in
          record {
            whole = w.whole;
            resting = w.resting;
            events = [];
            kept = w.kept ∙ ap (λ (es : List Event). queued_all es []) e;
            due = due;
            late = subst (λ (o : Option ℕ). IfSome o (λ m. u ≤ m)) due late;
            until_is = w.until_is;
            met = w.met;
            is_seen = w.is_seen;
            worlds = w.worlds;
            shown = w.shown;
            is = λ rest. world_later rest ∙ w.is rest ∙ ap (λ (es : List Event). with_kept t es (w.worlds rest)) e;
          })
      by_events w (x ∷ xs) e =
          (let due : p.due ≡ Some t = w.due ∙ ap (λ (es : List Event). next_with t es (next_moment p.board.engine)) e in
          let soon : u ≤ t = subst (λ (o : Option ℕ). IfSome o (λ m. u ≤ m)) due late in
          let same : t ≡ u = omega (arith, l, soon) in
          subst (λ (v : ℕ). IsInWait setup script v used seen p) same w)
