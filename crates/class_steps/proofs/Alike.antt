-- Boards that look alike have the same lines.
use Rattle.std.proofs.Common.{◌≡◌, ℕ, zero, suc, Bool, not, ◌&&◌, ◌||◌, if◌then◌else◌, ◌==◌, List, [], ◌∷◌, ◌++◌, max, Option, Some, is_some, refl, ap, ◌∙◌}
use Rattle.board_world.specs.Observations.{ByteList, Observation, End, Quietly, By_script}
use Rattle.board_world.specs.Transcript.{closing_line}
use Rattle.board_world.specs.Board.{Board}
use Rattle.board_world.specs.Before.{is_by_clock}
use Rattle.board_world.specs.Simulation.{Paired}
use Rattle.class_world.specs.Lines.{numbered, seen_at, is_stopped, stopped_at, lines_at, moment_lines, lines_before, is_by_script, some_by_script, latest, class_end, closing_lines, whole_text}
use Rattle.class_steps.specs.Outlook.{HasSameLook}

stopped_alike : (w v : Board) → HasSameLook w v → is_stopped w ≡ is_stopped v
stopped_alike w v h = ap (λ (e : Option End). is_some e && not (is_by_clock e)) h.end

pub stopped_at_alike : (t b : ℕ) (w v : Board) → HasSameLook w v → stopped_at t b w ≡ stopped_at t b v
stopped_at_alike t b w v h =
    ap (λ (e : Option End). if (is_some e && not (is_by_clock e)) && (w.clock == t) then numbered b (closing_line w.clock e) else []) h.end
    ∙ ap (λ (c : ℕ). if is_stopped v && (c == t) then numbered b (closing_line c v.end) else []) h.clock

pub lines_alike : (t b : ℕ) (w v : Board) → HasSameLook w v → lines_at t b w ≡ lines_at t b v
lines_alike t b w v h = ap (λ (os : List Observation). seen_at t b os ++ stopped_at t b w) h.seen ∙ ap (λ (r : ByteList). seen_at t b v.seen ++ r) (stopped_at_alike t b w v h)

pub moment_alike : (t b : ℕ) (ws vs : List Board) → Paired HasSameLook ws vs → moment_lines t b ws ≡ moment_lines t b vs
moment_alike t b [] [] h = refl
moment_alike t b [] (v ∷ vs) h = absurd h
moment_alike t b (w ∷ ws) [] h = absurd h
moment_alike t b (w ∷ ws) (v ∷ vs) h = ap (λ (r : ByteList). r ++ moment_lines t (suc b) ws) (lines_alike t b w v h.0) ∙ ap (λ (r : ByteList). lines_at t b v ++ r) (moment_alike t (suc b) ws vs h.1)

pub before_alike : (t : ℕ) (ws vs : List Board) → Paired HasSameLook ws vs → lines_before t ws ≡ lines_before t vs
before_alike zero ws vs h = refl
before_alike (suc t) ws vs h = ap (λ (r : ByteList). r ++ moment_lines t 0 ws) (before_alike t ws vs h) ∙ ap (λ (r : ByteList). lines_before t vs ++ r) (moment_alike t 0 ws vs h)

some_alike : (ws vs : List Board) → Paired HasSameLook ws vs → some_by_script ws ≡ some_by_script vs
some_alike [] [] h = refl
some_alike [] (v ∷ vs) h = absurd h
some_alike (w ∷ ws) [] h = absurd h
some_alike (w ∷ ws) (v ∷ vs) h = ap (λ (e : Option End). is_by_script e || some_by_script ws) h.0.end ∙ ap (λ (c : Bool). is_by_script v.end || c) (some_alike ws vs h.1)

latest_alike : (ws vs : List Board) → Paired HasSameLook ws vs → latest ws ≡ latest vs
latest_alike [] [] h = refl
latest_alike [] (v ∷ vs) h = absurd h
latest_alike (w ∷ ws) [] h = absurd h
latest_alike (w ∷ ws) (v ∷ vs) h = ap (λ (c : ℕ). max c (latest ws)) h.0.clock ∙ ap (λ (c : ℕ). max v.clock c) (latest_alike ws vs h.1)

closing_alike : (closing : ByteList) (b : ℕ) (ws vs : List Board) → Paired HasSameLook ws vs → closing_lines closing b ws ≡ closing_lines closing b vs
closing_alike closing b [] [] h = refl
closing_alike closing b [] (v ∷ vs) h = absurd h
closing_alike closing b (w ∷ ws) [] h = absurd h
closing_alike closing b (w ∷ ws) (v ∷ vs) h =
    ap (λ (c : Bool). (if c then [] else numbered b closing) ++ closing_lines closing (suc b) ws) (stopped_alike w v h.0)
    ∙ ap (λ (r : ByteList). (if is_stopped v then [] else numbered b closing) ++ r) (closing_alike closing (suc b) ws vs h.1)

pub whole_alike : (until : ℕ) (ws vs : List Board) → Paired HasSameLook ws vs → whole_text until ws ≡ whole_text until vs
whole_alike until ws vs h =
    ap (λ (r : ByteList). r ++ closing_lines (class_end until ws) 0 ws) (before_alike (suc until) ws vs h)
    ∙ ap (λ (r : ByteList). lines_before (suc until) vs ++ r)
    (ap (λ (c : Bool). closing_lines (if c then closing_line until (Some By_script) else closing_line (latest ws) (Some Quietly)) 0 ws) (some_alike ws vs h)
    ∙ ap (λ (n : ℕ). closing_lines (if some_by_script vs then closing_line until (Some By_script) else closing_line n (Some Quietly)) 0 ws) (latest_alike ws vs h)
    ∙ closing_alike (class_end until vs) 0 ws vs h)
