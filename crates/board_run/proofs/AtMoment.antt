-- A board behind the instructions of a moment: what it is known to have, and that nothing comes before the next moment.
use Rattle.std.proofs.Common.{◌≡◌, ℕ, suc, ◌+◌, ◌<◌, ◌≤◌, ◌⊎◌, inl, inr, Bool, true, false, if◌then◌else◌, nat_lt, List, [], ◌∷◌, ◌++◌, Option, Some, None, IsSome, is_some, refl, sym, ap, ◌∙◌, subst, arith}
use Rattle.std.proofs.lemmas.Bool.Decides.{nat_tests}
use Rattle.std.specs.Prelude.{IfSome}
use Rattle.std.specs.Option.{option_map}
use Rattle.board_world.specs.declared.clock.Idle.TheVariants.{Jump, Script}
use Rattle.board_world.specs.Rules.{earlier, up_to}
use Rattle.board_world.specs.Board.{Board, Entry, next_entry}
use Rattle.board_world.specs.Waiting.{least}
use Rattle.board_world.specs.Activities.{World}
use Rattle.board_world.specs.Before.{IsRisingFrom, is_by_clock, is_jump_before, moves_before, idled_before}
use Rattle.board_world.proofs.Laws.{WakeFrom}
use Rattle.class_world.proofs.Laws.{rests, none_before_first, IsStanding, standing_run, standing_idled}
use Rattle.bank_model.specs.Fibers.{Fiber, Shared}
use Rattle.bank_model.specs.BoardMachine.{fibers}
use Rattle.fiber_queues.specs.Calls.{keyed}
use Rattle.fiber_queues.proofs.Laws.{least-keyed}
use Rattle.board_outside.specs.Moves.{Move}
use Rattle.board_run.specs.declared.end.Stop.{Stop}
use Rattle.board_run.specs.declared.engine.Engine.{Engine}
use Rattle.board_run.specs.Shown.{of_key}
use Rattle.board_run.specs.Represents.{Represents, IsEmpty, entries_left, state_of, end_of}
use Rattle.board_run.specs.Advancing.{IsStayed}
use Rattle.board_run.specs.Going.{next_moment}
use Rattle.board_run.proofs.Further.{MakesTo}
use Rattle.board_run.proofs.FiberGoesOn.{first_ready}
use Rattle.board_run.proofs.Stepping.{some_turning}
use Rattle.board_run.proofs.Raises.{nobody_ready}
use Rattle.board_run.proofs.Course.{busy_to, over_to, shown_reaches}

-- where nothing comes before a moment, a world that a board shows which has stayed makes no idle move before it
pub stayed_rests : (image : List ℕ) (t : ℕ) (e : Engine) (w : World Fiber Shared) → IsStayed e → Represents image (state_of e) w → (e.bus.queue ≡ [] → moves_before t w.board.queue w ≡ false) → idled_before (fibers image) t w ≡ w
stayed_rests image t e w stayed h none = by_end e.end refl
  where
    by_stay : IsSome e.runtime.running ⊎ (IsEmpty (state_of e) × (e.bus.queue ≡ [])) → idled_before (fibers image) t w ≡ w
    by_stay (inl runs) = (let u = some_turning e.runtime.running runs in busy_to image (Some t) w _ _ (first_ready image (state_of e) w h u.0 u.1))
    by_stay (inr r) = rests (fibers image) t w (nobody_ready image (state_of e) w h r.0.running r.0.raisers r.0.spent r.0.ready) (none r.1)

    by_end : (o : Option Stop) → e.end ≡ o → idled_before (fibers image) t w ≡ w
    by_end None q = by_stay (stayed q)
    by_end (Some stop) q = (over_to image (Some t) w (ap (λ (p : Board). is_some p.end) h.board ∙ ap (λ (o : Option Stop). is_some (option_map end_of o)) q)).0

-- of least moments
least_late : {Y : Type 0} (c : ℕ) (ps : List (ℕ × Y)) → WakeFrom (suc c) ps → IfSome (least ps) (λ m. c < m)
least_late c [] h = tt
least_late {Y = Y} c (p ∷ ps) h = by_rest (least ps) (least_late c ps h.1)
  where
    by_rest : (o : Option ℕ) → IfSome o (λ m. c < m) → IfSome (earlier (Some p.0) o) (λ m. c < m)
    by_rest None k = (let first : suc c ≤ p.0 = h.0 in omega (arith, first))
    by_rest (Some m) k = by_first (nat_lt m p.0)
      where
        by_first : (b : Bool) → c < (if b then m else p.0)
        by_first true = k
        by_first false = (let first : suc c ≤ p.0 = h.0 in omega (arith, first))

entry_late : (c : ℕ) (es : List Entry) → IsRisingFrom (suc c) es → IfSome (next_entry es) (λ m. c < m)
entry_late c [] h = tt
entry_late c (e ∷ es) h = (let first : suc c ≤ e.at = h.0 in omega (arith, first))

earlier_late : (c : ℕ) (a b : Option ℕ) → IfSome a (λ m. c < m) → IfSome b (λ m. c < m) → IfSome (earlier a b) (λ m. c < m)
earlier_late c None b h k = k
earlier_late c (Some a) None h k = h
earlier_late c (Some a) (Some b) h k = by_first (nat_lt b a)
  where
    by_first : (d : Bool) → c < (if d then b else a)
    by_first true = k
    by_first false = h

none_jumps : (c : ℕ) (o : Option ℕ) (until : ℕ) → IfSome o (λ m. c < m) → is_jump_before (c + 1) (up_to until o) ≡ false
none_jumps c None until h = refl
none_jumps c (Some m) until h = by_end (nat_lt until m)
  where
    by_end : (d : Bool) → is_jump_before (c + 1) (if d then Script else Jump m) ≡ false
    by_end true = refl
    by_end false = (let late : c < m = h in grind (arith, nat_tests))

wake_keyed : {X Y : Type 0} (f : X → Y) (c : ℕ) (ps : List (ℕ × X)) → WakeFrom c (keyed f ps) → WakeFrom c ps
wake_keyed f c [] h = tt
wake_keyed f c (p ∷ ps) h = (h.0, wake_keyed f c ps h.1)

-- the world's next moment is the board's
pub next_shown : (image : List ℕ) (e : Engine) (w : World Fiber Shared) → Represents image (state_of e) w → earlier (least w.sleepers) (next_entry w.board.script) ≡ next_moment e
next_shown image e w h =
    ap (λ s. earlier s (next_entry w.board.script)) (ap least h.sleepers ∙ least-keyed (of_key e.runtime.pool) e.runtime.lists.sleepers)
    ∙ ap (λ (p : Board). earlier (least e.runtime.lists.sleepers) (next_entry p.script)) h.board

-- and where it is later than a moment, nothing comes up to that one
pub none_up_to : (image : List ℕ) (t : ℕ) (e : Engine) (w : World Fiber Shared) → Represents image (state_of e) w → IfSome (next_moment e) (λ m. t < m) → e.bus.queue ≡ [] → moves_before (t + 1) w.board.queue w ≡ false
none_up_to image t e w h late quiet =
    ap (λ l. moves_before (t + 1) l w) (h.hears.queue ∙ quiet)
    ∙ none_jumps t (earlier (least w.sleepers) (next_entry w.board.script)) w.board.until (subst (λ (o : Option ℕ). IfSome o (λ m. t < m)) (sym (next_shown image e w h)) late)

-- what the board is known to have behind some instructions while the clock stood
pub record Known (t : ℕ) (script : List Entry) (e : Engine) : Type 0 where
  pub sound : is_by_clock (option_map end_of e.end) ≡ false
  pub clock : e.clock ≡ t
  pub wake : WakeFrom (suc t) e.runtime.lists.sleepers
  pub left : entries_left e ≡ script

pub known_late : (t : ℕ) (script : List Entry) (e : Engine) → Known t script e → IsRisingFrom (suc t) script → IfSome (next_moment e) (λ m. t < m)
known_late t script e k h = earlier_late t (least e.runtime.lists.sleepers) (next_entry (entries_left e)) (least_late t e.runtime.lists.sleepers k.wake) (entry_late t (entries_left e) (subst (IsRisingFrom (suc t)) (sym k.left) h))

pub known_shown : (image : List ℕ) (t until : ℕ) (script : List Entry) (e : Engine) (w : World Fiber Shared) → Represents image (state_of e) w → IsStanding t until script w → Known t script e
known_shown image t until script e w h s = record {
  sound = ap is_by_clock (sym (ap (λ (p : Board). p.end) h.board)) ∙ s.goes;
  clock = sym (ap (λ (p : Board). p.clock) h.board) ∙ s.clock_is;
  wake = wake_keyed (of_key e.runtime.pool) (suc t) e.runtime.lists.sleepers (subst (WakeFrom (suc t)) h.sleepers s.later);
  left = sym (ap (λ (p : Board). p.script) h.board) ∙ s.script_is;
}

pub known_through : (image : List ℕ) (t until : ℕ) (script : List Entry) (n : ℕ) (moves : List Move) (old new : Engine) (w : World Fiber Shared) → Represents image (state_of old) w → IsStanding t until script w
    → MakesTo (Some 0) image n moves (state_of old) (state_of new) → IsStayed new → Known t script new
known_through image t until script n moves old new w h s makes stayed =
    let K = fibers image in
    let x = makes _ 0 [] [] (shown_reaches (Some 0) image (state_of old) w h) in
    let v = x.1.at [] in
    let shows : Represents image (state_of new) v = x.1.shows [] in
    let start : World Fiber Shared = record w { board = record w.board { seen = []; unplugged = [] }; shared = record w.shared { free = ([] ++ x.0) ++ [] } } in
    let first : IsStanding t until script start = record { clock_is = s.clock_is; until_is = s.until_is; script_is = s.script_is; goes = s.goes; later = s.later } in
    let last = standing_run K t until script (n + 0) (idled_before K 0 start) (standing_idled K t until script start first) in
    let still : idled_before K 0 v ≡ v = stayed_rests image 0 new v stayed shows (λ q. none_before_first v.board.queue v (shows.hears.queue ∙ q)) in
    known_shown image t until script new v shows (subst (IsStanding t until script) (sym (x.1.settles []) ∙ still) last)
