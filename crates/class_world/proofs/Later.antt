-- From a moment on: what is seen behind it was not seen before it.
use Rattle.std.proofs.Common.{◌≡◌, ℕ, zero, suc, ◌+◌, ◌≤◌, Bool, true, false, not, ◌&&◌, if◌then◌else◌, nat_lt, List, [], ◌∷◌, refl, ap, sym, ◌∙◌, subst, arith}
use Rattle.std.proofs.lemmas.Bool.Decides.{nat_tests}
use Rattle.board_world.specs.declared.events.Event.{Event}
use Rattle.board_world.specs.declared.clock.Idle.{Idle}
use Rattle.board_world.specs.declared.clock.Idle.TheVariants.{Jump, Quiet, Script}
use Rattle.board_world.specs.Observations.{Observation}
use Rattle.board_world.specs.Rules.{clock_move}
use Rattle.board_world.specs.Board.{Board, next_entry, over}
use Rattle.board_world.specs.Waiting.{least}
use Rattle.board_world.specs.Kinds.{Kind, Turn}
use Rattle.board_world.specs.Activities.{Activity, World}
use Rattle.board_world.specs.World.{jump, clock_moves, moved, idle_bound, acted}
use Rattle.board_world.specs.Before.{is_by_clock, is_jump_before, moves_before, idle_before, idled_before, stepped_before, tick_before, run_before}
use Rattle.board_world.proofs.Laws.{IsTimely, if_keeps, On, on_trans, by_clock_over, clock_all, moved_on, acted_on, first_before}
use Rattle.class_world.specs.Hearing.{before}
use Rattle.class_world.proofs.Moments.{now_acted, before_later, seen_idle_before, seen_all, end_all}

module _ {A S : Type 0} (K : Kind A S) (u : ℕ) where
  on_same : (w : World A S) → IsTimely w → On w w
  on_same w h = record { timely = h; clock = omega arith }

  on_idle : (n : ℕ) (xs : List (Activity A)) (w : World A S) → IsTimely w → On w (idle_before K u n xs w)
  on_idle zero xs w h = on_same w h
  on_idle (suc n) (x ∷ xs) w h = on_same w h
  on_idle (suc n) [] w h = by_test (over w.board) (moves_before u w.board.queue w) refl refl (λ k. on_idle n (moved K w.board.queue w).ready (moved K w.board.queue w) k)
    where
      Next : World A S
      Next = moved K w.board.queue w

      not_ended : (queue : List Event) → over w.board ≡ false → moves_before u queue w ≡ true → is_by_clock (moved K queue w).board.end ≡ false
      not_ended (e ∷ rest) o m = by_clock_over w.board.end o
      not_ended [] o m = by_move (clock_move (least w.sleepers) (next_entry w.board.script) w.board.until) m
        where
          by_move : (i : Idle) → is_jump_before u i ≡ true → is_by_clock (clock_moves i w).board.end ≡ false
          by_move (Jump s) m' = ap is_by_clock (end_all s w.board.script (record w.board { clock = s })) ∙ by_clock_over w.board.end o
          by_move Quiet m' = absurd (cc)
          by_move Script m' = absurd (cc)

      by_test : (c d : Bool) → over w.board ≡ c → moves_before u w.board.queue w ≡ d → (IsTimely Next → On Next (idle_before K u n Next.ready Next)) → On w (if not c && d then idle_before K u n Next.ready Next else w)
      by_test true d o m ih = on_same w h
      by_test false false o m ih = on_same w h
      by_test false true o m ih = (let first = moved_on K w.board.queue w h (not_ended w.board.queue o m) in on_trans w Next (idle_before K u n Next.ready Next) first (ih first.timely))

  on_tick : (w : World A S) → IsTimely w → On w (tick_before K u w)
  on_tick w h = if_keeps (On w) (over w.board) w (stepped_before K u w.ready w) (on_same w h) (by_ready w.ready)
    where
      by_ready : (xs : List (Activity A)) → On w (stepped_before K u xs w)
      by_ready [] = on_same w h
      by_ready (a ∷ rest) = (let v = acted K a rest w (K.step a.self w.shared) in let first = acted_on K a rest w (K.step a.self w.shared) h in on_trans w v (idled_before K u v) first (on_idle (idle_bound v.board) v.ready v first.timely))

  -- the clock doesn't go back
  pub on_run : (n : ℕ) (w : World A S) → IsTimely w → On w (run_before K u n w)
  on_run zero w h = on_same w h
  on_run (suc n) w h = (let v = run_before K u n w in let first = on_run n w h in on_trans w v (tick_before K u v) first (on_tick v first.timely))

  module _ (t : ℕ) (old : List Observation) where
    record IsLater (w : World A S) : Type 0 where
      pub timely : IsTimely w
      pub clock : t ≤ w.board.clock
      pub seen : before t w.board.seen ≡ old

    later_idle : (w : World A S) → IsLater w → IsLater (idled_before K u w)
    later_idle w h =
        (let r = on_idle (idle_bound w.board) w.ready w h.timely in
        record { timely = r.timely; clock = (let low : t ≤ w.board.clock = h.clock in let more : w.board.clock ≤ (idled_before K u w).board.clock = r.clock in omega (arith, low, more)); seen = ap (before t) (seen_idle_before K u (idle_bound w.board) w.ready w) ∙ h.seen })

    later_acted : (a : Activity A) (others : List (Activity A)) (w : World A S) (turn : Turn A S) → IsLater w → IsLater (acted K a others w turn)
    later_acted a others w turn h =
        (let r = now_acted (λ c u' es os. (t ≤ c) × (before t os ≡ old)) K a others w turn (h.clock, h.seen) (λ o e. (h.clock, before_later t o w.board.seen (let low : t ≤ w.board.clock = h.clock in omega (arith, e, low)) ∙ h.seen)) in
        record { timely = (acted_on K a others w turn h.timely).timely; clock = r.0; seen = r.1 })

    later_tick : (w : World A S) → IsLater w → IsLater (tick_before K u w)
    later_tick w h = if_keeps IsLater (over w.board) w (stepped_before K u w.ready w) h (by_ready w.ready)
      where
        by_ready : (xs : List (Activity A)) → IsLater (stepped_before K u xs w)
        by_ready [] = h
        by_ready (a ∷ rest) = later_idle (acted K a rest w (K.step a.self w.shared)) (later_acted a rest w (K.step a.self w.shared) h)

    later_run : (n : ℕ) (w : World A S) → IsLater w → IsLater (run_before K u n w)
    later_run zero w h = h
    later_run (suc n) w h = later_tick (run_before K u n w) (later_run n w h)

-- where the clock comes to a moment next, what is seen from then on was not seen before it
pub seen_from : {A S : Type 0} (K : Kind A S) (t n : ℕ) (w : World A S) → IsTimely w → w.ready ≡ [] → over w.board ≡ false → w.board.queue ≡ []
    → clock_move (least w.sleepers) (next_entry w.board.script) w.board.until ≡ Jump t → before t (run_before K (t + 1) n (idled_before K (t + 1) w)).board.seen ≡ before t w.board.seen
seen_from K t n w timely nobody on none says =
    let soon : nat_lt t (t + 1) ≡ true = grind (arith, nat_tests) in
    let moves : moves_before (t + 1) w.board.queue w ≡ true = ap (λ l. moves_before (t + 1) l w) none ∙ ap (is_jump_before (t + 1)) says ∙ soon in
    let is : moved K w.board.queue w ≡ jump t w = ap (λ l. moved K l w) none ∙ ap (λ i. clock_moves i w) says in
    let now : Board = record w.board { clock = t } in
    let here : (jump t w).board.clock ≡ t = clock_all t w.board.script now in
    let goes : is_by_clock (moved K w.board.queue w).board.end ≡ false = ap (λ v. is_by_clock v.board.end) is ∙ ap is_by_clock (end_all t w.board.script now) ∙ by_clock_over w.board.end on in
    let first : On w (jump t w) = subst (λ v. On w v) is (moved_on K w.board.queue w timely goes) in
    let begin : IsLater K (t + 1) t (before t w.board.seen) (jump t w) = record { timely = first.timely; clock = omega (arith, here); seen = ap (before t) (seen_all t w.board.script now) } in
    let last = later_run K (t + 1) t (before t w.board.seen) n (idled_before K (t + 1) (jump t w)) (later_idle K (t + 1) t (before t w.board.seen) (jump t w) begin) in
    let same : idled_before K (t + 1) (jump t w) ≡ idled_before K (t + 1) w = ap (idled_before K (t + 1)) (sym is) ∙ first_before K (t + 1) (t + 1) (omega arith) w nobody on moves in
    ap (λ v. before t (run_before K (t + 1) n v).board.seen) (sym same) ∙ last.seen
