-- Where the clock comes to a moment next, a run that goes on stands at it or behind it.
use Rattle.std.proofs.Common.{◌≡◌, ℕ, zero, suc, ◌+◌, ◌≤◌, Bool, true, false, not, ◌&&◌, if◌then◌else◌, nat_lt, List, [], ◌∷◌, refl, ap, sym, ◌∙◌, subst, arith}
use Rattle.std.proofs.lemmas.Bool.Decides.{nat_tests}
use Rattle.board_world.specs.declared.events.Event.{Event}
use Rattle.board_world.specs.declared.clock.Idle.{Idle}
use Rattle.board_world.specs.declared.clock.Idle.TheVariants.{Jump, Quiet, Script}
use Rattle.board_world.specs.Rules.{clock_move}
use Rattle.board_world.specs.Board.{next_entry, over}
use Rattle.board_world.specs.Waiting.{least}
use Rattle.board_world.specs.Kinds.{Kind}
use Rattle.board_world.specs.Activities.{Activity, World}
use Rattle.board_world.specs.World.{jump, clock_moves, moved, idle_bound}
use Rattle.board_world.specs.Before.{is_by_clock, is_jump_before, moves_before, idle_before, idled_before, run_before}
use Rattle.board_world.proofs.Laws.{IsTimely, On, on_trans, by_clock_over, clock_all, moved_on, first_before}
use Rattle.class_world.proofs.Laws.{end_all, on_run}

module _ {A S : Type 0} (K : Kind A S) (u : ℕ) where
  -- an idle move before a moment doesn't end the run
  move_sound : (queue : List Event) (w : World A S) → over w.board ≡ false → moves_before u queue w ≡ true → is_by_clock (moved K queue w).board.end ≡ false
  move_sound (e ∷ rest) w o m = by_clock_over w.board.end o
  move_sound [] w o m = by_move (clock_move (least w.sleepers) (next_entry w.board.script) w.board.until) m
    where
      by_move : (i : Idle) → is_jump_before u i ≡ true → is_by_clock (clock_moves i w).board.end ≡ false
      by_move (Jump s) m' = ap is_by_clock (end_all s w.board.script (record w.board { clock = s })) ∙ by_clock_over w.board.end o
      by_move Quiet m' = absurd (cc)
      by_move Script m' = absurd (cc)

  on_idle : (n : ℕ) (xs : List (Activity A)) (w : World A S) → IsTimely w → On w (idle_before K u n xs w)
  on_idle zero xs w h = record { timely = h; clock = omega arith }
  on_idle (suc n) (x ∷ xs) w h = record { timely = h; clock = omega arith }
  on_idle (suc n) [] w h = by_test (over w.board) (moves_before u w.board.queue w) refl refl (λ k. on_idle n (moved K w.board.queue w).ready (moved K w.board.queue w) k)
    where
      Next : World A S
      Next = moved K w.board.queue w

      by_test : (c d : Bool) → over w.board ≡ c → moves_before u w.board.queue w ≡ d → (IsTimely Next → On Next (idle_before K u n Next.ready Next)) → On w (if not c && d then idle_before K u n Next.ready Next else w)
      by_test true d o m ih = record { timely = h; clock = omega arith }
      by_test false false o m ih = record { timely = h; clock = omega arith }
      by_test false true o m ih = (let first = moved_on K w.board.queue w h (move_sound w.board.queue w o m) in on_trans w Next (idle_before K u n Next.ready Next) first (ih first.timely))

pub clock_from : {A S : Type 0} (K : Kind A S) (t n : ℕ) (w : World A S) → IsTimely w → w.ready ≡ [] → over w.board ≡ false → w.board.queue ≡ []
    → clock_move (least w.sleepers) (next_entry w.board.script) w.board.until ≡ Jump t → t ≤ (run_before K (t + 1) n (idled_before K (t + 1) w)).board.clock
clock_from K t n w timely nobody on none says =
    let soon : nat_lt t (t + 1) ≡ true = grind (arith, nat_tests) in
    let moves : moves_before (t + 1) w.board.queue w ≡ true = ap (λ l. moves_before (t + 1) l w) none ∙ ap (is_jump_before (t + 1)) says ∙ soon in
    let is : moved K w.board.queue w ≡ jump t w = ap (λ l. moved K l w) none ∙ ap (λ i. clock_moves i w) says in
    let here : (jump t w).board.clock ≡ t = clock_all t w.board.script (record w.board { clock = t }) in
    let first : On w (jump t w) = subst (λ v. On w v) is (moved_on K w.board.queue w timely (move_sound K (t + 1) w.board.queue w on moves)) in
    let idle = on_idle K (t + 1) (idle_bound (jump t w).board) (jump t w).ready (jump t w) first.timely in
    let more = on_run K (t + 1) n (idled_before K (t + 1) (jump t w)) idle.timely in
    let same : idled_before K (t + 1) (jump t w) ≡ idled_before K (t + 1) w = ap (idled_before K (t + 1)) (sym is) ∙ first_before K (t + 1) (t + 1) (omega arith) w nobody on moves in
    let low : t ≤ (run_before K (t + 1) n (idled_before K (t + 1) (jump t w))).board.clock =
    (let a : (jump t w).board.clock ≤ (idled_before K (t + 1) (jump t w)).board.clock = idle.clock in let b : (idled_before K (t + 1) (jump t w)).board.clock ≤ (run_before K (t + 1) n (idled_before K (t + 1) (jump t w))).board.clock = more.clock in omega (arith, here, a, b)) in
    subst (λ v. t ≤ (run_before K (t + 1) n v).board.clock) same low
