-- Runs that stop before a moment go on from there.
use Rattle.std.proofs.Common.{◌≡◌, ℕ, zero, suc, ◌+◌, ◌≤◌, ◌<◌, inl, inr, Bool, true, false, not, ◌&&◌, if◌then◌else◌, List, [], ◌∷◌, length, refl, ap, sym, ◌∙◌, subst, arith}
use Rattle.std.proofs.lemmas.Bool.Decides.{nat_tests}
use Rattle.board_world.specs.declared.events.Event.{Event}
use Rattle.board_world.specs.declared.clock.Idle.{Idle}
use Rattle.board_world.specs.declared.clock.Idle.TheVariants.{Jump, Quiet, Script}
use Rattle.board_world.specs.Rules.{clock_move}
use Rattle.board_world.specs.Board.{over, next_entry}
use Rattle.board_world.specs.Waiting.{least}
use Rattle.board_world.specs.Kinds.{Kind}
use Rattle.board_world.specs.Activities.{Activity, World}
use Rattle.board_world.specs.World.{moved, idle_bound, acted}
use Rattle.board_world.specs.Simulation.{IsSettled}
use Rattle.board_world.specs.Before.{is_jump_before, moves_before, idle_before, idled_before, stepped_before, tick_before, run_before}
use Rattle.board_world.proofs.Settle.{progress, due}
use Rattle.board_world.proofs.Before.{rests, enough_before}

jump_sooner : (t u : ℕ) → t ≤ u → (i : Idle) → is_jump_before t i ≡ true → is_jump_before u i ≡ true
jump_sooner t u le (Jump s) h = (let less : s < t = grind (arith, nat_tests) in grind (arith, nat_tests))
jump_sooner t u le Quiet h = cc
jump_sooner t u le Script h = cc

module _ {A S : Type 0} (K : Kind A S) (t u : ℕ) (later : t ≤ u) where
  moves_sooner : (queue : List Event) (w : World A S) → moves_before t queue w ≡ true → moves_before u queue w ≡ true
  moves_sooner (e ∷ rest) w h = refl
  moves_sooner [] w h = jump_sooner t u later (clock_move (least w.sleepers) (next_entry w.board.script) w.board.until) h

  -- one idle move may be made first
  pub first_before : (w : World A S) → w.ready ≡ [] → over w.board ≡ false → moves_before u w.board.queue w ≡ true → idled_before K u (moved K w.board.queue w) ≡ idled_before K u w
  first_before w e o h =
      (let v = moved K w.board.queue w in
      let n : ℕ = 1 + due w.board in
      let unfolded : idled_before K u w ≡ idle_before K u n v.ready v = at_suc n (omega arith) in
      elim (progress K w.board.queue w refl) [
        | inl s ↦ rests K u (idle_bound v.board) v s ∙ sym (rests K u n v s) ∙ sym unfolded
        | inr l ↦ sym (enough_before K u (idle_bound v.board) n v.ready v (omega arith) (omega arith)) ∙ sym unfolded
      ])
    where
      at_suc : (n : ℕ) → idle_bound w.board ≡ suc n → idled_before K u w ≡ idle_before K u n (moved K w.board.queue w).ready (moved K w.board.queue w)
      at_suc n s = ap (λ (m : ℕ). idle_before K u m w.ready w) s ∙ ap (λ (xs : List (Activity A)). idle_before K u (suc n) xs w) e ∙ one n
        where
          one : (m : ℕ) → idle_before K u (suc m) [] w ≡ idle_before K u m (moved K w.board.queue w).ready (moved K w.board.queue w)
          one m = rw (o, h) refl

  idle_on_to : (n : ℕ) (xs : List (Activity A)) (w : World A S) → w.ready ≡ xs → idled_before K u (idle_before K t n xs w) ≡ idled_before K u w
  idle_on_to zero xs w e = refl
  idle_on_to (suc n) (x ∷ xs) w e = refl
  idle_on_to (suc n) [] w e = by_case (over w.board) (moves_before t w.board.queue w) refl refl (idle_on_to n (moved K w.board.queue w).ready (moved K w.board.queue w) refl)
    where
      Next : World A S
      Next = moved K w.board.queue w

      by_case : (c d : Bool) → over w.board ≡ c → moves_before t w.board.queue w ≡ d → idled_before K u (idle_before K t n Next.ready Next) ≡ idled_before K u Next
          → idled_before K u (if not c && d then idle_before K t n Next.ready Next else w) ≡ idled_before K u w
      by_case true d o h ih = refl
      by_case false false o h ih = refl
      by_case false true o h ih = ih ∙ first_before w e o (moves_sooner w.board.queue w h)

  -- idle moves before a later moment go on from those before
  pub idled_on_to : (w : World A S) → idled_before K u (idled_before K t w) ≡ idled_before K u w
  idled_on_to w = idle_on_to (idle_bound w.board) w.ready w refl

  idle_alike : (n : ℕ) (xs : List (Activity A)) (w : World A S) → w.ready ≡ xs → IsSettled (idle_before K t n xs w) → idle_before K u n xs w ≡ idle_before K t n xs w
  idle_alike zero xs w e h = refl
  idle_alike (suc n) (x ∷ xs) w e h = refl
  idle_alike (suc n) [] w e h = by_case (over w.board) (moves_before t w.board.queue w) refl refl (idle_alike n (moved K w.board.queue w).ready (moved K w.board.queue w) refl) h
    where
      Next : World A S
      Next = moved K w.board.queue w

      by_case : (c d : Bool) → over w.board ≡ c → moves_before t w.board.queue w ≡ d → (IsSettled (idle_before K t n Next.ready Next) → idle_before K u n Next.ready Next ≡ idle_before K t n Next.ready Next)
          → IsSettled (if not c && d then idle_before K t n Next.ready Next else w)
          → (if not c && moves_before u w.board.queue w then idle_before K u n Next.ready Next else w) ≡ (if not c && d then idle_before K t n Next.ready Next else w)
      by_case true d o m ih k = refl
      by_case false true o m ih k = rw (moves_sooner w.board.queue w m) (ih k)
      by_case false false o m ih k = (let long : 0 < length w.ready = k o in let short : length w.ready ≡ 0 = ap length e in absurd (omega (arith, long, short)))

  tick_alike : (x y : World A S) → IsSettled (tick_before K t x) → (IsSettled x → y ≡ x) → tick_before K u y ≡ tick_before K t x
  tick_alike x y h same = by_case (over x.board) x.ready refl refl h
    where
      by_case : (c : Bool) (xs : List (Activity A)) → over x.board ≡ c → x.ready ≡ xs → IsSettled (if c then x else stepped_before K t xs x) → tick_before K u y ≡ (if c then x else stepped_before K t xs x)
      by_case true xs o e k = subst (λ (z : World A S). tick_before K u z ≡ x) (sym (same (λ p. absurd (cc)))) (rw o refl)
      by_case false [] o e k = (let long : 0 < length x.ready = k o in let short : length x.ready ≡ 0 = ap length e in absurd (omega (arith, long, short)))
      by_case false (a ∷ rest) o e k =
          (let v = acted K a rest x (K.step a.self x.shared) in
          let there : length x.ready ≡ suc (length rest) = ap length e in
          subst (λ (z : World A S). tick_before K u z ≡ idled_before K t v) (sym (same (λ p. omega (arith, there)))) (ap (λ (c : Bool). if c then x else stepped_before K u x.ready x) o ∙ ap (λ (xs : List (Activity A)). stepped_before K u xs x) e ∙ idle_alike (idle_bound v.board) v.ready v refl k))

  pub run_alike : (n : ℕ) (w : World A S) → IsSettled (run_before K t n w) → run_before K u n w ≡ run_before K t n w
  run_alike zero w h = refl
  run_alike (suc n) w h = tick_alike (run_before K t n w) (run_before K u n w) h (run_alike n w)

  tick_on_to : (x : World A S) → IsSettled x → tick_before K u x ≡ idled_before K u (tick_before K t x)
  tick_on_to x h = by_case (over x.board) x.ready refl refl
    where
      by_case : (c : Bool) (xs : List (Activity A)) → over x.board ≡ c → x.ready ≡ xs → (if c then x else stepped_before K u xs x) ≡ idled_before K u (if c then x else stepped_before K t xs x)
      by_case true xs o e = sym (rests K u (idle_bound x.board) x h)
      by_case false [] o e = (let long : 0 < length x.ready = h o in let short : length x.ready ≡ 0 = ap length e in absurd (omega (arith, long, short)))
      by_case false (a ∷ rest) o e = sym (idled_on_to (acted K a rest x (K.step a.self x.shared)))

  -- a run that stops before t goes on to u with the idle moves that are left, where its last step was one
  pub run_on_to : (n : ℕ) (w : World A S) → IsSettled (run_before K t n w) → run_before K u (suc n) w ≡ idled_before K u (run_before K t (suc n) w)
  run_on_to n w h = ap (tick_before K u) (run_alike n w h) ∙ tick_on_to (run_before K t n w) h
