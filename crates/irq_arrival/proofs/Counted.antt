-- How many instructions of a course are executed within a budget, and that nothing changes behind them.
use Rattle.std.proofs.Common.{◌≡◌, ℕ, zero, suc, ◌+◌, ◌-◌, ◌≤◌, ◌⊎◌, inl, inr, Bool, true, false, List, refl, sym, ap, ◌∙◌, subst, arith}
use Rattle.std.proofs.lemmas.Bool.{cases_lt}
use Rattle.board_world.specs.Board.{over}
use Rattle.board_world.specs.Kinds.{Kind}
use Rattle.board_world.specs.Activities.{World}
use Rattle.board_world.specs.Runs.{Arrival, run_with}
use Rattle.board_world.proofs.Laws.{with_over_later}
use Rattle.bank_model.specs.Fibers.{Fiber, Shared}
use Rattle.board_run.specs.Ran.{IsExecuted}

-- the least number of instructions after which a course is over, or the budget
next_executed : (at : ℕ → World Fiber Shared) (b n : ℕ) → IsExecuted at b n → (is : Bool) → over (at n).board ≡ is → (m : ℕ) × IsExecuted at (suc b) m
next_executed at b n e true is = (n, record { within = omega (arith, e.within); not_before = e.not_before; done = inr is })
next_executed at b n e false is = whole e.done
  where
    whole : (n ≡ b) ⊎ (over (at n).board ≡ true) → (m : ℕ) × IsExecuted at (suc b) m
    whole (inl same) = (
      suc b,
      record {
        within = omega arith;
        not_before = λ k l. elim (cases_lt k n) [ inl less ↦ e.not_before k less | inr more ↦ subst (λ i. over (at i).board ≡ false) (let s : n ≡ k = omega arith in s) is ];
        done = inl refl;
      },
    )
    whole (inr end) = absurd (let c : false ≡ true = sym is ∙ end in cc)

pub least_executed : (at : ℕ → World Fiber Shared) (budget : ℕ) → (n : ℕ) × IsExecuted at budget n
least_executed at zero = (zero, record { within = omega arith; not_before = λ n l. absurd (omega arith); done = inl refl })
least_executed at (suc b) = (let r = least_executed at b in next_executed at b r.0 r.1 (over (at r.0).board) refl)

-- where a course is over, it is the same from then on
pub with_ended : {A S : Type 0} (K : Kind A S) (arrivals : List Arrival) (e m : ℕ) (w : World A S) → e ≤ m → over (run_with K arrivals e w).board ≡ true → run_with K arrivals m w ≡ run_with K arrivals e w
with_ended K arrivals e m w l o = (let sum : m ≡ (m - e) + e = omega arith in ap (λ i. run_with K arrivals i w) sum ∙ with_over_later K e (m - e) arrivals w o)
