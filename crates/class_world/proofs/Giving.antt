-- Events that are given to a run which stops before their moment: at its beginning or behind it alike.
use Rattle.std.proofs.Common.{◌≡◌, ℕ, suc, ◌+◌, ◌≤◌, List, [], ◌∷◌, ◌++◌, refl, ap, sym, ◌∙◌, subst, arith}
use Rattle.std.proofs.lemmas.List.Elements.{All-nil, All-cons}
use Rattle.board_world.specs.declared.events.Event.{Event}
use Rattle.board_world.specs.Board.{Entry, Raise}
use Rattle.board_world.specs.Kinds.{Kind}
use Rattle.board_world.specs.Activities.{World}
use Rattle.board_world.specs.Simulation.{IsSettled}
use Rattle.board_world.specs.Before.{IsFrom, IsRisingFrom, then_later, idled_before, run_before}
use Rattle.board_world.proofs.Laws.{run_then, run_alike, run_on_to}
use Rattle.class_world.specs.Hearing.{inserted, with_heard, raised_at}
use Rattle.class_world.specs.Keeping.{with_kept, moment_run}
use Rattle.class_world.proofs.Moments.{Each, left_run}
use Rattle.class_world.proofs.Scripts.{rising_placed}
use Rattle.class_world.proofs.Kept.{raised_behind, before_sum}

from_rising : (t c : ℕ) (es : List Entry) → t ≤ c → IsRisingFrom c es → IsFrom t es
from_rising t c [] l h = All-nil (λ (e : Entry). t ≤ e.at)
from_rising t c (e ∷ es) l h = (let first : c ≤ e.at = h.0 in All-cons (λ (x : Entry). t ≤ x.at) e es (omega (arith, l, first)) (from_rising t e.at es (omega (arith, l, first)) h.1))

-- events of a moment behind entries that rise from it on
pub rising_kept : (t : ℕ) (events : List Event) (es : List Entry) → IsRisingFrom t es → IsRisingFrom t (with_heard (raised_at t events) es)
rising_kept t [] es h = h
rising_kept t (e ∷ rest) es h = (let x : Entry = record { at = t; act = Raise e } in rising_kept t rest (inserted x es) (rising_placed t x es (omega arith) h))

none_left : (es : List Entry) → Each (λ e. ⊥) es → es ≡ []
none_left [] h = refl
none_left (e ∷ es) h = absurd h.0

all_of : (t : ℕ) (es : List Entry) → Each (λ e. ⊥) es → Each (λ e. suc e.at ≤ t) es
all_of t [] h = tt
all_of t (e ∷ es) h = absurd h.0

module _ {A S : Type 0} (K : Kind A S) (t : ℕ) (events : List Event) (w : World A S) (rising : IsRisingFrom t w.board.script) where
  -- the world without its entries, none of which is before the moment
  abbrev bare : World A S
  bare = record w { board = record w.board { script = [] } }

  pub kept_before : (n : ℕ) → run_before K t n (with_kept t events w) ≡ with_kept t events (run_before K t n w)
  kept_before n =
      (let es = w.board.script in
      let ks = raised_at t events in
      let v : World A S = run_before K t n bare in
      let left = left_run K (λ e. ⊥) t n bare tt in
      let plain : run_before K t n w ≡ then_later es v = run_then K t es (from_rising t t es (omega arith) rising) n bare in
      let kept : run_before K t n (with_kept t events w) ≡ then_later (with_heard ks es) v = run_then K t (with_heard ks es) (from_rising t t (with_heard ks es) (omega arith) (rising_kept t events es rising)) n bare in
      let same : v.board.script ++ with_heard ks es ≡ with_heard ks (v.board.script ++ es) = sym (raised_behind t events v.board.script es (all_of t v.board.script left)) in
      kept ∙ ap (λ (l : List Entry). record v { board = record v.board { script = l } }) same ∙ ap (with_kept t events) (sym plain))

  -- so a run that has settled before a step goes on behind it through the moment as one that had these events from its beginning on
  pub given_early : (n k : ℕ) → IsSettled (run_before K t n w) → run_before K (t + 1) (k + suc n) (with_kept t events w) ≡ moment_run K t k events (run_before K t (suc n) w)
  given_early n k s =
      (let settled : IsSettled (run_before K t n (with_kept t events w)) = subst IsSettled (sym (kept_before n)) s in
      before_sum K (t + 1) (suc n) k (with_kept t events w)
      ∙ ap (run_before K (t + 1) k) (run_on_to K t (t + 1) (omega arith) n (with_kept t events w) settled)
      ∙ ap (λ (v : World A S). run_before K (t + 1) k (idled_before K (t + 1) v)) (kept_before (suc n)))

  -- and one that is settled is the same before the next moment
  pub given_still : (n : ℕ) → IsSettled (run_before K t n w) → run_before K (t + 1) n (with_kept t events w) ≡ with_kept t events (run_before K t n w)
  given_still n s =
      (let settled : IsSettled (run_before K t n (with_kept t events w)) = subst IsSettled (sym (kept_before n)) s in
      run_alike K t (t + 1) (omega arith) n (with_kept t events w) settled ∙ kept_before n)
