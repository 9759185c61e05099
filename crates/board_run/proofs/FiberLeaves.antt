-- The running fiber ends.
use Rattle.std.proofs.Common.{◌≡◌, ℕ, Bool, true, false, not, Option, Some, None, MatchOption, is_some, refl, sym, ap, ◌∙◌}
use Rattle.fiber_runtime.specs.declared.turning.Turning.{Turning}
use Rattle.fiber_runtime.specs.State.{State, running_key}
use Rattle.fiber_runtime.specs.Moves.{Ended}

pub ended_is : (old new : State) (o : Option ℕ) → o ≡ running_key old.running → (c : Bool) → is_some o ≡ not c → c ≡ false
    → ((key : ℕ) (t : Turning) → old.running ≡ Some t → t.key ≡ Some key → Ended key old new)
    → (t : Turning) → old.running ≡ Some t → MatchOption t.key (new ≡ record old { running = None }) (λ key. Ended key old new)
ended_is old new o k c e f ends t runs = by_key t.key refl
  where
    some : is_some t.key ≡ true
    some = ap (λ x. is_some (running_key x)) (sym runs) ∙ ap is_some (sym k) ∙ e ∙ ap not f

    by_key : (x : Option ℕ) → t.key ≡ x → MatchOption x (new ≡ record old { running = None }) (λ key. Ended key old new)
    by_key (Some key) q = ends key t runs q
    by_key None q = absurd (let z : ◌≡◌ {A = Bool} false true = ap is_some (sym q) ∙ some in cc)
