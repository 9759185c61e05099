-- What is assigned to.
use Rattle.std.proofs.Common.{ℕ, suc, ◌+◌, ◌≤◌, List, Some, None, arith, ℤ, Bool}
use Rattle.sts_syntax.specs.Types.{ValueType}
use Rattle.sts_syntax.specs.TypedTrees as e
use Rattle.sts_syntax.specs.TypedTrees.{TypedTree, ClassEntry}
use Rattle.sts_syntax.specs.Measures.{hold}
use Rattle.sts_lower.specs.Sizes.{target}
use Rattle.sts_lower.specs.Code.{stored_at}
use Rattle.sts_lower.specs.inner.Fitting.{IsTarget, IsLowerable, TargetFits}
use Rattle.sts_lower.proofs.Fitted.{hold_positive}

pub target_fits : (params : ℕ) (x : TypedTree) → IsTarget params x → TargetFits params (target x)
target_fits params (e.Name u x) is = is
target_fits params (e.Field u a f) is = tt
target_fits params (e.Item u a i) is = tt
target_fits params x is = absurd is

module _ (classes : List ClassEntry) (repeating : ℕ → ℕ) (params base : ℕ) where
  -- the operand that is stored is among those that are held
  pub store_holds : (u : ValueType) (x r : TypedTree) (d : ℕ) → IsLowerable params (e.Set u None x r)
      → suc (stored_at classes repeating params base (target x) d) ≤ d + hold (e.Set u None x r)
  store_holds u (e.Name v x) r d is = omega (arith, hold_positive params r is.1)
  store_holds u (e.Field v a f) r d is = omega (arith, hold_positive params r is.1)
  store_holds u (e.Item v a i) r d is = omega (arith, hold_positive params r is.1)
  store_holds u x r d is = absurd is.0

  pub compound_holds : (u : ValueType) (op : ℕ) (x r : TypedTree) (d : ℕ) → IsLowerable params (e.Set u (Some op) x r)
      → suc (suc (stored_at classes repeating params base (target x) d)) ≤ d + hold (e.Set u (Some op) x r)
  compound_holds u op (e.Name v x) r d is = omega (arith, hold_positive params r is.1)
  compound_holds u op (e.Field v a f) r d is = omega (arith, hold_positive params r is.1)
  compound_holds u op (e.Item v a i) r d is = omega (arith, hold_positive params r is.1)
  compound_holds u op x r d is = absurd is.0

  pub bump_holds : (u : ValueType) (x : TypedTree) (by : ℤ) (late : Bool) (d : ℕ) → IsLowerable params (e.Bump u x by late)
      → suc (stored_at classes repeating params base (target x) d) ≤ d + hold (e.Bump u x by late)
  bump_holds u (e.Name v x) by late d is = omega arith
  bump_holds u (e.Field v a f) by late d is = omega arith
  bump_holds u (e.Item v a i) by late d is = omega arith
  bump_holds u x by late d is = absurd is
