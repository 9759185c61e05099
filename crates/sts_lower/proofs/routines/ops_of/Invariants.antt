use Rattle.std.proofs.Common.{◌≡◌, ◌++◌}
use Rattle.sts_syntax.specs.TypedViews.{typed_statements}
use Rattle.sts_lower.specs.Statements as t
use Rattle.sts_lower.specs.inner.Works.{ExpandAll}
use Rattle.sts_lower.proofs.Opened.{ops_of, ops_of_all}
use Rattle.sts_lower.proofs.Fitted.{AllFit}
use Rattle.sts_lower.specs.inner.Shown.{works, layout}
use Rattle.sts_lower.proofs.Loads.{load}
use Rattle.sts_lower.proofs.routines.ops_of.Given as goal

abbrev pub invariant-loop-work : goal.invariant-loop-work
invariant-loop-work l = record {
  ops : l.ops ++ ops_of_all (layout l.frame) (works l.stack) ≡ ops_of (layout l.frame) (ExpandAll (typed_statements l.all) 0 l.end l.end l.end) ++ t.bare_code l.frame.maker l.frame.base;
  fits : AllFit (layout l.frame) (works l.stack);
}

abbrev pub decreases-loop-work : goal.decreases-loop-work
decreases-loop-work l = load (works l.stack)
