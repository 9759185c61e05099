use Rattle.std.proofs.Common.{◌<◌, ◌++◌, List, sym, ap, subst, ◌∙◌}
use Rattle.sts_lower.specs.declared.work.Work.{Work as Piece}
use Rattle.sts_lower.proofs.Opened.{ops_of_all}
use Rattle.sts_lower.proofs.Fitted.{AllFit}
use Rattle.sts_lower.specs.inner.Shown.{layout, works, work_shown}
use Rattle.sts_lower.proofs.Loads.{load}
use Rattle.sts_lower.proofs.Turns.{turn_ops, turn_fits, turn_less}
use Rattle.sts_lower.proofs.routines.ops_of.Goals as goal

pub loop-work-smaller : goal.loop-work-smaller
loop-work-smaller c =
    let less = turn_less (layout c.args.frame.now) (work_shown c.in-Some.work) (works c.pop.new.self) (works c.do_work.new.stack) c.in_ok-do_work.ensures.pieces in
    let P : List Piece → Type 0 = λ all. load (works c.do_work.new.stack) < load (works all) in
    subst P (sym c.in-Some.ensures) less

pub loop-work-preserved : goal.loop-work-preserved
loop-work-preserved c =
    let L = layout c.args.frame.now in
    let w = work_shown c.in-Some.work in
    let rest = works c.pop.new.self in
    let new = works c.do_work.new.stack in
    let pieces = c.in_ok-do_work.ensures.pieces in
    let P : List Piece → Type 0 = λ all. AllFit L (works all) in
    record {
      ops = turn_ops L w rest new c.loop-work.ops c.do_work.new.ops c.in_ok-do_work.ensures.ops pieces
          ∙ ap (λ all. c.loop-work.ops ++ ops_of_all L (works all)) (sym c.in-Some.ensures) ∙ c.loop-work.invariant.ops;
      fits = turn_fits L w rest new pieces (subst P c.in-Some.ensures c.loop-work.invariant.fits);
    }
