use Rattle.std.proofs.Common.{◌≡◌, refl, sym, ◌∙◌, set, true}
use Rattle.derived_types.specs.declared.work.Work.{Work}
use Rattle.derived_types.proofs.Working.{wakes_one, not_true, set_then}
use Rattle.derived_types.proofs.work.Work.wake.Goals as goal

pub returns-in_ok-put : goal.returns-in_ok-put
returns-in_ok-put c =
    let old : Work = c.args.self.now in
    let new : Work = record old { woken = c.put.new.list; is_woken = c.mark.new.marks } in
    let marks : c.mark.new.marks.items ≡ set old.is_woken.items c.args.d true = set_then c.mark.result _ _ old.is_woken.items (sym c.if-mark.true) c.mark.ensures.marked in
    wakes_one old new c.args.d (not_true _ (sym c.if-mark.true ∙ c.mark.ensures.first)) marks c.in_ok-put.ensures refl
