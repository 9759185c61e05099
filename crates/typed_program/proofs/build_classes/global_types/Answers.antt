use Rattle.std.proofs.Common.{◌≡◌, ◌∙◌, ◌<◌, List, length, get_or, sym, subst}
use Rattle.sts_scope.specs.declared.entries.Entry.{Entry}
use Rattle.typed_program.proofs.Classes.{global_next}
use Rattle.typed_program.proofs.build_classes.global_types.Goals as goal

pub loop-d-preserved : goal.loop-d-preserved
loop-d-preserved c =
    let p = c.args.plan.now in let k = p.known.now in let a = c.index-entries-d.result in let es = c.as_slice-entries.ensures ∙ c.entries.ensures in
    let less : c.loop-d.d < length k.entries = subst (λ (xs : List Entry). c.loop-d.d < length xs) es c.loop-d-test.true in
    let at : get_or k.entries c.loop-d.d a ≡ a = subst (λ (xs : List Entry). get_or xs c.loop-d.d a ≡ a) es (sym c.index-entries-d.is) in
    global_next p c.loop-d.d k.entries c.loop-d.all c.add_global.new.all a less at c.in_ok-add_global.ensures c.loop-d.invariant
