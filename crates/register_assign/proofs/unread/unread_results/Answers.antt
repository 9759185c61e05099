use Rattle.std.proofs.Common.{List, Bool, ap, ◌∙◌, arith}
use Rattle.std.proofs.lemmas.Grind.{common_steps}
use Rattle.register_assign.specs.Marks.{is_marked}
use Rattle.register_assign.specs.Unread.{AreNoted}
use Rattle.flat_ir.specs.WellFormed.{temporaries}
use Rattle.register_assign.proofs.Unreading.{noted_last, taken}
use Rattle.register_assign.proofs.unread.unread_results.Goals as goal

pub returns-clause-unread : goal.returns-clause-unread
returns-clause-unread c =
    let f = c.args.function.now in
    let new = c.note_all.new.notes in
    let h : AreNoted f.ops (temporaries f) new = c.in_ok-note_all.ensures in
    let l = h.long in
    λ at.
    ap (λ (q : List Bool). is_marked q at) (taken c.in-Ok.notes.len new c.in-Ok.notes.items (grind (arith, common_steps)) (grind (arith, common_steps)))
    ∙ noted_last f new c.requires h at

pub note_all-requires-clause-none : goal.note_all-requires-clause-none
note_all-requires-clause-none c = grind (arith, common_steps)

pub returns-clause-long : goal.returns-clause-long
returns-clause-long c = let l = (c.in_ok-note_all.ensures).long in grind (arith, common_steps)
