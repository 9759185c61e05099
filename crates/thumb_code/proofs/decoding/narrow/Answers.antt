use Rattle.std.proofs.Common.{◌≡◌, ◌/◌, refl, ap, sym, ◌∙◌, arith, Some}
use Rattle.thumb_code.proofs.Spelled.{reading-load_store_register, reading-miscellaneous, reading-load_store_multiple, reading-conditional_branch}
use Rattle.thumb_code.proofs.decoding.narrow.Goals as goal

pub returns-in-2-clause-same : goal.returns-in-2-clause-same
returns-in-2-clause-same c = rw c.in-2.is refl

pub returns-in-10-clause-same : goal.returns-in-10-clause-same
returns-in-10-clause-same c = let h : c.args.first / 4096 ≡ 5 = grind arith in c.load_store_register.ensures.same ∙ sym (reading-load_store_register _ h)

pub returns-in-22-clause-same : goal.returns-in-22-clause-same
returns-in-22-clause-same c = let h : c.args.first / 4096 ≡ 11 = grind arith in c.miscellaneous.ensures.same ∙ sym (reading-miscellaneous _ h)

pub returns-in-24-clause-same : goal.returns-in-24-clause-same
returns-in-24-clause-same c = let h : c.args.first / 4096 ≡ 12 = grind arith in c.load_store_multiple.ensures.same ∙ sym (reading-load_store_multiple _ h)

pub returns-in-26-clause-same : goal.returns-in-26-clause-same
returns-in-26-clause-same c = let h : c.args.first / 4096 ≡ 13 = grind arith in c.conditional_branch.ensures.same ∙ sym (reading-conditional_branch _ h)

pub returns-in_default-clause-same : goal.returns-in_default-clause-same
returns-in_default-clause-same c = let h : c.args.first / 2048 ≡ 28 = omega arith in rw h (ap Some c.branch-first.ensures.same)
