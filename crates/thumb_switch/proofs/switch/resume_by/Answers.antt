use Rattle.std.proofs.Common.{sym, ap, subst, ◌∙◌, length}
use Rattle.slab.specs.Slab.{Slab}
use Rattle.thumb_code.specs.declared.register_file.Registers.{Registers}
use Rattle.fiber_pool.specs.Kept.{Kept, kept_at}
use Rattle.thumb_switch.specs.Space.{called, record_at}
use Rattle.thumb_switch.specs.Switching.{counted, ResumedBy}
use Rattle.thumb_switch.proofs.Resuming.{taken_live, pool_is, resumed_by, few_in}
use Rattle.thumb_switch.proofs.switch.resume_by.Goals as goal

pub run-requires-clause-live : goal.run-requires-clause-live
run-requires-clause-live c = taken_live c.args.runtime.now _ c.args.key c.take.ensures.taken c.requires.first

pub returns-clause-any : goal.returns-clause-any
returns-clause-any c h held =
    subst (ResumedBy h (counted h c.run.result) c.args.runtime.now) (sym (c.runtime-1.given.1 (sym c.run.ensures.known.reference)))
    (resumed_by _ _ c.args.runtime.now h c.run.result c.words-words.result c.call.result c.take.ensures.taken c.requires.first c.take.ensures.fits c.words-words.ensures.count
    (c.call.ensures ∙ ap (λ (q : Registers). called record_at q.sp c.words-words.result) c.registers-sp.ensures) c.run.ensures.executes c.run.ensures.known held)

pub returns-clause-most : goal.returns-clause-most
returns-clause-most c =
    let pool = pool_is c.args.runtime.now _ c.args.key c.take.ensures.taken c.requires.first in
    (few_in c.run.result c.words-words.result _ _ _ _ (c.words-words.ensures.count ∙ ap (λ (p : Slab Kept). length (kept_at p c.args.key).words) pool) c.words-words.ensures.most c.run.ensures.executes).0

pub returns-clause-small : goal.returns-clause-small
returns-clause-small c = (few_in c.run.result c.words-words.result _ _ _ _ c.words-words.ensures.count c.words-words.ensures.most c.run.ensures.executes).1
