use Rattle.std.proofs.Common.{◌≡◌, sym, ap, subst, ◌∙◌}
use Rattle.thumb_switch.specs.Routine.{routine_steps}
use Rattle.thumb_switch.specs.Switching.{Held, counted, ResumedBy}
use Rattle.thumb_switch.proofs.Switches.{resumed_by_routine, resume_counts, first_words}
use Rattle.thumb_switch.proofs.switch.Switch.resume.Goals as goal

pub returns-in-Some-clause-any : goal.returns-in-Some-clause-any
returns-in-Some-clause-any c =
    let h : Held = c.args.self.now in
    let s : Held = record { bytes = c.self.inside.bytes; count = c.self.inside.count } in
    let is : h ≡ s = sym c.self.view_is in
    let held : h.bytes ≡ c.as_slice.result.now = ap (λ (q : Held). q.bytes) is ∙ sym c.as_slice.ensures in
    let same : counted h c.resume_by-steps.result ≡ record s { count = c.saturating_add-self-inside.result } = ap (λ (q : Held). counted q c.resume_by-steps.result) is ∙ (ap (counted s) (sym c.from.ensures) ∙ ap (λ n. record s { count = n }) (sym c.saturating_add-self-inside.ensures)) in
    subst (λ q. ResumedBy h q c.args.runtime.now c.resume_by-steps.new.runtime) same (c.resume_by-steps.ensures.any h held)

pub returns-in-Some-clause-routine : goal.returns-in-Some-clause-routine
returns-in-Some-clause-routine c routine =
    let h : Held = c.args.self.now in
    let held : h.bytes ≡ c.as_slice.result.now = ap (λ (q : Held). q.bytes) (sym c.self.view_is) ∙ sym c.as_slice.ensures in
    resumed_by_routine h (counted h c.resume_by-steps.result) c.args.runtime.now c.resume_by-steps.new.runtime routine c.resume_by-steps.ensures.stack (c.resume_by-steps.ensures.any h held)

pub returns-in-Some-clause-exact : goal.returns-in-Some-clause-exact
returns-in-Some-clause-exact c routine key leads =
    let h : Held = c.args.self.now in
    let s : Held = record { bytes = c.self.inside.bytes; count = c.self.inside.count } in
    let is : h ≡ s = sym c.self.view_is in
    let held : h.bytes ≡ c.as_slice.result.now = ap (λ (q : Held). q.bytes) is ∙ sym c.as_slice.ensures in
    let same : counted h c.resume_by-steps.result ≡ record s { count = c.saturating_add-self-inside.result } = ap (λ (q : Held). counted q c.resume_by-steps.result) is ∙ (ap (counted s) (sym c.from.ensures) ∙ ap (λ n. record s { count = n }) (sym c.saturating_add-self-inside.ensures)) in
    let by = c.resume_by-steps.ensures.any h held in
    sym same ∙ (resume_counts h (counted h c.resume_by-steps.result) c.args.runtime.now c.resume_by-steps.new.runtime routine c.resume_by-steps.ensures.stack by
    ∙ ap (λ n. counted h (routine_steps n)) (first_words h (counted h c.resume_by-steps.result) c.args.runtime.now c.resume_by-steps.new.runtime by key leads))
