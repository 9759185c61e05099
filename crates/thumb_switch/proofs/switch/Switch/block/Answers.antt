use Rattle.std.proofs.Common.{◌≡◌, sym, ap, subst, ◌∙◌}
use Rattle.thumb_switch.specs.Switching.{Held, counted, BlockedBy}
use Rattle.thumb_switch.proofs.Switches.{blocked_by_routine, block_counts, who_blocks}
use Rattle.thumb_switch.proofs.switch.Switch.block.Goals as goal

pub returns-clause-any : goal.returns-clause-any
returns-clause-any c key t e f =
    let h : Held = c.args.self.now in
    let s : Held = record { bytes = c.self.inside.bytes; count = c.self.inside.count } in
    let is : h ≡ s = sym c.self.view_is in
    let held : h.bytes ≡ c.as_slice.result.now = ap (λ (q : Held). q.bytes) is ∙ sym c.as_slice.ensures in
    let same : counted h c.block_by-steps.result ≡ record s { count = c.saturating_add-self-inside.result } = ap (λ (q : Held). counted q c.block_by-steps.result) is ∙ (ap (counted s) (sym c.from.ensures) ∙ ap (λ n. record s { count = n }) (sym c.saturating_add-self-inside.ensures)) in
    subst (λ q. BlockedBy key t c.args.why c.args.now h q c.args.runtime.now c.block_by-steps.new.runtime) same (c.block_by-steps.ensures.any key t h e f held)

pub returns-clause-routine : goal.returns-clause-routine
returns-clause-routine c routine key t e f =
    let h : Held = c.args.self.now in
    let held : h.bytes ≡ c.as_slice.result.now = ap (λ (q : Held). q.bytes) (sym c.self.view_is) ∙ sym c.as_slice.ensures in
    blocked_by_routine key c.args.now t c.args.why h (counted h c.block_by-steps.result) c.args.runtime.now c.block_by-steps.new.runtime routine c.block_by-steps.ensures.stack c.requires.inside (c.block_by-steps.ensures.any key t h e f held)

pub returns-clause-exact : goal.returns-clause-exact
returns-clause-exact c routine =
    let h : Held = c.args.self.now in
    let s : Held = record { bytes = c.self.inside.bytes; count = c.self.inside.count } in
    let is : h ≡ s = sym c.self.view_is in
    let held : h.bytes ≡ c.as_slice.result.now = ap (λ (q : Held). q.bytes) is ∙ sym c.as_slice.ensures in
    let same : counted h c.block_by-steps.result ≡ record s { count = c.saturating_add-self-inside.result } = ap (λ (q : Held). counted q c.block_by-steps.result) is ∙ (ap (counted s) (sym c.from.ensures) ∙ ap (λ n. record s { count = n }) (sym c.saturating_add-self-inside.ensures)) in
    let w = who_blocks c.args.runtime.now.running c.requires.runs c.requires.keyed in
    sym same ∙ block_counts w.1 c.args.now w.0 c.args.why h (counted h c.block_by-steps.result) c.args.runtime.now c.block_by-steps.new.runtime routine c.block_by-steps.ensures.stack c.requires.inside
    (c.block_by-steps.ensures.any w.1 w.0 h w.2 w.3 held)
