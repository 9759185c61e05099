use Rattle.std.proofs.Common.{◌≡◌, ◌<◌, ◌-◌, length, true, false, List, inl, inr, refl, sym, ap, ◌∙◌, slice_get, arith}
use Rattle.std.proofs.lemmas.Grind.{common_steps}
use Rattle.std.proofs.lemmas.Option.{slice_get_read}
use Rattle.flat_ir.specs.declared.ops.Op.{Op}
use Rattle.register_assign.specs.Unread.{is_unread}
use Rattle.thumb_emit.specs.Joined.{is_gone_to}
use Rattle.thumb_emit.proofs.Joining.{joined_outside, joined_there, joined_not}
use Rattle.thumb_emit.proofs.joined.joined_by.Goals.{then-at-eq0-via-then-at-eq0, then-at-eq0-via-else-at-eq0+then-at-ops, else-is_some-via-then-is_some+then-unread-at+else-not-is_gone_to, else-is_some-via-then-is_some+else-unread-at, else-is_some-via-else-is_some}
use Rattle.thumb_emit.proofs.joined.joined_by.Goals as goal

pub returns-then-at-eq0 : goal.returns-then-at-eq0
returns-then-at-eq0 c =
    let f = c.args.function.now in
    let at = c.args.at in
    let e : length c.as_slice-ops.result.now ≡ length f.ops = ap length c.as_slice-ops.ensures in
    sym (joined_outside f at (elim c.then-at-eq0.branch [
      | then-at-eq0-via-then-at-eq0 w ↦ inl (omega (arith, w.if-at-eq0.true))
      | then-at-eq0-via-else-at-eq0+then-at-ops w ↦ inr (omega (arith, w.if-at-ops.true, e))
    ]))

pub returns-then-not-is_gone_to : goal.returns-then-not-is_gone_to
returns-then-not-is_gone_to c =
    let f = c.args.function.now in
    let at = c.args.at in
    let ops = c.as_slice-ops.result.now in
    let e : ops ≡ f.ops = c.as_slice-ops.ensures in
    let n : 0 < at = omega (arith, c.if-at-eq0.false) in
    let l : at < length ops = omega (arith, c.if-at-ops.false) in
    let g = slice_get_read ops (length ops) (at - 1) c.index-ops-at.result refl (omega arith) c.index-ops-at.is in
    let h = slice_get_read ops (length ops) at c.index-ops-at-2.result refl l c.index-ops-at-2.is in
    let u : is_unread f at ≡ true = sym (c.requires.unread at) ∙ grind (arith, common_steps) in
    let o : is_gone_to f.ops at ≡ false = ap (λ (q : List Op). is_gone_to q at) (sym e) ∙ grind (arith, common_steps) in
    sym (joined_there f at c.index-ops-at.result c.index-ops-at-2.result c.condition_for-condition.result n
    (ap (λ (q : List Op). slice_get q (at - 1)) (sym e) ∙ g) (ap (λ (q : List Op). slice_get q at) (sym e) ∙ h) c.condition_for-condition.ensures u o)

pub returns-else-is_some : goal.returns-else-is_some
returns-else-is_some c =
    let f = c.args.function.now in
    let at = c.args.at in
    let ops = c.as_slice-ops.result.now in
    let e : ops ≡ f.ops = c.as_slice-ops.ensures in
    let n : 0 < at = omega (arith, c.if-at-eq0.false) in
    let l : at < length ops = omega (arith, c.if-at-ops.false) in
    let g = slice_get_read ops (length ops) (at - 1) c.index-ops-at.result refl (omega arith) c.index-ops-at.is in
    let h = slice_get_read ops (length ops) at c.index-ops-at-2.result refl l c.index-ops-at-2.is in
    sym (joined_not f at c.index-ops-at.result c.index-ops-at-2.result n
    (ap (λ (q : List Op). slice_get q (at - 1)) (sym e) ∙ g) (ap (λ (q : List Op). slice_get q at) (sym e) ∙ h) (elim c.else-is_some.branch [
      | else-is_some-via-then-is_some+then-unread-at+else-not-is_gone_to w ↦
          inr (inr (ap (λ (q : List Op). is_gone_to q at) (sym e) ∙ grind (arith, common_steps)))
      | else-is_some-via-then-is_some+else-unread-at w ↦ inr (inl (sym (c.requires.unread at) ∙ grind (arith, common_steps)))
      | else-is_some-via-else-is_some w ↦ inl (sym c.condition_for-condition.ensures ∙ grind (arith, common_steps))
    ]))
