use Rattle.std.proofs.Common.{◌&&◌, ◌∙◌, ◌<◌, length, nat_eq, slice_index_or, sym, ap, rules, arith}
use Rattle.play_requests.proofs.Compared.{one-more}
use Rattle.play_requests.proofs.secrets.same_secret.Goals as goal

pub loop-at-preserved : goal.loop-at-preserved
loop-at-preserved c =
    (let within : c.loop-at.at < length c.args.first.now = first_of (search rules, omega (arith, c.loop-at-test.true, c.loop-at.auto.at-end)) in
    let also : c.loop-at.at < length c.args.second.now = omega (arith, within, c.loop-at.invariant.1) in (
      ap (λ b. b && nat_eq (slice_index_or c.args.first.now c.loop-at.at 0) (slice_index_or c.args.second.now c.loop-at.at 0)) c.loop-at.invariant.0
          ∙ sym (one-more c.args.first.now c.args.second.now c.loop-at.at 0 0 within also),
      c.loop-at.invariant.1,
    ))
