use Rattle.std.proofs.Common.{◌≡◌, ◌∙◌, sym, ap, subst}
use Rattle.sts_scope.proofs.Puts.{IsPut}
use Rattle.sts_scope.proofs.Longer.{put_none, put_one}
use Rattle.sts_scope.proofs.lines.put_members.Goals as goal

pub loop-x-init : goal.loop-x-init
loop-x-init c =
    let own = c.args.own.now.entries in
    let base = c.args.base.now in
    let made = c.in_ok-made.made in
    let all : own ≡ c.into_iter-x-iterator.result.iter = sym (ap (λ r. r.iter) c.into_iter-x-iterator.ensures.into_iter_gives ∙ c.rev-x-items.ensures.source ∙ c.iter.ensures.rest) in
    (tt, tt, subst (λ rest. IsPut own rest base made) all (put_none own base made c.in_ok-made.ensures))

pub loop-x-preserved : goal.loop-x-preserved
loop-x-preserved c =
    let own = c.args.own.now.entries in
    (tt, tt, put_one own c.loop-x.x-iterator.iter c.next.new.self.iter c.args.base.now c.loop-x.made c.in_ok-made-2.made c.in-Some.x.now c.in-Some.d.now c.loop-x.invariant.2 c.in-Some.ensures.steps c.in_ok-made-2.ensures)
