use Rattle.std.proofs.Common.{◌≡◌, [], ◌∷◌, ◌++◌, rules, sym, subst, arith}
use Rattle.std.specs.Iterator.Adapters.{zip_first, zip_second}
use Rattle.std.specs.Vec.Iter.{into_iter_items}
use Rattle.class_radio.proofs.Making.{Halfway, half_begun, half_more, half_turned}
use Rattle.class_radio.proofs.mounting.mount_all.Goals as goal

pub loop-image-init : goal.loop-image-init
loop-image-init c = record {
  next = (tt, tt);
  finite = tt;
  half = half_begun c.args.budget c.args.images.items c.args.scripts.items c.new-players.result.items _ _ c.new-players.ensures.items (cc) (cc) (omega arith) (omega arith) c.requires.each c.requires.sound;
}

pub loop-image-preserved : goal.loop-image-preserved
loop-image-preserved c =
    (let now = half_turned c.args.budget c.args.images.items c.args.scripts.items c.loop-image.players.items _ (into_iter_items (zip_first c.next.new.self)) _ (into_iter_items (zip_second c.next.new.self)) c.in-Some.image c.in-Some.script c.loop-image.invariant.half c.in-Some.ensures.steps.0.0 c.in-Some.ensures.steps.1.0 in
    let items : c.push.new.self.items ≡ c.loop-image.players.items ++ c.in_ok-player.player ∷ [] = search rules in
    let more = half_more c.args.budget c.args.images.items c.args.scripts.items c.loop-image.players.items c.in-Some.image _ c.in-Some.script _ now c.in_ok-player.player (search rules) (search rules) in
    record {
      next = (tt, tt);
      finite = tt;
      half = subst (λ ps. Halfway c.args.budget c.args.images.items c.args.scripts.items ps (into_iter_items (zip_first c.next.new.self)) (into_iter_items (zip_second c.next.new.self))) (sym items) more;
    })
