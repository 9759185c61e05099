use Rattle.std.proofs.Common.{◌∙◌, sym, map, arith}
use Rattle.class_radio.specs.Playing.{said}
use Rattle.class_radio.specs.Losses.{lost_by}
use Rattle.class_radio.proofs.Telling.{first_none, first_more, first_all}
use Rattle.class_radio.proofs.hearing.hear_all.Goals as goal

pub loop-to-init : goal.loop-to-init
loop-to-init c = record {
  heard = sym (first_none (lost_by c.args.losses.now) c.args.moment (map (said c.args.moment) c.args.players.now.items) 0 0 c.args.players.now.items (omega arith));
  long = omega arith;
}

pub loop-to-preserved : goal.loop-to-preserved
loop-to-preserved c = record {
  heard = first_more (lost_by c.args.losses.now) c.args.moment c.loop-to.to c.args.players.now.items c.loop-to.players.items c.hear_others.new.players.items (omega arith) c.loop-to.invariant.heard c.hear_others.ensures.heard;
  long = omega arith;
}

pub returns : goal.returns
returns c = record {
  heard = c.loop-to.invariant.heard ∙ first_all (lost_by c.args.losses.now) c.args.moment (map (said c.args.moment) c.args.players.now.items) 0 c.loop-to.to c.args.players.now.items (omega arith);
}
