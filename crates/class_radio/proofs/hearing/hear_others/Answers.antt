use Rattle.std.proofs.Common.{◌∙◌, ap, sym, length, Vec, Global, arith}
use Rattle.class_radio.specs.declared.player.Player.{Player}
use Rattle.class_radio.specs.Losses.{lost_by}
use Rattle.class_radio.proofs.Telling.{hears_from, hears_not_lost, hears_not_own}
use Rattle.class_radio.proofs.hearing.hear_others.Goals as goal
use Rattle.class_radio.proofs.hearing.hear_others.Goals.{then-from-to+then-not-lost, else-from-to, else-from-to-via-then-from-to+else-not-lost, else-from-to-via-else-from-to}

pub loop-from-preserved : goal.loop-from-preserved
loop-from-preserved c = record {
  heard = λ d. elim c.if-from-to.branch [
    | then-from-to+then-not-lost w ↦
        ap (λ (v : Vec Player Global). v.items) w.players-is
        ∙ hears_from (lost_by c.args.losses.now) c.args.moment c.args.to c.args.players.now.items c.loop-from.players.items w.hear_one.new.players.items c.loop-from.from d (omega arith) (omega arith) w.if-from-to.true
        (sym w.lost.ensures ∙ w.if-not-lost.true) (c.loop-from.invariant.heard d) (w.hear_one.ensures.heard d)
    | else-from-to w ↦ elim w.else-from-to.branch [
      | else-from-to-via-then-from-to+else-not-lost v ↦
          ap (λ (u : Vec Player Global). u.items) w.players-is
          ∙ hears_not_lost (lost_by c.args.losses.now) c.args.moment c.args.to c.args.players.now.items c.loop-from.players.items c.loop-from.from d (omega arith) (sym v.lost.ensures ∙ v.if-not-lost.false) (c.loop-from.invariant.heard d)
      | else-from-to-via-else-from-to v ↦
          ap (λ (u : Vec Player Global). u.items) w.players-is
          ∙ hears_not_own (lost_by c.args.losses.now) c.args.moment c.args.to c.args.players.now.items c.loop-from.players.items c.loop-from.from d (omega arith) v.if-from-to.false (c.loop-from.invariant.heard d)
    ]
  ];
  long = elim c.if-from-to.branch [
    | then-from-to+then-not-lost w ↦ omega (arith, ap (λ (v : Vec Player Global). length v.items) w.players-is)
    | else-from-to w ↦ omega (arith, ap (λ (v : Vec Player Global). length v.items) w.players-is)
  ];
}
