use Rattle.std.proofs.Common.{◌∙◌, arith}
use Rattle.std.proofs.lemmas.List.{length-set}
use Rattle.class_radio.proofs.Turning.{few_boards, begins, turn_of, may_turn, goes_on, ended, all_gone}
use Rattle.class_radio.proofs.turns.go_all.Goals as goal

pub loop-number-init : goal.loop-number-init
loop-number-init g c = record {
  midway = λ plan began pasts at. begins plan began c.args.moment pasts c.args.players.now.items (g.K.Sink.taken c.args.out.now) at.are;
  long = omega arith;
  later = omega arith;
}

pub go_one-requires-clause-few : goal.go_one-requires-clause-few
go_one-requires-clause-few g c =
    (let m = c.requires.may in
    let n = few_boards m.0 m.3.plan_is m.1 c.args.moment m.2 c.args.players.now.items (g.K.Sink.taken c.args.out.now) m.3.are in
    omega (arith, n))

pub go_one-requires-clause-may : goal.go_one-requires-clause-may
go_one-requires-clause-may g c =
    (let m = c.requires.may in
    let turn = turn_of m.0 m.1 c.args.moment c.loop-number.number c.loop-number.players.items c.index_mut.result.now (g.K.Sink.taken c.loop-number.out) (c.loop-number.invariant.midway m.0 m.1 m.2 m.3) (omega arith) c.index_mut.ensures.value in
    (m.0.budget, turn.here, may_turn m.0 m.3.plan_is m.1 c.args.moment c.loop-number.number m.3.within c.loop-number.players.items c.index_mut.result.now (g.K.Sink.taken c.loop-number.out) turn))

pub returns-in-Err-clause-turned : goal.returns-in-Err-clause-turned
returns-in-Err-clause-turned g c plan began pasts at =
    (let t = c.args.moment in
    let n = c.loop-number.number in
    let ps = c.loop-number.players.items in
    let p = c.index_mut.result.now in
    let taken = g.K.Sink.taken c.loop-number.out in
    let turn = turn_of plan began c.args.moment c.loop-number.number c.loop-number.players.items c.index_mut.result.now (g.K.Sink.taken c.loop-number.out) (c.loop-number.invariant.midway plan began pasts at) (omega arith) c.index_mut.ensures.value in
    ended plan at.plan_is began t n at.within ps p taken turn (g.K.Sink.taken c.go_one.new.out) (g.K.Sink.faults c.args.out.now) (g.K.Sink.faults c.loop-number.out) (g.K.Sink.faults c.go_one.new.out) c.in-Err.end c.loop-number.invariant.later
    (c.in-Err.ensures.turned plan.budget turn.here (may_turn plan at.plan_is began t n at.within ps p taken turn)))

pub loop-number-preserved : goal.loop-number-preserved
loop-number-preserved g c = record {
  midway = λ plan began pasts at.
      (let t = c.args.moment in
      let n = c.loop-number.number in
      let ps = c.loop-number.players.items in
      let p = c.index_mut.result.now in
      let taken = g.K.Sink.taken c.loop-number.out in
      let turn = turn_of plan began c.args.moment c.loop-number.number c.loop-number.players.items c.index_mut.result.now (g.K.Sink.taken c.loop-number.out) (c.loop-number.invariant.midway plan began pasts at) (omega arith) c.index_mut.ensures.value in
      goes_on plan at.plan_is began t n at.within ps p taken turn c.go_one.new.player (g.K.Sink.taken c.go_one.new.out)
      (c.in-Ok.ensures.turned plan.budget turn.here (may_turn plan at.plan_is began t n at.within ps p taken turn)));
  long = length-set c.loop-number.players.items c.loop-number.number c.go_one.new.player ∙ c.loop-number.invariant.long;
  later = omega (arith, c.loop-number.invariant.later, c.go_one.ensures.later);
}

pub returns-clause-turned : goal.returns-clause-turned
returns-clause-turned g c plan began pasts at =
    all_gone plan began c.args.moment c.loop-number.number c.loop-number.players.items (g.K.Sink.taken c.loop-number.out) (c.loop-number.invariant.midway plan began pasts at) (omega arith)
