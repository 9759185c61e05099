use Rattle.std.proofs.Common.{◌<◌, ◌∙◌, ap, sym, subst, Vec, Global, arith}
use Rattle.class_radio.specs.declared.player.Player.{Player}
use Rattle.class_radio.specs.Hearing.{IsNextOf}
use Rattle.class_radio.proofs.Stepped.{moments_left, onto_at, then_next, then_less, ended_later}
use Rattle.class_radio.proofs.stepping.step_all.Goals as goal
use Rattle.class_radio.proofs.stepping.step_all.Goals.{then-moment-end, else-moment-end}

pub returns-in-Err-clause-stepped : goal.returns-in-Err-clause-stepped
returns-in-Err-clause-stepped g c plan pasts losses until at =
    (let began = g.K.Sink.taken c.args.out.now in
    let here = onto_at plan began c.loop-next.next c.in-Some.moment c.loop-next.players.items (g.K.Sink.taken c.loop-next.out) (c.loop-next.invariant.onto plan pasts losses until at) c.in-Some.is in
    ended_later plan began (g.K.Sink.taken c.go_all.new.out) (g.K.Sink.faults c.args.out.now) (g.K.Sink.faults c.loop-next.out) (g.K.Sink.faults c.go_all.new.out) c.in-Err.ended c.loop-next.invariant.later
    (c.in-Err.ensures.turned plan began here.0 here.1))

pub loop-next-smaller : goal.loop-next-smaller
loop-next-smaller g c =
    (let m = c.requires.may in
    let plan = m.0 in
    let began = g.K.Sink.taken c.args.out.now in
    let here = onto_at m.0 (g.K.Sink.taken c.args.out.now) c.loop-next.next c.in-Some.moment c.loop-next.players.items (g.K.Sink.taken c.loop-next.out) (c.loop-next.invariant.onto m.0 m.1 m.2 m.3 m.4) c.in-Some.is in
    let gone = c.in-Ok.ensures.turned m.0 (g.K.Sink.taken c.args.out.now) here.0 here.1 in
    let next = subst (λ ps. IsNextOf c.args.end ps c.next_moment-next.result) c.as_slice.ensures.value c.next_moment-next.ensures.next in
    let less = then_less m.0 here.1.plan_is (g.K.Sink.taken c.args.out.now) c.args.losses.now c.args.end c.in-Some.moment m.2 m.3 here.1.within c.go_all.new.players.items c.if-moment-end.players.items (g.K.Sink.taken c.go_all.new.out) gone
    (λ l. elim c.if-moment-end.branch [
      | then-moment-end w ↦ ap (λ (v : Vec Player Global). v.items) w.players-is ∙ w.hear_all.ensures.heard
      | else-moment-end w ↦ absurd (omega (arith, l))
    ])
    (λ l. elim c.if-moment-end.branch [
      | then-moment-end w ↦ absurd (omega (arith, l))
      | else-moment-end w ↦ ap (λ (v : Vec Player Global). v.items) w.players-is
    ])
    c.next_moment-next.result next in
    subst (λ n. moments_left c.args.end c.next_moment-next.result < moments_left c.args.end n) (sym c.in-Some.is) less)

pub loop-next-preserved : goal.loop-next-preserved
loop-next-preserved g c = record {
  onto = λ plan pasts losses until at.
      (let began = g.K.Sink.taken c.args.out.now in
      let here = onto_at plan (g.K.Sink.taken c.args.out.now) c.loop-next.next c.in-Some.moment c.loop-next.players.items (g.K.Sink.taken c.loop-next.out) (c.loop-next.invariant.onto plan pasts losses until at) c.in-Some.is in
      let gone = c.in-Ok.ensures.turned plan (g.K.Sink.taken c.args.out.now) here.0 here.1 in
      let next = subst (λ ps. IsNextOf c.args.end ps c.next_moment-next.result) c.as_slice.ensures.value c.next_moment-next.ensures.next in
      then_next plan here.1.plan_is (g.K.Sink.taken c.args.out.now) c.args.losses.now c.args.end c.in-Some.moment losses until here.1.within c.go_all.new.players.items c.if-moment-end.players.items (g.K.Sink.taken c.go_all.new.out) gone
      (λ l. elim c.if-moment-end.branch [
        | then-moment-end w ↦ ap (λ (v : Vec Player Global). v.items) w.players-is ∙ w.hear_all.ensures.heard
        | else-moment-end w ↦ absurd (omega (arith, l))
      ])
      (λ l. elim c.if-moment-end.branch [
        | then-moment-end w ↦ absurd (omega (arith, l))
        | else-moment-end w ↦ ap (λ (v : Vec Player Global). v.items) w.players-is
      ])
      c.next_moment-next.result next);
  later = omega (arith, c.loop-next.invariant.later, c.go_all.ensures.later);
}
