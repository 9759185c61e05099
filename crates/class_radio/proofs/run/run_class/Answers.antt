use Rattle.std.proofs.Common.{refl, sym, ap, subst, length, List, arith}
use Rattle.class_radio.specs.declared.player.Player.{Player}
use Rattle.class_radio.specs.Outcome.{setups_of}
use Rattle.class_radio.specs.Closing.{AreLed}
use Rattle.class_radio.specs.Stepped.{begun_pasts, seens}
use Rattle.class_radio.specs.Stopping.{ClosesAll}
use Rattle.class_radio.proofs.Ended.{ended_ran}
use Rattle.class_radio.proofs.Running.{plan_of, plan_sound, begins_so, closed_ran, led_behind}
use Rattle.class_radio.proofs.run.run_class.Goals as goal

pub step_all-requires : goal.step_all-requires
step_all-requires g c =
    (let plan = plan_of c.args.images.items c.args.scripts.items c.args.lose c.args.end c.args.budget in
    let sound = plan_sound c.args.images.items c.args.scripts.items c.args.lose c.args.end c.args.budget (omega arith) c.requires.sound c.requires.ends c.requires.least in
    record { may = (plan, begun_pasts (setups_of c.args.images.items c.args.scripts.items), sym c.in_ok-losses.ensures, refl, begins_so plan sound (g.K.Sink.taken c.args.out.now) c.in_ok-players.players.items c.in_ok-players.ensures.mounted) })

pub returns-in-Err-clause-ran : goal.returns-in-Err-clause-ran
returns-in-Err-clause-ran g c =
    (let plan = plan_of c.args.images.items c.args.scripts.items c.args.lose c.args.end c.args.budget in
    let sound = plan_sound c.args.images.items c.args.scripts.items c.args.lose c.args.end c.args.budget (omega arith) c.requires.sound c.requires.ends c.requires.least in
    ended_ran plan sound (g.K.Sink.taken c.args.out.now) (g.K.Sink.taken c.step_all.new.out) (g.K.Sink.faults c.args.out.now) (g.K.Sink.faults c.step_all.new.out) c.in-Err.ended
    (c.in-Err.ensures.stepped plan (begun_pasts (setups_of c.args.images.items c.args.scripts.items)) (sym c.in_ok-losses.ensures) refl (begins_so plan sound (g.K.Sink.taken c.args.out.now) c.in_ok-players.players.items c.in_ok-players.ensures.mounted)))

pub close_all-requires-clause-few : goal.close_all-requires-clause-few
close_all-requires-clause-few g c =
    (let plan = plan_of c.args.images.items c.args.scripts.items c.args.lose c.args.end c.args.budget in
    let sound = plan_sound c.args.images.items c.args.scripts.items c.args.lose c.args.end c.args.budget (omega arith) c.requires.sound c.requires.ends c.requires.least in
    let s = c.in-Ok.ensures.stepped plan (begun_pasts (setups_of c.args.images.items c.args.scripts.items)) (sym c.in_ok-losses.ensures) refl (begins_so plan sound (g.K.Sink.taken c.args.out.now) c.in_ok-players.players.items c.in_ok-players.ensures.mounted) in
    let few = (led_behind plan sound (g.K.Sink.taken c.args.out.now) (g.K.Sink.taken c.step_all.new.out) c.step_all.new.players.items s.0 s.1).1 in
    let same = ap length c.as_slice.ensures.value in
    omega (arith, few, same))

pub close_all-requires-clause-led : goal.close_all-requires-clause-led
close_all-requires-clause-led g c =
    (let plan = plan_of c.args.images.items c.args.scripts.items c.args.lose c.args.end c.args.budget in
    let sound = plan_sound c.args.images.items c.args.scripts.items c.args.lose c.args.end c.args.budget (omega arith) c.requires.sound c.requires.ends c.requires.least in
    let s = c.in-Ok.ensures.stepped plan (begun_pasts (setups_of c.args.images.items c.args.scripts.items)) (sym c.in_ok-losses.ensures) refl (begins_so plan sound (g.K.Sink.taken c.args.out.now) c.in_ok-players.players.items c.in_ok-players.ensures.mounted) in
    subst (AreLed 0) (sym c.as_slice.ensures.value) (led_behind plan sound (g.K.Sink.taken c.args.out.now) (g.K.Sink.taken c.step_all.new.out) c.step_all.new.players.items s.0 s.1).0)

pub returns-clause-ran : goal.returns-clause-ran
returns-clause-ran g c =
    (let plan = plan_of c.args.images.items c.args.scripts.items c.args.lose c.args.end c.args.budget in
    let sound = plan_sound c.args.images.items c.args.scripts.items c.args.lose c.args.end c.args.budget (omega arith) c.requires.sound c.requires.ends c.requires.least in
    let s = c.in-Ok.ensures.stepped plan (begun_pasts (setups_of c.args.images.items c.args.scripts.items)) (sym c.in_ok-losses.ensures) refl (begins_so plan sound (g.K.Sink.taken c.args.out.now) c.in_ok-players.players.items c.in_ok-players.ensures.mounted) in
    closed_ran plan sound (g.K.Sink.taken c.args.out.now) (g.K.Sink.taken c.step_all.new.out) (g.K.Sink.taken c.close_all.new.out) c.step_all.new.players.items s.0 s.1 (g.K.Sink.faults c.args.out.now) (g.K.Sink.faults c.step_all.new.out)
    (g.K.Sink.faults c.close_all.new.out) c.close_all.result c.step_all.ensures.later
    (subst (λ (ps : List Player). ClosesAll (seens s.0) c.args.end ps (g.K.Sink.taken c.step_all.new.out) (g.K.Sink.taken c.close_all.new.out) (g.K.Sink.faults c.step_all.new.out) (g.K.Sink.faults c.close_all.new.out) c.close_all.result)
    c.as_slice.ensures.value (c.close_all.ensures.closes (seens s.0))))
