use Rattle.std.proofs.Common.{sym, ap, subst, ◌∙◌, ◌≡◌, ◌-◌, ◌<◌, arith}
use Rattle.thumb_switch.specs.Space.{executed}
use Rattle.thumb_switch.specs.Desk.{on_desk}
use Rattle.thumb_switch.specs.Running.{IsKnown}
use Rattle.thumb_code.specs.Effect.{effect}
use Rattle.thumb_code.specs.Step.{behind}
use Rattle.armv6m_machine.specs.Steps.{Does}
use Rattle.armv6m_machine.specs.declared.faults.Turn.TheVariants.{Went}
use Rattle.thumb_switch.specs.Desk.{desk_memory}
use Rattle.thumb_switch.proofs.Going.{went, one_more, no_more, none_at, missed_stops, stayed, all_done}
use Rattle.thumb_switch.proofs.Steps.{executed_back}
use Rattle.thumb_switch.proofs.running.run.Goals as goal

pub returns-then-r-eq-BACK-clause-executes : goal.returns-then-r-eq-BACK-clause-executes
returns-then-r-eq-BACK-clause-executes c = no_more (c.args.most - c.loop-done.done) c.loop-done.done (on_desk c.loop-done.desk) _ _ (executed_back _ _ c.loop-done.r c.if-r-eq-BACK.true) c.loop-done.invariant.1

pub returns-in-None-clause-executes : goal.returns-in-None-clause-executes
returns-in-None-clause-executes c = subst (λ d. executed c.args.most c.args.registers (on_desk c.args.desk.now) ≡ (c.loop-done.done, on_desk d)) (sym c.fetch.ensures.same) (no_more (c.args.most - c.loop-done.done) c.loop-done.done (on_desk c.loop-done.desk) _ _ (none_at _ c.loop-done.r _ (missed_stops c.loop-done.r _ c.in-None.ensures.missed)) c.loop-done.invariant.1)

pub returns-in_default-clause-executes : goal.returns-in_default-clause-executes
returns-in_default-clause-executes c =
    let k : IsKnown c.args.desk.now c.loop-done.desk = c.loop-done.invariant.0 in
    let row : Does desk_memory c.loop-done.desk (effect (behind c.loop-done.r.pc c.in-Some.wide) c.loop-done.r c.in-Some.instr) c.execute.result c.loop-done.r c.execute.new.registers c.execute.new.memory
    = subst (λ d. Does desk_memory d (effect (behind c.loop-done.r.pc c.in-Some.wide) c.loop-done.r c.in-Some.instr) c.execute.result c.loop-done.r c.execute.new.registers c.execute.new.memory) c.fetch.ensures.same c.execute.ensures.row in
    let z = stayed c.args.desk.now c.loop-done.desk c.execute.new.memory c.loop-done.r c.execute.new.registers c.in-Some.instr (behind c.loop-done.r.pc c.in-Some.wide) c.execute.result k c.in-Some.ensures.found.0 row c.in_default.not-Went in
    no_more (c.args.most - c.loop-done.done) c.loop-done.done (on_desk c.loop-done.desk) _ _ (none_at _ c.loop-done.r _ z.1) c.loop-done.invariant.1 ∙ ap (λ d. (c.loop-done.done, on_desk d)) (sym z.0)

pub returns-in_default-clause-known : goal.returns-in_default-clause-known
returns-in_default-clause-known c =
    let k : IsKnown c.args.desk.now c.loop-done.desk = c.loop-done.invariant.0 in
    let row : Does desk_memory c.loop-done.desk (effect (behind c.loop-done.r.pc c.in-Some.wide) c.loop-done.r c.in-Some.instr) c.execute.result c.loop-done.r c.execute.new.registers c.execute.new.memory
    = subst (λ d. Does desk_memory d (effect (behind c.loop-done.r.pc c.in-Some.wide) c.loop-done.r c.in-Some.instr) c.execute.result c.loop-done.r c.execute.new.registers c.execute.new.memory) c.fetch.ensures.same c.execute.ensures.row in
    let z = stayed c.args.desk.now c.loop-done.desk c.execute.new.memory c.loop-done.r c.execute.new.registers c.in-Some.instr (behind c.loop-done.r.pc c.in-Some.wide) c.execute.result k c.in-Some.ensures.found.0 row c.in_default.not-Went in
    subst (IsKnown c.args.desk.now) (sym z.0) k

pub loop-done-preserved : goal.loop-done-preserved
loop-done-preserved c =
    let k : IsKnown c.args.desk.now c.loop-done.desk = c.loop-done.invariant.0 in
    let row : Does desk_memory c.loop-done.desk (effect (behind c.loop-done.r.pc c.in-Some.wide) c.loop-done.r c.in-Some.instr) Went c.loop-done.r c.execute.new.registers c.execute.new.memory
    = subst (λ t. Does desk_memory c.loop-done.desk (effect (behind c.loop-done.r.pc c.in-Some.wide) c.loop-done.r c.in-Some.instr) t c.loop-done.r c.execute.new.registers c.execute.new.memory) c.in-Went.is
    (subst (λ d. Does desk_memory d (effect (behind c.loop-done.r.pc c.in-Some.wide) c.loop-done.r c.in-Some.instr) c.execute.result c.loop-done.r c.execute.new.registers c.execute.new.memory) c.fetch.ensures.same c.execute.ensures.row) in
    let z = went c.args.desk.now c.loop-done.desk c.execute.new.memory c.loop-done.r c.execute.new.registers c.in-Some.instr (behind c.loop-done.r.pc c.in-Some.wide) k c.in-Some.ensures.found.0 row in (
      z.1,
      one_more c.args.most c.loop-done.done c.loop-done.r c.execute.new.registers (on_desk c.loop-done.desk) (on_desk c.execute.new.memory) _ c.loop-done-test.true c.if-r-eq-BACK.false z.0 c.loop-done.invariant.1,
      (let l : c.loop-done.done < c.args.most = c.loop-done-test.true in omega arith),
    )

pub returns-clause-executes : goal.returns-clause-executes
returns-clause-executes c = all_done c.args.most c.loop-done.done c.loop-done.r (on_desk c.loop-done.desk) _ c.loop-done-test.false c.loop-done.invariant.2 c.loop-done.invariant.1
