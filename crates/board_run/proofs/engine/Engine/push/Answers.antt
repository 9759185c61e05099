use Rattle.std.proofs.Common.{subst, ap, ◌∙◌, ◌≢◌, ℕ}
use Rattle.thumb_code.specs.Machine.{State as Machine}
use Rattle.arena_heap.specs.declared.arena.Pushed.TheVariants.{Done, Bad}
use Rattle.board_run.proofs.Services.{serve_push, refuse_push, as_asked}
use Rattle.board_run.proofs.engine.Engine.push.Goals as goal

pub returns-in-Done-clause-served : goal.returns-in-Done-clause-served
returns-in-Done-clause-served c =
    serve_push c.args.self.now c.args.at (subst (λ (n : ℕ). n ≢ 0) c.word-array.ensures c.if-array-eq0.false) c.push.new.machine c.push.new.self
    (as_asked c.args.self.now c.machine.result.now c.push.new.machine c.word-array.result c.word-item.result c.push.new.self Done c.machine.ensures.value c.word-array.ensures c.word-item.ensures c.in-Done.ensures)

pub returns-in-Bad-clause-served : goal.returns-in-Bad-clause-served
returns-in-Bad-clause-served c =
    let r = refuse_push c.args.self.now c.args.at (subst (λ (n : ℕ). n ≢ 0) c.word-array.ensures c.if-array-eq0.false) c.push.new.machine c.push.new.self
    (as_asked c.args.self.now c.machine.result.now c.push.new.machine c.word-array.result c.word-item.result c.push.new.self Bad c.machine.ensures.value c.word-array.ensures c.word-item.ensures c.in-Bad.ensures) in
    (ap (λ (m : Machine). record c.args.self.now { runtime = record c.args.self.now.runtime { machine = m }; arena = c.push.new.self }) r.0 ∙ ap (λ (u : ℕ). record c.args.self.now { arena = u }) r.1, r.2)
