use Rattle.std.proofs.Common.{◌≡◌, ◌≤◌, inl, inr, ◌+◌, subst, sym, arith, refl}
use Rattle.board_run.specs.Outside.{over_sink}
use Rattle.board_run.specs.Advancing.{of_run, Advances, IsWhole}
use Rattle.board_run.proofs.Executing.{whole_idle, advances_idle, advances_then, fails_then}
use Rattle.board_run.proofs.Finished.{finished, fails_cut}
use Rattle.board_run.proofs.board.Board.run.Goals as goal

pub execute-requires-clause-whole : goal.execute-requires-clause-whole
execute-requires-clause-whole g c =
    let m = c.requires.fresh.2 in
    let i = c.settle.ensures.idles in
    subst (IsWhole c.settle.new.self) (sym c.requires.counted) (whole_idle 0 c.args.self.now.engine c.settle.new.self i.moves m.whole i.comes c.settle.ensures.script c.settle.ensures.within c.settle.ensures.counts c.settle.ensures.early)

pub returns-in-Ok-clause-ran : goal.returns-in-Ok-clause-ran
returns-in-Ok-clause-ran g c = λ image script places m f.
    let D = g.D.Device.account in
    let first = over_sink g.K.Sink.taken g.K.Sink.faults c.args.self.now c.args.out.now in
    let begun = over_sink g.K.Sink.taken g.K.Sink.faults (record c.args.self.now { engine = c.settle.new.self; plugs = c.settle.new.plugs }) c.args.out.now in
    let last = over_sink g.K.Sink.taken g.K.Sink.faults c.execute.new.self c.execute.new.out in
    let n = c.in-Ok.ensures.goes.0 in
    let ran = c.in-Ok.ensures.goes.1 in
    let both = advances_then D of_run 0 n first begun last (advances_idle D first begun refl c.settle.ensures.idles) ran.advances in
    let instructions : n + 0 ≡ c.execute.new.self.instructions = (let a = ran.counted in let b = c.requires.counted in omega (arith, a, b)) in
    let within : c.execute.new.self.instructions ≤ c.args.budget = (let a = ran.within in omega (arith, a, instructions)) in
    finished D image script c.args.budget first m places f last (subst (λ k. Advances D of_run k first last) instructions both) c.in-Ok.ensures.settled
    (g.K.Sink.taken c.finish.new.out) (g.K.Sink.faults c.finish.new.out) within (elim ran.done [ inl e ↦ inl (omega (arith, e, instructions)) | inr o ↦ inr o ]) c.finish.result c.execute.ensures.later c.finish.ensures

pub returns-in-Err-clause-ran : goal.returns-in-Err-clause-ran
returns-in-Err-clause-ran g c = λ image script places m f.
    let D = g.D.Device.account in
    let first = over_sink g.K.Sink.taken g.K.Sink.faults c.args.self.now c.args.out.now in
    let begun = over_sink g.K.Sink.taken g.K.Sink.faults (record c.args.self.now { engine = c.settle.new.self; plugs = c.settle.new.plugs }) c.args.out.now in
    let last = over_sink g.K.Sink.taken g.K.Sink.faults c.execute.new.self c.execute.new.out in
    let cut = fails_then D of_run 0 c.args.budget c.args.budget first begun last (advances_idle D first begun refl c.settle.ensures.idles) c.in-Err.ensures.cut (omega arith) in
    (fails_cut D image script c.args.budget first m places f last cut, c.in-Err.ensures.failed)
