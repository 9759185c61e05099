use Rattle.std.proofs.Common.{◌≡◌, ◌+◌, inl, inr, subst, sym, ap, ◌∙◌, arith, is_some, false, refl}
use Rattle.std.proofs.lemmas.Bool.{false≢true}
use Rattle.board_run.specs.Outside.{over_sink}
use Rattle.board_run.specs.Advancing.{of_run, Advances}
use Rattle.board_run.proofs.Parted.{none_of}
use Rattle.board_run.proofs.Executing.{whole_idle, advances_idle, advances_then, fails_then}
use Rattle.board_run.proofs.board.Board.part.Goals as goal

pub execute-requires-clause-whole : goal.execute-requires-clause-whole
execute-requires-clause-whole g c =
    let i = c.settle.ensures.idles in
    whole_idle c.args.self.now.instructions c.args.self.now.engine c.settle.new.self i.moves c.requires.whole i.comes c.settle.ensures.script c.settle.ensures.within c.settle.ensures.counts c.settle.ensures.early

pub returns-then-is_some-clause-parted : goal.returns-then-is_some-clause-parted
returns-then-is_some-clause-parted g c =
    let D = g.D.Device.account in
    let first = over_sink g.K.Sink.taken g.K.Sink.faults c.args.self.now c.args.out.now in
    let begun = over_sink g.K.Sink.taken g.K.Sink.faults (record c.args.self.now { engine = c.settle.new.self; plugs = c.settle.new.plugs }) c.args.out.now in
    let last = over_sink g.K.Sink.taken g.K.Sink.faults c.execute.new.self c.execute.new.out in
    let n = c.in-Ok.ensures.goes.0 in
    let ran = c.in-Ok.ensures.goes.1 in
    let both = advances_then D of_run 0 n first begun last (advances_idle D first begun refl c.settle.ensures.idles) ran.advances in
    let count : n + 0 ≡ n = omega arith in
    inl (record {
      count = n;
      mid = g.K.Sink.taken c.execute.new.out;
      fault = g.K.Sink.faults c.execute.new.out;
      executed = record {
        advances = subst (λ k. Advances D of_run k first last) count both;
        within = ran.within;
        done = ran.done;
        counted = ran.counted;
      };
      ended = sym c.is_some.ensures ∙ c.if-is_some.true;
      later = c.execute.ensures.later;
      finishes = c.finish.ensures;
    })

pub returns-else-is_some-clause-parted : goal.returns-else-is_some-clause-parted
returns-else-is_some-clause-parted g c =
    let D = g.D.Device.account in
    let first = over_sink g.K.Sink.taken g.K.Sink.faults c.args.self.now c.args.out.now in
    let begun = over_sink g.K.Sink.taken g.K.Sink.faults (record c.args.self.now { engine = c.settle.new.self; plugs = c.settle.new.plugs }) c.args.out.now in
    let last = over_sink g.K.Sink.taken g.K.Sink.faults c.execute.new.self c.execute.new.out in
    let n = c.in-Ok.ensures.goes.0 in
    let ran = c.in-Ok.ensures.goes.1 in
    let both = advances_then D of_run 0 n first begun last (advances_idle D first begun refl c.settle.ensures.idles) ran.advances in
    let count : n + 0 ≡ n = omega arith in
    let open_end : is_some c.execute.new.self.engine.end ≡ false = sym c.is_some.ensures ∙ c.if-is_some.false in
    let all : n ≡ c.args.instructions = elim ran.done [ inl e ↦ e | inr o ↦ absurd (false≢true (sym open_end ∙ o)) ] in (
      record {
        advances = subst (λ k. Advances D of_run k first last) (count ∙ all) both;
        within = omega arith;
        done = inl refl;
        counted = ran.counted ∙ ap (λ k. c.args.self.now.instructions + k) all;
      },
      none_of c.execute.new.self.engine.end open_end,
    )

pub returns-in-Err-clause-parted : goal.returns-in-Err-clause-parted
returns-in-Err-clause-parted g c =
    let D = g.D.Device.account in
    let first = over_sink g.K.Sink.taken g.K.Sink.faults c.args.self.now c.args.out.now in
    let begun = over_sink g.K.Sink.taken g.K.Sink.faults (record c.args.self.now { engine = c.settle.new.self; plugs = c.settle.new.plugs }) c.args.out.now in
    let last = over_sink g.K.Sink.taken g.K.Sink.faults c.execute.new.self c.execute.new.out in
    let cut = fails_then D of_run 0 c.args.instructions c.args.instructions first begun last (advances_idle D first begun refl c.settle.ensures.idles) c.in-Err.ensures.cut (omega arith) in
    inr (cut, refl, c.in-Err.ensures.failed)
