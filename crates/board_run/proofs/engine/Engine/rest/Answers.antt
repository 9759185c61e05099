use Rattle.std.proofs.Common.{ap, ◌∙◌, ◌+◌, ℕ}
use Rattle.board_run.proofs.engine.Engine.rest.Goals as goal

pub returns-clause-rests : goal.returns-clause-rests
returns-clause-rests c = λ key t runs keyed. record {
  blocked = c.block.ensures.blocked key t runs keyed;
  rest = ap (λ (n : ℕ). record c.args.self.now { runtime = c.block.new.runtime; switch = c.block.new.self; counts = record c.args.self.now.counts { words = c.args.self.now.counts.words + n } }) (c.from.ensures ∙ c.depth.ensures.words);
}
