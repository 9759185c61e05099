use Rattle.std.proofs.Common.{sym, ◌∙◌}
use Rattle.board_run.proofs.FiberBlocks.{on_some, none_of, keyed_serves, fork_serves, forked_key, forked_copied}
use Rattle.board_run.proofs.engine.Engine.block.Goals as goal

pub returns-then-is_some-clause-served : goal.returns-then-is_some-clause-served
returns-then-is_some-clause-served c =
    keyed_serves c.args.self.now c.args.why c.requires.inside c.rest.new.self c.rest.ensures.rests (on_some c.running.result _ (sym c.is_some.ensures ∙ c.if-is_some.true) c.running.ensures.keyed)

pub returns-clause-served : goal.returns-clause-served
returns-clause-served c =
    let k = forked_key c.fork.result _ (sym c.is_err.ensures.value ∙ c.if-is_err.false) c.fork.ensures.ok in
    fork_serves c.args.self.now c.args.why c.requires.inside c.fork.new.runtime c.count_seats.new.self c.rest-2.new.self k.0 k.1 c.count_seats.ensures c.rest-2.ensures.rests
    (sym c.running.ensures.key ∙ none_of c.running.result (sym c.is_some.ensures ∙ c.if-is_some.false))

pub returns-clause-copied : goal.returns-clause-copied
returns-clause-copied c =
    let k = forked_key c.fork.result _ (sym c.is_err.ensures.value ∙ c.if-is_err.false) c.fork.ensures.ok in
    forked_copied c.args.self.now c.count_seats.new.self c.rest-2.new.self c.fork.new.runtime k.0 c.requires.runs k.1 c.count_seats.ensures c.rest-2.ensures.copied
