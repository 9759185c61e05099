use Rattle.std.proofs.Common.{subst, ap, ◌∙◌, refl, ◌%◌, ◌≢◌, ℕ}
use Rattle.message_bus.specs.BusState.{BusState}
use Rattle.board_run.proofs.AskServices.{back}
use Rattle.board_run.proofs.Services.{serve_listen, refuse_listen, listener_same, not_below}
use Rattle.board_run.proofs.engine.Engine.listen.Goals as goal

pub returns-in-Ok-clause-served : goal.returns-in-Ok-clause-served
returns-in-Ok-clause-served c =
    serve_listen c.args.self.now c.requires c.listen.new.self _ c.args.mode c.args.at
    (listener_same _ _ _ _ _ _ _ _ (back c.number.result c.number.type_inv ∙ c.number.ensures) (back c.number-2.result c.number-2.type_inv ∙ c.number-2.ensures) c.word-handler.ensures (back c.args.mode c.ranges.mode.sfits))
    (subst (λ (n : ℕ). n % 2 ≢ 0) c.word-handler.ensures c.if-handler-eq0.false) (c.in-Ok.ensures.room.0 refl) c.in-Ok.ensures.ok

pub returns-in-Err-clause-served : goal.returns-in-Err-clause-served
returns-in-Err-clause-served c = (
  ap (λ (b : BusState). record c.args.self.now { bus = b }) c.in-Err.ensures.full,
  refuse_listen c.args.self.now c.requires c.args.mode c.args.at (subst (λ (n : ℕ). n % 2 ≢ 0) c.word-handler.ensures c.if-handler-eq0.false) (not_below _ _ c.in-Err.ensures.room.1),
)
