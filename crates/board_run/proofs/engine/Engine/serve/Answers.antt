use Rattle.std.proofs.Common.{ap, ◌∙◌, to_z, of_z}
use Rattle.std.specs.Int.{w32}
use Rattle.board_world.specs.Kinds.{Pauses, Waits, Listens}
use Rattle.bank_model.specs.Standing.{fiber_on}
use Rattle.bank_model.specs.AllServices.{service, with_code, word_argument, asked_listener}
use Rattle.fiber_runtime.specs.declared.blocking.Why.TheVariants.{Pause, Wait}
use Rattle.board_run.specs.Serving.{blocks_for}
use Rattle.board_run.proofs.AskServices.{back}
use Rattle.board_run.proofs.ServedAs.{served_at, served_as}
use Rattle.board_run.proofs.engine.Engine.serve.Goals as goal

pub returns-in-0-clause-served : goal.returns-in-0-clause-served
returns-in-0-clause-served c = served_at 0 c.args.service c.args.at _ c.args.self.now _ c.in-0.is (c.end_fiber.ensures.served c.args.at)

pub returns-in-4-clause-served : goal.returns-in-4-clause-served
returns-in-4-clause-served c = served_at 4 c.args.service c.args.at _ c.args.self.now _ c.in-4.is (c.spawn.ensures.served)

pub returns-in-23-clause-served : goal.returns-in-23-clause-served
returns-in-23-clause-served c = served_at 23 c.args.service c.args.at _ c.args.self.now _ c.in-23.is (c.raise_now.ensures.served c.args.at)

pub returns-in-2-clause-served : goal.returns-in-2-clause-served
returns-in-2-clause-served c =
    served_at 2 c.args.service c.args.at c.block.result c.args.self.now c.block.new.self c.in-2.is
    (served_as (λ image. blocks_for (Pause (to_z w32 (of_z w32 c.number-time.result)))) (λ image. service image c.args.at 2) c.block.result c.args.self.now c.block.new.self
    (λ image s. ap (λ n. Pauses n (fiber_on c.args.self.now.runtime.machine) s) (back c.number-time.result c.number-time.type_inv ∙ c.number-time.ensures)) c.block.ensures.served)

pub returns-in-3-clause-served : goal.returns-in-3-clause-served
returns-in-3-clause-served c =
    served_at 3 c.args.service c.args.at c.block-in-3.result c.args.self.now c.block-in-3.new.self c.in-3.is
    (served_as (λ image. blocks_for (Wait c.asked_event-event.result)) (λ image. service image c.args.at 3) c.block-in-3.result c.args.self.now c.block-in-3.new.self
    (λ image s. ap (λ e. Waits e (fiber_on c.args.self.now.runtime.machine) s) c.asked_event-event.ensures) c.block-in-3.ensures.served)

pub returns-in-5-clause-served : goal.returns-in-5-clause-served
returns-in-5-clause-served c = served_at 5 c.args.service c.args.at c.listen.result c.args.self.now c.listen.new.self c.in-5.is c.listen.ensures.served

pub returns-in-22-clause-served : goal.returns-in-22-clause-served
returns-in-22-clause-served c =
    served_at 22 c.args.service c.args.at c.listen-in-22.result c.args.self.now c.listen-in-22.new.self c.in-22.is
    (served_as (λ image f s. with_code c.args.at (word_argument f 2) (Listens (asked_listener f (to_z w32 (of_z w32 c.number-mode.result))) f s)) (λ image. service image c.args.at 22) c.listen-in-22.result c.args.self.now c.listen-in-22.new.self
    (λ image s. ap (λ m. with_code c.args.at (word_argument (fiber_on c.args.self.now.runtime.machine) 2) (Listens (asked_listener (fiber_on c.args.self.now.runtime.machine) m) (fiber_on c.args.self.now.runtime.machine) s)) (back c.number-mode.result c.number-mode.type_inv ∙ c.number-mode.ensures)) c.listen-in-22.ensures.served)
