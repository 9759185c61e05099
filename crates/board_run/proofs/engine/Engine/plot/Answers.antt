use Rattle.std.proofs.Common.{subst, sym, ap, ◌∙◌, to_z, of_z, w32, to_z-of_z}
use Rattle.board_world.specs.Frame.{plotted}
use Rattle.board_run.specs.declared.engine.Engine.{Engine}
use Rattle.board_run.specs.Serving.{IsServed}
use Rattle.bank_model.specs.AllServices.{service}
use Rattle.board_run.specs.declared.engine.Served.TheVariants.{Goes}
use Rattle.board_run.proofs.AskServices.{serve_plot}
use Rattle.board_run.proofs.engine.Engine.plot.Goals as goal

pub returns-clause-served : goal.returns-clause-served
returns-clause-served c =
    let x = to_z-of_z {w = w32} {z = c.number.result} (record { sfits = c.number.type_inv }) in
    let y = to_z-of_z {w = w32} {z = c.number-2.result} (record { sfits = c.number-2.type_inv }) in
    subst (λ (e : Engine). IsServed (λ image. service image c.args.at 10) (Goes c.show_frame.result) c.args.self.now e) (sym c.show_frame.ensures.after)
    (serve_plot c.args.self.now c.plot-frame.result c.word-mode.result c.number.result c.number-2.result c.show_frame.result c.args.at c.number.ensures c.number-2.ensures c.word-mode.ensures c.if-mode-gt2.false
    (c.plot-frame.ensures.value ∙ ap (λ a. plotted a (to_z w32 (of_z w32 c.number.result)) (to_z w32 (of_z w32 c.number-2.result)) c.word-mode.result) c.frame.ensures
    ∙ ap (λ a. plotted c.args.self.now.display a (to_z w32 (of_z w32 c.number-2.result)) c.word-mode.result) x ∙ ap (λ a. plotted c.args.self.now.display c.number.result a c.word-mode.result) y) c.show_frame.ensures.output)
