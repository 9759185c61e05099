use Rattle.std.proofs.Common.{subst, ap, ◌∙◌, ◌≡◌, ◌<◌, pos, false, w32, to_z-of_z}
use lib.Signed.{lt_z}
use lib.IntN.{nat_abs}
use Rattle.board_run.proofs.AskServices.{serve_pin, level_of}
use Rattle.board_run.proofs.engine.Engine.set_pin.Goals as goal

pub returns : goal.returns
returns c =
    let back = to_z-of_z {w = w32} {z = c.number-pin.result} (record { sfits = c.number-pin.type_inv }) in
    serve_pin c.args.self.now c.number-pin.result c.number-value.result _ _ c.number-pin.ensures c.number-value.ensures
    (subst (λ z. lt_z z (pos 0) ≡ false) back c.if-pin-lt0.false) (ap nat_abs back)
    (subst (λ z. nat_abs z < 21) back c.if-pin-ge-PIN_LIMIT.false) (c.from.ensures ∙ level_of c.number-value.result (record { sfits = c.number-value.type_inv }))
