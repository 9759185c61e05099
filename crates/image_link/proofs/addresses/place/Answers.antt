use Rattle.std.proofs.Common.{arith}
use Rattle.std.proofs.lemmas.Result.{err_from_is_err_and}
use Rattle.image_link.proofs.Placing.{placed_past, at_index}
use Rattle.image_link.proofs.addresses.place.Goals as goal

pub returns-in_err-end-clause-past : goal.returns-in_err-end-clause-past
returns-in_err-end-clause-past c =
    let p = err_from_is_err_and c.from_residual-in_err-end.result c.from_residual-in_err-end.ensures.1 in
    let i = c.loop-length.length-index in
    rw (p.1) (λ _. placed_past c.args.end.now c.args.lengths.now _ _ _ _ (at_index c.args.end.now c.args.lengths.now i _ c.loop-length.end (omega arith) c.loop-length.invariant) c.in_err-end.ensures.past)
