use Rattle.std.proofs.Common.{◌≡◌, ◌<◌, ◌+◌, ◌-◌, length, refl, ap, ◌∙◌, arith}
use Rattle.std.proofs.lemmas.Option.{slice_get_read}
use Rattle.register_assign.specs.Chosen.{with_back, loops_of_last}
use Rattle.register_assign.proofs.Choosing.{loops_next}
use Rattle.register_assign.proofs.uses.note_loops.Goals as goal

pub loop-at-preserved-in-Some : goal.loop-at-preserved-in-Some
loop-at-preserved-in-Some c =
    let i = c.loop-at.invariant in let reached = i.0 in
    let ops = c.args.ops.now in
    let positive = c.loop-at-test.true in
    let l : c.loop-at.at - 1 < length ops = omega arith in
    let s : c.loop-at.at ≡ c.loop-at.at - 1 + 1 = omega arith in
    let g = slice_get_read ops (length ops) (c.loop-at.at - 1) c.index-ops-at.result refl l c.index-ops-at.is in
    let e : c.loop-at.bounds ≡ loops_of_last ops (length ops - (c.loop-at.at - 1 + 1)) = i.2 ∙ ap (λ k. loops_of_last ops (length ops - k)) s in
    let next = loops_next ops (c.loop-at.at - 1) c.loop-at.bounds c.index-ops-at.result l g e in
    let marked : c.note_loop.new.bounds ≡ with_back c.loop-at.bounds (c.loop-at.at - 1) c.back_to.result = grind (arith) in
    (omega arith, c.note_loop.ensures.long ∙ i.1, marked ∙ (ap (with_back c.loop-at.bounds (c.loop-at.at - 1)) c.back_to.ensures.back ∙ next))

pub loop-at-preserved : goal.loop-at-preserved
loop-at-preserved c =
    let i = c.loop-at.invariant in let reached = i.0 in
    let ops = c.args.ops.now in
    let positive = c.loop-at-test.true in
    let l : c.loop-at.at - 1 < length ops = omega arith in
    let s : c.loop-at.at ≡ c.loop-at.at - 1 + 1 = omega arith in
    let g = slice_get_read ops (length ops) (c.loop-at.at - 1) c.index-ops-at.result refl l c.index-ops-at.is in
    let e : c.loop-at.bounds ≡ loops_of_last ops (length ops - (c.loop-at.at - 1 + 1)) = i.2 ∙ ap (λ k. loops_of_last ops (length ops - k)) s in
    let next = loops_next ops (c.loop-at.at - 1) c.loop-at.bounds c.index-ops-at.result l g e in
    (omega arith, i.1, ap (with_back c.loop-at.bounds (c.loop-at.at - 1)) c.in_default.ensures.back ∙ next)
