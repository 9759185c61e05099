use Rattle.std.proofs.Common.{◌≡◌, ◌+◌, ◌<◌, ◌≤◌, ℕ, length, subst, sym, add-zero, arith}
use Rattle.sts_syntax.specs.Views.{declarations}
use Rattle.typed_program.specs.Wholes as w
use Rattle.typed_program.proofs.Mains.{GlobalsGo, globals_step, globals_end}
use Rattle.typed_program.proofs.build_globals.build_globals.Goals as goal

pub loop-i-init : goal.loop-i-init
loop-i-init c =
    let l = c.args.plan.now in
    let b = c.args.builder.now in
    let xs = c.args.each.now in
    let whole = w.globals_made l c.args.first (declarations xs) in
    subst (λ (n : ℕ). GlobalsGo l b whole b n xs c.new-made.result) (sym (add-zero c.args.first)) (subst (λ z. GlobalsGo l b whole b c.args.first xs z) (sym c.new-made.ensures) (λ d ys given. given))

pub loop-i-preserved : goal.loop-i-preserved
loop-i-preserved c =
    let l = c.args.plan.now in
    let xs = c.args.each.now in
    let i = c.loop-i.i in
    let n = c.args.first in
    let lt : i < length xs = omega arith in
    let step : n + (i + 1) ≡ n + i + 1 = omega arith in
    globals_step l xs i (n + i) (n + (i + 1)) c.index-each-i.result c.args.builder.now c.loop-i.builder c.build_declared.new.builder (w.globals_made l n (declarations xs)) c.loop-i.made c.push.new.self c.in_ok-a.a
    lt c.index-each-i.is c.in_ok-push.ensures.ok step c.in_ok-a.ensures c.loop-i.invariant

pub returns : goal.returns
returns c =
    let l = c.args.plan.now in
    let xs = c.args.each.now in
    let le : length xs ≤ c.loop-i.i = omega arith in
    globals_end l xs c.loop-i.i (c.args.first + c.loop-i.i) c.args.builder.now c.loop-i.builder (w.globals_made l c.args.first (declarations xs)) c.loop-i.made le c.loop-i.invariant
