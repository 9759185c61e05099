use Rattle.std.proofs.Common.{◌≤◌, ◌<◌, ℕ, List, [], ◌∷◌, length, take, get_or, sym, subst, arith}
use Rattle.std.proofs.lemmas.List.{take_all, take_more}
use Rattle.derived_types.specs.Work.{Wakes}
use Rattle.derived_types.proofs.Working.{wakes_none, wakes_more}
use Rattle.derived_types.proofs.work.Work.wake_all.Goals as goal

pub loop-i-init : goal.loop-i-init
loop-i-init c = wakes_none c.args.self.now

pub loop-i-preserved : goal.loop-i-preserved
loop-i-preserved c =
    let xs = c.args.all.now in
    let i = c.loop-i.i in
    let lt : i < length xs = omega arith in
    subst (λ (ys : List ℕ). Wakes ys c.args.self.now c.wake.new.self) (sym (take_more xs i 0 lt))
    (wakes_more (take i xs) (get_or xs i 0 ∷ []) c.args.self.now c.loop-i.self c.wake.new.self c.loop-i.invariant c.in_ok-wake.ensures)

pub returns : goal.returns
returns c =
    let xs = c.args.all.now in
    let le : length xs ≤ c.loop-i.i = omega arith in
    subst (λ (ys : List ℕ). Wakes ys c.args.self.now c.loop-i.self) (take_all c.loop-i.i xs le) c.loop-i.invariant
