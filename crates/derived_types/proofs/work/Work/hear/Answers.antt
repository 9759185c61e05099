use Rattle.std.proofs.Common.{◌≤◌, ◌<◌, ℕ, List, [], ◌∷◌, length, take, get_or, sym, subst, arith}
use Rattle.std.proofs.lemmas.List.{take_all, take_more}
use Rattle.derived_types.specs.Work.{Hears}
use Rattle.derived_types.proofs.Working.{hears_none, hears_more}
use Rattle.derived_types.proofs.work.Work.hear.Goals as goal

pub loop-i-init : goal.loop-i-init
loop-i-init c = hears_none c.args.d c.args.self.now

pub loop-i-preserved : goal.loop-i-preserved
loop-i-preserved c =
    let xs = c.args.noted.now in
    let i = c.loop-i.i in
    let lt : i < length xs = omega arith in
    subst (λ (ys : List ℕ). Hears c.args.d ys c.args.self.now c.hear_one.new.self) (sym (take_more xs i 0 lt))
    (hears_more c.args.d (take i xs) (get_or xs i 0 ∷ []) c.args.self.now c.loop-i.self c.hear_one.new.self c.loop-i.invariant c.in_ok-hear_one.ensures)

pub returns : goal.returns
returns c =
    let xs = c.args.noted.now in
    let le : length xs ≤ c.loop-i.i = omega arith in
    subst (λ (ys : List ℕ). Hears c.args.d ys c.args.self.now c.loop-i.self) (take_all c.loop-i.i xs le) c.loop-i.invariant
