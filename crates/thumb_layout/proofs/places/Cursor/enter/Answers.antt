use Rattle.std.proofs.Common.{◌≡◌, ◌+◌, ◌++◌, List, [], false, true, sym, ap, ◌∙◌, arith}
use Rattle.std.proofs.lemmas.Grind.{common_steps}
use Rattle.thumb_layout.specs.Pieces.{goes_on}
use Rattle.thumb_layout.specs.Layout.{Wait, size, loads_at, reaches, pool_behind}
use Rattle.thumb_layout.specs.Placing.{is_late}
use Rattle.thumb_layout.proofs.Passing.{late_is}
use Rattle.thumb_layout.proofs.places.Cursor.enter.Goals as goal
use Rattle.thumb_layout.proofs.places.Cursor.enter.Goals.{then-goes_on, else-goes_on}

pub returns-clause-entered : goal.returns-clause-entered
returns-clause-entered c = λ waits h.
    let x = c.args.piece.now in
    let f = c.args.form in
    let at = c.args.self.now.at in
    let all : List Wait = waits ++ loads_at x at in
    let r : reaches c.if-goes_on.start all ≡ false = sym (c.reach.ensures all (c.and_of-waits.ensures.counts waits h)) ∙ c.if-reach.false in
    let s : c.if-goes_on.start ≡ pool_behind (goes_on x) (at + size x f) = elim c.if-goes_on.branch [ then-goes_on w ↦ grind (arith, common_steps) | else-goes_on w ↦ grind (arith, common_steps) ] in
    let late : is_late x f waits at ≡ true = late_is x f waits at (ap (λ n. reaches n all) (sym s) ∙ r) in
    rw late (c.in_ok-lay_pool.ensures.at waits h, c.and_of-self.ensures.counts [] c.lay_pool.ensures.counts)
