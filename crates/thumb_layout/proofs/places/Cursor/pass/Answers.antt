use Rattle.std.proofs.Common.{◌≡◌, ◌+◌, ◌++◌, List, false, ap, ◌∙◌, arith}
use Rattle.std.proofs.lemmas.Grind.{common_steps}
use Rattle.thumb_layout.specs.Pieces.{goes_on}
use Rattle.thumb_layout.specs.Layout.{Wait, over_pool}
use Rattle.thumb_layout.specs.Cells.{pool_at}
use Rattle.thumb_layout.specs.Placing.{Counts}
use Rattle.thumb_layout.proofs.Passing.{passed_off}
use Rattle.thumb_layout.proofs.places.Cursor.pass.Goals as goal

pub returns-in_ok-lay_pool-clause-passed : goal.returns-in_ok-lay_pool-clause-passed
returns-in_ok-lay_pool-clause-passed c = λ waits h.
    let g : goes_on c.args.piece.now ≡ false = grind (arith, common_steps) in
    let s = c.size.ensures in
    let body = c.enter.new.self.at in
    let w = c.enter.new.self.waits in
    (passed_off c.args.piece.now c.args.form waits c.args.self.now.at body w c.lay_pool.new.self.waits c.args.pools.now.items c.enter.new.pools.items c.lay_pool.new.pools.items c.lay_pool.new.self.at g
    (c.in_ok-enter.ensures.entered waits h) (c.in_ok-enter.ensures.pools waits h)
    (λ (vs : List Wait) (k : Counts w vs). (c.in_ok-lay_pool.ensures.at vs k ∙ ap (λ n. over_pool (body + n) vs) s, c.in_ok-lay_pool.ensures.pools vs k ∙ ap (λ n. c.enter.new.pools.items ++ pool_at (body + n) vs) s))
    c.lay_pool.ensures.counts).0

pub returns-in_ok-lay_pool-clause-pools : goal.returns-in_ok-lay_pool-clause-pools
returns-in_ok-lay_pool-clause-pools c = λ waits h.
    let g : goes_on c.args.piece.now ≡ false = grind (arith, common_steps) in
    let s = c.size.ensures in
    let body = c.enter.new.self.at in
    let w = c.enter.new.self.waits in
    (passed_off c.args.piece.now c.args.form waits c.args.self.now.at body w c.lay_pool.new.self.waits c.args.pools.now.items c.enter.new.pools.items c.lay_pool.new.pools.items c.lay_pool.new.self.at g
    (c.in_ok-enter.ensures.entered waits h) (c.in_ok-enter.ensures.pools waits h)
    (λ (vs : List Wait) (k : Counts w vs). (c.in_ok-lay_pool.ensures.at vs k ∙ ap (λ n. over_pool (body + n) vs) s, c.in_ok-lay_pool.ensures.pools vs k ∙ ap (λ n. c.enter.new.pools.items ++ pool_at (body + n) vs) s))
    c.lay_pool.ensures.counts).1
