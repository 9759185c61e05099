use Rattle.std.proofs.Common.{◌++◌, ◌-◌, ◌<◌, ℕ, Option, length, ap, ◌∙◌, sym, arith}
use Rattle.typed_numbers.proofs.Chains.{rest_from, chain_next}
use Rattle.typed_numbers.proofs.member_names.chain.Goals as goal

pub loop-preserved : goal.loop-preserved
loop-preserved c =
    let k = c.args.known.now in
    let n = length k.classes in
    let l : c.loop.counter < n = omega (arith, c.loop-test.true, ap length c.classes-end.ensures.all) in
    let h = ap (λ (q : Option ℕ). c.loop.all ++ rest_from k (n - c.loop.counter) q) (sym c.in-Some.is) ∙ c.loop.invariant in
    chain_next k n c.loop.counter c.in-Some.class c.base_of-at.result c.loop.all c.push.new.self _ l h c.in_ok-push.ensures.ok c.base_of-at.ensures
