use Rattle.std.proofs.Common.{◌≡◌, sym, subst, arith}
use Rattle.std.proofs.lemmas.Grind.{common_steps}
use Rattle.std.specs.Prelude.{true, false}
use Rattle.sts_scope.specs.Values.{value_at}
use Rattle.type_derive.specs.Derived.{rule}
use Rattle.derived_types.specs.Origins.{sources}
use Rattle.derived_types.specs.Underway.{IsUnderway, Moves}
use Rattle.derived_types.proofs.Least.{moves_on}
use Rattle.derived_types.proofs.Ruled.{same_rule, keeps}
use Rattle.derived_types.proofs.solving.until_said.Goals as goal

pub step-requires-clause-underway : goal.step-requires-clause-underway
step-requires-clause-underway c =
    let t = c.args.rules.now.tables.now in
    let f = value_at c.args.rules.now.classes.now.values.items in
    let k = c.args.known.now in
    let s = sources c.args.rules.now.origins.now in
    subst (λ Q. IsUnderway Q c.loop-known.known.kinds) (sym (same_rule t f s k c.loop-known.known c.loop-known.invariant.same)) c.loop-known.invariant.moves.underway

pub loop-known-preserved : goal.loop-known-preserved
loop-known-preserved c =
    let t = c.args.rules.now.tables.now in
    let f = value_at c.args.rules.now.classes.now.values.items in
    let k = c.args.known.now in
    let s = sources c.args.rules.now.origins.now in
    let R = rule t f k s in
    let m = c.loop-known.known in
    let n = c.step.new.known in
    let b = c.in_ok-step.field-0 in
    let not_said : b ≡ false = grind (arith, common_steps) in
    let moved : Moves R m.kinds n.kinds b = subst (λ Q. Moves Q m.kinds n.kinds b) (same_rule t f s k m c.loop-known.invariant.same) c.in_ok-step.ensures.moves in
    record {
      moves = subst (λ z. Moves R k.kinds n.kinds z) not_said (moves_on R false b k.kinds m.kinds n.kinds c.loop-known.invariant.moves moved);
      same = keeps k m n c.loop-known.invariant.same c.in_ok-step.ensures.same;
    }

pub returns-then-branch : goal.returns-then-branch
returns-then-branch c =
    let t = c.args.rules.now.tables.now in
    let f = value_at c.args.rules.now.classes.now.values.items in
    let k = c.args.known.now in
    let s = sources c.args.rules.now.origins.now in
    let R = rule t f k s in
    let m = c.loop-known.known in
    let n = c.step.new.known in
    let b = c.in_ok-step.field-0 in
    let said : b ≡ true = grind (arith, common_steps) in
    let moved : Moves R m.kinds n.kinds b = subst (λ Q. Moves Q m.kinds n.kinds b) (same_rule t f s k m c.loop-known.invariant.same) c.in_ok-step.ensures.moves in
    record {
      moves = subst (λ z. Moves R k.kinds n.kinds z) said (moves_on R false b k.kinds m.kinds n.kinds c.loop-known.invariant.moves moved);
      same = keeps k m n c.loop-known.invariant.same c.in_ok-step.ensures.same;
    }
