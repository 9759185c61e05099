use Rattle.std.proofs.Common.{sym, ◌∙◌, subst}
use Rattle.sts_scope.specs.Values.{value_at}
use Rattle.derived_types.specs.Origins.{sources}
use Rattle.derived_types.specs.Underway.{IsUnderway}
use Rattle.derived_types.proofs.Ruled.{same_rule, keeps}
use Rattle.derived_types.proofs.solving.in_order.Goals as goal

pub until_said-requires : goal.until_said-requires
until_said-requires c =
    let t = c.args.rules.now.tables.now in
    let f = value_at c.args.rules.now.classes.now.values.items in
    let k = c.args.known.now in
    let s = sources c.args.rules.now.origins.now in
    subst (λ Q. IsUnderway Q c.loop.known.kinds) (sym (same_rule t f s k c.loop.known c.loop.invariant.same)) c.loop.invariant.underway

pub loop-preserved : goal.loop-preserved
loop-preserved c =
    let t = c.args.rules.now.tables.now in
    let f = value_at c.args.rules.now.classes.now.values.items in
    let k = c.args.known.now in
    let s = sources c.args.rules.now.origins.now in
    let m = c.loop.known in
    let n = c.until_said.new.known in
    record {
      underway = subst (λ Q. IsUnderway Q n.kinds) (same_rule t f s k m c.loop.invariant.same) c.in_ok-until_said.ensures.moves.underway;
      len = c.in_ok-until_said.ensures.moves.len ∙ c.loop.invariant.len;
      same = keeps k m n c.loop.invariant.same c.in_ok-until_said.ensures.same;
    }

pub returns : goal.returns
returns c =
    let t = c.args.rules.now.tables.now in
    let f = value_at c.args.rules.now.classes.now.values.items in
    let k = c.args.known.now in
    let s = sources c.args.rules.now.origins.now in
    let m = c.loop.known in
    let n = c.until_said.new.known in
    record {
      underway = subst (λ Q. IsUnderway Q n.kinds) (same_rule t f s k m c.loop.invariant.same) c.in_ok-until_said.ensures.moves.underway;
      len = c.in_ok-until_said.ensures.moves.len ∙ c.loop.invariant.len;
      same = keeps k m n c.loop.invariant.same c.in_ok-until_said.ensures.same;
    }
