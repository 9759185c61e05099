use Rattle.std.proofs.Common.{length, sym, ◌∙◌, subst}
use Rattle.sts_scope.specs.Values.{value_at}
use Rattle.type_derive.specs.Derived.{rule}
use Rattle.derived_types.specs.Origins.{sources}
use Rattle.derived_types.specs.Underway.{IsUnderway, IsStill}
use Rattle.derived_types.proofs.Least.{ends}
use Rattle.derived_types.proofs.Ruled.{same_rule, keeps}
use Rattle.derived_types.proofs.solving.rounds.Goals as goal

pub round-requires : goal.round-requires
round-requires c =
    let t = c.args.rules.now.tables.now in
    let f = value_at c.args.rules.now.classes.now.values.items in
    let k = c.args.known.now in
    let s = sources c.args.rules.now.origins.now in
    let R = rule t f k s in
    subst (λ Q. IsUnderway Q c.loop.known.kinds) (sym (same_rule t f s k c.loop.known c.loop.invariant.same)) c.loop.invariant.underway

pub loop-preserved : goal.loop-preserved
loop-preserved c =
    let t = c.args.rules.now.tables.now in
    let f = value_at c.args.rules.now.classes.now.values.items in
    let k = c.args.known.now in
    let s = sources c.args.rules.now.origins.now in
    let R = rule t f k s in
    let m = c.loop.known in
    let n = c.round.new.known in
    record {
      underway = subst (λ Q. IsUnderway Q n.kinds) (same_rule t f s k m c.loop.invariant.same) c.in_ok-round.ensures.moves.underway;
      len = c.in_ok-round.ensures.moves.len ∙ c.loop.invariant.len;
      same = keeps k m n c.loop.invariant.same c.in_ok-round.ensures.same;
    }

pub returns : goal.returns
returns c =
    let t = c.args.rules.now.tables.now in
    let f = value_at c.args.rules.now.classes.now.values.items in
    let k = c.args.known.now in
    let s = sources c.args.rules.now.origins.now in
    let R = rule t f k s in
    let m = c.loop.known in
    let n = c.round.new.known in
    let same = same_rule t f s k m c.loop.invariant.same in
    record {
      least = ends R n.kinds (subst (λ Q. IsUnderway Q n.kinds) same c.in_ok-round.ensures.moves.underway)
          (subst (λ Q. IsStill Q n.kinds (length n.kinds)) same (c.in_ok-round.ensures.still c.if-branch.false));
      len = c.in_ok-round.ensures.moves.len ∙ c.loop.invariant.len;
      same = keeps k m n c.loop.invariant.same c.in_ok-round.ensures.same;
    }
