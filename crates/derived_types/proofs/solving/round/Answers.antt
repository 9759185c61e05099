use Rattle.std.proofs.Common.{◌≡◌, sym, ◌∙◌, subst, None}
use Rattle.std.specs.Prelude.{false}
use Rattle.sts_scope.specs.Values.{value_at}
use Rattle.type_derive.specs.Derived.{rule, at}
use Rattle.derived_types.specs.Origins.{sources}
use Rattle.derived_types.specs.Underway.{IsUnderway, Moves}
use Rattle.derived_types.proofs.Least.{moves_on, still_on}
use Rattle.derived_types.proofs.Ruled.{same_rule, keeps}
use Rattle.derived_types.proofs.solving.round.Goals as goal

pub advance-requires-clause-underway : goal.advance-requires-clause-underway
advance-requires-clause-underway c =
    let t = c.args.rules.now.tables.now in
    let f = value_at c.args.rules.now.classes.now.values.items in
    let k = c.args.known.now in
    let s = sources c.args.rules.now.origins.now in
    let R = rule t f k s in
    subst (λ Q. IsUnderway Q c.loop-d.known.kinds) (sym (same_rule t f s k c.loop-d.known c.loop-d.invariant.same)) c.loop-d.invariant.moves.underway

pub loop-d-preserved : goal.loop-d-preserved
loop-d-preserved c =
    let t = c.args.rules.now.tables.now in
    let f = value_at c.args.rules.now.classes.now.values.items in
    let k = c.args.known.now in
    let s = sources c.args.rules.now.origins.now in
    let R = rule t f k s in
    let m = c.loop-d.known in
    let n = c.advance.new.known in
    let a = c.loop-d.said in
    let b = c.in_ok-now.now in
    let same = same_rule t f s k m c.loop-d.invariant.same in
    let moved : Moves R m.kinds n.kinds b = subst (λ Q. Moves Q m.kinds n.kinds b) same c.in_ok-now.ensures.moves in
    let still = subst (λ Q. b ≡ false → at m.kinds c.loop-d.d ≡ None → Q m.kinds c.loop-d.d ≡ None) same c.in_ok-now.ensures.still in
    record {
      moves = subst (λ z. Moves R k.kinds n.kinds z) (sym c.either-said.ensures) (moves_on R a b k.kinds m.kinds n.kinds c.loop-d.invariant.moves moved);
      still = λ e. still_on R a b m.kinds n.kinds c.loop-d.d moved.idle c.loop-d.invariant.still still (sym c.either-said.ensures ∙ e);
      same = keeps k m n c.loop-d.invariant.same c.in_ok-now.ensures.same;
    }
