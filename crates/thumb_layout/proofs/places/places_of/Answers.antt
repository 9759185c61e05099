use Rattle.std.proofs.Common.{arith, ◌≡◌, ◌+◌, ◌∷◌, ◌++◌, [], List, drop, sym, subst}
use Rattle.std.proofs.lemmas.Grind.{common_steps}
use Rattle.thumb_layout.specs.declared.places.PieceOffsets.{PieceOffsets}
use Rattle.thumb_layout.proofs.Passing.{PlaceLoop, place_step_at}
use Rattle.thumb_layout.proofs.Lengths.{most_counted}
use Rattle.thumb_layout.proofs.places.places_of.Goals as goal

pub pass-requires-clause-at : goal.pass-requires-clause-at
pass-requires-clause-at c =
    let h = c.loop-index.invariant.0 in
    let a = h.bound in
    let b = h.counts.0 in
    let m = most_counted c.args.pieces.now in
    let f = c.requires.few in
    omega arith

pub loop-index-preserved : goal.loop-index-preserved
loop-index-preserved c =
    let i = c.loop-index.index in
    let places = c.loop-index.places.items in
    let place = c.in_ok-place.place in
    let pushed : c.push.new.self.items ≡ places ++ place ∷ [] = grind (arith, common_steps) in
    let step = place_step_at c.args.pieces.now c.args.forms.now i _ places c.loop-index.pools.items c.loop-index.cursor.at c.loop-index.cursor.waits (omega arith) c.requires.proper.as_long c.loop-index.invariant.0 place c.pass.new.self.at c.pass.new.self.waits c.pass.new.pools.items
    c.in_ok-place.ensures.passed c.in_ok-place.ensures.pools in (
      subst (λ (q : List PieceOffsets). PlaceLoop c.args.pieces.now c.args.forms.now (drop (i + 1) c.args.pieces.now) (drop (i + 1) c.args.forms.now) q c.pass.new.pools.items c.pass.new.self.at c.pass.new.self.waits) (sym pushed) step,
      c.in_ok-place.ensures.latest,
    )

pub lay_pool-requires-clause-at : goal.lay_pool-requires-clause-at
lay_pool-requires-clause-at c =
    let h = c.loop-index.invariant.0 in
    let a = h.bound in
    let m = most_counted c.args.pieces.now in
    let f = c.requires.few in
    omega arith

pub lay_pool-requires-clause-count : goal.lay_pool-requires-clause-count
lay_pool-requires-clause-count c =
    let h = c.loop-index.invariant.0 in
    let a = h.bound in
    let b = h.counts.0 in
    let m = most_counted c.args.pieces.now in
    let f = c.requires.few in
    omega arith
