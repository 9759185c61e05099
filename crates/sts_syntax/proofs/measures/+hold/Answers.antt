use Rattle.std.proofs.Common.{◌<◌, length, ap, arith, lit≤}
use Rattle.sts_syntax.specs.Measures.{hold, holds, stacked, greatest, argument_sizes, total}
use Rattle.sts_syntax.specs.Weights.{weight_of, weights}
use Rattle.sts_syntax.specs.TypedViews.{typed_tree, typed_trees}
use Rattle.sts_syntax.proofs.TypedLaws.{call_is, super_call_is, make_is, items_is}
use Rattle.sts_syntax.proofs.Measured.{arguments_total, one_more}
use Rattle.sts_syntax.proofs.Holds.{hold_le, weighs, greatest_holds_le, holds_length, weights_next, stacked_next}
use Rattle.sts_syntax.proofs.measures.+hold.Goals as goal

pub hold-placed_hold-requires : goal.hold-placed_hold-requires
hold-placed_hold-requires t c =
    let w = ap weight_of (call_is c.args.e.now c.in-Call.callee c.in-Call.args c.in-Call.is) in
    let s = ap (λ xs. total (weights (typed_trees xs))) c.as_slice.ensures in
    let a = arguments_total c.in-Call.callee (weights (typed_trees c.in-Call.args)) in
    (omega (arith, w, s, a, one_more c.in-Call.callee, c.decreases, c.places.ensures.few), (omega (arith, w, s, a, one_more c.in-Call.callee, c.requires.few), (c.places.ensures.few, omega (arith, c.places.ensures.few))))

pub hold-stacked_hold-requires : goal.hold-stacked_hold-requires
hold-stacked_hold-requires t c =
    let w = ap weight_of (super_call_is c.args.e.now c.in-SuperCall.field-0 c.in-SuperCall.args c.in-SuperCall.is) in
    let s = ap (λ xs. total (weights (typed_trees xs))) c.as_slice-in-SuperCall.ensures in
    (omega (arith, w, s, c.decreases), (omega (arith, w, s, c.requires.few), lit≤ tt))

pub hold-stacked_hold-requires-in-Make : goal.hold-stacked_hold-requires-in-Make
hold-stacked_hold-requires-in-Make t c =
    let w = ap weight_of (make_is c.args.e.now c.in-Make.field-0 c.in-Make.args c.in-Make.is) in
    let s = ap (λ xs. total (weights (typed_trees xs))) c.as_slice-in-Make.ensures in
    (omega (arith, w, s, c.decreases), (omega (arith, w, s, c.requires.few), lit≤ tt))

pub hold-greatest_hold-requires : goal.hold-greatest_hold-requires
hold-greatest_hold-requires t c =
    let w = ap weight_of (items_is c.args.e.now c.in-Items.items c.in-Items.is) in
    let s = ap (λ xs. total (weights (typed_trees xs))) c.as_slice-in-Items.ensures in
    (omega (arith, w, s, c.decreases), omega (arith, w, s, c.requires.few))

pub hold-overflow_add-result : goal.hold-overflow_add-result
hold-overflow_add-result t c =
    let w = ap weight_of (items_is c.args.e.now c.in-Items.items c.in-Items.is) in
    let s = ap (λ xs. total (weights (typed_trees xs))) c.as_slice-in-Items.ensures in
    omega (arith, w, s, c.requires.few, c.greatest_hold.ensures, greatest_holds_le (typed_trees c.as_slice-in-Items.result.now))

pub hold-returns-in-Call : goal.hold-returns-in-Call
hold-returns-in-Call t c =
    let h = ap hold (call_is c.args.e.now c.in-Call.callee c.in-Call.args c.in-Call.is) in
    let sizes = ap (stacked 0) (c.places.ensures.sizes (holds (typed_trees c.as_slice.result.now))) in
    let s = ap (λ xs. stacked 0 (argument_sizes 1 c.in-Call.callee (holds (typed_trees xs)))) c.as_slice.ensures in
    omega (arith, h, sizes, s, c.placed_hold.ensures, c.max-in-Call.ensures)

pub hold-returns-in-SuperCall : goal.hold-returns-in-SuperCall
hold-returns-in-SuperCall t c =
    let h = ap hold (super_call_is c.args.e.now c.in-SuperCall.field-0 c.in-SuperCall.args c.in-SuperCall.is) in
    let s = ap (λ xs. stacked 1 (holds (typed_trees xs))) c.as_slice-in-SuperCall.ensures in
    omega (arith, h, s, c.stacked_hold.ensures, c.max-in-SuperCall.ensures)

pub hold-returns-in-Make : goal.hold-returns-in-Make
hold-returns-in-Make t c =
    let h = ap hold (make_is c.args.e.now c.in-Make.field-0 c.in-Make.args c.in-Make.is) in
    let s = ap (λ xs. stacked 0 (holds (typed_trees xs))) c.as_slice-in-Make.ensures in
    omega (arith, h, s, c.stacked_hold-in-Make.ensures, c.len.ensures, holds_length c.in-Make.args, c.max-in-Make.ensures)

pub hold-returns-in-Items : goal.hold-returns-in-Items
hold-returns-in-Items t c =
    let h = ap hold (items_is c.args.e.now c.in-Items.items c.in-Items.is) in
    let s = ap (λ xs. greatest (holds (typed_trees xs))) c.as_slice-in-Items.ensures in
    omega (arith, h, s, c.greatest_hold.ensures)

pub placed_hold-overflow_add-below-in-len1-up : goal.placed_hold-overflow_add-below-in-len1-up
placed_hold-overflow_add-below-in-len1-up t c =
    let next = weights_next c.args.args.now 0 c.a-item.result (omega arith) c.a-item.is in
    omega (arith, next, hold_le (typed_tree c.a-item.result), c.hold.ensures, c.requires.few, c.requires.below)

pub stacked_hold-overflow_add-pending : goal.stacked_hold-overflow_add-pending
stacked_hold-overflow_add-pending t c =
    let lt : c.loop-a.a-index < length c.args.all.now = omega arith in
    let next = weights_next c.args.all.now c.loop-a.a-index c.a-item.result lt c.a-item.is in
    omega (arith, next, hold_le (typed_tree c.a-item.result), c.hold.ensures, c.requires.few, c.requires.below, c.loop-a.invariant.pending, c.loop-a.invariant.few)

pub stacked_hold-loop-a-preserved : goal.stacked_hold-loop-a-preserved
stacked_hold-loop-a-preserved t c =
    let lt : c.loop-a.a-index < length c.args.all.now = omega arith in
    let next = weights_next c.args.all.now c.loop-a.a-index c.a-item.result lt c.a-item.is in
    let above = stacked_next c.args.all.now c.loop-a.a-index c.a-item.result c.loop-a.pending lt c.a-item.is in
    record {
      most = omega (arith, above, c.hold.ensures, c.max-most.ensures, c.loop-a.invariant.most);
      pending = omega (arith, c.loop-a.invariant.pending);
      few = omega (arith, next, weighs (typed_tree c.a-item.result), c.loop-a.invariant.few);
    }
