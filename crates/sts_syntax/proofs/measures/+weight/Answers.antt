use Rattle.std.proofs.Common.{ap, arith}
use Rattle.sts_syntax.specs.Weights.{weight_of, weights}
use Rattle.sts_syntax.specs.TypedViews.{typed_trees}
use Rattle.sts_syntax.proofs.TypedLaws.{call_is, super_call_is, make_is, items_is}
use Rattle.sts_syntax.proofs.Measured.{arguments_total, one_more}
use Rattle.sts_syntax.proofs.measures.+weight.Goals as goal

pub weight_of-weights-requires : goal.weight_of-weights-requires
weight_of-weights-requires t c =
    let w = ap weight_of (call_is c.args.e.now c.in-Call.callee c.in-Call.args c.in-Call.is) in
    let a = arguments_total c.in-Call.callee (weights (typed_trees c.in-Call.args)) in
    omega (arith, w, a, c.decreases, one_more c.in-Call.callee)

pub weight_of-returns-in-Call : goal.weight_of-returns-in-Call
weight_of-returns-in-Call t c =
    let w = ap weight_of (call_is c.args.e.now c.in-Call.callee c.in-Call.args c.in-Call.is) in
    let a = arguments_total c.in-Call.callee (weights (typed_trees c.in-Call.args)) in
    omega (arith, w, c.weights.ensures, c.call_weight.ensures, c.own_numbers.ensures.sum, a)

pub weight_of-weights-requires-in-SuperCall : goal.weight_of-weights-requires-in-SuperCall
weight_of-weights-requires-in-SuperCall t c =
    let w = ap weight_of (super_call_is c.args.e.now c.in-SuperCall.field-0 c.in-SuperCall.args c.in-SuperCall.is) in
    omega (arith, w, c.decreases)

pub weight_of-returns-in-SuperCall : goal.weight_of-returns-in-SuperCall
weight_of-returns-in-SuperCall t c =
    let w = ap weight_of (super_call_is c.args.e.now c.in-SuperCall.field-0 c.in-SuperCall.args c.in-SuperCall.is) in
    omega (arith, w, c.weights-in-SuperCall.ensures)

pub weight_of-weights-requires-in-Make : goal.weight_of-weights-requires-in-Make
weight_of-weights-requires-in-Make t c =
    let w = ap weight_of (make_is c.args.e.now c.in-Make.field-0 c.in-Make.args c.in-Make.is) in
    omega (arith, w, c.decreases)

pub weight_of-returns-in-Make : goal.weight_of-returns-in-Make
weight_of-returns-in-Make t c =
    let w = ap weight_of (make_is c.args.e.now c.in-Make.field-0 c.in-Make.args c.in-Make.is) in
    omega (arith, w, c.weights-in-Make.ensures)

pub weight_of-weights-requires-in-Items : goal.weight_of-weights-requires-in-Items
weight_of-weights-requires-in-Items t c =
    let w = ap weight_of (items_is c.args.e.now c.in-Items.items c.in-Items.is) in
    omega (arith, w, c.decreases)

pub weight_of-returns-in-Items : goal.weight_of-returns-in-Items
weight_of-returns-in-Items t c =
    let w = ap weight_of (items_is c.args.e.now c.in-Items.items c.in-Items.is) in
    omega (arith, w, c.weights-in-Items.ensures)
