use Rattle.std.proofs.Common.{ap, arith}
use Rattle.sts_syntax.specs.Weights.{weight_of, weights}
use Rattle.sts_syntax.specs.TypedViews.{typed_trees}
use Rattle.sts_syntax.proofs.Laws.{call_is, super_call_is, make_is, items_is, arguments_total, one_more}
use Rattle.sts_lower.specs.Sizes.{size, sizes}
use Rattle.sts_lower.proofs.Sums.{items_size_is}
use Rattle.sts_lower.proofs.sizes.+size.Goals as goal

pub size_of-total_size-requires : goal.size_of-total_size-requires
size_of-total_size-requires t c =
    let w = ap weight_of (call_is c.args.e.now c.in-Call.callee c.in-Call.args c.in-Call.is) in
    let s = ap size (call_is c.args.e.now c.in-Call.callee c.in-Call.args c.in-Call.is) in
    let a = arguments_total c.in-Call.callee (weights (typed_trees c.in-Call.args)) in
    let b = arguments_total c.in-Call.callee (sizes (typed_trees c.in-Call.args)) in
    (omega (arith, w, a, c.decreases, one_more c.in-Call.callee), omega (arith, s, b, c.requires.few))

pub size_of-overflow_add-result-in-Call : goal.size_of-overflow_add-result-in-Call
size_of-overflow_add-result-in-Call t c =
    let s = ap size (call_is c.args.e.now c.in-Call.callee c.in-Call.args c.in-Call.is) in
    let b = arguments_total c.in-Call.callee (sizes (typed_trees c.in-Call.args)) in
    omega (arith, s, b, c.requires.few, c.own_numbers.ensures.sum, c.total_size.ensures)

pub size_of-overflow_add-result-in-Call-2 : goal.size_of-overflow_add-result-in-Call-2
size_of-overflow_add-result-in-Call-2 t c =
    let s = ap size (call_is c.args.e.now c.in-Call.callee c.in-Call.args c.in-Call.is) in
    let b = arguments_total c.in-Call.callee (sizes (typed_trees c.in-Call.args)) in
    omega (arith, s, b, c.requires.few, c.own_numbers.ensures.sum, c.total_size.ensures, c.call_size.ensures)

pub size_of-returns-in-Call : goal.size_of-returns-in-Call
size_of-returns-in-Call t c =
    let s = ap size (call_is c.args.e.now c.in-Call.callee c.in-Call.args c.in-Call.is) in
    let b = arguments_total c.in-Call.callee (sizes (typed_trees c.in-Call.args)) in
    omega (arith, s, b, c.own_numbers.ensures.sum, c.total_size.ensures, c.call_size.ensures)

pub size_of-total_size-requires-in-Items : goal.size_of-total_size-requires-in-Items
size_of-total_size-requires-in-Items t c =
    let w = ap weight_of (items_is c.args.e.now c.in-Items.items c.in-Items.is) in
    let s = ap size (items_is c.args.e.now c.in-Items.items c.in-Items.is) in
    (omega (arith, w, c.decreases), omega (arith, s, items_size_is c.in-Items.items, c.requires.few))

pub size_of-overflow_add-result-in-Items : goal.size_of-overflow_add-result-in-Items
size_of-overflow_add-result-in-Items t c =
    let s = ap size (items_is c.args.e.now c.in-Items.items c.in-Items.is) in
    omega (arith, s, items_size_is c.in-Items.items, c.requires.few, c.total_size-in-Items.ensures)

pub size_of-overflow_cast-result : goal.size_of-overflow_cast-result
size_of-overflow_cast-result t c =
    let s = ap size (items_is c.args.e.now c.in-Items.items c.in-Items.is) in
    omega (arith, s, items_size_is c.in-Items.items, c.requires.few, c.len.ensures)

pub size_of-overflow_add-result-in-Items-2 : goal.size_of-overflow_add-result-in-Items-2
size_of-overflow_add-result-in-Items-2 t c =
    let s = ap size (items_is c.args.e.now c.in-Items.items c.in-Items.is) in
    omega (arith, s, items_size_is c.in-Items.items, c.requires.few, c.total_size-in-Items.ensures, c.len.ensures)

pub size_of-returns-in-Items : goal.size_of-returns-in-Items
size_of-returns-in-Items t c =
    let s = ap size (items_is c.args.e.now c.in-Items.items c.in-Items.is) in
    omega (arith, s, items_size_is c.in-Items.items, c.total_size-in-Items.ensures, c.len.ensures)

pub size_of-total_size-requires-in-SuperCall : goal.size_of-total_size-requires-in-SuperCall
size_of-total_size-requires-in-SuperCall t c =
    let w = ap weight_of (super_call_is c.args.e.now c.in-SuperCall.field-0 c.in-SuperCall.args c.in-SuperCall.is) in
    let s = ap size (super_call_is c.args.e.now c.in-SuperCall.field-0 c.in-SuperCall.args c.in-SuperCall.is) in
    (omega (arith, w, c.decreases), omega (arith, s, c.requires.few))

pub size_of-overflow_add-result-in-SuperCall : goal.size_of-overflow_add-result-in-SuperCall
size_of-overflow_add-result-in-SuperCall t c =
    let s = ap size (super_call_is c.args.e.now c.in-SuperCall.field-0 c.in-SuperCall.args c.in-SuperCall.is) in
    omega (arith, s, c.requires.few, c.total_size-in-SuperCall.ensures)

pub size_of-overflow_add-result-in-SuperCall-2 : goal.size_of-overflow_add-result-in-SuperCall-2
size_of-overflow_add-result-in-SuperCall-2 t c =
    let s = ap size (super_call_is c.args.e.now c.in-SuperCall.field-0 c.in-SuperCall.args c.in-SuperCall.is) in
    omega (arith, s, c.requires.few, c.total_size-in-SuperCall.ensures)

pub size_of-returns-in-SuperCall : goal.size_of-returns-in-SuperCall
size_of-returns-in-SuperCall t c =
    let s = ap size (super_call_is c.args.e.now c.in-SuperCall.field-0 c.in-SuperCall.args c.in-SuperCall.is) in
    omega (arith, s, c.total_size-in-SuperCall.ensures)

pub size_of-total_size-requires-in-Make : goal.size_of-total_size-requires-in-Make
size_of-total_size-requires-in-Make t c =
    let w = ap weight_of (make_is c.args.e.now c.in-Make.field-0 c.in-Make.args c.in-Make.is) in
    let s = ap size (make_is c.args.e.now c.in-Make.field-0 c.in-Make.args c.in-Make.is) in
    (omega (arith, w, c.decreases), omega (arith, s, c.requires.few))

pub size_of-overflow_add-result-in-Make : goal.size_of-overflow_add-result-in-Make
size_of-overflow_add-result-in-Make t c =
    let s = ap size (make_is c.args.e.now c.in-Make.field-0 c.in-Make.args c.in-Make.is) in
    omega (arith, s, c.requires.few, c.total_size-in-Make.ensures)

pub size_of-returns-in-Make : goal.size_of-returns-in-Make
size_of-returns-in-Make t c =
    let s = ap size (make_is c.args.e.now c.in-Make.field-0 c.in-Make.args c.in-Make.is) in
    omega (arith, s, c.total_size-in-Make.ensures)
