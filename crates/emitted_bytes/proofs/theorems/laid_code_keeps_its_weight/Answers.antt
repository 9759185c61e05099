use Rattle.std.proofs.Common.{◌≡◌, ◌+◌, ◌*◌, ◌≤◌, length, ap, arith}
use Rattle.sts_syntax.specs.Weights.{weight, repeating_weight}
use Rattle.flat_ir.specs.declared.ops.Function.{Function}
use Rattle.lowered_code.specs.Costs.{cost}
use Rattle.thumb_layout.specs.Rounds.{total_most}
use Rattle.thumb_layout.specs.Cells.{laid}
use Rattle.thumb_emit.specs.Bounds.{bytes_of_weight, entry_bytes}
use Rattle.thumb_emit.specs.Emit.{function_pieces}
use Rattle.sts_lower.specs.Lowered.{routine_ops, repeating_ops}
use Rattle.emitted_bytes.specs.Weighed.{bytes_of_room, full_bytes}
use Rattle.emitted_bytes.proofs.Rows.{ops_cost, rows_cost, entry_costs}
use Rattle.emitted_bytes.proofs.theorems.laid_code_keeps_its_weight.Goals as goal

pub returns-clause-ops : goal.returns-clause-ops
returns-clause-ops c = rows_cost

pub returns-clause-entries : goal.returns-clause-entries
returns-clause-entries c = entry_costs

pub returns-clause-routines : goal.returns-clause-routines
returns-clause-routines c = λ P f r p ready e. (
    let a : length (laid (function_pieces p)).bytes ≤ total_most (function_pieces p) = c.layout_settles.ensures.most (function_pieces p) (c.pieces_can_be_laid.ensures.sound p ready) in
    let b = c.pieces_keep_their_bounds.ensures.function_bytes p ready.formed.params in
    let d = ops_cost p.function.ops in
    let g : cost full_bytes p.function.ops ≡ cost full_bytes (routine_ops P f r) = ap (λ (q : Function). cost full_bytes q.ops) e in
    let h : cost full_bytes (routine_ops P f r) + entry_bytes ≤ bytes_of_weight * weight r =
    c.code_costs_at_most_its_weight.ensures.routines full_bytes bytes_of_weight bytes_of_room entry_bytes rows_cost entry_costs P f r in
    omega (arith, a, b, d, g, h))

pub returns-clause-repeating : goal.returns-clause-repeating
returns-clause-repeating c = λ f p ready e. (
    let a : length (laid (function_pieces p)).bytes ≤ total_most (function_pieces p) = c.layout_settles.ensures.most (function_pieces p) (c.pieces_can_be_laid.ensures.sound p ready) in
    let b = c.pieces_keep_their_bounds.ensures.function_bytes p ready.formed.params in
    let d = ops_cost p.function.ops in
    let g : cost full_bytes p.function.ops ≡ cost full_bytes (repeating_ops f) = ap (λ (q : Function). cost full_bytes q.ops) e in
    let h : cost full_bytes (repeating_ops f) + entry_bytes ≤ bytes_of_weight * repeating_weight =
    c.code_costs_at_most_its_weight.ensures.repeating full_bytes bytes_of_weight bytes_of_room entry_bytes rows_cost entry_costs f in
    omega (arith, a, b, d, g, h))
