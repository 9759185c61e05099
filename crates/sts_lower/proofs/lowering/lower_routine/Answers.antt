use Rattle.std.proofs.Common.{◌≡◌, ◌+◌, ◌++◌, ◌<◌, ◌^◌, ℕ, List, sym, subst, ◌∙◌, arith}
use Rattle.sts_syntax.specs.declared.typed.TypedStmt.{TypedStmt}
use Rattle.sts_syntax.specs.Measures.{hold, greatest_of}
use Rattle.sts_syntax.specs.TypedViews.{class_entries, typed_statements, typed_routine}
use Rattle.sts_syntax.proofs.Laws.{locals_are, outgoing_words_le}
use Rattle.sts_lower.specs.Sizes.{statements_size}
use Rattle.sts_lower.specs.Statements.{statements_code, bare_code}
use Rattle.sts_lower.specs.Repeated.{before}
use Rattle.sts_lower.specs.inner.Fitting.{AreStatements}
use Rattle.sts_lower.proofs.Bounds.{statements_le}
use Rattle.sts_lower.proofs.Made.{routine_made}
use Rattle.sts_lower.proofs.lowering.lower_routine.Goals as goal

pub ops_of-requires-clause-fits : goal.ops_of-requires-clause-fits
ops_of-requires-clause-fits c =
    let body = c.args.body.now in
    let params = c.len-params.ensures ∙ sym (locals_are body.params) in
    let P : List TypedStmt → Type 0 =
    λ all.
    (0 + statements_size c.args.maker (typed_statements all) < 2 ^ 32)
    × (c.len-params.result + c.len-locals.result + 1 + greatest_of hold (typed_statements all) < 2 ^ 32)
    × AreStatements c.len-params.result (typed_statements all)
    in
    subst P (sym c.as_slice.ensures) (
      omega (arith, statements_le c.args.maker (typed_statements body.stmts), c.requires.fits.weight),
      omega (arith, params, c.len-locals.ensures, locals_are body.locals, c.requires.fits.params, c.requires.fits.locals, c.requires.fits.pending),
      subst (λ n. AreStatements n (typed_statements body.stmts)) (sym params) c.requires.fits.statements,
    )

pub overflow_cast-operands : goal.overflow_cast-operands
overflow_cast-operands c = omega (arith, c.pending_words-operands.ensures, c.requires.fits.pending)

pub overflow_cast-outgoing : goal.overflow_cast-outgoing
overflow_cast-outgoing c = omega (arith, c.outgoing_words-outgoing.ensures, outgoing_words_le (typed_statements c.args.body.now.stmts), c.requires.fits.weight)

pub returns : goal.returns
returns c =
    let body = c.args.body.now in
    let rep = λ (g : ℕ). c.args.functions + before c.args.repeated.now g in
    let P : List TypedStmt → Type 0 =
    λ all.
    let end = statements_size c.args.maker (typed_statements all) in
    c.in_ok-ops.ops
    ≡ statements_code (class_entries c.args.classes.now) rep c.len-params.result (c.len-params.result + c.len-locals.result) c.args.maker (typed_statements all) 0 end end end
    ++ bare_code c.args.maker (c.len-params.result + c.len-locals.result)
    in
    routine_made (class_entries c.args.classes.now) rep c.args.maker (typed_routine body) c.len-params.result c.len-locals.result c.pending_words-operands.result
    c.outgoing_words-outgoing.result c.in_ok-ops.ops
    (c.len-params.ensures ∙ sym (locals_are body.params))
    (c.len-locals.ensures ∙ sym (locals_are body.locals))
    c.pending_words-operands.ensures
    c.outgoing_words-outgoing.ensures
    (subst P c.as_slice.ensures c.in_ok-ops.ensures)
