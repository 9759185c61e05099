use Rattle.std.proofs.Common.{◌≡◌, ◌++◌, sym, ap, subst, arith}
use Rattle.std.specs.Prelude.{OnOk}
use Rattle.sts_syntax.specs.TypedTrees.{TypedStatement}
use Rattle.sts_syntax.specs.Weights.{statement_weight}
use Rattle.sts_syntax.proofs.Laws.{block_is}
use Rattle.sts_lower.specs.Repeated.{repeated_in}
use Rattle.sts_lower.proofs.repeats.+statement_repeats.Goals as goal

pub note_statement-note_statements-requires : goal.note_statement-note_statements-requires
note_statement-note_statements-requires t c = omega (arith, ap statement_weight (block_is c.args.s.now c.in-Block.all c.in-Block.is), c.decreases)

pub note_statement-returns-in-Block : goal.note_statement-returns-in-Block
note_statement-returns-in-Block t c =
    let P : TypedStatement → Type 0 = λ a. OnOk c.note_statements.result (c.note_statements.new.found ≡ c.args.found.now ++ repeated_in a) in
    subst P (sym (block_is c.args.s.now c.in-Block.all c.in-Block.is)) c.note_statements.ensures
