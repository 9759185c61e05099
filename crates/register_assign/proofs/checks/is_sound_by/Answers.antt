use Rattle.std.proofs.Common.{sym, ◌∙◌}
use Rattle.std.proofs.lemmas.Bool.{both_ways}
use Rattle.register_assign.specs.Marks.{is_marked}
use Rattle.register_assign.proofs.Checking.{kept_sound}
use Rattle.register_assign.proofs.checks.is_sound_by.Goals as goal

pub returns-then-u-function : goal.returns-then-u-function
returns-then-u-function c =
    kept_sound c.is_kept.result c.as_slice-ops.result.now c.args.function.now c.args.places.now c.args.u c.as_slice-ops.ensures c.is_kept.ensures (λ l. c.if-u-function.true)

pub returns : goal.returns
returns c =
    kept_sound c.is_kept-2.result c.as_slice-ops.result.now c.args.function.now c.args.places.now c.args.u c.as_slice-ops.ensures c.is_kept-2.ensures
    (λ l. absurd (both_ways (is_marked c.args.marks.now 0) (sym c.is_marked.ensures ∙ c.if-is_marked.false) (c.requires.marks.all 0 l)))
