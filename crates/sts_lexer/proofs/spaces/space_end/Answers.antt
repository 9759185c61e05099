use Rattle.std.proofs.Common.{sym, ◌∙◌, inl, inr}
use Rattle.sts_lexer.proofs.Gaps.{line_comment}
use Rattle.sts_lexer.proofs.spaces.space_end.Goals as goal

pub returns-in-47-eq47-clause-some : goal.returns-in-47-eq47-clause-some
returns-in-47-eq47-clause-some c =
    let run = c.run_end.ensures in
    inr (inl (line_comment c.args.text.now c.args.at c.run_end.result c.in-47-eq47.is-0 (sym c.byte_at.ensures ∙ c.in-47-eq47.is-1) run.after run.within run.each run.ends))
