use Rattle.std.proofs.Common.{rules, ◌≡◌, ◌+◌, length, ◌∙◌}
use Rattle.tool_folder.proofs.BoundedReads.{too-long-shown, reads-then, gathers-then, gathered-length, same-length}
use Rattle.tool_folder.proofs.reading.read_up_to.Goals as goal

pub returns-then-len-limit-clause-content : goal.returns-then-len-limit-clause-content
returns-then-len-limit-clause-content g c =
    too-long-shown (g.F.Read.remaining c.args.file.now) (g.F.Read.remaining c.reading.file) c.reading.whole.items c.args.limit (search rules) c.reading.invariant.2

pub returns-in_err-read_more-clause-read : goal.returns-in_err-read_more-clause-read
returns-in_err-read_more-clause-read g c =
    reads-then (g.F.Read.remaining c.args.file.now) (g.F.Read.remaining c.reading.file) (g.F.Read.remaining c.read_more.new.file) c.reading.whole.items _ (c.args.limit + 1) (search rules)
    c.reading.invariant.2 c.read_more.ensures.read

pub returns-then-branch-eq0-clause-read : goal.returns-then-branch-eq0-clause-read
returns-then-branch-eq0-clause-read g c =
    reads-then (g.F.Read.remaining c.args.file.now) (g.F.Read.remaining c.reading.file) (g.F.Read.remaining c.read_more.new.file) c.reading.whole.items _ (c.args.limit + 1) (search rules)
    c.reading.invariant.2 c.read_more.ensures.read

pub reading-preserved : goal.reading-preserved
reading-preserved g c =
    let more : length c.read_more.new.whole.items ≡ length c.reading.whole.items + c.in_ok-read_more.field-0 =
    gathered-length (g.F.Read.remaining c.reading.file) (g.F.Read.remaining c.read_more.new.file) c.reading.whole.items c.read_more.new.whole.items c.in_ok-read_more.field-0
    c.in_ok-read_more.ensures.gathered in (
      same-length c.reading.piece c.read_more.new.piece c.min-room.result (search rules) c.read_more.ensures.within ∙ c.reading.invariant.0,
      search rules,
      gathers-then (g.F.Read.remaining c.args.file.now) (g.F.Read.remaining c.reading.file) (g.F.Read.remaining c.read_more.new.file) c.reading.whole.items c.read_more.new.whole.items
          c.in_ok-read_more.field-0 c.reading.invariant.2 c.in_ok-read_more.ensures.gathered,
    )
