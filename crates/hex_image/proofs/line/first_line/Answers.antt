use Rattle.std.proofs.Common.{◌+◌, sym, ◌∙◌}
use Rattle.std.proofs.lemmas.List.{take_rest}
use Rattle.hex_image.proofs.LineLemmas.{lines-fed, lines-whole}
use Rattle.hex_image.proofs.line.first_line.Goals as goal

pub returns-in-Some-clause-line : goal.returns-in-Some-clause-line
returns-in-Some-clause-line c =
    let text = c.args.text.now in
    let fed = lines-fed text c.in-Some.at (sym c.first_line_feed.ensures ∙ c.in-Some.is) in
    rw (take_rest text (c.in-Some.at + 1), c.without_return.ensures) fed

pub returns-in-None-clause-line : goal.returns-in-None-clause-line
returns-in-None-clause-line c =
    lines-whole c.args.text.now (sym c.first_line_feed.ensures ∙ c.in-None.is) c.requires
