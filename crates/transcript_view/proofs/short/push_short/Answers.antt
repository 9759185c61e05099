use Rattle.std.proofs.Common.{◌∙◌, ◌-◌, ◌++◌, ◌∷◌, [], sym, ap, get_or, take, drop, arith}
use Rattle.view_forms.specs.Parts.{lines_in, line_lead}
use Rattle.view_forms.specs.Rows.{text_of_rows}
use Rattle.view_forms.specs.Short.{left_out}
use Rattle.transcript_view.proofs.Fewer.{short-parts, short-cut}
use Rattle.transcript_view.proofs.short.push_short.Goals as goal

pub returns : goal.returns
returns c =
    let out = c.args.out.now.items in
    let L = lines_in c.args.text.now in
    let count = c.args.count in
    let end = take 10 (drop (count - 20) (drop 10 L)) in
    let row = left_out (line_lead (get_or L 0 [])) (count - 20) in
    let last = ap (take 10) (c.without_lines.ensures ∙ ap (drop (count - 20)) c.in_ok-middle.ensures.rest) in
    let told = ap (λ t. left_out t (count - 20)) (c.lead.ensures ∙ ap (λ t. line_lead (get_or t 0 [])) (sym c.first_line.ensures.parts)) in
    short-parts out c.push_lines-2.new.out.items c.push_left_out.new.out.items c.push_lines-3.new.out.items (take 10 L) end row c.in_ok-middle.ensures.rows
    (c.in_ok-push_left_out.ensures ∙ ap (λ t. c.push_lines-2.new.out.items ++ (t ++ 10 ∷ [])) told) (c.in_ok-push_lines-2.ensures.rows ∙ ap (λ t. c.push_left_out.new.out.items ++ text_of_rows t) last)
    ∙ ap (λ t. out ++ text_of_rows t) (sym (short-cut count L (omega (arith, c.if-count-le40.false)) c.requires.has))
