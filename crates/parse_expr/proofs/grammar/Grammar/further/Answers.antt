use Rattle.std.proofs.Common.{◌≡◌, ap, sym, ◌∙◌, subst}
use Rattle.sts_syntax.specs.Trees.{Tree}
use Rattle.sts_syntax.specs.Views.{tree}
use Rattle.sts_grammar.specs.Found.{Found}
use Rattle.sts_grammar.specs.Operators.{infix_number, assignment}
use Rattle.sts_grammar.specs.ReadExpressions.{read_further, read_operator}
use Rattle.parse_expr.specs.Gives.{source, nested, Gives, read_of}
use Rattle.parse_expr.proofs.Turns.{further_operator}
use Rattle.parse_expr.proofs.grammar.Grammar.further.Goals as goal

pub returns-in_default : goal.returns-in_default
returns-in_default g c =
    let s = source c.args.self.now.reader in
    let readers = nested c.args.self.now.reader c.args.self.now.room in
    let at = c.args.place in
    let e = tree c.args.e.item in
    let i = c.args.e.end in
    let d = c.in_default in
    let same : read_operator readers at e i c.infix_number.result c.assignment.result c.bump_by.result ≡ read_further s readers at e i c.args.mark =
    ap (λ x. read_operator readers at e i x c.assignment.result c.bump_by.result) c.infix_number.ensures
    ∙ ap (λ x. read_operator readers at e i (infix_number c.args.mark) x c.bump_by.result) c.assignment.ensures
    ∙ ap (λ x. read_operator readers at e i (infix_number c.args.mark) (assignment c.args.mark) x) c.bump_by.ensures
    ∙ sym (further_operator s readers at e i c.args.mark d.not-Dot d.not-OpenBracket d.not-OpenParenthesis d.not-Question d.not-BarBar d.not-AmpersandAmpersand) in
    record {
      reads = subst (λ (x : Found Tree). Gives (read_of tree) c.operated.result x) same c.operated.ensures.reads;
      nesting = c.operated.ensures.nesting;
      fits = c.operated.ensures.fits;
    }
