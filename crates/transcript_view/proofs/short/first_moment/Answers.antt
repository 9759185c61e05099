use Rattle.std.proofs.Common.{◌∙◌, sym, ap, take, arith}
use Rattle.view_forms.specs.Parts.{lines_in}
use Rattle.view_forms.specs.Short.{is_same_moment, moments_from}
use Rattle.transcript_view.proofs.Fewer.{next-rest, next-taken, next-within, first-of, goes-on}
use Rattle.transcript_view.proofs.short.first_moment.Goals as goal

pub loop-first-preserved : goal.loop-first-preserved
loop-first-preserved c =
    let k = c.loop-first.count in
    let L = lines_in c.args.text.now in
    let line = c.first_line-in-loop-first.result.0.now in
    let rest = lines_in c.first_line-in-loop-first.result.1.now in
    let here = sym c.loop-first.invariant.rest ∙ c.first_line-in-loop-first.ensures.parts in
    let front = first-of L k c.loop-first.invariant.some ∙ c.loop-first.invariant.first in
    record {
      moment = c.loop-first.invariant.moment ∙ ap (moments_from (take k L)) c.first_line-in-loop-first.ensures.parts
          ∙ goes-on (take k L) line rest (ap (λ t. is_same_moment t line) front ∙ sym c.is_same_moment.ensures ∙ c.if-not-is_same_moment.false) ∙ ap (λ t. moments_from t rest) (sym (next-taken k L line rest here));
      rest = next-rest k L line rest here;
      within = omega (arith, next-within k L line rest here);
      first = c.loop-first.invariant.first;
      some = omega arith;
      small = omega (arith, c.loop-first.invariant.small, c.first_line-in-loop-first.ensures.less);
    }
