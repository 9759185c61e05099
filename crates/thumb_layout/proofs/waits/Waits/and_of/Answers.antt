use Rattle.std.proofs.Common.{◌+◌, ◌++◌, arith, sym, ap, subst, inl, inr}
use Rattle.std.proofs.lemmas.Grind.{common_steps}
use Rattle.thumb_layout.specs.Cells.{entries}
use Rattle.thumb_layout.specs.Placing.{Counts}
use Rattle.thumb_layout.proofs.Counting.{one_load, counts_more}
use Rattle.thumb_layout.proofs.waits.Waits.and_of.Goals as goal

pub returns-else-self-eq0-clause-counts : goal.returns-else-self-eq0-clause-counts
returns-else-self-eq0-clause-counts c = λ waits h.
    elim (one_load c.args.piece.now c.args.at) [
      | inl e ↦ (let k = c.entry.ensures c.args.at in let z = ap entries e in absurd (grind (arith, common_steps)))
      | inr p ↦ subst (λ ls. Counts (record { count = c.args.self.count + 1; latest_end = c.min.result }) (waits ++ ls)) (sym p.1)
          (counts_more c.args.self.count c.args.self.latest_end c.min.result waits p.0 (omega arith) h (let z = p.2 in omega arith))
    ]
