use Rattle.std.proofs.Common.{arith, sym, ◌∙◌, inl, inr, refl}
use Rattle.around_place.proofs.Located.{IsLatest, latest-first, latest-same, latest-begins, latest-stays, there-place, none-first, none-more}
use Rattle.around_place.proofs.places.place_at.Goals as goal
use Rattle.around_place.proofs.places.place_at.Goals.{then-begins_line, else-begins_line}

pub returns-then-is_there-clause-found : goal.returns-then-is_there-clause-found
returns-then-is_there-clause-found c = inl (omega arith, there-place c.args.text.now 1 0 0 c.args.line c.args.column (latest-first c.args.text.now) c.if-is_there.ensures)

pub loop-at-init : goal.loop-at-init
loop-at-init c = record { latest = latest-first c.args.text.now; none = none-first c.args.text.now c.args.line c.args.column c.if-is_there.ensures }

pub returns-then-is_there-2-clause-found : goal.returns-then-is_there-2-clause-found
returns-then-is_there-2-clause-found c =
    let latest : IsLatest c.args.text.now c.if-begins_line.lines c.if-begins_line.start c.loop-at.at = elim c.if-begins_line.branch [
      | then-begins_line w ↦ latest-begins _ _ _ _ _ _ c.loop-at.invariant.latest (omega arith) (sym c.begins_line.ensures ∙ w.if-begins_line.true) w.lines-is w.start-is
      | else-begins_line w ↦ latest-stays _ _ _ _ _ _ c.loop-at.invariant.latest (omega arith) (sym c.begins_line.ensures ∙ w.if-begins_line.false) w.lines-is w.start-is
    ] in
    inl (omega arith, there-place c.args.text.now c.if-begins_line.lines c.if-begins_line.start c.loop-at.at c.args.line c.args.column latest c.if-is_there-2.ensures)

pub loop-at-preserved : goal.loop-at-preserved
loop-at-preserved c =
    let latest : IsLatest c.args.text.now c.if-begins_line.lines c.if-begins_line.start c.loop-at.at = elim c.if-begins_line.branch [
      | then-begins_line w ↦ latest-begins _ _ _ _ _ _ c.loop-at.invariant.latest (omega arith) (sym c.begins_line.ensures ∙ w.if-begins_line.true) w.lines-is w.start-is
      | else-begins_line w ↦ latest-stays _ _ _ _ _ _ c.loop-at.invariant.latest (omega arith) (sym c.begins_line.ensures ∙ w.if-begins_line.false) w.lines-is w.start-is
    ] in
    record {
      latest = latest-same c.args.text.now c.if-begins_line.lines c.if-begins_line.start c.loop-at.at _ latest (omega arith);
      none = none-more c.args.text.now c.if-begins_line.lines c.if-begins_line.start c.loop-at.at c.args.line c.args.column c.loop-at.invariant.none latest c.if-is_there-2.ensures;
    }

pub returns-clause-found : goal.returns-clause-found
returns-clause-found c = inr (refl, λ other within place. c.loop-at.invariant.none other (omega (arith, within, c.loop-at-test.false)) place)
