use Rattle.std.proofs.Common.{◌<◌, length, arith, ap, ◌∙◌}
use Rattle.text_headings.proofs.SeenNames.{seen_step, found_step}
use Rattle.text_headings.proofs.names.check_names.Goals as goal

pub loop-d-preserved : goal.loop-d-preserved
loop-d-preserved c =
    let es = c.as_slice-entries.result.now in
    let lt : c.loop-d.d < length es = omega (arith, ap length (c.as_slice-entries.ensures ∙ c.entries.ensures), c.library-d-end.ensures) in
    record { seen = seen_step c.loop-d.seen.values.items c.note.new.seen.values.items es c.loop-d.d c.index-entries-d.result lt c.index-entries-d.is c.loop-d.invariant.seen c.in_ok-note.ensures.ok }

pub loop-d-2-preserved : goal.loop-d-2-preserved
loop-d-2-preserved c =
    let es = c.as_slice-entries.result.now in
    let lt : c.loop-d-2.d < length es = omega arith in
    let e = c.index-entries-d-in-loop-d-2.result in
    record {
      seen = seen_step c.loop-d-2.seen.values.items c.note-in-loop-d-2.new.seen.values.items es c.loop-d-2.d c.index-entries-d-in-loop-d-2-2.result lt c.index-entries-d-in-loop-d-2-2.is c.loop-d-2.invariant.seen c.in_ok-note-2.ensures.ok;
      found = found_step c.args.tables.now.names c.loop-d-2.seen.values.items es c.loop-d-2.d e _ lt c.index-entries-d-in-loop-d-2.is c.loop-d-2.invariant.seen c.in_ok-check_name.ensures c.loop-d-2.invariant.found;
    }
