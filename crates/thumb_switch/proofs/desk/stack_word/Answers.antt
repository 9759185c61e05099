use Rattle.std.proofs.Common.{◌≡◌, ◌∙◌, ap, sym, Some}
use Rattle.thumb_code.specs.Map.{stack_at, word_in}
use Rattle.thumb_switch.specs.Space.{merged_in}
use Rattle.thumb_switch.proofs.StackWords.{stack_word, all_merged}
use Rattle.thumb_switch.proofs.desk.stack_word.Goals as goal

pub returns-then-bytes-eq4 : goal.returns-then-bytes-eq4
returns-then-bytes-eq4 c = all_merged c.args.address c.args.bytes c.args.word _ c.if-bytes-eq4.true

pub returns : goal.returns
returns c =
    let m = c.args.machine.now in
    let at = c.args.address in
    let x = word_in m.memory.stack stack_at at in
    let some : Some c.in-Some.old ≡ Some x = sym c.in-Some.is ∙ (c.word.ensures ∙ stack_word m.memory at c.requires.low c.requires.high) in
    let old : c.in-Some.old ≡ x = cc in
    c.merged.ensures ∙ ap (merged_in (record { at = at; bytes = c.args.bytes }) c.args.word) old
