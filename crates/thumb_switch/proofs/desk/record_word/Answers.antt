use Rattle.thumb_switch.proofs.StackWords.{all_merged}
use Rattle.thumb_switch.proofs.desk.record_word.Goals as goal

pub returns-then-bytes-eq4 : goal.returns-then-bytes-eq4
returns-then-bytes-eq4 c = all_merged c.args.address c.args.bytes c.args.word _ c.if-bytes-eq4.true
