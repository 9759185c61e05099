use Rattle.std.proofs.Common.{◌-◌, length, take, drop, arith}
use Rattle.std.proofs.lemmas.List.{take_rest}
use Rattle.transcript_view.proofs.Seen.{added}
use Rattle.transcript_view.proofs.shown.push_first.Goals as goal

pub returns-clause-shown : goal.returns-clause-shown
returns-clause-shown c =
    added c.args.out.now.items c.extend_from_slice.new.self.items c.args.text.now (take (length c.args.text.now - c.seen_size-size.result) (drop c.seen_size-size.result c.args.text.now)) c.seen_size-size.result
    c.seen_size-size.ensures.value (omega (arith, c.if-size-eq0.false)) c.requires c.seen_size-size.ensures.bound c.in_ok-extend_from_slice.ensures.items (take_rest c.args.text.now c.seen_size-size.result)
