use Rattle.hex_image.proofs.TextLemmas.{record_line-parts}
use Rattle.hex_image.proofs.writing.put_record.Goals as goal

pub returns : goal.returns
returns c =
    rw (c.in_ok-push-2.ensures.items, c.in_ok-put_bytes.ensures.text, c.in_ok-sum-2.ensures.text, c.in_ok-sum.ensures.text, c.in_ok-push.ensures.items, c.from.ensures)
    (record_line-parts c.args.out.now.items c.args.payload.now c.args.kind c.args.offset c.in_ok-sum.sum c.in_ok-sum-2.sum c.in_ok-sum.ensures.sum c.in_ok-sum-2.ensures.sum)
