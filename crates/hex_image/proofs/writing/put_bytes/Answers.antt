use Rattle.std.proofs.Common.{arith}
use Rattle.std.proofs.lemmas.List.Sums.{sum_by_more}
use Rattle.std.proofs.lemmas.List.{append-nil}
use Rattle.hex.specs.Hex.{encode_with}
use Rattle.hex_image.proofs.TextLemmas.{encode_upper-more}
use Rattle.hex_image.proofs.writing.put_bytes.Goals as goal

pub loop-byte-init : goal.loop-byte-init
unfolding encode_with
loop-byte-init c = record { text = rw append-nil; sum = omega arith }

pub loop-byte-preserved : goal.loop-byte-preserved
loop-byte-preserved c = record {
  text = rw (c.in_ok-push-2.ensures.items, c.in_ok-push.ensures.items, c.from.ensures, c.from-in-loop-byte.ensures, c.loop-byte.invariant.text)
      (encode_upper-more c.args.out.now.items c.args.bytes.now c.loop-byte.byte-index c.loop-byte-test.true);
  sum =
      let more = sum_by_more (λ x. x) c.args.bytes.now c.loop-byte.byte-index 0 c.loop-byte-test.true in
      omega (arith, more);
}
