use Rattle.std.proofs.Common.{◌≡◌, ◌+◌, ◌%◌, ◌++◌, take, sum}
use Rattle.hex.specs.Hex.{encode_upper}
use Rattle.hex_image.proofs.writing.put_bytes.Given as goal

abbrev pub invariant-loop-byte : goal.invariant-loop-byte
invariant-loop-byte l = record {
  text : l.out.items ≡ l.fn.out.items ++ encode_upper (take l.byte-index l.bytes);
  sum : l.sum ≡ (l.before + sum (take l.byte-index l.bytes)) % 256;
}
