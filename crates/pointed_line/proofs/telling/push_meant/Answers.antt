use Rattle.std.proofs.Common.{append_assoc}
use Rattle.pointed_line.proofs.telling.push_meant.Goals as goal

pub returns : goal.returns
returns c =
    rw (c.in_ok-push_str-4.ensures.bytes, c.in_ok-push_bytes-2.ensures, c.in_ok-push_str-3.ensures.bytes, c.in_ok-push_str-2.ensures.bytes, c.in_ok-push_bytes.ensures, c.in_ok-push_str.ensures.bytes)
    (simp append_assoc)
