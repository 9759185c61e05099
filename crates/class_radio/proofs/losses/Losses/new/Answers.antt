use Rattle.std.proofs.Common.{subst}
use Rattle.class_radio.specs.Index.{HasKeys}
use Rattle.class_radio.proofs.Indexing.{sorted_keys}
use Rattle.class_radio.proofs.losses.Losses.new.Goals as goal

pub invariant_of-result : goal.invariant_of-result
invariant_of-result c =
    (let has : HasKeys c.args.list c.in_ok-keys.keys.items = subst (λ l. HasKeys l c.in_ok-keys.keys.items) c.as_slice.ensures c.in_ok-keys.ensures in
    sorted_keys c.args.list c.in_ok-keys.keys.items c.sort_unstable.new.self.items has c.sort_unstable.ensures.permutation c.sort_unstable.ensures.sorted)
