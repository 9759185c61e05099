use Rattle.std.proofs.Common.{◌≡◌, ◌++◌, drop}
use Rattle.std.specs.List.{enumerate_from, fold}
use Rattle.image_link.specs.inner.{padded, as_addresses, filled}
use Rattle.image_link.proofs.writing.put_code.Given as goal

-- what is put, and what is left to put, is the whole
abbrev pub invariant-loop-index : goal.invariant-loop-index
invariant-loop-index l =
    let a = as_addresses l.addresses in
    fold (λ bytes p. padded bytes ++ filled a (a.function p.0) p.1.fixes p.1.bytes) l.image.items (enumerate_from l.index (drop l.index l.laid))
    ≡ fold (λ bytes p. padded bytes ++ filled a (a.function p.0) p.1.fixes p.1.bytes) l.initial.image.items (enumerate_from 0 l.laid)
