use Rattle.std.proofs.Common.{◌≡◌, ◌++◌, drop}
use Rattle.std.specs.List.{enumerate_from, filter, fold}
use Rattle.image_link.specs.Image.{text_bytes, is_named}
use Rattle.image_link.specs.inner.{padded}
use Rattle.image_link.proofs.writing.put_texts.Given as goal

-- what is put, and what is left to put, is the whole
abbrev pub invariant-loop-index : goal.invariant-loop-index
invariant-loop-index l =
    fold (λ bytes p. padded bytes ++ text_bytes p.1) l.image.items (filter (λ p. is_named l.laid p.0) (enumerate_from l.index (drop l.index l.texts)))
    ≡ fold (λ bytes p. padded bytes ++ text_bytes p.1) l.initial.image.items (filter (λ p. is_named l.laid p.0) (enumerate_from 0 l.texts))
