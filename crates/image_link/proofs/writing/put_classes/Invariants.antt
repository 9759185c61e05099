use Rattle.std.proofs.Common.{◌≡◌, ◌++◌, drop}
use Rattle.std.specs.List.{fold}
use Rattle.image_link.specs.Image.{class_table}
use Rattle.image_link.specs.inner.{padded, as_addresses}
use Rattle.image_link.proofs.writing.put_classes.Given as goal

-- what is put, and what is left to put, is the whole
abbrev pub invariant-loop-class : goal.invariant-loop-class
invariant-loop-class l =
    let a = as_addresses l.addresses in
    fold (λ bytes c. padded bytes ++ class_table a c) l.image.items (drop l.class-index l.classes) ≡ fold (λ bytes c. padded bytes ++ class_table a c) l.initial.image.items l.classes
