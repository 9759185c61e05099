use Rattle.std.specs.Iterator.Adapters.{zip_first, zip_second}
use Rattle.std.specs.Vec.Iter.{into_iter_items}
use Rattle.class_radio.proofs.Making.{Halfway}
use Rattle.class_radio.proofs.mounting.mount_all.Given as goal

abbrev pub invariant-loop-image : goal.invariant-loop-image
invariant-loop-image l = record {
  next : (goal.iterator-loop-image).can_next l.image-iterator;
  finite : (goal.iterator-loop-image).is_finite l.image-iterator;
  half : Halfway l.budget l.fn.images.items l.fn.scripts.items l.players.items (into_iter_items (zip_first l.image-iterator)) (into_iter_items (zip_second l.image-iterator));
}
