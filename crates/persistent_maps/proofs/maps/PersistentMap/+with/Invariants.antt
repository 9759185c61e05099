use Rattle.persistent_maps.proofs.maps.PersistentMap.+with.Given as goal

abbrev pub decreases-with : goal.decreases-with
decreases-with l = l.x
